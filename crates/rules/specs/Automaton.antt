-- One rule as the four functions that it means.
use Rattle.std.specs.Prelude.{ℕ, Bool}
use Rattle.rules.specs.declared.rule.Rule.{Ghosts as RuleMeaning}
use Rattle.rules.specs.declared.verdict.Verdict.{Verdict}

-- The number of states, the first state, the next state for a state and an outcome, and the verdict on a state.
pub record Automaton : Type 0 where
  pub states : ℕ
  pub first : ℕ
  pub step : ℕ → Bool → ℕ
  pub verdict : ℕ → Verdict

-- The automaton that a rule of some type is: a clause names the four functions of a rule at once by it.
abbrev pub automaton : {X : Type 0} → RuleMeaning X → X → Automaton
automaton meaning rule =
    record { states = meaning.states rule; first = meaning.first rule; step = meaning.step rule; verdict = meaning.verdict rule }
