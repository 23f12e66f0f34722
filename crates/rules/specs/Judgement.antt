-- The judgement of an automaton on a list of outcomes.
use Rattle.std.specs.Prelude.{ℕ, Bool, List, [], ◌∷◌}
use Rattle.rules.specs.declared.verdict.Verdict.{Verdict}
use Rattle.rules.specs.Automaton.{Automaton}

module _ (rule : Automaton) where
  -- The state reached from a state by one step for each outcome, first to last.
  abbrev pub reached : ℕ → List Bool → ℕ
  reached state [] = state
  reached state (made ∷ more) = reached (rule.step state made) more

  -- The verdict on the state reached from the first state.
  abbrev pub judgement : List Bool → Verdict
  judgement outcomes = rule.verdict (reached rule.first outcomes)
