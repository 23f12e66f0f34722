-- What holds of the state that an automaton reaches.
use Rattle.std.proofs.Common.{ℕ, Bool, List, [], ◌∷◌, ◌++◌, append_assoc, append-nil}
use Rattle.rules.specs.Automaton.{Automaton}
use Rattle.rules.specs.Judgement.{reached}

-- What the first state says of no outcomes, and each step keeps, the state reached says of all.
module _ (rule : Automaton) (Says : List Bool → ℕ → Type 0)
    (steps : (os : List Bool) (s : ℕ) (x : Bool) → Says os s → Says (os ++ x ∷ []) (rule.step s x)) where
  said_after : (before os : List Bool) (s : ℕ) → Says before s → Says (before ++ os) (reached rule s os)
  said_after before [] s h = rw append-nil h
  said_after before (x ∷ os) s h = rw append_assoc at (said_after (before ++ x ∷ []) os (rule.step s x) (steps before s x h))

  pub said_of_reached : Says [] rule.first → (os : List Bool) → Says os (reached rule rule.first os)
  said_of_reached first os = said_after [] os rule.first first
