-- The chain after one more part, and after one more pass.
use mathlib.Core.Path.{◌≡◌, refl}
use mathlib.Core.List.{List, [], ◌∷◌, ◌++◌}
use Prim.Native.Nat.{ℕ}
use Rattle.rules.specs.Automaton.{Automaton}
use Rattle.scales.specs.declared.scale.Scale.{Ghosts as ScaleMeaning}
use Rattle.sums.specs.Chain.{good_with, bad_with, good_from, bad_from, after_pass, closing_from}

module _ {V A : Type 0} (scale : ScaleMeaning V) (up down : A → V) where
  pub good_more : (ps : List A) (g : V) (p : A)
      → good_from scale up down g (ps ++ p ∷ []) ≡ good_with scale up down (good_from scale up down g ps) p
  good_more [] g p = refl
  good_more (q ∷ qs) g p = good_more qs (good_with scale up down g q) p

  pub bad_more : (ps : List A) (g b : V) (p : A)
      → bad_from scale up down g b (ps ++ p ∷ [])
      ≡ bad_with scale up down (good_from scale up down g ps) (bad_from scale up down g b ps) p
  bad_more [] g b p = refl
  bad_more (q ∷ qs) g b p = bad_more qs (good_with scale up down g q) (bad_with scale up down g b q) p

  pub closing_more : (rule : Automaton) (total : ℕ → V) (ps : List (List A)) (p : List A)
      → closing_from scale rule up down total (ps ++ p ∷ [])
      ≡ after_pass scale rule up down p (closing_from scale rule up down total ps)
  closing_more rule total [] p = refl
  closing_more rule total (q ∷ qs) p = closing_more rule (after_pass scale rule up down q total) qs p
