-- Lists that differ from another in some places.
use Rattle.std.specs.Prelude.{ℕ, zero, suc, ◌+◌, List, [], ◌∷◌, ◌++◌, length, take, drop}

-- The list with `g` applied to what stands at the place `k`, if there is such a place.
abbrev pub changed_at : {X : Type 0} → ℕ → (X → X) → List X → List X
changed_at k g [] = []
changed_at zero g (x ∷ xs) = g x ∷ xs
changed_at (suc k) g (x ∷ xs) = x ∷ changed_at k g xs

-- The list xs with ys written over it from the place `at` on.
abbrev pub laid : {X : Type 0} → List X → ℕ → List X → List X
laid xs at ys = take at xs ++ (ys ++ drop (at + length ys) xs)
