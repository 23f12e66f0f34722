-- How one list of parts is cut into passes by the list of their ends.
use Rattle.std.specs.Prelude.{ℕ, ◌+◌, ◌<◌, ◌≤◌, Bool, true, ◌&&◌, List, [], ◌∷◌, nat_le, nat_lt, slice_index_or, slice_range}
use Rattle.plans.specs.declared.part.Part.{Part}
use Rattle.plans.specs.Parts.{one}

-- The pieces of a list from the place s on, each up to its end.
abbrev pub cut : {X : Type 0} → ℕ → List ℕ → List X → List (List X)
cut s [] xs = []
cut s (e ∷ es) xs = slice_range xs s e ∷ cut e es xs

-- Whether each piece from the place s on has 1 to 8 places.
abbrev pub rising : ℕ → List ℕ → Bool
rising s [] = true
rising s (e ∷ es) = nat_lt s e && (nat_le e (s + 8) && rising e es)

-- Where the last piece from the place s on ends.
abbrev pub last_end : ℕ → List ℕ → ℕ
last_end s [] = s
last_end s (e ∷ es) = last_end e es

-- No forecast of the first n parts is above one.
abbrev pub AtMostOne : List Part → ℕ → Type 0
AtMostOne xs n = (k : ℕ) (d : Part) → k < n → (slice_index_or xs k d).forecast ≤ one
