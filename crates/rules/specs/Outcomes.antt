-- Runs of missed passes in a list of outcomes, true for made: as relations to read, and as tests to compute.
use Rattle.std.specs.Prelude.{◌≡◌, ℕ, zero, suc, ◌+◌, ◌<◌, ◌≤◌, Bool, true, false, not, ◌&&◌, ◌||◌, List, length, nat_le, slice_index_or}

-- The pass at position i is missed; past the end none is.
abbrev pub Missed : List Bool → ℕ → Type 0
Missed outcomes i = slice_index_or outcomes i true ≡ false

-- Some k consecutive passes are missed: for some i, those at positions i to i + k - 1.
abbrev pub SomeRun : ℕ → List Bool → Type 0
SomeRun k outcomes = (i : ℕ) × (i + k ≤ length outcomes) × ((d : ℕ) → d < k → Missed outcomes (i + d))

-- The test holds of some number below n.
abbrev pub some_below : ℕ → (ℕ → Bool) → Bool
some_below zero test = false
some_below (suc n) test = test n || some_below n test

-- The test holds of every number below n.
abbrev pub every_below : ℕ → (ℕ → Bool) → Bool
every_below zero test = true
every_below (suc n) test = test n && every_below n test

-- The test whether the pass at position i is missed.
abbrev pub missed : List Bool → ℕ → Bool
missed outcomes i = not (slice_index_or outcomes i true)

-- The test whether some k consecutive passes are missed.
abbrev pub some_run : ℕ → List Bool → Bool
some_run k outcomes =
    some_below (length outcomes + 1) (λ i. nat_le (i + k) (length outcomes) && every_below k (λ d. missed outcomes (i + d)))
