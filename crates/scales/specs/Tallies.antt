-- Counts of patterns by how many parts they have down.
use Rattle.std.specs.Prelude.{◌≡◌, ℕ, zero, suc, ◌+◌, ◌-◌, ◌*◌, if◌then◌else◌, List, take, ◌==◌, slice_index}
use Rattle.scales.specs.declared.scale.Scale.{Ghosts as ScaleMeaning}
use Rattle.scales.specs.declared.weigher.Weigher.{Ghosts as WeigherMeaning}
use Rattle.scales.specs.declared.by_missed.ByMissed.{ByMissed}
use Rattle.scales.specs.declared.by_missed.tallying.Tallying.{Tallying}
use Rattle.scales.specs.Places.{places, places_whole, places_fit}

-- The count at a place, and 0 past the last.
abbrev pub place : ByMissed → ℕ → ℕ
place value i = slice_index value.counts i

-- The value with f i, modulo 2^64, at each place i.
abbrev pub tally : (ℕ → ℕ) → ByMissed
tally f = record { counts = places f; whole = places_whole f; fits = places_fit f }

-- 1 at one place, 0 elsewhere.
abbrev pub only : ℕ → ℕ → ℕ
only place i = if i == place then 1 else 0

-- f 0 + f 1 + .. + f (n - 1)
unfoldable pub sum_below : ℕ → (ℕ → ℕ) → ℕ
sum_below zero f = 0
sum_below (suc n) f = sum_below n f + f n

-- Place i of a product: the sum of all products of places that add up to i.
abbrev pub convolution : (ℕ → ℕ) → (ℕ → ℕ) → ℕ → ℕ
convolution a b i = sum_below (suc i) (λ j. a j * b (i - j))

-- Sums place by place; products of all places that add up to the place.
abbrev pub tallies : ScaleMeaning ByMissed
tallies = record {
  zero = tally (λ _. 0);
  one = tally (only 0);
  plus = λ a b. tally (λ i. place a i + place b i);
  times = λ a b. tally (convolution (place a) (place b));
}

-- A part is one pattern, with none down if it is up, with one down if it is down; at most 63 parts.
abbrev pub tallying : WeigherMeaning Tallying ByMissed
tallying = record { LIMIT = 63; up = λ _ _. tallies.one; down = λ _ _. tally (only 1) }

-- What times is for: a pattern with i parts down, and then one with j, is one with i + j.
abbrev pub PartsDownAdd : Type 0
PartsDownAdd = (i j : ℕ) → tallies.times (tally (only i)) (tally (only j)) ≡ tally (only (i + j))

-- The counts at the places 0 to n, as far as there are places.
abbrev pub up_to : ByMissed → ℕ → List ℕ
up_to value n = take (n + 1) value.counts
