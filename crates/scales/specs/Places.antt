-- Lists of 64 counts, modulo 2^64.
use Rattle.std.specs.Prelude.{◌≡◌, ℕ, ◌%◌, ◌^◌, ◌<◌, ◌≤◌, List, map, length, slice_index}
use Rattle.std.proofs.Common.{inl, inr, arith}
use Rattle.std.specs.List.{range_with_len}
use Rattle.std.proofs.lemmas.List.FromFn.{length-map-range_with_len, get_or-map-range_with_len}
use Rattle.std.proofs.lemmas.List.{get_or_past}
use Rattle.std.proofs.lemmas.Bool.{cases_lt}

-- What a function leaves at the places 0 to 63.
unfoldable pub places : (ℕ → ℕ) → List ℕ
places f = map (λ i. f i % 2 ^ 64) (range_with_len 0 64)

-- There are 64.
pub places_whole : (f : ℕ → ℕ) → length (places f) ≡ 64
unfolding places
places_whole f = length-map-range_with_len (λ i. f i % 2 ^ 64) 0 64

-- Each is what the function leaves there.
pub places_at : (f : ℕ → ℕ) (i : ℕ) → i < 64 → slice_index (places f) i ≡ f i % 2 ^ 64
unfolding places
places_at f i h = get_or-map-range_with_len (λ i. f i % 2 ^ 64) 0 64 i i 0 h (omega arith)

-- So each fits.
pub places_fit : (f : ℕ → ℕ) (i : ℕ) → slice_index (places f) i < 2 ^ 64
places_fit f i = elim (cases_lt i 64) [
  | inl h ↦ omega (arith, places_at f i h)
  | inr h ↦ (let past : length (places f) ≤ i = omega (arith, places_whole f) in omega (arith, get_or_past (places f) i 0 past))
]
