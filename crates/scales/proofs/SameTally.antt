-- Values with the same counts at the places 0 to 63 are one value, and what a product takes from a tally is the function.
use Rattle.std.proofs.Common.{◌≡◌, ℕ, ◌+◌, ◌%◌, ◌^◌, ◌<◌, length, slice_index, sym, refl, ap, ◌∙◌, mod-eq_of_lt, arith}
use mathlib.Core.HLevel.{is_prop→PathP, Π_prop}
use native.Mathlib.Bridge.{le_prop}
use native.Mathlib.Nat.{ℕ_set, mod-mod}
use Rattle.std.proofs.lemmas.List.FromFn.{fill_by_all}
use Rattle.scales.specs.declared.by_missed.ByMissed.{ByMissed}
use Rattle.scales.specs.Places.{places, places_at}
use Rattle.scales.specs.Tallies.{place, tally, convolution}
use Rattle.scales.proofs.Convolving.{convolution_congruent}
use Rattle.scales.proofs.Modulo.{add_congruent}

same_list : (a b : ByMissed) → a.counts ≡ b.counts → a ≡ b
same_list a b e = λ i. record {
  counts = e i;
  whole = is_prop→PathP (λ j. length (e j) ≡ 64) (λ j. ℕ_set _ _) a.whole b.whole i;
  fits = is_prop→PathP (λ j. (k : ℕ) → slice_index (e j) k < 2 ^ 64) (λ j. Π_prop (λ k. le_prop)) a.fits b.fits i;
}

-- A value is the tally of what it has at each place.
pub is_tally : (a : ByMissed) (f : ℕ → ℕ) → ((i : ℕ) → i < 64 → place a i ≡ f i % 2 ^ 64) → a ≡ tally f
unfolding places
is_tally a f at = same_list a (tally f) (fill_by_all (λ i. f i % 2 ^ 64) a.counts 64 0 a.whole at)

-- Functions that agree modulo 2^64 below 64 have one tally.
pub same_tally : (f g : ℕ → ℕ) → ((i : ℕ) → i < 64 → f i % 2 ^ 64 ≡ g i % 2 ^ 64) → tally f ≡ tally g
same_tally f g same = is_tally (tally f) g (λ i h. places_at f i h ∙ same i h)

-- A tally of what a value has.
pub own_tally : (f : ℕ → ℕ) (a : ByMissed) → ((i : ℕ) → i < 64 → f i % 2 ^ 64 ≡ place a i % 2 ^ 64) → tally f ≡ a
own_tally f a same = sym (is_tally a f (λ i h. sym (same i h ∙ mod-eq_of_lt (a.fits i))))

-- A place of a tally, modulo 2^64.
pub tally_at : (f : ℕ → ℕ) (i : ℕ) → i < 64 → place (tally f) i % 2 ^ 64 ≡ f i % 2 ^ 64
tally_at f i h = ap (λ x. x % 2 ^ 64) (places_at f i h) ∙ mod-mod (f i) (2 ^ 64)

-- Two tallies added, modulo 2^64.
pub sum_of_tallies : (f g : ℕ → ℕ) (i : ℕ) → i < 64 → (place (tally f) i + place (tally g) i) % 2 ^ 64 ≡ (f i + g i) % 2 ^ 64
sum_of_tallies f g i h = add_congruent (place (tally f) i) (place (tally g) i) (f i) (g i) (2 ^ 64) (tally_at f i h) (tally_at g i h)

-- Factors may be taken as the functions that their places come from.
module _ (i : ℕ) (within : i < 64) where
  pub both_factors : (f g : ℕ → ℕ) → convolution (place (tally f)) (place (tally g)) i % 2 ^ 64 ≡ convolution f g i % 2 ^ 64
  both_factors f g = convolution_congruent (2 ^ 64) (place (tally f)) (place (tally g)) f g i (λ j l. tally_at f j (omega arith)) (λ j l. tally_at g j (omega arith))

  pub left_factor : (f : ℕ → ℕ) (b : ByMissed) → convolution (place (tally f)) (place b) i % 2 ^ 64 ≡ convolution f (place b) i % 2 ^ 64
  left_factor f b = convolution_congruent (2 ^ 64) (place (tally f)) (place b) f (place b) i (λ j l. tally_at f j (omega arith)) (λ j l. refl)

  pub right_factor : (a : ByMissed) (f : ℕ → ℕ) → convolution (place a) (place (tally f)) i % 2 ^ 64 ≡ convolution (place a) f i % 2 ^ 64
  right_factor a f = convolution_congruent (2 ^ 64) (place a) (place (tally f)) (place a) f i (λ j l. refl) (λ j l. tally_at f j (omega arith))
