-- Laws of finite sums.
use Rattle.std.proofs.Common.{◌≡◌, ℕ, zero, suc, ◌+◌, ◌*◌, ◌%◌, ◌<◌, map, refl, ap, ap₂, ◌∙◌, add-one, arith}
use Rattle.std.specs.List.{sum, range_with_len}
use Rattle.std.proofs.lemmas.List.FromFn.{sum_by-map-range_with_len_more}
use Rattle.scales.specs.Tallies.{sum_below}
use Rattle.scales.proofs.Modulo.{add_congruent}

pub sum_same : (n : ℕ) (f g : ℕ → ℕ) → ((k : ℕ) → k < n → f k ≡ g k) → sum_below n f ≡ sum_below n g
unfolding sum_below
sum_same zero f g same = refl
sum_same (suc n) f g same = ap₂ ◌+◌ (sum_same n f g (λ k h. same k (omega arith))) (same n (omega arith))

pub sum_congruent : (m n : ℕ) (f g : ℕ → ℕ) → ((k : ℕ) → k < n → f k % m ≡ g k % m) → sum_below n f % m ≡ sum_below n g % m
unfolding sum_below
sum_congruent m zero f g same = refl
sum_congruent m (suc n) f g same = add_congruent _ _ _ _ m (sum_congruent m n f g (λ k h. same k (omega arith))) (same n (omega arith))

pub sum_plus : (n : ℕ) (f g : ℕ → ℕ) → sum_below n (λ k. f k + g k) ≡ sum_below n f + sum_below n g
unfolding sum_below
sum_plus zero f g = refl
sum_plus (suc n) f g = omega (arith, sum_plus n f g)

pub sum_times : (n : ℕ) (f : ℕ → ℕ) (c : ℕ) → sum_below n f * c ≡ sum_below n (λ k. f k * c)
unfolding sum_below
sum_times zero f c = omega arith
sum_times (suc n) f c = omega (arith, sum_times n f c)

pub times_sum : (n : ℕ) (f : ℕ → ℕ) (c : ℕ) → c * sum_below n f ≡ sum_below n (λ k. c * f k)
unfolding sum_below
times_sum zero f c = omega arith
times_sum (suc n) f c = omega (arith, times_sum n f c)

pub sum_of_zeros : (n : ℕ) (f : ℕ → ℕ) → ((k : ℕ) → k < n → f k ≡ 0) → sum_below n f ≡ 0
unfolding sum_below
sum_of_zeros zero f none = refl
sum_of_zeros (suc n) f none = omega (arith, sum_of_zeros n f (λ k h. none k (omega arith)), none n (omega arith))

-- The first term apart.
pub sum_first : (n : ℕ) (f : ℕ → ℕ) → sum_below (suc n) f ≡ f 0 + sum_below n (λ k. f (suc k))
unfolding sum_below
sum_first zero f = omega arith
sum_first (suc n) f = omega (arith, sum_first n f)

-- The terms as a list.
pub sum_listed : (n : ℕ) (f : ℕ → ℕ) → sum (map f (range_with_len 0 n)) ≡ sum_below n f
unfolding sum_below
sum_listed zero f = refl
sum_listed (suc n) f =
    let more : sum (map f (range_with_len 0 (n + 1))) ≡ sum (map f (range_with_len 0 n)) + f n = sum_by-map-range_with_len_more (λ x. x) f 0 n n (omega arith) in
    rw add-one at more ∙ ap (λ x. x + f n) (sum_listed n f)
