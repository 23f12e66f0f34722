-- Laws of the products of polynomials, given by their coefficients.
use Rattle.std.proofs.Common.{◌≡◌, ℕ, zero, suc, ◌+◌, ◌-◌, ◌*◌, ◌%◌, ◌<◌, ◌≤◌, cond, eqb, sym, refl, ap, ◌∙◌, ap₂, inl, inr, mul_assoc, add-mul, mul-zero, zero-mul, mul-add, arith}
use lib.Dec.{eqb-suc-zero}
use Rattle.std.proofs.lemmas.Bool.{cases_eq, cases_lt, cond-true, cond-false, eq-eqb, ne_eqb}
use Rattle.std.proofs.lemmas.Bool.Decides.{eqb_tells}
use Rattle.scales.specs.Tallies.{sum_below, convolution, only}
use Rattle.scales.proofs.SumsBelow.{sum_same, sum_congruent, sum_plus, times_sum, sum_times, sum_of_zeros, sum_first}
use Rattle.scales.proofs.Modulo.{mul_congruent}

sum_last : (n k : ℕ) (g : ℕ → ℕ) → k ≤ n → sum_below (suc n - k) g ≡ sum_below (n - k) g + g (n - k)
unfolding sum_below
sum_last n k g h =
    let e : suc n - k ≡ suc (n - k) = omega arith in
    ap (λ m. sum_below m g) e

row_last : (n k : ℕ) (f : ℕ → ℕ → ℕ) → k ≤ n
    → sum_below (suc n - k) (λ l. f k (k + l)) ≡ sum_below (n - k) (λ l. f k (k + l)) + f k n
row_last n k f h =
    let e : k + (n - k) ≡ n = omega arith in
    sum_last n k (λ l. f k (k + l)) h ∙ ap (λ m. sum_below (n - k) (λ l. f k (k + l)) + f k m) e

-- A triangle, summed by columns or by rows.
sum_triangle : (n : ℕ) (f : ℕ → ℕ → ℕ)
    → sum_below n (λ j. sum_below (suc j) (λ k. f k j)) ≡ sum_below n (λ k. sum_below (n - k) (λ l. f k (k + l)))
unfolding sum_below
sum_triangle zero f = refl
sum_triangle (suc n) f =
    let none : sum_below (n - n) (λ l. f n (n + l)) ≡ 0 = (let z : n - n ≡ 0 = omega arith in ap (λ m. sum_below m (λ l. f n (n + l))) z) in
    let rows : sum_below n (λ k. sum_below (suc n - k) (λ l. f k (k + l))) ≡ sum_below n (λ k. sum_below (n - k) (λ l. f k (k + l))) + sum_below n (λ k. f k n) =
    sum_same n _ _ (λ k h. row_last n k f (omega arith)) ∙ sum_plus n (λ k. sum_below (n - k) (λ l. f k (k + l))) (λ k. f k n) in
    let last : sum_below (suc n - n) (λ l. f n (n + l)) ≡ sum_below (n - n) (λ l. f n (n + l)) + f n n = row_last n n f (omega arith) in
    omega (arith, sum_triangle n f)

pub convolution_assoc : (a b c : ℕ → ℕ) (i : ℕ) → convolution (convolution a b) c i ≡ convolution a (convolution b c) i
convolution_assoc a b c i =
    let inner : (j : ℕ) → convolution a b j * c (i - j) ≡ sum_below (suc j) (λ k. a k * (b (j - k) * c (i - j))) =
    λ j. sum_times (suc j) (λ k. a k * b (j - k)) (c (i - j)) ∙ sum_same (suc j) _ _ (λ k h. mul_assoc (a k) (b (j - k)) (c (i - j))) in
    let outer : (k : ℕ) → k < suc i → sum_below (suc i - k) (λ l. a k * (b (k + l - k) * c (i - (k + l)))) ≡ a k * convolution b c (i - k) =
    λ k h.
    let e : suc i - k ≡ suc (i - k) = omega arith in
    ap (λ m. sum_below m (λ l. a k * (b (k + l - k) * c (i - (k + l))))) e
    ∙ sum_same (suc (i - k)) _ _ (λ l q.
    let p : k + l - k ≡ l = omega arith in
    let r : i - (k + l) ≡ i - k - l = omega arith in
    ap₂ (λ x y. a k * (b x * c y)) p r)
    ∙ sym (times_sum (suc (i - k)) (λ l. b l * c (i - k - l)) (a k)) in
    sum_same (suc i) _ _ (λ j h. inner j)
    ∙ sum_triangle (suc i) (λ k j. a k * (b (j - k) * c (i - j)))
    ∙ sum_same (suc i) _ _ outer

pub convolution_congruent : (m : ℕ) (a b c d : ℕ → ℕ) (i : ℕ)
    → ((j : ℕ) → j ≤ i → a j % m ≡ c j % m) → ((j : ℕ) → j ≤ i → b j % m ≡ d j % m) → convolution a b i % m ≡ convolution c d i % m
convolution_congruent m a b c d i p q = sum_congruent m (suc i) _ _ (λ k h. mul_congruent _ _ _ _ m (p k (omega arith)) (q (i - k) (omega arith)))

pub convolution_plus : (a b c : ℕ → ℕ) (i : ℕ) → convolution a (λ j. b j + c j) i ≡ convolution a b i + convolution a c i
convolution_plus a b c i =
    sum_same (suc i) _ _ (λ k h. mul-add (a k) (b (i - k)) (c (i - k))) ∙ sum_plus (suc i) (λ k. a k * b (i - k)) (λ k. a k * c (i - k))

pub plus_convolution : (a b c : ℕ → ℕ) (i : ℕ) → convolution (λ j. a j + b j) c i ≡ convolution a c i + convolution b c i
plus_convolution a b c i =
    sum_same (suc i) _ _ (λ k h. add-mul (a k) (b k) (c (i - k))) ∙ sum_plus (suc i) (λ k. a k * c (i - k)) (λ k. b k * c (i - k))

only_first : (k : ℕ) → only 0 (suc k) ≡ 0
only_first k = rw eqb-suc-zero

pub one_convolution : (a : ℕ → ℕ) (i : ℕ) → convolution (only 0) a i ≡ a i
one_convolution a i =
    let rest : sum_below i (λ k. only 0 (suc k) * a (i - suc k)) ≡ 0 =
    sum_of_zeros i _ (λ k h. ap (λ x. x * a (i - suc k)) (only_first k) ∙ zero-mul (a (i - suc k))) in
    let e : i - 0 ≡ i = omega arith in
    sum_first i (λ j. only 0 j * a (i - j)) ∙ ap₂ (λ x y. 1 * a x + y) e rest ∙ omega arith

pub convolution_one : (a : ℕ → ℕ) (i : ℕ) → convolution a (only 0) i ≡ a i
unfolding sum_below
convolution_one a i =
    let rest : sum_below i (λ k. a k * only 0 (i - k)) ≡ 0 =
    sum_of_zeros i _ (λ k h.
    let e : i - k ≡ suc (i - k - 1) = omega arith in
    ap (λ x. a k * only 0 x) e ∙ ap (λ x. a k * x) (only_first (i - k - 1)) ∙ mul-zero (a k)) in
    let e : i - i ≡ 0 = omega arith in
    ap₂ (λ x y. x + a i * only 0 y) rest e ∙ omega arith

pub zero_convolution : (a : ℕ → ℕ) (i : ℕ) → convolution (λ j. 0) a i ≡ 0
zero_convolution a i = sum_of_zeros (suc i) _ (λ k h. zero-mul (a (i - k)))

pub convolution_zero : (a : ℕ → ℕ) (i : ℕ) → convolution a (λ j. 0) i ≡ 0
convolution_zero a i = sum_of_zeros (suc i) _ (λ k h. mul-zero (a k))

only_other : (i l : ℕ) → (l ≡ i → ⊥) → only i l ≡ 0
only_other i l ne = cond-false (eqb l i) 1 0 (ne_eqb l i ne)

sum_only_past : (n i : ℕ) (g : ℕ → ℕ) → n ≤ i → sum_below n (λ l. only i l * g l) ≡ 0
sum_only_past n i g h = sum_of_zeros n _ (λ l q. ap (λ x. x * g l) (only_other i l (λ e. omega arith)) ∙ zero-mul (g l))

-- Only the term at i is left, if the sum has one.
sum_only : (n i : ℕ) (g : ℕ → ℕ) → i < n → sum_below n (λ l. only i l * g l) ≡ g i
unfolding sum_below
sum_only zero i g h = absurd (omega arith)
sum_only (suc n) i g h = elim (cases_eq i n) [
  | inl e ↦ (let none : sum_below n (λ l. only i l * g l) ≡ 0 = sum_only_past n i g (omega arith) in
      let here : only i n ≡ 1 = cond-true (eqb n i) 1 0 (eq-eqb n i (sym e)) in
      ap₂ (λ x y. x + y * g n) none here ∙ omega (arith, ap g e))
  | inr ne ↦ (let before : sum_below n (λ l. only i l * g l) ≡ g i = sum_only n i g (omega arith) in
      let here : only i n ≡ 0 = only_other i n (λ e. ne (sym e)) in
      ap₂ (λ x y. x + y * g n) before here ∙ omega arith)
]

pub only_convolution : (i j k : ℕ) → convolution (only i) (only j) k ≡ only (i + j) k
only_convolution i j k = elim (cases_lt k i) [
  | inl h ↦ sum_only_past (suc k) i (λ l. only j (k - l)) (omega arith) ∙ sym (only_other (i + j) k (λ e. omega arith))
  | inr h ↦ sum_only (suc k) i (λ l. only j (k - l)) (omega arith) ∙ elim (eqb_tells (k - i) j) [
    | inl p ↦ (let e : k ≡ i + j = omega (arith, p.1) in
        ap (λ t. cond t 1 0) p.0 ∙ sym (cond-true (eqb k (i + j)) 1 0 (eq-eqb k (i + j) e)))
    | inr p ↦ (let ne : (k ≡ i + j) → ⊥ = λ e. p.1 (omega arith) in
        ap (λ t. cond t 1 0) p.0 ∙ sym (only_other (i + j) k ne))
  ]
]
