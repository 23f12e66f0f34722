-- Sums and products of ends keep chances enclosed.
use Rattle.std.proofs.Common.{◌≡◌, ℕ, ◌+◌, ◌*◌, ◌≤◌, min, inl, inr, mul-le-mul_right, mul-le-mul, le_of_mul-le-mul_right, arith}
use Rattle.std.proofs.lemmas.Bool.{cases_lt}
use Rattle.odds.specs.declared.ends.Ends.{Ends}
use Rattle.odds.specs.Enclosing.{Encloses}
use Rattle.odds.specs.Odds.{unit, sum, product, rounded_down, rounded_up}
use Rattle.odds.proofs.Rounding.{down_below, up_above}

min_times_le : (a b D x : ℕ) → a * D ≤ x → min a b * D ≤ x
min_times_le a b D x h =
    let m : min a b ≤ a = omega arith in
    omega (arith, mul-le-mul_right D m)

le_min_times : (a b D x : ℕ) → x ≤ a * D → x ≤ b * D → x ≤ min a b * D
le_min_times a b D x h k = elim (cases_lt a b) [
  | inl l ↦ (let m : min a b ≡ a = omega arith in rw m h)
  | inr l ↦ (let m : min a b ≡ b = omega arith in rw m k)
]

pub sum_encloses : (a b : Ends) (S T D : ℕ) → S + T ≤ D → Encloses a S D → Encloses b T D → Encloses (sum a b) (S + T) D
sum_encloses a b S T D fit p q = record {
  below = min_times_le (a.low + b.low) unit D _ (omega arith);
  above = le_min_times (a.high + b.high) unit D _ (omega arith) (omega arith);
}

below_times : (a b S T D E : ℕ) → a * D ≤ S * unit → b * E ≤ T * unit → rounded_down a b * (D * E) ≤ S * T * unit
below_times a b S T D E p q =
    let both : a * D * (b * E) ≤ S * unit * (T * unit) = mul-le-mul p q in
    let wide : rounded_down a b * unit * (D * E) ≤ a * b * (D * E) = mul-le-mul_right (D * E) (down_below a b) in
    le_of_mul-le-mul_right {k = unit} (omega arith) (omega arith)

above_times : (a b S T D E : ℕ) → S * unit ≤ a * D → T * unit ≤ b * E → S * T * unit ≤ rounded_up a b * (D * E)
above_times a b S T D E p q =
    let both : S * unit * (T * unit) ≤ a * D * (b * E) = mul-le-mul p q in
    let wide : a * b * (D * E) ≤ rounded_up a b * unit * (D * E) = mul-le-mul_right (D * E) (up_above a b) in
    le_of_mul-le-mul_right {k = unit} (omega arith) (omega arith)

pub product_encloses : (a b : Ends) (S T D E : ℕ) → Encloses a S D → Encloses b T E → Encloses (product a b) (S * T) (D * E)
product_encloses a b S T D E p q = record {
  below = below_times a.low b.low S T D E p.below q.below;
  above = above_times a.high b.high S T D E p.above q.above;
}
