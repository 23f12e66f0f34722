-- What it is that a pair of ends encloses a chance, and what odds keep enclosed.
use Rattle.std.specs.Prelude.{◌≡◌, ℕ, ◌+◌, ◌-◌, ◌*◌, ◌≤◌}
use Rattle.odds.specs.declared.ends.Ends.{Ends}
use Rattle.odds.specs.Odds.{unit, reading, odds, forecasting}

-- A pair encloses the chance S / D when low / U ≤ S / D ≤ high / U.
pub record Encloses (pair : Ends) (S D : ℕ) : Type 0 where
  pub below : pair.low * D ≤ S * unit
  pub above : S * unit ≤ pair.high * D

-- A pair is odds when low ≤ high ≤ U.
pub record IsOdds (pair : Ends) : Type 0 where
  pub ordered : pair.low ≤ pair.high
  pub within : pair.high ≤ unit

-- Zero encloses the chance 0, and one the chance 1. The sum of two pairs encloses the sum of the chances that they are read to enclose, while
-- that is at most one, and their product the product. The weights of a part enclose its forecast, and what that leaves of certainty.
pub record Enclosing : Type 0 where
  pub zero : (D : ℕ) → Encloses odds.zero 0 D
  pub one : (D : ℕ) → Encloses odds.one D D
  pub plus : (a b : Ends) (S T D : ℕ) → S + T ≤ D → Encloses (reading a) S D → Encloses (reading b) T D → Encloses (odds.plus a b) (S + T) D
  pub times : (a b : Ends) (S T D E : ℕ) → Encloses (reading a) S D → Encloses (reading b) T E → Encloses (odds.times a b) (S * T) (D * E)
  pub up : (f : ℕ) → f ≤ unit → Encloses (forecasting.up (record {}) f) f unit
  pub down : (f : ℕ) → f ≤ unit → Encloses (forecasting.down (record {}) f) (unit - f) unit

-- What every pair is read as is odds, and so is every sum and product. Odds are read as they are, and other pairs so as to enclose every chance.
pub record Reading : Type 0 where
  pub always : (a : Ends) → IsOdds (reading a)
  pub same : (a : Ends) → IsOdds a → reading a ≡ a
  pub other : (a : Ends) → (IsOdds a → ⊥) → (S D : ℕ) → S ≤ D → Encloses (reading a) S D
  pub plus : (a b : Ends) → IsOdds (odds.plus a b)
  pub times : (a b : Ends) → IsOdds (odds.times a b)

-- No end is further out than its rounding makes it: the low end of a product is the largest that lies below the product of the low ends, and
-- the high end the smallest that lies above the product of the high ends.
pub record Rounding : Type 0 where
  pub below : (a b : Ends) → (odds.times a b).low * unit ≤ (reading a).low * (reading b).low
  pub largest : (a b : Ends) (n : ℕ) → n * unit ≤ (reading a).low * (reading b).low → n ≤ (odds.times a b).low
  pub above : (a b : Ends) → (reading a).high * (reading b).high ≤ (odds.times a b).high * unit
  pub smallest : (a b : Ends) (n : ℕ) → (reading a).high * (reading b).high ≤ n * unit → (odds.times a b).high ≤ n
