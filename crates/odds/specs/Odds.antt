-- Odds: chances between a low and a high end, in units of 1/U.
use Rattle.std.specs.Prelude.{ℕ, ◌+◌, ◌-◌, ◌*◌, ◌/◌, min, if◌then◌else◌, ◌&&◌, nat_le}
use Rattle.scales.specs.declared.scale.Scale.{Ghosts as ScaleMeaning}
use Rattle.scales.specs.declared.weigher.Weigher.{Ghosts as WeigherMeaning}
use Rattle.odds.specs.declared.odds.Odds.{Odds}
use Rattle.odds.specs.declared.ends.Ends.{Ends}
use Rattle.odds.specs.declared.forecasting.Forecasting.{Forecasting}

-- U, which stands for certainty: 2^30.
abbrev pub unit : ℕ
unit = 1073741824

-- A plain pair by its two ends.
abbrev pub ends : ℕ → ℕ → Ends
ends low high = record { low = low; high = high }

-- A pair whose ends are one number.
abbrev pub even : ℕ → Ends
even n = ends n n

-- The ends of odds as a plain pair.
abbrev pub pair : Odds → Ends
pair o = ends o.low o.high

-- What a pair is read as: itself where low ≤ high ≤ U, otherwise 0 to U.
abbrev pub reading : Ends → Ends
reading e = if nat_le e.low e.high && nat_le e.high unit then e else ends 0 unit

-- A sum, capped at U.
abbrev pub capped_sum : ℕ → ℕ → ℕ
capped_sum a b = min (a + b) unit

-- A product in units of 1/U, rounded down.
abbrev pub rounded_down : ℕ → ℕ → ℕ
rounded_down a b = a * b / unit

-- A product in units of 1/U, rounded up.
abbrev pub rounded_up : ℕ → ℕ → ℕ
rounded_up a b = (a * b + (unit - 1)) / unit

-- Ends add, each capped at U.
abbrev pub sum : Ends → Ends → Ends
sum a b = ends (capped_sum a.low b.low) (capped_sum a.high b.high)

-- Ends multiply, the low one rounded down and the high one up.
abbrev pub product : Ends → Ends → Ends
product a b = ends (rounded_down a.low b.low) (rounded_up a.high b.high)

-- The sum and the product of two pairs are those of what they are read as.
abbrev pub odds : ScaleMeaning Ends
odds = record {
  zero = even 0;
  one = even unit;
  plus = λ a b. sum (reading a) (reading b);
  times = λ a b. product (reading a) (reading b);
}

-- A part weighs its forecast up, capped at U, and what that leaves of U down; at most 512 parts.
abbrev pub forecasting : WeigherMeaning Forecasting Ends
forecasting = record { LIMIT = 512; up = λ _ f. even (min f unit); down = λ _ f. even (unit - min f unit) }
