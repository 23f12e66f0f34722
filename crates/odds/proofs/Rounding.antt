-- Products in units of 1/U, rounded down and up.
use Rattle.std.proofs.Common.{ℕ, ◌*◌, ◌≤◌, mul-le-mul, arith}
use Rattle.odds.specs.Odds.{unit, rounded_down, rounded_up}

pub down_le_up : (a b c d : ℕ) → a ≤ c → b ≤ d → rounded_down a b ≤ rounded_up c d
down_le_up a b c d p q = omega (arith, mul-le-mul p q)

pub up_within : (a b : ℕ) → a ≤ unit → b ≤ unit → rounded_up a b ≤ unit
up_within a b p q = omega (arith, mul-le-mul p q)

pub down_below : (a b : ℕ) → rounded_down a b * unit ≤ a * b
down_below a b = omega arith

pub down_largest : (a b n : ℕ) → n * unit ≤ a * b → n ≤ rounded_down a b
down_largest a b n h = omega arith

pub up_above : (a b : ℕ) → a * b ≤ rounded_up a b * unit
up_above a b = omega arith

pub up_smallest : (a b n : ℕ) → a * b ≤ n * unit → rounded_up a b ≤ n
up_smallest a b n h = omega arith
