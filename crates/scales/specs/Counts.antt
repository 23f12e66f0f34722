-- Counts of patterns: whole numbers modulo 2^64.
use Rattle.std.specs.Prelude.{ℕ, ◌+◌, ◌*◌, ◌%◌, ◌^◌, ◌<◌}
use Rattle.std.proofs.Common.{arith}
use Rattle.scales.specs.declared.scale.Scale.{Ghosts as ScaleMeaning}
use Rattle.scales.specs.declared.weigher.Weigher.{Ghosts as WeigherMeaning}
use Rattle.scales.specs.declared.count.Count.{Count}
use Rattle.scales.specs.declared.count.counting.Counting.{Counting}

-- What is left of a number fits.
pub rest_below : (n : ℕ) → n % 2 ^ 64 < 2 ^ 64
rest_below n = omega arith

-- The count that a whole number leaves.
abbrev pub count : ℕ → Count
count n = record { number = n % 2 ^ 64; fits = rest_below n }

-- The sum and the product of two counts are those of their numbers.
abbrev pub counts : ScaleMeaning Count
counts = record {
  zero = count 0;
  one = count 1;
  plus = λ a b. count (a.number + b.number);
  times = λ a b. count (a.number * b.number);
}

-- Every part weighs one, up and down; at most 63 parts.
abbrev pub counting : WeigherMeaning Counting Count
counting = record { LIMIT = 63; up = λ _ _. counts.one; down = λ _ _. counts.one }
