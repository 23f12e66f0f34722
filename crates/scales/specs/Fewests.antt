-- The fewest parts that have to be down.
use Rattle.std.specs.Prelude.{ℕ, ◌+◌, ◌^◌, ◌<◌, min, if◌then◌else◌, Some, None, Option, ◌==◌}
use Rattle.std.proofs.Common.{arith}
use Rattle.scales.specs.declared.scale.Scale.{Ghosts as ScaleMeaning}
use Rattle.scales.specs.declared.weigher.Weigher.{Ghosts as WeigherMeaning}
use Rattle.scales.specs.declared.fewest.Fewest.{Fewest}
use Rattle.scales.specs.declared.fewest.minimizing.Minimizing.{Minimizing}

-- The number that is read as none, 2^32 - 1.
abbrev pub none : ℕ
none = 4294967295

-- What is capped fits.
pub capped_below : (n : ℕ) → min n none < 2 ^ 32
capped_below n = omega arith

-- A whole number of parts, capped at none.
abbrev pub fewest : ℕ → Fewest
fewest n = record { parts = min n none; fits = capped_below n }

-- Plus is the smaller of two numbers, times their sum. Nothing is none, and a stretch of no part costs 0.
abbrev pub fewests : ScaleMeaning Fewest
fewests = record {
  zero = fewest none;
  one = fewest 0;
  plus = λ a b. fewest (min a.parts b.parts);
  times = λ a b. fewest (a.parts + b.parts);
}

-- A part costs nothing up, and one down; at most 512 parts.
abbrev pub minimizing : WeigherMeaning Minimizing Fewest
minimizing = record { LIMIT = 512; up = λ _ _. fewest 0; down = λ _ _. fewest 1 }

-- The number, unless it is read as none.
abbrev pub least : Fewest → Option ℕ
least f = if f.parts == none then None else Some f.parts
