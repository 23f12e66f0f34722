-- Counts of one number are one count.
use Rattle.std.proofs.Common.{◌≡◌, ◌^◌, ◌<◌}
use mathlib.Core.HLevel.{is_prop→PathP}
use native.Mathlib.Bridge.{le_prop}
use Rattle.std.proofs.lemmas.Nat.{mul-mod_first, mul-mod_second}
use Rattle.scales.specs.declared.count.Count.{Count}

pub same_count : (a b : Count) → a.number ≡ b.number → a ≡ b
same_count a b e = λ i. record { number = e i; fits = is_prop→PathP (λ j. e j < 2 ^ 64) (λ j. le_prop) a.fits b.fits i }

-- What the laws of counts need.
pub ruleset laws = (same_count, mul-mod_first, mul-mod_second)
