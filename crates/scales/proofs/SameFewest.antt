-- Values of one number of parts are one value.
use Rattle.std.proofs.Common.{◌≡◌, ◌^◌, ◌<◌}
use mathlib.Core.HLevel.{is_prop→PathP}
use native.Mathlib.Bridge.{le_prop}
use Rattle.scales.specs.declared.fewest.Fewest.{Fewest}

pub same_fewest : (a b : Fewest) → a.parts ≡ b.parts → a ≡ b
same_fewest a b e = λ i. record { parts = e i; fits = is_prop→PathP (λ j. e j < 2 ^ 32) (λ j. le_prop) a.fits b.fits i }
