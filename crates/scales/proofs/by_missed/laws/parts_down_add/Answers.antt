-- The check does not find this alone, nor with its lemmas named on the function.
use Rattle.std.proofs.Common.{◌%◌, ◌^◌, ap, ◌∙◌}
use Rattle.scales.specs.Tallies.{only}
use Rattle.scales.proofs.Convolving.{only_convolution}
use Rattle.scales.proofs.SameTally.{same_tally, both_factors}
use Rattle.scales.proofs.by_missed.laws.parts_down_add.Goals as goal

pub returns : goal.returns
returns c = λ i j. same_tally _ _ (λ k h. both_factors k h (only i) (only j) ∙ ap (λ v. v % 2 ^ 64) (only_convolution i j k))
