-- The check does not find this alone, nor with its lemmas named on the function.
use Rattle.std.proofs.Common.{◌+◌, ◌%◌, ◌^◌, sym, ap, ◌∙◌}
use Rattle.scales.specs.Tallies.{place, convolution}
use Rattle.scales.proofs.Convolving.{convolution_plus, plus_convolution}
use Rattle.scales.proofs.SameTally.{same_tally, sum_of_tallies, left_factor, right_factor}
use Rattle.scales.proofs.by_missed.laws.ByMissedLawfulScale.distributes.Goals as goal

pub returns : goal.returns
returns c = record {
  left = λ x y z.
      same_tally _ _ (λ i h.
      right_factor i h x (λ i. place y i + place z i)
      ∙ ap (λ v. v % 2 ^ 64) (convolution_plus (place x) (place y) (place z) i)
      ∙ sym (sum_of_tallies (convolution (place x) (place y)) (convolution (place x) (place z)) i h));
  right = λ x y z.
      same_tally _ _ (λ i h.
      left_factor i h (λ i. place x i + place y i) z
      ∙ ap (λ v. v % 2 ^ 64) (plus_convolution (place x) (place y) (place z) i)
      ∙ sym (sum_of_tallies (convolution (place x) (place z)) (convolution (place y) (place z)) i h));
}
