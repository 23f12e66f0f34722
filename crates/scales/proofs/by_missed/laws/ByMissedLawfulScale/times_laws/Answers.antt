-- The check does not find this alone, nor with its lemmas named on the function.
use Rattle.std.proofs.Common.{◌%◌, ◌^◌, sym, ap, ◌∙◌}
use Rattle.scales.specs.Tallies.{place, only, convolution}
use Rattle.scales.proofs.Convolving.{convolution_assoc, one_convolution, convolution_one}
use Rattle.scales.proofs.SameTally.{same_tally, own_tally, left_factor, right_factor}
use Rattle.scales.proofs.by_missed.laws.ByMissedLawfulScale.times_laws.Goals as goal

pub returns : goal.returns
returns c = record {
  associative = λ x y z.
      same_tally _ _ (λ i h.
      left_factor i h (convolution (place x) (place y)) z
      ∙ ap (λ v. v % 2 ^ 64) (convolution_assoc (place x) (place y) (place z) i)
      ∙ sym (right_factor i h x (convolution (place y) (place z))));
  neutral_left = λ x. own_tally _ x (λ i h. left_factor i h (only 0) x ∙ ap (λ v. v % 2 ^ 64) (one_convolution (place x) i));
  neutral_right = λ x. own_tally _ x (λ i h. right_factor i h x (only 0) ∙ ap (λ v. v % 2 ^ 64) (convolution_one (place x) i));
}
