-- The check does not find this alone, nor with its lemmas named on the function.
use Rattle.std.proofs.Common.{◌+◌, arith}
use Rattle.scales.specs.Places.{places_at}
use Rattle.scales.specs.Tallies.{place}
use Rattle.scales.proofs.SameTally.{same_tally, own_tally}
use Rattle.scales.proofs.by_missed.laws.ByMissedLawfulScale.plus_laws.Goals as goal

pub returns : goal.returns
returns c = record {
  associative = λ x y z.
      same_tally _ _ (λ i h. omega (arith, places_at (λ i. place x i + place y i) i h, places_at (λ i. place y i + place z i) i h));
  commutative = λ x y. same_tally _ _ (λ i h. omega arith);
  neutral = λ x. own_tally _ x (λ i h. omega (arith, places_at (λ _. 0) i h));
}
