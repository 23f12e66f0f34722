-- The check does not find this alone, nor with its lemmas named on the function.
use Rattle.std.proofs.Common.{arith}
use Rattle.odds.specs.Odds.{reading}
use Rattle.odds.proofs.Enclosure.{sum_encloses, product_encloses}
use Rattle.odds.proofs.enclosing.odds_enclose.Goals as goal

pub returns-clause-encloses : goal.returns-clause-encloses
returns-clause-encloses c = record {
  zero = λ D. record { below = omega arith; above = omega arith };
  one = λ D. record { below = omega arith; above = omega arith };
  plus = λ a b. sum_encloses (reading a) (reading b);
  times = λ a b. product_encloses (reading a) (reading b);
  up = λ f h. record { below = omega arith; above = omega arith };
  down = λ f h. record { below = omega arith; above = omega arith };
}
