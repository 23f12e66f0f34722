-- The check does not find this, nor with these definitions named on the function: digits stays as it stands.
use Rattle.std.proofs.Common.{refl}
use Rattle.std.specs.Fmt.{digits}
use Rattle.plans.specs.Model.{after, reply}
use Rattle.scales.specs.Places.{places}
use Rattle.scales.specs.Tallies.{sum_below}
use Rattle.worked.proofs.worked_lines.Goals as goal

pub returns : goal.returns
unfolding after reply places sum_below digits
returns c = refl
