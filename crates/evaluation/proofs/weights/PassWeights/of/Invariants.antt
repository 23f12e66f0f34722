-- What the parts that are left make of the weights so far is what all parts weigh.
use Rattle.std.proofs.Common.{◌≡◌, drop}
use Rattle.sums.specs.Chain.{good, bad, good_from, bad_from}
use Rattle.sums.specs.Weights.{up_of, down_of}
use Rattle.evaluation.proofs.weights.PassWeights.of.Given as goal

abbrev pub invariant-loop-part : goal.invariant-loop-part
invariant-loop-part g l =
    let up = up_of g.V.Scale g.W.Weigher l.weigher in
    let down = down_of g.V.Scale g.W.Weigher l.weigher in
    let left = drop l.part-index l.parts in
    (good_from g.V.Scale up down l.pass.good left ≡ good g.V.Scale up down l.parts)
    × (bad_from g.V.Scale up down l.pass.good l.pass.bad left ≡ bad g.V.Scale up down l.parts)
