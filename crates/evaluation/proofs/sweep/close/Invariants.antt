-- What the passes that are left make of the totals so far is the closing totals. Once there was a pass, both lists hold the totals.
use Rattle.std.proofs.Common.{◌≡◌, ◌<◌, ◌≤◌, length}
use Rattle.plans.specs.Passes.{passes}
use Rattle.rules.specs.Automaton.{automaton}
use Rattle.sums.specs.Weights.{up_of, down_of}
use Rattle.evaluation.proofs.Closing.{Closes}
use Rattle.evaluation.proofs.sweep.close.Given as goal

abbrev pub invariant-loop-pass : goal.invariant-loop-pass
invariant-loop-pass g l =
    let scale = g.W.Value.Scale in
    let plan = passes l.plan in
    let left = l.pass-iterator in
    Closes scale (automaton g.R.Rule l.rule) (up_of scale g.W.Weigher l.weigher) (down_of scale g.W.Weigher l.weigher) plan left l.totals
    × (length left ≤ length plan)
    × (length left < length plan → l.next ≡ l.totals)
    × (length left ≡ length plan → l.next ≡ l.initial.next)
