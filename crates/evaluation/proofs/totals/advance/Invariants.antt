use Rattle.std.proofs.Common.{ℕ, slice_index_or}
use Rattle.rules.specs.Automaton.{automaton}
use Rattle.sums.specs.Chain.{good, bad, reaching}
use Rattle.sums.specs.Weights.{up_of, down_of}
use Rattle.evaluation.specs.Written.{Holds}
use Rattle.evaluation.proofs.totals.advance.Given as goal

abbrev pub invariant-loop-state : goal.invariant-loop-state
invariant-loop-state g l =
    let scale = g.W.Value.Scale in
    let up = up_of scale g.W.Weigher l.weigher in
    let down = down_of scale g.W.Weigher l.weigher in
    let total = λ (s : ℕ). slice_index_or l.total-items s scale.zero in
    Holds scale.zero (reaching scale (automaton g.R.Rule l.rule) total (good scale up down l.pass) (bad scale up down l.pass) l.state) l.next
