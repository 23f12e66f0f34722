use Rattle.std.proofs.Common.{◌≡◌, ℕ, ◌<◌, slice_index_or}
use Rattle.rules.specs.Automaton.{automaton}
use Rattle.sums.specs.Chain.{begun}
use Rattle.evaluation.proofs.totals.begin.Given as goal

abbrev pub invariant-loop-state : goal.invariant-loop-state
invariant-loop-state g l =
    (t : ℕ) → t < l.state → slice_index_or l.totals t g.V.Scale.zero ≡ begun g.V.Scale (automaton g.R.Rule l.rule) t
