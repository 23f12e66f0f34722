use Rattle.std.proofs.Common.{slice_index_or}
use Rattle.rules.specs.Automaton.{automaton}
use Rattle.sums.specs.Chain.{judged}
use Rattle.evaluation.specs.Written.{Holds}
use Rattle.evaluation.proofs.totals.sums.Given as goal

abbrev pub invariant-loop-state : goal.invariant-loop-state
invariant-loop-state g l =
    let none = g.V.Scale.zero in
    Holds none (judged g.V.Scale (automaton g.R.Rule l.rule) (λ s. slice_index_or l.totals s none) l.state) l.sums
