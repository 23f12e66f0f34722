-- From the state so far, what is left of the outcomes leads where the whole list leads from the first state.
use Rattle.std.proofs.Common.{◌≡◌, drop}
use Rattle.rules.specs.Automaton.{automaton}
use Rattle.rules.specs.Judgement.{reached}
use Rattle.rules.proofs.judging.judge.Given as goal

abbrev pub invariant-loop-made : goal.invariant-loop-made
invariant-loop-made g l =
    reached (automaton g.R.Rule l.rule) l.state (drop l.made-index l.outcomes)
    ≡ reached (automaton g.R.Rule l.rule) (g.R.Rule.first l.rule) l.outcomes
