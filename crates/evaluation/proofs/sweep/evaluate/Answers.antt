-- The check does not find this alone: its lemmas take functions and facts that only the answer names.
use Rattle.std.proofs.Common.{◌≡◌, length, rules, arith}
use Rattle.std.proofs.lemmas.Bool.Decides.{nat_tests}
use Rattle.plans.specs.Passes.{passes}
use Rattle.rules.specs.Automaton.{automaton}
use Rattle.evaluation.specs.Evaluation.{closing_of, answer_of}
use Rattle.evaluation.specs.Written.{Holds}
use Rattle.evaluation.proofs.Closing.{sums_same}
use Rattle.evaluation.proofs.Writing.{front_written, second_front_written}
use Rattle.evaluation.proofs.sweep.evaluate.Goals as goal

pub returns : goal.returns
returns g c =
    let scale = g.W.Value.Scale in
    let d = scale.zero in
    let rule = automaton g.R.Rule c.args.rule.now in
    let plan = passes c.args.plan.now in
    let m = c.states-m.result in
    let closed = closing_of scale rule g.W.Weigher c.args.weigher.now plan in
    let is_m : m ≡ rule.states = c.states-m.ensures in
    let long : length c.close.new.totals ≡ m = search rules in
    let sums : Holds d (answer_of scale rule g.W.Weigher c.args.weigher.now plan) c.sums.result =
    sums_same scale rule closed c.close.new.totals c.sums.result (search rules) c.close.ensures.totals c.sums.ensures in
    record {
      allowed = grind (arith, nat_tests);
      replied = is_m;
      first_list = front_written d rule.states m closed c.args.totals.now c.close.new.totals is_m long c.close.ensures.totals;
      second_list = second_front_written d rule.states m (length plan) closed c.args.next.now c.close.new.next is_m (search rules) c.close.ensures.no_pass
          (λ some. rw (c.close.ensures.some_pass some) c.close.ensures.totals);
      answer_list = front_written d 3 3 _ c.args.answer.now c.copy_from_slice.new.self (search rules) (search rules) (rw c.copy_from_slice.ensures.after sums);
    }
