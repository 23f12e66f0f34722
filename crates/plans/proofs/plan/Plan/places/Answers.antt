-- The pass stands where the invariant says.
-- The check does not find this alone, nor with its lemmas named on the function.
use Rattle.std.proofs.Common.{◌∙◌, arith}
use Rattle.plans.proofs.Shape.{length_ends, count_is_length, holds_between}
use Rattle.plans.proofs.plan.Plan.places.Goals as goal

pub returns-in_err-end : goal.returns-in_err-end
returns-in_err-end c =
    let m = c.args.self.now in rw c.from_residual.ensures (omega (arith, count_is_length m, length_ends m, c.in_err-end.ensures.lookup))

pub returns : goal.returns
returns c =
    let m = c.args.self.now in
    let h = c.in_ok-end.ensures.lookup in
    holds_between m c.args.pass _ _ (omega (arith, length_ends m, h.3.0)) c.first.ensures (c.from.ensures ∙ h.3.1 0)
