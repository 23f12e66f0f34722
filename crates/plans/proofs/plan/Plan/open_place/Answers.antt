-- The part is not there, or settled, or open.
-- The check does not find this alone, nor with its lemmas named on the function.
use Rattle.std.proofs.Common.{◌≡◌, sym}
use Rattle.std.proofs.lemmas.Option.{MatchOption-at_some, MatchOption-at_none}
use Rattle.std.proofs.lemmas.Result.{err_from_is_err_and}
use Rattle.refusals.specs.declared.Refusal.TheVariants.{NoSuchPlace}
use Rattle.plans.proofs.Settling.{nowhere, held_open, held_settled}
use Rattle.plans.proofs.plan.Plan.open_place.Goals as goal

pub returns-in_err-k : goal.returns-in_err-k
returns-in_err-k c =
    let p = err_from_is_err_and c.from_residual.result c.from_residual.ensures.1 in
    let none = c.in_err-k.ensures.ok_part in
    let why = rw none at c.in_err-k.ensures.value in
    let e : c.in_err-k.field-0.0 ≡ NoSuchPlace = cc in
    rw (p.1, p.2, e) (nowhere c.args.self.now c.args.pass c.args.part (MatchOption-at_none _ _ none c.find.ensures))

pub returns-then-not-is_open : goal.returns-then-not-is_open
returns-then-not-is_open c =
    let held = MatchOption-at_some _ _ _ c.in_ok-k.ensures.ok_part c.find.ensures in
    held_settled c.args.self.now c.args.pass c.args.part c.in_ok-k.k held (sym c.if-not-is_open.ensures)

pub returns : goal.returns
returns c =
    let held = MatchOption-at_some _ _ _ c.in_ok-k.ensures.ok_part c.find.ensures in
    held_open c.args.self.now c.args.pass c.args.part c.in_ok-k.k held (sym c.if-not-is_open.ensures)
