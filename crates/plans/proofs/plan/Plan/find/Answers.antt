-- There is no such pass, or no such part of it, or it is found.
-- The check does not find this alone: its lemmas take facts that only the answer names.
use Rattle.std.proofs.Common.{refl, arith}
use Rattle.plans.specs.Passes.{passes}
use Rattle.plans.proofs.Finding.{part_before}
use Rattle.plans.proofs.Placing.{place_past}
use Rattle.plans.proofs.Shape.{place_outside}
use Rattle.plans.proofs.plan.Plan.find.Goals as goal

pub returns-in_err-places : goal.returns-in_err-places
returns-in_err-places c =
    rw c.from_residual.ensures (place_past (passes c.args.self.now) c.args.pass c.args.part c.in_err-places.ensures)

pub returns-in_err-place : goal.returns-in_err-place
returns-in_err-place c =
    let s = c.in_ok-places.places in
    let h = c.in_ok-places.ensures in
    rw c.from_residual-in_err-place.ensures (place_outside c.args.self.now c.args.pass c.args.part s.start s.end h (omega (arith, h.stops)))

pub returns : goal.returns
returns c =
    let s = c.in_ok-places.places in
    let found = part_before c.args.self.now c.args.pass c.args.part s.start s.end c.in_ok-places.ensures in
    rw (c.then_some.ensures, c.in_ok-place.ensures.1) (found _ refl)
