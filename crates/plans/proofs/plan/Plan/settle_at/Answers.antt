-- A settled part keeps the invariant, and gives the plan that an accepted settle leaves.
-- The check does not find this alone, nor with its lemmas named on the function.
use Rattle.std.proofs.Common.{length, sym, ap, ◌∙◌, arith}
use Rattle.plans.specs.Model.{Settle}
use Rattle.plans.specs.Parts.{settled}
use Rattle.plans.specs.Passes.{passes}
use Rattle.plans.proofs.Answering.{after_accepted}
use Rattle.plans.proofs.Changing.{length_changed, at_most_one_changed}
use Rattle.plans.proofs.Shape.{passes_changed}
use Rattle.plans.proofs.plan.Plan.settle_at.Goals as goal

pub invariant_of-self : goal.invariant_of-self
invariant_of-self c =
    let m = c.args.self.now in
    let by = settled c.args.up in
    let parts = c.settle.ensures.parts in
    let ends = c.settle.ensures.ends in
    record {
      whole = ap length parts ∙ length_changed by c.args.k m.table.parts ∙ m.whole;
      ended = ap length ends ∙ m.ended;
      few = m.few;
      room = m.room;
      steps = simp ends m.steps;
      full = simp ends m.full;
      fits = simp parts (at_most_one_changed by (λ _ h. h) m.table.parts c.args.k m.used (omega (arith, m.room, m.whole)) m.fits);
    }

pub returns : goal.returns
unfolding passes
returns c = λ p i h.
    let m = c.args.self.now in
    let up = c.args.up in
    simp (c.settle.ensures.ends, c.settle.ensures.parts)
    (passes_changed m (settled up) p i c.args.k h.held ∙ sym (after_accepted (Settle p i up) (passes m) (h.accepted up)))
