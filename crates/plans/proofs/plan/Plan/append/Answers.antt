-- One more pass keeps the invariant, and gives the plan that an accepted add leaves.
-- The check does not find this alone, nor with its lemmas named on the function.
use Rattle.std.proofs.Common.{length, ap, ◌∙◌, arith, length-set}
use Rattle.plans.specs.Passes.{passes}
use Rattle.plans.proofs.Adding.{count_below_places, end_within, length_added, at_most_one_added, rising_added, last_end_added, passes_added}
use Rattle.plans.proofs.plan.Plan.append.Goals as goal

pub append-requires : goal.append-requires
append-requires c =
    let m = c.args.self.now in
    let fs = c.args.forecasts.now in
    record { pass = count_below_places m fs c.requires; room = end_within m fs c.requires }

pub invariant_of-self : goal.invariant_of-self
invariant_of-self c =
    let m = c.args.self.now in
    let fs = c.args.forecasts.now in
    let parts = c.append.ensures.parts in
    let ends = c.append.ensures.ends in
    record {
      whole = ap length parts ∙ length_added m fs c.requires;
      ended = ap length ends ∙ length-set _ _ _ ∙ m.ended;
      few = omega (arith, count_below_places m fs c.requires);
      room = end_within m fs c.requires;
      steps = simp ends (rising_added m fs c.requires);
      full = simp ends (last_end_added m fs c.requires);
      fits = simp parts (at_most_one_added m fs c.requires);
    }

pub returns : goal.returns
unfolding passes
returns c =
    simp (c.append.ensures.ends, c.append.ensures.parts) (passes_added c.args.self.now c.args.forecasts.now c.requires)
