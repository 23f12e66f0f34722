-- What a call that changes a plan does.
use Rattle.std.specs.Prelude.{◌≡◌, Result, is_ok, false}
use Rattle.refusals.specs.declared.Refusal.{Refusal}
use Rattle.plans.specs.Model.{Change, reply, after}
use Rattle.plans.specs.Passes.{passes}
use Rattle.plans.specs.declared.plan.Plan.{Plan}

-- It replies as the change does on the plan's passes, and leaves the passes that the change makes of them. A declined call leaves the
-- whole plan as it was, and every place of its table.
pub record Called (change : Change) (old new : Plan) (replied : Result Unit Refusal) : Type 0 where
  pub reply : replied ≡ reply change (passes old)
  pub after : passes new ≡ after change (passes old)
  pub same : is_ok replied ≡ false → new ≡ old
