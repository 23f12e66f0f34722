-- By the plan's invariant.
-- The check does not find this alone, nor with its lemmas named on the function.
use Rattle.plans.proofs.Fitting.{within_limits}
use Rattle.plans.proofs.laws.plans_keep_limits.Goals as goal

pub returns : goal.returns
returns c = within_limits
