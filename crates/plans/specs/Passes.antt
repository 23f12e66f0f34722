-- The passes that a plan's table stands for.
use Rattle.std.specs.Prelude.{take}
use Rattle.plans.specs.Cuts.{cut}
use Rattle.plans.specs.Model.{Model}
use Rattle.plans.specs.declared.plan.Plan.{Plan}

-- The passes of a plan.
unfoldable pub passes : Plan → Model
passes m = cut 0 (take m.count m.table.ends) m.table.parts
