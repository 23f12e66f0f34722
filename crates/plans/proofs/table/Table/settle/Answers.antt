-- The part that is lent comes back settled.
-- The check does not find this alone, nor with its lemmas named on the function.
use Rattle.std.proofs.Common.{set, refl, ap, ◌∙◌}
use Rattle.plans.specs.Parts.{settled, open_part}
use Rattle.plans.proofs.Changing.{set_changed}
use Rattle.plans.proofs.table.Table.settle.Goals as goal

pub returns : goal.returns
returns c = record {
  parts =
      ap (set c.args.self.now.parts c.args.k) c.settle.ensures
      ∙ set_changed (settled c.args.up) c.args.self.now.parts c.args.k (open_part 0);
  ends = refl;
}
