-- The laws of the calls, for every plan.
use Rattle.std.proofs.Common.{◌-◌, [], ◌∷◌, ◌++◌, map, length, ap, ◌∙◌, arith}
use Rattle.std.proofs.lemmas.List.{length_push, take_at}
use Rattle.plans.specs.Laws.{DropUndoesAdd, SettleChangesOnePlace}
use Rattle.plans.specs.Lists.{changed_at}
use Rattle.plans.specs.Model.{Add, Settle, Drop, size, place, after}
use Rattle.plans.specs.Parts.{open_part, settled}
use Rattle.plans.proofs.Answering.{after_accepted, settle_accepted, drop_some}
use Rattle.plans.proofs.Changing.{length_changed}
use Rattle.plans.proofs.Placing.{place_changed, place_changed_other, size_changed}

pub drop_undoes_add_lem : DropUndoesAdd
drop_undoes_add_lem fs m h =
    let new = m ++ map open_part fs ∷ [] in
    let n = length_push m (map open_part fs) in
    ap (after Drop) (after_accepted (Add fs) m h)
    ∙ after_accepted Drop new (drop_some new (omega arith))
    ∙ take_at m (map open_part fs ∷ []) (length new - 1) (omega arith)

pub settle_changes_one_place_lem : SettleChangesOnePlace
settle_changes_one_place_lem p i up m h =
    let e = after_accepted (Settle p i up) m h in
    let a = settle_accepted p i up m h in
    record {
      part = a.0;
      was = a.1;
      unsettled = a.2;
      is = ap (λ t. place t p i) e ∙ place_changed (settled up) m p i a.0 a.1;
      elsewhere = λ q j n. ap (λ t. place t q j) e ∙ place_changed_other (settled up) m p i q j n;
      passes = ap length e ∙ length_changed (changed_at i (settled up)) p m;
      parts = ap size e ∙ size_changed (settled up) m p i;
    }
