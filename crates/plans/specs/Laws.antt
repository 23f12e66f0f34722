-- What the calls do, said of every plan in other words than their definitions.
use Rattle.std.specs.Prelude.{◌≡◌, ℕ, Bool, true, List, length, Some, Ok, Err, ◌≢◌}
use Rattle.refusals.specs.declared.Refusal.{Refusal}
use Rattle.plans.specs.declared.part.Part.{Part}
use Rattle.plans.specs.Model.{Model, Change, Add, Settle, Drop, size, place, reply, after}
use Rattle.plans.specs.Parts.{is_open, settled}

-- A declined call leaves the plan as it was.
abbrev pub DeclinedChangesNothing : Type 0
DeclinedChangesNothing = (c : Change) (m : Model) (e : Refusal) → reply c m ≡ Err e → after c m ≡ m

-- A drop after an accepted add gives the plan back.
abbrev pub DropUndoesAdd : Type 0
DropUndoesAdd = (fs : List ℕ) (m : Model) → reply (Add fs) m ≡ Ok tt → after Drop (after (Add fs) m) ≡ m

-- The plan `new` is the plan `old` but for the part i of the pass p, which was open and is settled.
pub record SettledAt (p i : ℕ) (up : Bool) (old new : Model) : Type 0 where
  pub part : Part
  pub was : place old p i ≡ Some part
  pub unsettled : is_open part.standing ≡ true
  pub is : place new p i ≡ Some (settled up part)
  pub elsewhere : (q j : ℕ) → (q ≡ p → j ≢ i) → place new q j ≡ place old q j
  pub passes : length new ≡ length old
  pub parts : size new ≡ size old

-- An accepted settle settles the part that it names, which was open, and changes nothing else.
abbrev pub SettleChangesOnePlace : Type 0
SettleChangesOnePlace =
    (p i : ℕ) (up : Bool) (m : Model) → reply (Settle p i up) m ≡ Ok tt → SettledAt p i up m (after (Settle p i up) m)
