-- Whether a part may be settled, by what is found of it in the table.
use Rattle.std.proofs.Common.{◌≡◌, ℕ, Bool, true, false, None, get_or}
use Rattle.refusals.specs.declared.Refusal.TheVariants.{NoSuchPlace, AlreadySettled}
use Rattle.plans.specs.declared.plan.Plan.{Plan}
use Rattle.plans.specs.Found.{HoldsPart, HoldsOpen, Declined}
use Rattle.plans.specs.Model.{Settle, place}
use Rattle.plans.specs.Parts.{is_open, open_part}
use Rattle.plans.specs.Passes.{passes}
use Rattle.plans.proofs.Answering.{declined, settle_nowhere, settle_settled, settle_open}
use Rattle.plans.proofs.Shape.{place_held}

pub nowhere : (m : Plan) (p i : ℕ) → place (passes m) p i ≡ None → (up : Bool) → Declined (Settle p i up) (passes m) NoSuchPlace
nowhere m p i e up = declined _ (passes m) _ (settle_nowhere p i up (passes m) e)

module _ (m : Plan) (p i k : ℕ) (h : HoldsPart m p i k) where
  pub held_open : is_open (get_or m.table.parts k (open_part 0)).standing ≡ true → HoldsOpen m p i k
  held_open o = record { held = h; accepted = λ up. settle_open p i up (passes m) _ (place_held m p i k (open_part 0) h) o }

  pub held_settled : is_open (get_or m.table.parts k (open_part 0)).standing ≡ false → (up : Bool) → Declined (Settle p i up) (passes m) AlreadySettled
  held_settled o up = declined _ (passes m) _ (settle_settled p i up (passes m) _ (place_held m p i k (open_part 0) h) o)
