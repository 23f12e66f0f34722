-- What the plan's reading functions find.
use Rattle.std.proofs.Common.{◌≡◌, ℕ, ◌+◌, ◌-◌, ◌<◌, ◌≤◌, Bool, true, false, length, take, None, Some, Option, MatchOption, MatchResult, nat_lt, ap, ◌∙◌, arith}
use Rattle.std.specs.Bool.{then_some}
use Rattle.std.specs.Option.{SomeIff, ok_or}
use Rattle.std.proofs.lemmas.Bool.{ltb-true, ltb-false}
use Rattle.refusals.specs.declared.Refusal.TheVariants.{NoPass}
use Rattle.plans.specs.declared.plan.Plan.{Plan}
use Rattle.plans.specs.Found.{Holds, HoldsPart, IsLast, Declined}
use Rattle.plans.specs.Model.{Drop, place}
use Rattle.plans.specs.Passes.{passes}
use Rattle.plans.proofs.Answering.{declined, after_accepted, drop_none, drop_some}
use Rattle.plans.proofs.Shape.{place_outside}

-- The part i of a pass stands i places past its first, where that is before its end; otherwise there is none.
pub part_before : (m : Plan) (p i a b : ℕ) → Holds m p a b → (before : Bool) → nat_lt (a + i) b ≡ before
    → MatchOption (then_some before (a + i)) (place (passes m) p i ≡ None) (λ k. HoldsPart m p i k)
part_before m p i a b h true e =
    let l = ltb-true (a + i) b e in
    record { within = h.within; is = omega (arith, h.starts); before = omega (arith, h.stops); room = omega (arith, h.room) }
part_before m p i a b h false e = place_outside m p i a b h (ltb-false (a + i) b e)

-- The last pass is the one before their number, if that is a number.
pub last_before : (m : Plan) (n : ℕ) (r : Option ℕ) → n ≡ length (passes m) → SomeIff r (1 ≤ n) (n - 1)
    → MatchResult (ok_or r NoPass) (λ k. IsLast m k) (λ e. Declined Drop (passes m) e)
last_before m n None e h = declined Drop (passes m) NoPass (drop_none (passes m) (omega arith))
last_before m n (Some k) e h =
    let some : 0 < length (passes m) = omega arith in
    record {
      within = omega arith;
      accepted = drop_some (passes m) some;
      left = after_accepted Drop (passes m) (drop_some (passes m) some) ∙ ap (λ j. take j (passes m)) (omega arith);
    }
