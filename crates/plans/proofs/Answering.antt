-- What a call's answer says of the plan before and after it.
use Rattle.std.proofs.Common.{◌≡◌, ℕ, ◌+◌, ◌<◌, ◌≤◌, Bool, true, false, cond, List, [], ◌∷◌, length, Some, None, Ok, Err, Option, Result, refl, ap, ◌∙◌, arith}
use Rattle.std.proofs.lemmas.Bool.{cond-true, cond-false}
use Rattle.std.proofs.lemmas.Grind.{common_steps}
use Rattle.std.proofs.lemmas.Bool.Decides.{nat_tests}
use Rattle.refusals.specs.declared.Refusal.{Refusal}
use Rattle.refusals.specs.declared.Refusal.TheVariants.{NoSuchPlace, AlreadySettled, NoPass}
use Rattle.plans.specs.declared.part.Part.{Part}
use Rattle.plans.specs.Found.{Declined}
use Rattle.plans.specs.Model.{Model, Change, Add, Settle, Drop, size, place, at_place, reply, done, if_accepted, after}
use Rattle.plans.specs.Parts.{is_open, over_one_lem}

pub after_declined : (c : Change) (m : Model) (e : Refusal) → reply c m ≡ Err e → after c m ≡ m
unfolding after
after_declined c m e r = ap (λ t. if_accepted t (done c m) m) r

pub after_accepted : (c : Change) (m : Model) → reply c m ≡ Ok tt → after c m ≡ done c m
unfolding after
after_accepted c m r = ap (λ t. if_accepted t (done c m) m) r

pub declined : (c : Change) (m : Model) (e : Refusal) → reply c m ≡ Err e → Declined c m e
declined c m e r = record { answer = r; same = after_declined c m e r }

passed : (b : Bool) (e : Refusal) (r : Result Unit Refusal) → cond b (Err e) r ≡ Ok tt → (b ≡ false) × (r ≡ Ok tt)
passed true e r h = absurd (cc)
passed false e r h = (refl, h)

-- What an accepted add says of its forecasts.
pub record Admitted (fs : List ℕ) (m : Model) : Type 0 where
  pub some : 0 < length fs
  pub few : length fs ≤ 8
  pub fit : over_one_lem fs ≡ false
  pub room : size m + length fs ≤ 512

pub add_accepted : (fs : List ℕ) (m : Model) → reply (Add fs) m ≡ Ok tt → Admitted fs m
unfolding reply
add_accepted fs m h = grind (arith, common_steps, nat_tests)

pub settle_nowhere : (p i : ℕ) (up : Bool) (m : Model) → place m p i ≡ None → reply (Settle p i up) m ≡ Err NoSuchPlace
unfolding reply
settle_nowhere p i up m e = ap (λ o. at_place o (Ok tt)) e

pub settle_settled : (p i : ℕ) (up : Bool) (m : Model) (x : Part) → place m p i ≡ Some x → is_open x.standing ≡ false → reply (Settle p i up) m ≡ Err AlreadySettled
unfolding reply
settle_settled p i up m x e o = ap (λ o. at_place o (Ok tt)) e ∙ cond-false (is_open x.standing) _ _ o

pub settle_open : (p i : ℕ) (up : Bool) (m : Model) (x : Part) → place m p i ≡ Some x → is_open x.standing ≡ true → reply (Settle p i up) m ≡ Ok tt
unfolding reply
settle_open p i up m x e o = ap (λ o. at_place o (Ok tt)) e ∙ cond-true (is_open x.standing) _ _ o

opened : (b : Bool) (e : Refusal) (r : Result Unit Refusal) → cond b r (Err e) ≡ Ok tt → b ≡ true
opened true e r h = refl
opened false e r h = absurd (cc)

open_at : (o : Option Part) → at_place o (Ok tt) ≡ Ok tt → (x : Part) × (o ≡ Some x) × (is_open x.standing ≡ true)
open_at None h = absurd (cc)
open_at (Some x) h = (x, refl, opened (is_open x.standing) AlreadySettled (Ok tt) h)

pub settle_accepted : (p i : ℕ) (up : Bool) (m : Model) → reply (Settle p i up) m ≡ Ok tt → (x : Part) × (place m p i ≡ Some x) × (is_open x.standing ≡ true)
unfolding reply
settle_accepted p i up m h = open_at (place m p i) h

pub drop_none : (m : Model) → length m ≡ 0 → reply Drop m ≡ Err NoPass
unfolding reply
drop_none [] l = refl
drop_none (xs ∷ m) l = absurd (omega arith)

pub drop_some : (m : Model) → 0 < length m → reply Drop m ≡ Ok tt
unfolding reply
drop_some [] l = absurd (omega arith)
drop_some (xs ∷ m) l = refl
