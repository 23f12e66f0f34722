-- A plan as a list of passes, and what each call answers and does to it.
use Rattle.std.specs.Prelude.{◌≡◌, ℕ, zero, suc, ◌+◌, ◌-◌, ◌<◌, ◌≤◌, Bool, if◌then◌else◌, ◌||◌, List, [], ◌∷◌, ◌++◌, map, length, take, Some, None, Ok, Err, Option, Result, ◌==◌, nat_lt, slice_index_or}
use Rattle.std.specs.List.{slice_get}
use Rattle.refusals.specs.declared.Refusal.{Refusal}
use Rattle.refusals.specs.declared.Refusal.TheVariants.{OddPass, OverOne, FullPlan, NoSuchPlace, AlreadySettled, NoPass}
use Rattle.plans.specs.declared.part.Part.{Part}
use Rattle.plans.specs.Lists.{changed_at}
use Rattle.plans.specs.Parts.{one, open_part, is_open, settled, amended, over_one_lem}

-- A plan: its passes in order, each the list of its parts.
abbrev pub Model : Type 0
Model = List (List Part)

-- A call that may change a plan.
pub data Change : Type 0 where
  -- Adds a pass of open parts with these forecasts.
  Add : (fs : List ℕ) → Change
  -- Gives the part i of the pass p another forecast.
  Amend : (p i f : ℕ) → Change
  -- Settles the part i of the pass p.
  Settle : (p i : ℕ) (up : Bool) → Change
  -- Takes off the last pass.
  Drop : Change

-- The number of parts of all passes together.
abbrev pub size : Model → ℕ
size [] = 0
size (xs ∷ m) = length xs + size m

-- The part i of the pass p, both counted from 0, if there is one.
abbrev pub place : Model → ℕ → ℕ → Option Part
place [] p i = None
place (xs ∷ m) zero i = slice_get xs i
place (xs ∷ m) (suc p) i = place m p i

-- The pass p of the plan is this list of parts, which has 1 to 8 of them.
pub record IsPass (m : Model) (p : ℕ) (xs : List Part) : Type 0 where
  pub within : p < length m
  pub same : xs ≡ slice_index_or m p []
  pub some : 1 ≤ length xs
  pub few : length xs ≤ 8

-- The answer `r` where there is a part and it is open, else why the call is declined.
abbrev pub at_place : Option Part → Result Unit Refusal → Result Unit Refusal
at_place None r = Err NoSuchPlace
at_place (Some x) r = if is_open x.standing then r else Err AlreadySettled

-- The answer to adding a pass with these forecasts where a plan has n parts.
abbrev pub add_reply : List ℕ → ℕ → Result Unit Refusal
add_reply fs n =
    if length fs == 0 || nat_lt 8 (length fs) then Err OddPass else
    (if over_one_lem fs then Err OverOne else
    (if nat_lt 512 (n + length fs) then Err FullPlan else Ok tt))

-- The answer to a drop.
abbrev pub drop_reply : Model → Result Unit Refusal
drop_reply [] = Err NoPass
drop_reply (xs ∷ m) = Ok tt

-- What a call answers.
unfoldable pub reply : Change → Model → Result Unit Refusal
reply (Add fs) m = add_reply fs (size m)
reply (Amend p i f) m = at_place (place m p i) (if nat_lt one f then Err OverOne else Ok tt)
reply (Settle p i up) m = at_place (place m p i) (Ok tt)
reply Drop m = drop_reply m

-- The plan that an accepted call leaves.
abbrev pub done : Change → Model → Model
done (Add fs) m = m ++ map open_part fs ∷ []
done (Amend p i f) m = changed_at p (changed_at i (amended f)) m
done (Settle p i up) m = changed_at p (changed_at i (settled up)) m
done Drop m = take (length m - 1) m

-- The first plan if the call was accepted, else the second.
abbrev pub if_accepted : Result Unit Refusal → Model → Model → Model
if_accepted (Ok u) new old = new
if_accepted (Err e) new old = old

-- The plan that a call leaves.
unfoldable pub after : Change → Model → Model
after c m = if_accepted (reply c m) (done c m) m

-- The plan that calls leave, one after the other.
abbrev pub after_all : List Change → Model → Model
after_all [] m = m
after_all (c ∷ cs) m = after_all cs (after c m)

-- The plan that calls lead to from the empty plan.
abbrev pub plan_after : List Change → Model
plan_after cs = after_all cs []
