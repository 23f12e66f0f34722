-- What is found in a plan before a call writes.
use Rattle.std.specs.Prelude.{◌≡◌, ℕ, ◌+◌, ◌<◌, ◌≤◌, Bool, [], ◌∷◌, length, take, Ok, Err, slice_index, slice_index_or, slice_range}
use Rattle.refusals.specs.declared.Refusal.{Refusal}
use Rattle.plans.specs.Model.{Model, Change, Settle, Drop, reply, after}
use Rattle.plans.specs.Passes.{passes}
use Rattle.plans.specs.declared.plan.Plan.{Plan}

-- The places from a up to b of the table hold the pass p.
pub record Holds (m : Plan) (p a b : ℕ) : Type 0 where
  pub within : p < length (passes m)
  pub is : slice_index_or (passes m) p [] ≡ slice_range m.table.parts a b
  pub some : a < b
  pub few : b ≤ a + 8
  pub room : b ≤ 512
  pub starts : a ≡ slice_index (0 ∷ m.table.ends) p
  pub stops : b ≡ slice_index m.table.ends p

-- The place k of the table holds the part i of the pass p.
pub record HoldsPart (m : Plan) (p i k : ℕ) : Type 0 where
  pub within : p < length (passes m)
  pub is : k ≡ slice_index (0 ∷ m.table.ends) p + i
  pub before : k < slice_index m.table.ends p
  pub room : k < 512

-- The place k of the table holds the part i of the pass p, which a call may settle.
pub record HoldsOpen (m : Plan) (p i k : ℕ) : Type 0 where
  pub held : HoldsPart m p i k
  pub accepted : (up : Bool) → reply (Settle p i up) (passes m) ≡ Ok tt

-- The number n is that of the last pass.
pub record IsLast (m : Plan) (n : ℕ) : Type 0 where
  pub within : n < length (passes m)
  pub accepted : reply Drop (passes m) ≡ Ok tt
  pub left : after Drop (passes m) ≡ take n (passes m)

-- The call is declined for this reason, and leaves the plan as it is.
pub record Declined (c : Change) (m : Model) (e : Refusal) : Type 0 where
  pub answer : reply c m ≡ Err e
  pub same : after c m ≡ m
