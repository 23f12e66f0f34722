-- The limits that every plan keeps.
use Rattle.std.specs.Prelude.{◌≤◌, List, [], ◌∷◌, length}
use Rattle.plans.specs.declared.part.Part.{Part}
use Rattle.plans.specs.Model.{Model, size}
use Rattle.plans.specs.Parts.{one}

-- P holds of every entry of the list.
abbrev pub All : {A : Type 0} → (A → Type 0) → List A → Type 0
All P [] = Unit {0}
All P (x ∷ xs) = P x × All P xs

-- A pass has 1 to 8 parts.
abbrev pub PassLength : List Part → Type 0
PassLength pass = (1 ≤ length pass) × (length pass ≤ 8)

-- A forecast is at most one.
abbrev pub AtMostOne : Part → Type 0
AtMostOne part = part.forecast ≤ one

-- At most 512 parts, in passes of 1 to 8, with forecasts of at most one.
pub record WithinLimits (plan : Model) : Type 0 where
  pub parts : size plan ≤ 512
  pub lengths : All PassLength plan
  pub forecasts : All (All AtMostOne) plan
