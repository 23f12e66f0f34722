-- A part of a pass, and what a call does to one.
use Rattle.std.specs.Prelude.{ℕ, ◌^◌, Bool, true, false, ◌||◌, List, [], ◌∷◌, nat_lt}
use Rattle.plans.specs.declared.part.Part.{Part}
use Rattle.plans.specs.declared.part.Standing.{Standing}
use Rattle.plans.specs.declared.part.Standing.TheVariants.{Open, Up, Down}

-- The forecast of what is sure to come up.
abbrev pub one : ℕ
one = 2 ^ 30

-- The open part with this forecast.
abbrev pub open_part : ℕ → Part
open_part f = record { forecast = f; standing = Open }

-- Whether the outcome is not known yet.
abbrev pub is_open : Standing → Bool
is_open Open = true
is_open Up = false
is_open Down = false

-- The standing of a part that came up, or did not.
abbrev pub outcome : Bool → Standing
outcome true = Up
outcome false = Down

-- The part settled, with the forecast that it had.
abbrev pub settled : Bool → Part → Part
settled up x = record { forecast = x.forecast; standing = outcome up }

-- The part with another forecast, standing as it did.
abbrev pub amended : ℕ → Part → Part
amended f x = record { forecast = f; standing = x.standing }

-- Whether one of the forecasts is above one.
abbrev pub over_one_lem : List ℕ → Bool
over_one_lem [] = false
over_one_lem (f ∷ fs) = nat_lt one f || over_one_lem fs
