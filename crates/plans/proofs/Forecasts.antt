-- Whether a forecast is too high, as the library has it.
use Rattle.std.proofs.Common.{◌≡◌, ℕ, ◌||◌, List, [], ◌∷◌, nat_lt, refl, ap}
use Rattle.std.specs.List.{list_any}
use Rattle.plans.specs.Parts.{one, over_one_lem}

pub over_one_is_any : (fs : List ℕ) → over_one_lem fs ≡ list_any (λ f. nat_lt one f) fs
over_one_is_any [] = refl
over_one_is_any (f ∷ fs) = ap (λ t. nat_lt one f || t) (over_one_is_any fs)
