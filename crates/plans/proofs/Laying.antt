-- Lists with another written over them from some place on.
use Rattle.std.proofs.Common.{◌≡◌, ℕ, ◌+◌, ◌-◌, ◌<◌, ◌≤◌, List, [], ◌∷◌, length, get_or, take, drop, set, arith}
use Rattle.std.proofs.lemmas.Grind.{common_steps}
use Rattle.plans.specs.Lists.{laid}

pub laid_none : {X : Type 0} (xs : List X) (at : ℕ) → laid xs at [] ≡ xs
laid_none xs at = grind (arith, common_steps)

-- One place is written, and the others are still to be.
pub laid_next : {X : Type 0} (xs : List X) (at : ℕ) (y : X) (ys : List X) → at < length xs → laid (set xs at y) (at + 1) ys ≡ laid xs at (y ∷ ys)
laid_next xs at y ys l = grind (arith, common_steps)

pub length_laid : {X : Type 0} (xs : List X) (at : ℕ) (ys : List X) → at + length ys ≤ length xs → length (laid xs at ys) ≡ length xs
length_laid xs at ys l = grind (arith, common_steps)

pub room_before_laid : {X : Type 0} (xs : List X) (at : ℕ) (ys : List X) (n : ℕ) → length (laid xs at ys) ≡ n → at + length ys < n → at + length ys < length xs
room_before_laid xs at ys n e l = grind (arith, common_steps)

pub take_laid : {X : Type 0} (xs : List X) (at : ℕ) (ys : List X) → at ≤ length xs → take at (laid xs at ys) ≡ take at xs
take_laid xs at ys l = grind (arith, common_steps)

pub piece_laid : {X : Type 0} (xs : List X) (at : ℕ) (ys : List X) → at ≤ length xs → take (length ys) (drop at (laid xs at ys)) ≡ ys
piece_laid xs at ys l = grind (arith, common_steps)

pub get_or-laid_before : {X : Type 0} (xs : List X) (at : ℕ) (ys : List X) (k : ℕ) (d : X) → at ≤ length xs → k < at → get_or (laid xs at ys) k d ≡ get_or xs k d
get_or-laid_before xs at ys k d w l = grind (arith, common_steps)

pub get_or-laid_in : {X : Type 0} (xs : List X) (at : ℕ) (ys : List X) (k : ℕ) (d : X) → at ≤ length xs → at ≤ k → k < at + length ys → get_or (laid xs at ys) k d ≡ get_or ys (k - at) d
get_or-laid_in xs at ys k d w l h = grind (arith, common_steps)
