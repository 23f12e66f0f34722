-- Lists changed at one place.
use Rattle.std.proofs.Common.{◌≡◌, ℕ, zero, suc, ◌+◌, ◌<◌, ◌≤◌, List, [], ◌∷◌, length, get_or, take, drop, set, refl, ap, ◌∙◌, suc-add, zero-add, arith}
use Rattle.plans.specs.declared.part.Part.{Part}
use Rattle.plans.specs.Cuts.{AtMostOne}
use Rattle.plans.specs.Lists.{changed_at}
use Rattle.plans.specs.Parts.{one}

pub set_changed : {X : Type 0} (g : X → X) (xs : List X) (k : ℕ) (d : X) → set xs k (g (get_or xs k d)) ≡ changed_at k g xs
set_changed g [] k d = refl
set_changed g (x ∷ xs) zero d = refl
set_changed g (x ∷ xs) (suc k) d = ap (λ ys. x ∷ ys) (set_changed g xs k d)

pub length_changed : {X : Type 0} (g : X → X) (k : ℕ) (xs : List X) → length (changed_at k g xs) ≡ length xs
length_changed g k [] = refl
length_changed g zero (x ∷ xs) = refl
length_changed g (suc k) (x ∷ xs) = ap suc (length_changed g k xs)

-- What g keeps of an element, a change by g keeps of each place.
kept_by_change : {X : Type 0} (P : X → Type 0) (g : X → X) → ((x : X) → P x → P (g x)) →
    (xs : List X) (k j : ℕ) (d : X) → j < length xs → P (get_or xs j d) → P (get_or (changed_at k g xs) j d)
kept_by_change P g h [] k j d l p = absurd (omega arith)
kept_by_change P g h (x ∷ xs) zero zero d l p = h x p
kept_by_change P g h (x ∷ xs) zero (suc j) d l p = p
kept_by_change P g h (x ∷ xs) (suc k) zero d l p = p
kept_by_change P g h (x ∷ xs) (suc k) (suc j) d l p = kept_by_change P g h xs k j d (omega arith) p

pub at_most_one_changed : (g : Part → Part) → ((x : Part) → x.forecast ≤ one → (g x).forecast ≤ one) →
    (xs : List Part) (k n : ℕ) → n ≤ length xs → AtMostOne xs n → AtMostOne (changed_at k g xs) n
at_most_one_changed g h xs k n w f j d l =
    let lt : j < length xs = omega arith in kept_by_change (λ x. x.forecast ≤ one) g h xs k j d lt (f j d l)

pub take_changed : {X : Type 0} (g : X → X) (n k : ℕ) (xs : List X) → k < n → take n (changed_at k g xs) ≡ changed_at k g (take n xs)
take_changed g zero k xs l = absurd (omega arith)
take_changed g (suc n) k [] l = refl
take_changed g (suc n) zero (x ∷ xs) l = refl
take_changed g (suc n) (suc k) (x ∷ xs) l = ap (λ t. x ∷ t) (take_changed g n k xs (omega arith))

pub take_changed_past : {X : Type 0} (g : X → X) (n k : ℕ) (xs : List X) → n ≤ k → take n (changed_at k g xs) ≡ take n xs
take_changed_past g zero k xs l = refl
take_changed_past g (suc n) k [] l = refl
take_changed_past g (suc n) zero (x ∷ xs) l = absurd (omega arith)
take_changed_past g (suc n) (suc k) (x ∷ xs) l = ap (λ t. x ∷ t) (take_changed_past g n k xs (omega arith))

pub drop_changed : {X : Type 0} (g : X → X) (s k : ℕ) (xs : List X) → drop s (changed_at (s + k) g xs) ≡ changed_at k g (drop s xs)
drop_changed g zero k xs = ap (λ j. changed_at j g xs) (zero-add k)
drop_changed g (suc s) k [] = refl
drop_changed g (suc s) k (x ∷ xs) = ap (λ j. drop (suc s) (changed_at j g (x ∷ xs))) (suc-add s k) ∙ drop_changed g s k xs

pub drop_changed_before : {X : Type 0} (g : X → X) (s k : ℕ) (xs : List X) → k < s → drop s (changed_at k g xs) ≡ drop s xs
drop_changed_before g zero k xs l = absurd (omega arith)
drop_changed_before g (suc s) k [] l = refl
drop_changed_before g (suc s) zero (x ∷ xs) l = refl
drop_changed_before g (suc s) (suc k) (x ∷ xs) l = drop_changed_before g s k xs (omega arith)
