-- The parts of a plan by pass and place, and a change at one of them.
use Rattle.std.proofs.Common.{◌≡◌, ℕ, zero, suc, ◌<◌, ◌≤◌, List, [], ◌∷◌, length, get_or, Some, None, refl, ap, arith}
use Rattle.std.specs.List.{slice_get}
use Rattle.plans.specs.declared.part.Part.{Part}
use Rattle.plans.specs.Lists.{changed_at}
use Rattle.plans.specs.Model.{Model, place, size}
use Rattle.plans.proofs.Changing.{length_changed}

pub place_in : (m : Model) (p i : ℕ) → p < length m → place m p i ≡ slice_get (get_or m p []) i
place_in [] p i l = absurd (omega arith)
place_in (xs ∷ m) zero i l = refl
place_in (xs ∷ m) (suc p) i l = place_in m p i (omega arith)

pub place_past : (m : Model) (p i : ℕ) → length m ≤ p → place m p i ≡ None
place_past [] p i l = refl
place_past (xs ∷ m) zero i l = absurd (omega arith)
place_past (xs ∷ m) (suc p) i l = place_past m p i (omega arith)

nth_changed : {X : Type 0} (g : X → X) (xs : List X) (k : ℕ) (x : X) → slice_get xs k ≡ Some x → slice_get (changed_at k g xs) k ≡ Some (g x)
nth_changed g [] k x e = cc
nth_changed g (y ∷ xs) zero x e = cc
nth_changed g (y ∷ xs) (suc k) x e = nth_changed g xs k x e

nth_changed_other : {X : Type 0} (g : X → X) (xs : List X) (k j : ℕ) → (j ≡ k → ⊥) → slice_get (changed_at k g xs) j ≡ slice_get xs j
nth_changed_other g [] k j n = refl
nth_changed_other g (x ∷ xs) zero zero n = absurd (n refl)
nth_changed_other g (x ∷ xs) zero (suc j) n = refl
nth_changed_other g (x ∷ xs) (suc k) zero n = refl
nth_changed_other g (x ∷ xs) (suc k) (suc j) n = nth_changed_other g xs k j (λ e. n (ap suc e))

pub place_changed : (g : Part → Part) (m : Model) (p i : ℕ) (x : Part) → place m p i ≡ Some x → place (changed_at p (changed_at i g) m) p i ≡ Some (g x)
place_changed g [] p i x e = cc
place_changed g (xs ∷ m) zero i x e = nth_changed g xs i x e
place_changed g (xs ∷ m) (suc p) i x e = place_changed g m p i x e

pub place_changed_other : (g : Part → Part) (m : Model) (p i q j : ℕ) → (q ≡ p → j ≡ i → ⊥) → place (changed_at p (changed_at i g) m) q j ≡ place m q j
place_changed_other g [] p i q j n = refl
place_changed_other g (xs ∷ m) zero i zero j n = nth_changed_other g xs i j (n refl)
place_changed_other g (xs ∷ m) zero i (suc q) j n = refl
place_changed_other g (xs ∷ m) (suc p) i zero j n = refl
place_changed_other g (xs ∷ m) (suc p) i (suc q) j n = place_changed_other g m p i q j (λ e. n (ap suc e))

pub size_changed : (g : Part → Part) (m : Model) (p i : ℕ) → size (changed_at p (changed_at i g) m) ≡ size m
size_changed g [] p i = refl
size_changed g (xs ∷ m) zero i = omega (arith, length_changed g i xs)
size_changed g (xs ∷ m) (suc p) i = omega (arith, size_changed g m p i)
