-- A list cut into pieces by their ends.
use Rattle.std.proofs.Common.{◌≡◌, ℕ, zero, suc, ◌+◌, ◌-◌, ◌<◌, ◌≤◌, true, List, [], ◌∷◌, ◌++◌, length, get_or, take, drop, sym, refl, ap, ◌∙◌, add-zero, arith, slice_range}
use Rattle.std.proofs.lemmas.List.{take-take, drop-take}
use Rattle.std.proofs.lemmas.List.Edits.{length-between}
use Rattle.std.proofs.lemmas.Grind.{common_steps}
use Rattle.std.proofs.lemmas.Bool.Decides.{nat_tests}
use Rattle.plans.specs.declared.part.Part.{Part}
use Rattle.plans.specs.Cuts.{cut, rising, last_end}
use Rattle.plans.specs.Lists.{changed_at}
use Rattle.plans.specs.Model.{size}
use Rattle.plans.proofs.Changing.{take_changed, take_changed_past, drop_changed, drop_changed_before}

pub rising_parts : (s e : ℕ) (es : List ℕ) → rising s (e ∷ es) ≡ true → (s < e) × (e ≤ s + 8) × (rising e es ≡ true)
rising_parts s e es h = grind (arith, common_steps, nat_tests)

rising_from : (s e : ℕ) (es : List ℕ) → s < e → e ≤ s + 8 → rising e es ≡ true → rising s (e ∷ es) ≡ true
rising_from s e es a b h = grind (arith, common_steps, nat_tests)

-- Each piece has a place, so that there are no more pieces than places.
pub last_end_above : (s : ℕ) (es : List ℕ) → rising s es ≡ true → s + length es ≤ last_end s es
last_end_above s [] h = omega arith
last_end_above s (e ∷ es) h = grind (arith, common_steps, nat_tests, last_end_above e es)

start_above : (s : ℕ) (es : List ℕ) (p : ℕ) → rising s es ≡ true → p ≤ length es → s ≤ get_or (s ∷ es) p 0
start_above s es zero h l = omega arith
start_above s [] (suc p) h l = absurd (omega arith)
start_above s (e ∷ es) (suc p) h l = grind (arith, common_steps, nat_tests, start_above e es p)

pub rising_at : (s : ℕ) (es : List ℕ) (p : ℕ) → rising s es ≡ true → p < length es →
    (get_or (s ∷ es) p 0 < get_or es p 0) × (get_or es p 0 ≤ get_or (s ∷ es) p 0 + 8) × (get_or es p 0 ≤ last_end s es)
rising_at s [] p h l = absurd (omega arith)
rising_at s (e ∷ es) zero h l = grind (arith, common_steps, nat_tests, last_end_above)
rising_at s (e ∷ es) (suc p) h l = grind (arith, common_steps, nat_tests, rising_at e es p)

pub length_cut : {X : Type 0} (s : ℕ) (es : List ℕ) (xs : List X) → length (cut s es xs) ≡ length es
length_cut s [] xs = refl
length_cut s (e ∷ es) xs = ap suc (length_cut e es xs)

pub get_or-cut : {X : Type 0} (s : ℕ) (es : List ℕ) (xs : List X) (p : ℕ) → p < length es →
    get_or (cut s es xs) p [] ≡ slice_range xs (get_or (s ∷ es) p 0) (get_or es p 0)
get_or-cut s [] xs p l = absurd (omega arith)
get_or-cut s (e ∷ es) xs zero l = refl
get_or-cut s (e ∷ es) xs (suc p) l = get_or-cut e es xs p (omega arith)

-- The number of parts is where the last piece ends.
pub size_cut : (s : ℕ) (es : List ℕ) (xs : List Part) → rising s es ≡ true → last_end s es ≤ length xs → s + size (cut s es xs) ≡ last_end s es
size_cut s [] xs h l = add-zero s
size_cut s (e ∷ es) xs h l = grind (arith, common_steps, nat_tests, last_end_above, length-between, size_cut e es xs)

-- One piece more.
pub cut_push : {X : Type 0} (s : ℕ) (es : List ℕ) (e : ℕ) (xs : List X) →
    cut s (es ++ e ∷ []) xs ≡ cut s es xs ++ slice_range xs (last_end s es) e ∷ []
cut_push s [] e xs = refl
cut_push s (f ∷ es) e xs = ap (λ t. slice_range xs s f ∷ t) (cut_push f es e xs)

pub last_end_push : (s : ℕ) (es : List ℕ) (e : ℕ) → last_end s (es ++ e ∷ []) ≡ e
last_end_push s [] e = refl
last_end_push s (f ∷ es) e = last_end_push f es e

pub rising_push : (s : ℕ) (es : List ℕ) (e : ℕ) → rising s es ≡ true → last_end s es < e → e ≤ last_end s es + 8 → rising s (es ++ e ∷ []) ≡ true
rising_push s [] e h a b = rising_from s e [] a b refl
rising_push s (f ∷ es) e h a b = grind (arith, common_steps, nat_tests, rising_push f es e)

-- The first n pieces.
pub cut_take : {X : Type 0} (n s : ℕ) (es : List ℕ) (xs : List X) → cut s (take n es) xs ≡ take n (cut s es xs)
cut_take zero s es xs = refl
cut_take (suc n) s [] xs = refl
cut_take (suc n) s (e ∷ es) xs = ap (λ t. slice_range xs s e ∷ t) (cut_take n e es xs)

pub rising_take : (n s : ℕ) (es : List ℕ) → rising s es ≡ true → rising s (take n es) ≡ true
rising_take zero s es h = refl
rising_take (suc n) s [] h = refl
rising_take (suc n) s (e ∷ es) h = grind (arith, common_steps, nat_tests, rising_take n e es)

pub last_end_take : (n s : ℕ) (es : List ℕ) → n ≤ length es → last_end s (take n es) ≡ get_or (s ∷ es) n 0
last_end_take zero s es l = refl
last_end_take (suc n) s [] l = absurd (omega arith)
last_end_take (suc n) s (e ∷ es) l = last_end_take n e es (omega arith)

pub last_end_take_below : (n s : ℕ) (es : List ℕ) → rising s es ≡ true → last_end s (take n es) ≤ last_end s es
last_end_take_below zero s es h = omega (arith, last_end_above s es h)
last_end_take_below (suc n) s [] h = omega arith
last_end_take_below (suc n) s (e ∷ es) h = grind (arith, common_steps, nat_tests, last_end_take_below n e es)

-- A piece looks at no place past its end, and so does a cut.
piece_front : {X : Type 0} (s e n : ℕ) (xs ys : List X) → s < e → e ≤ n → take n xs ≡ take n ys → slice_range xs s e ≡ slice_range ys s e
piece_front s e n xs ys a b h =
    let sum : s + (e - s) ≡ e = omega arith in
    sym (drop-take s (e - s) xs)
    ∙ ap (λ k. drop s (take k xs)) sum
    ∙ ap (drop s) (sym (take-take e n xs b) ∙ ap (take e) h ∙ take-take e n ys b)
    ∙ ap (λ k. drop s (take k ys)) (sym sum)
    ∙ drop-take s (e - s) ys

pub cut_front : {X : Type 0} (s : ℕ) (es : List ℕ) (xs ys : List X) (n : ℕ) → rising s es ≡ true → last_end s es ≤ n → take n xs ≡ take n ys → cut s es xs ≡ cut s es ys
cut_front s [] xs ys n h l e = refl
cut_front s (f ∷ es) xs ys n h l e = grind (arith, common_steps, nat_tests, last_end_above, piece_front, cut_front f es xs ys n)

-- A change before the first piece changes none.
cut_changed_before : {X : Type 0} (g : X → X) (s : ℕ) (es : List ℕ) (xs : List X) (k : ℕ) → rising s es ≡ true → k < s → cut s es (changed_at k g xs) ≡ cut s es xs
cut_changed_before g s [] xs k h l = refl
cut_changed_before g s (e ∷ es) xs k h l = grind (arith, common_steps, nat_tests, drop_changed_before, cut_changed_before g e es xs k)

-- A change at a place of a piece changes that piece at that place.
pub cut_changed : {X : Type 0} (g : X → X) (s : ℕ) (es : List ℕ) (xs : List X) (p i : ℕ) →
    rising s es ≡ true → p < length es → get_or (s ∷ es) p 0 + i < get_or es p 0 →
    cut s es (changed_at (get_or (s ∷ es) p 0 + i) g xs) ≡ changed_at p (changed_at i g) (cut s es xs)
cut_changed g s [] xs p i h l k = absurd (omega arith)
cut_changed g s (e ∷ es) xs zero i h l k = grind (arith, common_steps, nat_tests, drop_changed, take_changed, cut_changed_before)
cut_changed g s (e ∷ es) xs (suc p) i h l k = grind (arith, common_steps, nat_tests, start_above, piece_front, take_changed_past, cut_changed g e es xs p i)
