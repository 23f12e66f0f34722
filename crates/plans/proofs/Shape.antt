-- What the invariant of a plan says of its passes and of the places of their parts.
use Rattle.std.proofs.Common.{◌≡◌, ℕ, suc, ◌+◌, ◌<◌, ◌≤◌, true, List, ◌∷◌, length, get_or, take, slice_range, Some, None, sym, refl, ap, ◌∙◌, ap₂, arith}
use Rattle.std.specs.List.{slice_get}
use Rattle.std.proofs.lemmas.List.{length-take-le, get_or-take, take-take}
use Rattle.std.proofs.lemmas.List.Edits.{length-between, get_or-between}
use Rattle.std.proofs.lemmas.Option.{slice_get-get_or, slice_get_past}
use Rattle.std.proofs.lemmas.Grind.{common_steps}
use Rattle.plans.specs.declared.part.Part.{Part}
use Rattle.plans.specs.declared.plan.Plan.{Plan}
use Rattle.plans.specs.Cuts.{last_end, cut, rising}
use Rattle.plans.specs.Found.{Holds, HoldsPart}
use Rattle.plans.specs.Lists.{changed_at}
use Rattle.plans.specs.Model.{place, size}
use Rattle.plans.specs.Passes.{passes}
use Rattle.plans.proofs.Cutting.{last_end_above, rising_at, length_cut, get_or-cut, size_cut, cut_take, rising_take, last_end_take, last_end_take_below, cut_changed}
use Rattle.plans.proofs.Placing.{place_in}

-- The ends of the passes of a plan.
abbrev pub ends : Plan → List ℕ
ends m = take m.count m.table.ends

module _ (m : Plan) where
  pub length_ends : length (ends m) ≡ m.count
  length_ends = length-take-le m.count m.table.ends (omega (arith, m.few, m.ended))

  pub last_end_within : last_end 0 (ends m) ≤ length m.table.parts
  last_end_within = omega (arith, m.full, m.room, m.whole)

  pub count_is_length : m.count ≡ length (passes m)
  unfolding passes
  count_is_length = sym (length_cut 0 (ends m) m.table.parts ∙ length_ends)

  pub passes_few : length (passes m) ≤ 512
  passes_few = omega (arith, count_is_length, m.few)

  pub used_is_size : m.used ≡ size (passes m)
  unfolding passes
  used_is_size = omega (arith, size_cut 0 (ends m) m.table.parts m.steps last_end_within, m.full)

  pub count_below_used : m.count ≤ m.used
  count_below_used = let n = length_ends in let t = last_end_above 0 (ends m) m.steps in omega (arith, m.full)

  end_at : (p : ℕ) → p < m.count → get_or (ends m) p 0 ≡ get_or m.table.ends p 0
  end_at p l = get_or-take m.count m.table.ends p 0 l

  start_at : (p : ℕ) → p < m.count → get_or (0 ∷ ends m) p 0 ≡ get_or (0 ∷ m.table.ends) p 0
  start_at p l = get_or-take (suc m.count) (0 ∷ m.table.ends) p 0 (omega arith)

  pub holds : (p : ℕ) → p < m.count → Holds m p (get_or (0 ∷ m.table.ends) p 0) (get_or m.table.ends p 0)
  unfolding passes
  holds p l =
      let n = length_ends in
      let r = rising_at 0 (ends m) p m.steps (omega arith) in
      let a = start_at p l in
      let b = end_at p l in
      record {
        within = omega (arith, count_is_length);
        is =
            get_or-cut 0 (ends m) m.table.parts p (omega arith)
            ∙ ap₂ (λ s e. slice_range m.table.parts s e) a b;
        some = omega arith;
        few = omega arith;
        room = omega (arith, m.full, m.room);
        starts = refl;
        stops = refl;
      }

  pub holds_between : (p a b : ℕ) → p < m.count → a ≡ get_or (0 ∷ m.table.ends) p 0 → b ≡ get_or (ends m) p 0 → Holds m p a b
  holds_between p a b l e f = rw (e, f ∙ end_at p l) (holds p l)

  pub place_outside : (p i a b : ℕ) → Holds m p a b → b ≤ a + i → place (passes m) p i ≡ None
  place_outside p i a b h l = grind (arith, common_steps, place_in, slice_get_past, h.is, h.within, h.room, m.whole)

  pub place_held : (p i k : ℕ) (d : Part) → HoldsPart m p i k → place (passes m) p i ≡ Some (get_or m.table.parts k d)
  place_held p i k d h =
      let a = get_or (0 ∷ m.table.ends) p 0 in
      let b = get_or m.table.ends p 0 in
      let all = holds p (omega (arith, count_is_length, h.within)) in
      let n = length-between m.table.parts a b (omega (arith, all.room, m.whole)) in
      let j : a + i < b = omega (arith, h.is, h.before) in
      place_in (passes m) p i h.within
      ∙ ap (λ xs. slice_get xs i) all.is
      ∙ slice_get-get_or (slice_range m.table.parts a b) i d (omega arith)
      ∙ ap (λ x. Some x) (get_or-between m.table.parts a b i d j ∙ ap (λ t. get_or m.table.parts t d) (sym h.is))

  pub passes_changed : (g : Part → Part) (p i k : ℕ) → HoldsPart m p i k →
      cut 0 (ends m) (changed_at k g m.table.parts) ≡ changed_at p (changed_at i g) (passes m)
  unfolding passes
  passes_changed g p i k h =
      let n = length_ends in
      let l : p < m.count = omega (arith, count_is_length, h.within) in
      let a = start_at p l in
      let b = end_at p l in
      let j : k ≡ get_or (0 ∷ ends m) p 0 + i = omega (arith, h.is) in
      ap (λ t. cut 0 (ends m) (changed_at t g m.table.parts)) j
      ∙ cut_changed g 0 (ends m) m.table.parts p i m.steps (omega arith) (omega (arith, h.is, h.before))

  -- The first n passes.
  pub rising_first : (n : ℕ) → n ≤ m.count → rising 0 (take n m.table.ends) ≡ true
  rising_first n l = ap (rising 0) (sym (take-take n m.count m.table.ends l)) ∙ rising_take n 0 (ends m) m.steps

  pub last_end_first : (n : ℕ) → n ≤ m.count → last_end 0 (take n m.table.ends) ≡ get_or (0 ∷ m.table.ends) n 0
  last_end_first n l = last_end_take n 0 m.table.ends (omega (arith, m.few, m.ended))

  pub start_within : (n : ℕ) → n ≤ m.count → get_or (0 ∷ m.table.ends) n 0 ≤ m.used
  start_within n l =
      let e = ap (last_end 0) (take-take n m.count m.table.ends l) in
      omega (arith, last_end_take_below n 0 (ends m) m.steps, last_end_first n l, m.full)

  pub passes_first : (n : ℕ) → n ≤ m.count → cut 0 (take n m.table.ends) m.table.parts ≡ take n (passes m)
  unfolding passes
  passes_first n l =
      ap (λ t. cut 0 t m.table.parts) (sym (take-take n m.count m.table.ends l))
      ∙ cut_take n 0 (ends m) m.table.parts

-- What the first n passes of a plan are.
pub ruleset first_passes = (count_is_length, rising_first, last_end_first, start_within, passes_first)
