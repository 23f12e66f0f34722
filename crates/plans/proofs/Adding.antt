-- What one more pass does to a plan.
use Rattle.std.proofs.Common.{◌≡◌, ℕ, zero, suc, ◌+◌, ◌-◌, ◌<◌, ◌≤◌, true, false, List, [], ◌∷◌, ◌++◌, map, length, get_or, take, drop, set, Ok, sym, ap, ◌∙◌, inl, inr, arith}
use Rattle.std.proofs.lemmas.Bool.{cases_lt}
use Rattle.std.proofs.lemmas.List.{take_more_set, length-map}
use Rattle.std.proofs.lemmas.Grind.{common_steps}
use Rattle.std.proofs.lemmas.Bool.Decides.{nat_tests}
use Rattle.plans.specs.declared.part.Part.{Part}
use Rattle.plans.specs.declared.plan.Plan.{Plan}
use Rattle.plans.specs.Cuts.{last_end, cut, rising, AtMostOne}
use Rattle.plans.specs.Lists.{laid}
use Rattle.plans.specs.Model.{Add, reply, after}
use Rattle.plans.specs.Parts.{one, open_part, over_one_lem}
use Rattle.plans.specs.Passes.{passes}
use Rattle.plans.proofs.Answering.{Admitted, add_accepted, after_accepted}
use Rattle.plans.proofs.Cutting.{rising_push, last_end_push, cut_push, cut_front}
use Rattle.plans.proofs.Laying.{length_laid, take_laid, piece_laid, get_or-laid_before, get_or-laid_in}
use Rattle.plans.proofs.Shape.{used_is_size, count_below_used}

none_over_one : (fs : List ℕ) (j : ℕ) → over_one_lem fs ≡ false → j < length fs → get_or fs j 0 ≤ one
none_over_one [] j o l = absurd (omega arith)
none_over_one (f ∷ fs) zero o l = grind (arith, common_steps, nat_tests)
none_over_one (f ∷ fs) (suc j) o l = grind (arith, common_steps, nat_tests, none_over_one fs j)

at_most_one_laid : (xs : List Part) (at : ℕ) (fs : List ℕ) → at ≤ length xs → AtMostOne xs at → over_one_lem fs ≡ false → AtMostOne (laid xs at (map open_part fs)) (at + length fs)
at_most_one_laid xs at fs w f o k d l =
    elim (cases_lt k at) [
      | inl a ↦ grind (arith, get_or-laid_before xs at (map open_part fs) k d, f k d)
      | inr b ↦ grind (arith, common_steps, get_or-laid_in xs at (map open_part fs) k d, none_over_one fs (k - at))
    ]

module _ (m : Plan) (fs : List ℕ) (accepted : reply (Add fs) (passes m) ≡ Ok tt) where
  admitted : Admitted fs (passes m)
  admitted = add_accepted fs (passes m) accepted

  pub count_below_places : m.count < 512
  count_below_places = omega (arith, count_below_used m, used_is_size m, admitted.some, admitted.room)

  pub end_within : m.used + length fs ≤ 512
  end_within = omega (arith, used_is_size m, admitted.room)

  pub length_added : length (laid m.table.parts m.used (map open_part fs)) ≡ 512
  length_added = grind (arith, common_steps, nat_tests, length_laid, end_within, m.whole)

  pub at_most_one_added : AtMostOne (laid m.table.parts m.used (map open_part fs)) (m.used + length fs)
  at_most_one_added = at_most_one_laid m.table.parts m.used fs (omega (arith, m.room, m.whole)) m.fits admitted.fit

  ends_added : take (m.count + 1) (set m.table.ends m.count (m.used + length fs)) ≡ take m.count m.table.ends ++ (m.used + length fs) ∷ []
  ends_added = take_more_set m.table.ends m.count (m.used + length fs) (omega (arith, count_below_places, m.ended))

  pub rising_added : rising 0 (take (m.count + 1) (set m.table.ends m.count (m.used + length fs))) ≡ true
  rising_added = grind (arith, common_steps, nat_tests, ends_added, rising_push, m.steps, m.full, admitted)

  pub last_end_added : last_end 0 (take (m.count + 1) (set m.table.ends m.count (m.used + length fs))) ≡ m.used + length fs
  last_end_added = grind (arith, common_steps, nat_tests, ends_added, last_end_push)

  pub passes_added : cut 0 (take (m.count + 1) (set m.table.ends m.count (m.used + length fs))) (laid m.table.parts m.used (map open_part fs)) ≡ after (Add fs) (passes m)
  unfolding passes
  passes_added =
      let es = take m.count m.table.ends in
      let e = m.used + length fs in
      let xs = m.table.parts in
      let ys = map open_part fs in
      let new = laid xs m.used ys in
      let n = length-map fs open_part in
      let le : m.used ≤ length xs = omega (arith, m.whole, m.room) in
      let lf : last_end 0 es ≤ m.used = omega (arith, m.full) in
      let len : e - last_end 0 es ≡ length ys = omega (arith, m.full) in
      let piece : take (e - last_end 0 es) (drop (last_end 0 es) new) ≡ ys =
      ap (λ t. take t (drop (last_end 0 es) new)) len
      ∙ ap (λ t. take (length ys) (drop t new)) m.full
      ∙ piece_laid xs m.used ys le in
      ap (λ t. cut 0 t new) ends_added
      ∙ cut_push 0 es e new
      ∙ ap (λ t. cut 0 es new ++ t ∷ []) piece
      ∙ ap (λ t. t ++ ys ∷ []) (cut_front 0 es new xs m.used m.steps lf (take_laid xs m.used ys le))
      ∙ sym (after_accepted (Add fs) (passes m) accepted)
