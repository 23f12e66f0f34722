-- Every plan keeps the limits.
use Rattle.std.proofs.Common.{◌≡◌, ℕ, zero, suc, ◌+◌, ◌<◌, ◌≤◌, true, List, [], ◌∷◌, length, get_or, take, slice_range, sym, subst, arith}
use Rattle.std.proofs.lemmas.List.Edits.{length-between, get_or-between}
use Rattle.std.proofs.lemmas.Grind.{common_steps}
use Rattle.std.proofs.lemmas.Bool.Decides.{nat_tests}
use Rattle.plans.specs.declared.part.Part.{Part}
use Rattle.plans.specs.declared.plan.Plan.{Plan}
use Rattle.plans.specs.Cuts.{cut, rising, last_end}
use Rattle.plans.specs.Limits.{All, PassLength, AtMostOne, WithinLimits}
use Rattle.plans.specs.Model.{size}
use Rattle.plans.specs.Parts.{open_part}
use Rattle.plans.specs.Passes.{passes}
use Rattle.plans.proofs.Cutting.{rising_parts, last_end_above}
use Rattle.plans.proofs.Shape.{used_is_size, last_end_within}

all_from_places : {A : Type 0} (P : A → Type 0) (d : A) (xs : List A) → ((k : ℕ) → k < length xs → P (get_or xs k d)) → All P xs
all_from_places P d [] h = tt
all_from_places P d (x ∷ xs) h = (h zero (omega arith), all_from_places P d xs (λ k l. h (suc k) (omega arith)))

all_cut : {A : Type 0} (P : A → Type 0) (d : A) (s : ℕ) (es : List ℕ) (xs : List A) → rising s es ≡ true → last_end s es ≤ length xs
    → ((k : ℕ) → k < last_end s es → P (get_or xs k d)) → All (All P) (cut s es xs)
all_cut P d s [] xs r w h = tt
all_cut P d s (e ∷ es) xs r w h =
    let up = rising_parts s e es r in
    let above = last_end_above e es up.2 in
    let n = length-between xs s e (omega arith) in (
      all_from_places P d (slice_range xs s e) (λ k l.
          subst P (sym (get_or-between xs s e k d (omega arith))) (h (s + k) (omega arith))),
      all_cut P d e es xs up.2 w h,
    )

lengths_cut : (s : ℕ) (es : List ℕ) (xs : List Part) → rising s es ≡ true → last_end s es ≤ length xs → All PassLength (cut s es xs)
lengths_cut s [] xs r w = tt
lengths_cut s (e ∷ es) xs r w = (grind (arith, common_steps, nat_tests, length-between, last_end_above), lengths_cut e es xs (grind (arith, common_steps, nat_tests)) w)

module _ (m : Plan) where
  pub parts_few : size (passes m) ≤ 512
  parts_few = omega (arith, used_is_size m, m.room)

  pub within_limits : WithinLimits (passes m)
  unfolding passes
  within_limits =
      let es = take m.count m.table.ends in
      record {
        parts = parts_few;
        lengths = lengths_cut 0 es m.table.parts m.steps (last_end_within m);
        forecasts = all_cut AtMostOne (open_part 0) 0 es m.table.parts m.steps (last_end_within m) (λ k l. m.fits k (open_part 0) (omega (arith, m.full)));
      }
