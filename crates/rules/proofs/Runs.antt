-- The present run of missed passes, and runs of k, as a list of outcomes grows.
use Rattle.std.proofs.Common.{◌≡◌, ℕ, ◌+◌, ◌-◌, ◌<◌, ◌≤◌, Bool, true, false, ◌⊎◌, List, [], ◌∷◌, ◌++◌, length, get_or, sym, ◌∙◌, subst, inl, inr, arith}
use Rattle.std.proofs.lemmas.List.{length_push, get_or_push, get_or_append_left}
use Rattle.std.proofs.lemmas.Bool.{cases_lt, both_ways}
use Rattle.rules.specs.Outcomes.{Missed, SomeRun}

-- The present run is j: the last j passes are missed, and one before them, if there is one, is made.
pub record Present (os : List Bool) (j : ℕ) : Type 0 where
  pub there : j ≤ length os
  pub missed : (i : ℕ) → i < length os → length os ≤ i + j → Missed os i
  pub before : (i : ℕ) → i + j + 1 ≡ length os → get_or os i true ≡ true

pub present_at_start : Present [] 0
present_at_start = record { there = omega arith; missed = λ i h _. absurd (omega arith); before = λ i e. absurd (omega arith) }

pub present_after_made : (os : List Bool) → Present (os ++ true ∷ []) 0
present_after_made os =
    let l = length_push os true in
    record { there = omega arith; missed = λ i h g. absurd (omega arith); before = λ i e. get_or_push os true true i (omega arith) }

pub present_after_missed : (os : List Bool) (j : ℕ) → Present os j → Present (os ++ false ∷ []) (j + 1)
present_after_missed os j p =
    let l = length_push os false in
    record {
      there = omega arith;
      missed = λ i h g. elim (cases_lt i (length os)) [
        | inl lt ↦ get_or_append_left os (false ∷ []) true i lt ∙ p.missed i lt (omega arith)
        | inr ge ↦ get_or_push os false true i (omega arith)
      ];
      before = λ i e. get_or_append_left os (false ∷ []) true i (omega arith) ∙ p.before i (omega arith);
    }

present_is_run : (k : ℕ) (os : List Bool) → Present os k → SomeRun k os
present_is_run k os p = (length os - k, omega arith, λ d h. p.missed (length os - k + d) (omega arith) (omega arith))

pub run_completed : (k : ℕ) (os : List Bool) (j : ℕ) → j + 1 ≡ k → Present os j → SomeRun k (os ++ false ∷ [])
run_completed k os j full p =
    subst (λ n. SomeRun n (os ++ false ∷ [])) full (present_is_run (j + 1) (os ++ false ∷ []) (present_after_missed os j p))

pub run_stays : (k : ℕ) (os : List Bool) (x : Bool) → SomeRun k os → SomeRun k (os ++ x ∷ [])
run_stays k os x (i, there, missed) =
    let l = length_push os x in
    (i, omega arith, λ d h. get_or_append_left os (x ∷ []) true (i + d) (omega arith) ∙ missed d h)

pub no_run_in_fewer : (k : ℕ) (os : List Bool) → length os < k → SomeRun k os → ⊥
no_run_in_fewer k os h (i, there, missed) = omega arith

run_old_or_last : (k : ℕ) (os : List Bool) (x : Bool) → SomeRun k (os ++ x ∷ [])
    → SomeRun k os ⊎ ((i : ℕ) × (i + k ≡ length os + 1) × ((d : ℕ) → d < k → Missed (os ++ x ∷ []) (i + d)))
run_old_or_last k os x (i, there, missed) =
    let l = length_push os x in
    elim (cases_lt (length os) (i + k)) [
      | inl lt ↦ inr (i, omega arith, missed)
      | inr ge ↦ inl (i, ge, λ d h. sym (get_or_append_left os (x ∷ []) true (i + d) (omega arith)) ∙ missed d h)
    ]

pub no_run_after_made : (k : ℕ) (os : List Bool) → 1 ≤ k → (SomeRun k os → ⊥) → SomeRun k (os ++ true ∷ []) → ⊥
no_run_after_made k os h none run =
    elim (run_old_or_last k os true run) [
      | inl old ↦ none old
      | inr (i, end, missed) ↦
          both_ways (get_or (os ++ true ∷ []) (i + (k - 1)) true) (missed (k - 1) (omega arith))
          (get_or_push os true true (i + (k - 1)) (omega arith))
    ]

-- the pass before the present run is made, and a last run of k would hold it
pub no_run_after_missed : (k : ℕ) (os : List Bool) (j : ℕ) → Present os j → j + 1 < k
    → (SomeRun k os → ⊥) → SomeRun k (os ++ false ∷ []) → ⊥
no_run_after_missed k os j p h none run =
    elim (run_old_or_last k os false run) [
      | inl old ↦ none old
      | inr (i, end, missed) ↦
          both_ways (get_or (os ++ false ∷ []) (i + (k - (j + 2))) true) (missed (k - (j + 2)) (omega arith))
          (get_or_append_left os (false ∷ []) true (i + (k - (j + 2))) (omega arith) ∙ p.before (i + (k - (j + 2))) (omega arith))
    ]
