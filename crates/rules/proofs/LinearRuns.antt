-- Runs settle what linear's states say, and what its definition says.
use Rattle.std.proofs.Common.{◌≡◌, ℕ, ◌+◌, ◌<◌, ◌≤◌, Bool, true, false, cond, List, [], ◌∷◌, ◌++◌, Decides, refl, inl, inr, arith}
use Rattle.std.proofs.lemmas.Bool.{cases_lt}
use Rattle.std.proofs.lemmas.Bool.Decides.{nat_tests, not_from_Decides}
use Rattle.rules.specs.declared.verdict.Verdict.{Verdict}
use Rattle.rules.specs.declared.verdict.Verdict.TheVariants.{Kept, Lost}
use Rattle.rules.specs.Judgement.{reached, judgement}
use Rattle.rules.specs.Linear.{linear_step, linear_verdict, linear, linear_judges, LinearSettles}
use Rattle.rules.specs.Outcomes.{SomeRun, some_run}
use Rattle.rules.proofs.Decided.{decides_run}
use Rattle.rules.proofs.Runs.{Present, present_at_start, present_after_made, present_after_missed, run_completed, run_stays, no_run_in_fewer, no_run_after_made, no_run_after_missed}
use Rattle.rules.proofs.Settling.{settles_kept, settles_lost}
use Rattle.rules.proofs.Stepping.{said_of_reached}

-- What a state says of the outcomes so far.
data Says (k : ℕ) (os : List Bool) (s : ℕ) : Type 0 where
  running : s < k → Present os s → (SomeRun k os → ⊥) → Says k os s
  over : s ≡ k → SomeRun k os → Says k os s

kept_where_none : (k : ℕ) (os : List Bool) {v : Verdict} → v ≡ Kept → (SomeRun k os → ⊥) → LinearSettles k os v
kept_where_none k os is none = settles_kept _ is none none (λ a. a)

lost_where_some : (k : ℕ) (os : List Bool) {v : Verdict} → v ≡ Lost → SomeRun k os → LinearSettles k os v
lost_where_some k os is run = settles_lost _ is (λ none. none run) run (λ a. a)

module _ (k : ℕ) (least : 1 ≤ k) where
  first_says : Says k [] 0
  first_says = running (omega arith) present_at_start (no_run_in_fewer k [] (omega arith))

  step_says : (os : List Bool) (s : ℕ) (x : Bool) → Says k os s → Says k (os ++ x ∷ []) (linear_step k s x)
  step_says os s true (running h p none) =
      let e : linear_step k s true ≡ 0 = grind (arith, nat_tests) in
      rw e (running (omega arith) (present_after_made os) (no_run_after_made k os least none))
  step_says os s false (running h p none) =
      let e : linear_step k s false ≡ s + 1 = grind (arith, nat_tests) in
      rw e (elim (cases_lt (s + 1) k) [
        | inl lt ↦ running lt (present_after_missed os s p) (no_run_after_missed k os s p lt none)
        | inr ge ↦ let full : s + 1 ≡ k = omega arith in over full (run_completed k os s full p)
      ])
  step_says os s x (over h run) =
      let e : linear_step k s x ≡ k = grind (arith, nat_tests) in
      over e (run_stays k os x run)

  verdict_settled : (os : List Bool) (s : ℕ) → Says k os s → LinearSettles k os (linear_verdict k s)
  verdict_settled os s (running h p none) = kept_where_none k os (grind (arith, nat_tests)) none
  verdict_settled os s (over h run) = lost_where_some k os (grind (arith, nat_tests)) run

pub judgement_settled : (k : ℕ) (os : List Bool) → 1 ≤ k → LinearSettles k os (judgement (linear k) os)
judgement_settled k os least =
    verdict_settled k least os (reached (linear k) 0 os) (said_of_reached (linear k) (Says k) (step_says k least) (first_says k least) os)

pub definition_settled : (k : ℕ) (os : List Bool) → LinearSettles k os (linear_judges k os)
definition_settled k os = by_test (some_run k os) (decides_run k os)
  where
    by_test : (test : Bool) → Decides test (SomeRun k os) → LinearSettles k os (cond test Lost Kept)
    by_test true d = lost_where_some k os refl (d.0 refl)
    by_test false d = kept_where_none k os refl (not_from_Decides false d refl)
