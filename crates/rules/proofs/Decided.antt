-- The tests on outcomes decide the relations.
use Rattle.std.proofs.Common.{ℕ, ◌+◌, ◌<◌, ◌≤◌, Bool, true, ◌&&◌, leb, List, length, get_or, Decides, refl, arith}
use Rattle.std.proofs.lemmas.Bool.{not-true, not_from_false, leb-true, le-leb}
use Rattle.std.proofs.lemmas.Bool.Decides.{Decides-like, Decides-and, Decides-below_and, Decides-below_or}
use Rattle.rules.specs.Outcomes.{Missed, SomeRun, some_below, every_below, missed, some_run}

decides_missed : (os : List Bool) (i : ℕ) → Decides (missed os i) (Missed os i)
decides_missed os i = (not-true (get_or os i true), not_from_false (get_or os i true))

-- the k positions are those that `at` gives
decides_all_missed : (os : List Bool) (at : ℕ → ℕ) (k : ℕ)
    → Decides (every_below k (λ d. missed os (at d))) ((d : ℕ) → d < k → Missed os (at d))
decides_all_missed os at k =
    Decides-below_and (λ d. missed os (at d)) (λ d. Missed os (at d)) (λ n. every_below n (λ d. missed os (at d)))
    (λ d. decides_missed os (at d)) refl (λ _. refl) k

pub decides_run : (k : ℕ) (os : List Bool) → Decides (some_run k os) (SomeRun k os)
decides_run k os =
    Decides-like (some_run k os) (λ (i, below, (there, all)). (i, there, all)) (λ (i, there, all). (i, omega arith, (there, all)))
    (Decides-below_or test Here (λ n. some_below n test) decides_here refl (λ _. refl) (length os + 1))
  where
    test : ℕ → Bool
    test i = leb (i + k) (length os) && every_below k (λ d. missed os (i + d))

    Here : ℕ → Type 0
    Here i = (i + k ≤ length os) × ((d : ℕ) → d < k → Missed os (i + d))

    decides_here : (i : ℕ) → Decides (test i) (Here i)
    decides_here i = Decides-and _ _ (leb-true (i + k) (length os), le-leb (i + k) (length os)) (decides_all_missed os (λ d. i + d) k)
