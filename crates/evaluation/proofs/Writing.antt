-- Lists whose front is written whole.
use Rattle.std.proofs.Common.{◌≡◌, ℕ, zero, suc, ◌+◌, ◌-◌, ◌<◌, List, ◌++◌, length, take, drop, get_or, ap, refl, ◌∙◌, arith}
use Rattle.std.proofs.lemmas.List.{get_or_append_left, get_or-append_right, get_or-drop, take-append-drop}
use Rattle.evaluation.specs.Evaluation.{second_written}
use Rattle.evaluation.specs.Written.{Written, Holds}

-- The first m places are written, and the others are as they were.
pub front_written : {V : Type 0} (d : V) (n m : ℕ) (f : ℕ → V) (was front : List V)
    → m ≡ n → length front ≡ m → Holds d f front → Written d n f was (front ++ drop m was)
front_written d n m f was front same len holds = (
  λ t h. get_or_append_left front (drop m was) d t (omega arith) ∙ holds t (omega arith),
  λ t h.
      let at : m + (t - m) ≡ t = omega arith in
      get_or-append_right front (drop m was) m t d len (omega arith) ∙ get_or-drop m was (t - m) d ∙ ap (λ i. get_or was i d) at,
)

-- They are written once there is a pass, and before that they too are as they were.
pub second_front_written : {V : Type 0} (d : V) (n m passes : ℕ) (f : ℕ → V) (was front : List V)
    → m ≡ n → length front ≡ m → (passes ≡ 0 → front ≡ take m was) → (0 < passes → Holds d f front)
    → Written d (second_written n passes) f was (front ++ drop m was)
second_front_written d n m zero f was front same len before after =
    (λ t h. absurd (omega arith), λ t h. ap (λ l. get_or l t d) (ap (λ l. l ++ drop m was) (before refl) ∙ take-append-drop m was))
second_front_written d n m (suc passes) f was front same len before after = front_written d n m f was front same len (after (omega arith))
