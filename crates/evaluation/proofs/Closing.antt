-- Totals that agree on a rule's states come to the same totals and sums.
use Rattle.std.proofs.Common.{◌≡◌, ℕ, zero, suc, ◌<◌, List, [], ◌∷◌, length, get_or, refl, sym, ap, ◌∙◌, arith}
use Rattle.rules.specs.Automaton.{Automaton}
use Rattle.scales.specs.declared.scale.Scale.{Ghosts as ScaleMeaning}
use Rattle.sums.specs.Chain.{begun, reaching, judged, after_pass, closing_from, closing}
use Rattle.evaluation.specs.Written.{Holds}

module _ {V : Type 0} (scale : ScaleMeaning V) (rule : Automaton) where
  -- New totals come from the old totals below n alone.
  reaching_same : (f g : ℕ → V) (made missed : V) (n t : ℕ) → ((s : ℕ) → s < n → f s ≡ g s)
      → reaching scale rule f made missed n t ≡ reaching scale rule g made missed n t
  reaching_same f g made missed zero t same = refl
  reaching_same f g made missed (suc n) t same =
      let before : reaching scale rule f made missed n t ≡ reaching scale rule g made missed n t =
      reaching_same f g made missed n t (λ s h. same s (omega arith)) in
      let at : f n ≡ g n = same n (omega arith) in
      cc

  closing_same : {A : Type 0} (up down : A → V) (f g : ℕ → V) (ps : List (List A)) (t : ℕ) → t < rule.states
      → ((s : ℕ) → s < rule.states → f s ≡ g s) → closing_from scale rule up down f ps t ≡ closing_from scale rule up down g ps t
  closing_same up down f g [] t lt same = same t lt
  closing_same up down f g (p ∷ ps) t lt same =
      closing_same up down (after_pass scale rule up down p f) (after_pass scale rule up down p g) ps t lt
      (λ s h. reaching_same f g _ _ rule.states s same)

  -- The passes that are left make the closing totals of what a list holds.
  pub record Closes {A : Type 0} (up down : A → V) (plan left : List (List A)) (totals : List V) : Type 0 where
    pub at : (t : ℕ) → t < rule.states → closing_from scale rule up down (λ s. get_or totals s scale.zero) left t ≡ closing scale rule up down plan t

  pub begun_closes : {A : Type 0} (up down : A → V) (plan left : List (List A)) (totals : List V)
      → left ≡ plan → length totals ≡ rule.states → Holds scale.zero (begun scale rule) totals → Closes up down plan left totals
  begun_closes up down plan left totals all len hold =
      record {
        at = λ t h. ap (λ ps. closing_from scale rule up down (λ s. get_or totals s scale.zero) ps t) all
            ∙ closing_same up down (λ s. get_or totals s scale.zero) (begun scale rule) plan t h (λ s k. hold s (omega arith));
      }

  -- A pass less is left of them where the list holds the totals after that pass.
  pub carried_closes : {A : Type 0} (up down : A → V) (plan passes left : List (List A)) (pass : List A) (was is : List V)
      → Closes up down plan passes was → passes ≡ pass ∷ left
      → length is ≡ rule.states → Holds scale.zero (after_pass scale rule up down pass (λ s. get_or was s scale.zero)) is
      → Closes up down plan left is
  carried_closes up down plan passes left pass was is before split len hold =
      record {
        at = λ t lt.
            closing_same up down (λ s. get_or is s scale.zero) (after_pass scale rule up down pass (λ s. get_or was s scale.zero)) left t lt
            (λ s h. hold s (omega arith))
            ∙ sym (ap (λ ps. closing_from scale rule up down (λ s. get_or was s scale.zero) ps t) split) ∙ before.at t lt;
      }

  -- With none left, the list holds them.
  pub closes_with : {A : Type 0} (up down : A → V) (plan left : List (List A)) (totals : List V)
      → Closes up down plan left totals → left ≡ [] → length totals ≡ rule.states → Holds scale.zero (closing scale rule up down plan) totals
  closes_with up down plan left totals closes none len t h =
      sym (ap (λ ps. closing_from scale rule up down (λ s. get_or totals s scale.zero) ps t) none) ∙ closes.at t (omega arith)

  pub judged_same : (f g : ℕ → V) (n k : ℕ) → ((s : ℕ) → s < n → f s ≡ g s) → judged scale rule f n k ≡ judged scale rule g n k
  judged_same f g zero k same = refl
  judged_same f g (suc n) k same =
      let before : judged scale rule f n k ≡ judged scale rule g n k = judged_same f g n k (λ s h. same s (omega arith)) in
      let at : f n ≡ g n = same n (omega arith) in
      cc

  -- The sums of totals that a list holds are those of what it holds.
  pub sums_same : (f : ℕ → V) (totals sums : List V) → length totals ≡ rule.states → Holds scale.zero f totals
      → Holds scale.zero (judged scale rule (λ s. get_or totals s scale.zero) (length totals)) sums
      → Holds scale.zero (judged scale rule f rule.states) sums
  sums_same f totals sums len hold summed t h =
      summed t h ∙ judged_same (λ s. get_or totals s scale.zero) f (length totals) t hold ∙ ap (λ n. judged scale rule f n t) len
