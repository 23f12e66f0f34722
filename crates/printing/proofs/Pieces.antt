-- Texts put one after another. Two facts on record; no proof cites them now.
use Rattle.std.proofs.Common.{◌≡◌, ℕ, List, ◌++◌, ap, ◌∙◌, append_assoc}

pub two : (s₀ s₁ s₂ a b : List ℕ) → s₁ ≡ s₀ ++ a → s₂ ≡ s₁ ++ b → s₂ ≡ s₀ ++ (a ++ b)
two s₀ s₁ s₂ a b p q = q ∙ ap (λ s. s ++ b) p ∙ append_assoc s₀ a b

pub five : (s₀ s₁ s₂ s₃ s₄ s₅ a b c d e : List ℕ)
    → s₁ ≡ s₀ ++ a → s₂ ≡ s₁ ++ b → s₃ ≡ s₂ ++ c → s₄ ≡ s₃ ++ d → s₅ ≡ s₄ ++ e → s₅ ≡ s₀ ++ (a ++ (b ++ (c ++ (d ++ e))))
five s₀ s₁ s₂ s₃ s₄ s₅ a b c d e p q r s t =
    two s₀ s₁ s₅ a (b ++ (c ++ (d ++ e))) p (two s₁ s₂ s₅ b (c ++ (d ++ e)) q (two s₂ s₃ s₅ c (d ++ e) r (two s₃ s₄ s₅ d e s t)))
