-- Sums and products modulo m depend on their terms and factors modulo m alone.
use Rattle.std.proofs.Common.{◌≡◌, ℕ, ◌+◌, ◌*◌, ◌%◌, sym, ap₂, ◌∙◌}
use native.Mathlib.Nat.{add-mod}
use Rattle.std.proofs.lemmas.Nat.{mul-mod}

pub add_congruent : (a b c d m : ℕ) → a % m ≡ c % m → b % m ≡ d % m → (a + b) % m ≡ (c + d) % m
add_congruent a b c d m p q = add-mod a b m ∙ ap₂ (λ x y. (x + y) % m) p q ∙ sym (add-mod c d m)

pub mul_congruent : (a b c d m : ℕ) → a % m ≡ c % m → b % m ≡ d % m → (a * b) % m ≡ (c * d) % m
mul_congruent a b c d m p q = mul-mod a b m ∙ ap₂ (λ x y. (x * y) % m) p q ∙ sym (mul-mod c d m)
