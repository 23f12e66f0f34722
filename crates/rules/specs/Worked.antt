-- The verdicts on every list of a few outcomes, counted from the definitions.
use Rattle.std.specs.Prelude.{◌≡◌, ℕ, zero, suc, ◌+◌, Bool, true, false, List, [], ◌∷◌, ◌++◌, map}
use Rattle.rules.specs.declared.verdict.Verdict.{Verdict}
use Rattle.rules.specs.declared.verdict.Verdict.TheVariants.{Kept, Lost, Aside}
use Rattle.rules.specs.Linear.{linear_judges}

-- Every list of n outcomes.
abbrev pub lists_of : ℕ → List (List Bool)
lists_of zero = [] ∷ []
lists_of (suc n) = map (λ outcomes. true ∷ outcomes) (lists_of n) ++ map (λ outcomes. false ∷ outcomes) (lists_of n)

-- How many lists are kept, lost and aside.
pub record Tally : Type 0 where
  pub kept : ℕ
  pub lost : ℕ
  pub aside : ℕ

-- A tally by its three numbers.
abbrev pub tally : ℕ → ℕ → ℕ → Tally
tally kept lost aside = record { kept = kept; lost = lost; aside = aside }

-- The tally after one more verdict.
abbrev pub and_one : Verdict → Tally → Tally
and_one Kept t = tally (t.kept + 1) t.lost t.aside
and_one Lost t = tally t.kept (t.lost + 1) t.aside
and_one Aside t = tally t.kept t.lost (t.aside + 1)

-- The tally of the verdicts on the given lists.
abbrev pub tallied : (List Bool → Verdict) → List (List Bool) → Tally
tallied judges [] = tally 0 0 0
tallied judges (outcomes ∷ more) = and_one (judges outcomes) (tallied judges more)

-- Linear on four outcomes with k = 2, on three with k = 3, and on none.
pub record WorkedLinear : Type 0 where
  pub two_of_four : tallied (linear_judges 2) (lists_of 4) ≡ tally 8 8 0
  pub three_of_three : tallied (linear_judges 3) (lists_of 3) ≡ tally 7 1 0
  pub two_of_none : tallied (linear_judges 2) (lists_of 0) ≡ tally 1 0 0
