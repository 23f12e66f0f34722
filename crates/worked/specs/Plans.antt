-- Worked plans, and what linear k gives on counts.
use Rattle.std.specs.Prelude.{◌≡◌, ℕ, Bool, true, false, ◌&&◌, List, [], ◌∷◌, ◌==◌}
use Rattle.evaluation.specs.Evaluation.{answer_of}
use Rattle.plans.specs.Model.{Change, Add, Settle, Drop, plan_after}
use Rattle.rules.specs.Linear.{linear}
use Rattle.scales.specs.Counts.{counts, counting}

-- The calls that make a plan, k, and how many patterns are kept, lost and aside.
pub record Row : Type 0 where
  pub calls : List Change
  pub k : ℕ
  pub kept : ℕ
  pub lost : ℕ
  pub aside : ℕ

-- A row by its calls, its k and its three numbers.
abbrev pub row : List Change → ℕ → ℕ → ℕ → ℕ → Row
row calls k kept lost aside = record { calls = calls; k = k; kept = kept; lost = lost; aside = aside }

-- A pass of one part.
abbrev pub single : Change
single = Add (0 ∷ [])

-- A pass of two parts.
abbrev pub double : Change
double = Add (0 ∷ 0 ∷ [])

-- The plans: none, single passes, double passes, a part settled down, a second settle and drops that are declined.
abbrev pub table : List Row
table =
    row [] 2 1 0 0
    ∷ row (single ∷ single ∷ single ∷ single ∷ []) 2 8 8 0
    ∷ row (single ∷ single ∷ single ∷ []) 3 7 1 0
    ∷ row (single ∷ single ∷ single ∷ []) 1 1 7 0
    ∷ row (double ∷ double ∷ []) 2 7 9 0
    ∷ row (single ∷ single ∷ single ∷ single ∷ Settle 1 0 false ∷ []) 2 2 6 0
    ∷ row (single ∷ single ∷ Settle 0 0 true ∷ Settle 0 0 false ∷ []) 1 1 1 0
    ∷ row (single ∷ double ∷ Drop ∷ Drop ∷ Drop ∷ single ∷ []) 1 1 1 0
    ∷ []

-- The answer at a place is this number.
abbrev pub gives : Row → ℕ → ℕ → Bool
gives r place n = (answer_of counts (linear r.k) counting (record {}) (plan_after r.calls) place).number == n

-- The three numbers of every row are what the definitions give.
abbrev pub right : List Row → Bool
right [] = true
right (r ∷ rs) = gives r 0 r.kept && (gives r 1 r.lost && (gives r 2 r.aside && right rs))

-- Every row is right.
abbrev pub Worked : Type 0
Worked = right table ≡ true
