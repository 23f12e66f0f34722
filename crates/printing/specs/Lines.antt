-- The lines that are printed.
use Rattle.std.specs.Prelude.{ℕ, List, ◌++◌, codes, decimal}
use Rattle.refusals.specs.declared.Refusal.{Refusal}
use Rattle.refusals.specs.Reasons.{number}

-- `R`, the place of a declined record and the number of the reason.
abbrev pub refusal_line : ℕ → Refusal → List ℕ
refusal_line place reason = codes "R " ++ decimal place ++ codes " " ++ decimal (number reason) ++ codes "\n"

-- `A`, the place of an evaluation and the texts of its answers: kept, lost and aside.
abbrev pub answer_line : ℕ → List ℕ → List ℕ → List ℕ → List ℕ
answer_line place kept lost aside =
    codes "A " ++ decimal place ++ codes " " ++ kept ++ codes " " ++ lost ++ codes " " ++ aside ++ codes "\n"

-- `E`, the number of parts and the number of passes.
abbrev pub end_line : ℕ → ℕ → List ℕ
end_line parts passes = codes "E " ++ decimal parts ++ codes " " ++ decimal passes ++ codes "\n"
