-- An input has one text.
use Rattle.std.proofs.Common.{◌≡◌, ℕ, ◌+◌, List, ◌++◌, length, sym, refl, subst}
use Rattle.plans.specs.Model.{Model}
use Rattle.records.specs.Reading.{Entry}
use Rattle.replay.specs.Answers.{record_line, record_plan}
use Rattle.replay.specs.Says.{Says, ended, stopped, answered}

pub only_text : {input : List ℕ} {place : ℕ} {plan : Model} {a b : List ℕ} → Says input place plan a → Says input place plan b → a ≡ b
only_text (ended e) (ended f) = refl
only_text (ended e) (stopped f) = cc
only_text (ended e) (answered f h) = cc
only_text (stopped e) (ended f) = cc
only_text (stopped e) (stopped f) = cc
only_text (stopped e) (answered f h) = cc
only_text (answered e h) (ended f) = cc
only_text (answered e h) (stopped f) = cc
only_text {input} (answered {place = p} {plan = m} {entry = x} e h) (answered {entry = y} {more = more} f k) =
    let same : x ≡ y = cc in
    let rest = only_text h (subst (λ (z : Entry). Says input (p + 1 + length z.body) (record_plan z m) more) (sym same) k) in
    λ i. record_line (same i) m ++ rest i
