-- An input has a text, since each record takes the reader on.
use Rattle.std.proofs.Common.{◌≡◌, ℕ, zero, suc, ◌+◌, ◌<◌, ◌≤◌, List, ◌++◌, length, Some, None, Ok, Err, Option, Result, refl, arith}
use Rattle.refusals.specs.declared.Refusal.{Refusal}
use Rattle.plans.specs.Model.{Model}
use Rattle.records.specs.Reading.{Entry, next_at}
use Rattle.records.proofs.Framing.{none_from_end, told_within}
use Rattle.replay.specs.Answers.{record_line, record_plan, closing_line}
use Rattle.printing.specs.Lines.{refusal_line}
use Rattle.replay.specs.Says.{Says, ended, stopped, answered}

-- The text from a place, given one from every later place.
text_from : (input : List ℕ) (place : ℕ) (plan : Model) → ((q : ℕ) (m : Model) → place < q → place < length input → (text : List ℕ) × Says input q m text)
    → (told : Option (Result Entry Refusal)) → next_at input place ≡ told → (text : List ℕ) × Says input place plan text
text_from input place plan later None e = (closing_line plan, ended e)
text_from input place plan later (Some (Err reason)) e = (refusal_line place reason ++ closing_line plan, stopped e)
text_from input place plan later (Some (Ok entry)) e =
    let rest = later (place + 1 + length entry.body) (record_plan entry plan) (omega arith) (told_within input place (Ok entry) e) in
    (record_line entry plan ++ rest.0, answered e rest.1)

text_within : (turns : ℕ) (input : List ℕ) (place : ℕ) (plan : Model) → length input ≤ place + turns → (text : List ℕ) × Says input place plan text
text_within zero input place plan h =
    (closing_line plan, ended (none_from_end input place (omega arith)))
text_within (suc turns) input place plan h =
    text_from input place plan (λ q m onward within. text_within turns input q m (omega arith)) (next_at input place) refl

pub some_text : (input : List ℕ) (place : ℕ) (plan : Model) → (text : List ℕ) × Says input place plan text
some_text input place plan = text_within (length input) input place plan (omega arith)
