-- The text that an input is answered with, from a place on and from a plan.
use Rattle.std.specs.Prelude.{◌≡◌, ℕ, ◌+◌, List, ◌++◌, length, Some, None, Ok, Err}
use Rattle.refusals.specs.declared.Refusal.{Refusal}
use Rattle.plans.specs.Model.{Model}
use Rattle.records.specs.Reading.{Entry, next_at}
use Rattle.replay.specs.Answers.{record_line, record_plan, closing_line}
use Rattle.printing.specs.Lines.{refusal_line}

-- From a place of the input on, with the plan as it is there, this is the text.
pub data Says (input : List ℕ) : ℕ → Model → List ℕ → Type 0 where
  -- At the end of the input there is the last line.
  ended : {place : ℕ} {plan : Model} → next_at input place ≡ None → Says input place plan (closing_line plan)
  -- A record that cannot be read is declined, and nothing more is read.
  stopped : {place : ℕ} {plan : Model} {reason : Refusal} → next_at input place ≡ Some (Err reason)
      → Says input place plan (refusal_line place reason ++ closing_line plan)
  -- A record prints its line, and the text goes on behind it, with the plan that it leaves.
  answered : {place : ℕ} {plan : Model} {entry : Entry} {more : List ℕ} → next_at input place ≡ Some (Ok entry)
      → Says input (place + 1 + length entry.body) (record_plan entry plan) more
      → Says input place plan (record_line entry plan ++ more)

-- An input has at most one text.
abbrev pub OneText : Type 0
OneText = (input : List ℕ) (place : ℕ) (plan : Model) (one other : List ℕ) → Says input place plan one → Says input place plan other → one ≡ other

-- An input has a text.
abbrev pub SomeText : Type 0
SomeText = (input : List ℕ) (place : ℕ) (plan : Model) → (text : List ℕ) × Says input place plan text
