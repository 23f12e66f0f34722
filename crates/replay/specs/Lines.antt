-- What carrying out a record does to the text.
use Rattle.std.specs.Prelude.{◌≡◌, ℕ, List, ◌++◌, Ok, Err, Result, String, string_bytes}
use Rattle.printing.specs.Lines.{refusal_line}
use Rattle.replay.specs.declared.unanswered.Unanswered.{Unanswered}
use Rattle.replay.specs.declared.unanswered.Unanswered.TheVariants.{Declined, Memory}

-- The line of a record at a place is printed, or it is that of a refusal and nothing is printed yet; where memory runs out,
-- nothing is said.
abbrev pub Carries : {Z : Type 0} → Result Unit Unanswered → String Z → String Z → ℕ → List ℕ → Type 0
Carries (Ok done) before now place line = string_bytes now ≡ string_bytes before ++ line
Carries (Err (Declined reason)) before now place line = (string_bytes now ≡ string_bytes before) × (line ≡ refusal_line place reason)
Carries (Err (Memory error)) before now place line = Unit {0}
