-- What holds of every record that is read, and where there is something to read.
use Rattle.std.proofs.Common.{◌≡◌, ℕ, ◌<◌, ◌≤◌, List, length, Some, None, Ok, Result, arith}
use Rattle.std.proofs.lemmas.Bool.Decides.{nat_tests}
use Rattle.std.proofs.lemmas.Grind.{common_steps}
use Rattle.refusals.specs.declared.Refusal.{Refusal}
use Rattle.records.specs.Reading.{Entry, Whole, next_at}

-- From the end of the input on there is nothing to read.
pub none_from_end : (input : List ℕ) (place : ℕ) → length input ≤ place → next_at input place ≡ None
none_from_end input place h = grind (arith, nat_tests)

-- Every record that a reader tells is whole.
pub read_whole : (input : List ℕ) (place : ℕ) (e : Entry) → next_at input place ≡ Some (Ok e) → Whole e
read_whole input place e told = grind (arith, common_steps)

-- What a reader tells begins within the input.
pub told_within : (input : List ℕ) (place : ℕ) (r : Result Entry Refusal) → next_at input place ≡ Some r → place < length input
told_within input place r told = grind (arith, nat_tests)
