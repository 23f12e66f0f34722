-- What answering a record, being stopped by one, and coming to the end do to the text so far.
use Rattle.std.proofs.Common.{arith, ◌≡◌, ℕ, ◌+◌, List, [], ◌++◌, length, Some, None, Ok, Err, Option, Result, sym, ap, ◌∙◌, subst, append_assoc}
use Rattle.refusals.specs.declared.Refusal.{Refusal}
use Rattle.plans.specs.Model.{Model}
use Rattle.records.specs.declared.reader.Reader.{Reader}
use Rattle.records.specs.declared.reader.Unread.{Unread}
use Rattle.records.specs.declared.record.Record.{Record}
use Rattle.records.specs.Reading.{Entry, entry, next_at, told, behind, place_after, ReadsOne}
use Rattle.records.proofs.Framing.{none_from_end}
use Rattle.replay.specs.Answers.{record_line, record_plan, read_line, read_plan, closing_line}
use Rattle.printing.specs.Lines.{refusal_line}
use Rattle.replay.specs.Says.{Says, ended, stopped, answered}
use Rattle.replay.proofs.OnlyText.{only_text}

-- What is printed so far, and then what the rest of the input is answered with, is what the whole input is answered with.
abbrev pub SoFar : List ℕ → ℕ → Model → List ℕ → Type 0
SoFar input place plan out = (more : List ℕ) → Says input place plan more → Says input 0 [] (out ++ more)

-- From the place p to the place q, where the reader goes next.
module _ (input : List ℕ) (p q : ℕ) (plan : Model) (out : List ℕ) (goes : q ≡ place_after input p) (so_far : SoFar input p plan out) where
  so_far_answered : (told : Entry) → next_at input p ≡ Some (Ok told) → SoFar input q (record_plan told plan) (out ++ record_line told plan)
  so_far_answered told tells more h =
      let there : q ≡ p + 1 + length told.body = goes ∙ ap (behind p (length input)) tells in
      let rest : Says input (p + 1 + length told.body) (record_plan told plan) more = subst (λ k. Says input k (record_plan told plan) more) there h in
      subst (Says input 0 []) (sym (append_assoc out (record_line told plan) more)) (so_far _ (answered tells rest))

  so_far_stopped : (reason : Refusal) → next_at input p ≡ Some (Err reason) → SoFar input q plan (out ++ refusal_line p reason)
  so_far_stopped reason tells more h =
      let there : q ≡ length input = goes ∙ ap (behind p (length input)) tells in
      let last : more ≡ closing_line plan = only_text h (ended (none_from_end input q (omega (arith, there)))) in
      subst (Says input 0 []) (sym (append_assoc out (refusal_line p reason) more)) (so_far _ (subst (λ t. Says input p plan (refusal_line p reason ++ t)) (sym last) (stopped tells)))

-- One call of a reader in the input.
module _ (input : List ℕ) (old new : Reader) (same : old.input.now ≡ input) (plan : Model) (out : List ℕ) (so_far : SoFar input old.place plan out) where
  -- What is handed out is answered.
  pub read_on : (read : Result Record Unread) (new_plan : Model) (new_out : List ℕ) → ReadsOne old (Some read) new
      → new_plan ≡ read_plan read plan → new_out ≡ out ++ read_line read plan → SoFar input new.place new_plan new_out
  read_on read new_plan new_out step planned put = rw (planned, put) (on read step)
    where
      goes : (reply : Option (Result Record Unread)) → ReadsOne old reply new → new.place ≡ place_after input old.place
      goes reply step = step.after ∙ ap (λ i. place_after i old.place) same

      tells : (reply : Option (Result Record Unread)) → ReadsOne old reply new → next_at input old.place ≡ told reply
      tells reply step = ap (λ i. next_at i old.place) (sym same) ∙ sym step.tells

      on : (read : Result Record Unread) → ReadsOne old (Some read) new → SoFar input new.place (read_plan read plan) (out ++ read_line read plan)
      on (Ok read) step = so_far_answered input old.place new.place plan out (goes _ step) so_far (entry read) (tells _ step)
      on (Err unread) step =
          subst (λ p. SoFar input new.place plan (out ++ refusal_line p unread.reason)) (sym step.names)
          (so_far_stopped input old.place new.place plan out (goes _ step) so_far unread.reason (tells _ step))

  -- At the end the last line makes the text whole.
  pub read_all : (text : List ℕ) → ReadsOne old None new → text ≡ out ++ closing_line plan → Says input 0 [] text
  read_all text step put = rw put (so_far _ (ended (ap (λ i. next_at i old.place) (sym same) ∙ sym step.tells)))
