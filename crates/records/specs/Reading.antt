-- What the bytes of an input say, record by record.
use Rattle.std.specs.Prelude.{◌≡◌, ℕ, ◌+◌, ◌*◌, ◌/◌, ◌≤◌, if◌then◌else◌, List, length, take, drop, Some, None, Ok, Err, Option, Result, nat_le, IfSome, IfOk, IfErr, nat_lt, slice_index}
use Rattle.refusals.specs.declared.Refusal.{Refusal}
use Rattle.refusals.specs.declared.Refusal.TheVariants.{UnknownKind, CutRecord}
use Rattle.records.specs.declared.kind.Kind.{Kind}
use Rattle.records.specs.declared.kind.Kind.TheVariants as TheKinds
use Rattle.records.specs.declared.record.Record.{Record}
use Rattle.records.specs.declared.record.Record.TheVariants as TheRecords
use Rattle.records.specs.declared.reader.Reader.{Reader}
use Rattle.records.specs.declared.reader.Unread.{Unread}
use Rattle.records.specs.Kinds.{kind_of, width_of}

-- A record by what it says: its kind, where its byte of kind stands, and the bytes of its body.
pub record Entry : Type 0 where
  pub kind : Kind
  pub place : ℕ
  pub body : List ℕ

-- The body is as long as the kind has it, and an add has at most eight forecasts.
abbrev pub BodyFits : Kind → List ℕ → Type 0
BodyFits (TheKinds.Add n) body = (length body ≡ 4 * n) × (n ≤ 8)
BodyFits TheKinds.Settle body = length body ≡ 4
BodyFits TheKinds.Drop body = length body ≡ 0
BodyFits TheKinds.Evaluate body = length body ≡ 3

-- A record whose body is whole.
abbrev pub Whole : Entry → Type 0
Whole e = BodyFits e.kind e.body

-- What a record that is handed out says. The forecasts of an add are its body in fours.
abbrev pub entry : Record → Entry
entry (TheRecords.Add p b) = record { kind = TheKinds.Add (length b.now / 4); place = p; body = b.now }
entry (TheRecords.Settle p b) = record { kind = TheKinds.Settle; place = p; body = b.now }
entry (TheRecords.Drop p b) = record { kind = TheKinds.Drop; place = p; body = b.now }
entry (TheRecords.Evaluate p b) = record { kind = TheKinds.Evaluate; place = p; body = b.now }

-- What a record that is read says, or why it cannot be.
abbrev pub handed : Result Record Refusal → Result Entry Refusal
handed (Ok r) = Ok (entry r)
handed (Err e) = Err e

-- The record of a kind at a place: the bytes behind its byte of kind, as many as the kind has, all within the input.
abbrev pub framed : List ℕ → ℕ → Option Kind → Result Entry Refusal
framed input place None = Err UnknownKind
framed input place (Some k) =
    if nat_le (place + 1 + width_of k) (length input)
    then Ok (record { kind = k; place = place; body = take (width_of k) (drop (place + 1) input) })
    else Err CutRecord

-- The record that begins at a place of the input.
abbrev pub reading : List ℕ → ℕ → Result Entry Refusal
reading input place = framed input place (kind_of (slice_index input place))

-- What a reader at a place tells: the record there, or why it cannot be read; nothing at the end.
abbrev pub next_at : List ℕ → ℕ → Option (Result Entry Refusal)
next_at input place = if nat_lt place (length input) then Some (reading input place) else None

-- What the reader replies, by what it says; none at the end.
abbrev pub told : Option (Result Record Unread) → Option (Result Entry Refusal)
told None = None
told (Some (Ok r)) = Some (Ok (entry r))
told (Some (Err u)) = Some (Err u.reason)

-- Where a reader stands once it has told this: behind the record, at the end after a refusal.
abbrev pub behind : ℕ → ℕ → Option (Result Entry Refusal) → ℕ
behind place end None = place
behind place end (Some (Ok e)) = place + 1 + length e.body
behind place end (Some (Err r)) = end

-- Where a reader stands after the record at a place.
abbrev pub place_after : List ℕ → ℕ → ℕ
place_after input place = behind place (length input) (next_at input place)

-- One call of a reader's `next`: it replies with what there is to tell at its place, hands out whole records only, names that
-- place where it declines, and goes on behind it in the same input.
pub record ReadsOne (old : Reader) (reply : Option (Result Record Unread)) (new : Reader) : Type 0 where
  pub tells : told reply ≡ next_at old.input.now old.place
  pub whole : IfSome reply (λ read. IfOk read (λ r. Whole (entry r)))
  pub names : IfSome reply (λ read. IfErr read (λ unread. unread.place ≡ old.place))
  pub same : new.input.now ≡ old.input.now
  pub after : new.place ≡ place_after old.input.now old.place
