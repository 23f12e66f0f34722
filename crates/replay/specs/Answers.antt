-- What a record does to the plan, and the line that it prints.
use Rattle.std.specs.Prelude.{ℕ, true, false, if◌then◌else◌, ◌&&◌, List, [], length, Ok, Err, Result, ◌==◌, nat_le}
use Rattle.refusals.specs.declared.Refusal.{Refusal}
use Rattle.refusals.specs.declared.Refusal.TheVariants.{BadRule, UnknownByte}
use Rattle.scales.specs.Counts.{counts, counting}
use Rattle.rules.specs.Automaton.{Automaton}
use Rattle.rules.specs.Linear.{linear}
use Rattle.plans.specs.Model.{Model, Change, size, reply, after}
use Rattle.plans.specs.Model as TheModel
use Rattle.records.specs.declared.kind.Kind.{Kind}
use Rattle.records.specs.declared.kind.Kind.TheVariants as TheKinds
use Rattle.records.specs.declared.reader.Unread.{Unread}
use Rattle.records.specs.declared.record.Record.{Record}
use Rattle.records.specs.Reading.{Entry, entry}
use Rattle.replay.specs.declared.question.Question.{Question}
use Rattle.replay.specs.declared.question.RuleKind.{RuleKind}
use Rattle.replay.specs.declared.question.RuleKind.TheVariants as TheRules
use Rattle.replay.specs.declared.question.ScaleKind.{ScaleKind}
use Rattle.replay.specs.declared.question.ScaleKind.TheVariants as TheScales
use Rattle.replay.specs.Evaluations.{evaluation_line}
use Rattle.replay.specs.Fields.{byte_at, two_at, forecasts_of}
use Rattle.printing.specs.Lines.{refusal_line, end_line}
use Rattle.replay.specs.Questions.{question_of}
use Rattle.printing.specs.Values.{count_text}

-- What a settle record asks: a pass, a part, and 1 for up or 0 for down.
abbrev pub settling_of : List ℕ → Result Change Refusal
settling_of body =
    if byte_at body 3 == 1 then Ok (TheModel.Settle (two_at body 0) (byte_at body 2) true) else
    (if byte_at body 3 == 0 then Ok (TheModel.Settle (two_at body 0) (byte_at body 2) false) else Err UnknownByte)

-- The reply to a call on a plan, or to a record that asks for none.
abbrev pub change_reply : Result Change Refusal → Model → Result Unit Refusal
change_reply (Ok change) plan = reply change plan
change_reply (Err reason) plan = Err reason

-- The plan after it.
abbrev pub change_plan : Result Change Refusal → Model → Model
change_plan (Ok change) plan = after change plan
change_plan (Err reason) plan = plan

-- A call that is accepted prints nothing.
abbrev pub reply_line : ℕ → Result Unit Refusal → List ℕ
reply_line place (Ok done) = []
reply_line place (Err reason) = refusal_line place reason

-- The line of an evaluation by a rule, on the scale that is asked for.
abbrev pub scale_line : ℕ → Model → Automaton → ScaleKind → List ℕ
scale_line place plan rule TheScales.Count = evaluation_line counts rule counting (record {}) count_text 4096 plan place

-- The line of an evaluation by the rule that is asked for, which is declined outside its limits.
abbrev pub rule_line : ℕ → Model → RuleKind → ℕ → ScaleKind → List ℕ
rule_line place plan TheRules.Linear k scale =
    if nat_le 1 k && nat_le k 63 then scale_line place plan (linear k) scale else refusal_line place BadRule

-- The line of an evaluation record, which is declined where it names no known rule or scale.
abbrev pub question_line : ℕ → Model → Result Question Refusal → List ℕ
question_line place plan (Ok asked) = rule_line place plan asked.rule asked.k asked.scale
question_line place plan (Err reason) = refusal_line place reason

-- The line of a record.
abbrev pub line_by : Kind → ℕ → List ℕ → Model → List ℕ
line_by (TheKinds.Add n) place body plan = reply_line place (reply (TheModel.Add (forecasts_of body)) plan)
line_by TheKinds.Settle place body plan = reply_line place (change_reply (settling_of body) plan)
line_by TheKinds.Drop place body plan = reply_line place (reply TheModel.Drop plan)
line_by TheKinds.Evaluate place body plan = question_line place plan (question_of body)

-- The plan after a record: an evaluation leaves it as it was.
abbrev pub plan_by : Kind → List ℕ → Model → Model
plan_by (TheKinds.Add n) body plan = after (TheModel.Add (forecasts_of body)) plan
plan_by TheKinds.Settle body plan = change_plan (settling_of body) plan
plan_by TheKinds.Drop body plan = after TheModel.Drop plan
plan_by TheKinds.Evaluate body plan = plan

-- The line that a record prints on a plan.
abbrev pub record_line : Entry → Model → List ℕ
record_line entry plan = line_by entry.kind entry.place entry.body plan

-- The plan that a record leaves of a plan.
abbrev pub record_plan : Entry → Model → Model
record_plan entry plan = plan_by entry.kind entry.body plan

-- The line of what a reader hands out: a record that cannot be read is declined.
abbrev pub read_line : Result Record Unread → Model → List ℕ
read_line (Ok read) plan = record_line (entry read) plan
read_line (Err unread) plan = refusal_line unread.place unread.reason

-- The plan after it.
abbrev pub read_plan : Result Record Unread → Model → Model
read_plan (Ok read) plan = record_plan (entry read) plan
read_plan (Err unread) plan = plan

-- The last line.
abbrev pub closing_line : Model → List ℕ
closing_line plan = end_line (size plan) (length plan)
