-- What an evaluation record asks, by the bytes of its body: the rule, its k and the scale.
use Rattle.std.specs.Prelude.{ℕ, if◌then◌else◌, List, Some, None, Ok, Err, Option, Result, ◌==◌}
use Rattle.refusals.specs.declared.Refusal.{Refusal}
use Rattle.refusals.specs.declared.Refusal.TheVariants.{UnknownByte}
use Rattle.replay.specs.declared.question.Question.{Question}
use Rattle.replay.specs.declared.question.RuleKind.{RuleKind}
use Rattle.replay.specs.declared.question.RuleKind.TheVariants.{Linear}
use Rattle.replay.specs.declared.question.ScaleKind.{ScaleKind}
use Rattle.replay.specs.declared.question.ScaleKind.TheVariants.{Count}
use Rattle.replay.specs.Fields.{byte_at}

-- The rule that a byte names: 1 is linear.
abbrev pub rule_of : ℕ → Option RuleKind
rule_of byte = if byte == 1 then Some Linear else None

-- The scale that a byte names: 2 is count.
abbrev pub scale_of : ℕ → Option ScaleKind
scale_of byte = if byte == 2 then Some Count else None

-- The question, if both are known.
abbrev pub question : Option RuleKind → ℕ → Option ScaleKind → Result Question Refusal
question (Some rule) k (Some scale) = Ok (record { rule = rule; k = k; scale = scale })
question (Some rule) k None = Err UnknownByte
question None k (Some scale) = Err UnknownByte
question None k None = Err UnknownByte

-- The bytes of the body are the rule, its k and the scale.
abbrev pub question_of : List ℕ → Result Question Refusal
question_of body = question (rule_of (byte_at body 0)) (byte_at body 1) (scale_of (byte_at body 2))
