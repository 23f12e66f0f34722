-- The line that an evaluation prints.
use Rattle.std.specs.Prelude.{ℕ, List, Some, None, Option}
use Rattle.refusals.specs.declared.Refusal.{Refusal}
use Rattle.plans.specs.Model.{Model, size}
use Rattle.rules.specs.Automaton.{Automaton}
use Rattle.scales.specs.declared.scale.Scale.{Ghosts as ScaleMeaning}
use Rattle.scales.specs.declared.weigher.Weigher.{Ghosts as WeigherMeaning}
use Rattle.evaluation.specs.Evaluation.{refusal, answer_of}
use Rattle.printing.specs.Lines.{refusal_line, answer_line}

-- On a scale whose values are printed so, with work lists of so many places.
module _ {V Y : Type 0} (scale : ScaleMeaning V) (rule : Automaton) (weighers : WeigherMeaning Y V) (weigher : Y) (printed : V → ℕ → List ℕ)
    (places : ℕ) (plan : Model) (place : ℕ) where
  -- The text of the answer at a place: 0 kept, 1 lost, 2 aside.
  abbrev pub answer_text : ℕ → List ℕ
  answer_text k = printed (answer_of scale rule weighers weigher plan k) (size plan)

  -- The answers, unless there is a reason to decline.
  abbrev pub line_by : Option Refusal → List ℕ
  line_by None = answer_line place (answer_text 0) (answer_text 1) (answer_text 2)
  line_by (Some reason) = refusal_line place reason

  -- The line: the first reason to decline, if there is one, otherwise the answers.
  abbrev pub evaluation_line : List ℕ
  evaluation_line = line_by (refusal rule.states (size plan) weighers.LIMIT places places 3)
