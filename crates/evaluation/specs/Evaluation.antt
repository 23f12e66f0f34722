-- What an evaluation replies, and what its three lists hold then.
use Rattle.std.specs.Prelude.{◌≡◌, ℕ, zero, suc, Bool, if◌then◌else◌, ◌||◌, List, length, Some, None, Ok, Err, Option, Result, ◌==◌, nat_lt, slice_index_or}
use Rattle.refusals.specs.declared.Refusal.{Refusal}
use Rattle.refusals.specs.declared.Refusal.TheVariants.{TooWide, TooManyParts, ShortList}
use Rattle.plans.specs.declared.part.Part.{Part}
use Rattle.plans.specs.Model.{Model, size}
use Rattle.rules.specs.Automaton.{Automaton}
use Rattle.scales.specs.declared.scale.Scale.{Ghosts as ScaleMeaning}
use Rattle.scales.specs.declared.weigher.Weigher.{Ghosts as WeigherMeaning}
use Rattle.sums.specs.Chain.{after_pass, closing, answer}
use Rattle.sums.specs.Weights.{up_of, down_of}
use Rattle.evaluation.specs.Written.{Written}

-- Whether a work list has fewer than m places, or the answer list fewer than three.
abbrev pub short_list : ℕ → ℕ → ℕ → ℕ → Bool
short_list m totals next answer = nat_lt totals m || (nat_lt next m || nat_lt answer 3)

-- Why an evaluation is declined, if it is: a rule of m states, a plan of n parts, at most `most` parts, lists of so many places.
abbrev pub refusal : ℕ → ℕ → ℕ → ℕ → ℕ → ℕ → Option Refusal
refusal m n most totals next answer =
    if m == 0 then Some TooWide else
    (if nat_lt most n then Some TooManyParts else
    (if short_list m totals next answer then Some ShortList else None))

-- How many places of the second work list are written: m once there is a pass.
abbrev pub second_written : ℕ → ℕ → ℕ
second_written m zero = 0
second_written m (suc passes) = m

module _ {V Y : Type 0} (scale : ScaleMeaning V) (rule : Automaton) (weighers : WeigherMeaning Y V) (weigher : Y) where
  -- The totals after one more pass, from those that a list holds.
  abbrev pub pass_totals : List Part → List V → ℕ → V
  pass_totals pass totals = after_pass scale rule (up_of scale weighers weigher) (down_of scale weighers weigher) pass (λ s. slice_index_or totals s scale.zero)

  -- The closing totals by state.
  abbrev pub closing_of : Model → ℕ → V
  closing_of plan = closing scale rule (up_of scale weighers weigher) (down_of scale weighers weigher) plan

  -- The answers: kept, lost and aside at the places 0, 1 and 2.
  abbrev pub answer_of : Model → ℕ → V
  answer_of plan = answer scale rule (up_of scale weighers weigher) (down_of scale weighers weigher) plan

  module _ (plan : Model) (was_totals was_next was_answer totals next answers : List V) where
    -- It is accepted, replies with m, and writes the closing totals and the answers.
    pub record Accepted (reply : ℕ) : Type 0 where
      pub allowed : refusal rule.states (size plan) weighers.LIMIT (length was_totals) (length was_next) (length was_answer) ≡ None
      pub replied : reply ≡ rule.states
      pub first_list : Written scale.zero rule.states (closing_of plan) was_totals totals
      pub second_list : Written scale.zero (second_written rule.states (length plan)) (closing_of plan) was_next next
      pub answer_list : Written scale.zero 3 (answer_of plan) was_answer answers

    -- It is declined for the first reason that there is, and writes nothing.
    pub record Declined (reason : Refusal) : Type 0 where
      pub because : refusal rule.states (size plan) weighers.LIMIT (length was_totals) (length was_next) (length was_answer) ≡ Some reason
      pub same_totals : totals ≡ was_totals
      pub same_next : next ≡ was_next
      pub same_answers : answers ≡ was_answer

    -- One or the other, by the reply.
    abbrev pub Evaluated : Result ℕ Refusal → Type 0
    Evaluated (Ok reply) = Accepted reply
    Evaluated (Err reason) = Declined reason
