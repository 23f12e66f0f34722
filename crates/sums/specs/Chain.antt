-- The chain: totals by state, carried from pass to pass, for any rule and any scale.
use Rattle.std.specs.Prelude.{Bool, true, false, if◌then◌else◌, List, [], ◌∷◌, ℕ, zero, suc, ◌==◌}
use Rattle.rules.specs.declared.verdict.Verdict.{Verdict}
use Rattle.rules.specs.declared.verdict.Verdict.TheVariants.{Kept, Lost, Aside}
use Rattle.rules.specs.Automaton.{Automaton}
use Rattle.scales.specs.declared.scale.Scale.{Ghosts as ScaleMeaning}

-- The place of a verdict among the answers.
abbrev pub place_of : Verdict → ℕ
place_of Kept = 0
place_of Lost = 1
place_of Aside = 2

module _ {V : Type 0} (scale : ScaleMeaning V) where
  -- The sum with x where the test passes, otherwise what there was.
  abbrev pub add_if : Bool → V → V → V
  add_if test sum x = if test then scale.plus sum x else sum

  -- The parts of a pass, each with its weights up and down.
  module _ {A : Type 0} (up down : A → V) where
    -- A part makes good, the weight of the pass being made, into good × up.
    abbrev pub good_with : V → A → V
    good_with good part = scale.times good (up part)

    -- A part makes bad, the weight of the pass being missed, into bad × (up + down) + good × down, with good as it was before the part.
    abbrev pub bad_with : V → V → A → V
    bad_with good bad part = scale.plus (scale.times bad (scale.plus (up part) (down part))) (scale.times good (down part))

    -- Good after the parts in order.
    abbrev pub good_from : V → List A → V
    good_from good [] = good
    good_from good (part ∷ parts) = good_from (good_with good part) parts

    -- Bad after the parts in order.
    abbrev pub bad_from : V → V → List A → V
    bad_from good bad [] = bad
    bad_from good bad (part ∷ parts) = bad_from (good_with good part) (bad_with good bad part) parts

    -- A pass starts with good one.
    abbrev pub good : List A → V
    good pass = good_from scale.one pass

    -- It starts with bad zero.
    abbrev pub bad : List A → V
    bad pass = bad_from scale.one scale.zero pass

  module _ (rule : Automaton) where
    -- The totals before any pass: one at the first state, zero elsewhere.
    abbrev pub begun : ℕ → V
    begun t = if rule.first == t then scale.one else scale.zero

    -- The sum at state t with what state s adds: total × good if s steps to t when made, then total × bad if it does when missed.
    abbrev pub spread_to : (ℕ → V) → V → V → ℕ → ℕ → V → V
    spread_to total good bad s t sum =
        add_if (rule.step s false == t) (add_if (rule.step s true == t) sum (scale.times (total s) good)) (scale.times (total s) bad)

    -- The new total at state t, from the states below n: the sum from zero, by rising state.
    abbrev pub reaching : (ℕ → V) → V → V → ℕ → ℕ → V
    reaching total good bad zero t = scale.zero
    reaching total good bad (suc s) t = spread_to total good bad s t (reaching total good bad s t)

    -- The sum of the totals of the states below n whose verdict has the place k, from zero by rising state.
    abbrev pub judged : (ℕ → V) → ℕ → ℕ → V
    judged total zero k = scale.zero
    judged total (suc s) k = add_if (place_of (rule.verdict s) == k) (judged total s k) (total s)

    module _ {A : Type 0} (up down : A → V) where
      -- The totals after one more pass.
      abbrev pub after_pass : List A → (ℕ → V) → ℕ → V
      after_pass pass total t = reaching total (good up down pass) (bad up down pass) rule.states t

      -- The totals after the passes of a plan.
      abbrev pub closing_from : (ℕ → V) → List (List A) → ℕ → V
      closing_from total [] = total
      closing_from total (p ∷ ps) = closing_from (after_pass p total) ps

      -- The closing totals, from those before any pass.
      abbrev pub closing : List (List A) → ℕ → V
      closing plan = closing_from begun plan

      -- The answers: the sums of the closing totals over the kept, the lost and the aside states.
      abbrev pub answer : List (List A) → ℕ → V
      answer plan k = judged (closing plan) rule.states k
