-- Worked plans, and the lines that evaluations by linear k print on each scale.
use Rattle.std.specs.Prelude.{◌≡◌, ℕ, true, false, List, [], ◌∷◌, ◌++◌, map, replicate, codes}
use Rattle.odds.specs.Odds.{odds, forecasting}
use Rattle.plans.specs.Model.{Model, Change, Add, Settle, Drop, plan_after}
use Rattle.printing.specs.Values.{count_text, ends_text, by_missed_text, fewest_text}
use Rattle.replay.specs.Evaluations.{evaluation_line}
use Rattle.rules.specs.Linear.{linear}
use Rattle.scales.specs.Counts.{counts, counting}
use Rattle.scales.specs.Fewests.{fewests, minimizing}
use Rattle.scales.specs.Tallies.{tallies, tallying}
use Rattle.worked.specs.Plans.{single, double}

-- What an evaluation by linear k prints, of a plan, on odds.
abbrev pub by_odds : ℕ → Model → List ℕ
by_odds k plan = evaluation_line odds (linear k) forecasting (record {}) ends_text 4096 plan 0

-- On count.
abbrev pub by_count : ℕ → Model → List ℕ
by_count k plan = evaluation_line counts (linear k) counting (record {}) count_text 4096 plan 0

-- On by-missed, in work lists of 64 places in the place of 4096.
abbrev pub by_parts_down : ℕ → Model → List ℕ
by_parts_down k plan = evaluation_line tallies (linear k) tallying (record {}) by_missed_text 64 plan 0

-- On fewest.
abbrev pub by_fewest : ℕ → Model → List ℕ
by_fewest k plan = evaluation_line fewests (linear k) minimizing (record {}) fewest_text 4096 plan 0

-- The calls that make a plan, what is printed of it, and the text that it is to be.
pub record Line : Type 0 where
  pub calls : List Change
  pub printed : Model → List ℕ
  pub text : List ℕ

-- A line by its calls, what is printed and its text.
abbrev pub line : List Change → (Model → List ℕ) → List ℕ → Line
line calls printed text = record { calls = calls; printed = printed; text = text }

-- Two passes with the smallest chance above none.
abbrev pub slim : List Change
slim = Add (1 ∷ []) ∷ Add (1 ∷ []) ∷ []

-- Four passes of one part.
abbrev pub four : List Change
four = single ∷ single ∷ single ∷ single ∷ []

-- Passes of eight parts, 64 in all.
abbrev pub wide : List Change
wide = replicate 8 (Add (0 ∷ 0 ∷ 0 ∷ 0 ∷ 0 ∷ 0 ∷ 0 ∷ 0 ∷ []))

-- The plans: none, single passes, double passes, a part settled down, settles and drops that are declined, more parts than a scale takes.
abbrev pub lines : List Line
lines =
    line [] (by_count 2) (codes "A 0 1 0 0\n")
    ∷ line [] (by_parts_down 2) (codes "A 0 1 0 0\n")
    ∷ line [] (by_fewest 2) (codes "A 0 0 none none\n")
    ∷ line [] (by_odds 2) (codes "A 0 1073741824-1073741824 0-0 0-0\n")
    ∷ line four (by_count 2) (codes "A 0 8 8 0\n")
    ∷ line four (by_parts_down 2) (codes "A 0 1,4,3,0,0 0,0,3,4,1 0,0,0,0,0\n")
    ∷ line four (by_fewest 2) (codes "A 0 0 2 none\n")
    ∷ line four (by_odds 2) (codes "A 0 0-0 1073741824-1073741824 0-0\n")
    ∷ line slim (by_odds 2) (codes "A 0 0-3 1073741822-1073741823 0-0\n")
    ∷ line (single ∷ single ∷ single ∷ []) (by_count 3) (codes "A 0 7 1 0\n")
    ∷ line (single ∷ single ∷ single ∷ []) (by_count 1) (codes "A 0 1 7 0\n")
    ∷ line (double ∷ double ∷ []) (by_count 2) (codes "A 0 7 9 0\n")
    ∷ line (double ∷ double ∷ []) (by_parts_down 2) (codes "A 0 1,4,2,0,0 0,0,4,4,1 0,0,0,0,0\n")
    ∷ line (four ++ (Settle 1 0 false ∷ [])) (by_count 2) (codes "A 0 2 6 0\n")
    ∷ line (four ++ (Settle 1 0 false ∷ [])) (by_parts_down 2) (codes "A 0 1,1,0,0,0 0,2,3,1,0 0,0,0,0,0\n")
    ∷ line (four ++ (Settle 1 0 false ∷ [])) (by_fewest 2) (codes "A 0 0 1 none\n")
    ∷ line (slim ++ (Settle 0 0 true ∷ Settle 0 0 false ∷ [])) (by_count 1) (codes "A 0 1 1 0\n")
    ∷ line (slim ++ (Settle 0 0 true ∷ Settle 0 0 false ∷ [])) (by_odds 1) (codes "A 0 1-1 1073741823-1073741823 0-0\n")
    ∷ line (single ∷ double ∷ Drop ∷ Drop ∷ Drop ∷ single ∷ []) (by_count 1) (codes "A 0 1 1 0\n")
    ∷ line wide (by_count 2) (codes "R 0 9\n")
    ∷ line wide (by_parts_down 2) (codes "R 0 9\n")
    ∷ line wide (by_fewest 9) (codes "A 0 0 none none\n")
    ∷ []

-- What the definitions print.
abbrev pub told : Line → List ℕ
told l = l.printed (plan_after l.calls)

-- Every line is right.
abbrev pub WorkedLines : Type 0
WorkedLines = map told lines ≡ map (λ (l : Line). l.text) lines
