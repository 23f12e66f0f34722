-- The check does not find this alone: its lemma takes facts that only the answer names.
use Rattle.std.proofs.Common.{◌≡◌, ℕ, ◌%◌, ◌^◌, ◌<◌, List, length, slice_index, set, ap, ◌∙◌, arith}
use lib.ListN.{replicate, get_or-replicate}
use Rattle.std.proofs.lemmas.Grind.{common_steps}
use Rattle.scales.specs.Tallies.{only}
use Rattle.scales.proofs.SameTally.{is_tally}
use Rattle.scales.proofs.by_missed.ByMissed.one_with.Goals as goal
use Rattle.scales.proofs.by_missed.ByMissed.one_with.Goals.{then-down-lt-PLACES, else-down-lt-PLACES}

-- A place that holds 0, after 1 is written at one place.
written : (xs : List ℕ) (down i : ℕ) → down < length xs → slice_index xs i ≡ 0 → slice_index (set xs down 1) i ≡ only down i % 2 ^ 64
written xs down i within none = grind (arith, common_steps)

pub returns : goal.returns
returns c = is_tally _ _ (λ i h.
    let none : slice_index (replicate 64 0) i ≡ 0 = get_or-replicate 64 i 0 0 h in
    ap (λ counts. slice_index counts i) c.from.ensures ∙ elim c.if-down-lt-PLACES.branch [
      | then-down-lt-PLACES w ↦ ap (λ counts. slice_index counts i) w.counts-is ∙ written (replicate 64 0) _ i w.if-down-lt-PLACES.true none
      | else-down-lt-PLACES w ↦ ap (λ counts. slice_index counts i) w.counts-is ∙ grind (arith, none)
    ])
