use Rattle.std.proofs.Common.{◌≡◌, ℕ, ◌<◌, slice_index_or}
use Rattle.evaluation.proofs.totals.clear.Given as goal

abbrev pub invariant-loop-sum : goal.invariant-loop-sum
invariant-loop-sum g l = (t : ℕ) → t < l.sum-index → slice_index_or l.list t g.V.Scale.zero ≡ g.V.Scale.zero
