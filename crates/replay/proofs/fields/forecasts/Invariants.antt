use Rattle.std.proofs.Common.{◌≡◌, map, take}
use Rattle.std.specs.Int.{w32, from_be_bytes}
use Rattle.replay.proofs.fields.forecasts.Given as goal

abbrev pub invariant-loop-four : goal.invariant-loop-four
invariant-loop-four l = l.list.items ≡ map (from_be_bytes w32) (take l.four-index l.fours)
