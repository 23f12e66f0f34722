-- What is left to write, laid over the parts as they are, gives what is promised.
use Rattle.std.proofs.Common.{◌≡◌, ◌+◌, ◌≤◌, map, length}
use Rattle.std.specs.Iterator.Adapters.{zip_first, zip_second}
use Rattle.std.specs.Slice.Iter.{iter_rest}
use Rattle.plans.specs.Lists.{laid}
use Rattle.plans.specs.Parts.{open_part}
use Rattle.plans.proofs.table.Table.fill.Given as goal

abbrev pub invariant-loop-place : goal.invariant-loop-place
invariant-loop-place l =
    let place = (zip_first l.place-iterator).start in
    let left = iter_rest (zip_second l.place-iterator) in
    record {
      parts : laid l.self.parts place (map open_part left) ≡ laid l.initial.self.parts l.at (map open_part l.forecasts);
      ends : l.self.ends ≡ l.initial.self.ends;
      room : place + length left ≤ 512;
    }
