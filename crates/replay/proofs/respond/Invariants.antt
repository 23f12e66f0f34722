use Rattle.std.proofs.Common.{◌≡◌, string_bytes}
use Rattle.plans.specs.Passes.{passes}
use Rattle.replay.proofs.Turning.{SoFar}
use Rattle.replay.proofs.respond.Given as goal

abbrev pub invariant-loop-read : goal.invariant-loop-read
invariant-loop-read l =
    record {
      same : l.read-iterator.input.now ≡ l.input;
      so_far : SoFar l.input l.read-iterator.place (passes l.session.plan) (string_bytes l.out);
    }
