-- The check does not find this alone: its lemmas take functions and facts that only the answer names.
use Rattle.std.proofs.Common.{◌^◌, ◌<◌, refl, sym, ap, subst, rules, arith}
use Rattle.std.proofs.lemmas.Iterator.{serves_from_Range}
use Rattle.scales.proofs.Closures.{summed}
use Rattle.scales.proofs.by_missed.scale.sum_of.Goals as goal

pub fold-requires-clause-can : goal.fold-requires-clause-can
fold-requires-clause-can g c = (
  tt,
  serves_from_Range (λ x q k. search rules) (λ k least most.
      let below : k < c.args.n = omega (arith, ap (λ r. r.end) c.map.ensures.source) in
      subst (λ f. g.F.Fn.pre f.now (k, tt)) (sym c.map.ensures.closure) (c.requires k below)),
)

pub returns : goal.returns
returns g c = λ f each.
    summed (2 ^ 64) c.args.n f (λ k x q call. (search rules, each k x (search rules))) (λ t x u q call. search rules)
    c.map.ensures.source c.map.ensures.closure refl c.fold.ensures.ran
