-- The check does not find this alone: its lemmas take functions and facts that only the answer names.
use Rattle.std.proofs.Common.{◌≡◌, ◌%◌, ◌^◌, ◌<◌, slice_index, refl, sym, subst, ap, ◌∙◌, rules, arith}
use Rattle.std.proofs.lemmas.Fn.{serves_by}
use Rattle.scales.proofs.Closures.{made_at}
use Rattle.scales.proofs.SameTally.{is_tally}
use Rattle.scales.proofs.by_missed.ByMissed.at_each.Goals as goal

pub from_fn-requires : goal.from_fn-requires
from_fn-requires g c = (omega arith, serves_by _ (λ xs q. q.now ≡ c.args.count) (λ xs q x v j k. let same : v ≡ q = search rules in ap (λ z. z.now) same ∙ j) _ _ _ _ refl (λ xs t q x u y e j. let below : x < 64 = omega arith in subst (λ z. g.F.Fn.pre z (x, tt)) (sym j) (c.requires x below)))

pub returns : goal.returns
returns g c = λ f each.
    let made = made_at (λ i. f i % 2 ^ 64) 64 (λ i n q call. (search rules, each i n (search rules))) c.from_fn.ensures.items in
    is_tally c.from.result f (λ i h. subst (λ counts. slice_index counts i ≡ f i % 2 ^ 64) (sym c.from.ensures) (made i h))
