-- What closures make that give at each place what a function does, and stay as they were: the elements of an array, and a sum.
use Rattle.std.proofs.Common.{◌≡◌, ℕ, zero, suc, ◌+◌, ◌%◌, ◌<◌, ◌++◌, [], ◌∷◌, List, map, slice_index, sym, ap, ◌∙◌, subst, arith}
use native.Mathlib.Nat.{mod-mod, mod-add-mod}
use Rattle.std.specs.declared.iter.Map.{Map}
use Rattle.std.specs.declared.ops.Range.{Range}
use Rattle.std.specs.Array.{IsFromFnResultFrom, IsFromFnResult}
use Rattle.std.specs.Fn.{Called, Mut}
use Rattle.std.specs.Iterator.{FoldsItems, ActsAs, ActsAsOnTwo}
use Rattle.std.specs.Iterator.Adapters.{map_source, map_callee}
use Rattle.std.specs.List.{sum, range_with_len}
use Rattle.std.proofs.iter.Yields.{nat_range_steps}
use Rattle.std.proofs.lemmas.Fn.{fold_over}
use Rattle.std.proofs.lemmas.Iterator.{YieldsList-from_range, YieldsList-from_map, maps}
use Rattle.std.proofs.lemmas.List.Sums.{sum_by_push}
use Rattle.scales.specs.Tallies.{sum_below}
use Rattle.scales.proofs.SumsBelow.{sum_listed, sum_congruent}

-- An array of n elements, of which the closure gives h i at place i.
module _ {F : Type 0} {g : Mut F (ℕ × Unit {0}) ℕ} {f : F} (h : ℕ → ℕ) (n : ℕ) (gives : ActsAs g f h) where
  made_from : (i left k at : ℕ) (ys : List ℕ) → i + k ≡ at → k < left → IsFromFnResultFrom g f ys i left → slice_index ys at ≡ h at
  made_from i zero k at ys is below calls = absurd (omega arith)
  made_from i (suc left) zero at ys is below calls =
      let here : i ≡ at = omega arith in
      subst (λ j. slice_index ys j ≡ h j) here (calls.2.1 0 ∙ (gives i calls.1 calls.0 calls.3).1)
  made_from i (suc left) (suc k) at ys is below calls =
      let same = (gives i calls.1 calls.0 calls.3).0 in
      made_from (i + 1) left k at ys (omega arith) (omega arith) (subst (λ q. IsFromFnResultFrom g q ys (i + 1) left) same calls.4)

  pub made_at : {ys : List ℕ} → IsFromFnResult g f ys n → (i : ℕ) → i < n → slice_index ys i ≡ h i
  made_at {ys} made i below = made_from 0 n i i ys (omega arith) below made.each

-- A sum of n terms, of which the one closure gives h k at place k, and the other adds it to the total, both cut off at m.
module _ {F G : Type 0} {g : Mut F (ℕ × Unit {0}) ℕ} {f : F} {a : Mut G (ℕ × (ℕ × Unit {0})) ℕ} {e : G} (m n : ℕ) (h : ℕ → ℕ)
    (gives : ActsAs g f (λ k. h k % m)) (adds : ActsAsOnTwo a e (λ t x. (t + x) % m)) where
  one_more : (xs : List ℕ) (t x u : ℕ) (q : G) → t ≡ sum xs % m → Called a e (t, (x, tt)) u q → (u ≡ sum (xs ++ (x ∷ [])) % m) × (q ≡ e)
  one_more xs t x u q so_far call =
      let one = adds t x u q call in
      (one.1 ∙ ap (λ y. (y + x) % m) so_far ∙ mod-add-mod (sum xs) m x ∙ ap (λ y. y % m) (sym (sum_by_push (λ y. y) xs x)), one.0)

  pub summed : {s : Map (Range ℕ) F} {start total : ℕ} → map_source s ≡ record { start = 0; end = n } → map_callee s ≡ f → start ≡ 0 % m → FoldsItems (maps nat_range_steps g) a s e start total → total ≡ sum_below n h % m
  summed {s} {start} {total} from by none ran =
      let term = λ (k : ℕ). h k % m in
      let terms = YieldsList-from_map g term (YieldsList-from_range 0 n n from (omega arith)) by gives in
      fold_over (maps nat_range_steps g) (λ x. x) a (λ xs t. t ≡ sum xs % m) e one_more s (map term (range_with_len 0 n)) start total terms.runs none ran
      ∙ ap (λ x. x % m) (sum_listed n term)
      ∙ sum_congruent m n term h (λ k below. mod-mod (h k) m)
