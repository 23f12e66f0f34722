-- Forecasts as they stand in a body, four bytes each.
use Rattle.std.proofs.Common.{◌≡◌, ℕ, zero, suc, ◌+◌, ◌*◌, ◌/◌, ◌≤◌, List, ◌∷◌, length, map, take, drop, refl, ap, ap₂, ◌∙◌, arith}
use Rattle.std.specs.Int.{w32, from_be_bytes}
use Rattle.std.specs.List.{range_with_len}
use Rattle.std.specs.Simd.{first_chunks}
use Rattle.std.proofs.lemmas.Grind.{common_steps}
use Rattle.std.proofs.lemmas.List.{take_all, drop-drop}
use Rattle.replay.specs.Fields.{four_at, forecasts_of}

-- The number of the four bytes from n on.
number : (body : List ℕ) (n : ℕ) → from_be_bytes w32 (take 4 (drop n body)) ≡ four_at body n
number body n = grind (arith, common_steps)

-- The m forecasts from the place k on.
forecasts_from : (m k : ℕ) (body : List ℕ)
    → map (from_be_bytes w32) (first_chunks 4 m (drop (4 * k) body)) ≡ map (λ j. four_at body (4 * j)) (range_with_len k m)
forecasts_from zero k body = refl
forecasts_from (suc m) k body =
    let on : drop 4 (drop (4 * k) body) ≡ drop (4 * (k + 1)) body = drop-drop 4 (4 * k) body ∙ ap (λ n. drop n body) (omega arith) in
    ap₂ ◌∷◌ (number body (4 * k)) (ap (λ rest. map (from_be_bytes w32) (first_chunks 4 m rest)) on ∙ forecasts_from m (k + 1) body)

pub forecasts_so_far : (n : ℕ) (body : List ℕ) (fours : List (List ℕ)) → fours ≡ first_chunks 4 (length body / 4) body → length fours ≤ n
    → map (from_be_bytes w32) (take n fours) ≡ forecasts_of body
forecasts_so_far n body fours cut h = ap (map (from_be_bytes w32)) (take_all n fours h ∙ cut) ∙ forecasts_from (length body / 4) 0 body
