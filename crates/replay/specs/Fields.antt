-- Numbers in the body of a record, the highest byte first.
use Rattle.std.specs.Prelude.{ℕ, ◌+◌, ◌*◌, ◌/◌, List, map, length, slice_index}
use Rattle.std.specs.List.{range_with_len}

-- The byte at a place.
abbrev pub byte_at : List ℕ → ℕ → ℕ
byte_at body i = slice_index body i

-- The number of two bytes that begins at a place.
abbrev pub two_at : List ℕ → ℕ → ℕ
two_at body i = 256 * byte_at body i + byte_at body (i + 1)

-- The number of four bytes that begins at a place.
abbrev pub four_at : List ℕ → ℕ → ℕ
four_at body i = 65536 * two_at body i + two_at body (i + 2)

-- The forecasts of a body, four bytes each.
abbrev pub forecasts_of : List ℕ → List ℕ
forecasts_of body = map (λ j. four_at body (4 * j)) (range_with_len 0 (length body / 4))
