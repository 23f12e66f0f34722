-- The kinds of record, and how long their bodies are.
use Rattle.std.specs.Prelude.{ℕ, ◌-◌, ◌*◌, if◌then◌else◌, ◌&&◌, Some, None, Option, ◌==◌, nat_le}
use Rattle.records.specs.declared.kind.Kind.{Kind}
use Rattle.records.specs.declared.kind.Kind.TheVariants.{Add, Settle, Drop, Evaluate}

-- The kind that a byte names: hexadecimal 11 to 18 add a pass of 1 to 8 forecasts, 22 settles, 23 drops, 31 evaluates.
abbrev pub kind_of : ℕ → Option Kind
kind_of byte =
    if nat_le 0x11 byte && nat_le byte 0x18 then Some (Add (byte - 0x10)) else
    (if byte == 0x22 then Some Settle else
    (if byte == 0x23 then Some Drop else
    (if byte == 0x31 then Some Evaluate else None)))

-- How many bytes the body has: a forecast has four, a pass number two, all else one.
abbrev pub width_of : Kind → ℕ
width_of (Add forecasts) = 4 * forecasts
width_of Settle = 4
width_of Drop = 0
width_of Evaluate = 3
