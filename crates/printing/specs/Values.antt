-- How the values of the scales are printed, in a plan of so many parts.
use Rattle.std.specs.Prelude.{ℕ, List, [], ◌∷◌, ◌++◌, Some, None, codes, decimal, Option}
use Rattle.std.specs.List.{flat_map}
use Rattle.scales.specs.declared.by_missed.ByMissed.{ByMissed}
use Rattle.scales.specs.declared.count.Count.{Count}
use Rattle.scales.specs.declared.fewest.Fewest.{Fewest}
use Rattle.odds.specs.declared.ends.Ends.{Ends}
use Rattle.scales.specs.Fewests.{least}
use Rattle.scales.specs.Tallies.{up_to}

-- A count is its decimal number.
abbrev pub count_text : Count → ℕ → List ℕ
count_text count parts = decimal count.number

-- A number of parts, or the word `none`.
abbrev pub least_text : Option ℕ → List ℕ
least_text (Some number) = decimal number
least_text None = codes "none"

-- The fewest parts are their number, unless that is read as none.
abbrev pub fewest_text : Fewest → ℕ → List ℕ
fewest_text fewest parts = least_text (least fewest)

-- Odds are their two ends, `low-high`.
abbrev pub ends_text : Ends → ℕ → List ℕ
ends_text ends parts = decimal ends.low ++ codes "-" ++ decimal ends.high

-- A number behind another, with its comma.
abbrev pub further : ℕ → List ℕ
further number = codes "," ++ decimal number

-- The numbers of a list with commas between them.
abbrev pub commas : List ℕ → List ℕ
commas [] = []
commas (number ∷ numbers) = decimal number ++ flat_map further numbers

-- Counts by parts down are the counts at the places 0 to N, the number of parts.
abbrev pub by_missed_text : ByMissed → ℕ → List ℕ
by_missed_text value parts = commas (up_to value parts)
