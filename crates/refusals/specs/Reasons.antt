-- The reasons for which a call or a record is declined, by number and in words.
use Rattle.std.specs.Prelude.{ℕ, List, codes}
use Rattle.refusals.specs.declared.Refusal.{Refusal}
use Rattle.refusals.specs.declared.Refusal.TheVariants.{OddPass, OverOne, FullPlan, NoSuchPlace, AlreadySettled, NoPass, BadRule, TooWide, TooManyParts, ShortList, UnknownKind, CutRecord, UnknownByte}

-- The number of each reason.
abbrev pub number : Refusal → ℕ
number OddPass = 1
number OverOne = 2
number FullPlan = 3
number NoSuchPlace = 4
number AlreadySettled = 5
number NoPass = 6
number BadRule = 7
number TooWide = 8
number TooManyParts = 9
number ShortList = 10
number UnknownKind = 11
number CutRecord = 12
number UnknownByte = 13

-- The sentence of each reason.
abbrev pub sentence : Refusal → List ℕ
sentence OddPass = codes "a pass has 1 to 8 parts"
sentence OverOne = codes "a forecast is above one"
sentence FullPlan = codes "the plan would have more than 512 parts"
sentence NoSuchPlace = codes "the plan has no such pass or part"
sentence AlreadySettled = codes "the part is settled already"
sentence NoPass = codes "the plan has no pass"
sentence BadRule = codes "the rule is made outside its limits"
sentence TooWide = codes "the rule has too many states"
sentence TooManyParts = codes "the plan has more parts than the scale takes"
sentence ShortList = codes "a list has too few places"
sentence UnknownKind = codes "the record is of no known kind"
sentence CutRecord = codes "the record runs past the input"
sentence UnknownByte = codes "the record has an unknown outcome, rule or scale"
