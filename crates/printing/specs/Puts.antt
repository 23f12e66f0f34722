-- What it is to print a text.
use Rattle.std.specs.Prelude.{◌≡◌, ℕ, List, ◌++◌, string_bytes, Result, String, OnOk}

-- Unless memory runs out, what is printed now is what was printed before, and then the text.
abbrev pub Puts : {E Z : Type 0} → Result Unit E → String Z → String Z → List ℕ → Type 0
Puts reply before now text = OnOk reply (string_bytes now ≡ string_bytes before ++ text)
