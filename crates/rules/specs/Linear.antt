-- Linear k: lost when some k consecutive passes are missed, otherwise kept.
use Rattle.std.specs.Prelude.{ℕ, ◌+◌, Bool, if◌then◌else◌, List, ◌==◌, nat_lt}
use Rattle.rules.specs.declared.verdict.Verdict.{Verdict}
use Rattle.rules.specs.declared.verdict.Verdict.TheVariants.{Kept, Lost, Aside}
use Rattle.rules.specs.Automaton.{Automaton}
use Rattle.rules.specs.Outcomes.{SomeRun, some_run}
use Rattle.rules.specs.Settled.{Settles}

-- State j below k is the present run of missed passes, and state k is lost for good.
abbrev pub linear_states : ℕ → ℕ
linear_states k = k + 1

-- A made pass ends the run, a missed one lengthens it, what is lost stays lost, and any other number goes to the first state.
abbrev pub linear_step : ℕ → ℕ → Bool → ℕ
linear_step k state made = if nat_lt state k then (if made then 0 else state + 1) else (if state == k then k else 0)

-- A run below k is kept, state k is lost, and any other number is aside.
abbrev pub linear_verdict : ℕ → ℕ → Verdict
linear_verdict k state = if nat_lt state k then Kept else (if state == k then Lost else Aside)

-- The four functions that linear k means; no pass has been missed at first.
abbrev pub linear : ℕ → Automaton
linear k = record { states = linear_states k; first = 0; step = linear_step k; verdict = linear_verdict k }

-- The verdict by the definition: lost where some k consecutive passes are missed.
abbrev pub linear_judges : ℕ → List Bool → Verdict
linear_judges k outcomes = if some_run k outcomes then Lost else Kept

-- Lost if and only if some k consecutive passes are missed, kept if and only if none are, and never aside.
abbrev pub LinearSettles : ℕ → List Bool → Verdict → Type 0
LinearSettles k outcomes = Settles (SomeRun k outcomes → ⊥) (SomeRun k outcomes) ⊥
