-- What it is to settle a verdict by conditions on the outcomes.
use Rattle.std.specs.Prelude.{◌≡◌}
use Rattle.rules.specs.declared.verdict.Verdict.{Verdict}
use Rattle.rules.specs.declared.verdict.Verdict.TheVariants.{Kept, Lost, Aside}

-- Three conditions settle a verdict where each holds if and only if the verdict is its own.
pub record Settles (kept lost aside : Type 0) (verdict : Verdict) : Type 0 where
  pub kept_if : kept → verdict ≡ Kept
  pub kept_only_if : verdict ≡ Kept → kept
  pub lost_if : lost → verdict ≡ Lost
  pub lost_only_if : verdict ≡ Lost → lost
  pub aside_if : aside → verdict ≡ Aside
  pub aside_only_if : verdict ≡ Aside → aside
