-- How conditions come to settle a verdict, and that they settle one verdict only.
use Rattle.std.proofs.Common.{◌≡◌, sym, refl}
use Rattle.rules.specs.declared.verdict.Verdict.{Verdict}
use Rattle.rules.specs.declared.verdict.Verdict.TheVariants.{Kept, Lost, Aside}
use Rattle.rules.specs.Settled.{Settles}

module _ {kept lost aside : Type 0} where
  pub settles_kept : (v : Verdict) → v ≡ Kept → kept → (lost → ⊥) → (aside → ⊥) → Settles kept lost aside v
  settles_kept v is k not_lost not_aside = record {
    kept_if = λ _. is;
    kept_only_if = λ _. k;
    lost_if = λ l. absurd (not_lost l);
    lost_only_if = λ e. absurd (cc);
    aside_if = λ a. absurd (not_aside a);
    aside_only_if = λ e. absurd (cc);
  }

  pub settles_lost : (v : Verdict) → v ≡ Lost → (kept → ⊥) → lost → (aside → ⊥) → Settles kept lost aside v
  settles_lost v is not_kept l not_aside = record {
    kept_if = λ k. absurd (not_kept k);
    kept_only_if = λ e. absurd (cc);
    lost_if = λ _. is;
    lost_only_if = λ _. l;
    aside_if = λ a. absurd (not_aside a);
    aside_only_if = λ e. absurd (cc);
  }

  pub settled_same : (v w : Verdict) → Settles kept lost aside v → Settles kept lost aside w → v ≡ w
  settled_same Kept w one other = sym (other.kept_if (one.kept_only_if refl))
  settled_same Lost w one other = sym (other.lost_if (one.lost_only_if refl))
  settled_same Aside w one other = sym (other.aside_if (one.aside_only_if refl))
