-- The laws of a semiring, of what a scale means by zero, one, plus and times.
use Rattle.std.specs.Prelude.{◌≡◌}
use Rattle.scales.specs.declared.scale.Scale.{Ghosts as ScaleMeaning}

module _ {V : Type 0} (scale : ScaleMeaning V) where
  -- Plus is associative and commutative, and zero is neutral.
  pub record PlusLaws : Type 0 where
    pub associative : (a b c : V) → scale.plus (scale.plus a b) c ≡ scale.plus a (scale.plus b c)
    pub commutative : (a b : V) → scale.plus a b ≡ scale.plus b a
    pub neutral : (a : V) → scale.plus scale.zero a ≡ a

  -- Times is associative, and one is neutral on either side.
  pub record TimesLaws : Type 0 where
    pub associative : (a b c : V) → scale.times (scale.times a b) c ≡ scale.times a (scale.times b c)
    pub neutral_left : (a : V) → scale.times scale.one a ≡ a
    pub neutral_right : (a : V) → scale.times a scale.one ≡ a

  -- Times distributes over plus from either side.
  pub record Distributes : Type 0 where
    pub left : (a b c : V) → scale.times a (scale.plus b c) ≡ scale.plus (scale.times a b) (scale.times a c)
    pub right : (a b c : V) → scale.times (scale.plus a b) c ≡ scale.plus (scale.times a c) (scale.times b c)

  -- Zero times anything is zero, either way round.
  pub record Absorbs : Type 0 where
    pub left : (a : V) → scale.times scale.zero a ≡ scale.zero
    pub right : (a : V) → scale.times a scale.zero ≡ scale.zero
