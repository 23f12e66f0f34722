-- What a part weighs, up and down.
use Rattle.plans.specs.declared.part.Part.{Part}
use Rattle.plans.specs.declared.part.Standing.{Standing}
use Rattle.plans.specs.declared.part.Standing.TheVariants.{Open, Up, Down}
use Rattle.scales.specs.declared.scale.Scale.{Ghosts as ScaleMeaning}
use Rattle.scales.specs.declared.weigher.Weigher.{Ghosts as WeigherMeaning}

-- One of three values, by how a part stands.
abbrev pub by_standing : {V : Type 0} → Standing → V → V → V → V
by_standing Open when_open when_up when_down = when_open
by_standing Up when_open when_up when_down = when_up
by_standing Down when_open when_up when_down = when_down

module _ {V Y : Type 0} (scale : ScaleMeaning V) (weighers : WeigherMeaning Y V) (weigher : Y) where
  -- An open part has its weigher's weight for up; one settled up has one, one settled down zero.
  abbrev pub up_of : Part → V
  up_of part = by_standing part.standing (weighers.up weigher part.forecast) scale.one scale.zero

  -- An open part has its weigher's weight for down; one settled up has zero, one settled down one.
  abbrev pub down_of : Part → V
  down_of part = by_standing part.standing (weighers.down weigher part.forecast) scale.zero scale.one
