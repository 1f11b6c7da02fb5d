-- The order of classes: numeric below unknown.
use Rattle.std.specs.Prelude.{⊤}
use Rattle.interval_domain.specs.declared.class.Class.{Class}
use Rattle.interval_domain.specs.declared.class.Class.TheVariants.{Unknown, Numeric}

-- what is of the first class is of the second
abbrev pub IsBelow : Class → Class → Type 0
IsBelow a Unknown = ⊤
IsBelow Numeric Numeric = ⊤
IsBelow Unknown Numeric = ⊥
