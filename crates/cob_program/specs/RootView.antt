-- What contracts see of the division that is a sum's last operation.
use Rattle.std.specs.Prelude.{map}
use Rattle.cob_program.specs.declared.root.Root as declared_root
use Rattle.cob_program.specs.Sum.{Factors, factors_of, Factor, MkFactor}
use Rattle.cob_program.specs.SumView.{plain_factor}
use Rattle.cob_program.specs.Values.{Root}

-- a factor divides those before it
abbrev pub root_with : Factors → Factor → Root
root_with above (MkFactor over minus atom) = record { above = above; minus = minus; below = atom }

abbrev pub plain_root : declared_root.Root → Root
plain_root r = root_with (factors_of (map plain_factor r.dividend.now)) (plain_factor r.divisor.now)
