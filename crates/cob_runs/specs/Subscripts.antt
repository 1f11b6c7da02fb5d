-- Subscripts (ISO 1989:1985, "Subscripting").
use Rattle.std.specs.Prelude.{ℕ, suc, nat_lt, if◌then◌else◌, Result, Ok, Err, ℤ, pos}
use Rattle.cob_tree.specs.declared.fault.Kind.{Kind}
use Rattle.cob_tree.specs.declared.fault.Kind.TheVariants as kind

-- The occurrence that a number names in a table of so many: numbers are from 1 on, occurrences are told from 0.
abbrev pub in_table : ℕ → ℤ → Result ℕ Kind
in_table times (pos (suc n)) = if nat_lt n times then Ok n else Err kind.Subscript
in_table times z = Err kind.Subscript
