-- The ends of a subscript's numbers, in the matrices of packs.
use Rattle.std.specs.Prelude.{ℕ, ◌||◌, ◌&&◌, Bool, true, false, List, [], ℤ, pos, int_le, Option, None}
use Rattle.interval_domain.specs.declared.bounds.Interval.{Interval}
use Rattle.interval_domain.specs.Known.{Known}
use Rattle.cob_program.specs.Act.{Program}
use Rattle.diff_bounds.specs.declared.form.lin.Lin.{Lin}
use Rattle.diff_steps.specs.Packs.{Pack, size_of, pack_decimals}
use Rattle.diff_steps.specs.Forms.{subscript_form}
use Rattle.diff_steps.specs.Clearing.{high_in_table, low_in_table, some_pack}
use Rattle.diff_layer.specs.Receiving.{upper_if, upper_negated_if}
use Rattle.diff_layer.specs.Views.{taken_at}

-- whether the matrix of a pack of so many cells shows that the low end is an occurrence's, or the high one
abbrev pub index_in_pack : ℕ → ℕ → List ℤ → Option Lin → ℕ → Bool → Bool
index_in_pack size decimals m form count true = low_in_table decimals (upper_negated_if size m form)
index_in_pack size decimals m form count false = high_in_table count decimals (upper_if size m form)

module _ (p : Program) (known : List Known) (k count : ℕ) where
  abbrev pub shows_index : Bool → Pack → List ℤ → Bool
  shows_index low pack m =
      index_in_pack (size_of pack) (pack_decimals p.layout pack) m (subscript_form p pack (taken_at known None) [] k) count low

  -- each end is an occurrence's by what the first layer shows or by a matrix
  abbrev pub high_shown : List Pack → List (List ℤ) → Interval → Bool
  high_shown packs ms i = int_le i.high (pos count) || some_pack (shows_index false) packs ms

  abbrev pub low_shown : List Pack → List (List ℤ) → Interval → Bool
  low_shown packs ms i = int_le (pos 1) i.low || some_pack (shows_index true) packs ms

  abbrev pub index_shown : List Pack → List (List ℤ) → Interval → Bool
  index_shown packs ms i = high_shown packs ms i && low_shown packs ms i
