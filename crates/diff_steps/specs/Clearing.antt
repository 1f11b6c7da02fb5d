-- Which faults both layers show not to be met at a part. Of a store each end of the result may be shown by either.
use Rattle.std.specs.Prelude.{ℕ, ◌*◌, ◌^◌, ◌||◌, ◌&&◌, not, Bool, true, false, List, [], ◌∷◌, ℤ, pos, neg_ℤ, int_le, int_lt, Option, Some, None}
use Rattle.std.specs.Option.{option_map_or}
use Rattle.dec_num.specs.declared.types.Mode.{Mode}
use Rattle.dec_num.specs.declared.types.Mode.TheVariants.{Trunc}
use Rattle.dec_num.specs.Exact.{near}
use Rattle.dec_num.specs.Scaled.{value_of}
use Rattle.interval_domain.specs.declared.bounds.Interval.{Interval}
use Rattle.cob_tree.specs.declared.fault.Kind.{Kind}
use Rattle.cob_tree.specs.declared.fault.Kind.TheVariants as kind
use Rattle.cob_program.specs.Sum.{Atom}
use Rattle.cob_program.specs.Values.{◌>>=◌}
use Rattle.cob_program.specs.Act.{Act, Program}
use Rattle.cob_runs.specs.declared.action.Action.{Action}
use Rattle.cob_runs.specs.Contents.{form_at}
use Rattle.cob_edge_parts.specs.Parts.{Amount, Part, index, divide, store, set_count, count_down, has_phrase, parts_of}
use Rattle.diff_bounds.specs.declared.form.lin.Lin.{Lin}
use Rattle.diff_bounds.specs.Upper.{upper_of}
use Rattle.sum_ranges.specs.Ranged.{decimal}
use Rattle.sum_forms.specs.SumForms.{atom_form}
use Rattle.transfer_ranges.specs.declared.amounts.Receiver.{Receiver}
use Rattle.transfer_ranges.specs.declared.amounts.Taken.{Taken}
use Rattle.transfer_ranges.specs.Receivers.{receiver_of, counter}
use Rattle.transfer_ranges.specs.ResultRanges.{amount_units, most, lowered}
use Rattle.interval_domain.specs.Known.{Known}
use Rattle.cob_graph.specs.declared.homes.Home.TheVariants.{Item as of_item, Count as of_count}
use Rattle.cob_graph.specs.Homes.{homes_of}
use Rattle.cell_steps.specs.Cells.{units_of}
use Rattle.transfer_ranges.specs.EdgeOperands.{amount_of}
use Rattle.cell_steps.specs.Seen.{Seen, beginning}
use Rattle.cell_steps.specs.Stores.{range_at, with_taken}
use Rattle.cell_steps.specs.Clearing.{is_misfit, has_quotient, clears_part}
use Rattle.diff_steps.specs.Packs.{Pack, size_of, pack_decimals}
use Rattle.diff_steps.specs.Moments.{Seen2}
use Rattle.diff_steps.specs.Forms.{cell_at, amount_form, set_form, subscript_form, lowered_form, has_operands}
use Rattle.diff_steps.specs.Stores.{upper_negated}
use Rattle.diff_steps.specs.Steps.{all_closed, step2}
use Rattle.diff_steps.specs.Edges.{beginning2}

-- ---- some pack shows it

abbrev pub some_pack : (Pack → List ℤ → Bool) → List Pack → List (List ℤ) → Bool
some_pack shows (pack ∷ packs) (m ∷ ms) = shows pack m || some_pack shows packs ms
some_pack shows _ ms = false

-- ---- ends

-- what is at most so many units of a scale is at most the greatest number of a receiver, once it is cut or rounded
abbrev pub high_fits : Mode → Receiver → ℕ → Option ℤ → Bool
high_fits mode r f None = false
high_fits mode r f (Some u) = int_le (near mode (value_of (decimal u f)) (pos r.scale)) (most r.digits)

-- what is at least the negative of so many units
abbrev pub low_fits : Mode → Receiver → ℕ → Option ℤ → Bool
low_fits mode r f None = false
low_fits mode r f (Some u) = int_le (neg_ℤ (most r.digits)) (near mode (value_of (decimal (neg_ℤ u) f)) (pos r.scale))

module _ (p : Program) (packs : List Pack) (ms : List (List ℤ)) (form : Pack → Option Lin) where
  abbrev pub high_shown : Mode → Receiver → Bool
  high_shown mode r =
      some_pack (λ pack m. high_fits mode r (pack_decimals p.layout pack) (form pack >>= upper_of (size_of pack) m)) packs ms

  abbrev pub low_shown : Mode → Receiver → Bool
  low_shown mode r =
      some_pack (λ pack m. low_fits mode r (pack_decimals p.layout pack) (form pack >>= upper_negated (size_of pack) m)) packs ms

  -- each end fits by the interval or by a pack
  abbrev pub ends_fit : Mode → Receiver → Interval → Bool
  ends_fit mode r i =
      (int_le i.high (most r.digits) || high_shown mode r) && (int_le (neg_ℤ (most r.digits)) i.low || low_shown mode r)

-- ---- subscripts

-- the bound is at most a number
abbrev pub is_at_most : ℤ → Option ℤ → Bool
is_at_most most None = false
is_at_most most (Some u) = int_le u most

-- Bounds are compared as they stand, in the pack's unit: of a number with the last occurrence's,
abbrev pub high_in_table : ℕ → ℕ → Option ℤ → Bool
high_in_table count f bound = is_at_most (pos (count * 10 ^ f)) bound

-- and of its negative with the first occurrence's.
abbrev pub low_in_table : ℕ → Option ℤ → Bool
low_in_table f bound = is_at_most (neg_ℤ (pos (10 ^ f))) bound

module _ (p : Program) (packs : List Pack) (ms : List (List ℤ)) (form : Pack → Option Lin) where
  abbrev pub high_found : ℕ → Bool
  high_found count =
      some_pack (λ pack m. high_in_table count (pack_decimals p.layout pack) (form pack >>= upper_of (size_of pack) m)) packs ms

  abbrev pub low_found : Bool
  low_found = some_pack (λ pack m. low_in_table (pack_decimals p.layout pack) (form pack >>= upper_negated (size_of pack) m)) packs ms

  -- each end is an occurrence's by the interval or by a pack
  abbrev pub ends_in_table : ℕ → Interval → Bool
  ends_in_table count i = (int_le i.high (pos count) || high_found count) && (int_le (pos 1) i.low || low_found)

-- ---- divisors

abbrev pub is_negative : Option ℤ → Bool
is_negative None = false
is_negative (Some u) = int_lt u (pos 0)

module _ (p : Program) where
  abbrev pub is_apart_in : Seen → Atom → Pack → List ℤ → Bool
  is_apart_in s d pack m =
      is_negative (atom_form (pack_decimals p.layout pack) (cell_at p pack s []) (range_at p s.cells) d >>= upper_of (size_of pack) m)
      || is_negative (atom_form (pack_decimals p.layout pack) (cell_at p pack s []) (range_at p s.cells) d >>= upper_negated (size_of pack) m)

-- ---- parts

module _ (p : Program) (packs : List Pack) (a : Act) (x : Action) where
  abbrev pub amounts_fit : Seen → Seen2 → ℕ → Mode → Amount → Taken → Bool
  amounts_fit t r place mode y c =
      option_map_or (ends_fit p packs r.packs (λ pack. amount_form p pack t r.wrote place y) mode (receiver_of (form_at p.layout place)))
      (amount_of y (range_at p t.cells place) c >>= amount_units mode (receiver_of (form_at p.layout place)).scale) true

  abbrev pub store_fits : Seen → Seen2 → ℕ → Mode → Amount → Bool
  store_fits t r place mode y =
      has_quotient y && (not (has_operands p t r.wrote y) || option_map_or (amounts_fit t r place mode y) t.common true)

  abbrev pub clears_part2 : Part → Seen → Seen2 → Kind → Bool
  clears_part2 (divide d) s r kind.Zero = clears_part p a x (divide d) s kind.Zero || some_pack (is_apart_in p s d) packs r.packs
  clears_part2 (index last k count) s r kind.Subscript =
      ends_in_table p packs r.packs (λ pack. subscript_form p pack s [] k) count (units_of p.layout (homes_of p) s.cells (of_item k))
  clears_part2 (store place mode y) s r fault =
      has_phrase a || (not (is_misfit y fault) || store_fits (with_taken p a x s) r place mode y)
  clears_part2 (set_count statement y) s r kind.Size =
      option_map_or (λ c. ends_fit p packs r.packs (λ pack. set_form p pack (with_taken p a x s) r.wrote y) Trunc counter c.top.units)
      (with_taken p a x s).common true
  clears_part2 (count_down statement) s r kind.Size =
      ends_fit p packs r.packs (λ pack. lowered_form p pack s r.wrote statement) Trunc counter
      (lowered (units_of p.layout (homes_of p) s.cells (of_count statement)))
  clears_part2 y s r fault = clears_part p a x y s fault

  -- Each part at its moment. One that no run comes to asks nothing.
  abbrev pub clears_parts2 : List Part → Seen → Seen2 → Kind → Bool
  clears_parts2 [] s r fault = true
  clears_parts2 (y ∷ ys) s r fault =
      clears_part2 y s r fault && option_map_or (λ t. clears_parts2 ys t.0 t.1 fault) (step2 p a x packs y s r) true

module _ (p : Program) (packs : List Pack) (statement : ℕ) (a : Act) (x : Action) where
  abbrev pub clears_edge2 : List Known → List (List ℤ) → Kind → Bool
  clears_edge2 cells ms fault =
      option_map_or (λ cs. clears_parts2 p packs a x (parts_of p statement a x) (beginning cells) (beginning2 cs) fault)
      (all_closed p cells packs ms) true
