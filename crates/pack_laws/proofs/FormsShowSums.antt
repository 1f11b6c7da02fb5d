-- Where numbers stand in storage, the forms of sums show what the sums are worth.
use Rattle.std.proofs.Common.{◌≡◌, ◌<◌, ◌≤◌, ℕ, suc, ◌+◌, ◌-◌, ◌^◌, Bool, true, false, List, [], ◌∷◌, Option, Some, None, is_some, ℤ, pos, neg_ℤ, ◌*ℤ◌, ◌≤ℤ◌, refl, sym, ap, subst, ◌∙◌, pow-add, arith}
use Rattle.std.specs.Prelude.{IfSome, IsSomeAnd, unwrap_or}
use Rattle.std.specs.Option.{option_map}
use Rattle.std.proofs.lemmas.Int.{ints}
use Rattle.std.proofs.Math.IntN.{zero-*ℤ}
use Rattle.dec_num.specs.declared.types.Scaled.{Scaled}
use Rattle.dec_num.proofs.Signed.{times_times}
use Rattle.interval_domain.specs.declared.bounds.Interval.{Interval}
use Rattle.interval_domain.specs.Bounds.{Holds}
use Rattle.cob_tree.specs.declared.form.Form.{Form}
use Rattle.cob_tree.specs.declared.form.Form.TheVariants as form
use Rattle.num_bytes.specs.Reading.{contents_value}
use Rattle.cob_program.specs.Sum.{Sum, Atom, item, number, group}
use Rattle.cob_program.specs.Values.{whole_number, literal, sum_value, atom_value}
use Rattle.cob_program.specs.Act.{Program}
use Rattle.cob_program.proofs.Steps.{some_same}
use Rattle.cob_runs.specs.Contents.{form_at, bytes_at, scale_of, scaled_by, number_at}
use Rattle.cob_runs.specs.Computing as computing
use Rattle.cob_runs.specs.Computing.{items_in, items_in_atom, are_numeric}
use Rattle.cob_edge_parts.specs.Meaning.{count_in}
use Rattle.diff_bounds.specs.Values.{worth, worths}
use Rattle.sum_ranges.specs.Ranged.{decimal, ranged, point, IsIn}
use Rattle.sum_ranges.specs.SumRanges.{sum_range}
use Rattle.sum_ranges.proofs.Least.{point_in}
use Rattle.sum_ranges.proofs.Sound.{sum_in}
use Rattle.sum_forms.specs.Constants.{item_form}
use Rattle.sum_forms.specs.SumForms.{sum_form, atom_form}
use Rattle.sum_forms.specs.Values.{Shows, AreHeld}
use Rattle.sum_forms.proofs.Shows.{item_shows}
use Rattle.sum_forms.proofs.Sound.{sum_shown}
use Rattle.transfer_ranges.proofs.Agreement.{numeric_sum}
use Rattle.interval_domain.specs.Known.{Known}
use Rattle.cob_graph.specs.declared.homes.Home.{Home}
use Rattle.cob_graph.specs.declared.homes.Home.TheVariants.{Item as of_item, Count as of_count}
use Rattle.cob_graph.specs.Homes.{homes_of}
use Rattle.cell_steps.specs.OwnRanges.{picture_range, form_range, home_range}
use Rattle.cell_steps.specs.Storages.{storage, known_of, value_at, KnownStands, StandsIn}
use Rattle.cell_steps.specs.Premises.{HasSoundItems}
use Rattle.cell_steps.specs.Cells.{known_or, units_of}
use Rattle.cell_steps.specs.Stores.{range_at}
use Rattle.cell_laws.proofs.HomesHold.{some_times, units_hold}
use Rattle.cell_laws.proofs.PartsDone.{both_true}
use Rattle.diff_steps.specs.Packs.{Pack, size_of, cell_of, decimals_of, pack_decimals, unit_of, cells_in}
use Rattle.pack_laws.proofs.PacksWordsRise.{cell_within}
use Rattle.pack_laws.proofs.PacksKeepCells.{found_cell, decimals_within, no_cell}
use Rattle.pack_laws.proofs.PacksKeepCells as cell
use Rattle.pack_laws.proofs.FormsShowItems.{HaveValues, item_form_is_of_values, sum_form_is_of_values}
use Rattle.pack_laws.proofs.FormsShowValues.{Told, told, range_told, cell_told}
use Rattle.cell_laws.proofs.ItemRanges.{above_zero}

-- in a finer unit
units_up : (z : ℤ) (scale f : ℕ) → scale ≤ f → (z *ℤ pos (10 ^ (f - scale))) *ℤ pos (10 ^ scale) ≡ z *ℤ pos (10 ^ f)
units_up z scale f h =
    let e : (f - scale) + scale ≡ f = omega (arith, h) in
    times_times z (10 ^ (f - scale)) (10 ^ scale) ∙ ap (λ (n : ℕ). z *ℤ pos n) (sym (pow-add 10 (f - scale) scale) ∙ ap (λ (n : ℕ). 10 ^ n) e)

both_zero : (m n : ℕ) → pos 0 *ℤ pos m ≡ pos 0 *ℤ pos n
both_zero m n = zero-*ℤ (pos m) ∙ sym (zero-*ℤ (pos n))

-- ---- 0 lies in each own range

below_zero : (n : ℕ) → neg_ℤ (pos n) ≤ℤ pos 0
below_zero n = omega (arith, ints)

zero_in_picture : (digits : ℕ) (signed : Bool) → Holds (picture_range digits signed) (pos 0)
zero_in_picture digits true = (below_zero (10 ^ digits - 1), above_zero (10 ^ digits - 1))
zero_in_picture digits false = (above_zero 0, above_zero (10 ^ digits - 1))

zero_in_form : (f : Form) → Holds (form_range f) (pos 0)
zero_in_form form.Group = zero_in_picture 0 false
zero_in_form (form.Text n) = zero_in_picture n false
zero_in_form (form.Number digits scale signed kept) = zero_in_picture digits signed
zero_in_form (form.Edited picture digits scale) = zero_in_picture digits false

-- what has no value isn't known
zero_in : (own : Interval) (k : Known) → Holds own (pos 0) → KnownStands k None → Holds (known_or own k) (pos 0)
zero_in own None h stands = h
zero_in own (Some i) h stands = absurd stands

-- ---- numbers in storage

module _ (p : Program) (sound : HasSoundItems p.layout) (known : List Known) (bytes : List ℕ) (counts : List (Option ℤ)) (stands : StandsIn p known (storage bytes counts)) (pack : Pack) (few : size_of pack ≤ 8) where
  abbrev pub f : ℕ
  f = pack_decimals p.layout pack

  abbrev pub cells : ℕ → Option ℤ
  cells = cells_in p.layout pack (storage bytes counts)

  abbrev cell_at : ℕ → Option ℕ
  cell_at place = cell_of pack (of_item place)

  -- an item's number, or 0
  abbrev number_or_zero : ℕ → Scaled
  number_or_zero place = unwrap_or (number_at p.layout bytes place) (decimal (pos 0) (scale_of (form_at p.layout place)))

  all_in : (place : ℕ) → IsIn (number_or_zero place) (range_at p known place)
  all_in place = by_value (contents_value (form_at p.layout place) (bytes_at p.layout bytes place)) refl
    where
      by_value : (o : Option ℤ) → contents_value (form_at p.layout place) (bytes_at p.layout bytes place) ≡ o → IsIn (unwrap_or (option_map (scaled_by (scale_of (form_at p.layout place))) o) (decimal (pos 0) (scale_of (form_at p.layout place)))) (range_at p known place)
      by_value None e = record {
        held = zero_in (home_range p.layout (of_item place)) (known_of (homes_of p) known (of_item place)) (zero_in_form (form_at p.layout place))
            (subst (λ (v : Option ℤ). KnownStands (known_of (homes_of p) known (of_item place)) v) e
            (stands.known (of_item place) 0 (some_times p.layout sound place)));
        scale = refl;
      }
      by_value (Some z) e = record { held = units_hold p sound known (storage bytes counts) stands place 0 z (some_times p.layout sound place) e; scale = refl }

  cell_value : (h : Home) (k : ℕ) → cell_of pack h ≡ Some k → cells (suc k) ≡ option_map (λ v. v *ℤ pos (unit_of p.layout pack h)) (value_at p.layout (storage bytes counts) h 0)
  cell_value h k e = cell.cell_value p.layout pack (storage bytes counts) k h (found_cell pack h k e)

  its_units : (h : Home) (k : ℕ) → cell_of pack h ≡ Some k → (z : ℤ) → (z *ℤ pos (unit_of p.layout pack h)) *ℤ pos (10 ^ decimals_of p.layout h) ≡ z *ℤ pos (10 ^ pack_decimals p.layout pack)
  its_units h k e z = units_up z (decimals_of p.layout h) (pack_decimals p.layout pack) (decimals_within p.layout pack k h (found_cell pack h k e))

  few_cells : (h : Home) (k : ℕ) → cell_of pack h ≡ Some k → k < 8
  few_cells h k e = let within = cell_within pack h k e in omega (arith, within, few)

  all_values : (place k : ℕ) → cell_of pack (of_item place) ≡ Some k → worths cells (suc k) *ℤ pos (10 ^ (number_or_zero place).scale) ≡ (number_or_zero place).units *ℤ pos (10 ^ pack_decimals p.layout pack)
  all_values place k e =
      subst (λ (c : Option ℤ). worth c *ℤ pos (10 ^ (number_or_zero place).scale) ≡ (number_or_zero place).units *ℤ pos (10 ^ pack_decimals p.layout pack)) (sym (cell_value (of_item place) k e))
      (by_value (contents_value (form_at p.layout place) (bytes_at p.layout bytes place)))
    where
      by_value : (o : Option ℤ) → worth (option_map (λ v. v *ℤ pos (unit_of p.layout pack (of_item place))) o) *ℤ pos (10 ^ (unwrap_or (option_map (scaled_by (scale_of (form_at p.layout place))) o) (decimal (pos 0) (scale_of (form_at p.layout place)))).scale) ≡ (unwrap_or (option_map (scaled_by (scale_of (form_at p.layout place))) o) (decimal (pos 0) (scale_of (form_at p.layout place)))).units *ℤ pos (10 ^ pack_decimals p.layout pack)
      by_value None = both_zero (10 ^ scale_of (form_at p.layout place)) (10 ^ pack_decimals p.layout pack)
      by_value (Some z) = its_units (of_item place) k e z

  are_held : AreHeld f cell_at (range_at p known) number_or_zero (λ k. worths cells (suc k))
  are_held = record { held = all_in; values = all_values; few = λ place k e. few_cells (of_item place) k e }

  -- a number is in its cell
  has_value : (place : ℕ) → is_some (number_at p.layout bytes place) ≡ true → (k : ℕ) → cell_of pack (of_item place) ≡ Some k → cells (suc k) ≡ None → ⊥
  has_value place there k e none = by_value (contents_value (form_at p.layout place) (bytes_at p.layout bytes place)) there (sym (cell_value (of_item place) k e) ∙ none)
    where
      by_value : (o : Option ℤ) → is_some (option_map (scaled_by (scale_of (form_at p.layout place))) o) ≡ true → option_map (λ v. v *ℤ pos (unit_of p.layout pack (of_item place))) o ≡ None → ⊥
      by_value None there none = cc
      by_value (Some z) there none = cc

  have_values : (places : List ℕ) → are_numeric p.layout bytes places ≡ true → HaveValues cell_at cells places
  have_values [] e = tt
  have_values (place ∷ places) e =
      let both = both_true (is_some (number_at p.layout bytes place)) (are_numeric p.layout bytes places) e in
      (has_value place both.0, have_values places both.1)

  -- ---- forms

  pub none_after : (k : ℕ) → size_of pack ≤ k → cells (suc k) ≡ None
  none_after k h = no_cell p.layout pack (storage bytes counts) k h

  pub item_told : (place : ℕ) (v : Scaled) → number_at p.layout bytes place ≡ Some v → Told cells f (item_form f (cell_at place) (range_at p known place)) v
  item_told place v e =
      told cells f (item_form f (cell_at place) (range_at p known place)) v
      (item_form_is_of_values cell_at cells f (range_at p known) place (has_value place (ap is_some e), tt))
      (subst (λ (o : Option Scaled). IfSome (item_form f (cell_at place) (range_at p known place)) (λ g. Shows f (λ k. worths cells (suc k)) g (unwrap_or o (decimal (pos 0) (scale_of (form_at p.layout place)))))) e
      (item_shows f cell_at (range_at p known) number_or_zero (λ k. worths cells (suc k)) are_held place))

  pub sum_told : (s : Sum) (v : Scaled) → are_numeric p.layout bytes (items_in s) ≡ true → sum_value (computing.worth p.layout bytes) s ≡ Some v → Told cells f (sum_form f cell_at (range_at p known) s) v
  sum_told s v numeric e =
      told cells f (sum_form f cell_at (range_at p known) s) v
      (sum_form_is_of_values cell_at cells f (range_at p known) s (have_values (items_in s) numeric))
      (sum_shown f cell_at (range_at p known) number_or_zero (λ k. worths cells (suc k)) are_held s v
      (sym (numeric_sum p.layout bytes (λ place. decimal (pos 0) (scale_of (form_at p.layout place))) s numeric) ∙ e))

  pub atom_told : (d : Atom) (v : Scaled) → are_numeric p.layout bytes (items_in_atom d) ≡ true → atom_value (computing.worth p.layout bytes) d ≡ Some v → Told cells f (atom_form f cell_at (range_at p known) d) v
  atom_told (item place) v numeric e = item_told place v (its_number (number_at p.layout bytes place) (both_true (is_some (number_at p.layout bytes place)) true numeric).0 e)
    where
      its_number : (o : Option Scaled) → is_some o ≡ true → Some (unwrap_or o (whole_number (pos 0))) ≡ Some v → o ≡ Some v
      its_number None there e = absurd cc
      its_number (Some w) there e = e
  atom_told (number n) v numeric e = range_told cells f (point (literal n)) v (subst (λ (w : Scaled). IsIn w (point (literal n))) (some_same (literal n) v e) (point_in (literal n)))
  atom_told (group s) v numeric e = sum_told s v numeric e

  -- the sum's range holds it
  pub sum_ranged : (s : Sum) (v : Scaled) → are_numeric p.layout bytes (items_in s) ≡ true → sum_value (computing.worth p.layout bytes) s ≡ Some v → IsSomeAnd (sum_range (range_at p known) s) (IsIn v)
  sum_ranged s v numeric e =
      sum_in number_or_zero (range_at p known) all_in s v (sym (numeric_sum p.layout bytes (λ place. decimal (pos 0) (scale_of (form_at p.layout place))) s numeric) ∙ e)

  -- A counter's number, where the pack has its cell, and else any of its range.
  pub count_told : (statement : ℕ) (v : ℤ) → ((k : ℕ) → cell_of pack (of_count statement) ≡ Some k → count_in counts statement ≡ Some v)
      → (cell_of pack (of_count statement) ≡ None → Holds (units_of p.layout (homes_of p) known (of_count statement)) v)
      → Told cells f (item_form f (cell_of pack (of_count statement)) (ranged (units_of p.layout (homes_of p) known (of_count statement)) 0)) (whole_number v)
  count_told statement v there within = by_cell (cell_of pack (of_count statement)) refl
    where
      by_cell : (o : Option ℕ) → cell_of pack (of_count statement) ≡ o → Told cells f (item_form f o (ranged (units_of p.layout (homes_of p) known (of_count statement)) 0)) (whole_number v)
      by_cell (Some k) at =
          cell_told cells f k (whole_number v) (v *ℤ pos (unit_of p.layout pack (of_count statement))) (few_cells (of_count statement) k at)
          (cell_value (of_count statement) k at ∙ ap (option_map (λ z. z *ℤ pos (unit_of p.layout pack (of_count statement)))) (there k at)) (its_units (of_count statement) k at v)
      by_cell None at = range_told cells f (ranged (units_of p.layout (homes_of p) known (of_count statement)) 0) (whole_number v) (record { held = within at; scale = refl })
