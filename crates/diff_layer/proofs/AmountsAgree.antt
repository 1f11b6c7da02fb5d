-- The forms that the code works out are those of the amounts.
use Rattle.std.proofs.Common.{◌≡◌, ◌||◌, ℕ, Bool, true, false, if◌then◌else◌, List, Option, Some, None, is_some, ℤ, refl, sym, ap, ◌∙◌}
use Rattle.cob_data.specs.declared.extent.Extent.{Extent}
use Rattle.cob_data.specs.declared.layout.Sender.{Sender}
use Rattle.cob_data.specs.declared.layout.Sender.TheVariants as sender
use Rattle.cob_program.specs.declared.act.How.{How}
use Rattle.cob_program.specs.declared.act.How.TheVariants as how
use Rattle.cob_program.specs.Sum.{Sum}
use Rattle.cob_program.specs.Act.{Program}
use Rattle.cob_runs.specs.Computing.{items_in}
use Rattle.cob_edge_parts.specs.Parts.{Amount, moved, computed, remaining, augmented}
use Rattle.diff_bounds.specs.declared.form.lin.Lin.{Lin}
use Rattle.sum_ranges.specs.declared.ranged.Ranged.{Ranged}
use Rattle.sum_ranges.specs.SumRanges.{sum_range}
use Rattle.sum_forms.specs.Constants.{item_form}
use Rattle.transfer_ranges.specs.declared.amounts.Taken.{Taken}
use Rattle.interval_domain.specs.Known.{Known}
use Rattle.cob_graph.specs.declared.homes.Home.TheVariants.{Item as of_item}
use Rattle.cell_steps.specs.Seen.{Seen}
use Rattle.cell_steps.specs.Stores.{range_at}
use Rattle.diff_steps.specs.Packs.{Pack, cell_of, pack_decimals}
use Rattle.diff_steps.specs.Moments.{is_written}
use Rattle.diff_steps.specs.Forms.{whole_sum, added_forms, turned_if, kept_form, taken_form, operands_form, item_sent, sender_form, multiplied_form, computed_form, amount_form, own_form, is_whole_sender, set_form, lowered_form, has_operands}
use Rattle.diff_layer.specs.Views.{taken_at}
use Rattle.diff_layer.specs.Working.{settled_if, kept_by, taken_by, item_by, sender_by, read_by, multiplied_by, operands_by, computed_by, amount_by}
use Rattle.diff_layer.specs.PackWriting.{sender_items, amount_items, are_written}

or_none : (b : Bool) → (b || false) ≡ b
or_none true = refl
or_none false = refl

module _ (p : Program) (pack : Pack) (seen : Seen) (wrote : List Extent) where
  abbrev common : Option Taken
  common = seen.common

  abbrev f : ℕ
  f = pack_decimals p.layout pack

  abbrev cell : ℕ → Option ℕ
  cell place = cell_of pack (of_item place)

  abbrev range : ℕ → Ranged
  range place = range_at p seen.cells place

  kept_is : (c : Option Taken) → kept_by f c ≡ kept_form p pack seen wrote c
  kept_is None = refl
  kept_is (Some c) = refl

  taken_is : (whole : Bool) → taken_by f common whole ≡ taken_form p pack seen wrote whole
  taken_is true = kept_is common
  taken_is false = kept_is (settled_if common)

  -- ---- senders

  item_is : (place : ℕ) (o : Option ℕ) (written : Bool) → cell place ≡ o → item_by f cell common written o ≡ item_sent p pack seen wrote place o written
  item_is place (Some k) true e = kept_is common
  item_is place (Some k) false e = sym (ap (λ (q : Option ℕ). item_form f q (range place)) e)
  item_is place None written e = kept_is common

  sender_is : (x : Sender) (written : Bool) → written ≡ are_written p.layout wrote (sender_items x) → sender_by f cell common written x ≡ sender_form p pack seen wrote x
  sender_is (sender.Item place) written e =
      item_is place (cell place) written refl
      ∙ ap (λ (b : Bool). item_sent p pack seen wrote place (cell place) b) (e ∙ or_none (is_written p.layout wrote place))
  sender_is (sender.Number n) written e = kept_is common
  sender_is (sender.Text text) written e = kept_is common
  sender_is (sender.Fill byte) written e = kept_is common
  sender_is sender.Zero written e = kept_is common

  -- ---- sums

  operands_is : (whole : Bool) (s : Sum) (written : Bool) → written ≡ are_written p.layout wrote (items_in s) →
      operands_by f cell range common written whole s ≡ operands_form p pack seen wrote whole s
  operands_is whole s written e =
      ap (λ (b : Bool). if b then taken_by f common whole else read_by f cell range whole s) e
      ∙ ap (λ (o : Option Lin). if are_written p.layout wrote (items_in s) then o else read_by f cell range whole s) (taken_is whole)

  multiplied_is : (place : ℕ) (o : Option ℤ) → multiplied_by f cell range common place o ≡ multiplied_form p pack seen wrote place o
  multiplied_is place (Some k) = refl
  multiplied_is place None = refl

  computed_is : (place : ℕ) (s : Sum) (h : How) (written : Bool) → written ≡ are_written p.layout wrote (items_in s) →
      computed_by f cell range common written place s h ≡ computed_form p pack seen wrote place s h
  computed_is place s how.Whole written e = operands_is true s written e
  computed_is place s how.Plus written e = ap (added_forms (own_form p pack seen wrote place)) (operands_is false s written e)
  computed_is place s how.Minus written e =
      ap (λ (o : Option Lin). added_forms (own_form p pack seen wrote place) (turned_if true o)) (operands_is false s written e)
  computed_is place s how.Times written e = multiplied_is place (whole_sum s)
  computed_is place s how.Under written e = refl

  pub amount_same : (place : ℕ) (y : Amount) (written : Bool) → written ≡ are_written p.layout wrote (amount_items y) →
      amount_by f cell range common written place y ≡ amount_form p pack seen wrote place y
  amount_same place (moved x) written e = sender_is x written e
  amount_same place (computed s h) written e = computed_is place s h written e
  amount_same place (remaining s scale) written e = refl
  amount_same place (augmented x) written e = ap (added_forms (own_form p pack seen wrote place)) (sender_is x written e)

  -- what a counter is set to
  set_same : (x : Sender) (written : Bool) → written ≡ are_written p.layout wrote (sender_items x) →
      (if is_whole_sender p.layout x then sender_by f cell common written x else None) ≡ set_form p pack seen wrote x
  set_same x written e = ap (λ (o : Option Lin). if is_whole_sender p.layout x then o else None) (sender_is x written e)

-- both definitions give an amount one form in the pack's unit where operands are taken
pub amount_is : (p : Program) (pack : Pack) (cells : List Known) (common : Option Taken) (wrote : List Extent) (place : ℕ) (y : Amount) (written : Bool) (d : ℕ) (o : Option Lin) →
    d ≡ pack_decimals p.layout pack → written ≡ are_written p.layout wrote (amount_items y) →
    o ≡ amount_by d (λ k. cell_of pack (of_item k)) (range_at p cells) common written place y → o ≡ amount_form p pack (taken_at cells common) wrote place y
amount_is p pack cells common wrote place y written d o unit e is =
    is ∙ ap (λ n. amount_by n (λ k. cell_of pack (of_item k)) (range_at p cells) common written place y) unit
    ∙ amount_same p pack (taken_at cells common) wrote place y written e

-- ---- moments at which the same is known of cells, and of operands when they were taken

module _ (p : Program) (pack : Pack) (t : Seen) (cells : List Known) (common : Option Taken) (wrote : List Extent) where
  abbrev item_cell : ℕ → Option ℕ
  item_cell place = cell_of pack (of_item place)

  pub same_amount_form : (place : ℕ) (y : Amount) → cells ≡ t.cells → common ≡ t.common → amount_form p pack (taken_at cells common) wrote place y ≡ amount_form p pack t wrote place y
  same_amount_form place y e g =
      let written = are_written p.layout wrote (amount_items y) in
      sym (amount_same p pack (taken_at cells common) wrote place y written refl)
      ∙ ap (λ (cs : List Known). amount_by (pack_decimals p.layout pack) item_cell (range_at p cs) common written place y) e
      ∙ ap (λ (c : Option Taken). amount_by (pack_decimals p.layout pack) item_cell (range_at p t.cells) c written place y) g
      ∙ amount_same p pack t wrote place y written refl

  pub same_set_form : (x : Sender) → common ≡ t.common → set_form p pack (taken_at cells common) wrote x ≡ set_form p pack t wrote x
  same_set_form x g =
      let written = are_written p.layout wrote (sender_items x) in
      sym (set_same p pack (taken_at cells common) wrote x written refl)
      ∙ ap (λ (c : Option Taken). if is_whole_sender p.layout x then sender_by (pack_decimals p.layout pack) item_cell c written x else None) g
      ∙ set_same p pack t wrote x written refl

  pub same_lowered_form : (statement : ℕ) → cells ≡ t.cells → lowered_form p pack (taken_at cells common) wrote statement ≡ lowered_form p pack t wrote statement
  same_lowered_form statement e = ap (λ (cs : List Known). lowered_form p pack (taken_at cs t.common) wrote statement) e

  pub same_operands : (y : Amount) → cells ≡ t.cells → has_operands p (taken_at cells common) wrote y ≡ has_operands p t wrote y
  same_operands (moved x) e = refl
  same_operands (computed s h) e =
      ap (λ (cs : List Known). are_written p.layout wrote (items_in s) || is_some (sum_range (range_at p cs) s)) e
  same_operands (remaining s scale) e = refl
  same_operands (augmented x) e = refl
