-- Forms of amounts are over the cells of their pack.
use Rattle.std.proofs.Common.{◌≡◌, ℕ, ◌<◌, Bool, true, false, if◌then◌else◌, List, length, Option, Some, None, ℤ, is_some, refl, sym, subst}
use Rattle.std.specs.Prelude.{IfSome}
use Rattle.cob_data.specs.declared.layout.Sender.{Sender}
use Rattle.cob_data.specs.declared.layout.Sender.TheVariants as sender
use Rattle.cob_program.specs.declared.act.How.{How}
use Rattle.cob_program.specs.declared.act.How.TheVariants as how
use Rattle.cob_program.specs.Sum.{Sum}
use Rattle.cob_program.specs.Values.{◌>>=◌}
use Rattle.cob_edge_parts.specs.Parts.{Amount, moved, computed, remaining, augmented}
use Rattle.interval_domain.specs.declared.bounds.Interval.{Interval}
use Rattle.diff_bounds.specs.declared.form.lin.Lin.{Lin}
use Rattle.diff_bounds.specs.Forms.{if_small}
use Rattle.diff_bounds.specs.Results.{sum_of}
use Rattle.sum_ranges.specs.declared.ranged.Ranged.{Ranged}
use Rattle.sum_ranges.specs.SumRanges.{product_range}
use Rattle.sum_forms.specs.Constants.{constant_form, range_form, cell_form, item_form}
use Rattle.sum_forms.specs.SumForms.{sum_form}
use Rattle.sum_forms.specs.Values.{IsForm, IsWithin}
use Rattle.sum_forms.proofs.Shows.{if_there}
use Rattle.sum_forms.proofs.Within.{constant_within, range_within, cell_within, sum_within, scaled_within, turned_within, item_within, sum_form_within}
use Rattle.transfer_ranges.specs.declared.amounts.Taken.{Taken}
use Rattle.cob_graph.specs.declared.homes.Home.{Home}
use Rattle.diff_steps.specs.Packs.{cell_of}
use Rattle.diff_steps.specs.Forms.{whole_sum, added_forms, turned_if}
use Rattle.diff_layer.specs.Forms.{IsFormOf}
use Rattle.diff_layer.proofs.Places.{cell_below}
use Rattle.diff_layer.specs.Working.{settled_if, kept_by, taken_by, item_by, sender_by, own_by, read_by, multiplied_by, operands_by, computed_by, amount_by}

module _ (size : ℕ) where
  either_over : (b : Bool) (x y : Option Lin) → IfSome x (IsWithin size) → IfSome y (IsWithin size) → IfSome (if b then x else y) (IsWithin size)
  either_over true x y h k = h
  either_over false x y h k = k

  pub added_over : (a b : Option Lin) → IfSome a (IsWithin size) → IfSome b (IsWithin size) → IfSome (added_forms a b) (IsWithin size)
  added_over None b h k = tt
  added_over (Some x) None h k = tt
  added_over (Some x) (Some y) h k = if_there (IsWithin size) (sum_of x y) (sum_within size x y h k)

  kept_over : (f : ℕ) (c : Option Taken) → IfSome (kept_by f c) (IsWithin size)
  kept_over f None = tt
  kept_over f (Some c) = either_over (is_some c.under) None (range_form f c.top) tt (range_within size f c.top)

  taken_over : (f : ℕ) (common : Option Taken) (whole : Bool) → IfSome (taken_by f common whole) (IsWithin size)
  taken_over f common true = kept_over f common
  taken_over f common false = kept_over f (settled_if common)

  -- a form that is within its pack, by the list of its numbers
  pub of_pack : (o : Option Lin) → IfSome o IsForm → IfSome o (IsWithin size) → IfSome o (IsFormOf size)
  of_pack None good h = tt
  of_pack (Some form) good h = record { small = good.small; ordered = good.ordered; over = record { beyond = h } }

module _ (size f : ℕ) (cell : ℕ → Option ℕ) (few : (place k : ℕ) → cell place ≡ Some k → k < size) (common : Option Taken) (written : Bool) where
  item_over : (place : ℕ) (o : Option ℕ) → cell place ≡ o → IfSome (item_by f cell common written o) (IsWithin size)
  item_over place None e = kept_over size f common
  item_over place (Some k) e = either_over size written (kept_by f common) (Some (cell_form k)) (kept_over size f common) (cell_within size k (few place k e))

  pub sender_over : (x : Sender) → IfSome (sender_by f cell common written x) (IsWithin size)
  sender_over (sender.Item place) = item_over place (cell place) refl
  sender_over (sender.Number n) = kept_over size f common
  sender_over (sender.Text text) = kept_over size f common
  sender_over (sender.Fill byte) = kept_over size f common
  sender_over sender.Zero = kept_over size f common

  module _ (range : ℕ → Ranged) where
    pub own_over : (place : ℕ) → IfSome (own_by f cell range place) (IsWithin size)
    own_over place = item_within f cell range size few place (cell place) refl

    operands_over : (whole : Bool) (s : Sum) → IfSome (operands_by f cell range common written whole s) (IsWithin size)
    operands_over whole s =
        either_over size written (taken_by f common whole) (read_by f cell range whole s) (taken_over size f common whole)
        (either_over size _ None (sum_form f cell range s) tt (sum_form_within f cell range size few s))

    ranged_over : (place : ℕ) (o : Option Taken) → IfSome (o >>= λ c. range_form f (product_range (range place) c.top)) (IsWithin size)
    ranged_over place None = tt
    ranged_over place (Some c) = range_within size f (product_range (range place) c.top)

    multiplied_over : (place : ℕ) (o : Option ℤ) → IfSome (multiplied_by f cell range common place o) (IsWithin size)
    multiplied_over place (Some k) = scaled_within size k (own_by f cell range place) (own_over place)
    multiplied_over place None = ranged_over place (settled_if common)

    computed_over : (place : ℕ) (s : Sum) (h : How) → IfSome (computed_by f cell range common written place s h) (IsWithin size)
    computed_over place s how.Whole = operands_over true s
    computed_over place s how.Plus = added_over size (own_by f cell range place) (operands_by f cell range common written false s) (own_over place) (operands_over false s)
    computed_over place s how.Minus =
        added_over size (own_by f cell range place) (turned_if true (operands_by f cell range common written false s)) (own_over place)
        (turned_within size true (operands_by f cell range common written false s) (operands_over false s))
    computed_over place s how.Times = multiplied_over place (whole_sum s)
    computed_over place s how.Under = tt

    pub amount_over : (place : ℕ) (y : Amount) → IfSome (amount_by f cell range common written place y) (IsWithin size)
    amount_over place (moved x) = sender_over x
    amount_over place (computed s h) = computed_over place s h
    amount_over place (remaining s scale) = tt
    amount_over place (augmented x) = added_over size (own_by f cell range place) (sender_by f cell common written x) (own_over place) (sender_over x)

-- ---- a pack as the code has it

pub few : (cells : List Home) (home : Home) (k : ℕ) → cell_of cells home ≡ Some k → k < length cells
few cells home k e =
    subst (λ (o : Option ℕ). IfSome o (λ j. j < length cells)) e (cell_below home cells)

-- a form is of the pack's size if one that equals it is within it
pub is_of_pack : (size : ℕ) (o q : Option Lin) → IfSome o IsForm → o ≡ q → IfSome q (IsWithin size) → IfSome o (IsFormOf size)
is_of_pack size o q good e h = of_pack size o good (subst (λ (x : Option Lin). IfSome x (IsWithin size)) (sym e) h)

some_over : (size : ℕ) (o q : Option Lin) → o ≡ q → IfSome q (IsWithin size) → IfSome o (IsWithin size)
some_over size o q e h = subst (λ (x : Option Lin). IfSome x (IsWithin size)) (sym e) h

module _ (size f : ℕ) where
  -- a counter less one
  pub lowered_of_pack : (cell : Option ℕ) (range : Ranged) (i : Interval) (x y w : Option Lin) → ((k : ℕ) → cell ≡ Some k → k < size) → IfSome w IsForm →
      x ≡ item_form f cell range → y ≡ if_small (constant_form i) → w ≡ added_forms x y → IfSome w (IsFormOf size)
  lowered_of_pack cell range i x y w few good e g h =
      let one = some_over size x (item_form f cell range) e (item_within f (λ _. cell) (λ _. range) size (λ place k. few k) 0 cell refl) in
      let other = some_over size y (if_small (constant_form i)) g (if_there (IsWithin size) (constant_form i) (constant_within size i)) in
      is_of_pack size w (added_forms x y) good h (added_over size x y one other)

  -- a difference
  pub difference_of_pack : (cell : ℕ → Option ℕ) (range : ℕ → Ranged) (a b : Sum) (x y z w : Option Lin) → ((place k : ℕ) → cell place ≡ Some k → k < size) → IfSome w IsForm →
      x ≡ sum_form f cell range a → y ≡ sum_form f cell range b → z ≡ turned_if true y → w ≡ added_forms x z → IfSome w (IsFormOf size)
  difference_of_pack cell range a b x y z w few good e g h k =
      let one = some_over size x (sum_form f cell range a) e (sum_form_within f cell range size few a) in
      let other = some_over size y (sum_form f cell range b) g (sum_form_within f cell range size few b) in
      is_of_pack size w (added_forms x z) good k
      (added_over size x z one (some_over size z (turned_if true y) h (turned_within size true y other)))
