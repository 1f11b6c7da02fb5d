-- Items' ranges where less is known.
use Rattle.std.proofs.Common.{◌≡◌, ℕ, Bool, true, false, List, Some, None, is_some, pos, ◌≤ℤ◌, refl, arith}
use Rattle.std.specs.Prelude.{map, neg_ℤ, ◌-◌, ◌^◌}
use Rattle.std.proofs.lemmas.Int.{ints}
use Rattle.cob_tree.specs.declared.form.Form.{Form}
use Rattle.cob_tree.specs.declared.form.Form.TheVariants as form
use Rattle.cob_data.specs.declared.layout.Layout.{Layout}
use Rattle.cob_runs.specs.Contents.{form_at}
use Rattle.interval_domain.specs.declared.bounds.Interval.{Interval}
use Rattle.sum_ranges.specs.Ranged.{IsNarrower, IsOrdered}
use Rattle.interval_domain.specs.Known.{Known, KnownFits, KnownBelow}
use Rattle.interval_domain.specs.Elements.{CellsFit, CellsBelow}
use Rattle.cob_graph.specs.declared.homes.Home.{Home}
use Rattle.cob_graph.specs.declared.homes.Home.TheVariants.{Item as of_item, Count as of_count}
use Rattle.cell_steps.specs.OwnRanges.{picture_range, form_range, home_range}
use Rattle.cell_steps.specs.Storages.{known_of}
use Rattle.cell_steps.specs.Cells.{is_known, known_or, units_of, range_at, is_numeric}
use Rattle.transfer_ranges.specs.Meaning.{Knows}
use Rattle.cell_laws.proofs.CellLists.{known_fits, known_below}

-- ---- own ranges

around_zero : (n : ℕ) → neg_ℤ (pos n) ≤ℤ pos n
around_zero n = omega (arith, ints)

pub above_zero : (n : ℕ) → pos 0 ≤ℤ pos n
above_zero n = omega (arith, ints)

pub picture_ordered : (digits : ℕ) (signed : Bool) → (picture_range digits signed).low ≤ℤ (picture_range digits signed).high
picture_ordered digits true = around_zero (10 ^ digits - 1)
picture_ordered digits false = above_zero (10 ^ digits - 1)

pub form_ordered : (f : Form) → (form_range f).low ≤ℤ (form_range f).high
form_ordered form.Group = picture_ordered 0 false
form_ordered (form.Text n) = picture_ordered n false
form_ordered (form.Number digits scale signed kept) = picture_ordered digits signed
form_ordered (form.Edited picture digits scale) = picture_ordered digits false

pub home_ordered : (l : Layout) (h : Home) → (home_range l h).low ≤ℤ (home_range l h).high
home_ordered l (of_item place) = form_ordered (form_at l place)
home_ordered l (of_count n) = picture_ordered 18 true

-- ---- units

-- some numbers, and all of them the other's
pub record Within (i j : Interval) : Type 0 where
  pub ordered : i.low ≤ℤ i.high
  pub low : j.low ≤ℤ i.low
  pub high : i.high ≤ℤ j.high

pub known_or_fits : (own : Interval) (c : Known) → own.low ≤ℤ own.high → KnownFits own c → KnownFits own (Some (known_or own c))
known_or_fits own None o f = (omega (arith, ints), o, omega (arith, ints))
known_or_fits own (Some i) o f = f

pub known_or_below : (own : Interval) (c d : Known) → own.low ≤ℤ own.high → KnownFits own c → KnownBelow c d → Within (known_or own c) (known_or own d)
known_or_below own None None o f h = record { ordered = o; low = omega (arith, ints); high = omega (arith, ints) }
known_or_below own None (Some j) o f h = absurd h
known_or_below own (Some i) None o f h = record { ordered = f.1; low = f.0; high = f.2 }
known_or_below own (Some i) (Some j) o f h = record { ordered = f.1; low = h.0; high = h.1 }

module _ (l : Layout) (hs : List Home) where
  pub units_fit : (cs : List Known) (h : Home) → CellsFit (map (home_range l) hs) cs → KnownFits (home_range l h) (Some (units_of l hs cs h))
  units_fit cs h f = known_or_fits (home_range l h) (known_of hs cs h) (home_ordered l h) (known_fits l hs cs h f)

  pub units_below : (as_ bs : List Known) (h : Home) → CellsFit (map (home_range l) hs) as_ → CellsBelow as_ bs → Within (units_of l hs as_ h) (units_of l hs bs h)
  units_below as_ bs h f k = known_or_below (home_range l h) (known_of hs as_ h) (known_of hs bs h) (home_ordered l h) (known_fits l hs as_ h f) (known_below hs as_ bs h k)

  pub range_ordered : (cs : List Known) → CellsFit (map (home_range l) hs) cs → (place : ℕ) → IsOrdered (range_at l hs cs place)
  range_ordered cs f place = (units_fit cs (of_item place) f).1

  pub range_below : (as_ bs : List Known) → CellsFit (map (home_range l) hs) as_ → CellsBelow as_ bs → (place : ℕ) → IsNarrower (range_at l hs as_ place) (range_at l hs bs place)
  range_below as_ bs f k place =
      let w = units_below as_ bs (of_item place) f k in
      record { ordered = w.ordered; low = w.low; high = w.high; scale = refl }

  some_below : (c d : Known) → KnownBelow c d → is_some d ≡ true → is_some c ≡ true
  some_below None None h e = e
  some_below None (Some j) h e = absurd h
  some_below (Some i) d h e = refl

  pub is_known_below : (as_ bs : List Known) → CellsBelow as_ bs → (h : Home) → is_known hs bs h ≡ true → is_known hs as_ h ≡ true
  is_known_below as_ bs k h e = some_below (known_of hs as_ h) (known_of hs bs h) (known_below hs as_ bs h k) e

  pub numeric_below : (as_ bs : List Known) → CellsBelow as_ bs → (place : ℕ) → is_numeric l hs bs place ≡ true → is_numeric l hs as_ place ≡ true
  numeric_below as_ bs k place e = is_known_below as_ bs k (of_item place) e

  pub knows_more : (as_ bs : List Known) → CellsFit (map (home_range l) hs) as_ → CellsBelow as_ bs → Knows (range_at l hs as_) (is_numeric l hs as_) (range_at l hs bs) (is_numeric l hs bs)
  knows_more as_ bs f k = record { ranges = range_below as_ bs f k; numeric = numeric_below as_ bs k }
