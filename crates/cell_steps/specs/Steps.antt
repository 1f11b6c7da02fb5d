-- What each part of an edge makes of what is seen before it (Cousot and Cousot 1977).
use Rattle.std.specs.Prelude.{ℕ, ◌||◌, ◌&&◌, not, if◌then◌else◌, Bool, false, List, Option, Some, None, pos, int_le}
use Rattle.std.specs.Option.{option_map}
use Rattle.interval_domain.specs.declared.bounds.Interval.{Interval}
use Rattle.interval_domain.specs.Corners.{interval}
use Rattle.cob_program.specs.Values.{◌>>=◌}
use Rattle.cob_program.specs.Sum.{Atom}
use Rattle.cob_program.specs.Logic.{Test}
use Rattle.cob_program.specs.Act.{Act, Program}
use Rattle.cob_runs.specs.declared.action.Action.{Action}
use Rattle.cob_edge_parts.specs.Parts.{Part, read, unread, subscript, index, divide, store, bytes_in, guard, read_count, set_count, count_down, guard_count}
use Rattle.sum_ranges.specs.declared.ranged.Ranged.{Ranged}
use Rattle.sum_ranges.specs.SumRanges.{atom_range}
use Rattle.sum_ranges.specs.Vanishing.{may_be_zero}
use Rattle.transfer_ranges.specs.ResultRanges.{count_range, lowered}
use Rattle.transfer_ranges.specs.declared.cuts.Cut.{Cut}
use Rattle.transfer_ranges.specs.declared.cuts.Cuts.{Cuts}
use Rattle.transfer_ranges.specs.Guards.{guarded}
use Rattle.transfer_ranges.specs.Counts.{count_kept}
use Rattle.transfer_ranges.specs.Kept.{met}
use Rattle.interval_domain.specs.Known.{Known}
use Rattle.cob_graph.specs.declared.homes.Home.{Home}
use Rattle.cob_graph.specs.declared.homes.Home.TheVariants.{Item as of_item, Count as of_count}
use Rattle.cob_graph.specs.Homes.{homes_of}
use Rattle.cell_steps.specs.Cells.{is_table, units_of, is_numeric, with_known, forgotten, is_in_extent, bytes_from}
use Rattle.cell_steps.specs.Seen.{Seen, with_cells, with_zero}
use Rattle.cell_steps.specs.Stores.{range_at, handled, with_taken, stored}

abbrev pub is_zero_alone : Ranged → Bool
is_zero_alone r = int_le (pos 0) r.units.low && int_le r.units.high (pos 0)

-- a divisor has numbers other than 0
abbrev pub can_divide : Option Ranged → Bool
can_divide None = false
can_divide (Some r) = not (is_zero_alone r)

-- the numbers that name an occurrence of a table of so many
abbrev pub table : ℕ → Interval
table count = interval (pos 1) (pos count)

module _ (p : Program) where
  -- the home's number lies in an interval
  abbrev pub known_as : Home → List Known → Interval → List Known
  known_as h cells i = with_known h (Some i) (homes_of p) cells

  -- what is read has a number, of its own range where nothing else is known
  abbrev pub read_cells : Home → List Known → List Known
  read_cells h cells = known_as h cells (units_of p.layout (homes_of p) cells h)

  -- A test tells of one occurrence of a table's item, so that nothing more is known of all of them.
  abbrev pub cut_cells : List Known → Option Cut → List Known
  cut_cells cells None = cells
  cut_cells cells (Some c) = if is_table p.layout c.item then cells else known_as (of_item c.item) cells c.units

  abbrev pub all_cut : List Known → Cuts → List Known
  all_cut cells c = cut_cells (cut_cells cells c.left) c.right

  abbrev pub guarded_cells : Test → Bool → List Known → Option (List Known)
  guarded_cells t wanted cells =
      option_map (all_cut cells)
      (guarded p.layout (range_at p cells) (is_numeric p.layout (homes_of p) cells) t wanted)

  -- what the test of a loop by TIMES leaves
  abbrev pub counted_cells : ℕ → Bool → List Known → Option (List Known)
  counted_cells statement wanted cells =
      option_map (known_as (of_count statement) cells)
      (count_kept wanted (units_of p.layout (homes_of p) cells (of_count statement)))

  -- A subscript's number is that of an occurrence; nothing where none of its numbers is.
  abbrev pub indexed_cells : ℕ → ℕ → List Known → Option (List Known)
  indexed_cells k count cells =
      option_map (known_as (of_item k) cells) (met (units_of p.layout (homes_of p) cells (of_item k)) (table count))

abbrev pub with_cells_if : Seen → Option (List Known) → Option Seen
with_cells_if s cells = option_map (with_cells s) cells

-- ---- parts

-- the turn of a receiver may not come
abbrev pub may_not_come : Bool → Seen → Bool
may_not_come last s = s.may_zero || (last && s.any_fail)

module _ (p : Program) where
  -- Behind a divisor that may have been 0 a receiver may not have been read; of a table one occurrence alone is.
  abbrev pub after_read : ℕ → Seen → Seen
  after_read place s =
      if s.may_zero || is_table p.layout place then s else with_cells s (read_cells p (of_item place) s.cells)

  -- A turn that may not come shows nothing, and neither would one occurrence of a table's item.
  abbrev pub shows_nothing : Bool → ℕ → Seen → Bool
  shows_nothing last k s = may_not_come last s || is_table p.layout k

  abbrev pub after_subscript : Bool → ℕ → Seen → Seen
  after_subscript last k s = if shows_nothing last k s then s else with_cells s (read_cells p (of_item k) s.cells)

  abbrev pub after_index : Bool → ℕ → ℕ → Seen → Option Seen
  after_index last k count s =
      if shows_nothing last k s then Some s else with_cells_if s (indexed_cells p k count s.cells)

  abbrev pub after_bytes : ℕ → ℕ → Seen → Seen
  after_bytes offset count t =
      with_cells t (forgotten (is_in_extent p.layout (bytes_from offset count)) (homes_of p) t.cells)

  -- A counter gets the units of what is sent, as far as it holds them,
  abbrev pub after_count : ℕ → Seen → Option Seen
  after_count statement t =
      with_cells_if t (option_map (known_as p (of_count statement) t.cells) (t.common >>= λ c. count_range c.top.units))

  -- or its own number less one.
  abbrev pub after_down : ℕ → Seen → Option Seen
  after_down statement s =
      with_cells_if s (option_map (known_as p (of_count statement) s.cells)
      (count_range (lowered (units_of p.layout (homes_of p) s.cells (of_count statement)))))

module _ (p : Program) (a : Act) (x : Action) where
  -- On an edge of size errors a divisor may be 0, on others it isn't.
  abbrev pub after_divide : Atom → Seen → Option Seen
  after_divide d s =
      if handled p a x then Some (with_zero s (s.may_zero || may_be_zero (range_at p s.cells) d))
      else (if can_divide (atom_range (range_at p s.cells) d) then Some s else None)

  -- Nothing where no run passes the part.
  abbrev pub step : Part → Seen → Option Seen
  step (read place) s = Some (after_read p place s)
  step unread s = None
  step (subscript last k) s = Some (after_subscript p last k s)
  step (index last k count) s = after_index p last k count s
  step (divide d) s = after_divide d s
  step (store place mode amount) s = stored p a x (with_taken p a x s) place mode amount
  step (bytes_in offset count) s = Some (after_bytes p offset count (with_taken p a x s))
  step (guard t wanted) s = with_cells_if s (guarded_cells p t wanted s.cells)
  step (read_count statement) s = Some (with_cells s (read_cells p (of_count statement) s.cells))
  step (set_count statement y) s = after_count p statement (with_taken p a x s)
  step (count_down statement) s = after_down p statement s
  step (guard_count statement wanted) s = with_cells_if s (counted_cells p statement wanted s.cells)
