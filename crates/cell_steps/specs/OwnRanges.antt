-- The numbers of pictures, and the own range of each cell.
use Rattle.std.specs.Prelude.{ℕ, ◌-◌, ◌^◌, if◌then◌else◌, Bool, List, map, ℤ, pos, neg_ℤ}
use Rattle.cob_tree.specs.declared.form.Form.{Form}
use Rattle.cob_data.specs.declared.layout.Layout.{Layout}
use Rattle.cob_program.specs.Act.{Program}
use Rattle.cob_runs.specs.declared.action.Cell.{Cell}
use Rattle.cob_graph.specs.declared.homes.Home.{Home}
use Rattle.cob_graph.specs.Homes.{homes_of, digits_read, is_signed, cell_of_home}
use Rattle.interval_domain.specs.declared.bounds.Interval.{Interval}
use Rattle.interval_domain.specs.Corners.{interval}

abbrev pub largest : ℕ → ℤ
largest digits = pos (10 ^ digits - 1)

-- the numbers of so many digits, those below 0 among them where there is a sign
abbrev pub picture_range : ℕ → Bool → Interval
picture_range digits signed = interval (if signed then neg_ℤ (largest digits) else pos 0) (largest digits)

-- a cell's own range
abbrev pub own_range : Cell → Interval
own_range c = picture_range c.digits c.signed

-- The units of an item by its form: a text is read as a number without sign, a group as none.
abbrev pub form_range : Form → Interval
form_range f = picture_range (digits_read f) (is_signed f)

-- the own range of a home's cell
abbrev pub home_range : Layout → Home → Interval
home_range l h = own_range (cell_of_home l h)

-- the own ranges of a program's cells, in their order
abbrev pub owns : Program → List Interval
owns p = map (home_range p.layout) (homes_of p)
