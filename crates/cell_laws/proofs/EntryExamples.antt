-- What is known where a run begins, worked by hand.
use Rattle.std.specs.Prelude.{◌≡◌, ℕ, false, List, [], ◌∷◌, Option, Some, None, pos}
use Rattle.std.proofs.Common.{refl}
use Rattle.cob_tree.specs.declared.form.Form.{Form}
use Rattle.cob_tree.specs.declared.form.Form.TheVariants as form
use Rattle.cob_tree.specs.declared.form.Usage.TheVariants as usage
use Rattle.cob_data.specs.declared.layout.Item.{Item}
use Rattle.cob_data.specs.declared.layout.Sender.{Sender}
use Rattle.cob_data.specs.declared.layout.Sender.TheVariants as sender
use Rattle.cob_program.specs.Act.{Program}
use Rattle.interval_domain.specs.Corners.{interval}
use Rattle.cell_laws.specs.Entry.{point, entry_cells}

abbrev item_of : ℕ → ℕ → ℕ → ℕ → Form → Option Sender → Item
item_of offset length many stride f value =
    record { name = Some (65 ∷ []); offset = offset; length = length; times = many; stride = stride; form = f; parent = None; line = 5; value = value }

abbrev number : ℕ → Form
number digits = form.Number digits 0 false usage.Display

abbrev of_items : ℕ → List Item → Program
of_items storage items = record {
  layout = record { items = items; flags = []; files = []; storage = storage };
  paras = [];
  statements = 0;
}

-- 05 Y PIC XX VALUE "26". 05 M PIC X VALUE "4".
abbrev year : Item
year = item_of 0 2 1 0 (form.Text 2) (Some (sender.Text (50 ∷ 54 ∷ [])))

abbrev month : Item
month = item_of 2 1 1 0 (form.Text 1) (Some (sender.Text (52 ∷ [])))

-- and 01 N PIC 9(3), which redefines both, has their bytes
filled : entry_cells (of_items 3 (year ∷ month ∷ item_of 0 3 1 0 (number 3) None ∷ [])) ≡ point (pos 26) ∷ point (pos 4) ∷ point (pos 264) ∷ []
filled = refl

-- where one byte behind them isn't filled, nothing is known
one_is_not_filled : entry_cells (of_items 4 (year ∷ month ∷ item_of 0 4 1 0 (number 4) None ∷ [])) ≡ point (pos 26) ∷ point (pos 4) ∷ None ∷ []
one_is_not_filled = refl

-- of E PIC 9 OCCURS 3 the least interval of 2, 6 and 4
table : entry_cells (of_items 3 (year ∷ month ∷ item_of 0 1 3 1 (number 1) None ∷ [])) ≡ point (pos 26) ∷ point (pos 4) ∷ Some (interval (pos 2) (pos 6)) ∷ []
table = refl

-- of one more occurrence no VALUE fills the last
longer_table : entry_cells (of_items 4 (year ∷ month ∷ item_of 0 1 4 1 (number 1) None ∷ [])) ≡ point (pos 26) ∷ point (pos 4) ∷ None ∷ []
longer_table = refl
