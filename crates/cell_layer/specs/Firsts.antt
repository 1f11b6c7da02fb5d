-- What is known of cells where a run begins, cell by cell.
use Rattle.std.specs.Prelude.{◌≡◌, ℕ, if◌then◌else◌, List, map, length, Option, None, ℤ, bytes_eq}
use Rattle.cob_tree.specs.declared.form.Form.{Form}
use Rattle.cob_data.specs.declared.layout.Item.{Item}
use Rattle.cob_data.specs.declared.layout.Layout.{Layout}
use Rattle.cob_data.specs.Extents.{start_of}
use Rattle.cob_data.specs.Occurrences.{extent_of}
use Rattle.num_bytes.specs.Reading.{contents_value}
use Rattle.cob_runs.specs.declared.action.Cell.{Cell}
use Rattle.cob_runs.specs.Contents.{area}
use Rattle.cob_program.specs.Values.{◌>>=◌}
use Rattle.interval_domain.specs.Known.{Known}
use Rattle.cob_graph.specs.declared.homes.Home.TheVariants.{Item as of_item}
use Rattle.cell_laws.specs.Entry.{values_over, point, entry_known}

-- storage with each VALUE over zeros and over ones
pub record AreOver (l : Layout) (zeros ones : List ℕ) : Type 0 where
  pub over_zeros : zeros ≡ values_over l 0
  pub over_ones : ones ≡ values_over l 1
  pub zeros_whole : length zeros ≡ l.storage
  pub ones_whole : length ones ≡ l.storage

-- the number that bytes of an item of the form are read as
abbrev pub read_known : Form → List ℕ → Known
read_known f bytes = contents_value f bytes >>= point

-- the bytes of an occurrence
abbrev pub bytes_in : Item → List ℕ → ℕ → List ℕ
bytes_in i storage n = area storage (start_of (extent_of i) n) i.length

-- the number of an occurrence, if its bytes are the same in both
abbrev pub number_of : Item → List ℕ → List ℕ → ℕ → Option ℤ
number_of i zeros ones n =
    if bytes_eq (bytes_in i zeros n) (bytes_in i ones n) then contents_value i.form (bytes_in i zeros n) else None

abbrev pub known_at : Item → List ℕ → List ℕ → ℕ → Known
known_at i zeros ones n = number_of i zeros ones n >>= point

-- what is known of a cell at first, by the item that it is of
abbrev pub first_known : Layout → Cell → Known
first_known l c = c.item >>= λ place. entry_known l (of_item place)

abbrev pub first_cells : Layout → List Cell → List Known
first_cells l cs = map (first_known l) cs
