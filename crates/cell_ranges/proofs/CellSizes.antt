-- The cells of a source's program have at most 18 digits and decimals.
use Rattle.std.proofs.Common.{◌≡◌, ℕ, ◌≤◌, nat_le, Bool, true, false, if◌then◌else◌, List, [], ◌∷◌, map, Option, Some, None, refl, arith}
use Rattle.std.specs.List.{All, AllByRecursion}
use Rattle.std.specs.Option.{option_map_or}
use Rattle.std.specs.Prelude.{IfSome}
use Rattle.std.proofs.lemmas.Bool.{leb-true}
use Rattle.cob_tree.specs.declared.form.Form.{Form}
use Rattle.cob_tree.specs.declared.form.Form.TheVariants as form
use Rattle.cob_data.specs.declared.layout.Item.{Item}
use Rattle.cob_program.specs.Act.{Program}
use Rattle.cob_runs.specs.declared.action.Cell.{Cell}
use Rattle.cob_runs.specs.Contents.{item_at}
use Rattle.cob_graph.specs.declared.homes.Home.{Home}
use Rattle.cob_graph.specs.declared.homes.Home.TheVariants.{Item as of_item, Count as of_count}
use Rattle.cob_graph.specs.Homes.{home_of, homes_of, cell_of_form, cell_of_home}
use Rattle.cob_graph.specs.Graphs.{cells_of}
use Rattle.cob_graph.specs.WellFormed.{IsWellFormed}
use Rattle.cob_store.specs.WellFormed.{IsWellFormedForm, IsWellFormedItem}
use Rattle.cob_store.proofs.SenderLemmas.{found_at}
use Rattle.cell_laws.specs.Cells.{IsHomeOf}
use Rattle.cell_laws.proofs.Homes.{homes_are}

abbrev pub IsWithin : Cell → Type 0
IsWithin c = (c.digits ≤ 18) × (c.scale ≤ 18)

text_within : (place n : ℕ) (b : Bool) → nat_le n 18 ≡ b → (if b then of_item place ∷ [] else []) ≡ of_item place ∷ [] → n ≤ 18
text_within place n true e is = leb-true n 18 e
text_within place n false e is = absurd (cc)

form_within : (place bytes times : ℕ) (f : Form) → IsWellFormedForm f bytes → home_of place f ≡ of_item place ∷ [] → IsWithin (cell_of_form place f times)
form_within place bytes times form.Group h is = absurd (cc)
form_within place bytes times (form.Text n) h is = (text_within place n (nat_le n 18) refl is, omega arith)
form_within place bytes times (form.Number digits scale signed usage) h is =
    let most = h.number.at_most_18 in let fewer = h.decimals in (most, omega (arith, most, fewer))
form_within place bytes times (form.Edited picture digits scale) h is = absurd (cc)

module _ (p : Program) where
  item_within : (place : ℕ) (o : Option Item) → IfSome o (IsWellFormedItem p.layout) →
      home_of place (option_map_or (λ (i : Item). i.form) o form.Group) ≡ of_item place ∷ [] →
      IsWithin (cell_of_form place (option_map_or (λ (i : Item). i.form) o form.Group) (option_map_or (λ (i : Item). i.times) o 1))
  item_within place None well is = absurd (cc)
  item_within place (Some i) well is = form_within place i.length i.times i.form well.form is

  home_within : All (IsWellFormedItem p.layout) p.layout.items → (h : Home) → IsHomeOf p h → IsWithin (cell_of_home p.layout h)
  home_within items (of_item place) is =
      item_within place (item_at p.layout place) (found_at (IsWellFormedItem p.layout) p.layout.items place items) is
  home_within items (of_count statement) is = (omega arith, omega arith)

  all_within : All (IsWellFormedItem p.layout) p.layout.items → (hs : List Home) → AllByRecursion (IsHomeOf p) hs →
      AllByRecursion IsWithin (map (cell_of_home p.layout) hs)
  all_within items [] are = tt
  all_within items (h ∷ hs) are = (home_within items h are.0, all_within items hs are.1)

pub cells_are_within : (p : Program) → IsWellFormed p → All (IsWellFormedItem p.layout) p.layout.items → AllByRecursion IsWithin (cells_of p)
cells_are_within p whole items = all_within p items (homes_of p) (homes_are p whole)

-- what a cell of at most 18 digits and decimals has, each cell has
pub each_within : (P : Cell → Type 0) → ((c : Cell) → IsWithin c → P c) → (cells : List Cell) → AllByRecursion IsWithin cells → AllByRecursion P cells
each_within P has [] are = tt
each_within P has (c ∷ cells) are = (has c are.0, each_within P has cells are.1)
