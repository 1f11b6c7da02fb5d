-- What every source's program and its graph keep, as far as an analysis needs it.
use Rattle.std.specs.Prelude.{◌≡◌, ◌≤◌, ℕ, true, map, Some}
use Rattle.std.specs.List.{All, range_with_len}
use Rattle.cob_tree.specs.declared.form.Form.{Form}
use Rattle.cob_tree.specs.declared.form.Form.TheVariants as form
use Rattle.cob_tree.specs.declared.form.Usage.TheVariants as usage
use Rattle.cob_data.specs.declared.layout.Item.{Item}
use Rattle.cob_data.specs.declared.layout.Layout.{Layout}
use Rattle.cob_data.specs.declared.layout.Sender.{Sender}
use Rattle.cob_data.specs.Extents.{LieApart}
use Rattle.cob_data.specs.Occurrences.{extent_of}
use Rattle.cob_program.specs.Act.{Stmt, MkStmt, Act, Program}
use Rattle.cob_program.specs.Statements.{program_statements}
use Rattle.cob_runs.specs.Contents.{item_at}
use Rattle.cob_runs.specs.Effects.{act_at}
use Rattle.cob_store.specs.WellFormed.{HasWellFormedItems}
use Rattle.cob_world.specs.Doing.{CanDoProgram}
use Rattle.cob_graph.specs.declared.graph.Graph.{Graph}
use Rattle.cob_graph.specs.Graphs.{IsGraph}
use Rattle.cob_graph.specs.WellFormed.{IsWellFormed}

-- ---- data

-- the item at a place begins with a value
pub record HasValue (l : Layout) (place : ℕ) (i : Item) : Type 0 where
  pub at : item_at l place ≡ Some i
  pub value : Sender
  pub given : i.value ≡ Some value

-- no two items that begin with a value have a byte in common, in whichever of their occurrences
abbrev pub ValuesStandApart : Layout → Type 0
ValuesStandApart l =
    (a b : ℕ) (i j : Item) → HasValue l a i → HasValue l b j → ¬ a ≡ b → LieApart (extent_of i) (extent_of j)

abbrev pub HasSignIfSeparate : Form → Type 0
HasSignIfSeparate (form.Number digits scale signed usage.Leading) = signed ≡ true
HasSignIfSeparate (form.Number digits scale signed usage.Trailing) = signed ≡ true
HasSignIfSeparate _ = Unit {0}

-- an item with a separate sign byte has a sign
abbrev pub SeparateItemsHaveSigns : Layout → Type 0
SeparateItemsHaveSigns l = All (λ i. HasSignIfSeparate i.form) l.items

-- no item is a table's
abbrev pub HasNoTables : Layout → Type 0
HasNoTables l = (place : ℕ) (i : Item) → item_at l place ≡ Some i → i.stride ≡ 0

-- ---- statements

abbrev pub number_of : Stmt → ℕ
number_of (MkStmt number line a) = number

-- from one on, in the order of the source, as many as are counted
abbrev pub AreNumberedInOrder : Program → Type 0
AreNumberedInOrder p = map number_of (program_statements p) ≡ range_with_len 1 p.statements

-- the numbers of statements lie within their count
abbrev pub StatementsAreCounted : Program → Type 0
StatementsAreCounted p = (n : ℕ) (a : Act) → act_at p n ≡ Some a → (1 ≤ n) × (n ≤ p.statements)

-- ---- programs

pub record IsSourceGraph (p : Program) (g : Graph) : Type 0 where
  -- items and record areas lie within storage, and an item's bytes are those of its form
  pub items : HasWellFormedItems p.layout
  -- sums keep the rule of bounds, and values can be moved where they go
  pub statements : CanDoProgram p
  -- conditions begin with a simple condition, OPEN and CLOSE name a file, WRITE a file's record, and each statement is
  -- found by its number
  pub whole : IsWellFormed p
  pub graph : IsGraph p g
  pub values : ValuesStandApart p.layout
  pub signs : SeparateItemsHaveSigns p.layout
  pub tables : HasNoTables p.layout
  pub numbers : StatementsAreCounted p
  pub order : AreNumberedInOrder p
