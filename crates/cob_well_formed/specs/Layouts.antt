-- What holds of the layout of each tree.
use Rattle.std.specs.List.{All}
use Rattle.cob_tree.specs.declared.tree.Tree.{Tree}
use Rattle.cob_tree.specs.PrintFront.{print_front}
use Rattle.cob_data.specs.declared.layout.Flag.{Flag}
use Rattle.cob_data.specs.declared.layout.Layout.{Layout}
use Rattle.cob_data.specs.Layouts.{HasLayout, layout}
use Rattle.cob_typed_verbs.specs.Verbs.{first_value}
use Rattle.cob_runs.specs.Contents.{form_at}
use Rattle.cob_store.specs.WellFormed.{HasWellFormedItems, CanMove}
use Rattle.cob_calc.specs.Comparing.{AreShortPairs}
use Rattle.cob_well_formed.specs.Numerals.{AreShort}

-- the item can be compared with the values of its condition-name, and SET can move the first of them to it
pub record IsWellFormedFlag (l : Layout) (f : Flag) : Type 0 where
  pub ranges : AreShortPairs f.ranges
  pub first : CanMove l (first_value f.ranges) (form_at l f.item)

abbrev pub HasWellFormedFlags : Layout → Type 0
HasWellFormedFlags l = All (IsWellFormedFlag l) l.flags

pub record IsWellFormedLayout (l : Layout) : Type 0 where
  pub items : HasWellFormedItems l
  pub flags : HasWellFormedFlags l

abbrev pub LayoutsAreWellFormed : Type 0
LayoutsAreWellFormed = (t : Tree) → HasLayout t → AreShort (print_front t.front) → IsWellFormedLayout (layout t)
