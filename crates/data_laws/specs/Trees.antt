-- What the rules on data keep in the layout of each tree.
use Rattle.std.specs.Prelude.{◌≡◌, ◌<◌, ◌≤◌, length, ℕ, Bool, List, [], Some, pos}
use Rattle.dec_num.specs.declared.types.Mode.TheVariants.{Trunc}
use Rattle.dec_num.specs.declared.types.Scaled.{Scaled}
use Rattle.dec_num.specs.Exact.{near, IsSameNumber}
use Rattle.dec_num.specs.Scaled.{value_of}
use Rattle.cob_tree.specs.declared.form.Form.TheVariants as form
use Rattle.cob_tree.specs.declared.form.Usage.{Usage}
use Rattle.cob_tree.specs.declared.token.Num.{Num}
use Rattle.cob_tree.specs.declared.tree.Tree.{Tree}
use Rattle.cob_data.specs.declared.layout.Item.{Item}
use Rattle.cob_data.specs.declared.layout.Layout.{Layout}
use Rattle.cob_data.specs.declared.layout.Sender.TheVariants as sender
use Rattle.cob_data.specs.Layouts.{HasLayout, layout}
use Rattle.cob_program.specs.Values.{literal}
use Rattle.cob_store.specs.WellFormed.{HasWellFormedItems}
use Rattle.cob_runs.specs.Contents.{occurrence_number, scaled_by}
use Rattle.cob_runs.specs.Moves.{number_of}
use Rattle.cob_runs.specs.Runs.{first_storage}
use Rattle.graph_runs.specs.Sources.{HasValue, ValuesStandApart, SeparateItemsHaveSigns}
use Rattle.data_laws.specs.Values.{BeginsWith}

-- Items that begin with a value have no byte in common: none of them stands in a redefinition, in a file's record or
-- above other items, and what stands in none of these follows each other.
abbrev pub TreesKeepValuesApart : Type 0
TreesKeepValuesApart = (t : Tree) → HasLayout t → ValuesStandApart (layout t)

-- SIGN SEPARATE stands with S alone.
abbrev pub TreesGiveSigns : Type 0
TreesGiveSigns = (t : Tree) → HasLayout t → SeparateItemsHaveSigns (layout t)

-- Each value has the item's category and is no greater than its digits, so that it can be put.
abbrev pub TreesPutValues : Type 0
TreesPutValues =
    (t : Tree) → HasLayout t → HasWellFormedItems (layout t) → (place : ℕ) (i : Item) → HasValue (layout t) place i →
    (bytes : List ℕ) × BeginsWith (layout t) place i bytes

-- Each occurrence of a number that begins with a value reads as this, in units of its scale, whatever stood in storage
-- before.
abbrev pub TreesStoreNumbers : Type 0
TreesStoreNumbers =
    (t : Tree) → HasLayout t → HasWellFormedItems (layout t) → (first : List ℕ) (place : ℕ) (i : Item)
    (has : HasValue (layout t) place i) (digits scale : ℕ) (signed : Bool) (usage : Usage) (v : Scaled) →
    i.form ≡ form.Number digits scale signed usage → number_of (layout t) [] has.value ≡ Some v →
    (n : ℕ) → n < i.times →
    occurrence_number (layout t) (first_storage (layout t) first) place n
    ≡ Some (scaled_by scale (near Trunc (value_of v) (pos scale)))

-- storage holds this number in an occurrence of the item at a place
pub record Reads (l : Layout) (storage : List ℕ) (place n : ℕ) (v : Scaled) : Type 0 where
  pub number : Scaled
  pub read : occurrence_number l storage place n ≡ Some number
  pub same : IsSameNumber (value_of number) (value_of v)

-- That is the very number that the value writes: the digits for which the picture has no place are zeros.
abbrev pub TreesStoreLiterals : Type 0
TreesStoreLiterals =
    (t : Tree) → HasLayout t → HasWellFormedItems (layout t) → (first : List ℕ) (place : ℕ) (i : Item)
    (has : HasValue (layout t) place i) (digits scale : ℕ) (signed : Bool) (usage : Usage) (n : Num) →
    i.form ≡ form.Number digits scale signed usage → has.value ≡ sender.Number n → n.scale ≤ length n.digits →
    (k : ℕ) → k < i.times → Reads (layout t) (first_storage (layout t) first) place k (literal n)
