-- No two items that begin with a value have a byte in common.
use Rattle.std.proofs.Common.{◌≤◌, ◌<◌, ◌⊎◌, inl, inr, ℕ, ◌+◌, is_some, ap, arith}
use Rattle.std.proofs.lemmas.Bool.{cases_lt}
use Rattle.cob_tree.specs.declared.tree.Tree.{Tree}
use Rattle.cob_data.specs.declared.layout.Item.{Item}
use Rattle.cob_data.specs.declared.layout.Layout.{Layout}
use Rattle.cob_data.specs.Extents.{AreApart}
use Rattle.cob_data.specs.Occurrences.{extent_of}
use Rattle.cob_data.specs.Layouts.{layout, HasLayout}
use Rattle.cob_data.proofs.OneOccurrence.{one_apart}
use Rattle.graph_runs.specs.Sources.{HasValue, ValuesStandApart}
use Rattle.data_laws.proofs.Values.{BeginsAt, values_follow, items_once}

begins_at : (l : Layout) (place : ℕ) (i : Item) → HasValue l place i → BeginsAt l.items place i
begins_at l place i has = record { at = has.at; value = ap is_some has.given }

pub values_stand_apart : (t : Tree) → HasLayout t → ValuesStandApart (layout t)
values_stand_apart t has a b i j first second differ =
    one_apart (extent_of i) (extent_of j) (items_once t a i first.at) (items_once t b j second.at) (by (cases_lt a b))
  where
    begins : (place : ℕ) (k : Item) → HasValue (layout t) place k → BeginsAt (layout t).items place k
    begins place k value = begins_at (layout t) place k value

    by : (a < b) ⊎ (b ≤ a) → AreApart i.offset i.length j.offset j.length
    by (inl low) = inr (values_follow t has a b i j low (begins a i first) (begins b j second))
    by (inr high) = inl (values_follow t has b a j i (omega (arith, high, differ)) (begins b j second) (begins a i first))
