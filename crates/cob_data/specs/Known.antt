-- What is relied on beside the facts themselves.
use Rattle.std.specs.Prelude.{◌≡◌, ◌≤◌, length, List}
use Rattle.std.specs.List.{AllByRecursion}
use Rattle.cob_tree.specs.declared.front.Front.{Front}
use Rattle.cob_data.specs.declared.description.Spot.{Spot}
use Rattle.cob_data.specs.Entries.{all_entries, fds_in}
use Rattle.cob_data.specs.Rules.{Facts, storage_limit}
use Rattle.cob_tree.specs.Limits.{token_limit}

-- each item has its place
abbrev pub AreSeated : Facts → Type 0
AreSeated f = length f.items ≡ length f.spots

-- few enough entries that each has a number
pub record HasFewEntries (f : Front) : Type 0 where
  pub entries : length (all_entries f) ≤ token_limit
  pub fds : length (fds_in f.data) ≤ token_limit

-- what lies within the storage of a layout
pub record IsLow (s : Spot) : Type 0 where
  pub start : s.start ≤ storage_limit
  pub length : s.length ≤ storage_limit

abbrev pub AreLow : List Spot → Type 0
AreLow ss = AllByRecursion IsLow ss
