-- The layout of a tree.
use Rattle.std.specs.Prelude.{◌≡◌, ℕ, ◌+◌, if◌then◌else◌, List, [], ◌∷◌, map, unwrap_or, Option, Some, None}
use Rattle.std.specs.List.{position_from}
use Rattle.std.specs.Option.{option_and_then}
use Rattle.std.specs.Str.{bytes_eq}
use Rattle.cob_tree.specs.declared.front.Select.{Select}
use Rattle.cob_tree.specs.declared.front.Fd.{Fd}
use Rattle.cob_tree.specs.declared.tree.Tree.{Tree}
use Rattle.cob_data.specs.declared.layout.Sender.{Sender}
use Rattle.cob_data.specs.declared.layout.Item.{Item}
use Rattle.cob_data.specs.declared.layout.Flag.{Flag}
use Rattle.cob_data.specs.declared.layout.Pair.{Pair}
use Rattle.cob_data.specs.declared.layout.FileDecl.{FileDecl}
use Rattle.cob_data.specs.declared.layout.Layout.{Layout}
use Rattle.cob_data.specs.declared.description.Span.{Span}
use Rattle.cob_data.specs.declared.description.Description.{Description}
use Rattle.cob_data.specs.declared.description.Condition.{Condition}
use Rattle.cob_data.specs.declared.description.Spot.{Spot}
use Rattle.cob_data.specs.declared.end.DataEnd.{DataEnd}
use Rattle.cob_data.specs.declared.end.DataEnd.TheVariants as data_end
use Rattle.cob_data.specs.Spots.{storage_of}
use Rattle.cob_data.specs.Files.{is_record_of, largest_record, external_text, is_named, status_of}
use Rattle.cob_data.specs.Rules.{Facts, facts_of, data_rules, broken_lines, count_of, IsFirstExceeded, IsWithinLimits}
use Rattle.rule_order.specs.Order.{IsFirstBroken, AreKept}

-- ---- items

abbrev pub first_low : List Span → Option Sender
first_low [] = None
first_low (s ∷ ss) = Some s.low

abbrev pub item_at : Description → Spot → Item
item_at d s = record {
  name = d.name;
  offset = s.start;
  length = s.length;
  times = 1;
  stride = 0;
  form = d.form;
  parent = s.parent;
  line = d.line;
  value = option_and_then first_low d.value;
}

-- each item with its place; there are as many of these as of those
abbrev pub laid_items : List Description → List Spot → List Item
laid_items [] ss = []
laid_items (d ∷ ds) [] = []
laid_items (d ∷ ds) (s ∷ ss) = item_at d s ∷ laid_items ds ss

-- ---- condition-names

-- a value alone is both ends of its range
abbrev pub pair_of : Span → Pair
pair_of s = record { low = s.low; high = unwrap_or s.high s.low }

-- Without a name or an item it has the empty name or the first item: such a condition-name breaks a rule, and no layout is
-- promised then.
abbrev pub flag_of : Condition → Flag
flag_of c = record {
  name = unwrap_or c.name [];
  item = unwrap_or c.owner 0;
  ranges = map pair_of (unwrap_or c.value []);
}

-- ---- files

-- the places of the records of the n-th FD, from this place on
abbrev pub record_places : ℕ → ℕ → List Description → List ℕ
record_places n place [] = []
record_places n place (d ∷ ds) =
    if is_record_of n d then place ∷ record_places n (place + 1) ds else record_places n (place + 1) ds

-- Where the first of them starts, and 0 where the FD has none, which breaks a rule.
abbrev pub area_start : ℕ → List Description → List Spot → ℕ
area_start n [] ss = 0
area_start n (d ∷ ds) [] = 0
area_start n (d ∷ ds) (s ∷ ss) = if is_record_of n d then s.start else area_start n ds ss

abbrev pub status_place : List Description → Option (List ℕ) → Option ℕ
status_place ds None = None
status_place ds (Some name) = position_from (is_named name) 0 ds

abbrev pub file_at : Facts → Select → ℕ → FileDecl
file_at f s n = record {
  name = s.name;
  external = external_text s.external;
  offset = area_start n f.items f.spots;
  length = largest_record n f.items f.spots;
  records = record_places n 0 f.items;
  status = status_place f.items (status_of s);
}

-- The place of a file's FD, and 0 where it has none, which breaks a rule.
abbrev pub fd_place : List Fd → List ℕ → ℕ
fd_place fds name = unwrap_or (position_from (λ f. bytes_eq f.name name) 0 fds) 0

abbrev pub file_of : Facts → Select → FileDecl
file_of f s = file_at f s (fd_place f.fds s.name)

-- ---- the whole

abbrev pub layout_in : Facts → Layout
layout_in f = record {
  items = laid_items f.items f.spots;
  flags = map flag_of f.conditions;
  files = map (file_of f) f.selects;
  storage = storage_of f.spots;
}

-- the layout that a tree has where no rule is broken and no limit exceeded
abbrev pub layout : Tree → Layout
layout t = layout_in (facts_of t)

pub record HasLayout (t : Tree) : Type 0 where
  pub kept : AreKept (broken_lines t) data_rules
  pub within : IsWithinLimits t

-- why a tree has no layout
abbrev pub IsCause : Tree → DataEnd → Type 0
IsCause t (data_end.Outside rule line) = IsFirstBroken (broken_lines t) data_rules rule line
IsCause t (data_end.Limit which count) = AreKept (broken_lines t) data_rules × IsFirstExceeded t which × (count ≡ count_of (facts_of t) which)
IsCause t data_end.Memory = Unit {0}
