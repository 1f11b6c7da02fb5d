-- The lines at which each rule on data is broken, and what is limited.
use Rattle.std.specs.Prelude.{ℕ, ◌+◌, ◌≤◌, ◌<◌, Bool, false, not, ◌&&◌, if◌then◌else◌, is_some, List, [], ◌∷◌, ◌++◌, length, Option, Some, None}
use Rattle.cob_tree.specs.declared.front.Env.{Env}
use Rattle.cob_tree.specs.declared.front.Io.{Io}
use Rattle.cob_tree.specs.declared.front.Select.{Select}
use Rattle.cob_tree.specs.declared.front.Fd.{Fd}
use Rattle.cob_tree.specs.declared.tree.Tree.{Tree}
use Rattle.cob_tree.specs.declared.tree.EndProgram.{EndProgram}
use Rattle.rule_order.specs.Order.{line_if}
use Rattle.cob_data.specs.declared.end.Rule.{Rule}
use Rattle.cob_data.specs.declared.end.Rule.TheVariants.{L1, L2, L3, L4, L5, L6, L7, L8, L9, L10, L11, L12}
use Rattle.cob_data.specs.declared.end.Which.{Which}
use Rattle.cob_data.specs.declared.end.Which.TheVariants as which
use Rattle.cob_data.specs.declared.description.Description.{Description}
use Rattle.cob_data.specs.declared.description.Condition.{Condition}
use Rattle.cob_data.specs.declared.description.Spot.{Spot}
use Rattle.cob_data.specs.Entries.{fds_in, items_of, conditions_of}
use Rattle.cob_data.specs.Spots.{all_spots, storage_of}
use Rattle.cob_data.specs.ItemRules.{breaks_levels, breaks_parts, breaks_pictures, breaks_usages, breaks_values, breaks_redefinitions, is_stray, breaks_conditions}
use Rattle.cob_data.specs.Files.{breaks_select_match, breaks_fd_match, breaks_record_size, breaks_externals, breaks_status, breaks_end}

-- What the rules speak of: the items with where they lie, the condition-names, the files, and END PROGRAM.
pub record Facts : Type 0 where
  pub items : List Description
  pub spots : List Spot
  pub conditions : List Condition
  pub selects : List Select
  pub fds : List Fd
  pub program : List ℕ
  pub end : Option EndProgram

-- ---- each rule at one place

abbrev pub item_breaks : Rule → Description → Spot → Bool
item_breaks L1 d s = breaks_levels d s
item_breaks L2 d s = breaks_parts d s
item_breaks L3 d s = breaks_pictures d
item_breaks L4 d s = breaks_usages d
item_breaks L5 d s = breaks_values d s
item_breaks L6 d s = breaks_redefinitions d s
item_breaks _ d s = false

abbrev pub condition_breaks : Rule → Facts → Condition → Bool
condition_breaks L1 f c = is_stray c
condition_breaks L7 f c = breaks_conditions f.items f.spots c
condition_breaks _ f c = false

abbrev pub select_breaks : Rule → Facts → List Select → Select → Bool
select_breaks L8 f before s = breaks_select_match before f.fds s
select_breaks L10 f before s = breaks_externals before s
select_breaks L11 f before s = breaks_status f.items s
select_breaks _ f before s = false

abbrev pub fd_breaks : Rule → Facts → List Fd → ℕ → Fd → Bool
fd_breaks L8 f before n d = breaks_fd_match before f.selects f.items n d
fd_breaks L9 f before n d = breaks_record_size f.items f.spots n d
fd_breaks _ f before n d = false

abbrev pub end_breaks : Rule → List ℕ → EndProgram → Bool
end_breaks L12 program e = breaks_end program e
end_breaks _ program e = false

-- ---- the lines at which a rule is broken

abbrev pub item_lines : Rule → List Description → List Spot → List ℕ
item_lines rule [] ss = []
item_lines rule (d ∷ ds) [] = []
item_lines rule (d ∷ ds) (s ∷ ss) = line_if (item_breaks rule d s) d.line (item_lines rule ds ss)

abbrev pub condition_lines : Rule → Facts → List Condition → List ℕ
condition_lines rule f [] = []
condition_lines rule f (c ∷ cs) = line_if (condition_breaks rule f c) c.line (condition_lines rule f cs)

-- The lines of SELECTs that break a rule; at each the ones before it are known.
abbrev pub select_lines : Rule → Facts → List Select → List Select → List ℕ
select_lines rule f before [] = []
select_lines rule f before (s ∷ ss) = line_if (select_breaks rule f before s) s.line (select_lines rule f (before ++ s ∷ []) ss)

abbrev pub fd_lines : Rule → Facts → List Fd → List Fd → List ℕ
fd_lines rule f before [] = []
fd_lines rule f before (d ∷ ds) = line_if (fd_breaks rule f before (length before) d) d.line (fd_lines rule f (before ++ d ∷ []) ds)

abbrev pub end_lines : Rule → List ℕ → Option EndProgram → List ℕ
end_lines rule program None = []
end_lines rule program (Some e) = line_if (end_breaks rule program e) e.line []

abbrev pub lines_in : Facts → Rule → List ℕ
lines_in f rule =
    item_lines rule f.items f.spots ++ condition_lines rule f f.conditions
    ++ select_lines rule f [] f.selects ++ fd_lines rule f [] f.fds ++ end_lines rule f.program f.end

-- ---- the facts of a tree

abbrev pub selects_if : Option Io → List Select
selects_if None = []
selects_if (Some io) = io.selects

abbrev pub selects_in : Option Env → List Select
selects_in None = []
selects_in (Some e) = selects_if e.io

abbrev pub facts_of : Tree → Facts
facts_of t =
    let items = items_of t.front in
    record {
      items = items;
      spots = all_spots items;
      conditions = conditions_of t.front;
      selects = selects_in t.front.env;
      fds = fds_in t.front.data;
      program = t.front.name;
      end = t.end;
    }

-- the rules on data, in their order
abbrev pub data_rules : List Rule
data_rules = L1 ∷ L2 ∷ L3 ∷ L4 ∷ L5 ∷ L6 ∷ L7 ∷ L8 ∷ L9 ∷ L10 ∷ L11 ∷ L12 ∷ []

abbrev pub broken_lines : Tree → Rule → List ℕ
broken_lines t rule = lines_in (facts_of t) rule

-- ---- limits

-- named elementary items
abbrev pub count_items : List Description → List Spot → ℕ
count_items [] ss = 0
count_items (d ∷ ds) [] = 0
count_items (d ∷ ds) (s ∷ ss) = (if is_some d.name && not s.group then 1 else 0) + count_items ds ss

-- how much there is of what is limited here
abbrev pub count_of : Facts → Which → ℕ
count_of f which.Items = count_items f.items f.spots
count_of f which.Storage = storage_of f.spots
count_of f which.Files = length f.selects
count_of f _ = 0

-- the greatest number of bytes that data take
abbrev pub storage_limit : ℕ
storage_limit = 1048576

abbrev pub limit_of : Which → ℕ
limit_of which.Items = 512
limit_of which.Storage = storage_limit
limit_of which.Files = 16
limit_of _ = 0

abbrev pub IsExceeded : Tree → Which → Type 0
IsExceeded t which = limit_of which < count_of (facts_of t) which

abbrev pub IsWithin : Tree → Which → Type 0
IsWithin t which = count_of (facts_of t) which ≤ limit_of which

-- the first of the three that is exceeded
abbrev pub IsFirstExceeded : Tree → Which → Type 0
IsFirstExceeded t which.Items = IsExceeded t which.Items
IsFirstExceeded t which.Storage = IsWithin t which.Items × IsExceeded t which.Storage
IsFirstExceeded t which.Files = IsWithin t which.Items × IsWithin t which.Storage × IsExceeded t which.Files
IsFirstExceeded t _ = ⊥

pub record IsWithinLimits (t : Tree) : Type 0 where
  pub items : IsWithin t which.Items
  pub storage : IsWithin t which.Storage
  pub files : IsWithin t which.Files
