-- What each cell of a program is of: the only walk over its items and statements that finds them. What a cell is, whom
-- it belongs to and which numbers it holds go by its home.
use Rattle.std.specs.Prelude.{ℕ, suc, nat_le, ◌==◌, if◌then◌else◌, Bool, true, false, List, [], ◌∷◌, ◌++◌, Option, Some, None}
use Rattle.cob_tree.specs.declared.form.Form.{Form}
use Rattle.cob_tree.specs.declared.form.Form.TheVariants as form
use Rattle.cob_data.specs.declared.layout.Item.{Item}
use Rattle.cob_data.specs.declared.layout.Layout.{Layout}
use Rattle.cob_program.specs.Act.{Turns, times, Stmt, MkStmt, Act, perform, Program}
use Rattle.cob_program.specs.Statements.{program_statements}
use Rattle.cob_runs.specs.declared.action.Cell.{Cell}
use Rattle.cob_runs.specs.Contents.{form_at, times_at, scale_of}
use Rattle.cob_graph.specs.declared.homes.Home.{Home}
use Rattle.cob_graph.specs.declared.homes.Home.TheVariants.{Item as of_item, Count as of_count}

-- ---- homes

abbrev pub is_home : Home → Home → Bool
is_home (of_item a) (of_item b) = a == b
is_home (of_count a) (of_count b) = a == b
is_home _ _ = false

-- a number, or a text of at most 18 bytes
abbrev pub home_of : ℕ → Form → List Home
home_of place (form.Number digits scale signed kept) = of_item place ∷ []
home_of place (form.Text n) = if nat_le n 18 then of_item place ∷ [] else []
home_of place _ = []

abbrev pub if_named : {A : Type 0} → Option A → List Home → List Home
if_named None hs = []
if_named (Some n) hs = hs

-- the homes of the items from a place on
abbrev pub item_homes : ℕ → List Item → List Home
item_homes place [] = []
item_homes place (i ∷ items) = if_named i.name (home_of place i.form) ++ item_homes (suc place) items

abbrev pub turns_homes : ℕ → Turns → List Home
turns_homes statement (times x) = of_count statement ∷ []
turns_homes statement _ = []

-- A statement's own counter, without those of the statements of its lists.
abbrev pub act_homes : ℕ → Act → List Home
act_homes statement (perform body turns) = turns_homes statement turns
act_homes statement _ = []

abbrev pub stmt_homes : Stmt → List Home
stmt_homes (MkStmt number line a) = act_homes number a

abbrev pub count_homes : List Stmt → List Home
count_homes [] = []
count_homes (s ∷ ss) = stmt_homes s ++ count_homes ss

-- items in their order, and then counters in the order of the statements' numbers
abbrev pub homes_of : Program → List Home
homes_of p = item_homes 0 p.layout.items ++ count_homes (program_statements p)

-- ---- cells

abbrev pub cell : Option ℕ → ℕ → ℕ → Bool → ℕ → Cell
cell item digits scale signed many =
    record { item = item; digits = digits; scale = scale; signed = signed; times = many }

-- the digits of what an item is read as: a text is read as a number without sign
abbrev pub digits_read : Form → ℕ
digits_read (form.Number digits scale signed kept) = digits
digits_read (form.Edited picture digits scale) = digits
digits_read (form.Text n) = n
digits_read form.Group = 0

abbrev pub is_signed : Form → Bool
is_signed (form.Number digits scale signed kept) = signed
is_signed _ = false

-- a PERFORM with TIMES has a counter of 18 digits with a sign
abbrev pub counter : Cell
counter = cell None 18 0 true 1

abbrev pub cell_of_form : ℕ → Form → ℕ → Cell
cell_of_form place f many = cell (Some place) (digits_read f) (scale_of f) (is_signed f) many

abbrev pub cell_of_home : Layout → Home → Cell
cell_of_home l (of_item place) = cell_of_form place (form_at l place) (times_at l place)
cell_of_home l (of_count statement) = counter
