-- The number of a home's cell, which counts from 0 in the order of the program's cells.
use Rattle.std.specs.Prelude.{ℕ, suc, ◌+◌, ◌-◌, ◌==◌, nat_lt, if◌then◌else◌, Bool, false, List, [], ◌∷◌, ◌++◌, map, Option, Some, None, is_some}
use Rattle.std.specs.List.{prefix_len}
use Rattle.std.specs.Option.{option_map}
use Rattle.std.specs.declared.ops.ControlFlow.{ControlFlow}
use Rattle.std.specs.declared.ops.ControlFlow.TheVariants.{Continue, Break}
use Rattle.cob_program.specs.Act.{Stmts, Phrase, left_out, given, Act, arith, if_, evaluate, perform, read, Program}
use Rattle.cob_program.specs.Statements.{list_statements, whens_statements, body_statements}
use Rattle.cob_runs.specs.declared.action.Cell.{Cell}
use Rattle.cob_graph.specs.declared.homes.Home.{Home}
use Rattle.cob_graph.specs.declared.homes.Home.TheVariants.{Item as of_item, Count as of_count}
use Rattle.cob_graph.specs.Homes.{is_home, count_homes, homes_of}

-- the first place of a home in a list
abbrev pub number_in : Home → List Home → Option ℕ
number_in home [] = None
number_in home (h ∷ hs) = if is_home h home then Some 0 else option_map suc (number_in home hs)

-- the number of the first cell that is of a home
abbrev pub number_of : Program → Home → Option ℕ
number_of p home = number_in home (homes_of p)

-- ---- how the code goes

-- the first place of a home in a list whose places begin with a number
abbrev pub place_from : ℕ → Home → List Home → Option ℕ
place_from n home [] = None
place_from n home (h ∷ hs) = if is_home h home then Some n else place_from (n + 1) home hs

-- the item of a home, if it has one
abbrev pub item_of : Home → Option ℕ
item_of (of_item place) = Some place
item_of (of_count statement) = None

-- the items of cells
abbrev pub items_of : List Cell → List (Option ℕ)
items_of cells = map (λ c. c.item) cells

abbrev pub is_item : ℕ → Option ℕ → Bool
is_item place None = false
is_item place (Some other) = other == place

abbrev pub item_from : ℕ → ℕ → List (Option ℕ) → Option ℕ
item_from n place [] = None
item_from n place (o ∷ os) = if is_item place o then Some n else item_from (n + 1) place os

-- whether an item stands before a place
abbrev pub is_lower : ℕ → Option ℕ → Bool
is_lower place None = false
is_lower place (Some other) = nat_lt other place

-- how many stand before the first counter
abbrev pub items_before : List (Option ℕ) → ℕ
items_before os = prefix_len is_some os

-- how many stand before the first that isn't before a place
abbrev pub lower_items : ℕ → List (Option ℕ) → ℕ
lower_items place os = prefix_len (is_lower place) os

-- a number, if an item stands there that is sought
abbrev pub item_here : ℕ → ℕ → Option (Option ℕ) → Option ℕ
item_here number place None = None
item_here number place (Some o) = if is_item place o then Some number else None

-- How many counters are left of so many, from the statement's own on; or behind the list, where it isn't there.
abbrev pub left_at : ℕ → List Home → ℕ → ControlFlow ℕ ℕ
left_at statement [] left = Continue left
left_at statement (h ∷ hs) left = if is_home h (of_count statement) then Break left else left_at statement hs (left - 1)

-- the counters of a list, and those of the lists of a statement
abbrev pub list_homes : Stmts → List Home
list_homes ss = count_homes (list_statements ss)

abbrev pub phrase_homes : Phrase → List Home
phrase_homes left_out = []
phrase_homes (given ss) = list_homes ss

abbrev pub inner_homes : Act → List Home
inner_homes (arith s targets remainder size fine) = phrase_homes size ++ list_homes fine
inner_homes (if_ t held other) = list_homes held ++ list_homes other
inner_homes (evaluate ws other) = count_homes (whens_statements ws) ++ list_homes other
inner_homes (perform body turns) = count_homes (body_statements body)
inner_homes (read f into end fine) = phrase_homes end ++ list_homes fine
inner_homes _ = []
