-- The packs of a program: cells whose differences an analysis tracks.
use Rattle.std.specs.Prelude.{ℕ, suc, Bool, true, false, ◌==◌, nat_eq, nat_le, if◌then◌else◌, List, [], ◌∷◌, ◌++◌, length, map, Option, None, Some}
use Rattle.std.specs.List.{filter, filter_map, range_with_len}
use Rattle.std.specs.Option.{option_map}
use Rattle.std.specs.Cmp.Lexicographic.{pointwise}
use Rattle.cob_data.specs.ItemRules.{is_numeric}
use Rattle.cob_program.specs.Act.{Turns, once, Stmt, MkStmt, Act, perform, Para, Program}
use Rattle.cob_program.specs.Statements.{para_statements}
use Rattle.cob_runs.specs.Contents.{form_at}
use Rattle.cob_graph.specs.Graphs.{cells_of}
use Rattle.cob_graph.specs.declared.homes.Home.TheVariants.{Item as of_item}
use Rattle.cob_graph.specs.Numbers.{number_of}
use Rattle.diff_bounds.specs.declared.Pack as declared
use Rattle.analyse_core.specs.declared.mention.Mention.{Mention}
use Rattle.analyse_core.specs.declared.mention.Mention.TheVariants as mention
use Rattle.analyse_core.specs.Mentions.{stmt_mentions, texts_of}
use Rattle.analyse_core.specs.Reaching.{whole_mentions}
use Rattle.analyse_core.specs.Firsts.{holds, noted, first_distinct}

-- ---- what is mentioned together

abbrev pub is_once : Turns → Bool
is_once once = true
is_once _ = false

abbrev pub loops : Act → Bool
loops (perform body turns) = if is_once turns then false else true
loops _ = false

-- what a PERFORM that loops mentions, with the ranges that it reaches
abbrev pub loop_mentions : List (List Mention) → ℕ → Stmt → List (List Mention)
loop_mentions texts home (MkStmt number line a) = if loops a then whole_mentions texts (stmt_mentions (MkStmt number line a)) home ∷ [] else []

abbrev pub loops_mentions : List (List Mention) → ℕ → List Stmt → List (List Mention)
loops_mentions texts home [] = []
loops_mentions texts home (s ∷ ss) = loop_mentions texts home s ++ loops_mentions texts home ss

-- what loops of the paragraphs from a place on mention, in the order of the statements
abbrev pub all_loops : List (List Mention) → ℕ → List Para → List (List Mention)
all_loops texts home [] = []
all_loops texts home (x ∷ xs) = loops_mentions texts home (para_statements x) ++ all_loops texts (suc home) xs

-- what each PERFORM that loops mentions, and then what each paragraph alone does
abbrev pub all_mentions : Program → List (List Mention)
all_mentions p = all_loops (texts_of p.paras) 0 p.paras ++ texts_of p.paras

-- ---- cells

abbrev pub is_numeric_at : Program → ℕ → Bool
is_numeric_at p place = is_numeric (form_at p.layout place)

-- the number of a numeric item's cell, from 1 on
abbrev pub numeric_cell : Program → Mention → Option ℕ
numeric_cell p (mention.Item place) = if is_numeric_at p place then option_map suc (number_of p (of_item place)) else None
numeric_cell p (mention.Range first last) = None

abbrev pub most_pack_cells : ℕ
most_pack_cells = 8

-- the first numeric cells that are mentioned
abbrev pub first_cells : Program → List Mention → List ℕ
first_cells p xs = first_distinct (λ a b. a == b) most_pack_cells (filter_map (numeric_cell p) xs)

-- the numbers of so many cells that are among these, in rising order
abbrev pub rising : ℕ → List ℕ → List ℕ
rising count cells = filter (holds (λ a b. a == b) cells) (range_with_len 1 count)

abbrev pub cells_together : Program → List Mention → List ℕ
cells_together p xs = rising (length (cells_of p)) (first_cells p xs)

-- ---- packs

abbrev pub same_cells : List ℕ → List ℕ → Bool
same_cells xs ys = pointwise nat_eq xs ys

-- a pack has two cells at least
abbrev pub is_pack : List ℕ → Bool
is_pack cells = nat_le 2 (length cells)

abbrev pub most_packs : ℕ
most_packs = 32

abbrev pub packs_among : List (List ℕ) → List (List ℕ)
packs_among lists = first_distinct same_cells most_packs (filter is_pack lists)

-- For each PERFORM that loops, with the ranges that it reaches, and then for each paragraph alone: the first 8 numeric cells
-- that are receivers of arithmetic or stand in a relation there. Those of fewer than two, and those that came before, are
-- left out; the first 32 are the packs.
abbrev pub packs_of : Program → List (List ℕ)
packs_of p = packs_among (map (cells_together p) (all_mentions p))

-- ---- how the code goes

abbrev pub noted_if : List ℕ → Option ℕ → List ℕ
noted_if cells None = cells
noted_if cells (Some number) = noted (λ a b. a == b) most_pack_cells cells number

abbrev pub noted_mention : Program → List ℕ → Mention → List ℕ
noted_mention p cells x = noted_if cells (numeric_cell p x)

abbrev pub noted_pack : List (List ℕ) → List ℕ → List (List ℕ)
noted_pack packs cells = if is_pack cells then noted same_cells most_packs packs cells else packs

-- what contracts see of packs
abbrev pub numbers_of : List declared.Pack → List (List ℕ)
numbers_of packs = map (λ pack. pack.cells.items) packs
