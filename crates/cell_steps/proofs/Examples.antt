-- Edges of a small program, worked by hand: what is known of cells before and after, and what is cleared.
use Rattle.std.specs.Prelude.{◌≡◌, ℕ, true, false, List, [], ◌∷◌, Option, Some, None, ℤ, pos, neg_ℤ}
use Rattle.std.proofs.Common.{refl}
use Rattle.dec_num.specs.declared.types.Mode.{Mode}
use Rattle.dec_num.specs.declared.types.Mode.TheVariants.{Trunc, Round}
use Rattle.cob_tree.specs.declared.fault.Kind.TheVariants as kind
use Rattle.cob_tree.specs.declared.form.Form.{Form}
use Rattle.cob_tree.specs.declared.form.Form.TheVariants as form
use Rattle.cob_tree.specs.declared.form.Usage.TheVariants as usage
use Rattle.cob_tree.specs.declared.token.Num.{Num}
use Rattle.cob_tree.specs.declared.token.Rel.TheVariants as rel
use Rattle.cob_data.specs.declared.layout.Item.{Item}
use Rattle.cob_data.specs.declared.layout.Sender.TheVariants as sender
use Rattle.cob_program.specs.declared.act.Target.{Target}
use Rattle.cob_program.specs.declared.act.How.{How}
use Rattle.cob_program.specs.declared.act.How.TheVariants as how
use Rattle.cob_program.specs.Sum.{Sum, MkSum, no_parts, more_parts, MkPart, Atom, no_factors, more_factors, MkFactor, item, number}
use Rattle.cob_program.specs.Logic.{Test, numbers, member, numeric, always, test}
use Rattle.cob_program.specs.Act.{times, MkStmt, no_stmts, more_stmts, Phrase, left_out, given, Act, arith, if_, perform, range, Program}
use Rattle.cob_program.specs.Act as act
use Rattle.cob_runs.specs.declared.action.Action.TheVariants as action
use Rattle.interval_domain.specs.Corners.{interval}
use Rattle.interval_domain.specs.Known.{Known}
use Rattle.cob_edge_parts.specs.Parts.{subscript, index}
use Rattle.cell_steps.specs.Seen.{Seen, beginning, with_zero}
use Rattle.cell_steps.specs.Steps.{step}
use Rattle.cell_steps.specs.Clearing.{clears_part}
use Rattle.cell_steps.specs.Edges.{post_cells, clears_edge}

-- ---- A PIC 9, B PIC S99, C PIC 9V9, D PIC 999, X PIC XXX over D, E PIC Z9, T PIC X(20), and PERFORM .. A TIMES

abbrev item_of : ℕ → ℕ → Form → Item
item_of offset length f =
    record { name = Some (65 ∷ []); offset = offset; length = length; times = 1; stride = 0; form = f; parent = None; line = 5; value = None }

abbrev loop : Act
loop = perform (range 0 0) (times (sender.Item 0))

abbrev program : Program
program = record {
  layout = record {
    items = item_of 0 1 (form.Number 1 0 false usage.Display) ∷ item_of 1 2 (form.Number 2 0 true usage.Display)
        ∷ item_of 3 2 (form.Number 2 1 false usage.Display) ∷ item_of 5 3 (form.Number 3 0 false usage.Display)
        ∷ item_of 5 3 (form.Text 3) ∷ item_of 8 2 (form.Edited (90 ∷ 57 ∷ []) 2 0) ∷ item_of 10 20 (form.Text 20) ∷ [];
    flags = [];
    files = [];
    storage = 30;
  };
  paras = record { name = None; line = 9; body = more_stmts (MkStmt 1 9 loop) no_stmts } ∷ [];
  statements = 1;
}

-- the cells of A, B, C, D, X and the counter
abbrev cells : Known → Known → Known → Known → Known → Known → List Known
cells a b c d x n = a ∷ b ∷ c ∷ d ∷ x ∷ n ∷ []

abbrev to : ℤ → ℤ → Known
to low high = Some (interval low high)

abbrev any : Known
any = None

abbrev minus : ℕ → ℤ
minus n = neg_ℤ (pos n)

abbrev alone : Atom → Sum
alone a = MkSum (more_parts (MkPart false (more_factors (MkFactor false false a) no_factors)) no_parts)

abbrev over : Atom → Atom → Sum
over a b = MkSum (more_parts (MkPart false (more_factors (MkFactor false false a) (more_factors (MkFactor true false b) no_factors))) no_parts)

abbrev target : ℕ → How → Mode → Target
target place h mode = record { item = place; how = h; mode = mode }

abbrev worked : Sum → List Target → Option ℕ → Phrase → Act
worked s targets remainder size = arith s targets remainder size no_stmts

abbrev when : Test → Act
when t = if_ (test t) no_stmts no_stmts

abbrev numeral : List ℕ → Num
numeral digits = record { sign = 0; digits = digits; scale = 0 }

-- ---- reads and stores

-- ADD A TO B: what isn't known is read as of its own range, and what doesn't fit is left out
added_unknown : post_cells program 2 (worked (alone (item 0)) (target 1 how.Plus Trunc ∷ []) None left_out) action.Done (cells any any any any any any)
    ≡ Some (cells (to (pos 0) (pos 9)) (to (minus 99) (pos 99)) any any any any)
added_unknown = refl

added : post_cells program 2 (worked (alone (item 0)) (target 1 how.Plus Trunc ∷ []) None left_out) action.Done (cells (to (pos 3) (pos 4)) (to (pos 90) (pos 97)) any any any any)
    ≡ Some (cells (to (pos 3) (pos 4)) (to (pos 93) (pos 99)) any any any any)
added = refl

-- COMPUTE A = C, cut and ROUNDED, for C from 1.4 to 2.5
cut : post_cells program 2 (worked (alone (item 2)) (target 0 how.Whole Trunc ∷ []) None left_out) action.Done (cells any any (to (pos 14) (pos 25)) any any any)
    ≡ Some (cells (to (pos 1) (pos 2)) any (to (pos 14) (pos 25)) any any any)
cut = refl

rounded : post_cells program 2 (worked (alone (item 2)) (target 0 how.Whole Round ∷ []) None left_out) action.Done (cells any any (to (pos 14) (pos 25)) any any any)
    ≡ Some (cells (to (pos 1) (pos 3)) any (to (pos 14) (pos 25)) any any any)
rounded = refl

-- MOVE B TO A: an item without a sign gets absolute values
moved_across_zero : post_cells program 2 (act.move (sender.Item 1) (0 ∷ [])) action.Assign (cells any (to (minus 5) (pos 3)) any any any any)
    ≡ Some (cells (to (pos 0) (pos 5)) (to (minus 5) (pos 3)) any any any any)
moved_across_zero = refl

moved_below_zero : post_cells program 2 (act.move (sender.Item 1) (0 ∷ [])) action.Assign (cells any (to (minus 9) (minus 2)) any any any any)
    ≡ Some (cells (to (pos 2) (pos 9)) (to (minus 9) (minus 2)) any any any any)
moved_below_zero = refl

-- MOVE A TO D: X is forgotten, as it has D's bytes; MOVE A TO X: D is, too
moved_over_text : post_cells program 2 (act.move (sender.Item 0) (3 ∷ [])) action.Assign (cells (to (pos 2) (pos 3)) any any any (to (pos 5) (pos 6)) any)
    ≡ Some (cells (to (pos 2) (pos 3)) any any (to (pos 2) (pos 3)) any any)
moved_over_text = refl

moved_to_text : post_cells program 2 (act.move (sender.Item 0) (4 ∷ [])) action.Assign (cells (to (pos 2) (pos 3)) any any (to (pos 7) (pos 7)) (to (pos 5) (pos 6)) any)
    ≡ Some (cells (to (pos 2) (pos 3)) any any any any any)
moved_to_text = refl

-- MOVE B TO E, an edited item without a cell: only what fits goes on
moved_to_edited : post_cells program 2 (act.move (sender.Item 1) (5 ∷ [])) action.Assign (cells any (to (pos 1) (pos 2)) any any any any)
    ≡ Some (cells any (to (pos 1) (pos 2)) any any any any)
moved_to_edited = refl

-- MOVE D TO X D: D is taken before its bytes change
taken_first : post_cells program 2 (act.move (sender.Item 3) (4 ∷ 3 ∷ [])) action.Assign (cells any any any (to (pos 5) (pos 5)) (to (pos 1) (pos 2)) any)
    ≡ Some (cells any any any (to (pos 5) (pos 5)) any any)
taken_first = refl

-- ADD A TO A B: the receiver's own number counts at its turn, the operand's is that of the beginning
taken_once : post_cells program 2 (worked (alone (item 0)) (target 0 how.Plus Trunc ∷ target 1 how.Plus Trunc ∷ []) None left_out) action.Done (cells (to (pos 2) (pos 3)) (to (pos 10) (pos 10)) any any any any)
    ≡ Some (cells (to (pos 4) (pos 6)) (to (pos 12) (pos 13)) any any any any)
taken_once = refl

-- MOVE T TO B: a text without a cell is read as a number of its length
moved_from_text : post_cells program 2 (act.move (sender.Item 4) (1 ∷ [])) action.Assign (cells any any any any any any)
    ≡ Some (cells any (to (pos 0) (pos 99)) any any (to (pos 0) (pos 999)) any)
moved_from_text = refl

-- ---- size errors

-- ADD A TO A ON SIZE ERROR: some results fit, and some don't. On this edge A has failed, and keeps its value.
some_fail : post_cells program 2 (worked (alone (item 0)) (target 0 how.Plus Trunc ∷ []) None (given no_stmts)) action.Size (cells (to (pos 4) (pos 6)) any any any any any)
    ≡ Some (cells (to (pos 4) (pos 6)) any any any any any)
some_fail = refl

none_fails : post_cells program 2 (worked (alone (item 0)) (target 0 how.Plus Trunc ∷ []) None (given no_stmts)) action.Size (cells (to (pos 1) (pos 2)) any any any any any)
    ≡ None
none_fails = refl

all_fail : post_cells program 2 (worked (alone (item 0)) (target 0 how.Plus Trunc ∷ []) None (given no_stmts)) action.Size (cells (to (pos 8) (pos 9)) any any any any any)
    ≡ Some (cells (to (pos 8) (pos 9)) any any any any any)
all_fail = refl

no_success : post_cells program 2 (worked (alone (item 0)) (target 0 how.Plus Trunc ∷ []) None (given no_stmts)) action.Done (cells (to (pos 8) (pos 9)) any any any any any)
    ≡ None
no_success = refl

-- ADD 5 TO A B ON SIZE ERROR: only A may fail
one_fails : post_cells program 2 (worked (alone (number (numeral (53 ∷ [])))) (target 0 how.Plus Trunc ∷ target 1 how.Plus Trunc ∷ []) None (given no_stmts)) action.Size (cells (to (pos 8) (pos 8)) (to (pos 1) (pos 2)) any any any any)
    ≡ Some (cells (to (pos 8) (pos 8)) (to (pos 6) (pos 7)) any any any any)
one_fails = refl

-- ---- quotients

-- DIVIDE A INTO B: over the divisors that aren't 0; where there are none no run goes on
divided : post_cells program 2 (worked (alone (item 0)) (target 1 how.Under Trunc ∷ []) None left_out) action.Done (cells (to (pos 0) (pos 2)) (to (pos 10) (pos 20)) any any any any)
    ≡ Some (cells (to (pos 0) (pos 2)) (to (pos 5) (pos 20)) any any any any)
divided = refl

divided_by_zero : post_cells program 2 (worked (alone (item 0)) (target 1 how.Under Trunc ∷ []) None left_out) action.Done (cells (to (pos 0) (pos 0)) (to (pos 10) (pos 20)) any any any any)
    ≡ None
divided_by_zero = refl

-- with ON SIZE ERROR, on its edge: B isn't read where A may be 0, and keeps its value
zero_may_divide : post_cells program 2 (worked (alone (item 0)) (target 1 how.Under Trunc ∷ []) None (given no_stmts)) action.Size (cells (to (pos 0) (pos 2)) (to (pos 10) (pos 20)) any any any any)
    ≡ Some (cells (to (pos 0) (pos 2)) (to (pos 10) (pos 20)) any any any any)
zero_may_divide = refl

-- DIVIDE A INTO B D ON SIZE ERROR: each keeps its value or is its quotient
two_may_be_divided : post_cells program 2 (worked (alone (item 0)) (target 1 how.Under Trunc ∷ target 3 how.Under Trunc ∷ []) None (given no_stmts)) action.Size (cells (to (pos 0) (pos 2)) (to (pos 10) (pos 20)) any (to (pos 100) (pos 300)) any any)
    ≡ Some (cells (to (pos 0) (pos 2)) (to (pos 5) (pos 20)) any (to (pos 50) (pos 300)) any any)
two_may_be_divided = refl

zero_divides : post_cells program 2 (worked (alone (item 0)) (target 1 how.Under Trunc ∷ []) None (given no_stmts)) action.Size (cells (to (pos 0) (pos 0)) any any any any any)
    ≡ Some (cells (to (pos 0) (pos 0)) any any any any any)
zero_divides = refl

no_zero_divides : post_cells program 2 (worked (alone (item 0)) (target 1 how.Under Trunc ∷ []) None (given no_stmts)) action.Size (cells (to (pos 1) (pos 2)) any any any any any)
    ≡ None
no_zero_divides = refl

-- COMPUTE C ROUNDED = A / B: the quotient is exact until it is stored
root_rounded : post_cells program 2 (worked (over (item 0) (item 1)) (target 2 how.Whole Round ∷ []) None left_out) action.Done (cells (to (pos 2) (pos 2)) (to (pos 3) (pos 3)) any any any any)
    ≡ Some (cells (to (pos 2) (pos 2)) (to (pos 3) (pos 3)) (to (pos 7) (pos 7)) any any any)
root_rounded = refl

root_cut : post_cells program 2 (worked (over (item 0) (item 1)) (target 2 how.Whole Trunc ∷ []) None left_out) action.Done (cells (to (pos 2) (pos 2)) (to (pos 3) (pos 4)) any any any any)
    ≡ Some (cells (to (pos 2) (pos 2)) (to (pos 3) (pos 4)) (to (pos 5) (pos 6)) any any any)
root_cut = refl

-- DIVIDE D BY A GIVING B REMAINDER A
remained : post_cells program 2 (worked (over (item 3) (item 0)) (target 1 how.Whole Trunc ∷ []) (Some 0) left_out) action.Done (cells (to (pos 5) (pos 5)) any any (to (pos 17) (pos 17)) any any)
    ≡ Some (cells (to (pos 2) (pos 2)) (to (pos 3) (pos 3)) any (to (pos 17) (pos 17)) any any)
remained = refl

-- from 12 to 20 is taken away from 17 to 18, and the rest is less than the divisor
remained_within : post_cells program 2 (worked (over (item 3) (item 0)) (target 1 how.Whole Trunc ∷ []) (Some 0) left_out) action.Done (cells (to (pos 4) (pos 5)) any any (to (pos 17) (pos 18)) any any)
    ≡ Some (cells (to (pos 0) (pos 4)) (to (pos 3) (pos 4)) any (to (pos 17) (pos 18)) any any)
remained_within = refl

-- where the quotient fails, the remainder may keep its value
remainder_kept : post_cells program 2 (worked (over (item 3) (item 0)) (target 1 how.Whole Trunc ∷ []) (Some 0) (given no_stmts)) action.Size (cells (to (pos 2) (pos 2)) any any (to (pos 301) (pos 301)) any any)
    ≡ Some (cells (to (pos 1) (pos 2)) any any (to (pos 301) (pos 301)) any any)
remainder_kept = refl

-- ---- tests

-- A < 5
below : post_cells program 2 (when (numbers (alone (item 0)) rel.Less (alone (number (numeral (53 ∷ [])))))) (action.True 0) (cells (to (pos 1) (pos 8)) any any any any any)
    ≡ Some (cells (to (pos 1) (pos 4)) any any any any any)
below = refl

not_below : post_cells program 2 (when (numbers (alone (item 0)) rel.Less (alone (number (numeral (53 ∷ [])))))) (action.False 0) (cells (to (pos 1) (pos 8)) any any any any any)
    ≡ Some (cells (to (pos 5) (pos 8)) any any any any any)
not_below = refl

-- A = C: both sides are cut, by value
equal_sides : post_cells program 2 (when (numbers (alone (item 0)) rel.Equal (alone (item 2)))) (action.True 0) (cells (to (pos 0) (pos 9)) any (to (pos 15) (pos 32)) any any any)
    ≡ Some (cells (to (pos 2) (pos 3)) any (to (pos 20) (pos 30)) any any any)
equal_sides = refl

never_greater : post_cells program 2 (when (numbers (alone (item 0)) rel.Greater (alone (number (numeral (57 ∷ [])))))) (action.True 0) (cells any any any any any any)
    ≡ None
never_greater = refl

-- A isn't equal to B: an unknown side is read, and nothing is cut where another value may stand beside each
unequal_sides : post_cells program 2 (when (numbers (alone (item 0)) rel.Equal (alone (item 1)))) (action.False 0) (cells any (to (pos 1) (pos 2)) any any any any)
    ≡ Some (cells (to (pos 0) (pos 9)) (to (pos 1) (pos 2)) any any any any)
unequal_sides = refl

unequal_to_one : post_cells program 2 (when (numbers (alone (item 0)) rel.Equal (alone (number (numeral (57 ∷ [])))))) (action.False 0) (cells (to (pos 7) (pos 9)) any any any any any)
    ≡ Some (cells (to (pos 7) (pos 8)) any any any any any)
unequal_to_one = refl

-- A is 1 THRU 3, 7, or in none of them
in_ranges : post_cells program 2 (when (member 0 (record { low = sender.Number (numeral (49 ∷ [])); high = sender.Number (numeral (51 ∷ [])) } ∷ record { low = sender.Number (numeral (55 ∷ [])); high = sender.Number (numeral (55 ∷ [])) } ∷ [])))
    (action.True 0) (cells any any any any any any)
    ≡ Some (cells (to (pos 1) (pos 7)) any any any any any)
in_ranges = refl

in_no_range : post_cells program 2 (when (member 0 (record { low = sender.Number (numeral (49 ∷ [])); high = sender.Number (numeral (51 ∷ [])) } ∷ record { low = sender.Number (numeral (55 ∷ [])); high = sender.Number (numeral (55 ∷ [])) } ∷ [])))
    (action.False 0) (cells (to (pos 2) (pos 7)) any any any any any)
    ≡ Some (cells (to (pos 4) (pos 6)) any any any any any)
in_no_range = refl

-- X NUMERIC
numeric_true : post_cells program 2 (when (numeric 4)) (action.True 0) (cells any any any any any any) ≡ Some (cells any any any any (to (pos 0) (pos 999)) any)
numeric_true = refl

numeric_false : post_cells program 2 (when (numeric 4)) (action.False 0) (cells any any any any any any) ≡ Some (cells any any any any any any)
numeric_false = refl

numeric_never_false : post_cells program 2 (when (numeric 4)) (action.False 0) (cells any any any any (to (pos 1) (pos 2)) any) ≡ None
numeric_never_false = refl

always_true : post_cells program 2 (when always) (action.True 0) (cells any any any any any any) ≡ Some (cells any any any any any any)
always_true = refl

always_false : post_cells program 2 (when always) (action.False 0) (cells any any any any any any) ≡ None
always_false = refl

-- ---- counters

count_set : post_cells program 1 loop action.SetCount (cells (to (pos 3) (pos 4)) any any any any any) ≡ Some (cells (to (pos 3) (pos 4)) any any any any (to (pos 3) (pos 4)))
count_set = refl

count_goes_down : post_cells program 1 loop action.Down (cells any any any any any (to (pos 0) (pos 5))) ≡ Some (cells any any any any any (to (minus 1) (pos 4)))
count_goes_down = refl

count_cant_go_down : post_cells program 1 loop action.Down (cells any any any any any (to (minus 999999999999999999) (minus 999999999999999999))) ≡ None
count_cant_go_down = refl

goes_on : post_cells program 1 loop (action.True 0) (cells any any any any any (to (minus 1) (pos 4))) ≡ Some (cells any any any any any (to (pos 1) (pos 4)))
goes_on = refl

ends : post_cells program 1 loop (action.False 0) (cells any any any any any (to (minus 1) (pos 4))) ≡ Some (cells any any any any any (to (minus 1) (pos 0)))
ends = refl

-- ---- what is cleared

fits : clears_edge program 2 (worked (alone (item 0)) (target 1 how.Plus Trunc ∷ []) None left_out) action.Done (cells (to (pos 1) (pos 2)) (to (pos 0) (pos 97)) any any any any) kind.Size ≡ true
fits = refl

may_exceed : clears_edge program 2 (worked (alone (item 0)) (target 1 how.Plus Trunc ∷ []) None left_out) action.Done (cells (to (pos 1) (pos 2)) (to (pos 0) (pos 98)) any any any any) kind.Size ≡ false
may_exceed = refl

-- with ON SIZE ERROR it isn't asked
handled : clears_edge program 2 (worked (alone (item 0)) (target 1 how.Plus Trunc ∷ []) None (given no_stmts)) action.Size (cells (to (pos 1) (pos 2)) (to (pos 0) (pos 98)) any any any any) kind.Size ≡ true
handled = refl

-- MOVE D TO A is a truncation where it doesn't fit, and no size error
truncated : clears_edge program 2 (act.move (sender.Item 3) (0 ∷ [])) action.Assign (cells any any any (to (pos 1) (pos 10)) any any) kind.Truncation ≡ false
truncated = refl

no_size_error : clears_edge program 2 (act.move (sender.Item 3) (0 ∷ [])) action.Assign (cells any any any (to (pos 1) (pos 10)) any any) kind.Size ≡ true
no_size_error = refl

numeric_operands : clears_edge program 2 (worked (alone (item 0)) (target 1 how.Plus Trunc ∷ []) None left_out) action.Done (cells (to (pos 1) (pos 2)) (to (pos 0) (pos 97)) any any any any) kind.Class ≡ true
numeric_operands = refl

unknown_receiver : clears_edge program 2 (worked (alone (item 0)) (target 1 how.Plus Trunc ∷ []) None left_out) action.Done (cells (to (pos 1) (pos 2)) any any any any any) kind.Class ≡ false
unknown_receiver = refl

isnt_zero : clears_edge program 2 (worked (alone (item 0)) (target 1 how.Under Trunc ∷ []) None left_out) action.Done (cells (to (pos 1) (pos 2)) any any any any any) kind.Zero ≡ true
isnt_zero = refl

may_be_zero : clears_edge program 2 (worked (alone (item 0)) (target 1 how.Under Trunc ∷ []) None left_out) action.Done (cells (to (pos 0) (pos 2)) any any any any any) kind.Zero ≡ false
may_be_zero = refl

-- what no run comes to asks nothing
unreached : clears_edge program 2 (worked (alone (item 0)) (target 1 how.Under Trunc ∷ []) None left_out) action.Done (cells (to (pos 0) (pos 0)) any any any any any) kind.Class ≡ true
unreached = refl

-- a counter of which nothing is known may not be a number
count_unknown : clears_edge program 1 loop action.Down (cells any any any any any any) kind.Class ≡ false
count_unknown = refl

count_numeric : clears_edge program 1 loop action.Down (cells any any any any any (to (pos 0) (pos 9))) kind.Class ≡ true
count_numeric = refl

count_may_exceed : clears_edge program 1 loop action.Down (cells any any any any any any) kind.Size ≡ false
count_may_exceed = refl

count_fits : clears_edge program 1 loop action.Down (cells any any any any any (to (pos 1) (pos 9))) kind.Size ≡ true
count_fits = refl

-- ---- subscripts

-- DIVIDE D BY B GIVING D REMAINDER D ON SIZE ERROR, of which parts are tried
abbrev dividing : Act
dividing = worked (over (item 3) (item 1)) (target 3 how.Whole Trunc ∷ []) (Some 3) (given no_stmts)

abbrev of_a : Known → List Known
of_a a = cells a any any any any any

abbrev failed : List Known → Seen
failed cells = record { cells = cells; written = false; common = None; may_zero = false; any_fail = true }

-- A is read, and names one of five occurrences
a_is_read : step program dividing action.Size (subscript false 0) (beginning (of_a any)) ≡ Some (beginning (of_a (to (pos 0) (pos 9))))
a_is_read = refl

a_names_one : step program dividing action.Size (index false 0 5) (beginning (of_a (to (pos 0) (pos 9)))) ≡ Some (beginning (of_a (to (pos 1) (pos 5))))
a_names_one = refl

a_names_none : step program dividing action.Size (index false 0 5) (beginning (of_a (to (pos 6) (pos 9)))) ≡ None
a_names_none = refl

-- where the turn may not come A stays what it was: behind a divisor that may be 0, and of a remainder
zero_may_stop_it : step program dividing action.Size (index false 0 5) (with_zero (beginning (of_a (to (pos 6) (pos 9)))) true)
    ≡ Some (with_zero (beginning (of_a (to (pos 6) (pos 9)))) true)
zero_may_stop_it = refl

failure_may_stop_it : step program dividing action.Size (index true 0 5) (failed (of_a (to (pos 0) (pos 9)))) ≡ Some (failed (of_a (to (pos 0) (pos 9))))
failure_may_stop_it = refl

failure_stops_remainders_alone : step program dividing action.Size (index false 0 5) (failed (of_a (to (pos 0) (pos 9)))) ≡ Some (failed (of_a (to (pos 1) (pos 5))))
failure_stops_remainders_alone = refl

-- it is asked also where its turn may not come
names_one_of_five : clears_part program dividing action.Size (index true 0 5) (failed (of_a (to (pos 1) (pos 5)))) kind.Subscript ≡ true
names_one_of_five = refl

may_be_zeroth : clears_part program dividing action.Size (index true 0 5) (failed (of_a (to (pos 0) (pos 5)))) kind.Subscript ≡ false
may_be_zeroth = refl

may_be_beyond : clears_part program dividing action.Size (index false 0 5) (beginning (of_a (to (pos 1) (pos 6)))) kind.Subscript ≡ false
may_be_beyond = refl

unknown_may_be_zeroth : clears_part program dividing action.Size (index false 0 9) (beginning (of_a any)) kind.Subscript ≡ false
unknown_may_be_zeroth = refl

may_not_be_numeric : clears_part program dividing action.Size (subscript false 0) (beginning (of_a any)) kind.Class ≡ false
may_not_be_numeric = refl

no_other_fault : clears_part program dividing action.Size (index false 0 5) (beginning (of_a any)) kind.Class ≡ true
no_other_fault = refl

-- ---- A PIC 9, a table of three rows with E PIC 9 and F PIC 9 in each, and R PIC 99 over its second row

abbrev digit : Form
digit = form.Number 1 0 false usage.Display

abbrev in_row : ℕ → Item
in_row offset =
    record { name = Some (69 ∷ []); offset = offset; length = 1; times = 3; stride = 2; form = digit; parent = None; line = 5; value = None }

abbrev tables : Program
tables = record {
  layout = record {
    items = item_of 0 1 digit ∷ in_row 1 ∷ in_row 2 ∷ item_of 3 2 (form.Number 2 0 false usage.Display) ∷ [];
    flags = [];
    files = [];
    storage = 7;
  };
  paras = [];
  statements = 1;
}

-- MOVE A TO E: one occurrence is new, and the others stay; F lies beside it, and R over one of them
stored_in_one : post_cells tables 1 (act.move (sender.Item 0) (1 ∷ [])) action.Assign (to (pos 5) (pos 5) ∷ to (pos 1) (pos 2) ∷ to (pos 3) (pos 3) ∷ to (pos 10) (pos 10) ∷ [])
    ≡ Some (to (pos 5) (pos 5) ∷ to (pos 1) (pos 5) ∷ to (pos 3) (pos 3) ∷ any ∷ [])
stored_in_one = refl

stored_beside_unknown : post_cells tables 1 (act.move (sender.Item 0) (1 ∷ [])) action.Assign (to (pos 5) (pos 5) ∷ any ∷ any ∷ any ∷ [])
    ≡ Some (to (pos 5) (pos 5) ∷ any ∷ any ∷ any ∷ [])
stored_beside_unknown = refl

-- MOVE A TO R: both columns have bytes of it
stored_over_a_row : post_cells tables 1 (act.move (sender.Item 0) (3 ∷ [])) action.Assign (to (pos 5) (pos 5) ∷ to (pos 1) (pos 2) ∷ to (pos 3) (pos 3) ∷ any ∷ [])
    ≡ Some (to (pos 5) (pos 5) ∷ any ∷ any ∷ to (pos 5) (pos 5) ∷ [])
stored_over_a_row = refl

-- ADD E TO A: one occurrence is read
read_of_one : post_cells tables 1 (worked (alone (item 1)) (target 0 how.Plus Trunc ∷ []) None left_out) action.Done (to (pos 1) (pos 2) ∷ any ∷ any ∷ any ∷ [])
    ≡ Some (to (pos 1) (pos 9) ∷ any ∷ any ∷ any ∷ [])
read_of_one = refl

-- E < 5, and E NUMERIC
below_in_one : post_cells tables 1 (when (numbers (alone (item 1)) rel.Less (alone (number (numeral (53 ∷ [])))))) (action.True 0) (any ∷ to (pos 1) (pos 8) ∷ any ∷ any ∷ [])
    ≡ Some (any ∷ to (pos 1) (pos 8) ∷ any ∷ any ∷ [])
below_in_one = refl

numeric_in_one : post_cells tables 1 (when (numeric 1)) (action.True 0) (any ∷ any ∷ any ∷ any ∷ []) ≡ Some (any ∷ any ∷ any ∷ any ∷ [])
numeric_in_one = refl
