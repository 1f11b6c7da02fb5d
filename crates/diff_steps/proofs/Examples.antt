-- Edges of a small program, worked by hand: what is known of differences before and after, and what is cleared.
use Rattle.std.specs.Prelude.{◌≡◌, ℕ, Bool, true, false, List, [], ◌∷◌, Some, None, ℤ, pos, neg_ℤ}
use Rattle.std.proofs.Common.{refl}
use Rattle.dec_num.specs.declared.types.Mode.{Mode}
use Rattle.dec_num.specs.declared.types.Mode.TheVariants.{Trunc}
use Rattle.cob_tree.specs.declared.fault.Kind.TheVariants as kind
use Rattle.cob_tree.specs.declared.form.Form.{Form}
use Rattle.cob_tree.specs.declared.form.Form.TheVariants as form
use Rattle.cob_tree.specs.declared.form.Usage.TheVariants as usage
use Rattle.cob_tree.specs.declared.token.Rel.TheVariants as rel
use Rattle.cob_data.specs.declared.layout.Item.{Item}
use Rattle.cob_data.specs.declared.layout.Sender.TheVariants as sender
use Rattle.cob_program.specs.declared.act.Target.{Target}
use Rattle.cob_program.specs.declared.act.How.{How}
use Rattle.cob_program.specs.declared.act.How.TheVariants as how
use Rattle.cob_program.specs.Sum.{Sum, MkSum, no_parts, more_parts, MkPart, Atom, no_factors, more_factors, MkFactor, item, number}
use Rattle.cob_program.specs.Logic.{Test, numbers, test}
use Rattle.cob_program.specs.Act.{no_stmts, Phrase, left_out, given, Act, arith, if_, Program}
use Rattle.cob_program.specs.Act as act
use Rattle.cob_runs.specs.declared.action.Action.TheVariants as action
use Rattle.interval_domain.specs.Corners.{interval}
use Rattle.diff_bounds.specs.Forms.{if_small, coefs_of}
use Rattle.diff_bounds.specs.Matrix.{none}
use Rattle.diff_bounds.specs.Closed.{sums_through}
use Rattle.interval_domain.specs.Known.{Known}
use Rattle.cob_graph.specs.declared.homes.Home.TheVariants.{Item as of_item}
use Rattle.cob_edge_parts.specs.Parts.{index}
use Rattle.cell_steps.specs.Seen.{beginning}
use Rattle.cell_steps.specs.Edges.{clears_edge}
use Rattle.diff_steps.specs.Packs.{Pack}
use Rattle.diff_steps.specs.Edges.{beginning2, entry_packs, post_packs, bottoms}
use Rattle.diff_steps.specs.Clearing.{clears_edge2, clears_part2}

-- ---- A PIC S999, B PIC S999, C PIC 99V9, X PIC XXX over A

abbrev item_of : ℕ → ℕ → Form → Item
item_of offset length f =
    record { name = Some (65 ∷ []); offset = offset; length = length; times = 1; stride = 0; form = f; parent = None; line = 5; value = None }

abbrev program : Program
program = record {
  layout = record {
    items = item_of 0 3 (form.Number 3 0 true usage.Display) ∷ item_of 3 3 (form.Number 3 0 true usage.Display)
        ∷ item_of 6 3 (form.Number 3 1 false usage.Display) ∷ item_of 0 3 (form.Text 3) ∷ [];
    flags = [];
    files = [];
    storage = 9;
  };
  paras = [];
  statements = 1;
}

-- the cells of A, B, C and X
abbrev cells : Known → Known → Known → Known → List Known
cells a b c x = a ∷ b ∷ c ∷ x ∷ []

abbrev to : ℤ → ℤ → Known
to low high = Some (interval low high)

abbrev any : Known
any = None

abbrev minus : ℕ → ℤ
minus n = neg_ℤ (pos n)

-- the packs of A with B, in whole units, and of A with C, in tenths
abbrev whole : Pack
whole = of_item 0 ∷ of_item 1 ∷ []

abbrev tenths : Pack
tenths = of_item 0 ∷ of_item 2 ∷ []

-- a matrix by its words off the diagonal, row by row
abbrev words : ℤ → ℤ → ℤ → ℤ → ℤ → ℤ → List ℤ
words a b c d e f = pos 0 ∷ a ∷ b ∷ c ∷ pos 0 ∷ d ∷ e ∷ f ∷ pos 0 ∷ []

abbrev nothing : List ℤ
nothing = words none none none none none none

abbrev alone : Atom → Sum
alone a = MkSum (more_parts (MkPart false (more_factors (MkFactor false false a) no_factors)) no_parts)

abbrev target : ℕ → How → Mode → Target
target place h mode = record { item = place; how = h; mode = mode }

abbrev worked : Sum → List Target → Phrase → Act
worked s targets size = arith s targets None size no_stmts

abbrev when : Test → Act
when t = if_ (test t) no_stmts no_stmts

abbrev one : Sum
one = alone (number (record { sign = 0; digits = 49 ∷ []; scale = 0 }))

-- ---- where a run begins

-- A is 5 and B is 7: their difference is -2
entered : entry_packs program (whole ∷ []) (cells (to (pos 5) (pos 5)) (to (pos 7) (pos 7)) any any)
    ≡ words (minus 5) (minus 7) (pos 5) (minus 2) (pos 7) (pos 2) ∷ []
unfolding sums_through
entered = refl

-- ---- stores

-- ADD 1 TO A: where both are known alone, their difference is -1 then,
added_to_points : post_packs program (whole ∷ []) 1 (worked one (target 0 how.Plus Trunc ∷ []) left_out) action.Done
    (Some (cells (to (pos 5) (pos 5)) (to (pos 7) (pos 7)) any any)) (words (minus 5) (minus 7) (pos 5) (minus 2) (pos 7) (pos 2) ∷ [])
    ≡ words (minus 6) (minus 7) (pos 6) (minus 1) (pos 7) (pos 1) ∷ []
unfolding sums_through if_small coefs_of
added_to_points = refl

-- and where A is at most B - 2, it is at most B - 1 then. Of A it is known to be 0 to 10, of B 0 to 20: B - A is at most
-- 20 before it, and 19 behind it.
added : post_packs program (whole ∷ []) 1 (worked one (target 0 how.Plus Trunc ∷ []) left_out) action.Done
    (Some (cells (to (pos 0) (pos 10)) (to (pos 0) (pos 20)) any any)) (words none none none (minus 2) none none ∷ [])
    ≡ words (minus 1) (minus 2) (pos 11) (minus 1) (pos 20) (pos 19) ∷ []
unfolding sums_through if_small coefs_of
added = refl

-- MOVE 'ABC' TO X, which has A's bytes: A is forgotten, and B stays.
overlapped : post_packs program (whole ∷ []) 1 (act.move (sender.Text (65 ∷ 66 ∷ 67 ∷ [])) (3 ∷ [])) action.Assign
    (Some (cells (to (pos 0) (pos 10)) (to (pos 0) (pos 20)) any any)) (words none none none (minus 2) none none ∷ [])
    ≡ words none (minus 2) none none (pos 20) none ∷ []
unfolding sums_through if_small coefs_of
overlapped = refl

-- A PIC S999 over the second of three occurrences of T PIC S999, and B PIC S999 behind them
abbrev table_of : ℕ → ℕ → ℕ → ℕ → Form → Item
table_of offset length times stride f =
    record { name = Some (65 ∷ []); offset = offset; length = length; times = times; stride = stride; form = f; parent = None; line = 5; value = None }

abbrev with_table : Program
with_table = record {
  layout = record {
    items = item_of 3 3 (form.Number 3 0 true usage.Display) ∷ item_of 9 3 (form.Number 3 0 true usage.Display)
        ∷ table_of 0 3 3 3 (form.Number 3 0 true usage.Display) ∷ [];
    flags = [];
    files = [];
    storage = 12;
  };
  paras = [];
  statements = 1;
}

-- MOVE B TO T, of which an occurrence has A's bytes: A is forgotten, and B stays.
table_overlapped : post_packs with_table (whole ∷ []) 1 (act.move (sender.Item 1) (2 ∷ [])) action.Assign
    (Some (to (pos 0) (pos 10) ∷ to (pos 0) (pos 20) ∷ any ∷ [])) (words none none none (minus 2) none none ∷ [])
    ≡ words none (minus 2) none none (pos 20) none ∷ []
unfolding sums_through if_small coefs_of
table_overlapped = refl

-- MOVE C TO A cuts a decimal off a number that isn't negative: in tenths A is at most C, and C at most A + 10. A is then
-- 0 to 99.
cut : post_packs program (tenths ∷ []) 1 (act.move (sender.Item 2) (0 ∷ [])) action.Assign
    (Some (cells any any (to (pos 0) (pos 999)) any)) (nothing ∷ [])
    ≡ words (pos 0) (pos 0) (pos 990) (pos 0) (pos 999) (pos 10) ∷ []
unfolding sums_through if_small coefs_of
cut = refl

-- MOVE A TO C, which has no sign, where A is -9 to -2: C is -A, so that in tenths C - A is at most 180, and A - C at most
-- -40.
absolute : post_packs program (tenths ∷ []) 1 (act.move (sender.Item 0) (2 ∷ [])) action.Assign
    (Some (cells (to (minus 9) (minus 2)) any any any)) (nothing ∷ [])
    ≡ words (pos 90) (minus 20) (minus 20) (minus 40) (pos 90) (pos 180) ∷ []
unfolding sums_through if_small coefs_of
absolute = refl

-- MOVE A TO C where A is -9 to 2: neither sign is sure, so that C's difference from A is what their own bounds show. C is
-- 0 to 9 then, since absolute values of -9 to 2 are.
of_unknown_sign : post_packs program (tenths ∷ []) 1 (act.move (sender.Item 0) (2 ∷ [])) action.Assign
    (Some (cells (to (minus 9) (pos 2)) any any any)) (nothing ∷ [])
    ≡ words (pos 90) (pos 0) (pos 20) (pos 20) (pos 90) (pos 180) ∷ []
unfolding sums_through if_small coefs_of
of_unknown_sign = refl

-- ---- size errors

abbrev handled : Act
handled = worked (alone (item 1)) (target 0 how.Plus Trunc ∷ []) (given no_stmts)

-- ADD B TO A ON SIZE ERROR: A may fit and may fail. On this edge it has failed, so that A - B is 985 at most still, and A
-- 990 to 999. B, which is at least A - 985, is 5 to 20.
may_fail : post_packs program (whole ∷ []) 1 handled action.Size
    (Some (cells (to (pos 990) (pos 999)) (to (pos 0) (pos 20)) any any)) (words none none none (pos 985) none none ∷ [])
    ≡ words (minus 990) (minus 5) (pos 999) (pos 985) (pos 20) (minus 970) ∷ []
unfolding sums_through if_small coefs_of
may_fail = refl

-- A can't fit, and keeps its value.
cannot_fit : post_packs program (whole ∷ []) 1 handled action.Size
    (Some (cells (to (pos 990) (pos 999)) (to (pos 20) (pos 20)) any any)) (words none none none (pos 975) none none ∷ [])
    ≡ words (minus 990) (minus 20) (pos 995) (pos 975) (pos 20) (minus 970) ∷ []
unfolding sums_through if_small coefs_of
cannot_fit = refl

-- ---- guards

-- IF A < B: A - B is at most -1, and B at least 1.
less : post_packs program (whole ∷ []) 1 (when (numbers (alone (item 0)) rel.Less (alone (item 1)))) (action.True 0)
    (Some (cells (to (pos 0) (pos 10)) (to (pos 0) (pos 20)) any any)) (nothing ∷ [])
    ≡ words (pos 0) (minus 1) (pos 10) (minus 1) (pos 20) (pos 20) ∷ []
unfolding sums_through if_small coefs_of
less = refl

-- IF A = B
equal : post_packs program (whole ∷ []) 1 (when (numbers (alone (item 0)) rel.Equal (alone (item 1)))) (action.True 0)
    (Some (cells (to (pos 0) (pos 10)) (to (pos 3) (pos 20)) any any)) (nothing ∷ [])
    ≡ words (minus 3) (minus 3) (pos 10) (pos 0) (pos 10) (pos 0) ∷ []
unfolding sums_through if_small coefs_of
equal = refl

-- IF A < C where a tenth is the pack's unit: A < C is A - C at most -1 tenth.
finely_less : post_packs program (tenths ∷ []) 1 (when (numbers (alone (item 0)) rel.Less (alone (item 2)))) (action.True 0)
    (Some (cells (to (pos 0) (pos 1)) any (to (pos 0) (pos 20)) any)) (nothing ∷ [])
    ≡ words (pos 0) (minus 1) (pos 10) (minus 1) (pos 20) (pos 20) ∷ []
unfolding sums_through if_small coefs_of
finely_less = refl

-- ---- no run comes

-- A and B are both 5, but A is at most B - 1: nothing is left in any pack.
impossible : post_packs program (whole ∷ tenths ∷ []) 1 (worked one (target 0 how.Plus Trunc ∷ []) left_out) action.Done
    (Some (cells (to (pos 5) (pos 5)) (to (pos 5) (pos 5)) any any)) (words none none none (minus 1) none none ∷ nothing ∷ [])
    ≡ bottoms (whole ∷ tenths ∷ [])
unfolding sums_through if_small coefs_of
impossible = refl

-- ---- what is cleared

-- ADD 1 TO A fits where A is at most B - 2 and B at most 999, which no interval of A alone shows.
cleared : clears_edge2 program (whole ∷ []) 1 (worked one (target 0 how.Plus Trunc ∷ []) left_out) action.Done
    (cells (to (minus 999) (pos 999)) (to (pos 0) (pos 999)) any any) (words none none none (minus 2) none none ∷ []) kind.Size
    ≡ true
unfolding sums_through if_small coefs_of
cleared = refl

not_cleared_alone : clears_edge program 1 (worked one (target 0 how.Plus Trunc ∷ []) left_out) action.Done
    (cells (to (minus 999) (pos 999)) (to (pos 0) (pos 999)) any any) kind.Size
    ≡ false
not_cleared_alone = refl

-- ---- subscripts

-- whether a pack shows that A names one of five occurrences, beside what is known of A
abbrev a_is_shown : Pack → Known → List ℤ → Bool
a_is_shown pack a m =
    clears_part2 program (pack ∷ []) (worked one (target 0 how.Plus Trunc ∷ []) left_out) action.Done (index false 0 5) (beginning (cells a any any any))
    (beginning2 (m ∷ [])) kind.Subscript

-- A is 1 at least, and 5 at most
by_matrix : a_is_shown whole any (words (minus 1) none (pos 5) none none none) ≡ true
unfolding sums_through if_small coefs_of
by_matrix = refl

low_unknown : a_is_shown whole any (words none none (pos 5) none none none) ≡ false
unfolding sums_through if_small coefs_of
low_unknown = refl

may_be_none : a_is_shown whole any (words (pos 0) none (pos 5) none none none) ≡ false
unfolding sums_through if_small coefs_of
may_be_none = refl

high_unknown : a_is_shown whole any (words (minus 1) none none none none none) ≡ false
unfolding sums_through if_small coefs_of
high_unknown = refl

-- one end by the interval, the other by the matrix
by_both : a_is_shown whole (to (pos 1) (pos 999)) (words none none (pos 5) none none none) ≡ true
unfolding sums_through if_small coefs_of
by_both = refl

-- in tenths, bounds are compared as they stand
in_tenths : a_is_shown tenths any (words (minus 10) none (pos 50) none none none) ≡ true
unfolding sums_through if_small coefs_of
in_tenths = refl

a_tenth_beyond : a_is_shown tenths any (words (minus 10) none (pos 51) none none none) ≡ false
unfolding sums_through if_small coefs_of
a_tenth_beyond = refl
