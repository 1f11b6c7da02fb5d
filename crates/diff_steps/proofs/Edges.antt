-- More edges, worked by hand: stores by scale, sign and mode, literals that scale, several receivers, redefinitions, size
-- errors, quotients, loops, tests, and what is cleared.
use Rattle.std.specs.Prelude.{◌≡◌, ℕ, Bool, true, false, List, [], ◌∷◌, Some, None, ℤ, pos, neg_ℤ}
use Rattle.std.proofs.Common.{refl}
use Rattle.dec_num.specs.declared.types.Mode.{Mode}
use Rattle.dec_num.specs.declared.types.Mode.TheVariants.{Trunc, Round}
use Rattle.cob_tree.specs.declared.fault.Kind.{Kind}
use Rattle.cob_tree.specs.declared.fault.Kind.TheVariants as kind
use Rattle.cob_tree.specs.declared.form.Form.{Form}
use Rattle.cob_tree.specs.declared.form.Form.TheVariants as form
use Rattle.cob_tree.specs.declared.form.Usage.TheVariants as usage
use Rattle.cob_tree.specs.declared.token.Num.{Num}
use Rattle.cob_tree.specs.declared.token.Rel.TheVariants as rel
use Rattle.cob_data.specs.declared.layout.Item.{Item}
use Rattle.cob_data.specs.declared.layout.Sender.{Sender}
use Rattle.cob_data.specs.declared.layout.Sender.TheVariants as sender
use Rattle.cob_program.specs.declared.act.Target.{Target}
use Rattle.cob_program.specs.declared.act.How.{How}
use Rattle.cob_program.specs.declared.act.How.TheVariants as how
use Rattle.cob_program.specs.Sum.{Sum, MkSum, no_parts, more_parts, Part, MkPart, Atom, no_factors, more_factors, Factor, MkFactor, item, number, group}
use Rattle.cob_program.specs.Logic.{Test, numbers, always, test}
use Rattle.cob_program.specs.Act.{times, varying, MkStmt, no_stmts, more_stmts, Phrase, left_out, given, Act, arith, if_, perform, range, Program}
use Rattle.cob_program.specs.Act as act
use Rattle.cob_runs.specs.declared.action.Action.{Action}
use Rattle.cob_runs.specs.declared.action.Action.TheVariants as action
use Rattle.interval_domain.specs.Corners.{interval}
use Rattle.diff_bounds.specs.Forms.{if_small, coefs_of}
use Rattle.diff_bounds.specs.Matrix.{none}
use Rattle.diff_bounds.specs.Closed.{sums_through}
use Rattle.interval_domain.specs.Known.{Known}
use Rattle.cob_graph.specs.declared.homes.Home.TheVariants.{Item as of_item, Count as of_count}
use Rattle.diff_steps.specs.Packs.{Pack}
use Rattle.diff_steps.specs.Edges.{post_packs, bottoms}
use Rattle.diff_steps.specs.Clearing.{clears_edge2}

-- ---- A PIC S99, B PIC S99, U PIC 99, C PIC S99V9, D PIC 9V99, V PIC S99 over B, X PIC XX over A, and PERFORM .. A TIMES

abbrev item_of : ℕ → ℕ → Form → Item
item_of offset length f =
    record { name = Some (65 ∷ []); offset = offset; length = length; times = 1; stride = 0; form = f; parent = None; line = 5; value = None }

abbrev loop : Act
loop = perform (range 0 0) (times (sender.Item 0))

abbrev program : Program
program = record {
  layout = record {
    items = item_of 0 2 (form.Number 2 0 true usage.Display) ∷ item_of 2 2 (form.Number 2 0 true usage.Display)
        ∷ item_of 4 2 (form.Number 2 0 false usage.Display) ∷ item_of 6 3 (form.Number 3 1 true usage.Display)
        ∷ item_of 9 3 (form.Number 3 2 false usage.Display) ∷ item_of 2 2 (form.Number 2 0 true usage.Display)
        ∷ item_of 0 2 (form.Text 2) ∷ [];
    flags = [];
    files = [];
    storage = 12;
  };
  paras = record { name = None; line = 9; body = more_stmts (MkStmt 1 9 loop) no_stmts } ∷ [];
  statements = 1;
}

abbrev to : ℤ → ℤ → Known
to low high = Some (interval low high)

abbrev any : Known
any = None

abbrev minus : ℕ → ℤ
minus n = neg_ℤ (pos n)

-- what is known of A, B, U, C, D, V and the counter; of X nothing is
abbrev cells : Known → Known → Known → Known → Known → Known → Known → List Known
cells a b u c d v n = a ∷ b ∷ u ∷ c ∷ d ∷ v ∷ any ∷ n ∷ []

-- packs, those with C in tenths
abbrev ab : Pack
ab = of_item 0 ∷ of_item 1 ∷ []

abbrev ac : Pack
ac = of_item 0 ∷ of_item 3 ∷ []

abbrev au : Pack
au = of_item 0 ∷ of_item 2 ∷ []

abbrev av : Pack
av = of_item 0 ∷ of_item 5 ∷ []

abbrev an : Pack
an = of_item 0 ∷ of_count 1 ∷ []

abbrev bc : Pack
bc = of_item 1 ∷ of_item 3 ∷ []

abbrev bv : Pack
bv = of_item 1 ∷ of_item 5 ∷ []

abbrev uc : Pack
uc = of_item 2 ∷ of_item 3 ∷ []

abbrev abu : Pack
abu = of_item 0 ∷ of_item 1 ∷ of_item 2 ∷ []

-- a matrix by its words off the diagonal, row by row, for two cells and for three
abbrev words : ℤ → ℤ → ℤ → ℤ → ℤ → ℤ → List ℤ
words a b c d e f = pos 0 ∷ a ∷ b ∷ c ∷ pos 0 ∷ d ∷ e ∷ f ∷ pos 0 ∷ []

abbrev words3 : ℤ → ℤ → ℤ → ℤ → ℤ → ℤ → ℤ → ℤ → ℤ → ℤ → ℤ → ℤ → List ℤ
words3 a b c d e f g h i j k l =
    pos 0 ∷ a ∷ b ∷ c ∷ d ∷ pos 0 ∷ e ∷ f ∷ g ∷ h ∷ pos 0 ∷ i ∷ j ∷ k ∷ l ∷ pos 0 ∷ []

abbrev nothing : List ℤ
nothing = words none none none none none none

-- ---- sums and statements

abbrev numeral : ℕ → List ℕ → Num
numeral scale digits = record { sign = 0; digits = digits; scale = scale }

abbrev literal : ℕ → List ℕ → Atom
literal scale digits = number (numeral scale digits)

abbrev one : Atom
one = literal 0 (49 ∷ [])

abbrev two : Atom
two = literal 0 (50 ∷ [])

abbrev three : Atom
three = literal 0 (51 ∷ [])

abbrev four : Atom
four = literal 0 (52 ∷ [])

abbrev by : Atom → Factor
by a = MkFactor false false a

abbrev under : Atom → Factor
under a = MkFactor true false a

abbrev lone : Atom → Part
lone a = MkPart false (more_factors (by a) no_factors)

abbrev alone : Atom → Sum
alone a = MkSum (more_parts (lone a) no_parts)

abbrev added : Atom → Atom → Sum
added a b = MkSum (more_parts (lone a) (more_parts (lone b) no_parts))

abbrev less : Atom → Atom → Sum
less a b = MkSum (more_parts (lone a) (more_parts (MkPart true (more_factors (by b) no_factors)) no_parts))

abbrev product : Atom → Atom → Sum
product a b = MkSum (more_parts (MkPart false (more_factors (by a) (more_factors (by b) no_factors))) no_parts)

abbrev product_of_three : Atom → Atom → Atom → Sum
product_of_three a b c =
    MkSum (more_parts (MkPart false (more_factors (by a) (more_factors (by b) (more_factors (by c) no_factors)))) no_parts)

abbrev quotient : Atom → Atom → Sum
quotient a b = MkSum (more_parts (MkPart false (more_factors (by a) (more_factors (under b) no_factors))) no_parts)

-- the sum of an atom and a quotient
abbrev added_quotient : Atom → Atom → Atom → Sum
added_quotient a b c =
    MkSum (more_parts (lone a) (more_parts (MkPart false (more_factors (by b) (more_factors (under c) no_factors))) no_parts))

abbrev target : ℕ → How → Mode → Target
target place h mode = record { item = place; how = h; mode = mode }

abbrev worked : Sum → List Target → Phrase → Act
worked s targets size = arith s targets None size no_stmts

abbrev when : Test → Act
when t = if_ (test t) no_stmts no_stmts

-- PERFORM VARYING A FROM .. BY ..
abbrev vary : Sender → Sender → Act
vary start step = perform (range 0 0) (varying false 0 start step (test always))

-- what the edge makes of matrices, beside what is known of the cells
abbrev behind : List Pack → Act → Action → List Known → List (List ℤ) → List (List ℤ)
behind packs a x known ms = post_packs program packs 1 a x (Some known) ms

abbrev are_cleared : Kind → List Pack → Act → Action → List Known → List (List ℤ) → Bool
are_cleared fault packs a x known ms = clears_edge2 program packs 1 a x known ms fault

-- ---- stores whose receiver cuts decimals off

-- MOVE C TO A where C is -9.5 to 0: what is cut off makes A no less than C, and A - C at most 10 tenths.
cut_below_zero : behind (ac ∷ []) (act.move (sender.Item 3) (0 ∷ [])) action.Assign
    (cells any any any (to (minus 95) (pos 0)) any any any) (nothing ∷ [])
    ≡ words (pos 90) (pos 95) (pos 0) (pos 10) (pos 0) (pos 0) ∷ []
unfolding sums_through if_small coefs_of
cut_below_zero = refl

-- Where C is -9.5 to 9.5 the error goes both ways.
cut_across_zero : behind (ac ∷ []) (act.move (sender.Item 3) (0 ∷ [])) action.Assign
    (cells any any any (to (minus 95) (pos 95)) any any any) (nothing ∷ [])
    ≡ words (pos 90) (pos 95) (pos 90) (pos 10) (pos 95) (pos 10) ∷ []
unfolding sums_through if_small coefs_of
cut_across_zero = refl

-- COMPUTE A ROUNDED = C: rounding errs both ways, whatever the sign. C is 0 to 9.4.
rounded : behind (ac ∷ []) (worked (alone (item 3)) (target 0 how.Whole Round ∷ []) left_out) action.Done
    (cells any any any (to (pos 0) (pos 94)) any any any) (nothing ∷ [])
    ≡ words (pos 0) (pos 0) (pos 90) (pos 10) (pos 94) (pos 10) ∷ []
unfolding sums_through if_small coefs_of
rounded = refl

-- COMPUTE B = A + D, where D has no cell in the pack and is 1.25 to 2.50: as a constant it is 1 to 3, so that B before the
-- cut is at most A + 3 and at least A + 1, and behind it at least A.
cut_sum : behind (ab ∷ []) (worked (added (item 0) (item 4)) (target 1 how.Whole Trunc ∷ []) left_out) action.Done
    (cells (to (pos 0) (pos 9)) any any any (to (pos 125) (pos 250)) any any) (nothing ∷ [])
    ≡ words (pos 0) (minus 1) (pos 9) (pos 0) (pos 11) (pos 3) ∷ []
unfolding sums_through if_small coefs_of
cut_sum = refl

-- COMPUTE B = A + C / 4, where C is 1.0 to 3.0: the quotient is 0.25 to 0.75, as a constant 0 to 1.
inner_quotient : behind (ab ∷ [])
    (worked (added_quotient (item 0) (item 3) four) (target 1 how.Whole Trunc ∷ []) left_out) action.Done
    (cells (to (pos 1) (pos 4)) any any (to (pos 10) (pos 30)) any any any) (nothing ∷ [])
    ≡ words (minus 1) (minus 1) (pos 4) (pos 1) (pos 4) (pos 1) ∷ []
unfolding sums_through if_small coefs_of
inner_quotient = refl

-- ---- stores whose receiver has all decimals

-- MOVE A TO C: nothing is cut off.
moved_to_finer : behind (ac ∷ []) (act.move (sender.Item 0) (3 ∷ [])) action.Assign
    (cells (to (pos 1) (pos 4)) any any any any any any) (nothing ∷ [])
    ≡ words (minus 10) (minus 10) (pos 40) (pos 0) (pos 40) (pos 0) ∷ []
unfolding sums_through if_small coefs_of
moved_to_finer = refl

-- COMPUTE C = A + 0.5: C - A is 5 tenths.
decimal_added : behind (ac ∷ [])
    (worked (added (item 0) (literal 1 (53 ∷ []))) (target 3 how.Whole Trunc ∷ []) left_out) action.Done
    (cells (to (pos 0) (pos 9)) any any any any any any) (nothing ∷ [])
    ≡ words (pos 0) (minus 5) (pos 90) (minus 5) (pos 95) (pos 5) ∷ []
unfolding sums_through if_small coefs_of
decimal_added = refl

-- MOVE 5 TO A
literal_moved : behind (ab ∷ []) (act.move (sender.Number (numeral 0 (53 ∷ []))) (0 ∷ [])) action.Assign
    (cells any (to (pos 0) (pos 9)) any any any any any) (nothing ∷ [])
    ≡ words (minus 5) (pos 0) (pos 5) (pos 5) (pos 9) (pos 4) ∷ []
unfolding sums_through if_small coefs_of
literal_moved = refl

-- SUBTRACT 1 FROM A, where A is at most B: A is at most B - 1 then.
subtracted : behind (ab ∷ []) (worked (alone one) (target 0 how.Minus Trunc ∷ []) left_out) action.Done
    (cells (to (pos 1) (pos 4)) (to (pos 0) (pos 9)) any any any any any) (words none none none (pos 0) none none ∷ [])
    ≡ words (pos 0) (minus 1) (pos 3) (minus 1) (pos 9) (pos 9) ∷ []
unfolding sums_through if_small coefs_of
subtracted = refl

-- ---- literals that scale

-- COMPUTE B = A * 2.0: the literal is a whole number, and A has the coefficient 2. The product has a decimal that the
-- store cuts off: B is at most 2A and at least 2A - 1.
doubled : behind (ab ∷ [])
    (worked (product (item 0) (literal 1 (50 ∷ 48 ∷ []))) (target 1 how.Whole Trunc ∷ []) left_out) action.Done
    (cells (to (pos 1) (pos 4)) any any any any any any) (nothing ∷ [])
    ≡ words (minus 1) (minus 2) (pos 4) (pos 0) (pos 8) (pos 4) ∷ []
unfolding sums_through if_small coefs_of
doubled = refl

-- COMPUTE B = A * 1.5: the literal isn't whole, and the product counts by its range of 3.0 to 6.0.
half_more : behind (ab ∷ [])
    (worked (product (item 0) (literal 1 (49 ∷ 53 ∷ []))) (target 1 how.Whole Trunc ∷ []) left_out) action.Done
    (cells (to (pos 2) (pos 4)) any any any any any any) (nothing ∷ [])
    ≡ words (minus 2) (minus 3) (pos 4) (pos 1) (pos 6) (pos 4) ∷ []
unfolding sums_through if_small coefs_of
half_more = refl

-- COMPUTE B = 2 * 3 * A: a product of literals before A, which has no coefficient.
behind_literals : behind (ab ∷ [])
    (worked (product_of_three two three (item 0)) (target 1 how.Whole Trunc ∷ []) left_out) action.Done
    (cells (to (pos 1) (pos 4)) any any any any any any) (nothing ∷ [])
    ≡ words (minus 1) (minus 6) (pos 4) (minus 2) (pos 24) (pos 23) ∷ []
unfolding sums_through if_small coefs_of
behind_literals = refl

-- COMPUTE B = A * 2 * 3: B is 6A, so that B - A is 5A.
before_literals : behind (ab ∷ [])
    (worked (product_of_three (item 0) two three) (target 1 how.Whole Trunc ∷ []) left_out) action.Done
    (cells (to (pos 1) (pos 4)) any any any any any any) (nothing ∷ [])
    ≡ words (minus 1) (minus 6) (pos 4) (minus 5) (pos 24) (pos 20) ∷ []
unfolding sums_through if_small coefs_of
before_literals = refl

-- COMPUTE B = 2 * A * 3
between_literals : behind (ab ∷ [])
    (worked (product_of_three two (item 0) three) (target 1 how.Whole Trunc ∷ []) left_out) action.Done
    (cells (to (pos 1) (pos 4)) any any any any any any) (nothing ∷ [])
    ≡ words (minus 1) (minus 6) (pos 4) (minus 5) (pos 24) (pos 20) ∷ []
unfolding sums_through if_small coefs_of
between_literals = refl

-- MULTIPLY 3 BY A, where A is at most B: of 3A - B only the bounds of both tell.
multiplied : behind (ab ∷ []) (worked (alone three) (target 0 how.Times Trunc ∷ []) left_out) action.Done
    (cells (to (pos 1) (pos 4)) (to (pos 0) (pos 9)) any any any any any) (words none none none (pos 0) none none ∷ [])
    ≡ words (minus 3) (minus 1) (pos 12) (pos 11) (pos 9) (pos 6) ∷ []
unfolding sums_through if_small coefs_of
multiplied = refl

-- ---- receivers without a sign

-- COMPUTE U = A - B, where A is at least B: the matrix alone shows that the difference isn't negative. U is at most A then,
-- and A at most U + 9.
positive_by_differences : behind (abu ∷ []) (worked (less (item 0) (item 1)) (target 2 how.Whole Trunc ∷ []) left_out)
    action.Done (cells (to (pos 0) (pos 9)) (to (pos 0) (pos 9)) any any any any any)
    (words3 none none none none none none none (pos 0) none none none none ∷ [])
    ≡ words3 (pos 0) (pos 0) (pos 0) (pos 9) (pos 9) (pos 9) (pos 9) (pos 0) (pos 9) (pos 9) (pos 0) (pos 9) ∷ []
unfolding sums_through if_small coefs_of
positive_by_differences = refl

-- Where A is at most B, U is B - A.
negative_by_differences : behind (abu ∷ []) (worked (less (item 0) (item 1)) (target 2 how.Whole Trunc ∷ []) left_out)
    action.Done (cells (to (pos 0) (pos 9)) (to (pos 0) (pos 9)) any any any any any)
    (words3 none none none none (pos 0) none none none none none none none ∷ [])
    ≡ words3 (pos 0) (pos 0) (pos 0) (pos 9) (pos 0) (pos 9) (pos 9) (pos 9) (pos 9) (pos 9) (pos 9) (pos 0) ∷ []
unfolding sums_through if_small coefs_of
negative_by_differences = refl

-- Where A and B are equal, and 2 to 5, U is 0; what is known of A alone leaves 0 to 3.
zero_by_differences : behind (abu ∷ []) (worked (less (item 0) (item 1)) (target 2 how.Whole Trunc ∷ []) left_out)
    action.Done (cells (to (pos 2) (pos 5)) (to (pos 2) (pos 5)) any any any any any)
    (words3 none none none none (pos 0) none none (pos 0) none none none none ∷ [])
    ≡ words3 (minus 2) (minus 2) (pos 0) (pos 5) (pos 0) (pos 5) (pos 5) (pos 0) (pos 5) (pos 0) (minus 2) (minus 2)
    ∷ []
unfolding sums_through if_small coefs_of
zero_by_differences = refl

-- MOVE C TO U where C is -9.5 to -2: U is -C or up to a whole less, and 2 to 9.
cut_and_absolute : behind (uc ∷ []) (act.move (sender.Item 3) (2 ∷ [])) action.Assign
    (cells any any any (to (minus 95) (minus 20)) any any any) (nothing ∷ [])
    ≡ words (minus 20) (pos 95) (pos 90) (pos 185) (minus 20) (minus 40) ∷ []
unfolding sums_through if_small coefs_of
cut_and_absolute = refl

-- ---- several receivers

-- COMPUTE A B = A + 1: B gets what A + 1 was before A changed, of which 2 to 5 is known.
taken_before : behind (ab ∷ [])
    (worked (added (item 0) one) (target 0 how.Whole Trunc ∷ target 1 how.Whole Trunc ∷ []) left_out) action.Done
    (cells (to (pos 1) (pos 4)) any any any any any any) (nothing ∷ [])
    ≡ words (minus 2) (minus 2) (pos 5) (pos 3) (pos 5) (pos 3) ∷ []
unfolding sums_through if_small coefs_of
taken_before = refl

-- COMPUTE B A = A + 1: A is written last, and both are equal then.
written_last : behind (ab ∷ [])
    (worked (added (item 0) one) (target 1 how.Whole Trunc ∷ target 0 how.Whole Trunc ∷ []) left_out) action.Done
    (cells (to (pos 1) (pos 4)) any any any any any any) (nothing ∷ [])
    ≡ words (minus 2) (minus 2) (pos 5) (pos 0) (pos 5) (pos 0) ∷ []
unfolding sums_through if_small coefs_of
written_last = refl

-- MOVE A TO X B, where X has A's bytes: B gets what A was.
sender_overwritten : behind (ab ∷ []) (act.move (sender.Item 0) (6 ∷ 1 ∷ [])) action.Assign
    (cells (to (pos 1) (pos 4)) any any any any any any) (nothing ∷ [])
    ≡ words none (minus 1) none none (pos 4) none ∷ []
unfolding sums_through if_small coefs_of
sender_overwritten = refl

-- ---- redefinitions

-- MOVE A TO V, which has B's bytes: V is A, and B is forgotten in the pack of A and B. A was above B, and so at least 3,
-- which stays known.
redefined : behind (ab ∷ av ∷ []) (act.move (sender.Item 0) (5 ∷ [])) action.Assign
    (cells (to (pos 1) (pos 4)) (to (pos 2) (pos 3)) any any any any any)
    (words none none none none none (minus 1) ∷ nothing ∷ [])
    ≡ words (minus 3) none (pos 4) none none none ∷ words (minus 1) (minus 1) (pos 4) (pos 0) (pos 4) (pos 0) ∷ []
unfolding sums_through if_small coefs_of
redefined = refl

-- The same in a pack of B and V.
redefined_in_pack : behind (bv ∷ []) (act.move (sender.Item 0) (5 ∷ [])) action.Assign
    (cells (to (pos 1) (pos 4)) (to (pos 2) (pos 3)) any any any any any) (nothing ∷ [])
    ≡ words none (minus 1) none none (pos 4) none ∷ []
unfolding sums_through if_small coefs_of
redefined_in_pack = refl

-- ---- size errors

-- ADD A TO V ON SIZE ERROR, where V is 95 to 99 and at most A + 93: V may fit and may fail. On this edge it has failed, so
-- that all stays that was known, of B too, which has its bytes.
fails_alone : behind (ab ∷ av ∷ []) (worked (alone (item 0)) (target 5 how.Plus Trunc ∷ []) (given no_stmts))
    action.Size (cells (to (pos 1) (pos 4)) (to (pos 95) (pos 99)) any any any (to (pos 95) (pos 99)) any)
    (nothing ∷ words none none none none none (pos 93) ∷ [])
    ≡ words (minus 1) (minus 95) (pos 4) (minus 91) (pos 99) (pos 98) ∷ words (minus 2) (minus 95) (pos 4) (minus 91) (pos 97) (pos 93)
    ∷ []
unfolding sums_through if_small coefs_of
fails_alone = refl

-- ADD A TO V U ON SIZE ERROR: each may fit and may fail, so that V and B are forgotten. That A is at least 2, which V showed,
-- stays.
may_fail_over : behind (ab ∷ av ∷ []) (worked (alone (item 0)) (target 5 how.Plus Trunc ∷ target 2 how.Plus Trunc ∷ []) (given no_stmts))
    action.Size (cells (to (pos 1) (pos 4)) (to (pos 95) (pos 99)) any any any (to (pos 95) (pos 99)) any)
    (nothing ∷ words none none none none none (pos 93) ∷ [])
    ≡ words (minus 1) none (pos 4) none none none ∷ words (minus 2) (minus 95) (pos 4) (minus 91) (pos 99) (pos 97)
    ∷ []
unfolding sums_through if_small coefs_of
may_fail_over = refl

-- ADD A TO A U ON SIZE ERROR, where A is 60 to 70 and can't fit: A stays, but counts as written to, and U gets its own
-- number and 60 to 70.
failed_before : behind (au ∷ [])
    (worked (alone (item 0)) (target 0 how.Plus Trunc ∷ target 2 how.Plus Trunc ∷ []) (given no_stmts)) action.Size
    (cells (to (pos 60) (pos 70)) any (to (pos 0) (pos 5)) any any any any) (nothing ∷ [])
    ≡ words (minus 60) (minus 60) (pos 70) (pos 10) (pos 75) (pos 15) ∷ []
unfolding sums_through if_small coefs_of
failed_before = refl

-- ---- quotients

-- DIVIDE A BY 4 GIVING B: a quotient that is exact until it is stored has no form.
divided : behind (ab ∷ []) (worked (quotient (item 0) four) (target 1 how.Whole Trunc ∷ []) left_out) action.Done
    (cells (to (pos 8) (pos 20)) any any any any any any) (nothing ∷ [])
    ≡ words (minus 8) (minus 2) (pos 20) (pos 18) (pos 5) (minus 3) ∷ []
unfolding sums_through if_small coefs_of
divided = refl

-- DIVIDE 4 INTO B, where B is A
divided_into : behind (ab ∷ []) (worked (alone four) (target 1 how.Under Trunc ∷ []) left_out) action.Done
    (cells (to (pos 8) (pos 20)) (to (pos 8) (pos 20)) any any any any any)
    (words none none none (pos 0) none (pos 0) ∷ [])
    ≡ words (minus 8) (minus 2) (pos 20) (pos 18) (pos 5) (minus 3) ∷ []
unfolding sums_through if_small coefs_of
divided_into = refl

-- DIVIDE A BY 4 GIVING B REMAINDER U: a remainder has no form. It is 0 to 3, less than the divisor.
remained : behind (ab ∷ au ∷ [])
    (arith (quotient (item 0) four) (target 1 how.Whole Trunc ∷ []) (Some 2) left_out no_stmts) action.Done
    (cells (to (pos 8) (pos 20)) any any any any any any) (nothing ∷ nothing ∷ [])
    ≡ words (minus 8) (minus 2) (pos 20) (pos 18) (pos 5) (minus 3)
    ∷ words (minus 8) (pos 0) (pos 20) (pos 20) (pos 3) (minus 5) ∷ []
unfolding sums_through if_small coefs_of
remained = refl

-- ---- loops

-- PERFORM VARYING A .. BY 2, augmented, where A is at most B
varied : behind (ab ∷ []) (vary (sender.Item 1) (sender.Number (numeral 0 (50 ∷ [])))) action.Done
    (cells (to (pos 1) (pos 4)) (to (pos 0) (pos 9)) any any any any any) (words none none none (pos 0) none none ∷ [])
    ≡ words (minus 3) (minus 1) (pos 6) (pos 2) (pos 9) (pos 6) ∷ []
unfolding sums_through if_small coefs_of
varied = refl

-- PERFORM VARYING A .. BY B: A - B is what A was.
varied_by_item : behind (ab ∷ []) (vary (sender.Item 1) (sender.Item 1)) action.Done
    (cells (to (pos 1) (pos 4)) (to (pos 0) (pos 9)) any any any any any) (nothing ∷ [])
    ≡ words (minus 1) (pos 0) (pos 13) (pos 4) (pos 9) (minus 1) ∷ []
unfolding sums_through if_small coefs_of
varied_by_item = refl

-- PERFORM VARYING A FROM B, set
varied_from : behind (ab ∷ []) (vary (sender.Item 1) (sender.Item 1)) action.Assign
    (cells (to (pos 1) (pos 4)) (to (pos 0) (pos 9)) any any any any any) (nothing ∷ [])
    ≡ words (pos 0) (pos 0) (pos 9) (pos 0) (pos 9) (pos 0) ∷ []
unfolding sums_through if_small coefs_of
varied_from = refl

-- PERFORM .. A TIMES: its counter is A,
count_set : behind (an ∷ []) (loop) action.SetCount (cells (to (pos 1) (pos 4)) any any any any any any) (nothing ∷ [])
    ≡ words (minus 1) (minus 1) (pos 4) (pos 0) (pos 4) (pos 0) ∷ []
unfolding sums_through if_small coefs_of
count_set = refl

-- goes down by 1, where it is at most A,
counted_down : behind (an ∷ []) (loop) action.Down (cells (to (pos 1) (pos 4)) any any any any any (to (pos 1) (pos 4)))
    (words none none none none none (pos 0) ∷ [])
    ≡ words (minus 1) (pos 0) (pos 4) (pos 4) (pos 3) (minus 1) ∷ []
unfolding sums_through if_small coefs_of
counted_down = refl

-- and is above 0 where turns are left: A is too.
turns_left : behind (an ∷ []) (loop) (action.True 0)
    (cells (to (pos 0) (pos 9)) any any any any any (to (pos 0) (pos 4))) (words none none none none none (pos 0) ∷ [])
    ≡ words (minus 1) (minus 1) (pos 9) (pos 8) (pos 4) (pos 0) ∷ []
unfolding sums_through if_small coefs_of
turns_left = refl

-- ---- tests

-- IF A <= B where it is false: B - A is at most -1.
greater : behind (ab ∷ []) (when (numbers (alone (item 0)) rel.AtMost (alone (item 1)))) (action.False 0)
    (cells (to (pos 0) (pos 9)) (to (pos 3) (pos 20)) any any any any any) (nothing ∷ [])
    ≡ words (minus 4) (minus 3) (pos 9) (pos 6) (pos 8) (minus 1) ∷ []
unfolding sums_through if_small coefs_of
greater = refl

-- IF A < B + C, where C has a decimal, no cell in the pack, and is 0 to 2.5, as a constant 0 to 3: A - B is at most 3.
less_than_finer : behind (ab ∷ []) (when (numbers (alone (item 0)) rel.Less (added (item 1) (item 3)))) (action.True 0)
    (cells (to (pos 0) (pos 9)) (to (pos 0) (pos 9)) any (to (pos 0) (pos 25)) any any any) (nothing ∷ [])
    ≡ words (pos 0) (pos 0) (pos 9) (pos 3) (pos 9) (pos 9) ∷ []
unfolding sums_through if_small coefs_of
less_than_finer = refl

-- IF A * 2 = B, where A is 0 to 10 and B 3 to 7: A is at least 2, since -3 / 2 rounded down is -2, and at most 3. Both
-- demands look at A as it was, so that B stays at most 7.
double_equal : behind (ab ∷ []) (when (numbers (product (item 0) two) rel.Equal (alone (item 1)))) (action.True 0)
    (cells (to (pos 0) (pos 10)) (to (pos 3) (pos 7)) any any any any any) (nothing ∷ [])
    ≡ words (minus 2) (minus 3) (pos 3) (pos 0) (pos 7) (pos 5) ∷ []
unfolding sums_through if_small coefs_of
double_equal = refl

-- IF 3 * A <= B - 10, where B is 0 to 5: 3A is at most -5, and A at most -2.
tripled_at_most : behind (ab ∷ [])
    (when (numbers (product three (item 0)) rel.AtMost (less (item 1) (literal 0 (49 ∷ 48 ∷ []))))) (action.True 0)
    (cells (to (minus 9) (pos 9)) (to (pos 0) (pos 5)) any any any any any) (nothing ∷ [])
    ≡ words (pos 9) (pos 0) (minus 2) (minus 2) (pos 5) (pos 14) ∷ []
unfolding sums_through if_small coefs_of
tripled_at_most = refl

-- IF A = B where it is false adds nothing to what was known.
differs : behind (ab ∷ []) (when (numbers (alone (item 0)) rel.Equal (alone (item 1)))) (action.False 0)
    (cells (to (pos 0) (pos 9)) (to (pos 0) (pos 9)) any any any any any) (words none none none (pos 0) none none ∷ [])
    ≡ words (pos 0) (pos 0) (pos 9) (pos 0) (pos 9) (pos 9) ∷ []
unfolding sums_through if_small coefs_of
differs = refl

-- IF A < B, where B is at most A: no run comes, and nothing is left in the pack of A and C either.
contradicted : behind (ab ∷ ac ∷ []) (when (numbers (alone (item 0)) rel.Less (alone (item 1)))) (action.True 0)
    (cells (to (pos 0) (pos 9)) (to (pos 0) (pos 9)) any any any any any)
    (words none none none none none (pos 0) ∷ nothing ∷ [])
    ≡ bottoms (ab ∷ ac ∷ [])
unfolding sums_through if_small coefs_of
contradicted = refl

-- ---- what is cleared

-- COMPUTE B ROUNDED = C, where C is at most B + 0.4: 99.4 is rounded to 99, which fits.
rounded_high : are_cleared kind.Size (bc ∷ []) (worked (alone (item 3)) (target 1 how.Whole Round ∷ []) left_out)
    action.Done (cells any (to (pos 0) (pos 99)) any (to (pos 0) (pos 999)) any any any)
    (words none none none none none (pos 4) ∷ [])
    ≡ true
unfolding sums_through if_small coefs_of
rounded_high = refl

-- 99.5 is rounded to 100.
rounded_too_high : are_cleared kind.Size (bc ∷ []) (worked (alone (item 3)) (target 1 how.Whole Round ∷ []) left_out)
    action.Done (cells any (to (pos 0) (pos 99)) any (to (pos 0) (pos 999)) any any any)
    (words none none none none none (pos 5) ∷ [])
    ≡ false
unfolding sums_through if_small coefs_of
rounded_too_high = refl

-- COMPUTE U = A / (B - A) where A is at most B - 1
divisor_apart : are_cleared kind.Zero (ab ∷ [])
    (worked (quotient (item 0) (group (less (item 1) (item 0)))) (target 2 how.Whole Trunc ∷ []) left_out) action.Done
    (cells (to (pos 0) (pos 9)) (to (pos 0) (pos 9)) any any any any any)
    (words none none none (minus 1) none none ∷ [])
    ≡ true
unfolding sums_through if_small coefs_of
divisor_apart = refl

-- and where A is at most B
divisor_at_zero : are_cleared kind.Zero (ab ∷ [])
    (worked (quotient (item 0) (group (less (item 1) (item 0)))) (target 2 how.Whole Trunc ∷ []) left_out) action.Done
    (cells (to (pos 0) (pos 9)) (to (pos 0) (pos 9)) any any any any any) (words none none none (pos 0) none none ∷ [])
    ≡ false
unfolding sums_through if_small coefs_of
divisor_at_zero = refl

-- SUBTRACT A FROM B: one pack shows that B - A is at most 5, and the other that it is at least -7.
ends_by_two_packs : are_cleared kind.Size (ab ∷ abu ∷ [])
    (worked (alone (item 0)) (target 1 how.Minus Trunc ∷ []) left_out) action.Done
    (cells (to (minus 99) (pos 99)) (to (minus 99) (pos 99)) any any any any any)
    (words none none none none none (pos 5) ∷ words3 none none none none (pos 7) none none none none none none none ∷ [])
    ≡ true
unfolding sums_through if_small coefs_of
ends_by_two_packs = refl

-- The first pack alone doesn't suffice.
one_end_shown : are_cleared kind.Size (ab ∷ []) (worked (alone (item 0)) (target 1 how.Minus Trunc ∷ []) left_out)
    action.Done (cells (to (minus 99) (pos 99)) (to (minus 99) (pos 99)) any any any any any)
    (words none none none none none (pos 5) ∷ [])
    ≡ false
unfolding sums_through if_small coefs_of
one_end_shown = refl
