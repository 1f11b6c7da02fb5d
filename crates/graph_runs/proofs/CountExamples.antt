-- Counters of small programs, worked out: which nodes stand in a loop, and what its counter is.
use Rattle.std.specs.Prelude.{◌≡◌, ℕ, zero, suc, true, false, List, [], ◌∷◌, map, Option, Some, None, ℤ, pos}
use Rattle.std.proofs.Common.{refl, arith as plain}
use Rattle.cob_data.specs.declared.layout.Sender.TheVariants as sender
use Rattle.cob_program.specs.Act.{Turns, once, times, no_stmts, perform, go, stop, range, inline, Program}
use Rattle.cob_runs.specs.declared.outcome.Outcome.TheVariants.{Ended}
use Rattle.cob_runs.specs.Files.{Choice}
use Rattle.cob_runs.specs.State.{World}
use Rattle.cob_runs.specs.Runs.{Contents, run}
use Rattle.cob_graph.specs.Laid.{MkLaid, no_laid, more_laid, showing, going, ending, performing, own_list, copy, LaidParas, no_laid_paras, more_laid_paras}
use Rattle.cob_graph.specs.WellFormed.{IsWellFormed}
use Rattle.cob_graph.proofs.Examples.{numeral, stmt1, say, para, unnamed, of_paras, twice, laid_twice, twice_is_laid, with_copies, is_graph}
use Rattle.cob_edge_parts.specs.Meaning.{count_in}
use Rattle.graph_runs.specs.Counts.{NumbersArePositive, IsPositiveIn, ComesToCount}
use Rattle.graph_runs.proofs.Inside.{is_inside}
use Rattle.graph_runs.proofs.Counted.{counts_are_positive}

abbrev count_after : Program → ℕ → ℕ → Option ℤ
count_after p statement n = count_in (run p [] [] [] n).world.counts statement

abbrev so_often : ℕ → Turns
so_often digit = times (sender.Number (numeral (digit ∷ []) 0))

-- ---- PERFORM B 2 TIMES. STOP RUN. B. DISPLAY 'x'.

-- it is set, tested; its body and its counting down stand in it
its_loop : map (is_inside 1 laid_twice) (1 ∷ 2 ∷ 3 ∷ 4 ∷ 5 ∷ 6 ∷ 7 ∷ []) ≡ false ∷ false ∷ true ∷ true ∷ false ∷ false ∷ false ∷ []
its_loop = refl

not_set : count_after twice 1 0 ≡ None
not_set = refl

is_set : count_after twice 1 1 ≡ Some (pos 2)
is_set = refl

-- where the last step of all that count down begins
above_0 : count_after twice 1 6 ≡ Some (pos 1)
above_0 = refl

at_its_end : count_after twice 1 7 ≡ Some (pos 0)
at_its_end = refl

twice_is_whole : IsWellFormed twice
twice_is_whole = (tt, ((refl, (tt, tt), (refl, tt, tt)), ((refl, tt, tt), tt)))

numbers_of_twice : NumbersArePositive twice
numbers_of_twice zero a e = absurd (cc)
numbers_of_twice (suc n) a e = omega plain

-- The law holds of it, on all files and however long it runs.
above_0_always : (contents : Contents) (first : List ℕ) (choices : List Choice) (w : World) →
    ComesToCount twice (with_copies twice laid_twice) contents first choices 1 w → IsPositiveIn w.counts 1
above_0_always contents first choices w comes =
    counts_are_positive twice (with_copies twice laid_twice) twice_is_whole numbers_of_twice
    (is_graph twice laid_twice twice_is_laid) contents first choices 1 w comes

-- ---- A. PERFORM 2 TIMES GO TO B END-PERFORM. STOP RUN. B. DISPLAY 'b'.

abbrev leaving : Program
leaving = of_paras (unnamed no_stmts
    ∷ para 65 (stmt1 1 (perform (inline (stmt1 2 (go 2) no_stmts)) (so_often 50)) (stmt1 3 stop no_stmts))
    ∷ para 66 (say 4 98 no_stmts) ∷ [])

abbrev laid_leaving : LaidParas
laid_leaving = more_laid_paras no_laid (more_laid_paras
    (more_laid (MkLaid 1 (performing (own_list (more_laid (MkLaid 2 (going 2)) no_laid)) (so_often 50))) (more_laid (MkLaid 3 ending) no_laid))
    (more_laid_paras (more_laid (MkLaid 4 showing) no_laid) no_laid_paras))

-- the GO TO stands in the loop, and B doesn't
it_is_left : map (is_inside 1 laid_leaving) (1 ∷ 2 ∷ 3 ∷ 4 ∷ 5 ∷ 6 ∷ 7 ∷ []) ≡ false ∷ false ∷ true ∷ true ∷ false ∷ false ∷ false ∷ []
it_is_left = refl

-- what the counter was stays, and nothing counts it down
left_as_it_was : count_after leaving 1 4 ≡ Some (pos 2)
left_as_it_was = refl

it_ends : (run leaving [] [] [] 4).outcome ≡ Ended
it_ends = refl

-- ---- A. PERFORM B. PERFORM B. STOP RUN. B. PERFORM 1 TIMES DISPLAY 'x' END-PERFORM.

abbrev laid_loop : LaidParas
laid_loop = more_laid_paras (more_laid (MkLaid 4 (performing (own_list (more_laid (MkLaid 5 showing) no_laid)) (so_often 49))) no_laid) no_laid_paras

abbrev shared : Program
shared = of_paras (unnamed no_stmts
    ∷ para 65 (stmt1 1 (perform (range 2 2) once) (stmt1 2 (perform (range 2 2) once) (stmt1 3 stop no_stmts)))
    ∷ para 66 (stmt1 4 (perform (inline (say 5 120 no_stmts)) (so_often 49)) no_stmts) ∷ [])

abbrev laid_shared : LaidParas
laid_shared = more_laid_paras no_laid (more_laid_paras
    (more_laid (MkLaid 1 (performing (copy 2 laid_loop) once))
    (more_laid (MkLaid 2 (performing (copy 2 laid_loop) once)) (more_laid (MkLaid 3 ending) no_laid))) laid_loop)

-- each copy has its own nodes in the loop, with one counter
three_copies : map (is_inside 4 laid_shared) (1 ∷ 2 ∷ 3 ∷ 4 ∷ 5 ∷ 6 ∷ 7 ∷ 8 ∷ 9 ∷ 10 ∷ 11 ∷ 12 ∷ 13 ∷ 14 ∷ 15 ∷ 16 ∷ [])
    ≡ false ∷ false ∷ false ∷ true ∷ true ∷ false ∷ false ∷ false ∷ true ∷ true ∷ false ∷ false ∷ false ∷ true ∷ true ∷ false ∷ []
three_copies = refl

-- set, tested, shown, counted down, tested; the second PERFORM, set again
counted_once : count_after shared 4 5 ≡ Some (pos 0)
counted_once = refl

set_again : count_after shared 4 8 ≡ Some (pos 1)
set_again = refl
