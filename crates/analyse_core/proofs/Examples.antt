-- Packs of small programs, worked out.
use Rattle.std.specs.Prelude.{◌≡◌, ℕ, false, List, [], ◌∷◌, None, map, pos, neg_ℤ}
use Rattle.std.specs.List.{range_with_len}
use Rattle.std.proofs.Common.{refl}
use Rattle.cob_tree.specs.declared.form.Form.TheVariants as form
use Rattle.cob_tree.specs.declared.form.Usage.TheVariants as usage
use Rattle.cob_tree.specs.declared.token.Rel.TheVariants as rel
use Rattle.cob_data.specs.declared.layout.Item.{Item}
use Rattle.cob_data.specs.declared.layout.Sender.TheVariants as sender
use Rattle.dec_num.specs.declared.types.Mode.TheVariants as mode
use Rattle.cob_program.specs.declared.act.How.TheVariants as how
use Rattle.cob_program.specs.Sum.{Sum, MkSum, no_parts, more_parts, MkPart, no_factors, more_factors, MkFactor, item}
use Rattle.cob_program.specs.Logic.{numbers, member, Logic, test, any_of, more_logics, no_logics}
use Rattle.cob_program.specs.Act.{once, until, varying, no_stmts, left_out, Act, arith, if_, nothing, perform, stop, range, inline, Para, Program}
use Rattle.cob_graph.proofs.Examples.{item_of, numeral, atom_sum, stmt1, para, unnamed}
use Rattle.cob_runs.specs.declared.action.Cell.{Cell}
use Rattle.analyse_core.specs.Choice.{packs_of}
use Rattle.analyse_core.specs.PackThresholds.{thresholds_of_pack}

abbrev number : ℕ → Item
number offset = item_of offset 1 (form.Number 1 0 false usage.Display) None

abbrev of_item : ℕ → Sum
of_item place = MkSum (more_parts (MkPart false (more_factors (MkFactor false false (item place)) no_factors)) no_parts)

abbrev add_one : ℕ → Act
add_one place = arith (atom_sum (numeral (49 ∷ []) 0)) (record { item = place; how = how.Plus; mode = mode.Trunc } ∷ []) None left_out no_stmts

abbrev equal : ℕ → ℕ → Logic
equal a b = test (numbers (of_item a) rel.Equal (of_item b))

-- items A, B, C, D of one digit
abbrev with_items : List Para → Program
with_items paras = record {
  layout = record { items = number 0 ∷ number 1 ∷ number 2 ∷ number 3 ∷ []; flags = []; files = []; storage = 4 };
  paras = paras;
  statements = 9;
}

-- PERFORM P UNTIL A = B. STOP RUN. P. PERFORM Q. Q. ADD 1 TO D. IF A = C CONTINUE.
abbrev nested : Program
nested = with_items
    (unnamed (stmt1 1 (perform (range 1 1) (until false (equal 0 1))) (stmt1 2 stop no_stmts))
    ∷ para 80 (stmt1 3 (perform (range 2 2) once) no_stmts)
    ∷ para 81 (stmt1 4 (add_one 3) (stmt1 5 (if_ (equal 0 2) (stmt1 6 nothing no_stmts) no_stmts) no_stmts))
    ∷ [])

-- the loop with what it reaches, the first paragraph alone, none of P alone, and Q alone
its_packs : packs_of nested ≡ (1 ∷ 2 ∷ 3 ∷ 4 ∷ []) ∷ (1 ∷ 2 ∷ []) ∷ (1 ∷ 3 ∷ 4 ∷ []) ∷ []
its_packs = refl

-- ADD 1 TO A. ADD 1 TO B. twice, in two paragraphs: the second came before
abbrev again : Program
again = with_items
    (unnamed (stmt1 1 (add_one 1) (stmt1 2 (add_one 0) no_stmts))
    ∷ para 80 (stmt1 3 (add_one 0) (stmt1 4 (add_one 1) no_stmts))
    ∷ para 81 (stmt1 5 (add_one 2) no_stmts)
    ∷ [])

packs_once : packs_of again ≡ (1 ∷ 2 ∷ []) ∷ []
packs_once = refl

-- PERFORM VARYING B FROM A BY A UNTIL D IN-RANGE OR C > 0 CONTINUE.: the item that varies and the sign test's, but neither
-- where it begins, nor what it is raised by, nor the item of a condition-name
abbrev turning : Program
turning = with_items
    (unnamed (stmt1 1 (perform (inline (stmt1 2 nothing no_stmts))
    (varying false 1 (sender.Item 0) (sender.Item 0)
    (any_of (more_logics (test (member 3 [])) (more_logics (test (numbers (of_item 2) rel.Greater (atom_sum (numeral (48 ∷ []) 0)))) no_logics)))))
    no_stmts)
    ∷ [])

what_turns : packs_of turning ≡ (2 ∷ 3 ∷ []) ∷ []
what_turns = refl

-- ADD 1 TO I H G F E D C B A. of items A to I: the first 8 that are mentioned
abbrev nine : Program
nine = record {
  layout = record { items = map number (range_with_len 0 9); flags = []; files = []; storage = 9 };
  paras = unnamed (stmt1 1 (arith (atom_sum (numeral (49 ∷ []) 0)) (map (λ place. record { item = place; how = how.Plus; mode = mode.Trunc })
      (8 ∷ 7 ∷ 6 ∷ 5 ∷ 4 ∷ 3 ∷ 2 ∷ 1 ∷ 0 ∷ [])) None left_out no_stmts) no_stmts) ∷ [];
  statements = 1;
}

first_eight : packs_of nine ≡ (2 ∷ 3 ∷ 4 ∷ 5 ∷ 6 ∷ 7 ∷ 8 ∷ 9 ∷ []) ∷ []
first_eight = refl

-- ---- thresholds: of a cell of whole numbers, and one of hundredths

abbrev of_scale : ℕ → Cell
of_scale scale = record { item = None; digits = 5; scale = scale; signed = false; times = 1 }

in_hundredths :
    thresholds_of_pack (of_scale 0 ∷ of_scale 2 ∷ []) ((pos 0 ∷ pos 5 ∷ []) ∷ (neg_ℤ (pos 3) ∷ pos 7 ∷ []) ∷ []) (1 ∷ 2 ∷ [])
    ≡ neg_ℤ (pos 500) ∷ neg_ℤ (pos 7) ∷ neg_ℤ (pos 3) ∷ pos 0 ∷ pos 3 ∷ pos 7 ∷ pos 500 ∷ []
in_hundredths = refl
