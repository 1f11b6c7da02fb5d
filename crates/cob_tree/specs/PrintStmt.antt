-- The tokens of statements and of whole programs.
use Rattle.std.specs.Prelude.{ℕ, suc, List, [], ◌∷◌, ◌++◌}
use Rattle.cob_tree.specs.declared.keyword.Keyword.{Keyword}
use Rattle.cob_tree.specs.declared.keyword.Keyword.TheVariants as word
use Rattle.cob_tree.specs.declared.token.Rel.TheVariants as rel
use Rattle.cob_tree.specs.declared.operand.Opnd.{Opnd}
use Rattle.cob_tree.specs.declared.operand.Recv.{Recv}
use Rattle.cob_tree.specs.declared.operand.Ref.{Ref}
use Rattle.cob_tree.specs.declared.stmt.Way.{Way}
use Rattle.cob_tree.specs.declared.stmt.Way.TheVariants as way
use Rattle.cob_tree.specs.declared.stmt.Subject.{Subject}
use Rattle.cob_tree.specs.declared.stmt.Subject.TheVariants as subject
use Rattle.cob_tree.specs.declared.stmt.Mode.{Mode}
use Rattle.cob_tree.specs.declared.stmt.Mode.TheVariants as mode
use Rattle.cob_tree.specs.declared.stmt.OpenPhrase.{OpenPhrase}
use Rattle.cob_tree.specs.declared.stmt.TestPoint.{TestPoint}
use Rattle.cob_tree.specs.declared.stmt.TestPoint.TheVariants as test_point
use Rattle.cob_tree.specs.declared.stmt.Varying.{Varying}
use Rattle.cob_tree.specs.declared.tree.EndProgram.{EndProgram}
use Rattle.cob_tree.specs.Symbols.{Key, Name}
use Rattle.cob_tree.specs.Items.{Item, item_on, key, keys, name, stop, word_if, behind, each}
use Rattle.cob_tree.specs.Stmt.{Sel, any, range, choice, Loop, times, until, Stmt, MkStmt, Verb, move, set, display, add_to, add_giving, subtract_from, subtract_giving, multiply_by, multiply_giving, divide_into, divide_giving, compute, if_, evaluate, perform_range, perform_inline, go, exit, continue, stop_run, open_, close, read, write, Stmts, no_stmts, more_stmts, Phrase, left_out, given, Tail, MkTail, Whens, no_whens, more_whens, When, MkWhen, Paragraph, Tree}
use Rattle.cob_tree.specs.PrintExpr.{print_ref, print_opnd, print_recv, print_expr, print_cond, print_relation}
use Rattle.cob_tree.specs.PrintFront.{print_front, heading, print_if, print_name_and_stop}

-- ---- parts of statements; d counts the statement itself

abbrev pub print_opnds : ℕ → List Opnd → List Item
print_opnds d os = each (print_opnd d) os

abbrev pub print_recvs : ℕ → List Recv → List Item
print_recvs d rs = each (print_recv d) rs

abbrev pub print_refs : ℕ → List Ref → List Item
print_refs d rs = each (print_ref d) rs

abbrev pub print_names : ℕ → List (List ℕ) → List Item
print_names d [] = []
print_names d (text ∷ texts) = name d text ∷ print_names d texts

abbrev pub way_word : Way → Keyword
way_word way.Into = word.Into
way_word way.By = word.By

abbrev pub print_subject : ℕ → Subject → List Item
print_subject d subject.True = key d word.True ∷ []
print_subject d (subject.Ref r) = print_ref d r

abbrev pub print_sel : ℕ → Sel → List Item
print_sel d any = key d word.Any ∷ []
print_sel d (range low high) = print_expr d low ++ key d word.Thru ∷ print_expr d high
print_sel d (choice c) = print_cond d c

abbrev pub print_choice : ℕ → Sel → List Item
print_choice d s = key d word.When ∷ print_sel d s

abbrev pub mode_word : Mode → Keyword
mode_word mode.Input = word.Input
mode_word mode.Output = word.Output

abbrev pub print_opens : ℕ → OpenPhrase → List Item
print_opens d o = key d (mode_word o.mode) ∷ print_names d o.files

abbrev pub test_point_word : TestPoint → Keyword
test_point_word test_point.Before = word.Before
test_point_word test_point.After = word.After

abbrev pub print_test_point : ℕ → TestPoint → List Item
print_test_point d p = key d (test_point_word p) ∷ []

abbrev pub print_varying : ℕ → Varying → List Item
print_varying d v =
    print_ref d v.item ++ key d word.From ∷ (print_opnd d v.from ++ key d word.By ∷ print_opnd d v.by)

abbrev pub print_loop : ℕ → Loop → List Item
print_loop d (times o) = print_opnd d o ++ key d word.Times ∷ []
print_loop d (until test varying c) =
    behind d (word.Test ∷ []) (print_test_point d) test ++ (behind d (word.Varying ∷ []) (print_varying d) varying
    ++ key d word.Until ∷ print_cond d c)

abbrev pub print_name_only : ℕ → List ℕ → List Item
print_name_only d text = name d text ∷ []

-- ---- statements

abbrev pub first_word : Verb → Keyword
first_word (move from to) = word.Move
first_word (set text) = word.Set
first_word (display operands) = word.Display
first_word (add_to addends to tail) = word.Add
first_word (add_giving addends to giving tail) = word.Add
first_word (subtract_from less from tail) = word.Subtract
first_word (subtract_giving less from giving tail) = word.Subtract
first_word (multiply_by factor by tail) = word.Multiply
first_word (multiply_giving factor by giving tail) = word.Multiply
first_word (divide_into divisor into tail) = word.Divide
first_word (divide_giving first way second giving remainder tail) = word.Divide
first_word (compute to value tail) = word.Compute
first_word (if_ test ss other ended) = word.If
first_word (evaluate subject whens other ended) = word.Evaluate
first_word (perform_range first thru turns) = word.Perform
first_word (perform_inline turns body) = word.Perform
first_word (go text) = word.Go
first_word exit = word.Exit
first_word continue = word.Continue
first_word stop_run = word.Stop
first_word (open_ files) = word.Open
first_word (close names) = word.Close
first_word (read file into end not_end ended) = word.Read
first_word (write rec from ended) = word.Write

abbrev pub size_words : List Keyword
size_words = word.Size ∷ word.Error ∷ []

abbrev pub not_size_words : List Keyword
not_size_words = word.Not ∷ word.Size ∷ word.Error ∷ []

abbrev mutual
  -- Statements as they are printed where so many are open around.
  pub print_stmts : ℕ → Stmts → List Item
  print_stmts d no_stmts = []
  print_stmts d (more_stmts s ss) = print_stmt d s ++ print_stmts d ss

  pub print_stmt : ℕ → Stmt → List Item
  print_stmt d (MkStmt line v) = item_on (suc d) line (Key (first_word v)) ∷ print_verb (suc d) v

  -- A verb as it is printed behind its first word; d counts the statement itself.
  pub print_verb : ℕ → Verb → List Item
  print_verb d (move from to) = print_opnd d from ++ key d word.To ∷ print_refs d to
  print_verb d (set text) = name d text ∷ keys d (word.To ∷ word.True ∷ [])
  print_verb d (display operands) = print_opnds d operands
  print_verb d (add_to addends to tail) =
      print_opnds d addends ++ key d word.To ∷ (print_recvs d to ++ print_tail d word.EndAdd tail)
  print_verb d (add_giving addends to giving tail) =
      print_opnds d addends ++ (behind d (word.To ∷ []) (print_opnd d) to ++ key d word.Giving ∷ (print_recvs d giving ++ print_tail d word.EndAdd tail))
  print_verb d (subtract_from less from tail) =
      print_opnds d less ++ key d word.From ∷ (print_recvs d from ++ print_tail d word.EndSubtract tail)
  print_verb d (subtract_giving less from giving tail) =
      print_opnds d less ++ key d word.From ∷ (print_opnd d from ++ key d word.Giving ∷ (print_recvs d giving ++ print_tail d word.EndSubtract tail))
  print_verb d (multiply_by factor by tail) =
      print_opnd d factor ++ key d word.By ∷ (print_recvs d by ++ print_tail d word.EndMultiply tail)
  print_verb d (multiply_giving factor by giving tail) =
      print_opnd d factor ++ key d word.By ∷ (print_opnd d by ++ key d word.Giving ∷ (print_recvs d giving ++ print_tail d word.EndMultiply tail))
  print_verb d (divide_into divisor into tail) =
      print_opnd d divisor ++ key d word.Into ∷ (print_recvs d into ++ print_tail d word.EndDivide tail)
  print_verb d (divide_giving first way second giving remainder tail) =
      print_opnd d first ++ key d (way_word way) ∷ (print_opnd d second ++ key d word.Giving
      ∷ (print_recvs d giving ++ (behind d (word.Remainder ∷ []) (print_ref d) remainder ++ print_tail d word.EndDivide tail)))
  print_verb d (compute to value tail) =
      print_recvs d to ++ print_relation d rel.Equal ∷ (print_expr d value ++ print_tail d word.EndCompute tail)
  print_verb d (if_ test ss other ended) =
      print_cond d test ++ (print_stmts d ss ++ (print_phrase d (word.Else ∷ []) other ++ word_if d ended word.EndIf))
  print_verb d (evaluate subject whens other ended) =
      print_subject d subject ++ (print_whens d whens ++ (print_phrase d (word.When ∷ word.Other ∷ []) other ++ word_if d ended word.EndEvaluate))
  print_verb d (perform_range first thru turns) =
      name d first ∷ (behind d (word.Thru ∷ []) (print_name_only d) thru ++ print_if (print_loop d) turns)
  print_verb d (perform_inline turns body) =
      print_if (print_loop d) turns ++ (print_stmts d body ++ key d word.EndPerform ∷ [])
  print_verb d (go text) = name d text ∷ []
  print_verb d exit = []
  print_verb d continue = []
  print_verb d stop_run = key d word.Run ∷ []
  print_verb d (open_ files) = each (print_opens d) files
  print_verb d (close names) = print_names d names
  print_verb d (read file into end not_end ended) =
      name d file ∷ (behind d (word.Into ∷ []) (print_ref d) into ++ (print_phrase d (word.End ∷ []) end
      ++ (print_phrase d (word.Not ∷ word.End ∷ []) not_end ++ word_if d ended word.EndRead)))
  print_verb d (write rec from ended) =
      print_ref d rec ++ (behind d (word.From ∷ []) (print_opnd d) from ++ word_if d ended word.EndWrite)

  pub print_phrase : ℕ → List Keyword → Phrase → List Item
  print_phrase d words left_out = []
  print_phrase d words (given ss) = keys d words ++ print_stmts d ss

  pub print_tail : ℕ → Keyword → Tail → List Item
  print_tail d end (MkTail size not_size ended) =
      print_phrase d size_words size ++ (print_phrase d not_size_words not_size ++ word_if d ended end)

  pub print_whens : ℕ → Whens → List Item
  print_whens d no_whens = []
  print_whens d (more_whens w ws) = print_when d w ++ print_whens d ws

  pub print_when : ℕ → When → List Item
  print_when d (MkWhen choices body) = each (print_choice d) choices ++ print_stmts d body

-- ---- whole programs

abbrev pub print_sentence : Stmts → List Item
print_sentence ss = print_stmts 0 ss ++ stop 0 ∷ []

abbrev pub print_paragraph : Paragraph → List Item
print_paragraph p = item_on 0 p.line (Name p.name) ∷ stop 0 ∷ each print_sentence p.sentences

abbrev pub print_end : EndProgram → List Item
print_end e = item_on 0 e.line (Key word.EndProgram) ∷ print_name_and_stop e.name

abbrev pub print_tree : Tree → List Item
print_tree t =
    print_front t.front ++ (heading (word.Procedure ∷ word.Division ∷ []) ++ (each print_sentence t.sentences
    ++ (each print_paragraph t.paragraphs ++ print_if print_end t.end)))
