-- What contracts see of statements: each type's layer, with what its children are seen as in their place.
use Rattle.std.specs.Prelude.{map, Option, Vec}
use Rattle.std.specs.Option.{option_map}
use Rattle.std.specs.declared.alloc.Global.{Global}
use Rattle.cob_tree.specs.declared.stmt.Sel as declared_sel
use Rattle.cob_tree.specs.declared.stmt.Sel.TheVariants as sel
use Rattle.cob_tree.specs.declared.stmt.Loop as declared_loop
use Rattle.cob_tree.specs.declared.stmt.Loop.TheVariants as loop
use Rattle.cob_tree.specs.declared.stmt.Stmt as declared_stmt
use Rattle.cob_tree.specs.declared.stmt.Verb as declared_verb
use Rattle.cob_tree.specs.declared.stmt.Tail as declared_tail
use Rattle.cob_tree.specs.declared.stmt.When as declared_when
use Rattle.cob_tree.specs.declared.stmt.Verb.TheOpen as layer
use Rattle.cob_tree.specs.declared.stmt.Verb.TheFolds.{fold-Stmt, fold-Verb, fold-Tail, fold-When}
use Rattle.cob_tree.specs.declared.tree.Tree as declared_tree
use Rattle.cob_tree.specs.declared.tree.Paragraph as declared_paragraph
use Rattle.cob_tree.specs.declared.tree.Sentence as declared_sentence
use Rattle.cob_tree.specs.ExprView.{plain_expr}
use Rattle.cob_tree.specs.CondView.{plain_cond}
use Rattle.cob_tree.specs.Stmt.{Sel, any, range, choice, Loop, times, until, Stmt, MkStmt, Verb, move, set, display, add_to, add_giving, subtract_from, subtract_giving, multiply_by, multiply_giving, divide_into, divide_giving, compute, if_, evaluate, perform_range, perform_inline, go, exit, continue, stop_run, open_, close, read, write, Stmts, stmts_of, Phrase, phrase_of, Tail, MkTail, whens_of, When, MkWhen, Paragraph, Tree}

abbrev pub plain_sel : declared_sel.Sel → Sel
plain_sel sel.Any = any
plain_sel (sel.Range low high) = range (plain_expr low) (plain_expr high)
plain_sel (sel.Cond c) = choice (plain_cond c)

abbrev pub plain_loop : declared_loop.Loop → Loop
plain_loop (loop.Times n) = times n
plain_loop (loop.Until test varying c) = until test varying (plain_cond c)

abbrev list_of : Vec Stmt Global → Stmts
list_of v = stmts_of v.items

abbrev phrase : Option (Vec Stmt Global) → Phrase
phrase o = phrase_of (option_map list_of o)

abbrev verb_step : layer.Verb-F Verb Stmt Tail When → Verb
verb_step (layer.Move from to) = move from to
verb_step (layer.Set name) = set name
verb_step (layer.Display items) = display items
verb_step (layer.AddTo addends to tail) = add_to addends to tail
verb_step (layer.AddGiving addends to giving tail) = add_giving addends to giving tail
verb_step (layer.SubtractFrom less from tail) = subtract_from less from tail
verb_step (layer.SubtractGiving less from giving tail) = subtract_giving less from giving tail
verb_step (layer.MultiplyBy factor by tail) = multiply_by factor by tail
verb_step (layer.MultiplyGiving factor by giving tail) = multiply_giving factor by giving tail
verb_step (layer.DivideInto divisor into tail) = divide_into divisor into tail
verb_step (layer.DivideGiving first way second giving remainder tail) = divide_giving first way second giving remainder tail
verb_step (layer.Compute to value tail) = compute to (plain_expr value) tail
verb_step (layer.If test then_ other ended) = if_ (plain_cond test) (list_of then_) (phrase other) ended
verb_step (layer.Evaluate subject whens other ended) = evaluate subject (whens_of whens.items) (phrase other) ended
verb_step (layer.PerformRange first thru turns) = perform_range first thru (option_map plain_loop turns)
verb_step (layer.PerformInline turns body) = perform_inline (option_map plain_loop turns) (list_of body)
verb_step (layer.Go name) = go name
verb_step layer.Exit = exit
verb_step layer.Continue = continue
verb_step layer.StopRun = stop_run
verb_step (layer.Open files) = open_ files
verb_step (layer.Close names) = close names
verb_step (layer.Read file into end not_end ended) = read file into (phrase end) (phrase not_end) ended
verb_step (layer.Write rec from ended) = write rec from ended

abbrev stmt_step : layer.Stmt-F Verb Stmt Tail When → Stmt
stmt_step s = MkStmt s.line s.verb

abbrev tail_step : layer.Tail-F Verb Stmt Tail When → Tail
tail_step t = MkTail (phrase t.size) (phrase t.not_size) t.ended

abbrev when_step : layer.When-F Verb Stmt Tail When → When
when_step w = MkWhen (map plain_sel w.choices) (list_of w.body)

abbrev pub plain_stmt : declared_stmt.Stmt → Stmt
plain_stmt = fold-Stmt Verb Stmt Tail When verb_step stmt_step tail_step when_step

abbrev pub plain_verb : declared_verb.Verb → Verb
plain_verb = fold-Verb Verb Stmt Tail When verb_step stmt_step tail_step when_step

abbrev pub plain_tail : declared_tail.Tail → Tail
plain_tail = fold-Tail Verb Stmt Tail When verb_step stmt_step tail_step when_step

abbrev pub plain_when : declared_when.When → When
plain_when = fold-When Verb Stmt Tail When verb_step stmt_step tail_step when_step

abbrev pub plain_sentence : declared_sentence.Sentence → Stmts
plain_sentence s = stmts_of (map plain_stmt s.statements)

abbrev pub plain_paragraph : declared_paragraph.Paragraph → Paragraph
plain_paragraph p = record { line = p.line; name = p.name; sentences = map plain_sentence p.sentences }

abbrev pub plain_tree : declared_tree.Tree → Tree
plain_tree t = record {
  front = t.front;
  sentences = map plain_sentence t.sentences;
  paragraphs = map plain_paragraph t.paragraphs;
  end = t.end;
}
