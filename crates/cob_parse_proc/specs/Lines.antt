-- Programs without the lines that they hold.
use Rattle.std.specs.Prelude.{map}
use Rattle.std.specs.Option.{option_map}
use Rattle.cob_tree.specs.declared.tree.EndProgram.{EndProgram}
use Rattle.cob_tree.specs.Stmt.{Stmt, MkStmt, Verb, add_to, add_giving, subtract_from, subtract_giving, multiply_by, multiply_giving, divide_into, divide_giving, compute, if_, evaluate, perform_inline, read, Stmts, no_stmts, more_stmts, Phrase, left_out, given, Tail, MkTail, Whens, no_whens, more_whens, When, MkWhen, Paragraph, Tree}
use Rattle.cob_parse_data.specs.Lines.{without_lines}

abbrev mutual
  pub stmts_without : Stmts → Stmts
  stmts_without no_stmts = no_stmts
  stmts_without (more_stmts s ss) = more_stmts (stmt_without s) (stmts_without ss)

  pub stmt_without : Stmt → Stmt
  stmt_without (MkStmt line v) = MkStmt 0 (verb_without v)

  pub phrase_without : Phrase → Phrase
  phrase_without left_out = left_out
  phrase_without (given ss) = given (stmts_without ss)

  pub tail_without : Tail → Tail
  tail_without (MkTail size not_size ended) = MkTail (phrase_without size) (phrase_without not_size) ended

  pub whens_without : Whens → Whens
  whens_without no_whens = no_whens
  whens_without (more_whens w ws) = more_whens (when_without w) (whens_without ws)

  pub when_without : When → When
  when_without (MkWhen choices body) = MkWhen choices (stmts_without body)

  pub verb_without : Verb → Verb
  verb_without (add_to addends to tail) = add_to addends to (tail_without tail)
  verb_without (add_giving addends to giving tail) = add_giving addends to giving (tail_without tail)
  verb_without (subtract_from less from tail) = subtract_from less from (tail_without tail)
  verb_without (subtract_giving less from giving tail) = subtract_giving less from giving (tail_without tail)
  verb_without (multiply_by factor by tail) = multiply_by factor by (tail_without tail)
  verb_without (multiply_giving factor by giving tail) = multiply_giving factor by giving (tail_without tail)
  verb_without (divide_into divisor into tail) = divide_into divisor into (tail_without tail)
  verb_without (divide_giving first way second giving remainder tail) = divide_giving first way second giving remainder (tail_without tail)
  verb_without (compute to value tail) = compute to value (tail_without tail)
  verb_without (if_ test ss other ended) = if_ test (stmts_without ss) (phrase_without other) ended
  verb_without (evaluate subject whens other ended) = evaluate subject (whens_without whens) (phrase_without other) ended
  verb_without (perform_inline turns body) = perform_inline turns (stmts_without body)
  verb_without (read file into end not_end ended) = read file into (phrase_without end) (phrase_without not_end) ended
  verb_without v = v

abbrev pub paragraph_without : Paragraph → Paragraph
paragraph_without p = record { line = 0; name = p.name; sentences = map stmts_without p.sentences }

abbrev pub end_without : EndProgram → EndProgram
end_without e = record { line = 0; name = e.name }

abbrev pub tree_without : Tree → Tree
tree_without t = record { front = without_lines t.front; sentences = map stmts_without t.sentences; paragraphs = map paragraph_without t.paragraphs; end = option_map end_without t.end }
