-- Programs read with less and with more room, and where there is too little.
use Rattle.std.proofs.Common.{ℕ, ◌≤◌, Bool}
use Rattle.cob_tree.specs.Symbols.{Sign}
use Rattle.cob_tree.specs.Stmt.{Stmts}
use Rattle.reading.specs.Readers.{branch, seq, closed}
use Rattle.reading.specs.Printing.{begins}
use Rattle.reading.specs.Law.{Agrees}
use Rattle.reading.proofs.Wider.{agree_same, agree_seen, agree_seq, agree_branch, agree_many, agree_closed}
use Rattle.cob_parse_expr.specs.LexemeClasses.{name_symbol, by_symbol, of, is, the, on_its_line, stop_symbol}
use Rattle.cob_parse_expr.specs.LexemeClasses as tokens
use Rattle.cob_parse_data.specs.Reading.{back, front}
use Rattle.cob_parse_proc.specs.Bare.{list_takes}
use Rattle.cob_parse_proc.specs.Reading.{may_go, stmts_at}
use Rattle.cob_parse_proc.specs.Program.{starts, sentence_at, sentences_at, make_paragraph, behind_name, paragraph_at, paragraphs_at, ending_at, before_at, body_at, make_tree, tree_at}
use Rattle.cob_parse_proc.proofs.StmtAgree.{Rooms, statements_agree}

module _ (R : Rooms) (room wide : ℕ) (le : room ≤ wide) where
  abbrev goes : Stmts → Sign → Bool
  goes ss = may_go (list_takes ss)

  sentence_agree : Agrees (sentence_at room) (sentence_at wide)
  sentence_agree = agree_seen front (closed (stmts_at room) (of stop_symbol) goes) (closed (stmts_at wide) (of stop_symbol) goes) (agree_closed (stmts_at room) (stmts_at wide) (of stop_symbol) goes (statements_agree R room wide le))

  sentences_agree : Agrees (sentences_at room) (sentences_at wide)
  sentences_agree = agree_many (begins by_symbol starts) (sentence_at room) (sentence_at wide) sentence_agree

  behind_agree : Agrees (behind_name room) (behind_name wide)
  behind_agree = agree_seen back (branch (of stop_symbol) (λ x. sentences_at room)) (branch (of stop_symbol) (λ x. sentences_at wide)) (agree_branch (of stop_symbol) (λ x. sentences_at room) (λ x. sentences_at wide) (λ x. sentences_agree))

  paragraph_agree : Agrees (paragraph_at room) (paragraph_at wide)
  paragraph_agree = agree_seen make_paragraph (branch (on_its_line name_symbol) (λ x. behind_name room)) (branch (on_its_line name_symbol) (λ x. behind_name wide)) (agree_branch (on_its_line name_symbol) (λ x. behind_name room) (λ x. behind_name wide) (λ x. behind_agree))

  body_agree : Agrees (body_at room) (body_at wide)
  body_agree = agree_seq (seq (sentences_at room) (paragraphs_at room)) (seq (sentences_at wide) (paragraphs_at wide)) ending_at ending_at
      (agree_seq (sentences_at room) (sentences_at wide) (paragraphs_at room) (paragraphs_at wide) sentences_agree (agree_many (tokens.here name_symbol) (paragraph_at room) (paragraph_at wide) paragraph_agree))
      (agree_same ending_at)

  pub tree_agree : Agrees (tree_at room) (tree_at wide)
  tree_agree = agree_seen make_tree (seq before_at (body_at room)) (seq before_at (body_at wide)) (agree_seq before_at before_at (body_at room) (body_at wide) (agree_same before_at) body_agree)
