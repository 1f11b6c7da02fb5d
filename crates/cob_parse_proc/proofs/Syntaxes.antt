-- What is printed, allowed and taken, for each part of a statement; d counts the statement itself.
use Rattle.std.proofs.Common.{◌≡◌, ℕ, ◌<◌, Bool, true, false, List, [], ◌∷◌, ◌++◌, refl, ap, ◌∙◌}
use Rattle.cob_tree.specs.declared.keyword.Keyword.{Keyword}
use Rattle.cob_tree.specs.Symbols.{Symbol, Key, Sign}
use Rattle.cob_tree.specs.Items.{Item, key}
use Rattle.cob_tree.specs.Cues.{Cue, is, Starts, Size, NotSize, AtEnd, NotAtEnd, Else, EndAdd, EndSubtract, EndMultiply, EndDivide, EndCompute, EndIf, EndEvaluate, EndRead}
use Rattle.cob_tree.specs.Cues as cue
use Rattle.cob_tree.specs.Stmt.{Sel, Stmt, MkStmt, Verb, move, Stmts, no_stmts, more_stmts, When}
use Rattle.cob_tree.specs.PrintStmt.{first_word, print_stmts, print_stmt, print_when}
use Rattle.cob_tree.specs.Shaped.{ShapedStmts, ShapedStmt, ShapedWhen}
use Rattle.reading.specs.Printing.{peek_on, on_mark}
use Rattle.reading.specs.Law.{Syntax}
use Rattle.reading.proofs.Starts.{Begins}
use Rattle.reading.proofs.Grows.{Grows}
use Rattle.cob_parse_verb.specs.declared.word.Begin.{Begin}
use Rattle.cob_parse_verb.specs.Procedure.{procedure, token_front}
use Rattle.cob_parse_verb.specs.Heads.{Head, GoodStarted, takes_head}
use Rattle.cob_parse_verb.specs.Syntaxes.{head_syntax, choices_syntax}
use Rattle.cob_parse_proc.specs.Bare.{list_takes, stmt_takes, when_takes}

abbrev pub stmts_syntax : ℕ → Syntax Item Cue Stmts
stmts_syntax d = record { Good = ShapedStmts; print = print_stmts d; takes = list_takes }

abbrev pub stmt_syntax : ℕ → Syntax Item Cue Stmt
stmt_syntax d = record { Good = ShapedStmt; print = print_stmt d; takes = stmt_takes }

abbrev pub when_syntax : ℕ → Syntax Item Cue When
when_syntax d = record { Good = ShapedWhen; print = print_when d; takes = when_takes }

-- what stands behind some words
abbrev pub behind_words : ℕ → List Keyword → List Item
behind_words d [] = []
behind_words d (k ∷ ks) = key d k ∷ behind_words d ks

abbrev pub led_syntax : ℕ → List Keyword → Syntax Item Cue Stmts
led_syntax d ks = record { Good = ShapedStmts; print = λ ss. behind_words d ks ++ print_stmts d ss; takes = list_takes }

-- ---- each statement begins with its word

word_begins : (v : Verb) (ts : List Sign) → on_mark procedure (is Starts) (peek_on procedure (token_front (Key (first_word v))) ts) ≡ true
word_begins (move from to) ts = refl
word_begins _ ts = refl

pub stmts_begin : (d : ℕ) → Begins procedure (is Starts) (stmts_syntax d)
stmts_begin d no_stmts text rest good spells = absurd good
stmts_begin d (more_stmts (MkStmt line v) ss) [] rest good spells = absurd spells
stmts_begin d (more_stmts (MkStmt line v) ss) (t ∷ text) rest good spells = ap (λ (y : Symbol). on_mark procedure (is Starts) (peek_on procedure (token_front y) (text ++ rest))) spells.0.symbol ∙ word_begins v (text ++ rest)

pub stmt_begins : (d : ℕ) → Begins procedure (is Starts) (stmt_syntax d)
stmt_begins d (MkStmt line v) [] rest good spells = absurd spells
stmt_begins d (MkStmt line v) (t ∷ text) rest good spells = ap (λ (y : Symbol). on_mark procedure (is Starts) (peek_on procedure (token_front y) (text ++ rest))) spells.0.symbol ∙ word_begins v (text ++ rest)

-- ---- what is known of heads and choices

-- what they never take
abbrev pub foreign : Cue → Bool
foreign Starts = true
foreign Size = true
foreign NotSize = true
foreign AtEnd = true
foreign NotAtEnd = true
foreign Else = true
foreign cue.Whens = true
foreign EndAdd = true
foreign EndSubtract = true
foreign EndMultiply = true
foreign EndDivide = true
foreign EndCompute = true
foreign EndIf = true
foreign EndEvaluate = true
foreign EndRead = true
foreign _ = false

pub record Known : Type 0 where
  pub head_never : (x : Begin × Head) (c : Cue) → GoodStarted x → foreign c ≡ true → takes_head x c ≡ false
  pub choices_never : (d : ℕ) (xs : List Sel) → (choices_syntax d).Good xs → (choices_syntax d).takes xs Starts ≡ false
  pub heads_grow : (d top : ℕ) → d < top → Grows procedure (head_syntax d) top
  pub choices_grow : (d top : ℕ) → d < top → Grows procedure (choices_syntax d) top
