-- What one function of the code types: parts of what statements are typed by.
use Rattle.std.specs.Prelude.{ℕ, List, ◌∷◌, Some}
use Rattle.cob_tree.specs.Stmt as tree
use Rattle.cob_program.specs.Act.{When, MkWhen, Para}
use Rattle.cob_typed_conds.specs.declared.selections.Looked.{Looked}
use Rattle.cob_typed_exprs.specs.Scope.{Scope}
use Rattle.cob_typed.specs.Statements.{Numbered, numbered, ◌>>>◌, typed_choices, typed_stmts}
use Rattle.cob_typed.specs.Typing.{typed_sentences, typed_paras, first_para}

module _ (s : Scope) where
  abbrev pub typed_when : ℕ → ℕ → Looked → tree.When → Numbered When
  typed_when line n subject (tree.MkWhen choices body) =
      typed_choices s line n subject choices >>> λ tests m. typed_stmts s m body >>> λ xs k. numbered (MkWhen tests xs) k

  -- a paragraph, and a whole program
  abbrev pub typed_para : ℕ → tree.Paragraph → Numbered Para
  typed_para n p = typed_sentences s n p.sentences >>> λ xs m. numbered (record { name = Some p.name; line = p.line; body = xs }) m

  abbrev pub all_from : ℕ → List tree.Stmts → List tree.Paragraph → Numbered (List Para)
  all_from n sentences paragraphs =
      typed_sentences s n sentences >>> λ xs m. typed_paras s m paragraphs >>> λ others k. numbered (first_para xs ∷ others) k
