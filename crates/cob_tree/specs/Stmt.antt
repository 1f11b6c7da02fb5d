-- Statements and whole programs as plain data, without where they lie in memory.
use Rattle.std.specs.Prelude.{ℕ, Bool, List, [], ◌∷◌, Option, None, Some}
use Rattle.cob_tree.specs.declared.operand.Opnd.{Opnd}
use Rattle.cob_tree.specs.declared.operand.Recv.{Recv}
use Rattle.cob_tree.specs.declared.operand.Ref.{Ref}
use Rattle.cob_tree.specs.declared.stmt.Way.{Way}
use Rattle.cob_tree.specs.declared.stmt.Subject.{Subject}
use Rattle.cob_tree.specs.declared.stmt.OpenPhrase.{OpenPhrase}
use Rattle.cob_tree.specs.declared.stmt.TestPoint.{TestPoint}
use Rattle.cob_tree.specs.declared.stmt.Varying.{Varying}
use Rattle.cob_tree.specs.declared.front.Front.{Front}
use Rattle.cob_tree.specs.declared.tree.EndProgram.{EndProgram}
use Rattle.cob_tree.specs.Expr.{Expr}
use Rattle.cob_tree.specs.Cond.{Cond}

pub data Sel : Type 0 where
  any : Sel
  range : Expr → Expr → Sel
  choice : Cond → Sel

pub data Loop : Type 0 where
  times : Opnd → Loop
  until : Option TestPoint → Option Varying → Cond → Loop

mutual
  pub data Stmt : Type 0 where
    MkStmt : ℕ → Verb → Stmt

  pub data Verb : Type 0 where
    move : Opnd → List Ref → Verb
    set : List ℕ → Verb
    display : List Opnd → Verb
    add_to : List Opnd → List Recv → Tail → Verb
    add_giving : List Opnd → Option Opnd → List Recv → Tail → Verb
    subtract_from : List Opnd → List Recv → Tail → Verb
    subtract_giving : List Opnd → Opnd → List Recv → Tail → Verb
    multiply_by : Opnd → List Recv → Tail → Verb
    multiply_giving : Opnd → Opnd → List Recv → Tail → Verb
    divide_into : Opnd → List Recv → Tail → Verb
    divide_giving : Opnd → Way → Opnd → List Recv → Option Ref → Tail → Verb
    compute : List Recv → Expr → Tail → Verb
    if_ : Cond → Stmts → Phrase → Bool → Verb
    evaluate : Subject → Whens → Phrase → Bool → Verb
    perform_range : List ℕ → Option (List ℕ) → Option Loop → Verb
    perform_inline : Option Loop → Stmts → Verb
    go : List ℕ → Verb
    exit : Verb
    continue : Verb
    stop_run : Verb
    open_ : List OpenPhrase → Verb
    close : List (List ℕ) → Verb
    read : List ℕ → Option Ref → Phrase → Phrase → Bool → Verb
    write : Ref → Option Opnd → Bool → Verb

  pub data Stmts : Type 0 where
    no_stmts : Stmts
    more_stmts : Stmt → Stmts → Stmts

  -- a list of statements behind words of its own, where these words stand
  pub data Phrase : Type 0 where
    left_out : Phrase
    given : Stmts → Phrase

  -- SIZE ERROR, NOT SIZE ERROR, and the END- word
  pub data Tail : Type 0 where
    MkTail : Phrase → Phrase → Bool → Tail

  pub data Whens : Type 0 where
    no_whens : Whens
    more_whens : When → Whens → Whens

  pub data When : Type 0 where
    MkWhen : List Sel → Stmts → When

abbrev pub stmts_of : List Stmt → Stmts
stmts_of [] = no_stmts
stmts_of (s ∷ ss) = more_stmts s (stmts_of ss)

abbrev pub phrase_of : Option Stmts → Phrase
phrase_of None = left_out
phrase_of (Some ss) = given ss

abbrev pub whens_of : List When → Whens
whens_of [] = no_whens
whens_of (w ∷ ws) = more_whens w (whens_of ws)

-- ---- whole programs

pub record Paragraph : Type 0 where
  pub line : ℕ
  pub name : List ℕ
  pub sentences : List Stmts

pub record Tree : Type 0 where
  pub front : Front
  pub sentences : List Stmts
  pub paragraphs : List Paragraph
  pub end : Option EndProgram
