-- Conditions as plain data, without where they lie in memory.
use Rattle.std.specs.Prelude.{Bool, List, [], ◌∷◌}
use Rattle.cob_tree.specs.declared.token.Rel.{Rel}
use Rattle.cob_tree.specs.declared.cond.SignTest.{SignTest}
use Rattle.cob_tree.specs.Expr.{Expr}

mutual
  pub data Cond : Type 0 where
    MkCond : Conj → Conjs → Cond

  -- Conjunctions behind OR, one after the other.
  pub data Conjs : Type 0 where
    no_conjs : Conjs
    more_conjs : Conj → Conjs → Conjs

  pub data Conj : Type 0 where
    MkConj : Neg → Negs → Conj

  -- Conditions behind AND, one after the other.
  pub data Negs : Type 0 where
    no_negs : Negs
    more_negs : Neg → Negs → Negs

  pub data Neg : Type 0 where
    MkNeg : Bool → Simple → Neg

  pub data Simple : Type 0 where
    parenthesised : Cond → Simple
    relation : Expr → Bool → Rel → Expr → Simple
    abbreviated : Bool → Rel → Expr → Simple
    numeric : Expr → Bool → Simple
    sign : Expr → Bool → SignTest → Simple
    alone : Expr → Simple

abbrev pub conjs_of : List Conj → Conjs
conjs_of [] = no_conjs
conjs_of (x ∷ xs) = more_conjs x (conjs_of xs)

abbrev pub negs_of : List Neg → Negs
negs_of [] = no_negs
negs_of (x ∷ xs) = more_negs x (negs_of xs)
