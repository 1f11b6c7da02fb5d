-- Arithmetic expressions as plain data, without where they lie in memory.
use Rattle.std.specs.Prelude.{List, [], ◌∷◌, Option}
use Rattle.cob_tree.specs.declared.operand.Opnd.{Opnd}
use Rattle.cob_tree.specs.declared.expr.Sign.{Sign}
use Rattle.cob_tree.specs.declared.expr.Scaling.{Scaling}

mutual
  pub data Expr : Type 0 where
    MkExpr : Term → Terms → Expr

  -- added or subtracted, one behind the other
  pub data Terms : Type 0 where
    no_terms : Terms
    more_terms : Sign → Term → Terms → Terms

  pub data Term : Type 0 where
    MkTerm : Fact → Facts → Term

  -- multiplied or divided by, one behind the other
  pub data Facts : Type 0 where
    no_facts : Facts
    more_facts : Scaling → Fact → Facts → Facts

  pub data Fact : Type 0 where
    MkFact : Option Sign → Primary → Fact

  pub data Primary : Type 0 where
    operand : Opnd → Primary
    group : Expr → Primary

abbrev pub terms_of : List (Sign × Term) → Terms
terms_of [] = no_terms
terms_of (x ∷ xs) = more_terms x.0 x.1 (terms_of xs)

abbrev pub facts_of : List (Scaling × Fact) → Facts
facts_of [] = no_facts
facts_of (x ∷ xs) = more_facts x.0 x.1 (facts_of xs)
