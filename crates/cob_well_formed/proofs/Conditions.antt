-- Conditions as they are typed begin with a simple condition.
use Rattle.std.proofs.Common.{Bool, true, false, List, [], ◌∷◌, Option, Some, None, ◌||◌, if◌then◌else◌}
use Rattle.cob_tree.specs.declared.token.Rel.{Rel}
use Rattle.cob_tree.specs.declared.operand.Opnd.{Opnd}
use Rattle.cob_tree.specs.declared.operand.Opnd.TheVariants as opnd
use Rattle.cob_tree.specs.declared.operand.Ref.{Ref}
use Rattle.cob_tree.specs.Expr.{Expr}
use Rattle.cob_tree.specs.Cond.{Cond, MkCond, Conj, MkConj, Neg, MkNeg, Simple}
use Rattle.cob_tree.specs.Cond as cond
use Rattle.cob_tree.specs.Stmt.{Loop, times, until}
use Rattle.cob_program.specs.Logic.{Logic, Test, test}
use Rattle.cob_graph.specs.WellFormed.{Begins, IsWellFormedTurns}
use Rattle.cob_typed_exprs.specs.Scope.{Scope, is_there, item_named}
use Rattle.cob_typed_exprs.specs.Sums.{lone}
use Rattle.cob_typed_conds.specs.Conditions.{denied_if, any_or_one, all_or_one, Carry, Walked, unrelated, related, abbreviated_from, abbreviated_behind, value_alone, name_alone, expression_alone, named_condition, tested, walk_cond, walk_conj, walk_conjs, walk_neg, walk_negs, walk_simple}
use Rattle.cob_typed.specs.Statements.{turns_of}

begins_denied : (x : Bool) (l : Logic) → Begins l → Begins (denied_if x l)
begins_denied false l begins = begins
begins_denied true l begins = begins

begins_test : (x : Bool) (t : Test) → Begins (denied_if x (test t))
begins_test x t = begins_denied x (test t) tt

begins_any : (l : Logic) (ls : List Logic) → Begins l → Begins (any_or_one (l ∷ ls))
begins_any l [] begins = begins
begins_any l (x ∷ xs) begins = begins

begins_all : (l : Logic) (ls : List Logic) → Begins l → Begins (all_or_one (l ∷ ls))
begins_all l [] begins = begins
begins_all l (x ∷ xs) begins = begins

abbrev BeginsWalked : Walked → Type 0
BeginsWalked w = Begins w.logic.value

module _ (s : Scope) where
  begins_from : (denied : Bool) (k : Carry) (not_ : Bool) (r : Rel) (right : Expr) → BeginsWalked (abbreviated_from s denied k not_ r right)
  begins_from denied k not_ r right = at (denied || k.denied) where
    at : (x : Bool) → BeginsWalked (if x then unrelated s right else related s false k.subject not_ r right)
    at true = tt
    at false = begins_test not_ _

  begins_behind : (denied : Bool) (carry : Option Carry) (not_ : Bool) (r : Rel) (right : Expr) → BeginsWalked (abbreviated_behind s denied carry not_ r right)
  begins_behind denied None not_ r right = tt
  begins_behind denied (Some k) not_ r right = begins_from denied k not_ r right

  begins_value : (denied : Bool) (carry : Option Carry) (e : Expr) → BeginsWalked (value_alone s denied carry e)
  begins_value denied None e = tt
  begins_value denied (Some k) e = begins_from denied k k.not k.rel e

  begins_name : (denied : Bool) (carry : Option Carry) (e : Expr) (r : Ref) → BeginsWalked (name_alone s denied carry e r)
  begins_name denied None e r = tt
  begins_name denied (Some k) e r = at (is_there (item_named s r)) where
    at : (x : Bool) → BeginsWalked (if x then abbreviated_from s denied k k.not k.rel e else tested (named_condition s r))
    at true = begins_from denied k k.not k.rel e
    at false = tt

  begins_alone : (denied : Bool) (carry : Option Carry) (e : Expr) (o : Option Opnd) → BeginsWalked (expression_alone s denied carry e o)
  begins_alone denied carry e (Some (opnd.Ref r)) = begins_name denied carry e r
  begins_alone denied carry e (Some (opnd.Const c)) = begins_value denied carry e
  begins_alone denied carry e None = begins_value denied carry e

  mutual
    pub begins_cond : (c : Cond) → Begins (walk_cond s c).value
    begins_cond (MkCond c cs) =
        let first = walk_conj s None c in
        begins_any first.logic.value (walk_conjs s first.carry cs).logics.value (begins_conj None c)

    begins_conj : (carry : Option Carry) (c : Conj) → BeginsWalked (walk_conj s carry c)
    begins_conj carry (MkConj n ns) =
        let first = walk_neg s carry n in
        begins_all first.logic.value (walk_negs s first.carry ns).logics.value (begins_neg carry n)

    begins_neg : (carry : Option Carry) (n : Neg) → BeginsWalked (walk_neg s carry n)
    begins_neg carry (MkNeg denied simple) = begins_denied denied (walk_simple s denied carry simple).logic.value (begins_simple denied carry simple)

    begins_simple : (denied : Bool) (carry : Option Carry) (x : Simple) → BeginsWalked (walk_simple s denied carry x)
    begins_simple denied carry (cond.parenthesised c) = begins_cond c
    begins_simple denied carry (cond.relation left not_ r right) = begins_test not_ _
    begins_simple denied carry (cond.abbreviated not_ r right) = begins_behind denied carry not_ r right
    begins_simple denied carry (cond.numeric value not_) = begins_test not_ _
    begins_simple denied carry (cond.sign value not_ asked) = begins_test not_ _
    begins_simple denied carry (cond.alone e) = begins_alone denied carry e (lone e)

  pub whole_turns : (o : Option Loop) → IsWellFormedTurns (turns_of s o).value
  whole_turns None = tt
  whole_turns (Some (times o)) = tt
  whole_turns (Some (until at None c)) = begins_cond c
  whole_turns (Some (until at (Some v) c)) = begins_cond c
