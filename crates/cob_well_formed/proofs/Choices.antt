-- What stands behind WHEN.
use Rattle.std.proofs.Common.{ℕ, suc, Bool, true, false, cond, List, [], ◌∷◌, ◌++◌, Option, Some, None, IfSome}
use Rattle.std.specs.List.{AllByRecursion}
use Rattle.cob_tree.specs.declared.operand.Opnd.{Opnd}
use Rattle.cob_tree.specs.declared.operand.Opnd.TheVariants as opnd
use Rattle.cob_tree.specs.Items.{each, key}
use Rattle.cob_tree.specs.Expr.{Expr, MkExpr, Term, MkTerm, Fact, MkFact, Primary}
use Rattle.cob_tree.specs.Expr as expr
use Rattle.cob_tree.specs.Cond.{Cond, MkCond, no_conjs, MkConj, no_negs, MkNeg}
use Rattle.cob_tree.specs.Cond as cond_
use Rattle.cob_tree.specs.Stmt.{Sel, any, range, choice}
use Rattle.cob_tree.specs.PrintExpr.{print_opnd, print_expr, print_term, print_terms, print_fact, print_facts, print_primary, close_mark, print_cond}
use Rattle.cob_tree.specs.PrintStmt.{print_sel, print_choice}
use Rattle.cob_tree.specs.declared.keyword.Keyword.TheVariants as word
use Rattle.cob_data.specs.Entries.{sender_of}
use Rattle.cob_calc.specs.Comparing.{IsShortEnd, CanTest}
use Rattle.cob_typed_conds.specs.declared.selections.Looked.{Looked}
use Rattle.cob_typed_conds.specs.declared.selections.Looked.TheVariants as looked
use Rattle.cob_typed_exprs.specs.Judged.{each_of}
use Rattle.cob_typed_exprs.specs.Scope.{Scope}
use Rattle.cob_typed_exprs.specs.Sums.{operand, none_added, none_multiplied, lone, lone_term, lone_fact, lone_primary}
use Rattle.cob_typed_conds.specs.Selections.{value_of, value_test, Value, plain_value, denied_value, no_value, value_in, choice_of_item, selection}
use Rattle.cob_well_formed.specs.Numerals.{AreShort}
use Rattle.cob_well_formed.specs.Layouts.{HasWellFormedFlags}
use Rattle.cob_well_formed.proofs.ShortValues.{IsShortConst, short_const, short_left, short_right}
use Rattle.cob_well_formed.proofs.Forms.{short_sender}
use Rattle.cob_well_formed.proofs.Flags.{sound_end}
use Rattle.cob_well_formed.proofs.Keeping.{IsKept}
use Rattle.cob_well_formed.proofs.Decisions.{Able, able_cond}

-- ---- the operand that an expression is

-- the numeral of the operand is short
abbrev IsShortOpnd : Opnd → Type 0
IsShortOpnd (opnd.Ref r) = Unit {0}
IsShortOpnd (opnd.Const c) = IsShortConst c

short_opnd : (d : ℕ) (o : Opnd) → AreShort (print_opnd d o) → IsShortOpnd o
short_opnd d (opnd.Ref r) short = tt
short_opnd d (opnd.Const c) short = short_const d c short

short_if : (x : Bool) (o : Option Opnd) → IfSome o IsShortOpnd → IfSome (cond x o None) IsShortOpnd
short_if true o short = short
short_if false o short = tt

mutual
  short_lone : (d : ℕ) (e : Expr) → AreShort (print_expr d e) → IfSome (lone e) IsShortOpnd
  short_lone d (MkExpr t ts) short =
      short_if (none_added ts) (lone_term t) (short_term d t (short_left (print_term d t) (print_terms d ts) short))

  short_term : (d : ℕ) (t : Term) → AreShort (print_term d t) → IfSome (lone_term t) IsShortOpnd
  short_term d (MkTerm f fs) short =
      short_if (none_multiplied fs) (lone_fact f) (short_fact d f (short_left (print_fact d f) (print_facts d fs) short))

  short_fact : (d : ℕ) (f : Fact) → AreShort (print_fact d f) → IfSome (lone_fact f) IsShortOpnd
  short_fact d (MkFact None p) short = short_primary d p short
  short_fact d (MkFact (Some sign_) p) short = tt

  short_primary : (d : ℕ) (p : Primary) → AreShort (print_primary d p) → IfSome (lone_primary p) IsShortOpnd
  short_primary d (expr.operand o) short = short_opnd d o short
  short_primary d (expr.group e) short =
      short_lone (suc d) e (short_left (print_expr (suc d) e) (close_mark (suc d) ∷ []) short.1)

-- ---- values

abbrev IsShortValue : ℕ → Value → Type 0
IsShortValue d (plain_value e) = AreShort (print_expr d e)
IsShortValue d (denied_value e) = Unit {0}
IsShortValue d no_value = Unit {0}

short_value : (d : ℕ) (c : Cond) → AreShort (print_cond d c) → IsShortValue d (value_in c)
short_value d (MkCond (MkConj (MkNeg false (cond_.alone e)) no_negs) no_conjs) short =
    short_left (print_expr d e) [] (short_left (print_expr d e ++ []) [] short)
short_value d (MkCond (MkConj (MkNeg true (cond_.alone e)) no_negs) no_conjs) short = tt
short_value d _ short = tt

module _ (s : Scope) (flags : HasWellFormedFlags s.layout) where
  operand_end : (o : Opnd) → IsShortOpnd o → IsShortEnd (operand s o).value
  operand_end (opnd.Ref r) short = tt
  operand_end (opnd.Const c) short = sound_end (sender_of c) (short_sender c short)

  value_end : (e : Expr) (o : Option Opnd) → IfSome o IsShortOpnd → IsShortEnd (value_of s e o).value
  value_end e None short = tt
  value_end e (Some o) short = operand_end o short

  able_value : (place : ℕ) (c : Cond) (d : ℕ) (v : Value) → IsShortValue d v → IsKept (choice_of_item s place c v).broken →
      Able s flags (choice_of_item s place c v).value
  able_value place c d (plain_value e) short is = at (lone e) (short_lone d e short) where
    at : (o : Option Opnd) → IfSome o IsShortOpnd → CanTest s.layout (value_test s place e o).value
    at None few = tt
    at (Some o) few = ((operand_end o few, operand_end o few), tt)
  able_value place c d (denied_value e) short is = tt
  able_value place c d no_value short is = able_cond s flags c is.0

  able_choice : (d : ℕ) (subject : Looked) (x : Sel) → AreShort (print_sel d x) → IsKept (selection s subject x).broken →
      Able s flags (selection s subject x).value
  able_choice d looked.Truth any short is = tt
  able_choice d looked.Truth (range low high) short is = tt
  able_choice d looked.Truth (choice c) short is = able_cond s flags c is
  able_choice d (looked.Item place) any short is = tt
  able_choice d (looked.Item place) (range low high) short is =
      let first = short_lone d low (short_left (print_expr d low) (key d word.Thru ∷ print_expr d high) short) in
      let second = short_lone d high (short_right (print_expr d low) (key d word.Thru ∷ print_expr d high) short).1 in
      ((value_end low (lone low) first, value_end high (lone high) second), tt)
  able_choice d (looked.Item place) (choice c) short is = able_value place c d (value_in c) (short_value d c short) is

  pub able_choices : (d : ℕ) (subject : Looked) (xs : List Sel) → AreShort (each (print_choice d) xs) →
      IsKept (each_of (selection s subject) xs).broken →
      AllByRecursion (Able s flags) (each_of (selection s subject) xs).value
  able_choices d subject [] short is = tt
  able_choices d subject (x ∷ xs) short is =
      let here = short_left (print_choice d x) (each (print_choice d) xs) short in
      (able_choice d subject x here.1 is.0, able_choices d subject xs (short_right (print_choice d x) (each (print_choice d) xs) short) is.1)
