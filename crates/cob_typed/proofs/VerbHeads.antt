-- What a verb is before its lists, by its kind: with each list as the code has it at hand.
use Rattle.std.proofs.Common.{◌≡◌, ℕ, Bool, List, Option, Vec, Result, IfOk, OnOk, sym, ap, subst, ◌∙◌}
use Rattle.std.specs.Option.{option_map}
use Rattle.std.specs.declared.alloc.Global.{Global}
use Rattle.cob_tree.specs.declared.operand.Opnd.{Opnd}
use Rattle.cob_tree.specs.declared.operand.Recv.{Recv}
use Rattle.cob_tree.specs.declared.operand.Ref.{Ref}
use Rattle.cob_tree.specs.declared.stmt.Way.{Way}
use Rattle.cob_tree.specs.declared.stmt.Subject.{Subject}
use Rattle.cob_tree.specs.declared.stmt.OpenPhrase.{OpenPhrase}
use Rattle.cob_tree.specs.declared.stmt.Loop.{Loop}
use Rattle.cob_tree.specs.declared.stmt.Stmt.{Stmt}
use Rattle.cob_tree.specs.declared.stmt.When.{When}
use Rattle.cob_tree.specs.declared.stmt.Tail.{Tail}
use Rattle.cob_tree.specs.declared.expr.Expr.{Expr}
use Rattle.cob_tree.specs.declared.cond.Cond.{Cond}
use Rattle.cob_tree.specs.declared.stmt.Verb as declared_verb
use Rattle.cob_tree.specs.declared.stmt.Verb.TheVariants as variant
use Rattle.cob_tree.specs.declared.stmt.Verb.TheVariants.{rolls-Move, rolls-Set, rolls-Display, rolls-AddTo, rolls-AddGiving, rolls-SubtractFrom, rolls-SubtractGiving, rolls-MultiplyBy, rolls-MultiplyGiving, rolls-DivideInto, rolls-DivideGiving, rolls-Compute, rolls-If, rolls-Evaluate, rolls-PerformRange, rolls-PerformInline, rolls-Go, rolls-Open, rolls-Close, rolls-Read, rolls-Write}
use Rattle.cob_tree.specs.declared.stmt.Verb.TheOpen as layer
use Rattle.cob_tree.specs.declared.stmt.Verb.TheFolds.{fold-roll-Verb}
use Rattle.cob_tree.specs.ExprView.{plain_expr}
use Rattle.cob_tree.specs.CondView.{plain_cond}
use Rattle.cob_tree.specs.Stmt as tree
use Rattle.cob_tree.specs.StmtView.{plain_loop, plain_verb}
use Rattle.cob_typed_exprs.specs.declared.finding.Finding.{Finding}
use Rattle.cob_typed_exprs.specs.Judged.{Judged, noted, seen_as}
use Rattle.cob_typed_exprs.specs.Scope.{Scope}
use Rattle.cob_typed_conds.specs.Conditions.{walk_cond}
use Rattle.cob_typed_conds.specs.Selections.{looked_at}
use Rattle.cob_typed_verbs.specs.Arithmetic.{add_to, add_giving, subtract_from, subtract_giving, multiply_by, multiply_giving, divide_into, divide_giving, compute}
use Rattle.cob_typed_verbs.specs.Verbs.{move_act, set_act, show_act, open_act, close_act, read_parts, write_act}
use Rattle.cob_typed.specs.Statements.{turns_of, range_act, go_act}
use Rattle.cob_typed.specs.declared.heads.Head as declared_head
use Rattle.cob_typed.specs.Heads.{Head, done, worked, tested, looked, turned, reads_of, head, plain_head}

-- a result that holds what a verb is, and what was noted of it
pub told_value : {E : Type 0} (s : Scope) (x : tree.Verb) (j : Judged Head) (made : Result declared_head.Head E) →
    head s x ≡ j
    → IfOk made (λ h. plain_head h ≡ j.value) → IfOk made (λ h. plain_head h ≡ (head s x).value)
told_value s x j made is told = subst (λ (k : Judged Head). IfOk made (λ h. plain_head h ≡ k.value)) (sym is) told

pub told_noted : {A E : Type 0} (s : Scope) (x : tree.Verb) (j : Judged Head) (r : Result A E) (line : ℕ) (old new :
    List Finding) → head s x ≡ j
    → OnOk r (new ≡ noted line old j.broken) → OnOk r (new ≡ noted line old (head s x).broken)
told_noted s x j r line old new is told = subst (λ (k : Judged Head). OnOk r (new ≡ noted line old k.broken)) (sym is)
    told

module _ (s : Scope) (v : declared_verb.Verb) where
  pub move_head : (from : Opnd) (to : List Ref) (to_ : List Ref) → v ≡ variant.Move from to → to_ ≡ to → head s
      (plain_verb v) ≡ seen_as done (move_act s from to_)
  move_head from to to_ is to_is =
      ap (λ x. head s (plain_verb x)) (is ∙ sym (rolls-Move from to)) ∙ ap (head s) (fold-roll-Verb _ _ _ _ _ _ _ _
      (layer.Move from to))
      ∙ ap (λ y. seen_as done (move_act s from y)) (sym to_is)

  pub set_head : (name : List ℕ) → v ≡ variant.Set name → head s (plain_verb v) ≡ seen_as done (set_act s name)
  set_head name is =
      ap (λ x. head s (plain_verb x)) (is ∙ sym (rolls-Set name)) ∙ ap (head s) (fold-roll-Verb _ _ _ _ _ _ _ _
      (layer.Set name))

  pub display_head : (operands : List Opnd) (operands_ : List Opnd) → v ≡ variant.Display operands → operands_ ≡
      operands → head s (plain_verb v) ≡ seen_as done (show_act s operands_)
  display_head operands operands_ is operands_is =
      ap (λ x. head s (plain_verb x)) (is ∙ sym (rolls-Display operands)) ∙ ap (head s) (fold-roll-Verb _ _ _ _ _ _ _
      _ (layer.Display operands))
      ∙ ap (λ y. seen_as done (show_act s y)) (sym operands_is)

  pub add_to_head : (addends : List Opnd) (addends_ : List Opnd) (to : List Recv) (to_ : List Recv) (tail : Tail) → v
      ≡ variant.AddTo addends to tail → addends_ ≡ addends → to_ ≡ to → head s (plain_verb v) ≡ seen_as worked (add_to
      s addends_ to_)
  add_to_head addends addends_ to to_ tail is addends_is to_is =
      ap (λ x. head s (plain_verb x)) (is ∙ sym (rolls-AddTo addends to tail)) ∙ ap (head s) (fold-roll-Verb _ _ _ _ _
      _ _ _ (layer.AddTo addends to tail))
      ∙ ap (λ y. seen_as worked (add_to s y to)) (sym addends_is)
      ∙ ap (λ y. seen_as worked (add_to s addends_ y)) (sym to_is)

  pub add_giving_head : (addends : List Opnd) (addends_ : List Opnd) (to : Option Opnd) (to_ : Option Opnd) (giving :
      List Recv) (giving_ : List Recv) (tail : Tail) → v ≡ variant.AddGiving addends to giving tail → addends_ ≡
      addends → to_ ≡ to → giving_ ≡ giving → head s (plain_verb v) ≡ seen_as worked (add_giving s addends_ to_
      giving_)
  add_giving_head addends addends_ to to_ giving giving_ tail is addends_is to_is giving_is =
      ap (λ x. head s (plain_verb x)) (is ∙ sym (rolls-AddGiving addends to giving tail)) ∙ ap (head s)
      (fold-roll-Verb _ _ _ _ _ _ _ _ (layer.AddGiving addends to giving tail))
      ∙ ap (λ y. seen_as worked (add_giving s y to giving)) (sym addends_is)
      ∙ ap (λ y. seen_as worked (add_giving s addends_ y giving)) (sym to_is)
      ∙ ap (λ y. seen_as worked (add_giving s addends_ to_ y)) (sym giving_is)

  pub subtract_from_head : (less : List Opnd) (less_ : List Opnd) (from : List Recv) (from_ : List Recv) (tail : Tail)
      → v ≡ variant.SubtractFrom less from tail → less_ ≡ less → from_ ≡ from → head s (plain_verb v) ≡ seen_as worked
      (subtract_from s less_ from_)
  subtract_from_head less less_ from from_ tail is less_is from_is =
      ap (λ x. head s (plain_verb x)) (is ∙ sym (rolls-SubtractFrom less from tail)) ∙ ap (head s) (fold-roll-Verb _ _
      _ _ _ _ _ _ (layer.SubtractFrom less from tail))
      ∙ ap (λ y. seen_as worked (subtract_from s y from)) (sym less_is)
      ∙ ap (λ y. seen_as worked (subtract_from s less_ y)) (sym from_is)

  pub subtract_giving_head : (less : List Opnd) (less_ : List Opnd) (from : Opnd) (giving : List Recv) (giving_ : List
      Recv) (tail : Tail) → v ≡ variant.SubtractGiving less from giving tail → less_ ≡ less → giving_ ≡ giving → head
      s (plain_verb v) ≡ seen_as worked (subtract_giving s less_ from giving_)
  subtract_giving_head less less_ from giving giving_ tail is less_is giving_is =
      ap (λ x. head s (plain_verb x)) (is ∙ sym (rolls-SubtractGiving less from giving tail)) ∙ ap (head s)
      (fold-roll-Verb _ _ _ _ _ _ _ _ (layer.SubtractGiving less from giving tail))
      ∙ ap (λ y. seen_as worked (subtract_giving s y from giving)) (sym less_is)
      ∙ ap (λ y. seen_as worked (subtract_giving s less_ from y)) (sym giving_is)

  pub multiply_by_head : (factor : Opnd) (by : List Recv) (by_ : List Recv) (tail : Tail) → v ≡ variant.MultiplyBy
      factor by tail → by_ ≡ by → head s (plain_verb v) ≡ seen_as worked (multiply_by s factor by_)
  multiply_by_head factor by by_ tail is by_is =
      ap (λ x. head s (plain_verb x)) (is ∙ sym (rolls-MultiplyBy factor by tail)) ∙ ap (head s) (fold-roll-Verb _ _ _
      _ _ _ _ _ (layer.MultiplyBy factor by tail))
      ∙ ap (λ y. seen_as worked (multiply_by s factor y)) (sym by_is)

  pub multiply_giving_head : (factor : Opnd) (by : Opnd) (giving : List Recv) (giving_ : List Recv) (tail : Tail) → v
      ≡ variant.MultiplyGiving factor by giving tail → giving_ ≡ giving → head s (plain_verb v) ≡ seen_as worked
      (multiply_giving s factor by giving_)
  multiply_giving_head factor by giving giving_ tail is giving_is =
      ap (λ x. head s (plain_verb x)) (is ∙ sym (rolls-MultiplyGiving factor by giving tail)) ∙ ap (head s)
      (fold-roll-Verb _ _ _ _ _ _ _ _ (layer.MultiplyGiving factor by giving tail))
      ∙ ap (λ y. seen_as worked (multiply_giving s factor by y)) (sym giving_is)

  pub divide_into_head : (divisor : Opnd) (into : List Recv) (into_ : List Recv) (tail : Tail) → v ≡
      variant.DivideInto divisor into tail → into_ ≡ into → head s (plain_verb v) ≡ seen_as worked (divide_into s
      divisor into_)
  divide_into_head divisor into into_ tail is into_is =
      ap (λ x. head s (plain_verb x)) (is ∙ sym (rolls-DivideInto divisor into tail)) ∙ ap (head s) (fold-roll-Verb _
      _ _ _ _ _ _ _ (layer.DivideInto divisor into tail))
      ∙ ap (λ y. seen_as worked (divide_into s divisor y)) (sym into_is)

  pub divide_giving_head : (first : Opnd) (way : Way) (second : Opnd) (giving : List Recv) (giving_ : List Recv)
      (remainder : Option Ref) (remainder_ : Option Ref) (tail : Tail) → v ≡ variant.DivideGiving first way second
      giving remainder tail → giving_ ≡ giving → remainder_ ≡ remainder → head s (plain_verb v) ≡ seen_as worked
      (divide_giving s first way second giving_ remainder_)
  divide_giving_head first way second giving giving_ remainder remainder_ tail is giving_is remainder_is =
      ap (λ x. head s (plain_verb x)) (is ∙ sym (rolls-DivideGiving first way second giving remainder tail)) ∙ ap
      (head s) (fold-roll-Verb _ _ _ _ _ _ _ _ (layer.DivideGiving first way second giving remainder tail))
      ∙ ap (λ y. seen_as worked (divide_giving s first way second y remainder)) (sym giving_is)
      ∙ ap (λ y. seen_as worked (divide_giving s first way second giving_ y)) (sym remainder_is)

  pub compute_head : (to : List Recv) (to_ : List Recv) (value : Expr) (tail : Tail) → v ≡ variant.Compute to value
      tail → to_ ≡ to → head s (plain_verb v) ≡ seen_as worked (compute s to_ (plain_expr value))
  compute_head to to_ value tail is to_is =
      ap (λ x. head s (plain_verb x)) (is ∙ sym (rolls-Compute to value tail)) ∙ ap (head s) (fold-roll-Verb _ _ _ _ _
      _ _ _ (layer.Compute to value tail))
      ∙ ap (λ y. seen_as worked (compute s y (plain_expr value))) (sym to_is)

  pub if_head : (test : Cond) (yes_ : Vec Stmt Global) (other : Option (Vec Stmt Global)) (ended : Bool) → v ≡
      variant.If test yes_ other ended → head s (plain_verb v) ≡ seen_as tested (walk_cond s (plain_cond test))
  if_head test yes_ other ended is =
      ap (λ x. head s (plain_verb x)) (is ∙ sym (rolls-If test yes_ other ended)) ∙ ap (head s) (fold-roll-Verb _ _ _
      _ _ _ _ _ (layer.If test yes_ other ended))

  pub evaluate_head : (subject : Subject) (whens : Vec When Global) (other : Option (Vec Stmt Global)) (ended : Bool)
      → v ≡ variant.Evaluate subject whens other ended → head s (plain_verb v) ≡ seen_as looked (looked_at s subject)
  evaluate_head subject whens other ended is =
      ap (λ x. head s (plain_verb x)) (is ∙ sym (rolls-Evaluate subject whens other ended)) ∙ ap (head s)
      (fold-roll-Verb _ _ _ _ _ _ _ _ (layer.Evaluate subject whens other ended))

  pub perform_range_head : (first : List ℕ) (thru : Option (List ℕ)) (thru_ : Option (List ℕ)) (turns : Option Loop)
      (turns_ : Option tree.Loop) → v ≡ variant.PerformRange first thru turns → thru_ ≡ thru → turns_ ≡ option_map
      plain_loop turns → head s (plain_verb v) ≡ seen_as done (range_act s first thru_ turns_)
  perform_range_head first thru thru_ turns turns_ is thru_is turns_is =
      ap (λ x. head s (plain_verb x)) (is ∙ sym (rolls-PerformRange first thru turns)) ∙ ap (head s) (fold-roll-Verb _
      _ _ _ _ _ _ _ (layer.PerformRange first thru turns))
      ∙ ap (λ y. seen_as done (range_act s first y (option_map plain_loop turns))) (sym thru_is)
      ∙ ap (λ y. seen_as done (range_act s first thru_ y)) (sym turns_is)

  pub perform_inline_head : (turns : Option Loop) (turns_ : Option tree.Loop) (body : Vec Stmt Global) → v ≡
      variant.PerformInline turns body → turns_ ≡ option_map plain_loop turns → head s (plain_verb v) ≡ seen_as turned
      (turns_of s turns_)
  perform_inline_head turns turns_ body is turns_is =
      ap (λ x. head s (plain_verb x)) (is ∙ sym (rolls-PerformInline turns body)) ∙ ap (head s) (fold-roll-Verb _ _ _
      _ _ _ _ _ (layer.PerformInline turns body))
      ∙ ap (λ y. seen_as turned (turns_of s y)) (sym turns_is)

  pub go_head : (name : List ℕ) → v ≡ variant.Go name → head s (plain_verb v) ≡ seen_as done (go_act s name)
  go_head name is =
      ap (λ x. head s (plain_verb x)) (is ∙ sym (rolls-Go name)) ∙ ap (head s) (fold-roll-Verb _ _ _ _ _ _ _ _
      (layer.Go name))

  pub open_head : (files : List OpenPhrase) (files_ : List OpenPhrase) → v ≡ variant.Open files → files_ ≡ files → head s
      (plain_verb v) ≡ seen_as done (open_act s files_)
  open_head files files_ is files_is =
      ap (λ x. head s (plain_verb x)) (is ∙ sym (rolls-Open files)) ∙ ap (head s) (fold-roll-Verb _ _ _ _ _ _ _ _
      (layer.Open files))
      ∙ ap (λ y. seen_as done (open_act s y)) (sym files_is)

  pub close_head : (names : List (List ℕ)) (names_ : List (List ℕ)) → v ≡ variant.Close names → names_ ≡ names → head
      s (plain_verb v) ≡ seen_as done (close_act s names_)
  close_head names names_ is names_is =
      ap (λ x. head s (plain_verb x)) (is ∙ sym (rolls-Close names)) ∙ ap (head s) (fold-roll-Verb _ _ _ _ _ _ _ _
      (layer.Close names))
      ∙ ap (λ y. seen_as done (close_act s y)) (sym names_is)

  pub read_head : (file : List ℕ) (into : Option Ref) (into_ : Option Ref) (end : Option (Vec Stmt Global)) (not_end :
      Option (Vec Stmt Global)) (ended : Bool) → v ≡ variant.Read file into end not_end ended → into_ ≡ into → head s
      (plain_verb v) ≡ seen_as reads_of (read_parts s file into_)
  read_head file into into_ end not_end ended is into_is =
      ap (λ x. head s (plain_verb x)) (is ∙ sym (rolls-Read file into end not_end ended)) ∙ ap (head s)
      (fold-roll-Verb _ _ _ _ _ _ _ _ (layer.Read file into end not_end ended))
      ∙ ap (λ y. seen_as reads_of (read_parts s file y)) (sym into_is)

  pub write_head : (rec_ : Ref) (from : Option Opnd) (from_ : Option Opnd) (ended : Bool) → v ≡ variant.Write rec_
      from ended → from_ ≡ from → head s (plain_verb v) ≡ seen_as done (write_act s rec_ from_)
  write_head rec_ from from_ ended is from_is =
      ap (λ x. head s (plain_verb x)) (is ∙ sym (rolls-Write rec_ from ended)) ∙ ap (head s) (fold-roll-Verb _ _ _ _ _
      _ _ _ (layer.Write rec_ from ended))
      ∙ ap (λ y. seen_as done (write_act s rec_ y)) (sym from_is)
