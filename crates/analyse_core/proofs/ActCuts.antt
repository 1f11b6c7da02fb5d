-- The literals of a statement and of its lists, by its kind.
use Rattle.std.proofs.Common.{◌≡◌, List, ◌++◌, map, sym, ap, ◌∙◌, Vec}
use Rattle.std.specs.declared.alloc.Global.{Global}
use Rattle.cob_tree.specs.declared.token.Num.{Num}
use Rattle.cob_program.specs.declared.act.Stmt as declared_stmt
use Rattle.cob_program.specs.declared.act.When as declared_when
use Rattle.cob_program.specs.declared.act.Act as declared_act
use Rattle.cob_program.specs.declared.act.Body as declared_body
use Rattle.cob_program.specs.declared.act.Turns as declared_turns
use Rattle.cob_program.specs.declared.logic.Logic as declared_logic
use Rattle.cob_program.specs.declared.act.Act.TheVariants as variant
use Rattle.cob_program.specs.declared.act.Act.TheVariants.{rolls-If, rolls-Evaluate, rolls-Perform}
use Rattle.cob_program.specs.declared.act.Act.TheOpen as layer
use Rattle.cob_program.specs.declared.act.Act.TheFolds.{fold-roll-Act, fold_out-When}
use Rattle.cob_program.specs.declared.act.When.{out-When}
use Rattle.cob_program.specs.LogicView.{plain_logic}
use Rattle.cob_program.specs.ActView.{plain_act, plain_body, plain_stmts, plain_turns, plain_when, plain_whens}
use Rattle.analyse_core.specs.Literals.{act_literals, body_literals, logic_literals, stmts_literals, tests_literals, turns_literals, when_literals, whens_literals}

abbrev pub block_literals : Vec declared_stmt.Stmt Global → List Num
block_literals v = stmts_literals (plain_stmts v.items)

module _ (a : declared_act.Act) where
  pub if_cut : (test : declared_logic.Logic) (yes_ no_ : Vec declared_stmt.Stmt Global) → a ≡ variant.If test yes_ no_ →
      act_literals (plain_act a) ≡ logic_literals (plain_logic test) ++ (block_literals yes_ ++ block_literals no_)
  if_cut test yes_ no_ is = ap (λ x. act_literals (plain_act x)) (is ∙ sym (rolls-If test yes_ no_))
      ∙ ap act_literals (fold-roll-Act _ _ _ _ _ _ _ _ (layer.If test yes_ no_))

  pub evaluate_cut : (whens : Vec declared_when.When Global) (other : Vec declared_stmt.Stmt Global) →
      a ≡ variant.Evaluate whens other →
      act_literals (plain_act a) ≡ whens_literals (plain_whens whens.items) ++ block_literals other
  evaluate_cut whens other is = ap (λ x. act_literals (plain_act x)) (is ∙ sym (rolls-Evaluate whens other))
      ∙ ap act_literals (fold-roll-Act _ _ _ _ _ _ _ _ (layer.Evaluate whens other))

  pub perform_cut : (body : declared_body.Body) (turns : declared_turns.Turns) → a ≡ variant.Perform body turns →
      act_literals (plain_act a) ≡ turns_literals (plain_turns turns) ++ body_literals (plain_body body)
  perform_cut body turns is = ap (λ x. act_literals (plain_act x)) (is ∙ sym (rolls-Perform body turns))
      ∙ ap act_literals (fold-roll-Act _ _ _ _ _ _ _ _ (layer.Perform body turns))

pub when_cut : (w : declared_when.When) →
    when_literals (plain_when w) ≡ tests_literals (map plain_logic (out-When w).tests) ++ block_literals (out-When w).body
when_cut w = ap when_literals (fold_out-When _ _ _ _ _ _ _ _ w)
