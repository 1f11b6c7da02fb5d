-- The lists of a statement, by its kind.
use Rattle.std.proofs.Common.{◌≡◌, ℕ, List, ◌++◌, sym, ap, ◌∙◌, Option, Some, Vec}
use Rattle.std.specs.declared.alloc.Global.{Global}
use Rattle.cob_program.specs.declared.act.Stmt as declared_stmt
use Rattle.cob_program.specs.declared.act.When as declared_when
use Rattle.cob_program.specs.declared.act.Act as declared_act
use Rattle.cob_program.specs.declared.act.Target.{Target}
use Rattle.cob_program.specs.declared.sum.Sum as declared_sum
use Rattle.cob_program.specs.declared.logic.Logic as declared_logic
use Rattle.cob_program.specs.declared.act.Act.TheVariants as variant
use Rattle.cob_program.specs.declared.act.Act.TheVariants.{rolls-If, rolls-Evaluate, rolls-Arith, rolls-Read}
use Rattle.cob_program.specs.declared.act.Act.TheOpen as layer
use Rattle.cob_program.specs.declared.act.Act.TheFolds.{fold-roll-Act}
use Rattle.cob_program.specs.ActView.{plain_act, plain_stmts, plain_whens}
use Rattle.cob_program.specs.Statements.{whens_statements}
use Rattle.cob_graph.specs.declared.homes.Home.{Home}
use Rattle.cob_graph.specs.Homes.{count_homes}
use Rattle.cob_graph.specs.Numbers.{list_homes, inner_homes}

abbrev pub block_homes : Vec declared_stmt.Stmt Global → List Home
block_homes v = list_homes (plain_stmts v.items)

module _ (a : declared_act.Act) where
  pub if_cut : (test : declared_logic.Logic) (yes_ no_ : Vec declared_stmt.Stmt Global) → a ≡ variant.If test yes_ no_ →
      inner_homes (plain_act a) ≡ block_homes yes_ ++ block_homes no_
  if_cut test yes_ no_ is = ap (λ x. inner_homes (plain_act x)) (is ∙ sym (rolls-If test yes_ no_))
      ∙ ap inner_homes (fold-roll-Act _ _ _ _ _ _ _ _ (layer.If test yes_ no_))

  pub evaluate_cut : (whens : Vec declared_when.When Global) (other : Vec declared_stmt.Stmt Global) →
      a ≡ variant.Evaluate whens other →
      inner_homes (plain_act a) ≡ count_homes (whens_statements (plain_whens whens.items)) ++ block_homes other
  evaluate_cut whens other is = ap (λ x. inner_homes (plain_act x)) (is ∙ sym (rolls-Evaluate whens other))
      ∙ ap inner_homes (fold-roll-Act _ _ _ _ _ _ _ _ (layer.Evaluate whens other))

  pub arith_cut : (common : declared_sum.Sum) (targets : List Target) (remainder : Option ℕ)
      (size : Option (Vec declared_stmt.Stmt Global)) (fine list : Vec declared_stmt.Stmt Global) →
      a ≡ variant.Arith common targets remainder size fine → size ≡ Some list →
      inner_homes (plain_act a) ≡ block_homes list ++ block_homes fine
  arith_cut common targets remainder size fine list is some =
      ap (λ x. inner_homes (plain_act x))
      (is ∙ (ap (λ o. variant.Arith common targets remainder o fine) some
      ∙ sym (rolls-Arith common targets remainder (Some list) fine)))
      ∙ ap inner_homes (fold-roll-Act _ _ _ _ _ _ _ _ (layer.Arith common targets remainder (Some list) fine))

  pub read_cut : (file : ℕ) (into : Option ℕ) (at_end : Option (Vec declared_stmt.Stmt Global))
      (fine list : Vec declared_stmt.Stmt Global) → a ≡ variant.Read file into at_end fine → at_end ≡ Some list →
      inner_homes (plain_act a) ≡ block_homes list ++ block_homes fine
  read_cut file into at_end fine list is some =
      ap (λ x. inner_homes (plain_act x))
      (is ∙ (ap (λ o. variant.Read file into o fine) some ∙ sym (rolls-Read file into (Some list) fine)))
      ∙ ap inner_homes (fold-roll-Act _ _ _ _ _ _ _ _ (layer.Read file into (Some list) fine))
