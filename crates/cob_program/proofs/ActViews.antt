-- What contracts see of a statement, by its kind.
use Rattle.std.proofs.Common.{◌≡◌, ℕ, List, sym, ap, ◌∙◌, Option, Some, None, Vec}
use Rattle.std.specs.declared.alloc.Global.{Global}
use Rattle.cob_data.specs.declared.layout.Sender.{Sender}
use Rattle.cob_program.specs.declared.act.Stmt as declared_stmt
use Rattle.cob_program.specs.declared.act.Act as declared_act
use Rattle.cob_program.specs.declared.act.Body as declared_body
use Rattle.cob_program.specs.declared.act.Turns as declared_turns
use Rattle.cob_program.specs.declared.act.Opening.{Opening}
use Rattle.cob_program.specs.declared.act.Target.{Target}
use Rattle.cob_program.specs.declared.sum.Sum as declared_sum
use Rattle.cob_program.specs.declared.act.Act.TheVariants as variant
use Rattle.cob_program.specs.declared.act.Act.TheVariants.{rolls-Perform, rolls-Arith, rolls-Read, rolls-Write, rolls-OpenFiles, rolls-CloseFiles}
use Rattle.cob_program.specs.declared.act.Act.TheOpen as layer
use Rattle.cob_program.specs.declared.act.Act.TheFolds.{fold-roll-Act}
use Rattle.cob_program.specs.declared.act.Act.{roll-Act}
use Rattle.cob_program.specs.ActView.{plain_act, plain_body, plain_turns, plain_stmts, plain_phrase}
use Rattle.cob_program.specs.SumView.{plain_sum}
use Rattle.cob_program.specs.Act.{arith, perform, open_files, close_files, read, write}

module _ (a : declared_act.Act) where
  pub perform_is : (body : declared_body.Body) (turns : declared_turns.Turns) → a ≡ variant.Perform body turns →
      plain_act a ≡ perform (plain_body body) (plain_turns turns)
  perform_is body turns is = ap plain_act (is ∙ sym (rolls-Perform body turns))
      ∙ fold-roll-Act _ _ _ _ _ _ _ _ (layer.Perform body turns)

  -- a phrase that is left out, and one that is given
  rolled_arith : (common : declared_sum.Sum) (targets : List Target) (remainder : Option ℕ)
      (size : Option (Vec declared_stmt.Stmt Global)) (fine : Vec declared_stmt.Stmt Global) →
      plain_act (roll-Act (layer.Arith common targets remainder size fine))
      ≡ arith (plain_sum common) targets remainder (plain_phrase size) (plain_stmts fine.items)
  rolled_arith common targets remainder None fine =
      fold-roll-Act _ _ _ _ _ _ _ _ (layer.Arith common targets remainder None fine)
  rolled_arith common targets remainder (Some x) fine =
      fold-roll-Act _ _ _ _ _ _ _ _ (layer.Arith common targets remainder (Some x) fine)

  rolled_read : (file : ℕ) (into : Option ℕ) (at_end : Option (Vec declared_stmt.Stmt Global))
      (fine : Vec declared_stmt.Stmt Global) →
      plain_act (roll-Act (layer.Read file into at_end fine))
      ≡ read file into (plain_phrase at_end) (plain_stmts fine.items)
  rolled_read file into None fine = fold-roll-Act _ _ _ _ _ _ _ _ (layer.Read file into None fine)
  rolled_read file into (Some x) fine = fold-roll-Act _ _ _ _ _ _ _ _ (layer.Read file into (Some x) fine)

  pub arith_is : (common : declared_sum.Sum) (targets : List Target) (remainder : Option ℕ)
      (size : Option (Vec declared_stmt.Stmt Global)) (fine : Vec declared_stmt.Stmt Global) →
      a ≡ variant.Arith common targets remainder size fine →
      plain_act a ≡ arith (plain_sum common) targets remainder (plain_phrase size) (plain_stmts fine.items)
  arith_is common targets remainder size fine is =
      ap plain_act (is ∙ sym (rolls-Arith common targets remainder size fine))
      ∙ rolled_arith common targets remainder size fine

  pub read_is : (file : ℕ) (into : Option ℕ) (at_end : Option (Vec declared_stmt.Stmt Global))
      (fine : Vec declared_stmt.Stmt Global) → a ≡ variant.Read file into at_end fine →
      plain_act a ≡ read file into (plain_phrase at_end) (plain_stmts fine.items)
  read_is file into at_end fine is = ap plain_act (is ∙ sym (rolls-Read file into at_end fine))
      ∙ rolled_read file into at_end fine

  pub write_is : (rec_ : ℕ) (from : Option Sender) → a ≡ variant.Write rec_ from → plain_act a ≡ write rec_ from
  write_is rec_ from is = ap plain_act (is ∙ sym (rolls-Write rec_ from))
      ∙ fold-roll-Act _ _ _ _ _ _ _ _ (layer.Write rec_ from)

  pub open_is : (files : List Opening) → a ≡ variant.OpenFiles files → plain_act a ≡ open_files files
  open_is files is = ap plain_act (is ∙ sym (rolls-OpenFiles files))
      ∙ fold-roll-Act _ _ _ _ _ _ _ _ (layer.OpenFiles files)

  pub close_is : (files : List ℕ) → a ≡ variant.CloseFiles files → plain_act a ≡ close_files files
  close_is files is = ap plain_act (is ∙ sym (rolls-CloseFiles files))
      ∙ fold-roll-Act _ _ _ _ _ _ _ _ (layer.CloseFiles files)
