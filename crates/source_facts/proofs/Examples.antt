-- The numbers of a small program's statements.
use Rattle.std.specs.Prelude.{◌≡◌, [], ◌∷◌, Some, None}
use Rattle.std.proofs.Common.{refl}
use Rattle.cob_data.specs.declared.layout.Sender.TheVariants as sender
use Rattle.cob_program.specs.Act.{times, MkStmt, no_stmts, more_stmts, perform, nothing, stop, inline, Program}
use Rattle.cob_runs.specs.Effects.{act_at}
use Rattle.source_facts.specs.Statements.{AreNumberedInOrder}

-- 1: PERFORM 2 TIMES 2: CONTINUE END-PERFORM. P. 3: STOP RUN.
abbrev small : Program
small = record {
  layout = record { items = []; flags = []; files = []; storage = 0 };
  paras = record {
    name = None;
    line = 0;
    body = more_stmts (MkStmt 1 6 (perform (inline (more_stmts (MkStmt 2 7 nothing) no_stmts)) (times sender.Zero))) no_stmts;
  }
      ∷ record { name = Some (80 ∷ []); line = 9; body = more_stmts (MkStmt 3 10 stop) no_stmts }
      ∷ [];
  statements = 3;
}

in_order : AreNumberedInOrder small
in_order = refl

-- no statement has number 0, or a greater one than there are statements
none_before : act_at small 0 ≡ None
none_before = refl

none_behind : act_at small 4 ≡ None
none_behind = refl
