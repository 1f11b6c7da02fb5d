-- The cells of a small program, and what they are of.
use Rattle.std.specs.Prelude.{◌≡◌, ℕ, true, false, List, [], ◌∷◌, Option, Some, None}
use Rattle.std.proofs.Common.{refl}
use Rattle.cob_tree.specs.declared.form.Form.{Form}
use Rattle.cob_tree.specs.declared.form.Form.TheVariants as form
use Rattle.cob_tree.specs.declared.form.Usage.TheVariants as usage
use Rattle.cob_data.specs.declared.layout.Item.{Item}
use Rattle.cob_data.specs.declared.layout.Sender.TheVariants as sender
use Rattle.cob_program.specs.Act.{times, MkStmt, no_stmts, more_stmts, perform, nothing, inline, Program}
use Rattle.cob_graph.specs.Graphs.{cells_of}
use Rattle.cob_graph.specs.Homes.{cell, counter, homes_of}
use Rattle.cob_graph.specs.declared.homes.Home.TheVariants.{Item as of_item, Count as of_count}

abbrev item_of : Option (List ℕ) → ℕ → ℕ → Form → Item
item_of name offset length f = record { name = name; offset = offset; length = length; times = 1; stride = 0; form = f; parent = Some 0; line = 5; value = None }

-- 01 G. 05 A PIC 9(3). 05 FILLER PIC 9. 05 T PIC X(20). 05 B PIC S9V9.
-- 1: CONTINUE. 2: PERFORM 2 TIMES 3: CONTINUE END-PERFORM.
abbrev small : Program
small = record {
  layout = record {
    items = item_of (Some (71 ∷ [])) 0 26 form.Group
        ∷ item_of (Some (65 ∷ [])) 0 3 (form.Number 3 0 false usage.Display)
        ∷ item_of None 3 1 (form.Number 1 0 false usage.Display)
        ∷ item_of (Some (84 ∷ [])) 4 20 (form.Text 20)
        ∷ item_of (Some (66 ∷ [])) 24 2 (form.Number 2 1 true usage.Display)
        ∷ [];
    flags = [];
    files = [];
    storage = 26;
  };
  paras = record {
    name = None;
    line = 0;
    body = more_stmts (MkStmt 1 10 nothing)
        (more_stmts (MkStmt 2 11 (perform (inline (more_stmts (MkStmt 3 12 nothing) no_stmts)) (times sender.Zero))) no_stmts);
  } ∷ [];
  statements = 3;
}

-- neither a group nor what has no name, nor a text of more than 18 bytes, has a cell
homes : homes_of small ≡ of_item 1 ∷ of_item 4 ∷ of_count 2 ∷ []
homes = refl

cells : cells_of small ≡ cell (Some 1) 3 0 false 1 ∷ cell (Some 4) 2 1 true 1 ∷ counter ∷ []
cells = refl
