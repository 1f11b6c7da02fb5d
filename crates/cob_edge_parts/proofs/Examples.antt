-- The parts of some statements' edges, worked out.
use Rattle.std.specs.Prelude.{◌≡◌, ℕ, true, false, List, [], ◌∷◌, Some, None}
use Rattle.std.proofs.Common.{refl}
use Rattle.dec_num.specs.declared.types.Mode.{Mode}
use Rattle.dec_num.specs.declared.types.Mode.TheVariants.{Trunc, Round}
use Rattle.cob_tree.specs.declared.form.Form.{Form}
use Rattle.cob_tree.specs.declared.form.Form.TheVariants as form
use Rattle.cob_tree.specs.declared.form.Usage.TheVariants as usage
use Rattle.cob_tree.specs.declared.token.Num.{Num}
use Rattle.cob_tree.specs.declared.token.Rel.TheVariants as rel
use Rattle.cob_data.specs.declared.layout.FileDecl.{FileDecl}
use Rattle.cob_data.specs.declared.layout.Item.{Item}
use Rattle.cob_data.specs.declared.layout.Pair.{Pair}
use Rattle.cob_data.specs.declared.layout.Sender.TheVariants as sender
use Rattle.cob_program.specs.declared.act.Target.{Target}
use Rattle.cob_program.specs.declared.act.How.{How}
use Rattle.cob_program.specs.declared.act.How.TheVariants as how
use Rattle.cob_program.specs.Sum.{Sum, MkSum, no_parts, more_parts, MkPart, Atom, no_factors, more_factors, MkFactor, item, number, group}
use Rattle.cob_program.specs.Logic.{numbers, member, numeric, test}
use Rattle.cob_program.specs.Act.{times, varying, no_stmts, left_out, given, Act, arith, if_, perform, open_files, write, range, Program}
use Rattle.cob_program.specs.Act as act
use Rattle.cob_runs.specs.declared.action.Action.{Action}
use Rattle.cob_runs.specs.declared.action.Action.TheVariants as action
use Rattle.cob_edge_parts.specs.Parts.{Part, moved, computed, remaining, augmented, read, unread, divide, store, bytes_in, guard, read_count, set_count, count_down, guard_count, parts_of}

-- ---- 01 G with A PIC 9(3) and B PIC S9(3)V9; 01 T PIC X(5); 01 S PIC XX, the status of F with one record R PIC X(80)

abbrev item_of : ℕ → ℕ → Form → Item
item_of offset length f =
    record { name = Some (78 ∷ []); offset = offset; length = length; times = 1; stride = 0; form = f; parent = None; line = 5; value = None }

abbrev file : FileDecl
file = record {
  name = 70 ∷ [];
  external = 70 ∷ [];
  offset = 14;
  length = 80;
  records = 5 ∷ [];
  status = Some 4;
}

abbrev pub program : Program
program = record {
  layout = record {
    items = item_of 0 7 form.Group ∷ item_of 0 3 (form.Number 3 0 false usage.Display)
        ∷ item_of 3 4 (form.Number 4 1 true usage.Display) ∷ item_of 7 5 (form.Text 5) ∷ item_of 12 2 (form.Text 2)
        ∷ item_of 14 80 (form.Text 80) ∷ [];
    flags = [];
    files = file ∷ [];
    storage = 94;
  };
  paras = [];
  statements = 9;
}

abbrev parts : Act → Action → List Part
parts a x = parts_of program 9 a x

abbrev numeral : List ℕ → Num
numeral digits = record { sign = 0; digits = digits; scale = 0 }

abbrev pub alone : Atom → Sum
alone a = MkSum (more_parts (MkPart false (more_factors (MkFactor false false a) no_factors)) no_parts)

abbrev over : Atom → Atom → Sum
over a b =
    MkSum (more_parts (MkPart false (more_factors (MkFactor false false a) (more_factors
    (MkFactor true false b) no_factors))) no_parts)

abbrev pub target : ℕ → How → Mode → Target
target place h mode = record { item = place; how = h; mode = mode }

-- ADD A TO A B: A is read as operand, and at its turn
added : parts (arith (alone (item 1)) (target 1 how.Plus Trunc ∷ target 2 how.Plus Round ∷ []) None left_out no_stmts)
    action.Done
    ≡ read 1 ∷ read 1 ∷ store 1 Trunc (computed (alone (item 1)) how.Plus) ∷ read 2
    ∷ store 2 Round (computed (alone (item 1)) how.Plus) ∷ []
added = refl

-- DIVIDE A INTO B: the sum is the divisor
divided : parts (arith (alone (item 1)) (target 2 how.Under Trunc ∷ []) None left_out no_stmts) action.Done
    ≡ read 1 ∷ divide (group (alone (item 1))) ∷ read 2 ∷ store 2 Trunc (computed (alone (item 1)) how.Under) ∷ []
divided = refl

-- DIVIDE A BY 7 GIVING B ROUNDED REMAINDER A, with ON SIZE ERROR
remained : parts (arith (over (item 1) (number (numeral (55 ∷ []))))
    (target 2 how.Whole Round ∷ []) (Some 1) (given no_stmts) no_stmts) action.Size
    ≡ read 1 ∷ divide (number (numeral (55 ∷ []))) ∷ store 2 Round (computed (over (item 1) (number (numeral
    (55 ∷ [])))) how.Whole)
    ∷ store 1 Trunc (remaining (over (item 1) (number (numeral (55 ∷ [])))) 1) ∷ []
remained = refl

-- COMPUTE A = A / (A / B): what stands in a divisor comes first
nested : parts (arith (over (item 1) (group (over (item 1) (item 2))))
    (target 1 how.Whole Trunc ∷ []) None left_out no_stmts) action.Done
    ≡ read 1 ∷ read 1 ∷ read 2 ∷ divide (item 2) ∷ divide (group (over (item 1) (item 2)))
    ∷ store 1 Trunc (computed (over (item 1) (group (over (item 1) (item 2)))) how.Whole) ∷ []
nested = refl

-- MOVE A TO G B T: A is read once
moved_to_some : parts (act.move (sender.Item 1) (0 ∷ 2 ∷ 3 ∷ [])) action.Assign
    ≡ read 1 ∷ bytes_in 0 7 ∷ store 2 Trunc (moved (sender.Item 1)) ∷ bytes_in 7 5 ∷ []
moved_to_some = refl

-- MOVE G TO A, MOVE T TO S, MOVE A TO G: bytes alone
group_moved : parts (act.move (sender.Item 0) (1 ∷ [])) action.Assign ≡ bytes_in 0 3 ∷ []
group_moved = refl

text_moved : parts (act.move (sender.Item 3) (4 ∷ [])) action.Assign ≡ bytes_in 12 2 ∷ []
text_moved = refl

to_group_moved : parts (act.move (sender.Item 1) (0 ∷ [])) action.Assign ≡ bytes_in 0 7 ∷ []
to_group_moved = refl

-- MOVE T TO A: T is read; MOVE '12' TO A: nothing is; MOVE '1X' TO A: that is no number
text_read : parts (act.move (sender.Item 3) (1 ∷ [])) action.Assign ≡ read 3 ∷ store 1 Trunc (moved
    (sender.Item 3)) ∷ []
text_read = refl

literal_stored : parts (act.move (sender.Text (49 ∷ 50 ∷ [])) (1 ∷ [])) action.Assign
    ≡ store 1 Trunc (moved (sender.Text (49 ∷ 50 ∷ []))) ∷ []
literal_stored = refl

no_number : parts (act.move (sender.Text (49 ∷ 88 ∷ [])) (1 ∷ [])) action.Assign
    ≡ unread ∷ store 1 Trunc (moved (sender.Text (49 ∷ 88 ∷ []))) ∷ []
no_number = refl

-- IF A / B > 0, on its way for false
compared : parts (if_ (test (numbers (over (item 1) (item 2)) rel.Greater (alone (number (numeral
    (48 ∷ [])))))) no_stmts no_stmts) (action.False 0)
    ≡ read 1 ∷ read 2 ∷ divide (item 2) ∷ guard (numbers (over (item 1) (item 2)) rel.Greater (alone (number (numeral
    (48 ∷ []))))) false ∷ []
compared = refl

abbrev pair : List ℕ → List ℕ → Pair
pair a b = record { low = sender.Number (numeral a); high = sender.Number (numeral b) }

-- a condition-name of A with two ranges: A is read once; A NUMERIC: it isn't read
of_ranges : parts (if_ (test (member 1 (pair (49 ∷ []) (50 ∷ []) ∷ pair (55 ∷ []) (57 ∷ []) ∷ []))) no_stmts no_stmts)
    (action.True 0)
    ≡ read 1 ∷ guard (member 1 (pair (49 ∷ []) (50 ∷ []) ∷ pair (55 ∷ []) (57 ∷ []) ∷ [])) true ∷ []
of_ranges = refl

of_class : parts (if_ (test (numeric 1)) no_stmts no_stmts) (action.True 0) ≡ guard (numeric 1) true ∷ []
of_class = refl

-- PERFORM .. A TIMES
set : parts (perform (range 0 0) (times (sender.Item 1))) action.SetCount ≡ read 1 ∷ set_count 9 (sender.Item 1) ∷ []
set = refl

left : parts (perform (range 0 0) (times (sender.Item 1))) (action.True 0) ≡ read_count 9 ∷ guard_count 9 true ∷ []
left = refl

down : parts (perform (range 0 0) (times (sender.Item 1))) action.Down ≡ read_count 9 ∷ count_down 9 ∷ []
down = refl

-- PERFORM .. VARYING A FROM 1 BY B
begun : parts (perform (range 0 0) (varying false 1 (sender.Number (numeral (49 ∷ []))) (sender.Item 2) (test
    (numeric 1)))) action.Assign
    ≡ store 1 Trunc (moved (sender.Number (numeral (49 ∷ [])))) ∷ []
begun = refl

augments : parts (perform (range 0 0) (varying false 1 (sender.Number (numeral (49 ∷ []))) (sender.Item 2) (test
    (numeric 1)))) action.Done
    ≡ read 2 ∷ read 1 ∷ store 1 Trunc (augmented (sender.Item 2)) ∷ []
augments = refl

-- OPEN INPUT F, READ F INTO T at its end and its move, WRITE R done and not
file_opened : parts (open_files (record { file = 0; output = false } ∷ [])) (action.Bad 0) ≡ bytes_in 12 2 ∷ []
file_opened = refl

file_read : parts (act.read 0 (Some 3) left_out no_stmts) action.AtEnd ≡ bytes_in 12 2 ∷ bytes_in 14 80 ∷ []
file_read = refl

read_into : parts (act.read 0 (Some 3) left_out no_stmts) action.Assign ≡ bytes_in 7 5 ∷ []
read_into = refl

file_written : parts (write 5 None) action.Write ≡ bytes_in 12 2 ∷ bytes_in 14 80 ∷ []
file_written = refl

not_written : parts (write 5 None) (action.Bad 0) ≡ bytes_in 12 2 ∷ []
not_written = refl
