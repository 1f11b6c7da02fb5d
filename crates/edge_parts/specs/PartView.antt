-- What contracts see of parts that are borrowed from a program.
use Rattle.std.specs.Prelude.{List, Option, None, slice_get}
use Rattle.std.specs.Borrow.{Bor}
use Rattle.cob_program.specs.Sum.{Atom, group}
use Rattle.cob_program.specs.SumView.{plain_sum, plain_atom}
use Rattle.cob_program.specs.declared.logic.Test as declared_test
use Rattle.cob_program.specs.Logic.{Test}
use Rattle.cob_program.specs.LogicView.{plain_test}
use Rattle.cob_program.specs.Act.{Act, Stmt, MkStmt, Program}
use Rattle.cob_runs.specs.declared.action.Action.{Action}
use Rattle.cob_runs.specs.declared.action.Action.TheVariants as action
use Rattle.cob_runs.specs.Effects.{tests_in_act}
use Rattle.cob_edge_parts.specs.Parts.{Part, read, unread, subscript, index, divide, store, bytes_in, guard, read_count, set_count, count_down, guard_count, parts_of}
use Rattle.edge_parts.specs.declared.part.Divisor as declared_divisor
use Rattle.edge_parts.specs.declared.part.Divisor.TheVariants as divisor
use Rattle.transfer_ranges.specs.AmountView.{plain_amount}
use Rattle.edge_parts.specs.declared.part.EdgePart.{EdgePart}
use Rattle.edge_parts.specs.declared.part.EdgePart.TheVariants as part

abbrev pub plain_divisor : declared_divisor.Divisor → Atom
plain_divisor (divisor.Inner a) = plain_atom a.now
plain_divisor (divisor.Whole s) = group (plain_sum s.now)

abbrev pub plain_part : EdgePart → Part
plain_part (part.Read place) = read place
plain_part part.Unread = unread
plain_part (part.Subscript last item) = subscript last item
plain_part (part.Index last item count) = index last item count
plain_part (part.Divide d) = divide (plain_divisor d)
plain_part (part.Store place mode a) = store place mode (plain_amount a)
plain_part (part.Bytes offset count) = bytes_in offset count
plain_part (part.Guard t holds) = guard (plain_test t.now) holds
plain_part (part.ReadCount number) = read_count number
plain_part (part.SetCount number x) = set_count number x.now
plain_part (part.CountDown number) = count_down number
plain_part (part.GuardCount number left) = guard_count number left

abbrev pub plain_reference : Bor declared_test.Test → Test
plain_reference t = plain_test t.now

-- the parts of an edge of a statement
abbrev pub edge_parts : Program → Stmt → Action → List Part
edge_parts p (MkStmt number line a) x = parts_of p number a x

-- the simple conditions of a statement, and the one that an edge goes by
abbrev pub stmt_tests : Stmt → List Test
stmt_tests (MkStmt number line a) = tests_in_act a

abbrev pub act_test : Act → Action → Option Test
act_test a (action.True k) = slice_get (tests_in_act a) k
act_test a (action.False k) = slice_get (tests_in_act a) k
act_test a x = None

abbrev pub edge_test : Stmt → Action → Option Test
edge_test s (action.True k) = slice_get (stmt_tests s) k
edge_test s (action.False k) = slice_get (stmt_tests s) k
edge_test s x = None
