-- Graphs of small programs, worked out.
use Rattle.std.specs.Prelude.{◌≡◌, ℕ, Bool, true, false, List, [], ◌∷◌, map, Option, Some, None}
use Rattle.std.proofs.Common.{refl}
use Rattle.cob_tree.specs.declared.form.Form.{Form}
use Rattle.cob_tree.specs.declared.form.Form.TheVariants as form
use Rattle.cob_tree.specs.declared.token.Num.{Num}
use Rattle.cob_tree.specs.declared.token.Rel.TheVariants as rel
use Rattle.cob_data.specs.declared.layout.FileDecl.{FileDecl}
use Rattle.cob_data.specs.declared.layout.Item.{Item}
use Rattle.cob_data.specs.declared.layout.Layout.{Layout}
use Rattle.cob_data.specs.declared.layout.Sender.{Sender}
use Rattle.cob_data.specs.declared.layout.Sender.TheVariants as sender
use Rattle.cob_program.specs.Sum.{Sum, MkSum, no_parts, more_parts, MkPart, no_factors, more_factors, MkFactor, number}
use Rattle.cob_program.specs.Logic.{numbers, Logic, test, all_of, any_of, not_, no_logics, more_logics}
use Rattle.cob_program.specs.Act.{times, until, varying, MkStmt, Stmts, no_stmts, more_stmts, given, Act, perform, go, stop, open_files, read, show, range, Para, Program}
use Rattle.cob_runs.specs.declared.action.Action.TheVariants as action
use Rattle.cob_graph.specs.declared.graph.Node.{Node}
use Rattle.cob_graph.specs.declared.graph.Graph.{Graph}
use Rattle.cob_graph.specs.Laid.{MkLaid, no_laid, more_laid, no_phrase, a_phrase, showing, skipping, going, ending, computing, deciding, performing, opening, reading, own_list, copy, LaidParas, no_laid_paras, more_laid_paras}
use Rattle.cob_graph.specs.Graphs.{as_node, all_nodes, edges_of, cells_of, IsMainCopy, IsGraph}
use Rattle.cob_graph.specs.Lookup.{edge}

-- ---- programs

abbrev pub item_of : ℕ → ℕ → Form → Option Sender → Item
item_of offset length f value = record { name = Some (78 ∷ []); offset = offset; length = length; times = 1; stride = 0; form = f; parent = None; line = 5; value = value }

abbrev pub numeral : List ℕ → ℕ → Num
numeral digits scale = record { sign = 0; digits = digits; scale = scale }

abbrev pub atom_sum : Num → Sum
atom_sum n = MkSum (more_parts (MkPart false (more_factors (MkFactor false false (number n)) no_factors)) no_parts)

abbrev pub stmt1 : ℕ → Act → Stmts → Stmts
stmt1 n a ss = more_stmts (MkStmt n n a) ss

abbrev pub say : ℕ → ℕ → Stmts → Stmts
say n c ss = stmt1 n (show (sender.Text (c ∷ []) ∷ [])) ss

abbrev pub para : ℕ → Stmts → Para
para c body = record { name = Some (c ∷ []); line = 0; body = body }

abbrev pub unnamed : Stmts → Para
unnamed body = record { name = None; line = 0; body = body }

abbrev pub no_data : Layout
no_data = record { items = []; flags = []; files = []; storage = 0 }

abbrev pub of_paras : List Para → Program
of_paras ps = record { layout = no_data; paras = ps; statements = 9 }

-- A. PERFORM B 2 TIMES. STOP RUN. B. DISPLAY 'x'.
abbrev pub twice : Program
twice = of_paras (unnamed no_stmts ∷ para 65 (stmt1 1 (perform (range 2 2) (times (sender.Number (numeral (50 ∷ []) 0)))) (stmt1 2 stop no_stmts)) ∷ para 66 (say 3 120 no_stmts) ∷ [])

-- A. GO TO A.
abbrev pub forever : Program
forever = of_paras (unnamed no_stmts ∷ para 65 (stmt1 1 (go 1) no_stmts) ∷ [])

-- ---- source G: a file with records of 80 bytes is listed; here they have 2
abbrev pub the_file : Option ℕ → FileDecl
the_file status = record { name = 70 ∷ []; external = 73 ∷ []; offset = 0; length = 2; records = 0 ∷ []; status = status }

abbrev pub with_file : Option ℕ → Stmts → Program
with_file status body = record {
  layout = record { items = item_of 0 2 (form.Text 2) None ∷ item_of 2 2 (form.Text 2) None ∷ []; flags = []; files = the_file status ∷ []; storage = 4 };
  paras = unnamed body ∷ [];
  statements = 9;
}

abbrev pub listing : Option ℕ → Program
listing status = with_file status (stmt1 1 (open_files (record { file = 0; output = false } ∷ []))
    (stmt1 2 (show (sender.Item 1 ∷ [])) (stmt1 3 (read 0 None (given (say 4 101 (stmt1 5 stop no_stmts))) (stmt1 6 (show (sender.Item 0 ∷ [])) no_stmts)) no_stmts)))

-- ---- their nodes and edges, and those of other copies

abbrev a_node : ℕ → List ℕ → Bool → Node
a_node statement sites starts = record { statement = statement; sites = sites; starts = starts }

abbrev pub laid_twice : LaidParas
laid_twice = more_laid_paras no_laid
    (more_laid_paras (more_laid (MkLaid 1 (performing (copy 2 (more_laid_paras (more_laid (MkLaid 3 showing) no_laid) no_laid_paras)) (times (sender.Number (numeral (50 ∷ []) 0))))) (more_laid (MkLaid 2 ending) no_laid))
    (more_laid_paras (more_laid (MkLaid 3 showing) no_laid) no_laid_paras))

its_nodes : map as_node (all_nodes twice laid_twice)
    ≡ a_node 1 [] true ∷ a_node 1 [] true ∷ a_node 3 (1 ∷ []) true ∷ a_node 1 [] true ∷ a_node 2 [] true ∷ a_node 3 [] true ∷ a_node 0 [] false ∷ []
its_nodes = refl

its_edges : edges_of 1 (all_nodes twice laid_twice)
    ≡ edge 1 action.SetCount 2 ∷ edge 2 (action.True 0) 3 ∷ edge 2 (action.False 0) 5 ∷ edge 3 action.Show 4 ∷ edge 4 action.Down 2 ∷ edge 5 action.Skip 7 ∷ edge 6 action.Show 7 ∷ []
its_edges = refl

-- IF A = 1 OR A = 2 AND A = 3 CONTINUE ELSE EXIT, then DISPLAY
abbrev equals : ℕ → Logic
equals c = test (numbers (atom_sum (numeral (c ∷ []) 0)) rel.Equal (atom_sum (numeral (c ∷ []) 0)))

abbrev both_or_one : Logic
both_or_one = any_of (more_logics (equals 49) (more_logics (all_of (more_logics (equals 50) (more_logics (not_ (equals 51)) no_logics))) no_logics))

abbrev laid_if : LaidParas
laid_if = more_laid_paras (more_laid (MkLaid 1 (deciding both_or_one (more_laid (MkLaid 2 skipping) no_laid) (more_laid (MkLaid 3 skipping) no_laid))) (more_laid (MkLaid 4 showing) no_laid)) no_laid_paras

if_edges : edges_of 1 (all_nodes twice laid_if)
    ≡ edge 1 (action.True 0) 4 ∷ edge 1 (action.False 0) 2 ∷ edge 2 (action.True 1) 3 ∷ edge 2 (action.False 1) 5
    ∷ edge 3 (action.True 2) 5 ∷ edge 3 (action.False 2) 4 ∷ edge 4 action.Skip 6 ∷ edge 5 action.Skip 6 ∷ edge 6 action.Show 7 ∷ []
if_edges = refl

-- a step begins with the first simple condition alone
if_begins_once : map (λ n. n.starts) (all_nodes twice laid_if)
    ≡ true ∷ false ∷ false ∷ true ∷ true ∷ true ∷ false ∷ []
if_begins_once = refl

-- GO TO
abbrev laid_forever : LaidParas
laid_forever = more_laid_paras no_laid (more_laid_paras (more_laid (MkLaid 1 (going 1)) no_laid) no_laid_paras)

forever_edges : edges_of 1 (all_nodes forever laid_forever) ≡ edge 1 action.Skip 1 ∷ []
forever_edges = refl

-- COMPUTE with ON SIZE ERROR DISPLAY NOT ON SIZE ERROR CONTINUE
abbrev laid_compute : LaidParas
laid_compute = more_laid_paras (more_laid
    (MkLaid 1 (computing (a_phrase (more_laid (MkLaid 2 showing) no_laid)) (more_laid (MkLaid 3 skipping) no_laid)))
    no_laid) no_laid_paras

compute_edges : edges_of 1 (all_nodes twice laid_compute)
    ≡ edge 1 action.Done 3 ∷ edge 1 action.Size 2 ∷ edge 2 action.Show 4 ∷ edge 3 action.Skip 4 ∷ []
compute_edges = refl

-- PERFORM UNTIL round DISPLAY
abbrev laid_until : LaidParas
laid_until = more_laid_paras (more_laid
    (MkLaid 1 (performing (own_list (more_laid (MkLaid 2 showing) no_laid)) (until false (equals 49)))) no_laid) no_laid_paras

until_edges : edges_of 1 (all_nodes twice laid_until)
    ≡ edge 1 action.Skip 2 ∷ edge 2 (action.True 0) 4 ∷ edge 2 (action.False 0) 3 ∷ edge 3 action.Show 2 ∷ []
until_edges = refl

-- READ F INTO X AT END DISPLAY NOT AT END CONTINUE, without FILE STATUS; then VARYING .. TEST AFTER round DISPLAY
abbrev laid_read : LaidParas
laid_read = more_laid_paras (more_laid (MkLaid 1 (reading 0 true (a_phrase (more_laid (MkLaid 2 showing) no_laid)) (more_laid (MkLaid 3 skipping) no_laid)))
    (more_laid (MkLaid 4 (performing (own_list (more_laid (MkLaid 5 showing) no_laid)) (varying true 0 sender.Zero sender.Zero (equals 49)))) no_laid)) no_laid_paras

read_edges : edges_of 1 (all_nodes (listing None) laid_read)
    ≡ edge 1 action.Take 2 ∷ edge 1 action.AtEnd 3 ∷ edge 1 (action.Bad 0) 9 ∷ edge 2 action.Assign 4 ∷ edge 3 action.Show 5 ∷ edge 4 action.Skip 5
    ∷ edge 5 action.Assign 6 ∷ edge 6 action.Show 7 ∷ edge 7 (action.True 0) 9 ∷ edge 7 (action.False 0) 8 ∷ edge 8 action.Done 6 ∷ []
read_edges = refl

-- READ without AT END and without FILE STATUS, then DISPLAY
abbrev laid_plain_read : LaidParas
laid_plain_read =
    more_laid_paras (more_laid (MkLaid 1 (reading 0 false no_phrase no_laid)) (more_laid (MkLaid 2 showing) no_laid)) no_laid_paras

plain_read_edges : edges_of 1 (all_nodes (listing None) laid_plain_read)
    ≡ edge 1 action.Take 2 ∷ edge 1 action.AtEnd 3 ∷ edge 1 (action.Bad 0) 3 ∷ edge 2 action.Show 3 ∷ []
plain_read_edges = refl

-- ---- programs with their copies written in

pub twice_is_laid : IsMainCopy twice laid_twice
twice_is_laid = (tt, (((refl, (refl, (refl, (((refl, refl), tt), tt)))), ((refl, refl), tt)), (((refl, refl), tt), tt)))

abbrev pub with_copies : Program → LaidParas → Graph
with_copies p copies = record {
  nodes = map as_node (all_nodes p copies);
  edges = edges_of 1 (all_nodes p copies);
  cells = cells_of p;
}

pub is_graph : (p : Program) (copies : LaidParas) → IsMainCopy p copies → IsGraph p (with_copies p copies)
is_graph p copies laid = record { copies = copies; laid = laid; nodes = refl; edges = refl; cells = refl }

abbrev pub laid_listing : LaidParas
laid_listing = more_laid_paras (more_laid (MkLaid 1 (opening (record { file = 0; output = false } ∷ [])))
    (more_laid (MkLaid 2 showing) (more_laid (MkLaid 3 (reading 0 false
    (a_phrase (more_laid (MkLaid 4 showing) (more_laid (MkLaid 5 ending) no_laid)))
    (more_laid (MkLaid 6 showing) no_laid))) no_laid))) no_laid_paras

pub listing_is_laid : IsMainCopy (listing None) laid_listing
listing_is_laid = (
  (
    (refl, refl),
    (
      (refl, refl),
      ((refl, (refl, refl, (((refl, refl), ((refl, refl), tt))), ((refl, refl), tt))), tt),
    ),
  ),
  tt,
)
