-- A tree's printing has at least as many tokens as the tree has entries.
use Rattle.std.proofs.Common.{ℕ, ◌+◌, ◌≤◌, List, [], ◌∷◌, ◌++◌, length, length-append, Option, Some, None, arith}
use Rattle.cob_tree.specs.declared.front.Front.{Front}
use Rattle.cob_tree.specs.declared.front.Data.{Data}
use Rattle.cob_tree.specs.declared.front.Fd.{Fd}
use Rattle.cob_tree.specs.declared.front.Entry.{Entry}
use Rattle.cob_tree.specs.declared.tree.Tree.{Tree}
use Rattle.cob_tree.specs.declared.keyword.Keyword.TheVariants as word
use Rattle.cob_tree.specs.StmtView.{plain_tree}
use Rattle.cob_tree.specs.PrintStmt.{print_tree, print_sentence, print_paragraph, print_end}
use Rattle.cob_tree.specs.Items.{Item, each, stop}
use Rattle.cob_tree.specs.PrintFront.{heading, print_name_and_stop, print_env, print_fd_clause, print_entry, print_fd, print_files, print_storage, print_data, print_front, print_if}
use Rattle.cob_data.specs.Entries.{placed, file_entries, fds_in, entries_in, list_if}
use Rattle.cob_data.specs.declared.description.Area.TheVariants.{File}
use Rattle.cob_data.specs.Known.{HasFewEntries}
use Rattle.cob_data.proofs.ReadLemmas.{placed_length, front_length}
use Rattle.cob_tree.specs.Limits.{token_limit}

at_least : (a b : List Item) (n : ℕ) → n ≤ length b → n ≤ length (a ++ b)
at_least a b n h = omega (arith, length-append a b)

at_front : (a b : List Item) (n : ℕ) → n ≤ length a → n ≤ length (a ++ b)
at_front a b n h = omega (arith, length-append a b)

both : (a b : List Item) (n m : ℕ) → n ≤ length a → m ≤ length b → n + m ≤ length (a ++ b)
both a b n m h k = omega (arith, length-append a b)

entries_printed : (es : List Entry) → length es ≤ length (each print_entry es)
entries_printed [] = omega arith
entries_printed (e ∷ es) =
    let first : 1 ≤ length (print_entry e) = omega arith in
    omega (arith, both (print_entry e) (each print_entry es) 1 (length es) first (entries_printed es))

fd_printed : (f : Fd) → length f.entries + 1 ≤ length (print_fd f)
fd_printed f =
    let inner = at_least (each print_fd_clause f.clauses) (stop 0 ∷ each print_entry f.entries) (length f.entries) (omega (arith, entries_printed f.entries)) in
    omega (arith, inner)

files_printed : (n : ℕ) (fs : List Fd) → length (file_entries n fs) + length fs ≤ length (each print_fd fs)
files_printed n [] = omega arith
files_printed n (f ∷ fs) =
    omega (arith, length-append (placed (File n) f.entries) (file_entries (n + 1) fs), placed_length (File n) f.entries, both (print_fd f) (each print_fd fs) (length f.entries + 1) (length (file_entries (n + 1) fs) + length fs) (fd_printed f) (files_printed (n + 1) fs))

files_if : (o : Option (List Fd)) → length (file_entries 0 (list_if o)) + length (list_if o) ≤ length (print_if print_files o)
files_if None = omega arith
files_if (Some fs) = at_least (heading (word.File ∷ word.Section ∷ [])) (each print_fd fs) (length (file_entries 0 fs) + length fs) (files_printed 0 fs)

storage_if : (o : Option (List Entry)) → length (list_if o) ≤ length (print_if print_storage o)
storage_if None = omega arith
storage_if (Some es) = at_least (heading (word.WorkingStorage ∷ word.Section ∷ [])) (each print_entry es) (length es) (entries_printed es)

abbrev count_in : Option Data → ℕ
count_in o = length (file_entries 0 (fds_in o)) + length (fds_in o) + length (entries_in o)

data_if : (o : Option Data) → count_in o ≤ length (print_if print_data o)
data_if None = omega arith
data_if (Some d) =
    at_least (heading (word.Data ∷ word.Division ∷ [])) (print_if print_files d.files ++ print_if print_storage d.storage) (count_in (Some d))
    (both (print_if print_files d.files) (print_if print_storage d.storage) (length (file_entries 0 (list_if d.files)) + length (list_if d.files)) (length (list_if d.storage)) (files_if d.files) (storage_if d.storage))

front_printed : (f : Front) → count_in f.«data» ≤ length (print_front f)
front_printed f =
    at_least (heading (word.Identification ∷ word.Division ∷ [])) (heading (word.ProgramId ∷ []) ++ (print_name_and_stop f.name ++ (print_if print_env f.env ++ print_if print_data f.«data»))) (count_in f.«data»)
    (at_least (heading (word.ProgramId ∷ [])) (print_name_and_stop f.name ++ (print_if print_env f.env ++ print_if print_data f.«data»)) (count_in f.«data»)
    (at_least (print_name_and_stop f.name) (print_if print_env f.env ++ print_if print_data f.«data») (count_in f.«data»)
    (at_least (print_if print_env f.env) (print_if print_data f.«data») (count_in f.«data») (data_if f.«data»))))

pub few_entries : (t : Tree) → length (print_tree (plain_tree t)) ≤ token_limit → HasFewEntries t.front
few_entries t few =
    let printed : count_in t.front.«data» ≤ length (print_tree (plain_tree t)) = at_front (print_front t.front) (heading (word.Procedure ∷ word.Division ∷ []) ++ (each print_sentence (plain_tree t).sentences ++ (each print_paragraph (plain_tree t).paragraphs ++ print_if print_end (plain_tree t).end))) (count_in t.front.«data») (front_printed t.front) in
    record {
      entries = omega (arith, few, printed, front_length t.front);
      fds = omega (arith, few, printed);
    }
