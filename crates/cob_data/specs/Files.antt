-- The rules on files, and on END PROGRAM.
use Rattle.std.specs.Prelude.{ℕ, max, Bool, true, false, not, ◌&&◌, ◌||◌, ◌==◌, if◌then◌else◌, List, [], ◌∷◌, find, count_by, Option, Some, None}
use Rattle.std.specs.List.{list_all, list_any}
use Rattle.std.specs.Str.{bytes_eq, str_eq_ignore_ascii_case}
use Rattle.cob_tree.specs.declared.form.Form.{Form}
use Rattle.cob_tree.specs.declared.form.Form.TheVariants as form
use Rattle.cob_tree.specs.declared.front.Select.{Select}
use Rattle.cob_tree.specs.declared.front.SelClause.{SelClause}
use Rattle.cob_tree.specs.declared.front.SelClause.TheVariants as sel
use Rattle.cob_tree.specs.declared.front.External.{External}
use Rattle.cob_tree.specs.declared.front.External.TheVariants as external
use Rattle.cob_tree.specs.declared.front.Fd.{Fd}
use Rattle.cob_tree.specs.declared.front.FdClause.{FdClause}
use Rattle.cob_tree.specs.declared.front.FdClause.TheVariants as fd
use Rattle.cob_tree.specs.declared.tree.EndProgram.{EndProgram}
use Rattle.cob_data.specs.declared.description.Area.TheVariants as area
use Rattle.cob_data.specs.declared.description.Description.{Description}
use Rattle.cob_data.specs.declared.description.Spot.{Spot}
use Rattle.cob_data.specs.Entries.{same_area}
use Rattle.cob_data.specs.Spots.{is_file}
use Rattle.cob_data.specs.Values.{is_number}

-- ---- SELECT and FD match one to one; an FD has an 01

abbrev pub selects_name : List ℕ → List Select → Bool
selects_name name selects = list_any (λ s. bytes_eq s.name name) selects

abbrev pub describes_name : List ℕ → List Fd → Bool
describes_name name fds = list_any (λ f. bytes_eq f.name name) fds

-- A SELECT without its own FD; of two of one name the later is to blame.
abbrev pub breaks_select_match : List Select → List Fd → Select → Bool
breaks_select_match before fds s = selects_name s.name before || not (describes_name s.name fds)

-- a record of the n-th FD
abbrev pub is_record_of : ℕ → Description → Bool
is_record_of n d = d.level == 1 && same_area (area.File n) d.area

abbrev pub breaks_fd_match : List Fd → List Select → List Description → ℕ → Fd → Bool
breaks_fd_match before selects ds n f =
    describes_name f.name before || not (selects_name f.name selects) || not (list_any (is_record_of n) ds)

-- ---- RECORD CONTAINS is the largest record length

abbrev pub longest : ℕ → ℕ → List Description → List Spot → ℕ
longest most n [] ss = most
longest most n (d ∷ ds) [] = most
longest most n (d ∷ ds) (s ∷ ss) = longest (if is_record_of n d then max most s.length else most) n ds ss

abbrev pub largest_record : ℕ → List Description → List Spot → ℕ
largest_record n ds ss = longest 0 n ds ss

abbrev pub contains_rightly : ℕ → FdClause → Bool
contains_rightly bytes (fd.RecordSize n) = is_number n bytes
contains_rightly bytes _ = true

abbrev pub breaks_record_size : List Description → List Spot → ℕ → Fd → Bool
breaks_record_size ds ss n f = not (list_all (contains_rightly (largest_record n ds ss)) f.clauses)

-- ---- external names differ after raising to capitals

abbrev pub external_text : External → List ℕ
external_text (external.Name text) = text
external_text (external.Text text) = text

abbrev pub breaks_externals : List Select → Select → Bool
breaks_externals before s =
    list_any (λ t. str_eq_ignore_ascii_case (external_text t.external) (external_text s.external)) before

-- ---- FILE STATUS names one X item of 2 bytes in working storage

abbrev pub is_status : SelClause → Bool
is_status (sel.Status name) = true
is_status _ = false

abbrev pub name_in : Option SelClause → Option (List ℕ)
name_in (Some (sel.Status name)) = Some name
name_in _ = None

abbrev pub status_of : Select → Option (List ℕ)
status_of s = name_in (find is_status s.clauses)

abbrev pub is_named : List ℕ → Description → Bool
is_named name d = named name d.name where
  named : List ℕ → Option (List ℕ) → Bool
  named name None = false
  named name (Some own) = bytes_eq own name

abbrev pub is_two_bytes : Form → Bool
is_two_bytes (form.Text n) = n == 2
is_two_bytes _ = false

abbrev pub is_status_holder : Description → Bool
is_status_holder d = not (is_file d.area) && is_two_bytes d.form

abbrev pub may_hold_status : List ℕ → Description → Bool
may_hold_status name d = is_named name d && is_status_holder d

abbrev pub is_status_item : List ℕ → List Description → Bool
is_status_item name ds = count_by (is_named name) ds == 1 && list_any (may_hold_status name) ds

abbrev pub is_wrong_status : List Description → Option (List ℕ) → Bool
is_wrong_status ds None = false
is_wrong_status ds (Some name) = not (is_status_item name ds)

abbrev pub breaks_status : List Description → Select → Bool
breaks_status ds s = is_wrong_status ds (status_of s)

-- ---- END PROGRAM names the program

abbrev pub breaks_end : List ℕ → EndProgram → Bool
breaks_end program e = not (bytes_eq e.name program)
