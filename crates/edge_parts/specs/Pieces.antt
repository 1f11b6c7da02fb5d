-- Pieces of lists of parts, where the code cuts them.
use Rattle.std.specs.Prelude.{ℕ, if◌then◌else◌, Bool, List, [], ◌∷◌, ◌++◌, length, Option, Some, None, is_some}
use Rattle.std.specs.List.{list_any}
use Rattle.cob_tree.specs.declared.form.Form.TheVariants as form
use Rattle.cob_data.specs.declared.layout.FileDecl.{FileDecl}
use Rattle.cob_data.specs.declared.layout.Layout.{Layout}
use Rattle.cob_data.specs.declared.layout.Sender.{Sender}
use Rattle.cob_program.specs.declared.act.Target.{Target}
use Rattle.cob_program.specs.Sum as sum
use Rattle.cob_program.specs.Sum.{Sum, MkPart, Factor, MkFactor, Atom, group}
use Rattle.cob_program.specs.Logic.{Test}
use Rattle.cob_program.specs.Act.{Act, read, When, MkWhen}
use Rattle.cob_runs.specs.Contents.{form_at, number_in}
use Rattle.cob_runs.specs.Computing.{items_in, items_in_factors}
use Rattle.cob_runs.specs.Effects.{tests_in_list}
use Rattle.cob_edge_parts.specs.Parts.{Part, unread, bytes_in, set_count, divides, divisors_in, divisors_in_factors, divisors_in_atom, is_under, item_reads, number_reads, is_read_for, text_reads}

-- the items of a product
abbrev pub product_items : sum.Part → List ℕ
product_items (MkPart minus fs) = items_in_factors fs

-- the divisors of a product
abbrev pub product_divisors : sum.Part → List Atom
product_divisors (MkPart minus fs) = divisors_in_factors fs

-- the file that a READ reads
abbrev pub file_read : Act → Option ℕ
file_read (read f into end fine) = Some f
file_read _ = None

-- the divisors of an operand, and itself where it divides
abbrev pub factor_divisors : Factor → List Atom
factor_divisors (MkFactor over minus a) = divisors_in_atom a ++ (if over then a ∷ [] else [])

-- the whole sum, where it divides a receiver
abbrev pub whole_divisors : Sum → List Target → List Atom
whole_divisors s ts = if list_any (λ t. is_under t.how) ts then group s ∷ [] else []

-- the divisors of two sides
abbrev pub sides_divisors : Sum → Sum → List Atom
sides_divisors a b = divisors_in a ++ divisors_in b

-- what is read and divided by behind the items of the left side
abbrev pub right_side_parts : Sum → Sum → List Part
right_side_parts a b = item_reads (items_in b) ++ divides (sides_divisors a b)

-- what is read of a text as a number
abbrev pub text_number_reads : List ℕ → List Part
text_number_reads text = if is_some (number_in (form.Text (length text)) text) then [] else unread ∷ []

-- what is read of a sender for some receivers
abbrev pub sender_reads : Layout → Sender → List ℕ → List Part
sender_reads l x places =
    if list_any (λ place. is_read_for l (form_at l place) x) places then number_reads x else []

-- what is read of two sides as text
abbrev pub sides_reads : Layout → Sender → Sender → List Part
sides_reads l x y = text_reads l x ++ text_reads l y

-- the record area of a file, where it changes
abbrev pub area_parts : Bool → FileDecl → List Part
area_parts changes d = if changes then bytes_in d.offset d.length ∷ [] else []

-- the counter of a TIMES is set
abbrev pub times_parts : ℕ → Sender → List Part
times_parts number x = number_reads x ++ set_count number x ∷ []

-- the simple conditions of a WHEN
abbrev pub tests_in_when : When → List Test
tests_in_when (MkWhen tests ss) = tests_in_list tests
