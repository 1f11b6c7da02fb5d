-- The parts of what each edge of the graph does: sending operands are read first, then divisors count, then each
-- receiver in turn is read and stored (ISO 1989:1985, "Procedure division").
use Rattle.std.specs.Prelude.{ℕ, ◌&&◌, if◌then◌else◌, Bool, true, false, List, [], ◌∷◌, ◌++◌, map, length, not, slice_get, Option, Some, None, is_some}
use Rattle.std.specs.List.{list_any}
use Rattle.std.specs.Option.{option_map, option_map_or}
use Rattle.dec_num.specs.declared.types.Mode.{Mode}
use Rattle.dec_num.specs.declared.types.Mode.TheVariants.{Trunc}
use Rattle.cob_tree.specs.declared.form.Form.{Form}
use Rattle.cob_tree.specs.declared.form.Form.TheVariants as form
use Rattle.cob_tree.specs.Forms.{is_number_form}
use Rattle.cob_data.specs.declared.layout.FileDecl.{FileDecl}
use Rattle.cob_data.specs.declared.layout.Layout.{Layout}
use Rattle.cob_data.specs.declared.layout.Pair.{Pair}
use Rattle.cob_data.specs.declared.layout.Sender.{Sender}
use Rattle.cob_data.specs.declared.layout.Sender.TheVariants as sender
use Rattle.cob_program.specs.declared.act.Target.{Target}
use Rattle.cob_program.specs.declared.act.How.{How}
use Rattle.cob_program.specs.declared.act.How.TheVariants as how
use Rattle.cob_program.specs.Sum as sum
use Rattle.cob_program.specs.Sum.{Sum, MkSum, no_parts, more_parts, MkPart, Factors, no_factors, more_factors, MkFactor, Atom, item, number, group}
use Rattle.cob_program.specs.Logic.{Test, numbers, texts, member}
use Rattle.cob_program.specs.Act.{times, varying, Act, arith, perform, open_files, close_files, write, Program}
use Rattle.cob_program.specs.Act as act
use Rattle.cob_runs.specs.declared.action.Action.{Action}
use Rattle.cob_runs.specs.declared.action.Action.TheVariants as action
use Rattle.cob_runs.specs.Contents.{form_at, item_at, scale_of, number_in}
use Rattle.cob_runs.specs.Moves.{takes_number, is_group_sender}
use Rattle.cob_runs.specs.Computing.{items_in}
use Rattle.cob_runs.specs.Acts.{decl_at, file_from}
use Rattle.cob_runs.specs.Effects.{is_times, tests_in_act}
use Rattle.cob_runs.specs.Steps.{is_given}

-- ---- parts

-- what a receiver gets
pub data Amount : Type 0 where
  -- the number of a sender
  moved : Sender → Amount
  -- the result of a sum, and of the receiver's own number where the target says so
  computed : Sum → How → Amount
  -- the remainder of a division whose quotient's item has so many decimals
  remaining : Sum → ℕ → Amount
  -- the receiver's own number, and a sender's added
  augmented : Sender → Amount

pub data Part : Type 0 where
  -- an item's contents are a number
  read : ℕ → Part
  -- a constant that is no number is asked for one; no program of the profile has this
  unread : Part
  -- A subscript's item is a number. The test tells a remainder's, whose turn may not come.
  subscript : Bool → ℕ → Part
  -- the number is that of an occurrence of a table, which has so many
  index : Bool → ℕ → ℕ → Part
  -- a divisor isn't 0
  divide : Atom → Part
  -- an item gets a value
  store : ℕ → Mode → Amount → Part
  -- Bytes from an offset on, so many, change to anything that the statement may put there.
  bytes_in : ℕ → ℕ → Part
  -- a test has this outcome
  guard : Test → Bool → Part
  -- the counter of the TIMES with a number is a number
  read_count : ℕ → Part
  -- the counter of a TIMES gets the number of a sender
  set_count : ℕ → Sender → Part
  -- the counter of a TIMES gets its own number less one
  count_down : ℕ → Part
  -- whether the counter of a TIMES is above 0
  guard_count : ℕ → Bool → Part

-- ---- divisors

abbrev mutual
  -- the divisors of a sum, what stands in one of them before it
  pub divisors_in : Sum → List Atom
  divisors_in (MkSum ps) = divisors_in_parts ps

  pub divisors_in_parts : sum.Parts → List Atom
  divisors_in_parts no_parts = []
  divisors_in_parts (more_parts (MkPart minus fs) ps) = divisors_in_factors fs ++ divisors_in_parts ps

  pub divisors_in_factors : Factors → List Atom
  divisors_in_factors no_factors = []
  divisors_in_factors (more_factors (MkFactor over minus a) fs) =
      divisors_in_atom a ++ (if over then a ∷ [] else []) ++ divisors_in_factors fs

  pub divisors_in_atom : Atom → List Atom
  divisors_in_atom (item place) = []
  divisors_in_atom (number n) = []
  divisors_in_atom (group s) = divisors_in s

abbrev pub is_under : How → Bool
is_under how.Under = true
is_under _ = false

-- The divisors of a sum, and the sum itself where it divides what receivers are worth.
abbrev pub divisors_of : Sum → List Target → List Atom
divisors_of s [] = []
divisors_of s (t ∷ ts) = divisors_in s ++ (if list_any (λ u. is_under u.how) (t ∷ ts) then group s ∷ [] else [])

-- ---- what is read

abbrev pub item_reads : List ℕ → List Part
item_reads places = map (λ place. read place) places

-- what is read of a sender as a number
abbrev pub number_reads : Sender → List Part
number_reads (sender.Item place) = read place ∷ []
number_reads (sender.Number n) = []
number_reads (sender.Text text) = if is_some (number_in (form.Text (length text)) text) then [] else unread ∷ []
number_reads (sender.Fill byte) = unread ∷ []
number_reads sender.Zero = []

-- a receiver is read at its turn, unless it gets the whole
abbrev pub own_reads : How → ℕ → List Part
own_reads how.Whole place = []
own_reads _ place = read place ∷ []

-- ---- arithmetic

abbrev pub divides : List Atom → List Part
divides atoms = map (λ a. divide a) atoms

abbrev pub target_parts : Sum → Target → List Part
target_parts s t = own_reads t.how t.item ++ store t.item t.mode (computed s t.how) ∷ []

-- each receiver in turn
abbrev pub targets_parts : Sum → List Target → List Part
targets_parts s [] = []
targets_parts s (t ∷ ts) = target_parts s t ++ targets_parts s ts

-- VARYING goes on as by ADD
abbrev pub augment_parts : ℕ → Sender → List Part
augment_parts place by = number_reads by ++ (read place ∷ store place Trunc (augmented by) ∷ [])

-- A comparison of two sums. The items of both are read before a divisor counts.
abbrev pub compare_parts : Sum → Sum → List Part
compare_parts a b = item_reads (items_in a) ++ (item_reads (items_in b) ++ divides (divisors_in a ++ divisors_in b))

module _ (l : Layout) where
  abbrev pub remainder_parts : Sum → List Target → Option ℕ → List Part
  remainder_parts s (t ∷ []) (Some place) = store place Trunc (remaining s (scale_of (form_at l t.item))) ∷ []
  remainder_parts s ts remainder = []

  abbrev pub arith_parts : Sum → List Target → Option ℕ → List Part
  arith_parts s targets remainder =
      item_reads (items_in s) ++ (divides (divisors_of s targets) ++
      (targets_parts s targets ++ remainder_parts s targets remainder))

  -- ---- MOVE

  abbrev pub is_number_item : Sender → Bool
  is_number_item (sender.Item place) = is_number_form (form_at l place)
  is_number_item _ = false

  -- a sender as text, which a numeric item gives by its number
  abbrev pub text_reads : Sender → List Part
  text_reads x = if is_number_item x then number_reads x else []

  -- whether an item of this form gets a value, and not bytes
  abbrev pub gets_value : Form → Sender → Bool
  gets_value f x = takes_number f && not (is_group_sender l x)

  -- whether the sender is read for an item of this form
  abbrev pub is_read_for : Form → Sender → Bool
  is_read_for (form.Text n) x = is_number_item x
  is_read_for f x = gets_value f x

  abbrev pub item_bytes : ℕ → List Part
  item_bytes place = option_map_or (λ i. bytes_in i.offset i.length ∷ []) (item_at l place) []

  abbrev pub receiver_parts : Sender → ℕ → List Part
  receiver_parts x place =
      if gets_value (form_at l place) x then store place Trunc (moved x) ∷ [] else item_bytes place

  abbrev pub receivers_parts : Sender → List ℕ → List Part
  receivers_parts x [] = []
  receivers_parts x (place ∷ places) = receiver_parts x place ++ receivers_parts x places

  -- the sender is read once
  abbrev pub move_parts : Sender → List ℕ → List Part
  move_parts x places =
      (if list_any (λ place. is_read_for (form_at l place) x) places then number_reads x else [])
      ++ receivers_parts x places

  -- ---- conditions

  abbrev pub end_reads : List Pair → List Part
  end_reads [] = []
  end_reads (p ∷ ps) = text_reads p.low ++ (text_reads p.high ++ end_reads ps)

  -- an item that is a number is read, whatever the ends are
  abbrev pub member_reads : ℕ → List Pair → List Part
  member_reads place [] = []
  member_reads place (p ∷ ps) = text_reads (sender.Item place) ++ end_reads (p ∷ ps)

  -- what is read before a test is decided
  abbrev pub test_reads : Test → List Part
  test_reads (numbers a r b) = compare_parts a b
  test_reads (texts a r b) = text_reads a ++ text_reads b
  test_reads (member place ps) = member_reads place ps
  test_reads _ = []

  abbrev pub test_parts : Bool → Option Test → List Part
  test_parts wanted None = []
  test_parts wanted (Some t) = test_reads t ++ guard t wanted ∷ []

  -- ---- files

  -- FILE STATUS has two digits
  abbrev pub status_parts : Option ℕ → List Part
  status_parts None = []
  status_parts (Some place) = option_map_or (λ i. bytes_in i.offset 2 ∷ []) (item_at l place) []

  -- the status, and the record area where it is filled or undefined
  abbrev pub file_parts : Bool → Option FileDecl → List Part
  file_parts area None = []
  file_parts area (Some d) = status_parts d.status ++ (if area then bytes_in d.offset d.length ∷ [] else [])

  -- The parts of a call on a file, if there is one.
  abbrev pub file_call_parts : Bool → Option ℕ → List Part
  file_call_parts area None = []
  file_call_parts area (Some f) = file_parts area (decl_at l f)

  abbrev pub into_parts : Option ℕ → List Part
  into_parts None = []
  into_parts (Some place) = item_bytes place

  abbrev pub from_parts : ℕ → Option Sender → List Part
  from_parts rec_ None = []
  from_parts rec_ (Some x) = move_parts x (rec_ ∷ [])

-- ---- edges

module _ (p : Program) (statement : ℕ) where
  abbrev pub assign_parts : Act → List Part
  assign_parts (act.move x places) = move_parts p.layout x places
  assign_parts (perform body (varying after place start by t)) = move_parts p.layout start (place ∷ [])
  assign_parts (act.read f into end fine) = into_parts p.layout into
  assign_parts (write r from) = from_parts p.layout r from
  assign_parts _ = []

  abbrev pub compute_parts : Act → List Part
  compute_parts (arith s targets remainder size fine) = arith_parts p.layout s targets remainder
  compute_parts (perform body (varying after place start by t)) = augment_parts place by
  compute_parts _ = []

  -- the test of TIMES, or a simple condition
  abbrev pub condition_parts : Bool → ℕ → Act → List Part
  condition_parts wanted k (perform body (times x)) = read_count statement ∷ guard_count statement wanted ∷ []
  condition_parts wanted k a = test_parts p.layout wanted (slice_get (tests_in_act a) k)

  abbrev pub count_parts : Act → List Part
  count_parts (perform body (times x)) = number_reads x ++ set_count statement x ∷ []
  count_parts _ = []

  -- a WRITE that is done leaves the record area undefined
  abbrev pub call_parts : Bool → ℕ → Act → List Part
  call_parts fine k (open_files os) = file_call_parts p.layout false (option_map (λ o. o.file) (slice_get os k))
  call_parts fine k (close_files fs) = file_call_parts p.layout false (slice_get fs k)
  call_parts fine k (write r from) = file_call_parts p.layout fine (file_from p.layout 0 p.layout.files r)
  call_parts fine k _ = []

  -- each READ fills the record area, or leaves it undefined
  abbrev pub read_parts : Act → List Part
  read_parts (act.read f into end fine) = file_parts p.layout true (decl_at p.layout f)
  read_parts _ = []

  abbrev pub bad_parts : ℕ → Act → List Part
  bad_parts k (act.read f into end fine) = file_parts p.layout true (decl_at p.layout f)
  bad_parts k a = call_parts false k a

  -- the parts of an edge, where its node's statement does this
  abbrev pub parts_of : Act → Action → List Part
  parts_of a action.Skip = []
  parts_of a action.Assign = assign_parts a
  parts_of a action.Done = compute_parts a
  parts_of a action.Size = compute_parts a
  parts_of a (action.True k) = condition_parts true k a
  parts_of a (action.False k) = condition_parts false k a
  parts_of a action.SetCount = count_parts a
  parts_of a action.Down = read_count statement ∷ count_down statement ∷ []
  parts_of a (action.Open k) = call_parts true k a
  parts_of a (action.Close k) = call_parts true k a
  parts_of a action.Take = read_parts a
  parts_of a action.AtEnd = read_parts a
  parts_of a (action.Bad k) = bad_parts k a
  parts_of a action.Write = call_parts true 0 a
  parts_of a action.Show = []

-- ---- kinds of edges

abbrev pub has_phrase : Act → Bool
has_phrase (arith s targets remainder size fine) = is_given size
has_phrase _ = false

-- whether an edge goes to the list of ON SIZE ERROR
abbrev pub is_handled : Act → Action → Bool
is_handled a action.Size = has_phrase a
is_handled a _ = false

-- whether an edge reads the counter of its statement
abbrev pub reads_count : Act → Action → Bool
reads_count a action.Down = true
reads_count a (action.True k) = is_times a
reads_count a (action.False k) = is_times a
reads_count a _ = false
