-- What each part of an edge does to storage and counters, and the fault that it meets.
use Rattle.std.specs.Prelude.{◌≡◌, ℕ, suc, ◌-◌, ◌==◌, ◌||◌, ◌&&◌, ◌⊎◌, if◌then◌else◌, Bool, true, false, not, List, [], ◌∷◌, length, slice_get, slice_set, Option, Some, None, Ok, Err, ℤ, pos, ◌-ℤ◌, unsigned_abs}
use Rattle.std.specs.Option.{option_map, option_map_or}
use Rattle.dec_num.specs.declared.types.Mode.{Mode}
use Rattle.dec_num.specs.declared.types.Scaled.{Scaled}
use Rattle.dec_num.specs.Exact.{Fraction}
use Rattle.dec_num.specs.Scaled.{value_of}
use Rattle.cob_tree.specs.declared.fault.Kind.{Kind}
use Rattle.cob_tree.specs.declared.fault.Kind.TheVariants as kind
use Rattle.cob_data.specs.declared.layout.Layout.{Layout}
use Rattle.cob_program.specs.Sum.{Atom}
use Rattle.cob_program.specs.Values.{◌>>=◌, whole_number, plus, atom_value, root_of}
use Rattle.cob_runs.specs.Contents.{written, form_at, filled_at, number_at, occurrence_number, stored}
use Rattle.cob_runs.specs.Moves.{number_of}
use Rattle.cob_runs.specs.Computing.{worth, result, remainder_of}
use Rattle.cob_runs.specs.Deciding.{test_holds}
use Rattle.cob_runs.specs.Subscripts.{in_table}
use Rattle.cob_edge_parts.specs.Parts.{Amount, moved, computed, remaining, augmented, Part, read, unread, subscript, index, divide, store, bytes_in, guard, read_count, set_count, count_down, guard_count}

-- ---- moments

-- Storage and counters between two parts of an edge, and what is remembered along it: storage where the edge begins, in
-- which operands are read, since their Reads come before the first Store; the number that was read last, which at a
-- Store is the receiver's own; on an edge to the list of ON SIZE ERROR, whether a divisor was 0, and whether some
-- receiver kept its value.
pub record Moment : Type 0 where
  pub storage : List ℕ
  pub counts : List (Option ℤ)
  pub first : List ℕ
  pub own : Scaled
  pub by_zero : Bool
  pub failed : Bool

abbrev pub moment : List ℕ → List (Option ℤ) → List ℕ → Scaled → Bool → Bool → Moment
moment storage counts first own by_zero failed = record {
  storage = storage;
  counts = counts;
  first = first;
  own = own;
  by_zero = by_zero;
  failed = failed;
}

-- The moment at which an edge begins.
abbrev pub beginning : List ℕ → List (Option ℤ) → Moment
beginning storage counts = moment storage counts storage (whole_number (pos 0)) false false

abbrev pub with_storage : Moment → List ℕ → Moment
with_storage m storage = moment storage m.counts m.first m.own m.by_zero m.failed

abbrev pub with_own : Moment → Scaled → Moment
with_own m own = moment m.storage m.counts m.first own m.by_zero m.failed

abbrev pub with_count : Moment → ℕ → ℤ → Moment
with_count m statement n =
    moment m.storage (slice_set m.counts (statement - 1) (Some n)) m.first m.own m.by_zero m.failed

-- a receiver keeps its value
abbrev pub with_failure : Moment → Moment
with_failure m = moment m.storage m.counts m.first m.own m.by_zero true

-- a divisor is 0, so that every receiver keeps its value
abbrev pub divided_by_zero : Moment → Moment
divided_by_zero m = moment m.storage m.counts m.first m.own true true

-- ---- counters

-- the count of a statement, whose numbers begin with 1
abbrev pub count_in : List (Option ℤ) → ℕ → Option ℤ
count_in counts statement = option_map_or (λ c. c) (slice_get counts (statement - 1)) None

abbrev pub is_positive : ℤ → Bool
is_positive (pos (suc n)) = true
is_positive _ = false

-- ---- what receivers get

-- a divisor has a value, which isn't 0
abbrev pub divides_by : (ℕ → Scaled) → Atom → Bool
divides_by worth_ a = option_map_or (λ v. not (unsigned_abs v.units == 0)) (atom_value worth_ a) false

-- the fault where a receiver doesn't hold it
abbrev pub misfit_of : Amount → Kind
misfit_of (moved x) = kind.Truncation
misfit_of _ = kind.Size

-- A remainder is left alone where the quotient doesn't fit.
abbrev pub is_left_alone : Moment → Amount → Bool
is_left_alone m (remaining s scale) = m.by_zero || m.failed
is_left_alone m _ = m.by_zero

-- No turn comes behind a divisor that is 0, and a remainder's, the last one, doesn't where its quotient failed.
abbrev pub skipped : Bool → Moment → Bool
skipped last m = m.by_zero || (last && m.failed)

-- ---- areas that change

-- what stood in an area, or other bytes of its length
abbrev pub changed_in : Option (List ℕ) → ℕ → ℕ → List ℕ → List ℕ
changed_in None offset count storage = storage
changed_in (Some bytes) offset count storage = if length bytes == count then written storage offset bytes else storage

-- ---- parts

module _ (l : Layout) where
  -- the exact value, where no divisor is 0
  abbrev pub amount : Moment → Amount → Option Fraction
  amount m (moved x) = option_map value_of (number_of l m.first x)
  amount m (computed s how) = result (worth l m.first) s how m.own
  amount m (remaining s scale) = remainder_of (worth l m.first) scale (root_of s)
  amount m (augmented x) = option_map (λ v. value_of (plus m.own v)) (number_of l m.first x)

  -- the bytes that a receiver gets, where it holds its value
  abbrev pub stored_bytes : Moment → ℕ → Mode → Amount → Option (List ℕ)
  stored_bytes m place mode a = amount m a >>= stored mode (form_at l place)

  -- what doesn't fit leaves the receiver as it is
  abbrev pub stored_or_kept : Moment → ℕ → Option (List ℕ) → Moment
  stored_or_kept m place None = with_failure m
  stored_or_kept m place (Some bytes) = with_storage m (filled_at l m.storage place bytes)

  -- ---- passing a part

  -- Receivers aren't read behind a divisor that is 0.
  abbrev pub ReadsAt : Bool → ℕ → Moment → Moment → Type 0
  ReadsAt true place m n = n ≡ m
  ReadsAt false place m n = (v : Scaled) × (number_at l m.storage place ≡ Some v) × (n ≡ with_own m v)

  -- a subscript's item has no occurrences
  abbrev pub subscript_in : Moment → ℕ → Option Scaled
  subscript_in m item = occurrence_number l m.storage item 0

  -- by whether its turn doesn't come
  abbrev pub ReadsSubscript : Bool → ℕ → Moment → Moment → Type 0
  ReadsSubscript true item m n = n ≡ m
  ReadsSubscript false item m n = (v : Scaled) × (subscript_in m item ≡ Some v) × (n ≡ m)

  abbrev pub Finds : Bool → ℕ → ℕ → Moment → Moment → Type 0
  Finds true item count m n = n ≡ m
  Finds false item count m n =
      (v : Scaled) × (subscript_in m item ≡ Some v) × (at : ℕ) × (in_table count v.units ≡ Ok at) × (n ≡ m)

  abbrev pub Divides : Bool → Atom → Moment → Moment → Type 0
  Divides true a m n = n ≡ (if divides_by (worth l m.first) a then m else divided_by_zero m)
  Divides false a m n = (divides_by (worth l m.first) a ≡ true) × (n ≡ m)

  abbrev pub Stores : Bool → ℕ → Mode → Amount → Moment → Moment → Type 0
  Stores true place mode a m n = n ≡ (if is_left_alone m a then m else stored_or_kept m place
      (stored_bytes m place mode a))
  Stores false place mode a m n =
      (held : List ℕ) × (stored_bytes m place mode a ≡ Some held) × (n ≡ with_storage m
      (filled_at l m.storage place held))

  -- A part is passed from one moment to the next. An edge to the list of ON SIZE ERROR is told by the first argument:
  -- there a divisor may be 0, and a receiver may keep its value.
  abbrev pub Passes : Bool → Part → Moment → Moment → Type 0
  Passes handled (read place) m n = ReadsAt m.by_zero place m n
  Passes handled unread m n = ⊥
  Passes handled (subscript last item) m n = ReadsSubscript (skipped last m) item m n
  Passes handled (index last item count) m n = Finds (skipped last m) item count m n
  Passes handled (divide a) m n = Divides handled a m n
  Passes handled (store place mode a) m n = Stores handled place mode a m n
  Passes handled (bytes_in offset count) m n =
      (change : Option (List ℕ)) × (n ≡ with_storage m (changed_in change offset count m.storage))
  Passes handled (guard t wanted) m n = (test_holds l m.storage t ≡ Ok wanted) × (n ≡ m)
  Passes handled (read_count statement) m n =
      (v : ℤ) × (count_in m.counts statement ≡ Some v) × (n ≡ with_own m (whole_number v))
  Passes handled (set_count statement x) m n =
      (v : Scaled) × (number_of l m.first x ≡ Some v) × (n ≡ with_count m statement v.units)
  Passes handled (count_down statement) m n = n ≡ with_count m statement (m.own.units -ℤ pos 1)
  Passes handled (guard_count statement wanted) m n =
      (v : ℤ) × (count_in m.counts statement ≡ Some v) × (is_positive v ≡ wanted) × (n ≡ m)

  -- ---- faults

  -- The fault that a part meets where it isn't passed.
  abbrev pub Faults : Bool → Part → Moment → Kind → Type 0
  Faults handled (read place) m fault =
      (m.by_zero ≡ false) × (number_at l m.storage place ≡ None) × (fault ≡ kind.Class)
  Faults handled unread m fault = fault ≡ kind.Class
  Faults handled (subscript last item) m fault =
      (skipped last m ≡ false) × (subscript_in m item ≡ None) × (fault ≡ kind.Class)
  Faults handled (index last item count) m fault =
      (skipped last m ≡ false) × (v : Scaled) × (subscript_in m item ≡ Some v) × (in_table count v.units ≡ Err fault)
  Faults false (divide a) m fault = (divides_by (worth l m.first) a ≡ false) × (fault ≡ kind.Zero)
  Faults false (store place mode a) m fault = (stored_bytes m place mode a ≡ None) × (fault ≡ misfit_of a)
  Faults handled part m fault = ⊥

  -- ---- along an edge

  module _ (handled : Bool) where
    -- the parts are passed in turn
    abbrev pub PassesAll : List Part → Moment → Moment → Type 0
    PassesAll [] m n = n ≡ m
    PassesAll (x ∷ xs) m n = (next : Moment) × Passes handled x m next × PassesAll xs next n

    -- a part meets the fault, or is passed and one behind it does
    abbrev pub Meets : List Part → Moment → Kind → Type 0
    Meets [] m fault = ⊥
    Meets (x ∷ xs) m fault = Faults handled x m fault ⊎ ((next : Moment) × Passes handled x m next
        × Meets xs next fault)
