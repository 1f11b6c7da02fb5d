-- Statements that hold no statements, but for PERFORM and GO TO; and what stands before the lists of READ.
use Rattle.std.specs.Prelude.{ℕ, not, Bool, true, false, List, [], ◌∷◌, ◌++◌, map, slice_get, Option, Some, None, unwrap_or}
use Rattle.cob_tree.specs.declared.operand.Opnd.{Opnd}
use Rattle.cob_tree.specs.declared.operand.Ref.{Ref}
use Rattle.cob_tree.specs.declared.stmt.Mode.{Mode}
use Rattle.cob_tree.specs.declared.stmt.Mode.TheVariants as mode
use Rattle.cob_tree.specs.declared.stmt.OpenPhrase.{OpenPhrase}
use Rattle.cob_data.specs.declared.end.Rule.TheVariants.{Q2, Q8, Q9}
use Rattle.cob_data.specs.declared.layout.Item.{Item}
use Rattle.cob_data.specs.declared.layout.Flag.{Flag}
use Rattle.cob_data.specs.declared.layout.FileDecl.{FileDecl}
use Rattle.cob_data.specs.declared.layout.Pair.{Pair}
use Rattle.cob_data.specs.declared.layout.Sender.{Sender}
use Rattle.cob_data.specs.declared.layout.Sender.TheVariants as sender
use Rattle.cob_data.specs.Extents.{share_extents}
use Rattle.cob_data.specs.Occurrences.{extent_of, area_of}
use Rattle.cob_program.specs.declared.act.Opening.{Opening}
use Rattle.cob_program.specs.Act.{Act, move, nothing, open_files, close_files, write, show}
use Rattle.cob_typed_exprs.specs.Judged.{Judged, sound, demand, each_of, if_there, seen_as, ◌>>=◌}
use Rattle.cob_typed_exprs.specs.Scope.{Scope, the_item, one_of_kind, means_something, flag_named, file_named, record_named, plain_name, form_at}
use Rattle.cob_typed_exprs.specs.Kinds.{may_move}
use Rattle.cob_typed_exprs.specs.Sums.{operand}

-- SET moves the first value of the condition-name
abbrev pub first_value : List Pair → Sender
first_value [] = sender.Zero
first_value (p ∷ ps) = p.low

abbrev pub set_flag : Option Flag → Act
set_flag None = nothing
set_flag (Some f) = move (first_value f.ranges) (f.item ∷ [])

abbrev pub some_of : {A : Type 0} → List (Option A) → List A
some_of [] = []
some_of (None ∷ xs) = some_of xs
some_of (Some x ∷ xs) = x ∷ some_of xs

abbrev pub is_output : Mode → Bool
is_output mode.Input = false
is_output mode.Output = true

abbrev pub opening : Bool → ℕ → Opening
opening output file = record { file = file; output = output }

-- no byte of the item lies in the file's record area
abbrev pub lie_apart : Option FileDecl → Option Item → Bool
lie_apart (Some f) (Some i) = not (share_extents (area_of f) (extent_of i))
lie_apart _ _ = true

module _ (s : Scope) where
  -- ---- MOVE, SET, DISPLAY

  abbrev pub receiver : Sender → Ref → Judged ℕ
  receiver x r = the_item s r >>= λ place. demand Q2 (may_move s x (form_at s place)) place

  abbrev pub move_act : Opnd → List Ref → Judged Act
  move_act from to = operand s from >>= λ x. each_of (receiver x) to >>= λ places. sound (move x places)

  abbrev pub set_if : Option ℕ → Act
  set_if None = nothing
  set_if (Some place) = set_flag (slice_get s.layout.flags place)

  abbrev pub set_act : List ℕ → Judged Act
  set_act text = seen_as set_if (one_of_kind Q8 (means_something s (plain_name text)) (flag_named s (plain_name text)))

  abbrev pub show_act : List Opnd → Judged Act
  show_act operands = seen_as show (each_of (operand s) operands)

  -- ---- files

  abbrev pub the_file : List ℕ → Judged (Option ℕ)
  the_file text = one_of_kind Q9 (means_something s (plain_name text)) (file_named s text)

  abbrev pub openings : OpenPhrase → Judged (List Opening)
  openings o = seen_as (λ files. map (opening (is_output o.mode)) (some_of files)) (each_of the_file o.files)

  abbrev pub all_openings : List OpenPhrase → Judged (List Opening)
  all_openings [] = sound []
  all_openings (o ∷ os) = openings o >>= λ here. all_openings os >>= λ others. sound (here ++ others)

  abbrev pub open_act : List OpenPhrase → Judged Act
  open_act files = seen_as open_files (all_openings files)

  abbrev pub close_act : List (List ℕ) → Judged Act
  close_act names = seen_as (λ files. close_files (some_of files)) (each_of the_file names)

  abbrev pub into_of : Option ℕ → Ref → Judged ℕ
  into_of None r = the_item s r
  into_of (Some file) r = the_item s r >>= λ place. demand Q9 (lie_apart (slice_get s.layout.files file) (slice_get s.layout.items place)) place

  -- the file, and where its record goes
  abbrev pub read_parts : List ℕ → Option Ref → Judged (ℕ × Option ℕ)
  read_parts text into = the_file text >>= λ file. if_there (into_of file) into >>= λ place. sound (unwrap_or file 0, place)

  abbrev pub from_of : Option ℕ → Opnd → Judged Sender
  from_of None o = operand s o
  from_of (Some rec_) o = operand s o >>= λ x. demand Q2 (may_move s x (form_at s rec_)) x

  abbrev pub write_act : Ref → Option Opnd → Judged Act
  write_act r from =
      one_of_kind Q9 (means_something s r) (record_named s r) >>= λ rec_. if_there (from_of rec_) from >>= λ x. sound (write (unwrap_or rec_ 0) x)
