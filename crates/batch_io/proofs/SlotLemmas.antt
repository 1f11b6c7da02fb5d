-- Ids that are open in memory, and what a read does to them.
use Rattle.std.proofs.Common.{◌≡◌, ℕ, zero, suc, ◌<◌, List, [], ◌∷◌, ◌++◌, None, Some, Option, Ok, inl, inr, refl, sym, ap, ◌∙◌, length, get_or, set, take, drop, length-take, arith}
use Rattle.std.specs.Prelude.{option_map}
use Rattle.std.proofs.lemmas.Bool.{cases_eq}
use Rattle.std.proofs.lemmas.List.{drop-drop, get_or-set_same, get_or-set_other, take-append-drop}
use Rattle.batch_io.specs.declared.memory.Reader.{Reader}
use Rattle.batch_io.specs.declared.memory.Opened.{Opened}
use Rattle.batch_io.specs.declared.memory.Opened.TheVariants as opened
use Rattle.batch_io.specs.FilesState.{FilesState, Contents, Handle, Purpose, Reading, Gives, rest_of, moved_by, bytes_at}
use Rattle.batch_io.specs.FilesCalls.{Reads}
use Rattle.batch_io.specs.Slots.{slot_at}
use Rattle.batch_io.specs.Memory.{purpose_of, handle_of, ReadsOn, ReadsSlot}
use Rattle.batch_io.proofs.WholeLemmas.{kept_count}

-- an id in use has a slot
slot_within : {X : Type 0} (slots : List (Option X)) (id : ℕ) (x : X) → slot_at slots id ≡ Some x → id < length slots
slot_within [] id x there = absurd (cc)
slot_within (s ∷ slots) zero x there = omega arith
slot_within (s ∷ slots) (suc id) x there = let h = slot_within slots id x there in omega arith

-- the default does not count within the list
default_alike : {X : Type 0} (slots : List X) (id : ℕ) (a b : X) → id < length slots → get_or slots id a ≡ get_or slots id b
default_alike [] id a b within = absurd (omega arith)
default_alike (s ∷ slots) zero a b within = refl
default_alike (s ∷ slots) (suc id) a b within = default_alike slots id a b (omega arith)

slot_of_purpose : (slot : Option Opened) (purpose : Purpose) → option_map purpose_of slot ≡ Some purpose → (x : Opened) × (slot ≡ Some x)
slot_of_purpose None purpose there = absurd (cc)
slot_of_purpose (Some x) purpose there = (x, refl)

pub id_within : (slots : List (Option Opened)) (id : ℕ) (purpose : Purpose) → option_map purpose_of (slot_at slots id) ≡ Some purpose → id < length slots
id_within slots id purpose there = let found = slot_of_purpose (slot_at slots id) purpose there in slot_within slots id found.0 found.1

pub reads_slot : (contents : Contents) (slots : List (Option Opened)) (id : ℕ) (before after : Reader) (there : Option Opened) (buffer : List ℕ) (count : ℕ)
    → option_map purpose_of (slot_at slots id) ≡ Some Reading → there ≡ get_or slots id there → there ≡ Some (opened.Reading before)
    → ReadsOn contents before after buffer count → ReadsSlot contents slots (set slots id (Some (opened.Reading after))) id buffer count
reads_slot contents slots id before after there buffer count live is was read =
    let within = id_within slots id Reading live in
    record {
      read = (
        before,
        after,
        default_alike slots id None there within ∙ sym is ∙ was,
        get_or-set_same slots id (Some (opened.Reading after)) None within,
        read,
      );
      others = λ other apart. get_or-set_other slots id other (Some (opened.Reading after)) None apart;
    }

-- the state of files in memory, from their parts
abbrev pub state_of : Contents → List (Option Opened) → ℕ → ℕ → FilesState
state_of contents slots reading writing = record {
  told = Some (record { bytes = contents; handle = λ id. handle_of (slot_at slots id) });
  purpose = λ id. option_map purpose_of (slot_at slots id);
  reading = reading;
  writing = writing;
}

-- what stands at a place, and what stands count places on
rest_on : (contents : Contents) (handle : Handle) (front : List ℕ) (count : ℕ) → front ≡ take count (rest_of contents handle)
    → rest_of contents handle ≡ front ++ rest_of contents (moved_by count handle)
rest_on contents handle front count is =
    sym (take-append-drop count (rest_of contents handle))
    ∙ ap (λ l. l ++ drop count (rest_of contents handle)) (sym is)
    ∙ ap (λ l. front ++ l) (drop-drop count handle.place (bytes_at contents handle.name))

module _ (contents : Contents) (old new : List (Option Opened)) (id : ℕ) (buffer : List ℕ) (count reading writing : ℕ)
    (slot : ReadsSlot contents old new id buffer count) where
  abbrev before : Reader
  before = slot.read.0

  abbrev after : Reader
  after = slot.read.1

  on : ReadsOn contents before after buffer count
  on = slot.read.4

  was : slot_at old id ≡ Some (opened.Reading before)
  was = slot.read.2

  is : slot_at new id ≡ Some (opened.Reading after)
  is = slot.read.3

  moved : handle_of (slot_at new id) ≡ moved_by count (handle_of (slot_at old id))
  moved = ap handle_of is ∙ on.moved ∙ ap (λ s. moved_by count (handle_of s)) (sym was)

  purposes : (other : ℕ) → option_map purpose_of (slot_at new other) ≡ option_map purpose_of (slot_at old other)
  purposes other = elim (cases_eq other id) [
    | inl same ↦ rw same (ap (option_map purpose_of) is ∙ ap (option_map purpose_of) (sym was))
    | inr apart ↦ ap (option_map purpose_of) (slot.others other apart)
  ]

  size : length (take count buffer) ≡ count
  size = let fits = on.within in omega (arith, length-take count buffer)

  gives : Gives (state_of contents old reading writing) (state_of contents new reading writing) id (take count buffer)
  gives = record {
    contents = refl;
    purpose = purposes;
    others = λ other apart _. ap (λ s. Some (handle_of s)) (slot.others other apart);
    rest = ap (λ l. Some l) (rest_on contents (handle_of (slot_at old id)) (take count buffer) count (on.front ∙ ap (λ s. take count (rest_of contents (handle_of s))) (sym was))
        ∙ ap (λ h. take count buffer ++ rest_of contents h) (sym moved));
    moved = ap (λ h. Some h) (moved ∙ ap (λ n. moved_by n (handle_of (slot_at old id))) (sym size));
  }

  -- a read in memory
  pub reads_memory : Reads (state_of contents old reading writing) (state_of contents new reading writing) id buffer (Ok count)
  reads_memory = record {
    reading = kept_count reading reading refl;
    writing = refl;
    count = on.within;
    given = gives;
    ended = λ none. ap (λ s. rest_of contents (handle_of s)) was ∙ on.ended (cc none);
  }
