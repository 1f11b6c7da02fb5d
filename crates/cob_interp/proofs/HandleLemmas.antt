-- What calls on the outside's files say of those that are open.
use Rattle.std.proofs.Common.{◌≡◌, ℕ, zero, suc, ◌+◌, ◌<◌, ◌≤◌, ◌⊎◌, inl, inr, not, Bool, true, false, List, [], ◌∷◌, ◌++◌, length, Option, Some, None, Result, Ok, Err, refl, sym, ap, subst, ◌∙◌, arith}
use Rattle.std.specs.Prelude.{slice_get, slice_set, option_map, is_some, IsSome, IfSome, IfErr}
use Rattle.std.specs.FinMap.{get, insert}
use Rattle.std.proofs.Math.Seq.{take-length}
use Rattle.std.proofs.lemmas.Bool.{false≢true, cases_order}
use Rattle.batch_io.specs.declared.ends.Failed.{Failed}
use Rattle.batch_io.specs.declared.ends.OpenEnd.TheVariants as opening
use Rattle.batch_io.specs.Faults.{Rose}
use Rattle.batch_io.specs.FilesState.{Contents, FilesState, Told, Handle, Purpose, Reading, Writing, known_bytes, known_handle}
use Rattle.batch_io.specs.declared.ends.MakeEnd.{MakeEnd}
use Rattle.batch_io.specs.FilesCalls.{OpensId, Opens, Empties, Creates, Closes}
use Rattle.batch_io.specs.Wholes.{ReadsRecord, PutsWhole, Grows}
use Rattle.cob_interp.specs.Tracking.{Ids, IsHeld, IsHeldFor, purpose_by, AreNone, AreOpen}
use Rattle.cob_interp.specs.Readying.{AreWell, Keeps, IsEmpty, KeepsHandles, OpensFor, CreatesFor, IsCreatedIn, CreatesPart, PutsUnder, PutsUnderPart, PutsShort, ClosesFor, ClosesAll, IsRefusedAt, IsFirst, faults_by, GivesRecord, IsRefusal, close_fault, first_refusal}
use Rattle.cob_interp.specs.declared.ends.RunEnd.{RunEnd}
use Rattle.cob_interp.specs.declared.ends.RunEnd.TheVariants as end
use Rattle.cob_interp.proofs.TrackLemmas.{get_set_other, held_in_set}
use Rattle.cob_interp.proofs.SeenFiles.{insert_agrees, insert_gets}

-- ---- lists of ids

pub none_more : (ids : Ids) → AreNone ids → AreNone (ids ++ None ∷ [])
none_more [] none zero id writes is = cc
none_more [] none (suc place) id writes is = cc
none_more (x ∷ ids) none zero id writes is = none zero id writes is
none_more (x ∷ ids) none (suc place) id writes is =
    none_more ids (λ p i u is_. none (suc p) i u is_) place id writes is

pub none_empty : AreNone []
none_empty place id writes is = cc

pub set_none : (ids : Ids) (place : ℕ) → ((id : ℕ) (writes : Bool) → IsHeld ids place writes id → ⊥) → slice_set ids place None ≡ ids
set_none [] place none = refl
set_none (None ∷ ids) zero none = refl
set_none (Some x ∷ ids) zero none = absurd (none x.id x.writes refl)
set_none (x ∷ ids) (suc place) none = ap (λ (ys : Ids). x ∷ ys) (set_none ids place none)

out_of : (ids : Ids) (place id : ℕ) (writes : Bool) → length ids ≤ place
    → IsHeld (slice_set ids place None) place writes id → ⊥
out_of [] place id writes out is = cc
out_of (x ∷ ids) zero id writes out is = omega arith
out_of (x ∷ ids) (suc place) id writes out is = out_of ids place id writes (omega arith) is

-- those at the first places are closed
pub none_below : (ids : Ids) (place : ℕ) → ((p id : ℕ) (writes : Bool) → p < place → IsHeld ids p writes id → ⊥)
    → (p id : ℕ) (writes : Bool) → p < place + 1 → IsHeld (slice_set ids place None) p writes id → ⊥
none_below ids place none p id writes below is = by (cases_order p place) where
  inside : (length ids ≤ place) ⊎ (place < length ids)
  inside = elim (cases_order place (length ids)) [
    | inl e ↦ inl (omega (arith, e))
    | inr (inl l) ↦ inr l
    | inr (inr l) ↦ inl (omega (arith, l))
  ]

  by : (p ≡ place) ⊎ ((p < place) ⊎ (place < p)) → ⊥
  by (inl e) = elim inside [
    | inl out ↦
        out_of ids place id writes out (subst (λ (n : ℕ). IsHeld (slice_set ids place None) n writes id) e is)
    | inr within ↦ elim (held_in_set ids place p id writes None within is) [
      | inl here ↦ let h : None ≡ Some (record { id = id; writes = writes }) = here.1 in absurd (cc)
      | inr was ↦ was.0 e
    ]
  ]
  by (inr (inl l)) = none p id writes l (sym (get_set_other ids place p None (λ e. omega (arith, e, l))) ∙ is)
  by (inr (inr l)) = omega (arith, l, below)

-- ---- an OPEN

if_told : (o : Option Told) (c : Option Contents) (told : Contents) (Is : Contents → Type 0) → c ≡ Some told → IfSome c Is
    → Is told
if_told o None told Is e h = cc
if_told o (Some x) told Is e h = let same : x ≡ told = cc in subst Is same h

abbrev at_first : List ℕ → Handle
at_first name = record { name = name; place = 0 }

begins_by : (told : Option Told) (name : List ℕ)
    → IfSome (option_map (λ _. at_first name) told) (λ handle. handle ≡ at_first name)
begins_by None name = tt
begins_by (Some x) name = refl

begins_at : (told : Option Told) (known : Option Handle) (name : List ℕ) → known ≡ option_map (λ _. at_first name) told
    → IfSome known (λ handle. handle ≡ at_first name)
begins_at told known name e =
    subst (λ (o : Option Handle). IfSome o (λ handle. handle ≡ at_first name)) (sym e) (begins_by told name)

module _ (old new : FilesState) (ids : Ids) (name : List ℕ) (place : ℕ) (within : place < length ids) where
  others_kept : (id : ℕ) (purpose : Purpose) → OpensId old new id name purpose → KeepsHandles old new
  others_kept id purpose opens other some = opens.others.handle other
      (λ e. false≢true (subst (λ (o : Option Purpose). IsSome o)
      (subst (λ (n : ℕ). old.purpose n ≡ None) (sym e) opens.fresh) some)) some

  pub opens_for : (id : ℕ) → Opens old new name (Ok id) → OpensFor old new ids (slice_set ids place (Some (record { id = id; writes = false }))) name place true
  opens_for id opens = record {
    well = record { reading = opens.reading.kept refl; writing = opens.writing };
    within = within;
    there_ = λ told e.
        sym (if_told old.told (known_bytes old) told (λ contents. IsSome (get contents name)) e opens.present);
    opened = (id, refl, begins_at old.told (known_handle new id) name opens.ids.handle);
    others = others_kept id Reading opens.ids;
  }

  none_is : (o : Option (List ℕ)) → o ≡ None → false ≡ is_some o
  none_is o e = ap is_some (sym e)

  pub absent_for : Opens old new name (Err opening.Absent) → OpensFor old new ids ids name place false
  absent_for opens = record {
    well = record { reading = opens.reading.kept refl; writing = opens.writing };
    within = within;
    there_ = λ told e. none_is (get told name)
        (if_told old.told (known_bytes old) told (λ contents. get contents name ≡ None) e (opens.absent refl));
    opened = refl;
    others = λ other some. opens.ids.handle other some;
  }

  -- ---- a file that is made

  empties_by : Empties old new name → (told : Contents) → known_bytes old ≡ Some told
      → Keeps told (known_bytes new) name (IsEmpty name told)
  empties_by emptied told e = record {
    now = insert told name [];
    is = emptied ∙ ap (option_map (λ contents. insert contents name [])) e;
    others = insert_agrees told name [];
    it = insert_gets told name [];
  }

  pub creates_for : (id : ℕ) → Creates old new name (Ok id)
      → CreatesFor old new ids (slice_set ids place (Some (record { id = id; writes = true }))) name place
  creates_for id creates = record {
    within = within;
    empties = record {
      well = record { reading = creates.reading; writing = creates.writing.kept refl };
      known = empties_by creates.emptied;
    };
    opened = (id, refl, begins_at old.told (known_handle new id) name creates.ids.handle);
    others = others_kept id Writing creates.ids;
  }

module _ (old new : FilesState) (name : List ℕ) where
  created_by : (known_bytes new ≡ known_bytes old) ⊎ Empties old new name → (told : Contents) → known_bytes old ≡ Some told
      → IsCreatedIn name told (known_bytes new)
  created_by (inl same) told e =
      record { now = told; is = same ∙ e; others = λ other apart. refl; it = inl refl }
  created_by (inr emptied) told e = record {
    now = insert told name [];
    is = emptied ∙ ap (option_map (λ contents. insert contents name [])) e;
    others = insert_agrees told name [];
    it = inr (insert_gets told name []);
  }

  pub creates_part : (result : Result ℕ MakeEnd) → Creates old new name result → CreatesPart old new name
  creates_part (Ok id) creates = record { known = created_by (inr creates.emptied) }
  creates_part (Err e) creates = record { known = created_by creates.refused }

pub created_none : (a : FilesState) (name : List ℕ) → CreatesPart a a name
created_none a name = record { known = created_by a a name (inl refl) }

-- ---- bytes that are put

pub puts_under : (old new : FilesState) (ids : Ids) (place id : ℕ) (bytes : List ℕ) → IsHeld ids place true id
    → PutsWhole old new id bytes (Ok tt) → PutsUnder old new ids place bytes
puts_under old new ids place id bytes is puts = record {
  well = record { reading = puts.reading; writing = puts.writing.kept refl };
  id = id;
  is = is;
  grows = puts.ok;
}

pub puts_under_part : (old new : FilesState) (ids : Ids) (place id : ℕ) (bytes : List ℕ) (result : Result (Unit {0}) MakeEnd)
    → IsHeld ids place true id → PutsWhole old new id bytes result → PutsUnderPart old new ids place bytes
puts_under_part old new ids place id bytes (Ok u) is puts = record {
  id = id;
  is = is;
  front = (length bytes, subst (λ (x : List ℕ). Grows old new id x) (sym (take-length bytes)) puts.ok);
}
puts_under_part old new ids place id bytes (Err e) is puts =
    record { id = id; is = is; front = (puts.err.0, puts.err.2) }

pub puts_short : (old new : FilesState) (ids : Ids) (place id : ℕ) (bytes : List ℕ) (e : MakeEnd)
    → IsHeld ids place true id → PutsWhole old new id bytes (Err e) → PutsShort old new ids place bytes
puts_short old new ids place id bytes e is puts = record { id = id; is = is; front = puts.err }

-- ---- a CLOSE

module _ (old new : FilesState) (ids : Ids) (place id : ℕ) (writes : Bool) (is : IsHeld ids place writes id)
    (within : place < length ids) (live : AreOpen old ids) where
  -- which count rises where it fails
  well_closed : (u : Bool) → old.purpose id ≡ Some (purpose_by u) → Closes old new id (Ok tt) → AreWell old new
  well_closed true at closes =
      record { reading = closes.reading_kept at; writing = (closes.writing at).kept refl }
  well_closed false at closes =
      record { reading = (closes.reading at).kept refl; writing = closes.writing_kept at }

  pub closes_for : Closes old new id (Ok tt) → ClosesFor old new ids (slice_set ids place None) place
  closes_for closes = record {
    well = well_closed writes (live.purpose place id writes is) closes;
    ids = λ other i u at. elim (held_in_set ids place other i u None within at) [
      | inl here ↦ absurd (cc)
      | inr was ↦ (
        was.1,
        closes.others.handle i
            (λ e. was.0 (live.apart other place id u writes (subst (λ (n : ℕ). IsHeld ids other u n) e was.1) is))
            (subst (λ (o : Option Purpose). IsSome o) (sym (live.purpose other i u was.1)) refl),
      )
    ];
  }

  ill_closed : (u : Bool) → old.purpose id ≡ Some (purpose_by u) → (e : Failed) → Closes old new id (Err e)
      → IsRefusal old new (close_fault u)
  ill_closed true at e closes = (closes.writing at).rose refl
  ill_closed false at e closes = (closes.reading at).rose refl

  pub close_refused : (e : Failed) → Closes old new id (Err e) → IsRefusal old new (close_fault writes)
  close_refused e closes = ill_closed writes (live.purpose place id writes is) e closes

  later_counts : (u : Bool) (r : Result (Unit {0}) Failed) → old.purpose id ≡ Some (purpose_by u) → Closes old new id r
      → (old.reading ≤ new.reading) × (old.writing ≤ new.writing)
  later_counts true r at closes = (let e = closes.reading_kept at in omega (arith, e), (closes.writing at).later)
  later_counts false r at closes = ((closes.reading at).later, let e = closes.writing_kept at in omega (arith, e))

  pub closes_one : Closes old new id (Ok tt) → ClosesAll old new (Ok tt)
  closes_one closes =
      let later = later_counts writes (Ok tt) (live.purpose place id writes is) closes in
      record {
        reading = later.0;
        writing = later.1;
        counts = well_closed writes (live.purpose place id writes is) closes;
      }

  pub closes_ill : (e : Failed) → Closes old new id (Err e) → ClosesAll old new (Err (close_fault writes))
  closes_ill e closes =
      let later = later_counts writes (Err e) (live.purpose place id writes is) closes in
      record { reading = later.0; writing = later.1; counts = close_refused e closes }

  other_kept : (u : Bool) (r : Result (Unit {0}) Failed) → old.purpose id ≡ Some (purpose_by u) → Closes old new id r
      → faults_by (not u) new ≡ faults_by (not u) old
  other_kept true r at closes = closes.reading_kept at
  other_kept false r at closes = closes.writing_kept at

  pub refused_at : (r : Result (Unit {0}) Failed) → Closes old new id r → (e : RunEnd) → e ≡ close_fault writes
      → IsRefusedAt old new ids place e
  refused_at r closes e told = record {
    writes = writes;
    held = (id, is);
    is = told;
    other = other_kept writes r (live.purpose place id writes is) closes;
  }

-- ---- a record

pub record_given : (old new : FilesState) (ids : Ids) (place id size : ℕ) (room : List ℕ) (count : ℕ) → IsHeld ids place false id
    → length room ≡ size → ReadsRecord old new id room (Ok count) → GivesRecord old new ids place size room count
record_given old new ids place id size room count is whole reads = record {
  whole = whole;
  well = record { reading = reads.reading.kept refl; writing = reads.writing };
  id = id;
  is = is;
  within = reads.count;
  given = reads.given;
  ended = reads.ended;
}

-- ---- one close after another

rose_between : (a b c : ℕ) → a ≤ b → Rose b c → Rose a c
rose_between a b c below rose = omega (arith, below, rose)

rose_later : (a b c : ℕ) → b ≤ c → Rose a b → Rose a c
rose_later a b c later rose = omega (arith, later, rose)

later_refusal : (a b c : FilesState) → a.reading ≤ b.reading → a.writing ≤ b.writing → (e : RunEnd) → IsRefusal b c e
    → IsRefusal a c e
later_refusal a b c reading writing end.ReadFault r = rose_between a.reading b.reading c.reading reading r
later_refusal a b c reading writing end.WriteFault r = rose_between a.writing b.writing c.writing writing r
later_refusal a b c reading writing end.Memory r = tt
later_refusal a b c reading writing (end.Ragged place count) r = absurd r
later_refusal a b c reading writing (end.StepsSpent count) r = absurd r
later_refusal a b c reading writing (end.IoStop status statement) r = absurd r
later_refusal a b c reading writing (end.Fault kind statement step) r = absurd r

refusal_later : (a b c : FilesState) → b.reading ≤ c.reading → b.writing ≤ c.writing → (e : RunEnd) → IsRefusal a b e
    → IsRefusal a c e
refusal_later a b c reading writing end.ReadFault r = rose_later a.reading b.reading c.reading reading r
refusal_later a b c reading writing end.WriteFault r = rose_later a.writing b.writing c.writing writing r
refusal_later a b c reading writing end.Memory r = tt
refusal_later a b c reading writing (end.Ragged place count) r = absurd r
refusal_later a b c reading writing (end.StepsSpent count) r = absurd r
refusal_later a b c reading writing (end.IoStop status statement) r = absurd r
refusal_later a b c reading writing (end.Fault kind statement step) r = absurd r

up : (a b c : ℕ) → a ≤ b → b ≤ c → a ≤ c
up a b c h k = omega (arith, h, k)

pub closes_more : (a b c : FilesState) (first other : Result (Unit {0}) RunEnd) → ClosesAll a b first
    → ClosesAll b c other → ClosesAll a c (first_refusal first other)
closes_more a b c (Ok u) (Ok v) h k = record {
  reading = up a.reading b.reading c.reading h.reading k.reading;
  writing = up a.writing b.writing c.writing h.writing k.writing;
  counts = record {
    reading = k.counts.reading ∙ h.counts.reading;
    writing = k.counts.writing ∙ h.counts.writing;
  };
}
closes_more a b c (Ok u) (Err e) h k = record {
  reading = up a.reading b.reading c.reading h.reading k.reading;
  writing = up a.writing b.writing c.writing h.writing k.writing;
  counts = later_refusal a b c h.reading h.writing e k.counts;
}
closes_more a b c (Err e) other h k = record {
  reading = up a.reading b.reading c.reading h.reading k.reading;
  writing = up a.writing b.writing c.writing h.writing k.writing;
  counts = refusal_later a b c k.reading k.writing e h.counts;
}

pub closes_nothing : (a : FilesState) → ClosesAll a a (Ok tt)
closes_nothing a =
    record { reading = omega arith; writing = omega arith; counts = record { reading = refl; writing = refl } }

-- ---- the first refused close

well_by : (a b : FilesState) (u : Bool) → AreWell a b → faults_by u b ≡ faults_by u a
well_by a b true well = well.writing
well_by a b false well = well.reading

-- files that are closed at the first places
abbrev pub Before : Ids → ℕ → ℕ → Bool → Type 0
Before ids n place writes = (place < n) × IsHeldFor ids place writes

pub first_map : (A B : ℕ → Bool → Type 0) → ((place : ℕ) (writes : Bool) → A place writes → B place writes)
    → (a c : FilesState) (e : RunEnd) → IsFirst A a c e → IsFirst B a c e
first_map A B f a c e first = record {
  place = first.place;
  writes = first.writes;
  closed_ = f first.place first.writes first.closed_;
  is = first.is;
  other = elim first.other [
    | inl same ↦ inl same
    | inr b ↦ inr (b.0, b.1, f b.0 (not first.writes) b.2)
  ];
}

-- from counts that are the same
pub first_from : (C : ℕ → Bool → Type 0) (a b c : FilesState) → ((writes : Bool) → faults_by writes b ≡ faults_by writes a)
    → (e : RunEnd) → IsFirst C b c e → IsFirst C a c e
first_from C a b c same e first = record {
  place = first.place;
  writes = first.writes;
  closed_ = first.closed_;
  is = first.is;
  other = elim first.other [
    | inl kept ↦ inl (kept ∙ same (not first.writes))
    | inr b_ ↦ inr b_
  ];
}

pub first_all : (ids : Ids) (n : ℕ) (a c : FilesState) (r : Result (Unit {0}) RunEnd)
    → IfErr r (λ e. IsFirst (Before ids n) a c e)
    → IfErr r (λ e. IsFirst (λ place writes. IsHeldFor ids place writes) a c e)
first_all ids n a c (Ok u) h = tt
first_all ids n a c (Err e) h =
    first_map (Before ids n) (λ place writes. IsHeldFor ids place writes) (λ place writes both. both.1) a c e h

module _ (ids now : Ids) (n : ℕ) (same : (place : ℕ) → n ≤ place → slice_get now place ≡ slice_get ids place)
    (a b c : FilesState) where
  held_there : (u : Bool) → IsHeldFor now n u → IsHeldFor ids n u
  held_there u h = (h.0, sym (same n (omega arith)) ∙ h.1)

  later : (u w : Bool) → faults_by (not w) c ≡ faults_by (not w) b → IsHeldFor now n w
      → (faults_by u c ≡ faults_by u b) ⊎ IsHeldFor now n u
  later true true kept held = inr held
  later false false kept held = inr held
  later true false kept held = inl kept
  later false true kept held = inl kept

  still_first : (e : RunEnd) (first : IsFirst (Before ids n) a b e)
      → (faults_by (not first.writes) c ≡ faults_by (not first.writes) b) ⊎ IsHeldFor now n (not first.writes)
      → IsFirst (Before ids (n + 1)) a c e
  still_first e first then_ =
      let up : (place : ℕ) → place < n → place < n + 1 = λ place below. omega (arith, below) in
      record {
        place = first.place;
        writes = first.writes;
        closed_ = (up first.place first.closed_.0, first.closed_.1);
        is = first.is;
        other = elim first.other [
          | inl kept ↦ elim then_ [
            | inl on ↦ inl (on ∙ kept)
            | inr held ↦ inr (n, first.closed_.0, (omega arith, held_there (not first.writes) held))
          ]
          | inr b_ ↦ inr (b_.0, b_.1, (up b_.0 b_.2.0, b_.2.1))
        ];
      }

  pub first_more : (first other : Result (Unit {0}) RunEnd) → ClosesAll a b first → ClosesAll b c other
      → IfErr first (λ e. IsFirst (Before ids n) a b e) → IfErr other (λ e. IsRefusedAt b c now n e)
      → IfErr (first_refusal first other) (λ e. IsFirst (Before ids (n + 1)) a c e)
  first_more (Ok u) (Ok v) h k f r = tt
  first_more (Ok u) (Err e) h k f r = record {
    place = n;
    writes = r.writes;
    closed_ = (omega arith, held_there r.writes r.held);
    is = r.is;
    other = inl (r.other ∙ well_by a b (not r.writes) h.counts);
  }
  first_more (Err e) (Ok v) h k f r = still_first e f (inl (well_by b c (not f.writes) k.counts))
  first_more (Err e) (Err d) h k f r = still_first e f (later (not f.writes) r.writes r.other r.held)
