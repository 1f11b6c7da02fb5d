-- Ids that are open, from call to call.
use Rattle.std.proofs.Common.{◌≡◌, ◌≢◌, ℕ, zero, suc, Bool, List, [], ◌∷◌, length, Option, Some, None, refl, sym, ap, subst, ◌∙◌, ◌⊎◌, inl, inr, ◌<◌, arith}
use Rattle.std.specs.Prelude.{slice_get, slice_set, IsSome, IfSome}
use Rattle.std.proofs.lemmas.Bool.{cases_eq, false≢true}
use Rattle.batch_io.specs.FilesState.{FilesState, Gives, KeepsIds, KeepsOthers, known_handle}
use Rattle.batch_io.specs.FilesCalls.{OpensId}
use Rattle.cob_runs.specs.Files.{File}
use Rattle.cob_interp.specs.declared.handles.Held.{Held}
use Rattle.cob_interp.specs.Tracking.{Ids, purpose_by, IsHeld, IsElse, AreNone, AreOpen, KeepsBut, Tracks, StandAt, ArePlaced, StayAt, KeepsPlaces}
use Rattle.cob_interp.proofs.Purposes.{count_kept}

-- ---- no id changes

pub tracks_ids : (old new : FilesState) (ids : Ids) → KeepsIds old new → AreOpen old ids → Tracks old new ids ids
tracks_ids old new ids keeps live = record {
  live = record {
    purpose = λ place id writes is. keeps.purpose id ∙ live.purpose place id writes is;
    apart = live.apart;
  };
  others = λ first k. record {
    fresh = k.fresh;
    purpose = λ id else_. keeps.purpose id ∙ k.purpose id else_;
    handle = λ id else_ some.
        keeps.handle id (subst (λ o. IsSome o) (sym (k.purpose id else_)) some) ∙ k.handle id else_ some;
  };
}

pub tracks_stay : (a : FilesState) (ids : Ids) → AreOpen a ids → Tracks a a ids ids
tracks_stay a ids live = record { live = live; others = λ first k. k }

pub ids_stay : (a : FilesState) → KeepsIds a a
ids_stay a = record { purpose = λ id. refl; handle = λ id some. refl }

pub tracks_pass : (a b c : FilesState) (x y z : Ids) → Tracks a b x y → Tracks b c y z → Tracks a c x z
tracks_pass a b c x y z h k = record { live = k.live; others = λ first q. k.others first (h.others first q) }

-- ---- a read

pub tracks_given : (old new : FilesState) (ids : Ids) (place id : ℕ) (writes : Bool) (bytes : List ℕ)
    → IsHeld ids place writes id → Gives old new id bytes → AreOpen old ids → Tracks old new ids ids
tracks_given old new ids place id writes bytes is given live = record {
  live = record {
    purpose = λ p i u at. given.purpose i ∙ live.purpose p i u at;
    apart = live.apart;
  };
  others = λ first k. record {
    fresh = k.fresh;
    purpose = λ i else_. given.purpose i ∙ k.purpose i else_;
    handle = λ i else_ some.
        given.others i (λ e. else_ place writes (subst (λ n. IsHeld ids place writes n) (sym e) is))
        (subst (λ o. IsSome o) (sym (k.purpose i else_)) some) ∙ k.handle i else_ some;
  };
}

-- ---- places in a list

pub get_set_same : {X : Type 0} (xs : List X) (place : ℕ) (x : X) → place < length xs
    → slice_get (slice_set xs place x) place ≡ Some x
get_set_same [] place x within = absurd (omega arith)
get_set_same (y ∷ xs) zero x within = refl
get_set_same (y ∷ xs) (suc place) x within = get_set_same xs place x (omega arith)

pub get_set_other : {X : Type 0} (xs : List X) (place other : ℕ) (x : X) → other ≢ place
    → slice_get (slice_set xs place x) other ≡ slice_get xs other
get_set_other [] place other x apart = refl
get_set_other (y ∷ xs) zero zero x apart = absurd (apart refl)
get_set_other (y ∷ xs) zero (suc other) x apart = refl
get_set_other (y ∷ xs) (suc place) zero x apart = refl
get_set_other (y ∷ xs) (suc place) (suc other) x apart = get_set_other xs place other x (λ e. apart (ap suc e))

-- which ids are held behind a change at a place
pub held_in_set : (ids : Ids) (place other id : ℕ) (writes : Bool) (x : Option Held) → place < length ids
    → IsHeld (slice_set ids place x) other writes id
    → ((other ≡ place) × (x ≡ Some (record { id = id; writes = writes }))) ⊎ ((other ≢ place) × IsHeld ids other writes id)
held_in_set ids place other id writes x within is = elim (cases_eq other place) [
  | inl same ↦
      let at : slice_get (slice_set ids place x) place ≡ Some (Some (record { id = id; writes = writes })) =
      subst (λ n. slice_get (slice_set ids place x) n ≡ Some (Some (record { id = id; writes = writes }))) same is in
      let e : Some x ≡ Some (Some (record { id = id; writes = writes })) = sym (get_set_same ids place x within) ∙ at in
      inl (same, cc)
  | inr apart ↦ inr (apart, sym (get_set_other ids place other x apart) ∙ is)
]

pub held_still : (ids : Ids) (place other id : ℕ) (writes : Bool) (x : Option Held) → other ≢ place
    → IsHeld ids other writes id → IsHeld (slice_set ids place x) other writes id
held_still ids place other id writes x apart is = get_set_other ids place other x apart ∙ is

pub same_held : (x y : Held) → Some x ≡ Some y → x ≡ y
same_held x y e = cc

pub same_slot : (x y : Held) → Some (Some x) ≡ Some (Some y) → x ≡ y
same_slot x y e = cc

-- ---- an id is opened

module _ (old new : FilesState) (ids : Ids) (place id : ℕ) (writes : Bool) (name : List ℕ) (within : place < length ids)
    (free : (other : ℕ) (more : Bool) → IsHeld ids place more other → ⊥)
    (opens : OpensId old new id name (purpose_by writes)) (live : AreOpen old ids) where
  abbrev slot : Option Held
  slot = Some (record { id = id; writes = writes })

  abbrev after : Ids
  after = slice_set ids place slot

  -- an id that was held before is another one
  other_id : (p i : ℕ) (u : Bool) → IsHeld ids p u i → i ≢ id
  other_id p i u is e =
      let o = live.purpose p i u is in
      let f = opens.fresh in
      let g : old.purpose i ≡ None = subst (λ n. old.purpose n ≡ None) (sym e) f in
      cc

  own : IsHeld after place writes id
  own = get_set_same ids place slot within

  was_else : (i : ℕ) → i ≢ id → IsElse after i → IsElse ids i
  was_else i apart else_ p u is = elim (cases_eq p place) [
    | inl same ↦ free i u (subst (λ n. IsHeld ids n u i) same is)
    | inr differ ↦ else_ p u (held_still ids place p i u slot differ is)
  ]

  same_id : (i : ℕ) (u : Bool) → slot ≡ Some (record { id = i; writes = u }) → id ≡ i
  same_id i u e = ap (λ (x : Held). x.id) (same_held (record { id = id; writes = writes }) (record { id = i; writes = u }) e)

  same_use : (i : ℕ) (u : Bool) → slot ≡ Some (record { id = i; writes = u }) → writes ≡ u
  same_use i u e =
      ap (λ (x : Held). x.writes) (same_held (record { id = id; writes = writes }) (record { id = i; writes = u }) e)

  pub tracks_opened : Tracks old new ids after
  tracks_opened = record {
    live = record {
      purpose = λ p i u is. elim (held_in_set ids place p i u slot within is) [
        | inl here ↦
            subst (λ n. new.purpose n ≡ Some (purpose_by u)) (same_id i u here.1)
            (subst (λ w. new.purpose id ≡ Some (purpose_by w)) (same_use i u here.1) opens.opened)
        | inr there ↦ opens.others.purpose i (other_id p i u there.1) ∙ live.purpose p i u there.1
      ];
      apart = λ p q i u v is is_. elim (held_in_set ids place p i u slot within is) [
        | inl here ↦ elim (held_in_set ids place q i v slot within is_) [
          | inl here_ ↦ here.0 ∙ sym here_.0
          | inr there_ ↦ absurd (other_id q i v there_.1 (sym (same_id i u here.1)))
        ]
        | inr there ↦ elim (held_in_set ids place q i v slot within is_) [
          | inl here_ ↦ absurd (other_id p i u there.1 (sym (same_id i v here_.1)))
          | inr there_ ↦ live.apart p q i u v there.1 there_.1
        ]
      ];
    };
    others = λ first k.
        let apart : (i : ℕ) → IsElse after i → i ≢ id =
        λ i else_ e. else_ place writes (subst (λ n. IsHeld after place writes n) (sym e) own) in
        record {
          fresh = λ p i u is. elim (held_in_set ids place p i u slot within is) [
            | inl here ↦
                subst (λ n. first.purpose n ≡ None) (same_id i u here.1)
                (sym (k.purpose id (λ q v is_. other_id q id v is_ refl)) ∙ opens.fresh)
            | inr there ↦ k.fresh p i u there.1
          ];
          purpose = λ i else_.
              opens.others.purpose i (apart i else_) ∙ k.purpose i (was_else i (apart i else_) else_);
          handle = λ i else_ some.
              let before = was_else i (apart i else_) else_ in
              opens.others.handle i (apart i else_) (subst (λ o. IsSome o) (sym (k.purpose i before)) some)
              ∙ k.handle i before some;
        };
  }

-- ---- an id is closed

module _ (old new : FilesState) (ids : Ids) (place id : ℕ) (writes : Bool) (within : place < length ids)
    (is_here : IsHeld ids place writes id) (closed : new.purpose id ≡ None) (keeps : KeepsOthers old new id)
    (live : AreOpen old ids) where
  abbrev left : Ids
  left = slice_set ids place None

  -- what is held still is another one
  still : (p i : ℕ) (u : Bool) → IsHeld left p u i → IsHeld ids p u i × (i ≢ id)
  still p i u is = elim (held_in_set ids place p i u None within is) [
    | inl here ↦ absurd (cc)
    | inr there ↦ (
      there.1,
      λ e. there.0 (live.apart p place id u writes (subst (λ n. IsHeld ids p u n) e there.1) is_here),
    )
  ]

  pub tracks_closed : Tracks old new ids left
  tracks_closed = record {
    live = record {
      purpose = λ p i u is. let s = still p i u is in keeps.purpose i s.1 ∙ live.purpose p i u s.0;
      apart = λ p q i u v is is_. live.apart p q i u v (still p i u is).0 (still q i v is_).0;
    };
    others = λ first k. record {
      fresh = λ p i u is. k.fresh p i u (still p i u is).0;
      purpose = λ i else_. elim (cases_eq i id) [
        | inl same ↦
            subst (λ n. new.purpose n ≡ first.purpose n) (sym same) (closed ∙ sym (k.fresh place id writes is_here))
        | inr apart ↦ keeps.purpose i apart ∙ k.purpose i (else_before i apart else_)
      ];
      handle = λ i else_ some. elim (cases_eq i id) [
        | inl same ↦
            let none : first.purpose i ≡ None =
            subst (λ n. first.purpose n ≡ None) (sym same) (k.fresh place id writes is_here) in
            absurd (false≢true (subst (λ o. IsSome o) none some))
        | inr apart ↦
            let before = else_before i apart else_ in
            keeps.handle i apart (subst (λ o. IsSome o) (sym (k.purpose i before)) some) ∙ k.handle i before some
      ];
    };
  } where
    else_before : (i : ℕ) → i ≢ id → IsElse left i → IsElse ids i
    else_before i apart else_ p u is = elim (cases_eq p place) [
      | inl same ↦
          let at : IsHeld ids place u i = subst (λ n. IsHeld ids n u i) same is in
          apart (ap (λ (x : Held). x.id)
          (same_slot (record { id = i; writes = u }) (record { id = id; writes = writes }) (sym at ∙ is_here)))
      | inr differ ↦ else_ p u (held_still ids place p i u None differ is)
    ]

-- ---- the first and the last ids

pub none_open : (a : FilesState) (ids : Ids) → AreNone ids → AreOpen a ids
none_open a ids none = record {
  purpose = λ place id writes is. absurd (none place id writes is);
  apart = λ place other id writes more is is_. absurd (none place id writes is);
}

pub none_kept : (a : FilesState) (ids : Ids) → AreNone ids → KeepsBut a a ids
none_kept a ids none = record {
  fresh = λ place id writes is. absurd (none place id writes is);
  purpose = λ id else_. refl;
  handle = λ id else_ some. refl;
}

-- where none is read in the end each id is as it was
pub ids_kept : (old new : FilesState) (ids last : Ids) → AreNone ids → AreNone last → Tracks old new ids last
    → KeepsIds old new
ids_kept old new ids last none none_ t =
    let k = t.others old (none_kept old ids none) in
    record {
      purpose = λ id. k.purpose id (λ place writes is. none_ place id writes is);
      handle = λ id some. k.handle id (λ place writes is. none_ place id writes is) some;
    }

-- ---- where they stand

pub none_stand : (paths : List (List ℕ)) (a : FilesState) (ids : Ids) (fs : List File) → AreNone ids
    → StandAt paths a ids fs
none_stand paths a ids fs none place id writes path f is = absurd (none place id writes is)

pub stand_on : (paths : List (List ℕ)) (a : FilesState) (ids : Ids) (fs gs : List File) → StayAt fs gs
    → StandAt paths a ids fs → StandAt paths a ids gs
stand_on paths a ids fs gs stay stand place id writes path g is at has open_ =
    let f = stay place g has open_ in
    subst (λ n. IfSome (known_handle a id) (λ handle. handle ≡ record { name = path; place = n })) f.3
    (stand place id writes path f.0 is at f.1 f.2)

-- where the files that are read keep their places
pub placed_on : (paths : List (List ℕ)) (a : FilesState) (ids : Ids) (fs gs : List File) → KeepsPlaces fs gs
    → ArePlaced paths a ids fs → ArePlaced paths a ids gs
placed_on paths a ids fs gs keeps placed = record {
  count = count_kept fs gs keeps.purposes ∙ placed.count;
  stand = stand_on paths a ids fs gs keeps.each placed.stand;
  purposes = placed.purposes ∙ sym keeps.purposes;
}

pub places_stay : (fs : List File) → KeepsPlaces fs fs
places_stay fs = record { each = λ place g has reads. (g, has, reads, refl); purposes = refl }

pub places_pass : (fs gs hs : List File) → KeepsPlaces fs gs → KeepsPlaces gs hs → KeepsPlaces fs hs
places_pass fs gs hs h k = record {
  each = λ place x has reads.
      let g = k.each place x has reads in
      let f = h.each place g.0 g.1 g.2 in
      (f.0, f.1, f.2, f.3 ∙ g.3);
  purposes = k.purposes ∙ h.purposes;
}
