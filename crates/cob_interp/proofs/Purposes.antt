-- Which files have ids, and what for.
use Rattle.std.proofs.Common.{◌≡◌, ℕ, zero, suc, ◌+◌, Bool, true, false, List, [], ◌∷◌, ◌++◌, length, map, replicate, Option, Some, None, refl, sym, ap, ◌∙◌, arith}
use Rattle.std.specs.Prelude.{slice_get, slice_set, option_map}
use Rattle.std.proofs.lemmas.List.{length-map}
use Rattle.std.proofs.lemmas.Option.{slice_get-map}
use Rattle.batch_io.specs.FilesState.{Contents, Purpose}
use Rattle.cob_runs.specs.Files.{File, file, Mode, closed, reading, writing}
use Rattle.cob_interp.specs.declared.handles.Held.{Held}
use Rattle.cob_interp.specs.Told.{seen_file, seen_files}
use Rattle.cob_interp.specs.Tracking.{Ids, IsHeldFor, purpose_by, purpose_in, purposes_of, purpose_for, purposes_for}

-- ---- one element is new

pub map_set : {X Y : Type 0} (f : X → Y) (xs : List X) (place : ℕ) (x : X)
    → map f (slice_set xs place x) ≡ slice_set (map f xs) place (f x)
map_set f [] place x = refl
map_set f (y ∷ xs) zero x = refl
map_set {X} {Y} f (y ∷ xs) (suc place) x = ap (λ (ys : List Y). f y ∷ ys) (map_set f xs place x)

pub set_same : {X : Type 0} (xs : List X) (place : ℕ) (x : X) → slice_get xs place ≡ Some x → slice_set xs place x ≡ xs
set_same [] place x at = refl
set_same {X} (y ∷ xs) zero x at = let same : y ≡ x = cc in ap (λ (z : X). z ∷ xs) (sym same)
set_same {X} (y ∷ xs) (suc place) x at = ap (λ (ys : List X). y ∷ ys) (set_same xs place x at)

pub purposes_set : (fs : List File) (place : ℕ) (g : File)
    → purposes_of (slice_set fs place g) ≡ slice_set (purposes_of fs) place (purpose_in g.mode)
purposes_set fs place g = map_set (λ (f : File). purpose_in f.mode) fs place g

pub purpose_at : (fs : List File) (place : ℕ) (f : File) → slice_get fs place ≡ Some f
    → slice_get (purposes_of fs) place ≡ Some (purpose_in f.mode)
purpose_at fs place f has =
    slice_get-map (λ (g : File). purpose_in g.mode) fs place
    ∙ ap (λ (o : Option File). option_map (λ (g : File). purpose_in g.mode) o) has

-- a file that is new keeps its purpose
pub purposes_kept : (fs : List File) (place : ℕ) (f g : File) → slice_get fs place ≡ Some f
    → purpose_in g.mode ≡ purpose_in f.mode → purposes_of (slice_set fs place g) ≡ purposes_of fs
purposes_kept fs place f g has same =
    purposes_set fs place g
    ∙ set_same (purposes_of fs) place (purpose_in g.mode)
    (purpose_at fs place f has ∙ ap (λ (o : Option Purpose). Some o) (sym same))

-- ---- how many files there are

pub set_length : {X : Type 0} (xs : List X) (place : ℕ) (x : X) → length (slice_set xs place x) ≡ length xs
set_length [] place x = refl
set_length (y ∷ xs) zero x = refl
set_length (y ∷ xs) (suc place) x = ap suc (set_length xs place x)

purposes_length : (fs : List File) → length (purposes_of fs) ≡ length fs
purposes_length fs = length-map fs (λ (f : File). purpose_in f.mode)

pub count_kept : (fs gs : List File) → purposes_of gs ≡ purposes_of fs → length gs ≡ length fs
count_kept fs gs same =
    sym (purposes_length gs) ∙ ap (λ (ps : List (Option Purpose)). length ps) same ∙ purposes_length fs

-- where one of them is new
pub count_set : (fs gs : List File) (place : ℕ) (p : Option Purpose) → purposes_of gs ≡ slice_set (purposes_of fs) place p
    → length gs ≡ length fs
count_set fs gs place p same =
    sym (purposes_length gs) ∙ ap (λ (ps : List (Option Purpose)). length ps) same
    ∙ set_length (purposes_of fs) place p ∙ purposes_length fs

-- ---- files that are closed

purposes_pushed : (ids : Ids) → purposes_for (ids ++ None ∷ []) ≡ purposes_for ids ++ None ∷ []
purposes_pushed [] = refl
purposes_pushed (x ∷ ids) = ap (λ (ps : List (Option Purpose)). purpose_for x ∷ ps) (purposes_pushed ids)

abbrev nothing : Option Purpose
nothing = None

none_next : (n : ℕ) → replicate n nothing ++ None ∷ [] ≡ replicate (suc n) nothing
none_next zero = refl
none_next (suc n) = ap (λ (ps : List (Option Purpose)). None ∷ ps) (none_next n)

pub none_pushed : (ids : Ids) (n : ℕ) → purposes_for ids ≡ replicate n None
    → purposes_for (ids ++ None ∷ []) ≡ replicate (n + 1) None
none_pushed ids n e =
    let next : suc n ≡ n + 1 = omega arith in
    purposes_pushed ids ∙ ap (λ (ps : List (Option Purpose)). ps ++ None ∷ []) e ∙ none_next n
    ∙ ap (λ (k : ℕ). replicate k None) next

-- ---- the id of a file

slot_is : (ids : Ids) (place : ℕ) (p : Option Purpose) → slice_get (purposes_for ids) place ≡ Some p
    → (slot : Option Held) × (slice_get ids place ≡ Some slot) × (purpose_for slot ≡ p)
slot_is [] place p at = cc
slot_is (x ∷ ids) zero p at = (x, refl, cc)
slot_is (x ∷ ids) (suc place) p at = slot_is ids place p at

unheld : (slot : Option Held) → purpose_for slot ≡ None → slot ≡ None
unheld None e = refl
unheld (Some x) e = cc

same_use : (a b : Bool) → purpose_by a ≡ purpose_by b → a ≡ b
same_use true true e = refl
same_use false false e = refl
same_use true false e = cc
same_use false true e = cc

held : (slot : Option Held) (writes : Bool) → purpose_for slot ≡ Some (purpose_by writes)
    → (id : ℕ) × (slot ≡ Some (record { id = id; writes = writes }))
held None writes e = cc
held (Some x) writes e =
    let same : purpose_by x.writes ≡ purpose_by writes = cc in
    (x.id, ap (λ (b : Bool). Some (record { id = x.id; writes = b })) (same_use x.writes writes same))

module _ (ids : Ids) (fs : List File) (same : purposes_for ids ≡ purposes_of fs) (place : ℕ) (f : File)
    (has : slice_get fs place ≡ Some f) where
  slot_at : (slot : Option Held) × (slice_get ids place ≡ Some slot) × (purpose_for slot ≡ purpose_in f.mode)
  slot_at =
      slot_is ids place (purpose_in f.mode)
      (ap (λ (ps : List (Option Purpose)). slice_get ps place) same ∙ purpose_at fs place f has)

  pub slot_free : purpose_in f.mode ≡ None → slice_get ids place ≡ Some None
  slot_free e = let s = slot_at in s.1 ∙ ap (λ (o : Option Held). Some o) (unheld s.0 (s.2 ∙ e))

  pub slot_held : (writes : Bool) → purpose_in f.mode ≡ Some (purpose_by writes) → IsHeldFor ids place writes
  slot_held writes e =
      let s = slot_at in
      let h = held s.0 writes (s.2 ∙ e) in
      (h.0, s.1 ∙ ap (λ (o : Option Held). Some o) h.1)

-- ---- the file of an id

file_is : (fs : List File) (place : ℕ) (p : Option Purpose) → slice_get (purposes_of fs) place ≡ Some p
    → (f : File) × (slice_get fs place ≡ Some f) × (purpose_in f.mode ≡ p)
file_is [] place p at = cc
file_is (f ∷ fs) zero p at = (f, refl, cc)
file_is (f ∷ fs) (suc place) p at = file_is fs place p at

pub file_held : (ids : Ids) (fs : List File) → purposes_for ids ≡ purposes_of fs → (place : ℕ) (writes : Bool)
    → IsHeldFor ids place writes
    → (f : File) × (slice_get fs place ≡ Some f) × (purpose_in f.mode ≡ Some (purpose_by writes))
file_held ids fs same place writes h =
    file_is fs place (Some (purpose_by writes))
    (sym (ap (λ (ps : List (Option Purpose)). slice_get ps place) same) ∙ slice_get-map purpose_for ids place
    ∙ ap (λ (o : Option (Option Held)). option_map purpose_for o) h.1)

seen_purpose : (told : Contents) (path : List ℕ) (content : Option (List ℕ)) (m : Mode) (place : ℕ)
    → purpose_in (seen_file told path (file content m place)).mode ≡ purpose_in m
seen_purpose told path content closed place = refl
seen_purpose told path content (reading ended) place = refl
seen_purpose told path content writing place = refl

-- what the run sees of them is open for the same
pub seen_purposes : (told : Contents) (paths : List (List ℕ)) (fs : List File)
    → purposes_of (seen_files told paths fs) ≡ purposes_of fs
seen_purposes told [] fs = refl
seen_purposes told (path ∷ paths) [] = refl
seen_purposes told (path ∷ paths) (f ∷ fs) =
    ap (λ (p : Option Purpose). p ∷ purposes_of (seen_files told paths fs))
    (seen_purpose told path f.content f.mode f.place)
    ∙ ap (λ (ps : List (Option Purpose)). purpose_in f.mode ∷ ps) (seen_purposes told paths fs)
