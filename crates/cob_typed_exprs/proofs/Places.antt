-- What a name means, and the places that have it.
use Rattle.std.proofs.Common.{ℕ, zero, suc, ◌≡◌, ◌<◌, ◌≤◌, Bool, true, false, List, [], ◌∷◌, ◌++◌, length, slice_get, Option, None, refl, sym, ap, ◌∙◌, subst, arith, ⊎_elim}
use Rattle.std.proofs.lemmas.Bool.{cases_lt}
use Rattle.std.proofs.lemmas.List.{append-nil}
use Rattle.cob_tree.specs.declared.operand.Ref.{Ref}
use Rattle.cob_typed_exprs.specs.declared.found.Found.{Found}
use Rattle.cob_typed_exprs.specs.declared.found.Found.TheVariants as found
use Rattle.cob_typed_exprs.specs.Names.{IsFound, NamesItem, NamesFlag, NamesFile, NamesRecord, names_item, names_flag_at, names_file_at, names_record}
use Rattle.cob_typed_exprs.proofs.MeaningLemmas.{one_found}
use Rattle.cob_typed_exprs.specs.Scope.{Scope, place_if, places, found_in, item_named, flag_named, file_named, record_named}

-- a place below n that has it
abbrev pub Below : (ℕ → Bool) → ℕ → ℕ → Type 0
Below test n place = (place < n) × (test place ≡ true)

-- a place below n + 1 is below n, or is n and has it or not
lower : (test : ℕ → Bool) (n place : ℕ) (Q : Type 0) → (Below test n place → Q) → (place ≡ n → test place ≡ true → Q) → Below test (suc n) place → Q
lower test n place Q below at has =
    ⊎_elim (λ (low : place < n). below (low, has.1)) (λ (high : n ≤ place). at (omega (arith, has.0)) has.1) (cases_lt place n)

is_at : (test : ℕ → Bool) (n place : ℕ) (b : Bool) → test n ≡ b → place ≡ n → test place ≡ true → b ≡ true
is_at test n place b here same has = sym here ∙ ap test (sym same) ∙ has

raised : (test : ℕ → Bool) (n place : ℕ) → Below test n place → Below test (suc n) place
raised test n place has = (omega (arith, has.0), has.1)

differ : true ≡ false → ⊥
differ e = absurd (cc)

-- one more place that doesn't have it
passed : (test : ℕ → Bool) (n : ℕ) → test n ≡ false → (f : Found) → IsFound (Below test n) f → IsFound (Below test (suc n)) f
passed test n lacks found.Nothing is = λ place has. lower test n place ⊥ (is place) (λ same also. differ (sym (is_at test n place false lacks same also))) has
passed test n lacks (found.One place) is =
    (raised test n place is.0, λ other has. lower test n other (other ≡ place) (is.1 other) (λ same also. absurd (differ (sym (is_at test n other false lacks same also)))) has)
passed test n lacks found.Several is = (is.0, is.1, is.2, raised test n is.0 is.3, raised test n is.1 is.4)

-- one more place that has it
with_one : (test : ℕ → Bool) (n : ℕ) → test n ≡ true → (xs : List ℕ) → IsFound (Below test n) (found_in xs) → IsFound (Below test (suc n)) (found_in (xs ++ n ∷ []))
with_one test n has [] is = ((omega arith, has), λ other also. lower test n other (other ≡ n) (λ low. absurd (is other low)) (λ same yes. same) also)
with_one test n has (x ∷ []) is = (x, n, is.0.0, raised test n x is.0, (omega arith, has))
with_one test n has (x ∷ y ∷ xs) is = (is.0, is.1, is.2, raised test n is.0 is.3, raised test n is.1 is.4)

stepped : (test : ℕ → Bool) (n : ℕ) (b : Bool) → test n ≡ b → (xs : List ℕ) → IsFound (Below test n) (found_in xs) → IsFound (Below test (suc n)) (found_in (xs ++ place_if b n []))
stepped test n true here xs is = with_one test n here xs is
stepped test n false here xs is = passed test n here (found_in (xs ++ [])) (subst (λ ys. IsFound (Below test n) (found_in ys)) (sym (append-nil xs)) is)

is_found : (test : ℕ → Bool) (n : ℕ) → IsFound (Below test n) (found_in (places test n))
is_found test zero = λ place has. absurd (omega (arith, has.0))
is_found test (suc n) = stepped test n (test n) refl (places test n) (is_found test n)

found_below : (test : ℕ → Bool) (n : ℕ) (f : Found) → IsFound (Below test n) f → f ≡ found_in (places test n)
found_below test n f is = one_found (Below test n) f (found_in (places test n)) is (is_found test n)

pub item_is : (s : Scope) (r : Ref) (f : Found) → IsFound (NamesItem s.layout r) f → f ≡ item_named s r
item_is s r f is = found_below (names_item s.layout r) (length s.layout.items) f is

pub record_is : (s : Scope) (r : Ref) (f : Found) → IsFound (NamesRecord s.layout r) f → f ≡ record_named s r
record_is s r f is = found_below (names_record s.layout r) (length s.layout.items) f is

-- ---- where only entries have it

-- what is found anywhere is found below n, where nothing at n or behind has it
within : (test : ℕ → Bool) (n : ℕ) → ((place : ℕ) → test place ≡ true → place < n) → (f : Found) → IsFound (λ place. test place ≡ true) f → IsFound (Below test n) f
within test n ends found.Nothing is = λ place has. is place has.1
within test n ends (found.One place) is = ((ends place is.0, is.0), λ other has. is.1 other has.1)
within test n ends found.Several is = (is.0, is.1, is.2, (ends is.0 is.3, is.3), (ends is.1 is.4, is.4))

-- a test of an entry that nothing passes
entry_ends : {A : Type 0} (test : Option A → Bool) → test None ≡ false → (xs : List A) (place : ℕ) → test (slice_get xs place) ≡ true → place < length xs
entry_ends test lacks [] place has = absurd (differ (sym has ∙ lacks))
entry_ends test lacks (x ∷ xs) zero has = omega arith
entry_ends test lacks (x ∷ xs) (suc place) has = omega (arith, entry_ends test lacks xs place has)

pub flag_is : (s : Scope) (r : Ref) (f : Found) → IsFound (NamesFlag s.layout r) f → f ≡ flag_named s r
flag_is s r f is =
    let test : ℕ → Bool = λ place. names_flag_at s.layout r (slice_get s.layout.flags place) in
    found_below test (length s.layout.flags) f
    (within test (length s.layout.flags) (entry_ends (names_flag_at s.layout r) refl s.layout.flags) f is)

pub file_is : (s : Scope) (text : List ℕ) (f : Found) → IsFound (NamesFile s.layout text) f → f ≡ file_named s text
file_is s text f is =
    let test : ℕ → Bool = λ place. names_file_at text (slice_get s.layout.files place) in
    found_below test (length s.layout.files) f
    (within test (length s.layout.files) (entry_ends (names_file_at text) refl s.layout.files) f is)
