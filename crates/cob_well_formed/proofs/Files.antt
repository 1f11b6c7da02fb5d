-- What OPEN, CLOSE and WRITE name, where no rule on names is broken.
use Rattle.std.proofs.Common.{◌≡◌, ℕ, ◌+◌, ◌≤◌, zero, suc, Bool, true, false, eqb, cond, ◌||◌, List, [], ◌∷◌, ◌++◌, length, length-append, Option, Some, None, is_some, unwrap_or, refl, sym, subst, arith}
use Rattle.std.specs.List.{AllByRecursion, list_any}
use Rattle.std.proofs.lemmas.List.{length-map}
use Rattle.std.proofs.lemmas.Bool.{and_parts, or_right, eqb-true, eq-eqb}
use Rattle.rule_order.specs.Order.{line_if}
use Rattle.cob_tree.specs.declared.operand.Ref.{Ref}
use Rattle.cob_tree.specs.declared.stmt.OpenPhrase.{OpenPhrase}
use Rattle.cob_tree.specs.Shaped.{IsNotEmpty}
use Rattle.cob_data.specs.declared.end.Rule.{Rule}
use Rattle.cob_data.specs.declared.end.Rule.TheVariants.{Q1, Q9}
use Rattle.cob_data.specs.declared.layout.FileDecl.{FileDecl}
use Rattle.cob_data.specs.declared.layout.Layout.{Layout}
use Rattle.cob_typed_exprs.specs.declared.found.Found.{Found}
use Rattle.cob_typed_exprs.specs.declared.found.Found.TheVariants as found
use Rattle.cob_typed_exprs.specs.Names.{is_among, is_record, names_item, names_record}
use Rattle.cob_runs.specs.Acts.{file_from}
use Rattle.cob_typed_exprs.specs.Judged.{kept, both, each_of}
use Rattle.cob_typed_exprs.specs.Scope.{Scope, place_if, places, found_in, means_something, one_of_kind, file_named, record_named, plain_name}
use Rattle.cob_typed.specs.Statements.{found_on}
use Rattle.cob_typed_verbs.specs.Verbs.{some_of, is_output, opening, the_file, openings, all_openings}
use Rattle.cob_typed.specs.Typing.{rule_number, lines_among}

-- ---- no name without its thing

-- the rules on names of one thing, and on files
pub record IsClean (found : List (Rule × ℕ)) : Type 0 where
  pub names : lines_among Q1 found ≡ []
  pub files : lines_among Q9 found ≡ []

line_none : (x : Bool) (line : ℕ) (others : List ℕ) → line_if x line others ≡ [] → (x ≡ false) × (others ≡ [])
line_none true line others e = absurd (cc)
line_none false line others e = (refl, e)

none_left : (rule : Rule) (xs ys : List (Rule × ℕ)) → lines_among rule (xs ++ ys) ≡ [] → lines_among rule xs ≡ []
none_left rule [] ys none = refl
none_left rule (x ∷ xs) ys none =
    let parts = line_none (eqb (rule_number x.0) (rule_number rule)) x.1 (lines_among rule (xs ++ ys)) none in
    rw (parts.0) (none_left rule xs ys parts.1)

none_right : (rule : Rule) (xs ys : List (Rule × ℕ)) → lines_among rule (xs ++ ys) ≡ [] → lines_among rule ys ≡ []
none_right rule [] ys none = none
none_right rule (x ∷ xs) ys none =
    let parts = line_none (eqb (rule_number x.0) (rule_number rule)) x.1 (lines_among rule (xs ++ ys)) none in
    none_right rule xs ys parts.1

pub clean_left : (xs ys : List (Rule × ℕ)) → IsClean (xs ++ ys) → IsClean xs
clean_left xs ys clean = record { names = none_left Q1 xs ys clean.names; files = none_left Q9 xs ys clean.files }

pub clean_right : (xs ys : List (Rule × ℕ)) → IsClean (xs ++ ys) → IsClean ys
clean_right xs ys clean = record { names = none_right Q1 xs ys clean.names; files = none_right Q9 xs ys clean.files }

-- ---- one thing of a kind

one_there : (line : ℕ) (something : Bool) (f : Found) → IsClean (found_on line (one_of_kind Q9 something f).broken) → is_some (one_of_kind Q9 something f).value ≡ true
one_there line something (found.One place) clean = refl
one_there line true found.Nothing clean = let h = clean.files in absurd (cc)
one_there line false found.Nothing clean = let h = clean.names in absurd (cc)
one_there line something found.Several clean = let h = clean.names in absurd (cc)

some_first : (o : Option ℕ) (os : List (Option ℕ)) → is_some o ≡ true → 1 ≤ length (some_of (o ∷ os))
some_first None os e = absurd (cc)
some_first (Some x) os e = omega arith

-- ---- OPEN and CLOSE

module _ (s : Scope) (line : ℕ) where
  pub some_files : (names : List (List ℕ)) → IsNotEmpty names → IsClean (found_on line (each_of (the_file s) names).broken) → 1 ≤ length (some_of (each_of (the_file s) names).value)
  some_files [] some clean = absurd some
  some_files (x ∷ xs) some clean =
      let here = clean_left (found_on line (the_file s x).broken) (found_on line (each_of (the_file s) xs).broken) clean in
      some_first (the_file s x).value (each_of (the_file s) xs).value (one_there line (means_something s (plain_name x)) (file_named s x) here)

  pub some_openings : (os : List OpenPhrase) → IsNotEmpty os → AllByRecursion (λ o. IsNotEmpty o.files) os → IsClean (found_on line (all_openings s os).broken) → 1 ≤ length (all_openings s os).value
  some_openings [] some each clean = absurd some
  some_openings (o ∷ os) some each clean =
      let here = clean_left (found_on line (openings s o).broken) (found_on line (both (all_openings s os).broken kept)) clean in
      let files = some_files o.files each.0 here in
      omega (arith, files, length-map (some_of (each_of (the_file s) o.files).value) (opening (is_output o.mode)), length-append (openings s o).value (all_openings s os).value)

-- ---- WRITE

all_append : (P : ℕ → Type 0) (xs ys : List ℕ) → AllByRecursion P xs → AllByRecursion P ys → AllByRecursion P (xs ++ ys)
all_append P [] ys p q = q
all_append P (x ∷ xs) ys p q = (p.0, all_append P xs ys p.1 q)

all_places : (test : ℕ → Bool) (n : ℕ) → AllByRecursion (λ m. test m ≡ true) (places test n)
all_places test zero = tt
all_places test (suc n) = all_append (λ m. test m ≡ true) (places test n) (place_if (test n) n []) (all_places test n) (at (test n) refl) where
  at : (x : Bool) → test n ≡ x → AllByRecursion (λ m. test m ≡ true) (place_if x n [])
  at true e = (e, tt)
  at false e = tt

-- what is found alone passes the test
pub found_passes : (P : ℕ → Type 0) (xs : List ℕ) (place : ℕ) → found_in xs ≡ found.One place → AllByRecursion P xs → P place
found_passes P [] place e all = absurd (cc)
found_passes P (x ∷ []) place e all = let same : x ≡ place = cc in subst P same all.0
found_passes P (x ∷ y ∷ zs) place e all = absurd (cc)

among : (place : ℕ) (ps : List ℕ) → is_among place ps ≡ true → list_any (λ r. eqb r place) ps ≡ true
among place [] e = absurd (cc)
among place (p ∷ ps) e = at (eqb place p) refl e (among place ps) where
  at : (x : Bool) → eqb place p ≡ x → cond x true (is_among place ps) ≡ true → (is_among place ps ≡ true → list_any (λ r. eqb r place) ps ≡ true) → (eqb p place || list_any (λ r. eqb r place) ps) ≡ true
  at true same e later = let is : eqb p place ≡ true = eq-eqb p place (sym (eqb-true place p same)) in rw is refl
  at false other e later = or_right (eqb p place) (list_any (λ r. eqb r place) ps) (later e)

record_has_file : (l : Layout) (n : ℕ) (fs : List FileDecl) (place : ℕ) → is_record fs place ≡ true → is_some (file_from l n fs place) ≡ true
record_has_file l n [] place e = absurd (cc)
record_has_file l n (f ∷ fs) place e = at (is_among place f.records) refl (list_any (λ r. eqb r place) f.records) refl e (record_has_file l (n + 1) fs place) where
  at : (x : Bool) → is_among place f.records ≡ x → (y : Bool) → list_any (λ r. eqb r place) f.records ≡ y → cond x true (is_record fs place) ≡ true →
      (is_record fs place ≡ true → is_some (file_from l (n + 1) fs place) ≡ true) → is_some (cond y (Some n) (file_from l (n + 1) fs place)) ≡ true
  at x a true b e others = refl
  at true a false b e others = let yes = among place f.records a in absurd (cc)
  at false a false b e others = others e

-- where no rule is broken, what WRITE names is a file's record
written : (s : Scope) (line : ℕ) (r : Ref) (something : Bool) (f : Found) → record_named s r ≡ f → IsClean (found_on line (one_of_kind Q9 something f).broken) →
    is_some (file_from s.layout 0 s.layout.files (unwrap_or (one_of_kind Q9 something f).value 0)) ≡ true
written s line r something (found.One place) e clean =
    let test = names_record s.layout r in
    let passes : names_record s.layout r place ≡ true = found_passes (λ m. names_record s.layout r m ≡ true) (places test (length s.layout.items)) place e (all_places test (length s.layout.items)) in
    let parts = and_parts (is_record s.layout.files place) (names_item s.layout r place) passes in
    record_has_file s.layout 0 s.layout.files place parts.0
written s line r true found.Nothing e clean = let h = clean.files in absurd (cc)
written s line r false found.Nothing e clean = let h = clean.names in absurd (cc)
written s line r something found.Several e clean = let h = clean.names in absurd (cc)

pub some_record : (s : Scope) (line : ℕ) (r : Ref) → IsClean (found_on line (one_of_kind Q9 (means_something s r) (record_named s r)).broken) →
    is_some (file_from s.layout 0 s.layout.files (unwrap_or (one_of_kind Q9 (means_something s r) (record_named s r)).value 0)) ≡ true
some_record s line r clean = written s line r (means_something s r) (record_named s r) refl clean
