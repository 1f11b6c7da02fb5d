-- Files that statements name are those of the layout, where no rule on names is broken.
use Rattle.std.proofs.Common.{◌≡◌, ℕ, ◌<◌, ◌≤◌, zero, suc, Bool, true, false, List, [], ◌∷◌, length, map, slice_get, Option, Some, None, unwrap_or, refl, arith}
use Rattle.std.specs.List.{AllByRecursion}
use Rattle.cob_tree.specs.declared.stmt.OpenPhrase.{OpenPhrase}
use Rattle.cob_tree.specs.Stmt as tree
use Rattle.cob_data.specs.declared.end.Rule.TheVariants.{Q9}
use Rattle.cob_data.specs.declared.layout.Flag.{Flag}
use Rattle.cob_typed_exprs.specs.declared.found.Found.{Found}
use Rattle.cob_typed_exprs.specs.declared.found.Found.TheVariants as found
use Rattle.cob_typed_exprs.specs.Names.{names_file_at}
use Rattle.cob_program.specs.declared.act.Opening.{Opening}
use Rattle.cob_typed_exprs.specs.Judged.{Judged, each_of}
use Rattle.cob_typed_exprs.specs.Scope.{Scope, place_if, places, means_something, one_of_kind, file_named, plain_name}
use Rattle.cob_typed_verbs.specs.Arithmetic.{Worked, add_to, add_giving, subtract_from, subtract_giving, multiply_by, multiply_giving, divide_into, divide_giving, compute}
use Rattle.cob_typed_verbs.specs.Verbs.{some_of, is_output, opening, set_flag, set_if, the_file, openings, all_openings, read_parts}
use Rattle.cob_typed.specs.Statements.{found_on, typed_arith, typed_verb}
use Rattle.cob_interp.specs.Able.{NamesFiles}
use Rattle.cob_well_formed.proofs.ShortValues.{all_append}
use Rattle.cob_well_formed.proofs.Files.{IsClean, clean_left, found_passes}

places_below : (test : ℕ → Bool) (n count : ℕ) → n ≤ count → AllByRecursion (λ m. m < count) (places test n)
places_below test zero count within = tt
places_below test (suc n) count within =
    all_append (λ (m : ℕ). m < count) (places test n) (place_if (test n) n [])
    (places_below test n count (omega (arith, within))) (at (test n)) where
      at : (x : Bool) → AllByRecursion (λ m. m < count) (place_if x n [])
      at true = (omega (arith, within), tt)
      at false = tt

module _ (s : Scope) where
  -- a file of the layout
  abbrev IsFile : ℕ → Type 0
  IsFile place = place < length s.layout.files

  abbrev OpensFile : Opening → Type 0
  OpensFile o = IsFile o.file

  file_below : (text : List ℕ) (place : ℕ) → file_named s text ≡ found.One place → IsFile place
  file_below text place e =
      let count = length s.layout.files in
      let test = λ (n : ℕ). names_file_at text (slice_get s.layout.files n) in
      found_passes IsFile (places test count) place e (places_below test count count (omega arith))

  -- ---- OPEN, CLOSE and READ

  files_below : (names : List (List ℕ)) → AllByRecursion IsFile (some_of (each_of (the_file s) names).value)
  files_below [] = tt
  files_below (x ∷ xs) = at (file_named s x) refl (files_below xs) where
    at : (f : Found) → file_named s x ≡ f → AllByRecursion IsFile (some_of (each_of (the_file s) xs).value)
        → AllByRecursion IsFile (some_of ((one_of_kind Q9 (means_something s (plain_name x)) f).value ∷ (each_of (the_file s) xs).value))
    at (found.One place) e others = (file_below x place e, others)
    at found.Nothing e others = others
    at found.Several e others = others

  opened_below : (output : Bool) (fs : List ℕ) → AllByRecursion IsFile fs → AllByRecursion OpensFile (map (opening output) fs)
  opened_below output [] all = tt
  opened_below output (f ∷ fs) all = (all.0, opened_below output fs all.1)

  openings_below : (os : List OpenPhrase) → AllByRecursion OpensFile (all_openings s os).value
  openings_below [] = tt
  openings_below (o ∷ os) =
      all_append OpensFile (openings s o).value (all_openings s os).value
      (opened_below (is_output o.mode) (some_of (each_of (the_file s) o.files).value) (files_below o.files)) (openings_below os)

  read_below : (line : ℕ) (text : List ℕ) → IsClean (found_on line (the_file s text).broken)
      → IsFile (unwrap_or (the_file s text).value 0)
  read_below line text kept_ = at (means_something s (plain_name text)) (file_named s text) refl kept_ where
    at : (something : Bool) (f : Found) → file_named s text ≡ f → IsClean (found_on line (one_of_kind Q9 something f).broken)
        → IsFile (unwrap_or (one_of_kind Q9 something f).value 0)
    at something (found.One place) e clean = file_below text place e
    at true found.Nothing e clean = let h = clean.files in absurd (cc)
    at false found.Nothing e clean = let h = clean.names in absurd (cc)
    at something found.Several e clean = let h = clean.names in absurd (cc)

  -- ---- statements

  named_arith : (line n : ℕ) (w : Judged Worked) (x : tree.Tail) → NamesFiles s.layout (typed_arith s line n w x).value
  named_arith line n w (tree.MkTail size not_size ended) = tt

  named_flag : (o : Option Flag) → NamesFiles s.layout (set_flag o)
  named_flag None = tt
  named_flag (Some f) = tt

  named_set : (o : Option ℕ) → NamesFiles s.layout (set_if s o)
  named_set None = tt
  named_set (Some place) = named_flag (slice_get s.layout.flags place)

  pub named_verb : (line n : ℕ) (v : tree.Verb) → IsClean (typed_verb s line n v).found
      → NamesFiles s.layout (typed_verb s line n v).value
  named_verb line n (tree.set text) clean = named_set _
  named_verb line n (tree.add_to addends to tail) clean = named_arith line n (add_to s addends to) tail
  named_verb line n (tree.add_giving addends to giving tail) clean = named_arith line n (add_giving s addends to giving) tail
  named_verb line n (tree.subtract_from less from tail) clean = named_arith line n (subtract_from s less from) tail
  named_verb line n (tree.subtract_giving less from giving tail) clean =
      named_arith line n (subtract_giving s less from giving) tail
  named_verb line n (tree.multiply_by factor by_ tail) clean = named_arith line n (multiply_by s factor by_) tail
  named_verb line n (tree.multiply_giving factor by_ giving tail) clean =
      named_arith line n (multiply_giving s factor by_ giving) tail
  named_verb line n (tree.divide_into divisor into tail) clean = named_arith line n (divide_into s divisor into) tail
  named_verb line n (tree.divide_giving first way second giving remainder tail) clean =
      named_arith line n (divide_giving s first way second giving remainder) tail
  named_verb line n (tree.compute to value tail) clean = named_arith line n (compute s to value) tail
  named_verb line n (tree.open_ files) clean = openings_below files
  named_verb line n (tree.close names) clean = files_below names
  named_verb line n (tree.read file into end not_end ended) clean =
      let found_ = found_on line (read_parts s file into).broken in
      read_below line file (clean_left (found_on line (the_file s file).broken) _ (clean_left found_ _ clean))
  named_verb line n v clean = tt
