-- Files whose path is an earlier one's.
use Rattle.std.proofs.Common.{◌≡◌, ℕ, zero, suc, ◌+◌, ◌<◌, Bool, true, false, cond, ◌||◌, List, [], ◌∷◌, ◌++◌, map, length, get_or, take, drop, bytes_eq, Contains, Option, None, Some, Result, Ok, Err, IfOk, Vec, String, Global, string_bytes, refl, sym, ap, subst, ◌∙◌, arith}
use Rattle.std.proofs.lemmas.List.{map_more, map-append, drop_more}
use Rattle.std.proofs.lemmas.List.Folds.{list_any-append}
use Rattle.std.specs.Cmp.Lexicographic.{bytes_decides}
use Rattle.cob_data.specs.declared.layout.FileDecl.{FileDecl}
use Rattle.cob_data.specs.Names.{stands_in}
use Rattle.commands.specs.declared.running.paths.PathsEnd.{PathsEnd}
use Rattle.commands.specs.declared.running.paths.PathsEnd.TheVariants as ends
use Rattle.command_words.specs.Words.{texts}
use Rattle.cob_interp.specs.Told.{AreDistinct}
use Rattle.commands.specs.Paths.{path_of, blamed, clash, unless_clash, AnswersPaths, Blames}

-- ---- a file that clashes

pub clash_found : (words : List (List ℕ)) (files : List FileDecl) (i : ℕ) (file : FileDecl) (earlier : List (List ℕ)) →
    i < length files → file ≡ get_or files i file → stands_in earlier (path_of words file) ≡ true →
    clash words earlier (drop i files) ≡ clash words [] files → clash words [] files ≡ Some file
clash_found words files i file earlier within is there so_far =
    let here : clash words earlier (file ∷ drop (i + 1) files) ≡ Some file =
    ap (λ (b : Bool). cond b (Some file) (clash words (earlier ++ path_of words file ∷ []) (drop (i + 1) files)))
    there in
    let split : drop i files ≡ file ∷ drop (i + 1) files = drop_more files i file within ∙
    ap (λ (f : FileDecl). f ∷ drop (i + 1) files) (sym is) in
    sym so_far ∙ ap (clash words earlier) split ∙ here

refused : (wanted : Result (List (List ℕ)) (List ℕ)) (word : List ℕ) (end : PathsEnd) → wanted ≡ Err word →
    Blames word end → AnswersPaths wanted (Err end)
refused wanted word (ends.Refused text) e h = e ∙ ap Err (sym h)
refused wanted word ends.Memory e h = tt

pub clash_refused : (words : List (List ℕ)) (files : List FileDecl) (file : FileDecl) (end : PathsEnd) →
    clash words [] files ≡ Some file → Blames (blamed words file) end →
    AnswersPaths (unless_clash words files (clash words [] files)) (Err end)
clash_refused words files file end e h =
    refused (unless_clash words files (clash words [] files)) (blamed words file) end (ap (unless_clash words files) e)
    h

-- ---- a file that doesn't

module _ (words : List (List ℕ)) (files : List FileDecl) (i : ℕ) (file : FileDecl) (paths new : List (String Global))
    (path : String Global) (within : i < length files) (is : file ≡ get_or files i file)
    (text : string_bytes path ≡ path_of words file) (push : new ≡ paths ++ path ∷ []) where
  pushed : texts new ≡ texts paths ++ path_of words file ∷ []
  pushed = ap texts push ∙ map-append string_bytes paths (path ∷ []) ∙ ap (λ (t : List ℕ). texts paths ++ t ∷ []) text

  pub paths_more : texts paths ≡ map (path_of words) (take i files) →
      texts new ≡ map (path_of words) (take (i + 1) files)
  paths_more so_far =
      pushed
      ∙ ap (λ (ps : List (List ℕ)). ps ++ path_of words file ∷ []) so_far
      ∙ ap (λ (f : FileDecl). map (path_of words) (take i files) ++ path_of words f ∷ []) is
      ∙ sym (map_more (path_of words) files i file within)

  pub clash_more : stands_in (texts paths) (path_of words file) ≡ false →
      clash words (texts paths) (drop i files) ≡ clash words [] files →
      clash words (texts new) (drop (i + 1) files) ≡ clash words [] files
  clash_more new_path so_far =
      let further : clash words (texts paths) (file ∷ drop (i + 1) files) ≡ clash words
      (texts paths ++ path_of words file ∷ []) (drop (i + 1) files) =
      ap (λ (b : Bool). cond b (Some file) (clash words (texts paths ++ path_of words file ∷ []) (drop (i + 1) files)))
      new_path in
      let split : drop i files ≡ file ∷ drop (i + 1) files = drop_more files i file within ∙
      ap (λ (f : FileDecl). f ∷ drop (i + 1) files) (sym is) in
      ap (λ (ps : List (List ℕ)). clash words ps (drop (i + 1) files)) pushed ∙ sym further ∙
      ap (clash words (texts paths)) (sym split) ∙ so_far

-- ---- paths that differ

or_true : (b : Bool) → (b || true) ≡ true
or_true true = refl
or_true false = refl

stands_last : (earlier : List (List ℕ)) (path : List ℕ) → stands_in (earlier ++ path ∷ []) path ≡ true
stands_last earlier path =
    list_any-append (λ n. bytes_eq n path) earlier (path ∷ [])
    ∙ ap (λ (b : Bool). stands_in earlier path || (b || false)) ((bytes_decides path path).1 refl)
    ∙ or_true (stands_in earlier path)

stands_more : (earlier : List (List ℕ)) (last path : List ℕ) → stands_in earlier path ≡ true →
    stands_in (earlier ++ last ∷ []) path ≡ true
stands_more earlier last path e = list_any-append (λ n. bytes_eq n path) earlier (last ∷ []) ∙
    ap (λ (b : Bool). b || stands_in (last ∷ []) path) e

abbrev AreNew : List (List ℕ) → List (List ℕ) → Type 0
AreNew earlier paths = (path : List ℕ) → Contains paths path → stands_in earlier path ≡ true → ⊥

new_first : (earlier : List (List ℕ)) (path : List ℕ) (paths : List (List ℕ)) → stands_in earlier path ≡ false →
    AreNew (earlier ++ path ∷ []) paths → AreNew earlier (path ∷ paths)
new_first earlier path paths e are other (zero, within, at) there = let first : stands_in earlier other ≡ false =
    subst (λ (p : List ℕ). stands_in earlier p ≡ false) at e in absurd cc
new_first earlier path paths e are other (suc k, within, at) there =
    are other (k, omega arith, at) (stands_more earlier path other there)

-- what is known of a file where it doesn't clash
by_place : (words earlier : List (List ℕ)) (file : FileDecl) (files : List FileDecl) (b : Bool) →
    stands_in earlier (path_of words file) ≡ b →
    cond b (Some file) (clash words (earlier ++ path_of words file ∷ []) files) ≡ None →
    (clash words (earlier ++ path_of words file ∷ []) files ≡ None →
    AreNew (earlier ++ path_of words file ∷ []) (map (path_of words) files) × AreDistinct
    (map (path_of words) files)) →
    AreNew earlier (path_of words file ∷ map (path_of words) files) × AreDistinct
    (path_of words file ∷ map (path_of words) files)
by_place words earlier file files true there found behind = absurd cc
by_place words earlier file files false there none behind =
    let rest = behind none in (
      new_first earlier (path_of words file) (map (path_of words) files) there rest.0,
      (λ h. rest.0 (path_of words file) h (stands_last earlier (path_of words file)), rest.1),
    )

no_clash : (words earlier : List (List ℕ)) (files : List FileDecl) → clash words earlier files ≡ None →
    AreNew earlier (map (path_of words) files) × AreDistinct (map (path_of words) files)
no_clash words earlier [] e = (λ path h there. absurd (omega (arith, h.1)), tt)
no_clash words earlier (file ∷ files) e =
    by_place words earlier file files (stands_in earlier (path_of words file)) refl e
    (λ none. no_clash words (earlier ++ path_of words file ∷ []) files none)

pub are_distinct : (words : List (List ℕ)) (files : List FileDecl) (found : Option FileDecl)
    (r : Result (Vec (String Global) Global) PathsEnd) → clash words [] files ≡ found →
    AnswersPaths (unless_clash words files found) r →
    IfOk r (λ paths. AreDistinct (texts paths.items))
are_distinct words files None (Ok paths) e h = let same : map (path_of words) files ≡ texts paths.items = cc in
    subst AreDistinct same (no_clash words [] files e).1
are_distinct words files (Some file) (Ok paths) e h = absurd cc
are_distinct words files found (Err end) e h = tt
