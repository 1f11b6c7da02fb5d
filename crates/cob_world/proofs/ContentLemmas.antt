-- The files at the beginning, each with its content.
use Rattle.std.proofs.Common.{◌≡◌, ℕ, suc, zero, ◌+◌, ◌<◌, ◌≤◌, List, [], ◌∷◌, ◌++◌, length, map, drop, slice_get, Option, None, ap, ◌∙◌, sym, refl, arith}
use Rattle.std.specs.Option.{option_map, option_map_or}
use Rattle.std.proofs.lemmas.List.{drop_more, drop_all, append_assoc, append-nil}
use Rattle.std.proofs.lemmas.Option.{slice_get-map}
use Rattle.cob_data.specs.declared.layout.FileDecl.{FileDecl}
use Rattle.cob_runs.specs.Files.{File, file, closed}
use Rattle.cob_runs.specs.Runs.{Contents, content_at, first_files}

get-drop : {X : Type 0} (xs : List X) (n : ℕ) → slice_get xs n ≡ slice_get (drop n xs) 0
get-drop [] zero = refl
get-drop [] (suc n) = refl
get-drop (x ∷ xs) zero = refl
get-drop (x ∷ xs) (suc n) = get-drop xs n

-- a content that wasn't taken away yet is what it was
pub same_content : {X : Type 0} (view : X → Option (List ℕ)) (xs ys : List X) (n : ℕ) → drop n xs ≡ drop n ys →
    content_at (map view xs) n ≡ content_at (map view ys) n
same_content view xs ys n same =
    let got : slice_get xs n ≡ slice_get ys n = get-drop xs n ∙ (ap (λ zs. slice_get zs 0) same ∙ sym (get-drop ys n)) in
    ap (λ o. option_map_or (λ c. c) o None) (slice_get-map view xs n ∙ (ap (option_map view) got ∙ sym (slice_get-map view ys n)))

next : (contents : Contents) (decls : List FileDecl) (files all : List File) (content : Option (List ℕ)) (n : ℕ) → n < length decls →
    content ≡ content_at contents n → files ++ first_files contents n (drop n decls) ≡ all →
    (files ++ file content closed 0 ∷ []) ++ first_files contents (n + 1) (drop (n + 1) decls) ≡ all
next contents [] files all content n below is so = absurd (omega (arith, below))
next contents (d ∷ ds) files all content n below is so =
    let one : n + 1 ≡ suc n = omega arith in
    append_assoc files (file content closed 0 ∷ []) (first_files contents (n + 1) (drop (n + 1) (d ∷ ds)))
    ∙ (ap (λ c. files ++ file c closed 0 ∷ first_files contents (n + 1) (drop (n + 1) (d ∷ ds))) is
    ∙ (ap (λ k. files ++ file (content_at contents n) closed 0 ∷ first_files contents k (drop (n + 1) (d ∷ ds))) one
    ∙ (ap (λ xs. files ++ first_files contents n xs) (sym (drop_more (d ∷ ds) n d below)) ∙ so)))

pub next_file : (contents : Contents) (decls : List FileDecl) (files now all : List File) (f : File) (content : Option (List ℕ)) (n : ℕ) →
    n < length decls → content ≡ content_at contents n → f ≡ file content closed 0 → now ≡ files ++ f ∷ [] →
    files ++ first_files contents n (drop n decls) ≡ all → now ++ first_files contents (n + 1) (drop (n + 1) decls) ≡ all
next_file contents decls files now all f content n below is closed_ behind so =
    ap (λ xs. xs ++ first_files contents (n + 1) (drop (n + 1) decls)) (behind ∙ ap (λ g. files ++ g ∷ []) closed_)
    ∙ next contents decls files all content n below is so

pub all_files : (contents : Contents) (decls : List FileDecl) (files all : List File) (n : ℕ) → length decls ≤ n →
    files ++ first_files contents n (drop n decls) ≡ all → files ≡ all
all_files contents decls files all n past so =
    sym (append-nil files) ∙ (ap (λ xs. files ++ first_files contents n xs) (sym (drop_all n decls past)) ∙ so)
