-- The files in memory, against the contents that they tell.
use Rattle.std.proofs.Common.{◌≡◌, ℕ, suc, ◌+◌, ◌<◌, Bool, not, cond, List, [], ◌∷◌, ◌++◌, None, Some, Option, refl, sym, ap, ◌∙◌, length, get_or, set, arith, Vec, Global}
use Rattle.std.specs.Prelude.{map, position, bytes_eq, nat_lt, unwrap_or, string_bytes}
use Rattle.std.specs.List.{prefix_len, position_or_len}
use Rattle.std.proofs.lemmas.List.{map-set, map-append, get_or-map}
use Rattle.std.proofs.Math.Seq.{map-set_same}
use Rattle.std.specs.FinMap.{get, insert, from_entries}
use Rattle.batch_io.specs.FilesState.{bytes_at}
use Rattle.batch_io.specs.Memory.{File, entry_of, entries_of, contents_of, place_of}
use Rattle.batch_io.proofs.EntriesLemmas.{blank, place_in, contents-absent, contents-push, place_within, place_named, contents-present, contents-set}

prefix_len-map : {X Y : Type 0} (f : X → Y) (p : Y → Bool) (xs : List X) → prefix_len p (map f xs) ≡ prefix_len (λ x. p (f x)) xs
prefix_len-map f p [] = refl
prefix_len-map f p (x ∷ xs) = ap (λ n. cond (p (f x)) (1 + n) 0) (prefix_len-map f p xs)

length_map : {X Y : Type 0} (f : X → Y) (xs : List X) → length (map f xs) ≡ length xs
length_map f [] = refl
length_map f (x ∷ xs) = ap suc (length_map f xs)

pub position-map : {X Y : Type 0} (f : X → Y) (p : Y → Bool) (xs : List X) → position (λ x. p (f x)) xs ≡ position p (map f xs)
position-map f p xs =
    let place = prefix_len-map f (λ y. not (p y)) xs in
    let size = length_map f xs in
    ap (λ n. cond (nat_lt n (length xs)) (Some n) None) (sym place) ∙ ap (λ n. cond (nat_lt (position_or_len p (map f xs)) n) (Some (position_or_len p (map f xs))) None) (sym size)

module _ (files : List File) (name : List ℕ) where
  in_entries : (place : Option ℕ) → place_of files name ≡ place → place_in (entries_of files) name ≡ place
  in_entries place is = sym (position-map entry_of (λ entry. bytes_eq entry.0 name) files) ∙ is

  pub find-absent : place_of files name ≡ None → get (contents_of files) name ≡ None
  find-absent none = contents-absent (entries_of files) name (in_entries None none)

  pub absent_bytes : place_of files name ≡ None → bytes_at (contents_of files) name ≡ []
  absent_bytes none = ap (λ o. unwrap_or o []) (find-absent none)

  pub files-push : (file : File) → string_bytes file.0 ≡ name → place_of files name ≡ None
      → contents_of (files ++ file ∷ []) ≡ insert (contents_of files) name file.1.items
  files-push file same none =
      ap from_entries (map-append entry_of files (file ∷ []) ∙ ap (λ n. entries_of files ++ (n, file.1.items) ∷ []) same)
      ∙ contents-push (entries_of files) name file.1.items (in_entries None none)

  -- the file at the place of the name
  module _ (i : ℕ) (some : place_of files name ≡ Some i) (old : File) (there : old ≡ get_or files i old) where
    within : i < length files
    within = let h = place_within (entries_of files) name i (in_entries (Some i) some) in omega (arith, length_map entry_of files, h)

    entry_there : get_or (entries_of files) i blank ≡ entry_of old
    entry_there = get_or-map entry_of files i old blank within ∙ ap entry_of (sym there)

    name_there : string_bytes old.0 ≡ name
    name_there = ap (λ e. e.0) (sym entry_there) ∙ place_named (entries_of files) name i (in_entries (Some i) some)

    pub find-present : get (contents_of files) name ≡ Some old.1.items
    find-present = contents-present (entries_of files) name i (in_entries (Some i) some) ∙ ap (λ e. Some e.1) entry_there

    pub present_bytes : bytes_at (contents_of files) name ≡ old.1.items
    present_bytes = ap (λ o. unwrap_or o []) find-present

    pub files-set : (new : Vec ℕ Global) → contents_of (set files i (old.0, new)) ≡ insert (contents_of files) name new.items
    files-set new =
        ap from_entries (map-set entry_of files i (old.0, new) ∙ ap (λ n. set (entries_of files) i (n, new.items)) name_there)
        ∙ contents-set (entries_of files) name i (in_entries (Some i) some) new.items

    pub files-set_same : (new : Vec ℕ Global) → new.items ≡ old.1.items → contents_of (set files i (old.0, new)) ≡ contents_of files
    files-set_same new same =
        ap from_entries (map-set_same entry_of files i (old.0, new) old (ap (λ bytes. (string_bytes old.0, bytes)) same ∙ ap entry_of there))
