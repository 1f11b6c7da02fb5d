-- The file of a record, looked for from the first file on.
use Rattle.std.proofs.Common.{◌≡◌, ℕ, ◌+◌, ◌<◌, ◌==◌, true, false, List, ◌∷◌, length, drop, get_or, Some, ap, sym, refl, ◌∙◌}
use Rattle.std.specs.List.{list_any}
use Rattle.std.proofs.lemmas.List.{drop_more}
use Rattle.cob_data.specs.declared.layout.FileDecl.{FileDecl}
use Rattle.cob_data.specs.declared.layout.Layout.{Layout}
use Rattle.cob_runs.specs.Acts.{file_from}

found : (l : Layout) (xs ds : List FileDecl) (i rec_ : ℕ) (d : FileDecl) → xs ≡ d ∷ ds →
    list_any (λ r. r == rec_) d.records ≡ true → Some i ≡ file_from l i xs rec_
found l xs ds i rec_ d e is = rw e (rw is refl)

passed : (l : Layout) (xs ds : List FileDecl) (i rec_ : ℕ) (d : FileDecl) → xs ≡ d ∷ ds →
    list_any (λ r. r == rec_) d.records ≡ false → file_from l i xs rec_ ≡ file_from l (i + 1) ds rec_
passed l xs ds i rec_ d e is = rw e (rw is refl)

from : (ds : List FileDecl) (i : ℕ) (d : FileDecl) → i < length ds → d ≡ get_or ds i d → drop i ds ≡ d ∷ drop (i + 1) ds
from ds i d h e = drop_more ds i d h ∙ ap (λ x. x ∷ drop (i + 1) ds) (sym e)

pub next_file : (l : Layout) (ds : List FileDecl) (i rec_ : ℕ) (d : FileDecl) → i < length ds → d ≡ get_or ds i d →
    list_any (λ r. r == rec_) d.records ≡ false → file_from l i (drop i ds) rec_ ≡ file_from l (i + 1) (drop (i + 1) ds) rec_
next_file l ds i rec_ d h e is = passed l (drop i ds) (drop (i + 1) ds) i rec_ d (from ds i d h e) is

pub this_file : (l : Layout) (ds : List FileDecl) (i rec_ : ℕ) (d : FileDecl) → i < length ds → d ≡ get_or ds i d →
    list_any (λ r. r == rec_) d.records ≡ true → Some i ≡ file_from l i (drop i ds) rec_
this_file l ds i rec_ d h e is = found l (drop i ds) (drop (i + 1) ds) i rec_ d (from ds i d h e) is
