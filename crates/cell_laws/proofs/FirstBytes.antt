-- Bytes that are the same over zeros as over ones are those of each first storage.
use Rattle.std.proofs.Common.{◌≡◌, ℕ, ◌+◌, zero, suc, List, [], ◌∷◌, ◌++◌, length, take, drop, replicate, Option, Some, None, Result, Ok, Err, refl, sym, ap, arith}
use Rattle.cob_tree.specs.declared.fault.Kind.{Kind}
use Rattle.cob_data.specs.declared.extent.Extent.{Extent}
use Rattle.cob_data.specs.declared.layout.Item.{Item}
use Rattle.cob_data.specs.declared.layout.Layout.{Layout}
use Rattle.cob_data.specs.declared.layout.Sender.{Sender}
use Rattle.cob_data.specs.Extents.{start_of}
use Rattle.cob_data.specs.Occurrences.{extent_of}
use Rattle.cob_runs.specs.Contents.{area, written, fitted}
use Rattle.cob_runs.specs.Moves.{moved}
use Rattle.cob_runs.specs.Runs.{with_occurrences, with_value, with_constant, with_values, first_storage}
use Rattle.data_laws.proofs.Lengths.{length-fitted}
use Rattle.cell_laws.specs.Entry.{values_over, FilledBytesStand}

-- Of three lists as long: where the first two have the same byte, the third has it.
abbrev Follows : List ℕ → List ℕ → List ℕ → Type 0
Follows [] [] [] = Unit {0}
Follows (x ∷ xs) (y ∷ ys) (z ∷ zs) = (x ≡ y → z ≡ x) × Follows xs ys zs
Follows _ _ _ = ⊥

itself : (xs : List ℕ) → Follows xs xs xs
itself [] = tt
itself (x ∷ xs) = (λ e. refl, itself xs)

both : (xs ys zs us vs ws : List ℕ) → Follows xs ys zs → Follows us vs ws → Follows (xs ++ us) (ys ++ vs) (zs ++ ws)
both [] [] [] us vs ws f g = g
both [] [] (z ∷ zs) us vs ws f g = absurd f
both [] (y ∷ ys) zs us vs ws f g = absurd f
both (x ∷ xs) [] zs us vs ws f g = absurd f
both (x ∷ xs) (y ∷ ys) [] us vs ws f g = absurd f
both (x ∷ xs) (y ∷ ys) (z ∷ zs) us vs ws (f, fs) g = (f, both xs ys zs us vs ws fs g)

front : (n : ℕ) (xs ys zs : List ℕ) → Follows xs ys zs → Follows (take n xs) (take n ys) (take n zs)
front zero xs ys zs f = tt
front (suc n) [] [] [] f = tt
front (suc n) [] [] (z ∷ zs) f = absurd f
front (suc n) [] (y ∷ ys) zs f = absurd f
front (suc n) (x ∷ xs) [] zs f = absurd f
front (suc n) (x ∷ xs) (y ∷ ys) [] f = absurd f
front (suc n) (x ∷ xs) (y ∷ ys) (z ∷ zs) (f, fs) = (f, front n xs ys zs fs)

rest : (n : ℕ) (xs ys zs : List ℕ) → Follows xs ys zs → Follows (drop n xs) (drop n ys) (drop n zs)
rest zero xs ys zs f = f
rest (suc n) [] [] [] f = tt
rest (suc n) [] [] (z ∷ zs) f = absurd f
rest (suc n) [] (y ∷ ys) zs f = absurd f
rest (suc n) (x ∷ xs) [] zs f = absurd f
rest (suc n) (x ∷ xs) (y ∷ ys) [] f = absurd f
rest (suc n) (x ∷ xs) (y ∷ ys) (z ∷ zs) (f, fs) = rest n xs ys zs fs

same_if : (xs ys zs : List ℕ) → Follows xs ys zs → xs ≡ ys → zs ≡ xs
same_if [] [] [] f e = refl
same_if [] [] (z ∷ zs) f e = absurd f
same_if [] (y ∷ ys) zs f e = absurd f
same_if (x ∷ xs) [] zs f e = absurd f
same_if (x ∷ xs) (y ∷ ys) [] f e = absurd f
same_if (x ∷ xs) (y ∷ ys) (z ∷ zs) (f, fs) e =
    let here : x ≡ y = cc in
    let behind : xs ≡ ys = cc in
    let first : z ≡ x = f here in
    let others : zs ≡ xs = same_if xs ys zs fs behind in
    cc

pub same_length : (xs ys zs : List ℕ) → Follows xs ys zs → length zs ≡ length xs
same_length [] [] [] f = refl
same_length [] [] (z ∷ zs) f = absurd f
same_length [] (y ∷ ys) zs f = absurd f
same_length (x ∷ xs) [] zs f = absurd f
same_length (x ∷ xs) (y ∷ ys) [] f = absurd f
same_length (x ∷ xs) (y ∷ ys) (z ∷ zs) (f, fs) = ap suc (same_length xs ys zs fs)

begin : (n : ℕ) (zs : List ℕ) → length zs ≡ n → Follows (replicate n 0) (replicate n 1) zs
begin zero [] e = tt
begin zero (z ∷ zs) e = absurd (omega (arith, e))
begin (suc n) [] e = absurd (omega (arith, e))
begin (suc n) (z ∷ zs) e = (λ same. absurd (omega (arith, same)), begin n zs (omega (arith, e)))

-- ---- values are put

module _ (xs ys zs : List ℕ) where
  put : (offset : ℕ) (bytes : List ℕ) → Follows xs ys zs → Follows (written xs offset bytes) (written ys offset bytes) (written zs offset bytes)
  put offset bytes f =
      both (take offset xs ++ bytes) (take offset ys ++ bytes) (take offset zs ++ bytes)
      (drop (offset + length bytes) xs) (drop (offset + length bytes) ys) (drop (offset + length bytes) zs)
      (both (take offset xs) (take offset ys) (take offset zs) bytes bytes bytes (front offset xs ys zs f) (itself bytes))
      (rest (offset + length bytes) xs ys zs f)

each_put : (e : Extent) (bytes : List ℕ) (n : ℕ) (xs ys zs : List ℕ) → Follows xs ys zs →
    Follows (with_occurrences e bytes n xs) (with_occurrences e bytes n ys) (with_occurrences e bytes n zs)
each_put e bytes zero xs ys zs f = f
each_put e bytes (suc n) xs ys zs f =
    put (with_occurrences e bytes n xs) (with_occurrences e bytes n ys) (with_occurrences e bytes n zs) (start_of e n) bytes
    (each_put e bytes n xs ys zs f)

module _ (l : Layout) where
  result_put : (i : Item) (r : Result (List ℕ) Kind) (xs ys zs : List ℕ) → Follows xs ys zs →
      Follows (with_value i r xs) (with_value i r ys) (with_value i r zs)
  result_put i (Ok bytes) xs ys zs f = each_put (extent_of i) bytes i.times xs ys zs f
  result_put i (Err fault) xs ys zs f = f

  value_put : (i : Item) (o : Option Sender) (xs ys zs : List ℕ) → Follows xs ys zs →
      Follows (with_constant l i o xs) (with_constant l i o ys) (with_constant l i o zs)
  value_put i None xs ys zs f = f
  value_put i (Some x) xs ys zs f = result_put i (moved l [] i.form i.length x) xs ys zs f

  all_put : (items : List Item) (xs ys zs : List ℕ) → Follows xs ys zs → Follows (with_values l items xs) (with_values l items ys) (with_values l items zs)
  all_put [] xs ys zs f = f
  all_put (i ∷ items) xs ys zs f =
      all_put items (with_constant l i i.value xs) (with_constant l i i.value ys) (with_constant l i i.value zs) (value_put i i.value xs ys zs f)

  follows : (first : List ℕ) → Follows (values_over l 0) (values_over l 1) (first_storage l first)
  follows first =
      all_put l.items (replicate l.storage 0) (replicate l.storage 1) (fitted l.storage first)
      (begin l.storage (fitted l.storage first) (length-fitted l.storage first))

-- over zeros storage is as long as at the beginning of each run
pub over_length : (l : Layout) (first : List ℕ) → length (values_over l 0) ≡ length (first_storage l first)
over_length l first = sym (same_length (values_over l 0) (values_over l 1) (first_storage l first) (follows l first))

pub filled_bytes_stand : FilledBytesStand
filled_bytes_stand l first from many same =
    same_if (area (values_over l 0) from many) (area (values_over l 1) from many) (area (first_storage l first) from many)
    (front many (drop from (values_over l 0)) (drop from (values_over l 1)) (drop from (first_storage l first))
    (rest from (values_over l 0) (values_over l 1) (first_storage l first) (follows l first))) same
