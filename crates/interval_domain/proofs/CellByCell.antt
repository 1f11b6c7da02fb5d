-- Lists of cells, one cell after another.
use Rattle.std.proofs.Common.{◌≡◌, ℕ, zero, suc, ◌<◌, List, [], ◌∷◌, length, get_or, Vec, ℤ, Bool, true, false, IsTrue, ◌↔◌, refl, ap, sym, ◌∙◌, arith, slice_set}
use Rattle.std.specs.declared.alloc.Global.{Global}
use Rattle.interval_domain.specs.Known.{Known, KnownBelow, KnownWithin, joined_known, widened_known}
use Rattle.interval_domain.specs.Elements.{CellsBelow, CellsWithin, joined, widened}
use Rattle.interval_domain.specs.Rows.{known_at, lists_of}

-- ---- the order
pub below_at : (as_ bs : List Known) (k : ℕ) → CellsBelow as_ bs → k < length as_ → KnownBelow (known_at as_ k) (known_at bs k)
below_at [] bs k h lt = absurd (omega arith)
below_at (a ∷ as_) [] k h lt = absurd h
below_at (a ∷ as_) (b ∷ bs) zero (h, hs) lt = h
below_at (a ∷ as_) (b ∷ bs) (suc k) (h, hs) lt = below_at as_ bs k hs (omega arith)

pub below_all : (as_ bs : List Known) → length as_ ≡ length bs → ((k : ℕ) → k < length as_ → KnownBelow (known_at as_ k) (known_at bs k)) → CellsBelow as_ bs
below_all [] [] e h = tt
below_all [] (b ∷ bs) e h = absurd (omega (arith, e))
below_all (a ∷ as_) [] e h = absurd (omega (arith, e))
below_all (a ∷ as_) (b ∷ bs) e h = (h 0 (omega arith), below_all as_ bs (omega (arith, e)) (λ k lt. h (suc k) (omega arith)))

pub none_below : (as_ bs : List Known) (k : ℕ) (r : Bool) → k < length as_ → (IsTrue r ↔ KnownBelow (known_at as_ k) (known_at bs k)) → r ≡ false → IsTrue false ↔ CellsBelow as_ bs
none_below as_ bs k r lt is e = (λ f. absurd (never f), λ below. absurd (never (sym e ∙ is.1 (below_at as_ bs k below lt))))
  where
    never : false ≡ true → ⊥
    never f = cc

pub all_below : (as_ bs : List Known) (k : ℕ) → k ≡ length as_ → length as_ ≡ length bs → ((j : ℕ) → j < k → KnownBelow (known_at as_ j) (known_at bs j)) → IsTrue true ↔ CellsBelow as_ bs
all_below as_ bs k e f below = (λ _. below_all as_ bs f (λ j lt. below j (omega (arith, e))), λ _. refl)

-- ---- joins
-- so many cells are joined
abbrev pub merged : ℕ → List Known → List Known → List Known
merged zero as_ bs = as_
merged (suc k) [] bs = []
merged (suc k) (a ∷ as_) [] = a ∷ as_
merged (suc k) (a ∷ as_) (b ∷ bs) = joined_known a b ∷ merged k as_ bs

pub merged_length : (k : ℕ) (as_ bs : List Known) → length (merged k as_ bs) ≡ length as_
merged_length zero as_ bs = refl
merged_length (suc k) [] bs = refl
merged_length (suc k) (a ∷ as_) [] = refl
merged_length (suc k) (a ∷ as_) (b ∷ bs) = ap suc (merged_length k as_ bs)

pub merged_set : (k : ℕ) (as_ bs : List Known) → k < length as_ → k < length bs → slice_set (merged k as_ bs) k (joined_known (known_at (merged k as_ bs) k) (known_at bs k)) ≡ merged (suc k) as_ bs
merged_set k [] bs h i = absurd (omega arith)
merged_set k (a ∷ as_) [] h i = absurd (omega arith)
merged_set zero (a ∷ as_) (b ∷ bs) h i = refl
merged_set (suc k) (a ∷ as_) (b ∷ bs) h i = ap (λ cs. joined_known a b ∷ cs) (merged_set k as_ bs (omega arith) (omega arith))

pub merged_all : (k : ℕ) (as_ bs : List Known) → k ≡ length as_ → k ≡ length bs → merged k as_ bs ≡ joined as_ bs
merged_all zero [] bs h i = refl
merged_all (suc k) [] bs h i = absurd (omega (arith, h))
merged_all k (a ∷ as_) [] h i = absurd (omega (arith, h, i))
merged_all zero (a ∷ as_) (b ∷ bs) h i = absurd (omega (arith, h))
merged_all (suc k) (a ∷ as_) (b ∷ bs) h i = ap (λ cs. joined_known a b ∷ cs) (merged_all k as_ bs (omega (arith, h)) (omega (arith, i)))

-- ---- widening
pub within_length : (tss : List (List ℤ)) (cs : List Known) → CellsWithin tss cs → length tss ≡ length cs
within_length [] [] h = refl
within_length [] (c ∷ cs) h = absurd h
within_length (ts ∷ tss) [] h = absurd h
within_length (ts ∷ tss) (c ∷ cs) (h, hs) = ap suc (within_length tss cs hs)

pub within_at : (tss : List (List ℤ)) (cs : List Known) (k : ℕ) → CellsWithin tss cs → k < length cs → KnownWithin (get_or tss k []) (known_at cs k)
within_at [] [] k h lt = absurd (omega arith)
within_at [] (c ∷ cs) k h lt = absurd h
within_at (ts ∷ tss) [] k h lt = absurd h
within_at (ts ∷ tss) (c ∷ cs) zero (h, hs) lt = h
within_at (ts ∷ tss) (c ∷ cs) (suc k) (h, hs) lt = within_at tss cs k hs (omega arith)

-- so many cells are widened
abbrev pub spread : ℕ → List (List ℤ) → List Known → List Known → List Known
spread zero tss as_ bs = as_
spread (suc k) [] as_ bs = as_
spread (suc k) (ts ∷ tss) [] bs = []
spread (suc k) (ts ∷ tss) (a ∷ as_) [] = a ∷ as_
spread (suc k) (ts ∷ tss) (a ∷ as_) (b ∷ bs) = widened_known ts a b ∷ spread k tss as_ bs

pub spread_length : (k : ℕ) (tss : List (List ℤ)) (as_ bs : List Known) → length (spread k tss as_ bs) ≡ length as_
spread_length zero tss as_ bs = refl
spread_length (suc k) [] as_ bs = refl
spread_length (suc k) (ts ∷ tss) [] bs = refl
spread_length (suc k) (ts ∷ tss) (a ∷ as_) [] = refl
spread_length (suc k) (ts ∷ tss) (a ∷ as_) (b ∷ bs) = ap suc (spread_length k tss as_ bs)

pub spread_set : (k : ℕ) (tss : List (List ℤ)) (as_ bs : List Known) → k < length tss → k < length as_ → k < length bs → slice_set (spread k tss as_ bs) k (widened_known (get_or tss k []) (known_at (spread k tss as_ bs) k) (known_at bs k)) ≡ spread (suc k) tss as_ bs
spread_set k [] as_ bs g h i = absurd (omega arith)
spread_set k (ts ∷ tss) [] bs g h i = absurd (omega arith)
spread_set k (ts ∷ tss) (a ∷ as_) [] g h i = absurd (omega arith)
spread_set zero (ts ∷ tss) (a ∷ as_) (b ∷ bs) g h i = refl
spread_set (suc k) (ts ∷ tss) (a ∷ as_) (b ∷ bs) g h i = ap (λ cs. widened_known ts a b ∷ cs) (spread_set k tss as_ bs (omega arith) (omega arith) (omega arith))

pub spread_all : (k : ℕ) (tss : List (List ℤ)) (as_ bs : List Known) → k ≡ length tss → k ≡ length as_ → k ≡ length bs → spread k tss as_ bs ≡ widened tss as_ bs
spread_all zero [] [] bs g h i = refl
spread_all (suc k) [] as_ bs g h i = absurd (omega (arith, g))
spread_all zero [] (a ∷ as_) bs g h i = absurd (omega (arith, h))
spread_all zero (ts ∷ tss) as_ bs g h i = absurd (omega (arith, g))
spread_all (suc k) (ts ∷ tss) [] bs g h i = absurd (omega (arith, h))
spread_all (suc k) (ts ∷ tss) (a ∷ as_) [] g h i = absurd (omega (arith, i))
spread_all (suc k) (ts ∷ tss) (a ∷ as_) (b ∷ bs) g h i = ap (λ cs. widened_known ts a b ∷ cs) (spread_all k tss as_ bs (omega (arith, g)) (omega (arith, h)) (omega (arith, i)))

pub lists_length : (lists : List (Vec ℤ Global)) → length (lists_of lists) ≡ length lists
lists_length [] = refl
lists_length (list ∷ lists) = ap suc (lists_length lists)

pub list_is : (lists : List (Vec ℤ Global)) (k : ℕ) (list : Vec ℤ Global) → k < length lists → list ≡ get_or lists k list → list.items ≡ get_or (lists_of lists) k []
list_is [] k list lt e = absurd (omega arith)
list_is (first ∷ lists) zero list lt e = ap (λ (v : Vec ℤ Global). v.items) e
list_is (first ∷ lists) (suc k) list lt e = list_is lists k list (omega arith) e
