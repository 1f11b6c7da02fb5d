-- Gaps as written tell the order of the rows.
use Rattle.std.proofs.Common.{◌≡◌, ◌↔◌, ℕ, zero, suc, List, [], ◌∷◌, ◌++◌, length, Option, Some, None, ◌≤ℤ◌, int_le, int_lt, if◌then◌else◌, Bool, true, false, refl, arith, ap, ◌∙◌, sym}
use Rattle.std.proofs.lemmas.Grind.{common_steps}
use Rattle.std.proofs.lemmas.Int.{ints, clamps}
use Rattle.interval_domain.specs.declared.bounds.Interval.{Interval}
use Rattle.interval_domain.specs.Known.{Known, KnownFits, KnownBelow}
use Rattle.interval_domain.specs.Elements.{Element, CellsFit, ElementFits, ElementBelow}
use Rattle.cert_text.specs.declared.cert.Claim.{Claim}
use Rattle.cert_text.specs.View.{NotReached, Holds}
use Rattle.cert_text.specs.declared.gap.Gap.{Gap}
use Rattle.cert_text.specs.declared.gap.Gap.TheVariants as gap
use Rattle.cert_text.specs.Claims.{claims_behind, written_from, met, if_ordered, met_known, with_cell, met_cells, met_element}
use Rattle.cert_text.specs.Gaps.{end_gaps, cell_gaps, gaps_from, element_gaps, GapsTellTheOrder}

abbrev IsWithin : Interval → Interval → Type 0
IsWithin i j = (j.low ≤ℤ i.low) × (i.high ≤ℤ j.high)

-- one cell lies in what its claim means
abbrev KnownIsBelow : Known → Option Known → Type 0
KnownIsBelow r None = ⊥
KnownIsBelow r (Some c) = KnownBelow r c

no_ends : (k : ℕ) (r c : Interval) → end_gaps k r c ≡ [] → IsWithin r c
no_ends k r c e = by_tests (int_lt r.low c.low) (int_lt c.high r.high) refl refl e where
  by_tests : (x y : Bool) → int_lt r.low c.low ≡ x → int_lt c.high r.high ≡ y → (if x then gap.Low k r.low c.low ∷ [] else []) ++ (if y then gap.High k r.high c.high ∷ [] else []) ≡ [] → IsWithin r c
  by_tests false false f g h = (grind (arith, ints, f), grind (arith, ints, g))
  by_tests true y f g h = absurd (grind (arith, common_steps, h))
  by_tests false true f g h = absurd (grind (arith, common_steps, h))

ends_none : (k : ℕ) (r c : Interval) → IsWithin r c → end_gaps k r c ≡ []
ends_none k r c (low, high) = by_tests (int_lt r.low c.low) (int_lt c.high r.high) refl refl where
  by_tests : (x y : Bool) → int_lt r.low c.low ≡ x → int_lt c.high r.high ≡ y → (if x then gap.Low k r.low c.low ∷ [] else []) ++ (if y then gap.High k r.high c.high ∷ [] else []) ≡ []
  by_tests false false f g = refl
  by_tests true y f g = absurd (grind (arith, ints, common_steps, f, low))
  by_tests false true f g = absurd (grind (arith, ints, common_steps, g, high))

-- what is left of an interval that holds a number
ordered_below : (r m : Interval) → int_le m.low m.high ≡ true → IsWithin r m → KnownIsBelow (Some r) (if_ordered m)
ordered_below r m e h = by_test (int_le m.low m.high) e where
  by_test : (x : Bool) → x ≡ true → KnownIsBelow (Some r) (if x then Some (Some m) else None)
  by_test true f = h
  by_test false f = absurd (grind (arith, common_steps, f))

ordered_tells : (r m : Interval) → KnownIsBelow (Some r) (if_ordered m) → IsWithin r m
ordered_tells r m = by_test (int_le m.low m.high) where
  by_test : (x : Bool) → KnownIsBelow (Some r) (if x then Some (Some m) else None) → IsWithin r m
  by_test true h = h
  by_test false h = absurd h

no_number_in : (m : Interval) → KnownIsBelow None (if_ordered m) → ⊥
no_number_in m = by_test (int_le m.low m.high) where
  by_test : (x : Bool) → KnownIsBelow None (if x then Some (Some m) else None) → ⊥
  by_test true h = h
  by_test false h = h

cell_down : (k : ℕ) (own : Interval) (r c : Known) → KnownFits own r → cell_gaps k r c ≡ [] → KnownIsBelow r (met_known own c)
cell_down k own None None f e = tt
cell_down k own (Some r) None f e = tt
cell_down k own None (Some c) f e = absurd (grind (arith, common_steps, e))
cell_down k own (Some r) (Some c) (a, b, d) e =
    let w = no_ends k r c e in let low = w.0 in let high = w.1 in
    ordered_below r (met own c) (grind (arith, ints, clamps, a, b, d, low, high)) (omega (arith, ints, clamps, a, low), omega (arith, ints, clamps, d, high))

cell_up : (k : ℕ) (own : Interval) (r c : Known) → KnownIsBelow r (met_known own c) → cell_gaps k r c ≡ []
cell_up k own r None h = refl
cell_up k own None (Some c) h = absurd (no_number_in (met own c) h)
cell_up k own (Some r) (Some c) h =
    let w = ordered_tells r (met own c) h in let low = w.0 in let high = w.1 in
    ends_none k r c (omega (arith, ints, clamps, low), omega (arith, ints, clamps, high))

join_below : (r : Known) (rs : List Known) (o : Option Known) (e : Element) → KnownIsBelow r o → ElementBelow (Some rs) e → ElementBelow (Some (r ∷ rs)) (with_cell o e)
join_below r rs None e h hs = absurd h
join_below r rs (Some c) None h hs = absurd hs
join_below r rs (Some c) (Some cs) h hs = (h, hs)

join_tells : (r : Known) (rs : List Known) (o : Option Known) (e : Element) → ElementBelow (Some (r ∷ rs)) (with_cell o e) → KnownIsBelow r o × ElementBelow (Some rs) e
join_tells r rs None e h = absurd h
join_tells r rs (Some c) None h = absurd h
join_tells r rs (Some c) (Some cs) h = h

parts_none : (a b : List Gap) → a ++ b ≡ [] → (a ≡ []) × (b ≡ [])
parts_none [] b e = (refl, e)
parts_none (x ∷ a) b e = absurd (grind (arith, common_steps, e))

down : (owns : List Interval) (rs cs : List Known) (k : ℕ) → CellsFit owns rs → length cs ≡ length owns → gaps_from k rs cs ≡ [] → ElementBelow (Some rs) (met_cells owns cs)
down [] [] [] k f l e = tt
down (own ∷ owns) (r ∷ rs) (c ∷ cs) k (f, fs) l e =
    let parts = parts_none (cell_gaps k r c) (gaps_from (suc k) rs cs) e in
    join_below r rs (met_known own c) (met_cells owns cs) (cell_down k own r c f parts.0) (down owns rs cs (suc k) fs (omega (arith, l)) parts.1)
down [] (r ∷ rs) cs k f l e = absurd f
down [] [] (c ∷ cs) k f l e = absurd (omega (arith, l))
down (own ∷ owns) [] cs k f l e = absurd f
down (own ∷ owns) (r ∷ rs) [] k f l e = absurd (omega (arith, l))

up : (owns : List Interval) (rs cs : List Known) (k : ℕ) → CellsFit owns rs → length cs ≡ length owns → ElementBelow (Some rs) (met_cells owns cs) → gaps_from k rs cs ≡ []
up [] [] [] k f l h = refl
up (own ∷ owns) (r ∷ rs) (c ∷ cs) k (f, fs) l h =
    let both = join_tells r rs (met_known own c) (met_cells owns cs) h in
    rw (cell_up k own r c both.0) (up owns rs cs (suc k) fs (omega (arith, l)) both.1)
up [] (r ∷ rs) cs k f l h = absurd f
up [] [] (c ∷ cs) k f l h = absurd (omega (arith, l))
up (own ∷ owns) [] cs k f l h = absurd f
up (own ∷ owns) (r ∷ rs) [] k f l h = absurd (omega (arith, l))

-- as many cells are written as are asked for
pub written_length : (cell more : ℕ) (claims : List Claim) → length (written_from cell more claims) ≡ more
written_length cell zero claims = refl
written_length cell (suc more) claims = ap suc (written_length (suc cell) more (claims_behind claims cell))

no_reach : (rs : List Known) → element_gaps (Some rs) None ≡ [] → ⊥
no_reach rs e = grind (arith, common_steps, e)

tells : (owns : List Interval) (reached written : Element) → ElementFits owns reached
    → ((cs : List Known) → written ≡ Some cs → length cs ≡ length owns)
    → (element_gaps reached written ≡ []) ↔ ElementBelow reached (met_element owns written)
tells owns None written f l = ((λ e. tt), (λ h. refl))
tells owns (Some rs) None f l = ((λ e. absurd (no_reach rs e)), (λ h. absurd h))
tells owns (Some rs) (Some cs) f l = (down owns rs cs 1 f (l cs refl), up owns rs cs 1 f (l cs refl))

some_is : {A : Type 0} (x y : A) → Some x ≡ Some y → x ≡ y
some_is x y e = cc

pub gaps_tell : GapsTellTheOrder
gaps_tell owns reached NotReached f = tells owns reached None f (λ cs e. absurd (cc e))
gaps_tell owns reached (Holds claims bounds) f =
    let ws = written_from 1 (length owns) claims in
    tells owns reached (Some ws) f (λ cs e. ap length (sym (some_is ws cs e)) ∙ written_length 1 (length owns) claims)
