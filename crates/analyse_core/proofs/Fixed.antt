-- Where a head's ends are thresholds, widening stays below them.
use Rattle.std.proofs.Common.{◌≡◌, ℕ, ◌<◌, List, [], ◌∷◌, length, Option, Some, None, ℤ, ◌≤ℤ◌, ◌<ℤ◌, int_lt, int_le, if◌then◌else◌, Bool, true, false, refl, sym, ap, ◌∙◌, subst, arith}
use Rattle.std.specs.List.{AllByRecursion}
use Rattle.std.proofs.lemmas.Int.{ints, by_lt_z}
use Rattle.interval_domain.specs.declared.bounds.Interval.{Interval}
use Rattle.interval_domain.specs.Thresholds.{IsListed}
use Rattle.dom_laws.specs.Lattice.{IsElement}
use Rattle.dom_laws.specs.Flow.{Flow, IsHead, HeadsAreFixed}
use Rattle.interval_domain.specs.Known.{Known, KnownFits, KnownBelow, first_of, last_of, nearest_below, nearest_above, widened_low, widened_high, widened_known, HasEnds}
use Rattle.interval_domain.specs.Elements.{Element, CellsFit, ElementFits, CellsBelow, ElementBelow, widened, widened_element, AreThresholds}
use Rattle.interval_domain.specs.Rows.{row_from, element_of, widened_row, cells_lattice}
use Rattle.interval_domain.proofs.Ends.{nearest_below_is_nearest, nearest_above_is_nearest}
use Rattle.interval_domain.proofs.OneKnown.{below_anything}
use Rattle.interval_domain.proofs.AllCells.{element_widen_fits}
use Rattle.interval_domain.proofs.Rows.{element_back}
use Rattle.cert_text.specs.Claims.{if_ordered, met_known, with_cell, met_cells, met_element}
use Rattle.analyse_core.specs.Assignments.{HasListedEnds, AreListed, IsListedElement}
use Rattle.analyse_core.proofs.Claiming.{met_whole}
use Rattle.analyse_core.proofs.Rising.{LiesIn, listed_lies}
use Rattle.analyse_core.proofs.CellLists.{ListsLieIn}

-- ---- one cell

low_fixed : (ts : List ℤ) (old new end : ℤ) → 0 < length ts → first_of ts ≤ℤ new → IsListed ts end → end ≤ℤ old → end ≤ℤ new →
    end ≤ℤ widened_low ts old new
low_fixed ts old new end some first listed h k =
    by_lt_z new old
    (λ (lt : new <ℤ old).
    let e : int_lt new old ≡ true = grind (arith, ints, lt) in
    subst (λ b. end ≤ℤ (if b then nearest_below ts new else old)) (sym e) ((nearest_below_is_nearest ts new some first).nearest end listed k))
    (λ (le : old ≤ℤ new).
    let e : int_lt new old ≡ false = grind (arith, ints, le) in
    subst (λ b. end ≤ℤ (if b then nearest_below ts new else old)) (sym e) h)

high_fixed : (ts : List ℤ) (old new end : ℤ) → 0 < length ts → new ≤ℤ last_of ts → IsListed ts end → old ≤ℤ end → new ≤ℤ end →
    widened_high ts old new ≤ℤ end
high_fixed ts old new end some last listed h k =
    by_lt_z old new
    (λ (lt : old <ℤ new).
    let e : int_lt old new ≡ true = grind (arith, ints, lt) in
    subst (λ b. (if b then nearest_above ts new else old) ≤ℤ end) (sym e) ((nearest_above_is_nearest ts new some last).nearest end listed k))
    (λ (le : new ≤ℤ old).
    let e : int_lt old new ≡ false = grind (arith, ints, le) in
    subst (λ b. (if b then nearest_above ts new else old) ≤ℤ end) (sym e) h)

known_fixed : (own : Interval) (ts : List ℤ) (a b c : Known) → HasEnds own ts → KnownFits own b → HasListedEnds ts c → KnownBelow a c →
    KnownBelow b c → KnownBelow (widened_known ts a b) c
known_fixed own ts a b None e f l h k = below_anything (widened_known ts a b)
known_fixed own ts None b (Some i) e f l h k = absurd h
known_fixed own ts (Some x) None (Some i) e f l h k = absurd k
known_fixed own ts (Some x) (Some y) (Some i) e (f, o, m) (low, high) (h, h2) (k, k2) =
    let first = e.first in
    let last = e.last in (
      low_fixed ts x.low y.low i.low e.some (omega (arith, ints, first, f)) low h k,
      high_fixed ts x.high y.high i.high e.some (omega (arith, ints, last, m)) high h2 k2,
    )

-- ---- all cells

cells_fixed : (owns : List Interval) (tss : List (List ℤ)) (as_ bs cs : List Known) → AreThresholds owns tss → CellsFit owns bs →
    AreListed tss cs → CellsBelow as_ cs → CellsBelow bs cs → CellsBelow (widened tss as_ bs) cs
cells_fixed [] [] as_ [] [] e f l h k = tt
cells_fixed [] [] as_ [] (c ∷ cs) e f l h k = absurd l
cells_fixed [] [] as_ (b ∷ bs) cs e f l h k = absurd f
cells_fixed [] (ts ∷ tss) as_ bs cs e f l h k = absurd e
cells_fixed (own ∷ owns) [] as_ bs cs e f l h k = absurd e
cells_fixed (own ∷ owns) (ts ∷ tss) as_ [] cs e f l h k = absurd f
cells_fixed (own ∷ owns) (ts ∷ tss) as_ (b ∷ bs) [] e f l h k = absurd l
cells_fixed (own ∷ owns) (ts ∷ tss) [] (b ∷ bs) (c ∷ cs) e f l h k = absurd h
cells_fixed (own ∷ owns) (ts ∷ tss) (a ∷ as_) (b ∷ bs) (c ∷ cs) (e, es) (f, fs) (l, ls) (h, hs) (k, ks) =
    (known_fixed own ts a b c e f l h k, cells_fixed owns tss as_ bs cs es fs ls hs ks)

element_fixed : (owns : List Interval) (tss : List (List ℤ)) (x y z : Element) → AreThresholds owns tss → ElementFits owns y →
    IsListedElement tss z → ElementBelow x z → ElementBelow y z → ElementBelow (widened_element tss x y) z
element_fixed owns tss None y z e f l h k = k
element_fixed owns tss (Some as_) None z e f l h k = h
element_fixed owns tss (Some as_) (Some bs) None e f l h k = absurd h
element_fixed owns tss (Some as_) (Some bs) (Some cs) e f l h k = cells_fixed owns tss as_ bs cs e f l h k

module _ (owns : List Interval) (tss : List (List ℤ)) (are : AreThresholds owns tss) where
  of_widened : (a b : List ℤ) → IsElement (cells_lattice owns tss) a → IsElement (cells_lattice owns tss) b →
      element_of (widened_row tss a b) ≡ widened_element tss (element_of a) (element_of b)
  of_widened a b is other =
      ap (λ n. element_of (row_from n (widened_element tss (element_of a) (element_of b)))) is.width
      ∙ element_back owns (widened_element tss (element_of a) (element_of b))
      (element_widen_fits owns tss (element_of a) (element_of b) are is.formed.fits other.formed.fits)

  -- heads whose ends are thresholds are fixed
  pub heads_are_fixed : (f : Flow) (rows : ℕ → List ℤ) → ((node : ℕ) → IsHead f node → IsListedElement tss (element_of (rows node))) →
      HeadsAreFixed (cells_lattice owns tss) f rows
  heads_are_fixed f rows listed head is a b ea eb h k =
      subst (λ (x : Element). ElementBelow x (element_of (rows head))) (sym (of_widened a b ea eb))
      (element_fixed owns tss (element_of a) (element_of b) (element_of (rows head)) are eb.formed.fits (listed head is) h k)

-- ---- claims met with own ranges

ordered_listed : (ts : List ℤ) (i : Interval) (d : Known) → IsListed ts i.low → IsListed ts i.high → if_ordered i ≡ Some d → HasListedEnds ts d
ordered_listed ts i d l h e = by_test (int_le i.low i.high) e
  where
    by_test : (b : Bool) → (if b then Some (Some i) else None) ≡ Some d → HasListedEnds ts d
    by_test true f = let same : Some i ≡ d = cc f in subst (HasListedEnds ts) same (l, h)
    by_test false f = absurd (cc f)

met_listed : (own : Interval) (ts : List ℤ) (c d : Known) → AllByRecursion (LiesIn own) ts → HasListedEnds ts c → met_known own c ≡ Some d →
    HasListedEnds ts d
met_listed own ts None d h l e = let same : None ≡ d = cc e in subst (HasListedEnds ts) same tt
met_listed own ts (Some i) d h (low, high) e =
    let whole = met_whole own i (listed_lies own ts i.low h low).0 (listed_lies own ts i.high h high).1 in
    ordered_listed ts i d low high (sym (ap if_ordered whole) ∙ e)

cells_listed : (owns : List Interval) (tss : List (List ℤ)) (cs ds : List Known) → ListsLieIn owns tss → AreListed tss cs →
    met_cells owns cs ≡ Some ds → AreListed tss ds
cells_listed [] [] [] ds h l e = let same : [] ≡ ds = cc e in subst (AreListed []) same tt
cells_listed [] [] (c ∷ cs) ds h l e = absurd l
cells_listed [] (ts ∷ tss) cs ds h l e = absurd h
cells_listed (own ∷ owns) [] cs ds h l e = absurd h
cells_listed (own ∷ owns) (ts ∷ tss) [] ds h l e = absurd l
cells_listed (own ∷ owns) (ts ∷ tss) (c ∷ cs) ds (h, hs) (l, ls) e =
    by_parts (met_known own c) (met_cells owns cs) refl (λ rest g. cells_listed owns tss cs rest hs ls g) e
  where
    by_parts : (o : Option Known) (x : Element) → met_known own c ≡ o → ((rest : List Known) → x ≡ Some rest → AreListed tss rest) →
        with_cell o x ≡ Some ds → AreListed (ts ∷ tss) ds
    by_parts None x f g k = absurd (cc k)
    by_parts (Some d) None f g k = absurd (cc k)
    by_parts (Some d) (Some rest) f g k =
        let same : (d ∷ rest) ≡ ds = cc k in
        subst (AreListed (ts ∷ tss)) same (met_listed own ts c d h l f, g rest refl)

-- what a claim of thresholds means has thresholds as ends
pub claimed_listed : (owns : List Interval) (tss : List (List ℤ)) (x : Element) → ListsLieIn owns tss → IsListedElement tss x →
    IsListedElement tss (met_element owns x)
claimed_listed owns tss None h l = tt
claimed_listed owns tss (Some cs) h l = by_case (met_cells owns cs) refl
  where
    by_case : (y : Element) → met_cells owns cs ≡ y → IsListedElement tss y
    by_case None e = tt
    by_case (Some ds) e = cells_listed owns tss cs ds h l e
