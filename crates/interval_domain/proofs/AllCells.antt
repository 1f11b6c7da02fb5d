-- Elements: order, joins, widening.
use Rattle.std.proofs.Common.{◌≡◌, suc, ◌<◌, ◌≤◌, List, [], ◌∷◌, length, Some, None, ℤ, ◌≤ℤ◌, ◌⊎◌, inl, inr, refl, sym, ap, subst, ◌∙◌, arith}
use Rattle.interval_domain.specs.declared.bounds.Interval.{Interval}
use Rattle.interval_domain.specs.Known.{Known, KnownFits, KnownBelow, widened_known, KnownWithin, HasEnds, known_rank}
use Rattle.interval_domain.specs.Elements.{Element, AreOrdered, CellsFit, ElementFits, CellsBelow, ElementBelow, joined, joined_element, widened, widened_element, CellsWithin, AreThresholds, cells_rank, cells_height, height_of, element_rank}
use Rattle.interval_domain.proofs.OneKnown.{known_reflexive, known_transitive, known_join_left, known_join_right, known_join_least, known_join_fits, known_widen_fits, known_widen_left, known_widen_right, known_widen_keeps, known_falls, known_rank_most}

-- what holds of no cells, and of one cell more
each : (P : List Interval → List (List ℤ) → List Known → List Known → Type 0) → P [] [] [] [] → ((own : Interval) (owns : List Interval) (ts : List ℤ) (tss : List (List ℤ)) (a : Known) (as_ : List Known) (b : Known) (bs : List Known) → HasEnds own ts → KnownFits own a → KnownFits own b → P owns tss as_ bs → P (own ∷ owns) (ts ∷ tss) (a ∷ as_) (b ∷ bs)) → (owns : List Interval) (tss : List (List ℤ)) (as_ bs : List Known) → AreThresholds owns tss → CellsFit owns as_ → CellsFit owns bs → P owns tss as_ bs
each P none more [] [] [] [] e h k = none
each P none more [] (ts ∷ tss) as_ bs e h k = absurd e
each P none more [] [] (a ∷ as_) bs e h k = absurd h
each P none more [] [] [] (b ∷ bs) e h k = absurd k
each P none more (own ∷ owns) [] as_ bs e h k = absurd e
each P none more (own ∷ owns) (ts ∷ tss) [] bs e h k = absurd h
each P none more (own ∷ owns) (ts ∷ tss) (a ∷ as_) [] e h k = absurd k
each P none more (own ∷ owns) (ts ∷ tss) (a ∷ as_) (b ∷ bs) (e, es) (h, hs) (k, ks) = more own owns ts tss a as_ b bs e h k (each P none more owns tss as_ bs es hs ks)

-- ---- the order
cells_reflexive : (cs : List Known) → CellsBelow cs cs
cells_reflexive [] = tt
cells_reflexive (c ∷ cs) = (known_reflexive c, cells_reflexive cs)

cells_transitive : (as_ bs cs : List Known) → CellsBelow as_ bs → CellsBelow bs cs → CellsBelow as_ cs
cells_transitive [] [] [] h k = tt
cells_transitive [] [] (c ∷ cs) h k = absurd k
cells_transitive [] (b ∷ bs) cs h k = absurd h
cells_transitive (a ∷ as_) [] cs h k = absurd h
cells_transitive (a ∷ as_) (b ∷ bs) [] h k = absurd k
cells_transitive (a ∷ as_) (b ∷ bs) (c ∷ cs) (h, hs) (k, ks) = (known_transitive a b c h k, cells_transitive as_ bs cs hs ks)

pub element_reflexive : (x : Element) → ElementBelow x x
element_reflexive None = tt
element_reflexive (Some cs) = cells_reflexive cs

pub element_transitive : (x y z : Element) → ElementBelow x y → ElementBelow y z → ElementBelow x z
element_transitive None y z h k = tt
element_transitive (Some as_) None z h k = absurd h
element_transitive (Some as_) (Some bs) None h k = absurd k
element_transitive (Some as_) (Some bs) (Some cs) h k = cells_transitive as_ bs cs h k

-- ---- joins
cells_join_fits : (owns : List Interval) (as_ bs : List Known) → CellsFit owns as_ → CellsFit owns bs → CellsFit owns (joined as_ bs)
cells_join_fits [] [] [] h k = tt
cells_join_fits [] (a ∷ as_) bs h k = absurd h
cells_join_fits [] [] (b ∷ bs) h k = absurd k
cells_join_fits (own ∷ owns) [] bs h k = absurd h
cells_join_fits (own ∷ owns) (a ∷ as_) [] h k = absurd k
cells_join_fits (own ∷ owns) (a ∷ as_) (b ∷ bs) (h, hs) (k, ks) = (known_join_fits own a b h k, cells_join_fits owns as_ bs hs ks)

cells_join_left : (owns : List Interval) (as_ bs : List Known) → CellsFit owns as_ → CellsFit owns bs → CellsBelow as_ (joined as_ bs)
cells_join_left [] [] [] h k = tt
cells_join_left [] (a ∷ as_) bs h k = absurd h
cells_join_left [] [] (b ∷ bs) h k = absurd k
cells_join_left (own ∷ owns) [] bs h k = absurd h
cells_join_left (own ∷ owns) (a ∷ as_) [] h k = absurd k
cells_join_left (own ∷ owns) (a ∷ as_) (b ∷ bs) (h, hs) (k, ks) = (known_join_left a b, cells_join_left owns as_ bs hs ks)

cells_join_right : (owns : List Interval) (as_ bs : List Known) → CellsFit owns as_ → CellsFit owns bs → CellsBelow bs (joined as_ bs)
cells_join_right [] [] [] h k = tt
cells_join_right [] (a ∷ as_) bs h k = absurd h
cells_join_right [] [] (b ∷ bs) h k = absurd k
cells_join_right (own ∷ owns) [] bs h k = absurd h
cells_join_right (own ∷ owns) (a ∷ as_) [] h k = absurd k
cells_join_right (own ∷ owns) (a ∷ as_) (b ∷ bs) (h, hs) (k, ks) = (known_join_right a b, cells_join_right owns as_ bs hs ks)

cells_join_least : (as_ bs cs : List Known) → CellsBelow as_ cs → CellsBelow bs cs → CellsBelow (joined as_ bs) cs
cells_join_least [] [] cs h k = h
cells_join_least [] (b ∷ bs) [] h k = absurd k
cells_join_least [] (b ∷ bs) (c ∷ cs) h k = absurd h
cells_join_least (a ∷ as_) bs [] h k = absurd h
cells_join_least (a ∷ as_) [] (c ∷ cs) h k = absurd k
cells_join_least (a ∷ as_) (b ∷ bs) (c ∷ cs) (h, hs) (k, ks) = (known_join_least a b c h k, cells_join_least as_ bs cs hs ks)

pub element_join_fits : (owns : List Interval) (x y : Element) → ElementFits owns x → ElementFits owns y → ElementFits owns (joined_element x y)
element_join_fits owns None y h k = k
element_join_fits owns (Some as_) None h k = h
element_join_fits owns (Some as_) (Some bs) h k = cells_join_fits owns as_ bs h k

pub element_join_left : (owns : List Interval) (x y : Element) → ElementFits owns x → ElementFits owns y → ElementBelow x (joined_element x y)
element_join_left owns None y h k = tt
element_join_left owns (Some as_) None h k = cells_reflexive as_
element_join_left owns (Some as_) (Some bs) h k = cells_join_left owns as_ bs h k

pub element_join_right : (owns : List Interval) (x y : Element) → ElementFits owns x → ElementFits owns y → ElementBelow y (joined_element x y)
element_join_right owns None y h k = element_reflexive y
element_join_right owns (Some as_) None h k = tt
element_join_right owns (Some as_) (Some bs) h k = cells_join_right owns as_ bs h k

pub element_join_least : (x y z : Element) → ElementBelow x z → ElementBelow y z → ElementBelow (joined_element x y) z
element_join_least None y z h k = k
element_join_least (Some as_) None z h k = h
element_join_least (Some as_) (Some bs) None h k = absurd h
element_join_least (Some as_) (Some bs) (Some cs) h k = cells_join_least as_ bs cs h k

-- ---- widening
cells_widen_fits : (owns : List Interval) (tss : List (List ℤ)) (as_ bs : List Known) → AreThresholds owns tss → CellsFit owns as_ → CellsFit owns bs → CellsFit owns (widened tss as_ bs)
cells_widen_fits = each (λ owns tss as_ bs. CellsFit owns (widened tss as_ bs)) tt (λ own owns ts tss a as_ b bs e h k rest. (known_widen_fits own ts a b e h k, rest))

cells_widen_left : (owns : List Interval) (tss : List (List ℤ)) (as_ bs : List Known) → AreThresholds owns tss → CellsFit owns as_ → CellsFit owns bs → CellsBelow as_ (widened tss as_ bs)
cells_widen_left = each (λ owns tss as_ bs. CellsBelow as_ (widened tss as_ bs)) tt (λ own owns ts tss a as_ b bs e h k rest. (known_widen_left own ts a b e h k, rest))

cells_widen_right : (owns : List Interval) (tss : List (List ℤ)) (as_ bs : List Known) → AreThresholds owns tss → CellsFit owns as_ → CellsFit owns bs → CellsBelow bs (widened tss as_ bs)
cells_widen_right = each (λ owns tss as_ bs. CellsBelow bs (widened tss as_ bs)) tt (λ own owns ts tss a as_ b bs e h k rest. (known_widen_right own ts a b e h k, rest))

cells_widen_keeps : (owns : List Interval) (tss : List (List ℤ)) (as_ bs : List Known) → AreThresholds owns tss → CellsFit owns as_ → CellsFit owns bs → CellsBelow bs as_ → widened tss as_ bs ≡ as_
cells_widen_keeps = each (λ owns tss as_ bs. CellsBelow bs as_ → widened tss as_ bs ≡ as_) (λ h. refl) (λ own owns ts tss a as_ b bs e h k rest below. ap (λ x. x ∷ widened tss as_ bs) (known_widen_keeps ts a b below.0) ∙ ap (λ xs. a ∷ xs) (rest below.1))

not_more : (ts : List ℤ) (a b : Known) → KnownBelow b a → known_rank ts (widened_known ts a b) ≤ known_rank ts a
not_more ts a b below = let e = ap (known_rank ts) (known_widen_keeps ts a b below) in omega (arith, e)

rank_kept : (tss : List (List ℤ)) (as_ bs : List Known) → CellsBelow bs as_ → cells_rank tss (widened tss as_ bs) ≤ cells_rank tss as_
rank_kept [] as_ bs h = omega arith
rank_kept (ts ∷ tss) [] [] h = omega arith
rank_kept (ts ∷ tss) [] (b ∷ bs) h = absurd h
rank_kept (ts ∷ tss) (a ∷ as_) [] h = absurd h
rank_kept (ts ∷ tss) (a ∷ as_) (b ∷ bs) (h, hs) = let first = not_more ts a b h in let rest = rank_kept tss as_ bs hs in omega (arith, first, rest)

-- the cells of the second list lie below those of the first, or the first fall in rank
abbrev Falls : List (List ℤ) → List Known → List Known → Type 0
Falls tss as_ bs = CellsBelow bs as_ ⊎ (cells_rank tss (widened tss as_ bs) < cells_rank tss as_)

falls_more : (ts : List ℤ) (tss : List (List ℤ)) (a : Known) (as_ : List Known) (b : Known) (bs : List Known) → KnownBelow b a ⊎ (known_rank ts (widened_known ts a b) < known_rank ts a) → Falls tss as_ bs → Falls (ts ∷ tss) (a ∷ as_) (b ∷ bs)
falls_more ts tss a as_ b bs (inl below) (inl rest) = inl (below, rest)
falls_more ts tss a as_ b bs (inl below) (inr rest) = inr (let most = not_more ts a b below in omega (arith, most, rest))
falls_more ts tss a as_ b bs (inr less) (inr rest) = inr (omega (arith, less, rest))
falls_more ts tss a as_ b bs (inr less) (inl rest) = inr (let same = rank_kept tss as_ bs rest in omega (arith, less, same))

cells_fall : (owns : List Interval) (tss : List (List ℤ)) (as_ bs : List Known) → AreThresholds owns tss → CellsFit owns as_ → CellsFit owns bs → Falls tss as_ bs
cells_fall = each (λ owns tss as_ bs. Falls tss as_ bs) (inl tt) (λ own owns ts tss a as_ b bs e h k rest. falls_more ts tss a as_ b bs (known_falls own ts a b e h k) rest)

cells_rank_most : (tss : List (List ℤ)) (cs : List Known) → cells_rank tss cs ≤ cells_height tss
cells_rank_most [] cs = omega arith
cells_rank_most (ts ∷ tss) [] = omega arith
cells_rank_most (ts ∷ tss) (c ∷ cs) = let one = known_rank_most ts c in let rest = cells_rank_most tss cs in omega (arith, one, rest)

pub element_widen_fits : (owns : List Interval) (tss : List (List ℤ)) (x y : Element) → AreThresholds owns tss → ElementFits owns x → ElementFits owns y → ElementFits owns (widened_element tss x y)
element_widen_fits owns tss None y e h k = k
element_widen_fits owns tss (Some as_) None e h k = h
element_widen_fits owns tss (Some as_) (Some bs) e h k = cells_widen_fits owns tss as_ bs e h k

pub element_widen_left : (owns : List Interval) (tss : List (List ℤ)) (x y : Element) → AreThresholds owns tss → ElementFits owns x → ElementFits owns y → ElementBelow x (widened_element tss x y)
element_widen_left owns tss None y e h k = tt
element_widen_left owns tss (Some as_) None e h k = cells_reflexive as_
element_widen_left owns tss (Some as_) (Some bs) e h k = cells_widen_left owns tss as_ bs e h k

pub element_widen_right : (owns : List Interval) (tss : List (List ℤ)) (x y : Element) → AreThresholds owns tss → ElementFits owns x → ElementFits owns y → ElementBelow y (widened_element tss x y)
element_widen_right owns tss None y e h k = element_reflexive y
element_widen_right owns tss (Some as_) None e h k = tt
element_widen_right owns tss (Some as_) (Some bs) e h k = cells_widen_right owns tss as_ bs e h k

pub element_widen_keeps : (owns : List Interval) (tss : List (List ℤ)) (x y : Element) → AreThresholds owns tss → ElementFits owns x → ElementFits owns y → ElementBelow y x → widened_element tss x y ≡ x
element_widen_keeps owns tss None None e h k below = refl
element_widen_keeps owns tss None (Some bs) e h k below = absurd below
element_widen_keeps owns tss (Some as_) None e h k below = refl
element_widen_keeps owns tss (Some as_) (Some bs) e h k below = ap Some (cells_widen_keeps owns tss as_ bs e h k below)

pub element_falls : (owns : List Interval) (tss : List (List ℤ)) (x y : Element) → AreThresholds owns tss → ElementFits owns x → ElementFits owns y → ¬ ElementBelow y x → element_rank tss (widened_element tss x y) < element_rank tss x
element_falls owns tss None None e h k grows = absurd (grows tt)
element_falls owns tss None (Some bs) e h k grows = let most = cells_rank_most tss bs in omega (arith, most)
element_falls owns tss (Some as_) None e h k grows = absurd (grows tt)
element_falls owns tss (Some as_) (Some bs) e h k grows =
    elim (cells_fall owns tss as_ bs e h k) as (λ _. cells_rank tss (widened tss as_ bs) < cells_rank tss as_) [
      | inl below ↦ absurd (grows below)
      | inr less ↦ less
    ]

pub element_rank_most : (tss : List (List ℤ)) (x : Element) → element_rank tss x ≤ height_of tss
element_rank_most tss None = omega arith
element_rank_most tss (Some cs) = let most = cells_rank_most tss cs in omega (arith, most)

-- ---- what fits
pub fits_ordered : (owns : List Interval) (cs : List Known) → CellsFit owns cs → AreOrdered cs
fits_ordered [] [] h = tt
fits_ordered [] (c ∷ cs) h = absurd h
fits_ordered (own ∷ owns) [] h = absurd h
fits_ordered (own ∷ owns) (None ∷ cs) (h, hs) = (tt, fits_ordered owns cs hs)
fits_ordered (own ∷ owns) (Some i ∷ cs) (h, hs) = (h.1, fits_ordered owns cs hs)

pub fits_length : (owns : List Interval) (cs : List Known) → CellsFit owns cs → length cs ≡ length owns
fits_length [] [] h = refl
fits_length [] (c ∷ cs) h = absurd h
fits_length (own ∷ owns) [] h = absurd h
fits_length (own ∷ owns) (c ∷ cs) (h, hs) = ap suc (fits_length owns cs hs)

known_within : (own : Interval) (ts : List ℤ) (c : Known) → HasEnds own ts → KnownFits own c → KnownWithin ts c
known_within own ts None e h = tt
known_within own ts (Some i) e (h, k, l) = (e.some, subst (λ (z : ℤ). z ≤ℤ i.low) (sym e.first) h, subst (λ (z : ℤ). i.high ≤ℤ z) (sym e.last) l)

-- intervals within the cells' own ranges lie between the thresholds' ends
pub fits_within : (owns : List Interval) (tss : List (List ℤ)) (cs : List Known) → AreThresholds owns tss → CellsFit owns cs → CellsWithin tss cs
fits_within owns tss cs e h = each (λ owns tss as_ bs. CellsWithin tss as_) tt (λ own owns ts tss a as_ b bs e h k rest. (known_within own ts a e h, rest)) owns tss cs cs e h h
