-- What a store makes of the row, cell by cell: the receiver's cell alone may keep what it was.
use Rattle.std.proofs.Common.{◌≡◌, ℕ, Bool, true, false, if◌then◌else◌, List, [], ◌∷◌, Some, None, ℤ, refl, ap, ◌∙◌, arith}
use Rattle.std.specs.Int.{int_max, int_min}
use Rattle.std.proofs.lemmas.Int.{ints, clamps}
use Rattle.interval_domain.specs.declared.bounds.Interval.{Interval}
use Rattle.interval_domain.specs.Corners.{interval, joined as hull_of}
use Rattle.cob_program.specs.Act.{Program}
use Rattle.interval_domain.specs.Known.{Known, joined_known}
use Rattle.interval_domain.specs.Elements.{joined}
use Rattle.cob_graph.specs.declared.homes.Home.{Home}
use Rattle.cob_graph.specs.declared.homes.Home.TheVariants.{Item as of_item}
use Rattle.cob_graph.specs.Homes.{is_home, homes_of}
use Rattle.cell_steps.specs.Storages.{known_of}
use Rattle.cell_steps.specs.Cells.{with_known, forgotten, is_beside}
use Rattle.cell_steps.specs.Stores.{receiver_known, stored_cells, stored_element}
use Rattle.cell_layer.specs.Kept.{kept_or_new}

-- ---- joins

least_same : (z : ℤ) → int_min z z ≡ z
least_same z = omega (arith, ints, clamps)

greatest_same : (z : ℤ) → int_max z z ≡ z
greatest_same z = omega (arith, ints, clamps)

hull_same : (i : Interval) → hull_of i i ≡ i
hull_same i = ap (λ (z : ℤ). interval z (int_max i.high i.high)) (least_same i.low) ∙ ap (λ (z : ℤ). interval i.low z) (greatest_same i.high)

known_same : (c : Known) → joined_known c c ≡ c
known_same None = refl
known_same (Some i) = ap Some (hull_same i)

known_gone : (c : Known) → joined_known c None ≡ None
known_gone None = refl
known_gone (Some i) = refl

cells_same : (cs : List Known) → joined cs cs ≡ cs
cells_same [] = refl
cells_same (c ∷ cs) = ap (λ (d : Known). d ∷ joined cs cs) (known_same c) ∙ ap (λ ds. c ∷ ds) (cells_same cs)

-- a cell that may have been forgotten
maybe_gone : (b : Bool) (c : Known) → joined_known c (if b then None else c) ≡ (if b then None else c)
maybe_gone true c = known_gone c
maybe_gone false c = known_same c

join_forgotten : (gone : Home → Bool) (hs : List Home) (cs : List Known) → joined cs (forgotten gone hs cs) ≡ forgotten gone hs cs
join_forgotten gone [] cs = cells_same cs
join_forgotten gone (h ∷ hs) [] = refl
join_forgotten gone (h ∷ hs) (c ∷ cs) =
    ap (λ (d : Known). d ∷ joined cs (forgotten gone hs cs)) (maybe_gone (gone h) c)
    ∙ ap (λ ds. (if gone h then None else c) ∷ ds) (join_forgotten gone hs cs)

join_stored : (gone : Home → Bool) (home : Home) (new : Known) (hs : List Home) (cs : List Known) →
    joined cs (with_known home new hs (forgotten gone hs cs)) ≡ with_known home (joined_known (known_of hs cs home) new) hs (forgotten gone hs cs)
join_stored gone home new [] cs = cells_same cs
join_stored gone home new (h ∷ hs) [] = refl
join_stored gone home new (h ∷ hs) (c ∷ cs) = go (is_home h home) (join_stored gone home new hs cs)
  where
    kept : Known
    kept = if gone h then None else c

    rest : List Known
    rest = forgotten gone hs cs

    go : (here : Bool) → joined cs (with_known home new hs rest) ≡ with_known home (joined_known (known_of hs cs home) new) hs rest →
        joined (c ∷ cs) (if here then new ∷ rest else kept ∷ with_known home new hs rest)
        ≡ (if here then joined_known (if here then c else known_of hs cs home) new ∷ rest
        else kept ∷ with_known home (joined_known (if here then c else known_of hs cs home) new) hs rest)
    go true more = ap (λ ds. joined_known c new ∷ ds) (join_forgotten gone hs cs)
    go false more =
        ap (λ (d : Known). d ∷ joined cs (with_known home new hs rest)) (maybe_gone (gone h) c)
        ∙ ap (λ ds. kept ∷ ds) more

-- the receiver's cell and what is beside it are all that changes
pub put_is : (p : Program) (place : ℕ) (keeps : Bool) (cs : List Known) (units : Interval) →
    stored_element keeps cs (Some (stored_cells p place cs units))
    ≡ Some (with_known (of_item place) (kept_or_new keeps (known_of (homes_of p) cs (of_item place)) (receiver_known p place cs units))
    (homes_of p) (forgotten (is_beside p.layout place) (homes_of p) cs))
put_is p place false cs units = refl
put_is p place true cs units =
    ap Some (join_stored (is_beside p.layout place) (of_item place) (receiver_known p place cs units) (homes_of p) cs)
