-- What is claimed of cells lies in their own ranges.
use Rattle.std.proofs.Common.{◌≡◌, List, [], ◌∷◌, length, Bool, true, false, Option, Some, None, int_le, if◌then◌else◌, refl, subst, arith}
use Rattle.std.proofs.lemmas.Int.{ints, clamps}
use Rattle.std.proofs.lemmas.Option.{same_Some}
use Rattle.cert_text.specs.View.{Place, NotReached, Holds}
use Rattle.interval_domain.specs.declared.bounds.Interval.{Interval}
use Rattle.interval_domain.specs.Known.{Known, KnownFits}
use Rattle.interval_domain.specs.Elements.{Element, ElementFits}
use Rattle.cert_text.specs.Claims.{claimed_element, met_known, met_cells, with_cell, met, written_from}
use Rattle.cert_text.proofs.Telling.{written_length}

known_fits : (own : Interval) (c d : Known) → met_known own c ≡ Some d → KnownFits own d
known_fits own None d e = subst (KnownFits own) (same_Some None d e) tt
known_fits own (Some i) d e = by_test (int_le (met own i).low (met own i).high) refl e
  where
    by_test : (x : Bool) → int_le (met own i).low (met own i).high ≡ x → (if x then Some (Some (met own i)) else None) ≡ Some d →
        KnownFits own d
    by_test false f g = absurd (cc g)
    by_test true f g =
        subst (KnownFits own) (same_Some (Some (met own i)) d g)
        (omega (arith, ints, clamps), grind (arith, ints, f), omega (arith, ints, clamps))

with_cell_fits : (own : Interval) (ranges : List Interval) (c : Option Known) (e : Element) → ((d : Known) → c ≡ Some d → KnownFits own d) →
    ElementFits ranges e → ElementFits (own ∷ ranges) (with_cell c e)
with_cell_fits own ranges None e h k = tt
with_cell_fits own ranges (Some c) None h k = tt
with_cell_fits own ranges (Some c) (Some cs) h k = (h c refl, k)

met_fits : (ranges : List Interval) (cs : List Known) → length cs ≡ length ranges → ElementFits ranges (met_cells ranges cs)
met_fits [] [] l = tt
met_fits [] (c ∷ cs) l = absurd (omega (arith, l))
met_fits (own ∷ ranges) [] l = absurd (omega (arith, l))
met_fits (own ∷ ranges) (c ∷ cs) l =
    with_cell_fits own ranges (met_known own c) (met_cells ranges cs) (λ d e. known_fits own c d e) (met_fits ranges cs (omega (arith, l)))

-- what claims mean lies in the cells' own ranges
pub claims_fit : (ranges : List Interval) (place : Place) → ElementFits ranges (claimed_element ranges place)
claims_fit ranges NotReached = tt
claims_fit ranges (Holds claims bounds) = met_fits ranges (written_from 1 (length ranges) claims) (written_length 1 (length ranges) claims)
