-- Rows are a lattice with a widening.
use Rattle.std.proofs.Common.{◌≡◌, ◌<◌, List, length, Some, None, ℤ, pos, refl, sym, ap, subst, ◌∙◌, arith}
use Rattle.std.proofs.lemmas.List.{length-replicate}
use Rattle.dom_laws.specs.Lattice.{IsElement, IsLattice}
use Rattle.interval_domain.specs.declared.bounds.Interval.{Interval}
use Rattle.interval_domain.specs.Elements.{Element, ElementFits, ElementBelow, ElementWithin, joined_element, widened_element, AreThresholds, element_rank}
use Rattle.interval_domain.specs.Rows.{row_from, element_of, width_of, IsSaid, joined_row, widened_row, cells_lattice, RowsAreALattice}
use Rattle.interval_domain.proofs.Places.{cells_of_words, words_length}
use Rattle.interval_domain.proofs.AllCells.{element_reflexive, element_transitive, element_join_fits, element_join_left, element_join_right, element_join_least, element_widen_fits, element_widen_left, element_widen_right, element_widen_keeps, element_falls, element_rank_most, fits_ordered, fits_length, fits_within}

pub element_back : (owns : List Interval) (x : Element) → ElementFits owns x → element_of (row_from (width_of owns) x) ≡ x
element_back owns None h = refl
element_back owns (Some cs) h = ap Some (cells_of_words cs (fits_ordered owns cs h))

pub row_width : (owns : List Interval) (x : Element) → ElementFits owns x → length (row_from (width_of owns) x) ≡ width_of owns
row_width owns None h = length-replicate {A = ℤ} (width_of owns) (pos 0)
row_width owns (Some cs) h = let e = words_length cs in let f = fits_length owns cs h in omega (arith, e, f)

module _ (owns : List Interval) (thresholds : List (List ℤ)) where
  element_row : (x : Element) → ElementFits owns x → IsElement (cells_lattice owns thresholds) (row_from (width_of owns) x)
  element_row x h = record {
    width = row_width owns x h;
    formed = record {
      said = ap (row_from (width_of owns)) (sym (element_back owns x h));
      fits = subst (λ (y : Element). ElementFits owns y) (sym (element_back owns x h)) h;
    };
  }

  -- the row of an element, as wide as another row
  row_beside : (a : List ℤ) (x : Element) → IsElement (cells_lattice owns thresholds) a → ElementFits owns x → IsElement (cells_lattice owns thresholds) (row_from (length a) x)
  row_beside a x is h = subst (λ n. IsElement (cells_lattice owns thresholds) (row_from n x)) (sym is.width) (element_row x h)

  element_beside : (a : List ℤ) (x : Element) → IsElement (cells_lattice owns thresholds) a → ElementFits owns x → element_of (row_from (length a) x) ≡ x
  element_beside a x is h = ap (λ n. element_of (row_from n x)) is.width ∙ element_back owns x h

  same_row : (a : List ℤ) (x : Element) → IsElement (cells_lattice owns thresholds) a → x ≡ element_of a → row_from (length a) x ≡ a
  same_row a x is e = ap (λ n. row_from n x) is.width ∙ ap (row_from (width_of owns)) e ∙ sym is.formed.said

module _ (owns : List Interval) (thresholds : List (List ℤ)) (are : AreThresholds owns thresholds) where
  abbrev join : List ℤ → List ℤ → Element
  join a b = joined_element (element_of a) (element_of b)

  abbrev widen : List ℤ → List ℤ → Element
  widen a b = widened_element thresholds (element_of a) (element_of b)

  of_join : (a b : List ℤ) → IsElement (cells_lattice owns thresholds) a → IsElement (cells_lattice owns thresholds) b → element_of (joined_row a b) ≡ join a b
  of_join a b is other = element_beside owns thresholds a (join a b) is (element_join_fits owns (element_of a) (element_of b) is.formed.fits other.formed.fits)

  of_widen : (a b : List ℤ) → IsElement (cells_lattice owns thresholds) a → IsElement (cells_lattice owns thresholds) b → element_of (widened_row thresholds a b) ≡ widen a b
  of_widen a b is other = element_beside owns thresholds a (widen a b) is (element_widen_fits owns thresholds (element_of a) (element_of b) are is.formed.fits other.formed.fits)

  cells_lattice_is_one : IsLattice (cells_lattice owns thresholds)
  cells_lattice_is_one = record {
    reflexive = λ a is. element_reflexive (element_of a);
    transitive = λ a b c is other third. element_transitive (element_of a) (element_of b) (element_of c);
    least_element = element_row owns thresholds None tt;
    least_below = λ a is. tt;
    join_element = λ a b is other. row_beside owns thresholds a (join a b) is (element_join_fits owns (element_of a) (element_of b) is.formed.fits other.formed.fits);
    join_left = λ a b is other. subst (λ (x : Element). ElementBelow (element_of a) x) (sym (of_join a b is other)) (element_join_left owns (element_of a) (element_of b) is.formed.fits other.formed.fits);
    join_right = λ a b is other. subst (λ (x : Element). ElementBelow (element_of b) x) (sym (of_join a b is other)) (element_join_right owns (element_of a) (element_of b) is.formed.fits other.formed.fits);
    join_least = λ a b c is other third h k. subst (λ (x : Element). ElementBelow x (element_of c)) (sym (of_join a b is other)) (element_join_least (element_of a) (element_of b) (element_of c) h k);
    widen_element = λ a b is other. row_beside owns thresholds a (widen a b) is (element_widen_fits owns thresholds (element_of a) (element_of b) are is.formed.fits other.formed.fits);
    widen_left = λ a b is other. subst (λ (x : Element). ElementBelow (element_of a) x) (sym (of_widen a b is other)) (element_widen_left owns thresholds (element_of a) (element_of b) are is.formed.fits other.formed.fits);
    widen_right = λ a b is other. subst (λ (x : Element). ElementBelow (element_of b) x) (sym (of_widen a b is other)) (element_widen_right owns thresholds (element_of a) (element_of b) are is.formed.fits other.formed.fits);
    widen_keeps = λ a b is other below. same_row owns thresholds a (widen a b) is (element_widen_keeps owns thresholds (element_of a) (element_of b) are is.formed.fits other.formed.fits below);
    widen_falls = λ a b is other grows. subst (λ (x : Element). element_rank thresholds x < element_rank thresholds (element_of a)) (sym (of_widen a b is other)) (element_falls owns thresholds (element_of a) (element_of b) are is.formed.fits other.formed.fits grows);
    rank_within = λ a is. element_rank_most thresholds (element_of a);
  }

pub cells_are_a_lattice : RowsAreALattice
cells_are_a_lattice owns thresholds are = cells_lattice_is_one owns thresholds are

-- ---- what the calls ask of the lattice's rows
pub element_is_said : (owns : List Interval) (thresholds : List (List ℤ)) (a : List ℤ) → IsElement (cells_lattice owns thresholds) a → IsSaid a
element_is_said owns thresholds a is = is.formed.said ∙ ap (λ n. row_from n (element_of a)) (sym is.width)

fits_within_ends : (owns : List Interval) (thresholds : List (List ℤ)) (x : Element) → AreThresholds owns thresholds → ElementFits owns x → ElementWithin thresholds x
fits_within_ends owns thresholds None are h = tt
fits_within_ends owns thresholds (Some cs) are h = fits_within owns thresholds cs are h

pub element_is_within : (owns : List Interval) (thresholds : List (List ℤ)) (a : List ℤ) → AreThresholds owns thresholds → IsElement (cells_lattice owns thresholds) a → ElementWithin thresholds (element_of a)
element_is_within owns thresholds a are is = fits_within_ends owns thresholds (element_of a) are is.formed.fits
