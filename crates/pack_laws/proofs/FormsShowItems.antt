-- A form has coefficients for cells of its sum's items alone, so that where these have values each coefficient counts.
use Rattle.std.proofs.Common.{◌≡◌, ℕ, suc, ◌<◌, Bool, true, false, List, [], ◌∷◌, ◌++◌, ℤ, pos, negsuc, ◌+ℤ◌, ◌*ℤ◌, Option, Some, None, refl, ap, subst, ◌∙◌}
use Rattle.std.specs.Prelude.{IfSome, nat_eq, if◌then◌else◌}
use Rattle.std.proofs.lemmas.Bool.{ne_eqb}
use Rattle.std.proofs.Math.IntN.{zero-*ℤ}
use Rattle.interval_domain.specs.declared.bounds.Interval.{Interval}
use Rattle.interval_domain.specs.Corners.{interval}
use Rattle.cob_program.specs.Sum.{Sum, MkSum, Parts, no_parts, more_parts, Part, MkPart, Factors, no_factors, more_factors, MkFactor, Atom, item, number, group}
use Rattle.cob_program.specs.Values.{whole_number, literal, ◌>>=◌}
use Rattle.cob_runs.specs.Computing.{items_in, items_in_parts, items_in_factors, items_in_atom}
use Rattle.diff_bounds.specs.declared.form.lin.Lin.{Lin}
use Rattle.diff_bounds.specs.Forms.{coef, if_small}
use Rattle.diff_bounds.specs.Results.{added_coefs, scaled_coefs, sum_of, multiple_of}
use Rattle.diff_bounds.proofs.Coefs.{coef-coefs_of}
use Rattle.sum_ranges.specs.declared.ranged.Ranged.{Ranged}
use Rattle.sum_ranges.specs.Ranged.{point}
use Rattle.sum_ranges.specs.SumRanges.{turned, factor_range, product_range_from, atom_range}
use Rattle.sum_forms.specs.declared.front.Front.{Front}
use Rattle.sum_forms.specs.declared.front.Front.TheVariants.{Empty, Literal, Product}
use Rattle.sum_forms.specs.Constants.{outward, constant_form, range_form, cell_form, item_form}
use Rattle.sum_forms.specs.Literals.{whole_factor, are_literals}
use Rattle.sum_forms.specs.SumForms.{scaled_form, turned_form, next_front, next_form, literals_form, sum_form, sum_form_from, part_form, product_form, product_form_from, atom_form}
use Rattle.sum_forms.proofs.Shows.{if_there}
use Rattle.sum_forms.proofs.Sound.{if_then, either}

module _ (cells : ℕ → Option ℤ) where
  -- each cell with a coefficient has a value
  pub record IsOfValues (form : Lin) : Type 0 where
    pub none : (k : ℕ) → cells (suc k) ≡ None → k < 8 → coef form k ≡ pos 0

  pub constant_is_of_values : (i : Interval) → IsOfValues (constant_form i)
  constant_is_of_values i = record { none = λ k h l. coef-coefs_of (λ _. pos 0) k l }

  pub range_is_of_values : (f : ℕ) (r : Ranged) → IfSome (range_form f r) IsOfValues
  range_is_of_values f r = if_there IsOfValues (constant_form (outward f r)) (constant_is_of_values (outward f r))

  pub cell_is_of_values : (at : ℕ) → (cells (suc at) ≡ None → ⊥) → IsOfValues (cell_form at)
  cell_is_of_values at there = record {
    none = λ k h l. coef-coefs_of (λ j. if nat_eq j at then pos 1 else pos 0) k l ∙ rw (ne_eqb k at (λ e. there (subst (λ (j : ℕ). cells (suc j) ≡ None) e h))) refl;
  }

  pub multiple_is_of_values : (a : Lin) (by : ℤ) → IsOfValues a → IsOfValues (multiple_of a by)
  multiple_is_of_values a by is = record { none = λ k h l. coef-coefs_of (scaled_coefs a by) k l ∙ ap (λ (x : ℤ). x *ℤ by) (is.none k h l) ∙ zero-*ℤ by }

  pub sum_is_of_values : (a b : Lin) → IsOfValues a → IsOfValues b → IsOfValues (sum_of a b)
  sum_is_of_values a b is its = record {
    none = λ k h l. coef-coefs_of (added_coefs a b) k l ∙ ap (λ (x : ℤ). x +ℤ coef b k) (is.none k h l) ∙ ap (λ (x : ℤ). pos 0 +ℤ x) (its.none k h l);
  }

  abbrev IfAny : Option Lin → Type 0
  IfAny o = IfSome o IsOfValues

  scaled_is_of_values : (by : ℤ) (o : Option Lin) → IfAny o → IfAny (o >>= scaled_form by)
  scaled_is_of_values by o h = if_then o IsOfValues IsOfValues (scaled_form by) h (λ a is. if_there IsOfValues (multiple_of a by) (multiple_is_of_values a by is))

  turned_is_of_values : (minus : Bool) (o : Option Lin) → IfAny o → IfAny (o >>= turned_form minus)
  turned_is_of_values false o h = if_then o IsOfValues IsOfValues (turned_form false) h (λ a is. is)
  turned_is_of_values true o h = scaled_is_of_values (negsuc 0) o h

  next_is_of_values : (f : ℕ) (front : Front) (whole : Option ℤ) (over : Bool) (r : Ranged) (before own : Option Lin) → IfAny before → IfAny own → IfAny (next_form f front whole over r before own)
  next_is_of_values f Empty whole true r before own h k = range_is_of_values f r
  next_is_of_values f Empty whole false r before own h k = k
  next_is_of_values f (Literal j) (Some i) over r before own h k = scaled_is_of_values i before h
  next_is_of_values f (Literal j) None true r before own h k = range_is_of_values f r
  next_is_of_values f (Literal j) None false r before own h k = scaled_is_of_values j own k
  next_is_of_values f Product (Some i) over r before own h k = scaled_is_of_values i before h
  next_is_of_values f Product None over r before own h k = range_is_of_values f r

  any_then : (o : Option Ranged) (next : Ranged → Option Lin) → ((r : Ranged) → IfAny (next r)) → IfAny (o >>= next)
  any_then None next h = tt
  any_then (Some r) next h = h r

module _ (cell : ℕ → Option ℕ) (cells : ℕ → Option ℤ) where
  -- each of the items that has a cell has a value there
  abbrev pub HaveValues : List ℕ → Type 0
  HaveValues [] = Unit {0}
  HaveValues (place ∷ places) = ((k : ℕ) → cell place ≡ Some k → cells (suc k) ≡ None → ⊥) × HaveValues places

  front : (xs ys : List ℕ) → HaveValues (xs ++ ys) → HaveValues xs
  front [] ys h = tt
  front (x ∷ xs) ys h = (h.0, front xs ys h.1)

  back : (xs ys : List ℕ) → HaveValues (xs ++ ys) → HaveValues ys
  back [] ys h = h
  back (x ∷ xs) ys h = back xs ys h.1

  abbrev items_in_part : Part → List ℕ
  items_in_part (MkPart minus fs) = items_in_factors fs

  module _ (f : ℕ) (range : ℕ → Ranged) where
    pub item_form_is_of_values : (place : ℕ) → HaveValues (place ∷ []) → IfSome (item_form f (cell place) (range place)) (IsOfValues cells)
    item_form_is_of_values place h = by_cell (cell place) refl
      where
        by_cell : (o : Option ℕ) → cell place ≡ o → IfSome (item_form f o (range place)) (IsOfValues cells)
        by_cell (Some k) e = cell_is_of_values cells k (h.0 k e)
        by_cell None e = range_is_of_values cells f (range place)

    mutual
      pub sum_form_is_of_values : (s : Sum) → HaveValues (items_in s) → IfSome (sum_form f cell range s) (IsOfValues cells)
      sum_form_is_of_values (MkSum ps) h = sum_from_is_of_values ps (constant_form (interval (pos 0) (pos 0))) h (constant_is_of_values cells (interval (pos 0) (pos 0)))

      sum_from_is_of_values : (ps : Parts) (a : Lin) → HaveValues (items_in_parts ps) → IsOfValues cells a → IfSome (sum_form_from f cell range a ps) (IsOfValues cells)
      sum_from_is_of_values no_parts a h is = is
      sum_from_is_of_values (more_parts (MkPart minus fs) ps) a h is =
          if_then (part_form f cell range (MkPart minus fs)) (IsOfValues cells) (IsOfValues cells) (λ b. if_small (sum_of a b) >>= λ c. sum_form_from f cell range c ps)
          (part_is_of_values (MkPart minus fs) (front (items_in_factors fs) (items_in_parts ps) h))
          (λ b its. if_then (if_small (sum_of a b)) (IsOfValues cells) (IsOfValues cells) (λ c. sum_form_from f cell range c ps)
          (if_there (IsOfValues cells) (sum_of a b) (sum_is_of_values cells a b is its))
          (λ c both. sum_from_is_of_values ps c (back (items_in_factors fs) (items_in_parts ps) h) both))

      part_is_of_values : (p : Part) → HaveValues (items_in_part p) → IfSome (part_form f cell range p) (IsOfValues cells)
      part_is_of_values (MkPart minus fs) h =
          turned_is_of_values cells minus (product_form f cell range fs)
          (either (are_literals fs) (literals_form f cell range fs) (product_form_from f cell range Empty (point (whole_number (pos 1))) None fs) (IsOfValues cells)
          (any_then cells (product_range_from range (point (whole_number (pos 1))) fs) (range_form f) (range_is_of_values cells f))
          (product_is_of_values fs Empty (point (whole_number (pos 1))) None h tt))

      product_is_of_values : (fs : Factors) (before : Front) (a : Ranged) (o : Option Lin) → HaveValues (items_in_factors fs) → IfSome o (IsOfValues cells) → IfSome (product_form_from f cell range before a o fs) (IsOfValues cells)
      product_is_of_values no_factors before a o h is = is
      product_is_of_values (more_factors (MkFactor over minus atom) fs) before a o h is =
          let own = turned_is_of_values cells minus (atom_form f cell range atom) (atom_form_is_of_values atom (front (items_in_atom atom) (items_in_factors fs) h)) in
          any_then cells (atom_range range atom) (λ b. factor_range over a (turned minus b) >>= λ q. product_form_from f cell range (next_front before (whole_factor over minus atom)) q (next_form f before (whole_factor over minus atom) over q o (atom_form f cell range atom >>= turned_form minus)) fs)
          (λ b. any_then cells (factor_range over a (turned minus b)) (λ q. product_form_from f cell range (next_front before (whole_factor over minus atom)) q (next_form f before (whole_factor over minus atom) over q o (atom_form f cell range atom >>= turned_form minus)) fs)
          (λ q. product_is_of_values fs (next_front before (whole_factor over minus atom)) q _ (back (items_in_atom atom) (items_in_factors fs) h)
          (next_is_of_values cells f before (whole_factor over minus atom) over q o (atom_form f cell range atom >>= turned_form minus) is own)))

      pub atom_form_is_of_values : (a : Atom) → HaveValues (items_in_atom a) → IfSome (atom_form f cell range a) (IsOfValues cells)
      atom_form_is_of_values (item place) h = item_form_is_of_values place h
      atom_form_is_of_values (number n) h = range_is_of_values cells f (point (literal n))
      atom_form_is_of_values (group s) h = sum_form_is_of_values s h
