-- A form has coefficients for cells of the pack alone.
use Rattle.std.proofs.Common.{◌≡◌, ℕ, ◌<◌, Bool, true, false, ℤ, pos, negsuc, ◌+ℤ◌, ◌*ℤ◌, Option, Some, None, refl, ap, ◌∙◌, arith}
use Rattle.std.specs.Prelude.{IfSome, nat_eq, if◌then◌else◌}
use Rattle.std.proofs.lemmas.Bool.{ne_eqb}
use Rattle.std.proofs.Math.IntN.{zero-*ℤ}
use Rattle.interval_domain.specs.declared.bounds.Interval.{Interval}
use Rattle.interval_domain.specs.Corners.{interval}
use Rattle.cob_program.specs.Sum.{Sum, MkSum, Parts, no_parts, more_parts, Part, MkPart, Factors, no_factors, more_factors, MkFactor, Atom, item, number, group}
use Rattle.cob_program.specs.Values.{whole_number, literal, ◌>>=◌}
use Rattle.diff_bounds.specs.declared.form.lin.Lin.{Lin}
use Rattle.diff_bounds.specs.Forms.{coef, if_small}
use Rattle.diff_bounds.specs.Results.{added_coefs, scaled_coefs, sum_of, multiple_of}
use Rattle.diff_bounds.proofs.Coefs.{coef-coefs_of}
use Rattle.sum_ranges.specs.declared.ranged.Ranged.{Ranged}
use Rattle.sum_ranges.specs.Ranged.{point}
use Rattle.sum_ranges.specs.SumRanges.{turned, factor_range, product_range_from, atom_range}
use Rattle.sum_forms.specs.declared.front.Front.{Front}
use Rattle.sum_forms.specs.declared.front.Front.TheVariants.{Empty, Literal, Product}
use Rattle.sum_forms.specs.Constants.{outward, constant_form, range_form, cell_form, item_form}
use Rattle.sum_forms.specs.Literals.{whole_factor, are_literals}
use Rattle.sum_forms.specs.SumForms.{scaled_form, turned_form, next_front, next_form, literals_form, sum_form, sum_form_from, part_form, product_form, product_form_from, atom_form}
use Rattle.sum_forms.specs.Values.{IsWithin}
use Rattle.sum_forms.proofs.Shows.{if_there}
use Rattle.sum_forms.proofs.Sound.{if_then, either}

module _ (size : ℕ) where
  pub constant_within : (i : Interval) → IsWithin size (constant_form i)
  constant_within i k h l = coef-coefs_of (λ _. pos 0) k l

  pub range_within : (f : ℕ) (r : Ranged) → IfSome (range_form f r) (IsWithin size)
  range_within f r = if_there (IsWithin size) (constant_form (outward f r)) (constant_within (outward f r))

  pub cell_within : (at : ℕ) → at < size → IsWithin size (cell_form at)
  cell_within at h k low high = coef-coefs_of (λ j. if nat_eq j at then pos 1 else pos 0) k high ∙ rw (ne_eqb k at (λ e. omega arith)) refl

  multiple_within : (a : Lin) (by : ℤ) → IsWithin size a → IsWithin size (multiple_of a by)
  multiple_within a by h k low high = coef-coefs_of (scaled_coefs a by) k high ∙ ap (λ (x : ℤ). x *ℤ by) (h k low high) ∙ zero-*ℤ by

  pub sum_within : (a b : Lin) → IsWithin size a → IsWithin size b → IsWithin size (sum_of a b)
  sum_within a b h j k low high =
      coef-coefs_of (added_coefs a b) k high ∙ ap (λ (x : ℤ). x +ℤ coef b k) (h k low high) ∙ ap (λ (x : ℤ). pos 0 +ℤ x) (j k low high)

  pub scaled_within : (by : ℤ) (o : Option Lin) → IfSome o (IsWithin size) → IfSome (o >>= scaled_form by) (IsWithin size)
  scaled_within by o h = if_then o (IsWithin size) (IsWithin size) (scaled_form by) h (λ a l. if_there (IsWithin size) (multiple_of a by) (multiple_within a by l))

  pub turned_within : (minus : Bool) (o : Option Lin) → IfSome o (IsWithin size) → IfSome (o >>= turned_form minus) (IsWithin size)
  turned_within false o h = if_then o (IsWithin size) (IsWithin size) (turned_form false) h (λ a l. l)
  turned_within true o h = scaled_within (negsuc 0) o h

  next_within : (f : ℕ) (front : Front) (whole : Option ℤ) (over : Bool) (r : Ranged) (before own : Option Lin) → IfSome before (IsWithin size) → IfSome own (IsWithin size) → IfSome (next_form f front whole over r before own) (IsWithin size)
  next_within f Empty whole true r before own h k = range_within f r
  next_within f Empty whole false r before own h k = k
  next_within f (Literal j) (Some i) over r before own h k = scaled_within i before h
  next_within f (Literal j) None true r before own h k = range_within f r
  next_within f (Literal j) None false r before own h k = scaled_within j own k
  next_within f Product (Some i) over r before own h k = scaled_within i before h
  next_within f Product None over r before own h k = range_within f r

  any_then : (o : Option Ranged) (next : Ranged → Option Lin) → ((r : Ranged) → IfSome (next r) (IsWithin size)) → IfSome (o >>= next) (IsWithin size)
  any_then None next h = tt
  any_then (Some r) next h = h r

module _ (f : ℕ) (cell : ℕ → Option ℕ) (range : ℕ → Ranged) (size : ℕ) (few : (place k : ℕ) → cell place ≡ Some k → k < size) where
  pub item_within : (place : ℕ) (o : Option ℕ) → cell place ≡ o → IfSome (item_form f o (range place)) (IsWithin size)
  item_within place (Some k) e = cell_within size k (few place k e)
  item_within place None e = range_within size f (range place)

  mutual
    pub sum_form_within : (s : Sum) → IfSome (sum_form f cell range s) (IsWithin size)
    sum_form_within (MkSum ps) = sum_from_within ps (constant_form (interval (pos 0) (pos 0))) (constant_within size (interval (pos 0) (pos 0)))

    sum_from_within : (ps : Parts) (a : Lin) → IsWithin size a → IfSome (sum_form_from f cell range a ps) (IsWithin size)
    sum_from_within no_parts a h = h
    sum_from_within (more_parts p ps) a h =
        if_then (part_form f cell range p) (IsWithin size) (IsWithin size) (λ b. if_small (sum_of a b) >>= λ c. sum_form_from f cell range c ps) (part_within p)
        (λ b k. if_then (if_small (sum_of a b)) (IsWithin size) (IsWithin size) (λ c. sum_form_from f cell range c ps)
        (if_there (IsWithin size) (sum_of a b) (sum_within size a b h k)) (λ c l. sum_from_within ps c l))

    part_within : (p : Part) → IfSome (part_form f cell range p) (IsWithin size)
    part_within (MkPart minus fs) =
        turned_within size minus (product_form f cell range fs)
        (either (are_literals fs) (literals_form f cell range fs) (product_form_from f cell range Empty (point (whole_number (pos 1))) None fs) (IsWithin size)
        (any_then size (product_range_from range (point (whole_number (pos 1))) fs) (range_form f) (range_within size f))
        (product_within fs Empty (point (whole_number (pos 1))) None tt))

    product_within : (fs : Factors) (front : Front) (a : Ranged) (before : Option Lin) → IfSome before (IsWithin size) → IfSome (product_form_from f cell range front a before fs) (IsWithin size)
    product_within no_factors front a before h = h
    product_within (more_factors (MkFactor over minus atom) fs) front a before h =
        let own = turned_within size minus (atom_form f cell range atom) (atom_within atom) in
        any_then size (atom_range range atom) (λ b. factor_range over a (turned minus b) >>= λ q. product_form_from f cell range (next_front front (whole_factor over minus atom)) q (next_form f front (whole_factor over minus atom) over q before (atom_form f cell range atom >>= turned_form minus)) fs)
        (λ b. any_then size (factor_range over a (turned minus b)) (λ q. product_form_from f cell range (next_front front (whole_factor over minus atom)) q (next_form f front (whole_factor over minus atom) over q before (atom_form f cell range atom >>= turned_form minus)) fs)
        (λ q. product_within fs (next_front front (whole_factor over minus atom)) q _
        (next_within size f front (whole_factor over minus atom) over q before (atom_form f cell range atom >>= turned_form minus) h own)))

    pub atom_within : (a : Atom) → IfSome (atom_form f cell range a) (IsWithin size)
    atom_within (item place) = item_within place (cell place) refl
    atom_within (number n) = range_within size f (point (literal n))
    atom_within (group s) = sum_form_within s
