-- Sums as linear forms over the cells of a pack. An item that has a cell in the pack counts with a coefficient, a whole
-- literal scales a form, and all else counts as a constant that lies in its range.
use Rattle.std.specs.Prelude.{ℕ, Bool, true, false, if◌then◌else◌, ℤ, pos, negsuc, Option, Some, None}
use Rattle.interval_domain.specs.Corners.{interval}
use Rattle.cob_program.specs.Sum.{Sum, MkSum, Parts, no_parts, more_parts, Part, MkPart, Factors, no_factors, more_factors, MkFactor, Atom, item, number, group}
use Rattle.cob_program.specs.Values.{whole_number, literal, ◌>>=◌}
use Rattle.diff_bounds.specs.declared.form.lin.Lin.{Lin}
use Rattle.diff_bounds.specs.Forms.{if_small}
use Rattle.diff_bounds.specs.Results.{sum_of, multiple_of}
use Rattle.sum_ranges.specs.declared.ranged.Ranged.{Ranged}
use Rattle.sum_ranges.specs.Ranged.{point}
use Rattle.sum_ranges.specs.SumRanges.{turned, factor_range, product_range_from, atom_range}
use Rattle.sum_forms.specs.declared.front.Front.{Front}
use Rattle.sum_forms.specs.declared.front.Front.TheVariants.{Empty, Literal, Product}
use Rattle.sum_forms.specs.Constants.{constant_form, range_form, item_form}
use Rattle.sum_forms.specs.Literals.{whole_factor, are_literals}

-- ---- multiples

abbrev pub scaled_form : ℤ → Lin → Option Lin
scaled_form k a = if_small (multiple_of a k)

abbrev pub turned_form : Bool → Lin → Option Lin
turned_form false a = Some a
turned_form true a = scaled_form (negsuc 0) a

-- where there is a form
abbrev pub scaled_if : ℤ → Option Lin → Option Lin
scaled_if k a = a >>= scaled_form k

abbrev pub turned_if : Bool → Option Lin → Option Lin
turned_if minus a = a >>= turned_form minus

-- ---- one factor more

abbrev pub next_front : Front → Option ℤ → Front
next_front Empty (Some k) = Literal k
next_front Empty None = Product
next_front (Literal k) whole = Product
next_front Product whole = Product

-- The form of a product behind a factor, by what stands before the factor, by the whole number that it multiplies by, if
-- it does, and by whether it divides: of the product's range, of the form of what stands before, and of its own form.
abbrev pub next_form : ℕ → Front → Option ℤ → Bool → Ranged → Option Lin → Option Lin → Option Lin
next_form f Empty whole true r before own = range_form f r
next_form f Empty whole false r before own = own
next_form f (Literal k) (Some j) over r before own = before >>= scaled_form j
next_form f (Literal k) None true r before own = range_form f r
next_form f (Literal k) None false r before own = own >>= scaled_form k
next_form f Product (Some j) over r before own = before >>= scaled_form j
next_form f Product None over r before own = range_form f r

-- ---- sums

module _ (f : ℕ) (cell : ℕ → Option ℕ) (range : ℕ → Ranged) where
  -- a product of literals alone
  abbrev pub literals_form : Factors → Option Lin
  literals_form fs = product_range_from range (point (whole_number (pos 1))) fs >>= range_form f

  abbrev mutual
    -- The form of a sum; none where a number would not be small, or where a divisor is 0 alone.
    pub sum_form : Sum → Option Lin
    sum_form (MkSum ps) = sum_form_from (constant_form (interval (pos 0) (pos 0))) ps

    pub sum_form_from : Lin → Parts → Option Lin
    sum_form_from a no_parts = Some a
    sum_form_from a (more_parts p ps) = part_form p >>= λ b. if_small (sum_of a b) >>= λ c. sum_form_from c ps

    pub part_form : Part → Option Lin
    part_form (MkPart minus fs) =
        (if are_literals fs then literals_form fs else product_form_from Empty (point (whole_number (pos 1))) None fs)
        >>= turned_form minus

    pub product_form_from : Front → Ranged → Option Lin → Factors → Option Lin
    product_form_from front a before no_factors = before
    product_form_from front a before (more_factors (MkFactor over minus atom) fs) =
        atom_range range atom >>= λ b. factor_range over a (turned minus b) >>= λ c.
        product_form_from (next_front front (whole_factor over minus atom)) c
        (next_form f front (whole_factor over minus atom) over c before (atom_form atom >>= turned_form minus)) fs

    pub atom_form : Atom → Option Lin
    atom_form (item place) = item_form f (cell place) (range place)
    atom_form (number n) = range_form f (point (literal n))
    atom_form (group s) = sum_form s

  abbrev pub product_form : Factors → Option Lin
  product_form fs =
      if are_literals fs then literals_form fs else product_form_from Empty (point (whole_number (pos 1))) None fs
