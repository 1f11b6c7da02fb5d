-- How great the intermediates of a sum can be, whatever its items hold within their pictures.
use Rattle.std.specs.Prelude.{◌≡◌, ◌≤◌, nat_le, ℕ, ◌+◌, ◌-◌, ◌*◌, ◌^◌, max, Bool, true, false, ◌&&◌, pos, unsigned_abs, length, Option, Some, None, IfSome}
use Rattle.dec_num.specs.declared.types.Scaled.{Scaled}
use Rattle.cob_tree.specs.declared.token.Num.{Num}
use Rattle.cob_tree.specs.declared.form.Form.{Form}
use Rattle.cob_tree.specs.declared.form.Form.TheVariants as form
use Rattle.cob_program.specs.Sum.{Sum, MkSum, Parts, no_parts, more_parts, Part, MkPart, Factors, no_factors, more_factors, MkFactor, Atom, item, number, group}
use Rattle.cob_program.specs.Values.{whole_number, negated, plus, literal, quotient_scale, with_factor, part_value, atom_value, Root, root_of}

-- the greatest absolute value, in units of a scale
pub record Bound : Type 0 where
  pub most : ℕ
  pub scale : ℕ

-- The bound of so many digits.
abbrev pub of_digits : ℕ → ℕ → Bound
of_digits digits scale = record { most = 10 ^ digits - 1; scale = scale }

abbrev pub exactly : ℕ → Bound
exactly n = record { most = n; scale = 0 }

-- an item's, by its form; a text is read as a whole number
abbrev pub form_bound : Form → Bound
form_bound form.Group = exactly 0
form_bound (form.Text n) = of_digits n 0
form_bound (form.Number digits scale signed usage) = of_digits digits scale
form_bound (form.Edited picture digits scale) = of_digits digits scale

-- a literal's: leading zeros count
abbrev pub literal_bound : Num → Bound
literal_bound n = of_digits (length n.digits) n.scale

abbrev pub raised : Bound → ℕ → ℕ
raised a scale = a.most * 10 ^ (scale - a.scale)

abbrev pub joint : Bound → Bound → ℕ
joint a b = max a.scale b.scale

-- a sum is aligned to the greater scale
abbrev pub sum_bound : Bound → Bound → Bound
sum_bound a b = record { most = raised a (joint a b) + raised b (joint a b); scale = joint a b }

abbrev pub product_bound : Bound → Bound → Bound
product_bound a b = record { most = a.most * b.most; scale = a.scale + b.scale }

-- a divisor has one unit at least
abbrev pub quotient_bound : Bound → Bound → Bound
quotient_bound a b =
    record { most = a.most * 10 ^ (quotient_scale a.scale b.scale + b.scale - a.scale); scale = quotient_scale a.scale b.scale }

abbrev pub factor_bound : Bool → Bound → Bound → Bound
factor_bound false a b = product_bound a b
factor_bound true a b = quotient_bound a b

-- what the arithmetic works with
abbrev pub is_small : Bound → Bool
is_small b = nat_le b.most (10 ^ 37 - 1) && nat_le b.scale 37

module _ (bound : ℕ → Bound) where
  abbrev mutual
    pub sum_most : Sum → Bound
    sum_most (MkSum ps) = sum_most_from (exactly 0) ps

    pub sum_most_from : Bound → Parts → Bound
    sum_most_from a no_parts = a
    sum_most_from a (more_parts p ps) = sum_most_from (sum_bound a (part_most p)) ps

    pub part_most : Part → Bound
    part_most (MkPart minus fs) = product_most_from (exactly 1) fs

    pub product_most_from : Bound → Factors → Bound
    product_most_from a no_factors = a
    product_most_from a (more_factors (MkFactor over minus atom) fs) = product_most_from (factor_bound over a (atom_most atom)) fs

    pub atom_most : Atom → Bound
    atom_most (item place) = bound place
    atom_most (number n) = literal_bound n
    atom_most (group s) = sum_most s

  abbrev mutual
    -- each intermediate is small
    pub is_small_sum : Sum → Bool
    is_small_sum (MkSum ps) = is_small_sum_from (exactly 0) ps

    pub is_small_sum_from : Bound → Parts → Bool
    is_small_sum_from a no_parts = true
    is_small_sum_from a (more_parts p ps) =
        is_small_part p && (is_small (sum_bound a (part_most p)) && is_small_sum_from (sum_bound a (part_most p)) ps)

    pub is_small_part : Part → Bool
    is_small_part (MkPart minus fs) = is_small_product (exactly 1) fs

    pub is_small_product : Bound → Factors → Bool
    is_small_product a no_factors = true
    is_small_product a (more_factors (MkFactor over minus atom) fs) =
        is_small_atom atom && (is_small (factor_bound over a (atom_most atom)) && is_small_product (factor_bound over a (atom_most atom)) fs)

    pub is_small_atom : Atom → Bool
    is_small_atom (item place) = is_small (bound place)
    is_small_atom (number n) = is_small (literal_bound n)
    is_small_atom (group s) = is_small_sum s

  -- what is divided and what divides are small
  abbrev pub is_small_quotient : Root → Bool
  is_small_quotient r = is_small_product (exactly 1) r.above && is_small_atom r.below

  -- Only what is divided and what divides is bounded where a quotient stays exact.
  abbrev pub is_small_root : Sum → Option Root → Bool
  is_small_root s None = is_small_sum s
  is_small_root s (Some r) = is_small_quotient r

  abbrev pub is_small_stored : Sum → Bool
  is_small_stored s = is_small_root s (root_of s)

-- ---- two sides

abbrev pub at_scale : Bound → ℕ → Bound
at_scale a scale = record { most = raised a scale; scale = scale }

module _ (bound : ℕ → Bound) where
  -- each side of a comparison is small, and so it is at the greater of the two scales
  abbrev pub is_small_sides : Sum → Sum → Bool
  is_small_sides a b =
      is_small_sum bound a && (is_small_sum bound b
      && (is_small (at_scale (sum_most bound a) (joint (sum_most bound a) (sum_most bound b)))
      && is_small (at_scale (sum_most bound b) (joint (sum_most bound a) (sum_most bound b)))))

-- ---- what the rule is for

-- a number within a bound, at its scale
pub record IsWithin (v : Scaled) (b : Bound) : Type 0 where
  pub most : unsigned_abs v.units ≤ b.most
  pub scale : v.scale ≡ b.scale

pub record IsSmall (v : Scaled) : Type 0 where
  pub most : unsigned_abs v.units ≤ 10 ^ 37 - 1
  pub scale : v.scale ≤ 37

module _ (P : Scaled → Type 0) (worth : ℕ → Scaled) where
  abbrev mutual
    -- P of each intermediate, as far as there is no zero divisor
    pub EachInSum : Sum → Type 0
    EachInSum (MkSum ps) = EachInSumFrom (whole_number (pos 0)) ps

    pub EachInSumFrom : Scaled → Parts → Type 0
    EachInSumFrom a no_parts = Unit {0}
    EachInSumFrom a (more_parts p ps) = EachInPart p × IfSome (part_value worth p) (λ b. P (plus a b) × EachInSumFrom (plus a b) ps)

    pub EachInPart : Part → Type 0
    EachInPart (MkPart minus fs) = EachInProduct (whole_number (pos 1)) fs

    pub EachInProduct : Scaled → Factors → Type 0
    EachInProduct a no_factors = Unit {0}
    EachInProduct a (more_factors (MkFactor over minus atom) fs) =
        EachInAtom atom × IfSome (atom_value worth atom) (λ b. IfSome (with_factor over a (negated minus b)) (λ c. P c × EachInProduct c fs))

    pub EachInAtom : Atom → Type 0
    EachInAtom (item place) = P (worth place)
    EachInAtom (number n) = P (literal n)
    EachInAtom (group s) = EachInSum s

  -- Each intermediate of what is divided and of what divides, where a quotient stays exact.
  abbrev pub EachInRoot : Sum → Option Root → Type 0
  EachInRoot s None = EachInSum s
  EachInRoot s (Some r) = EachInProduct (whole_number (pos 1)) r.above × EachInAtom r.below

  abbrev pub EachInStored : Sum → Type 0
  EachInStored s = EachInRoot s (root_of s)
