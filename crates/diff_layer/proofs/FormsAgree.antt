-- Where two functions from places to ranges agree on all small items, so do the forms of sums of small numbers.
use Rattle.std.proofs.Common.{◌≡◌, ℕ, ◌&&◌, Bool, true, false, if◌then◌else◌, List, Option, None, pos, refl, ap, ◌∙◌}
use Rattle.interval_domain.specs.Corners.{interval}
use Rattle.cob_program.specs.Sum.{Sum, MkSum, Parts, no_parts, more_parts, Part, MkPart, Factors, no_factors, more_factors, MkFactor, Atom, item, number, group}
use Rattle.cob_program.specs.Values.{whole_number, ◌>>=◌}
use Rattle.cob_program.specs.Bounds.{Bound, exactly, sum_bound, factor_bound, part_most, atom_most, is_small, is_small_sum, is_small_sum_from, is_small_part, is_small_product, is_small_atom}
use Rattle.cob_program.specs.Act.{Program}
use Rattle.cob_program.proofs.Steps.{both}
use Rattle.cob_calc.specs.Contents.{bound_at}
use Rattle.diff_bounds.specs.declared.form.lin.Lin.{Lin}
use Rattle.diff_bounds.specs.Forms.{if_small}
use Rattle.diff_bounds.specs.Results.{sum_of}
use Rattle.sum_ranges.specs.declared.ranged.Ranged.{Ranged}
use Rattle.sum_ranges.specs.Ranged.{point}
use Rattle.sum_ranges.specs.SumRanges.{turned, factor_range, product_range_from, atom_range}
use Rattle.sum_forms.specs.declared.front.Front.{Front}
use Rattle.sum_forms.specs.declared.front.Front.TheVariants.{Empty}
use Rattle.sum_forms.specs.Constants.{constant_form, range_form, item_form}
use Rattle.sum_forms.specs.Literals.{whole_factor, are_literals}
use Rattle.sum_forms.specs.SumForms.{turned_form, next_front, next_form, literals_form, sum_form, sum_form_from, part_form, product_form_from, atom_form}
use Rattle.interval_domain.specs.Known.{Known}
use Rattle.cell_steps.specs.Stores.{range_at}
use Rattle.cell_layer.specs.ShortRanges.{short_range_at}
use Rattle.cell_layer.proofs.ShortAnswers.{short_is}
use Rattle.cell_layer.proofs.SumsAgree.{bind_same, atom_same}

either_same : {A : Type 0} (b : Bool) (x y u v : A) → x ≡ u → y ≡ v → (if b then x else y) ≡ (if b then u else v)
either_same true x y u v e f = e
either_same false x y u v e f = f

module _ (f : ℕ) (cell : ℕ → Option ℕ) (g h : ℕ → Ranged) (bound : ℕ → Bound) (same : (place : ℕ) → is_small (bound place) ≡ true → g place ≡ h place) where
  product_range_same : (fs : Factors) (b : Bound) (a : Ranged) → is_small_product bound b fs ≡ true → product_range_from g a fs ≡ product_range_from h a fs
  product_range_same no_factors b a e = refl
  product_range_same (more_factors (MkFactor over minus atom) fs) b a e =
      let next = factor_bound over b (atom_most bound atom) in
      let l = both (is_small_atom bound atom) (is_small next && is_small_product bound next fs) e in
      let m = both (is_small next) (is_small_product bound next fs) l.1 in
      bind_same (atom_range g atom) (atom_range h atom)
      (λ c. factor_range over a (turned minus c) >>= λ d. product_range_from g d fs)
      (λ c. factor_range over a (turned minus c) >>= λ d. product_range_from h d fs) (atom_same g h bound same atom l.0)
      (λ c. bind_same (factor_range over a (turned minus c)) (factor_range over a (turned minus c))
      (λ d. product_range_from g d fs) (λ d. product_range_from h d fs) refl (λ d. product_range_same fs next d m.1))

  mutual
    pub sum_form_same : (s : Sum) → is_small_sum bound s ≡ true → sum_form f cell g s ≡ sum_form f cell h s
    sum_form_same (MkSum ps) e = sum_from_same ps (exactly 0) (constant_form (interval (pos 0) (pos 0))) e

    sum_from_same : (ps : Parts) (b : Bound) (a : Lin) → is_small_sum_from bound b ps ≡ true → sum_form_from f cell g a ps ≡ sum_form_from f cell h a ps
    sum_from_same no_parts b a e = refl
    sum_from_same (more_parts p ps) b a e =
        let next = sum_bound b (part_most bound p) in
        let l = both (is_small_part bound p) (is_small next && is_small_sum_from bound next ps) e in
        let m = both (is_small next) (is_small_sum_from bound next ps) l.1 in
        bind_same (part_form f cell g p) (part_form f cell h p)
        (λ x. if_small (sum_of a x) >>= λ c. sum_form_from f cell g c ps)
        (λ x. if_small (sum_of a x) >>= λ c. sum_form_from f cell h c ps) (part_form_same p l.0)
        (λ x. bind_same (if_small (sum_of a x)) (if_small (sum_of a x))
        (λ c. sum_form_from f cell g c ps) (λ c. sum_form_from f cell h c ps) refl (λ c. sum_from_same ps next c m.1))

    part_form_same : (p : Part) → is_small_part bound p ≡ true → part_form f cell g p ≡ part_form f cell h p
    part_form_same (MkPart minus fs) e =
        ap (λ o. o >>= turned_form minus)
        (either_same (are_literals fs) (literals_form f cell g fs) (product_form_from f cell g Empty (point (whole_number (pos 1))) None fs)
        (literals_form f cell h fs) (product_form_from f cell h Empty (point (whole_number (pos 1))) None fs)
        (ap (λ o. o >>= range_form f) (product_range_same fs (exactly 1) (point (whole_number (pos 1))) e))
        (product_form_same fs (exactly 1) Empty (point (whole_number (pos 1))) None e))

    product_form_same : (fs : Factors) (b : Bound) (front : Front) (a : Ranged) (before : Option Lin) → is_small_product bound b fs ≡ true →
        product_form_from f cell g front a before fs ≡ product_form_from f cell h front a before fs
    product_form_same no_factors b front a before e = refl
    product_form_same (more_factors (MkFactor over minus atom) fs) b front a before e =
        let next = factor_bound over b (atom_most bound atom) in
        let l = both (is_small_atom bound atom) (is_small next && is_small_product bound next fs) e in
        let m = both (is_small next) (is_small_product bound next fs) l.1 in
        let whole = whole_factor over minus atom in
        let made : Ranged → Option Lin → Option Lin = λ c own. next_form f front whole over c before (own >>= turned_form minus) in
        bind_same (atom_range g atom) (atom_range h atom)
        (λ x. factor_range over a (turned minus x) >>= λ c. product_form_from f cell g (next_front front whole) c (made c (atom_form f cell g atom)) fs)
        (λ x. factor_range over a (turned minus x) >>= λ c. product_form_from f cell h (next_front front whole) c (made c (atom_form f cell h atom)) fs)
        (atom_same g h bound same atom l.0)
        (λ x. bind_same (factor_range over a (turned minus x)) (factor_range over a (turned minus x))
        (λ c. product_form_from f cell g (next_front front whole) c (made c (atom_form f cell g atom)) fs)
        (λ c. product_form_from f cell h (next_front front whole) c (made c (atom_form f cell h atom)) fs) refl
        (λ c. ap (λ own. product_form_from f cell g (next_front front whole) c (made c own) fs) (atom_form_same atom l.0)
        ∙ product_form_same fs next (next_front front whole) c (made c (atom_form f cell h atom)) m.1))

    pub atom_form_same : (a : Atom) → is_small_atom bound a ≡ true → atom_form f cell g a ≡ atom_form f cell h a
    atom_form_same (item place) e = ap (item_form f (cell place)) (same place e)
    atom_form_same (number n) e = refl
    atom_form_same (group s) e = sum_form_same s e

-- ---- items whose ranges words hold

module _ (p : Program) (cells : List Known) (f : ℕ) (cell : ℕ → Option ℕ) where
  pub sum_form_is : (s : Sum) → is_small_sum (bound_at p.layout) s ≡ true → sum_form f cell (short_range_at p cells) s ≡ sum_form f cell (range_at p cells) s
  sum_form_is s small = sum_form_same f cell (short_range_at p cells) (range_at p cells) (bound_at p.layout) (short_is p cells) s small

  pub atom_form_is : (a : Atom) → is_small_atom (bound_at p.layout) a ≡ true → atom_form f cell (short_range_at p cells) a ≡ atom_form f cell (range_at p cells) a
  atom_form_is a small = atom_form_same f cell (short_range_at p cells) (range_at p cells) (bound_at p.layout) (short_is p cells) a small
