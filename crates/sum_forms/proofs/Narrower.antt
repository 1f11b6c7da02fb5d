-- Narrower ranges of items give a narrower form.
use Rattle.std.proofs.Common.{◌≡◌, ℕ, ◌^◌, Bool, true, false, ◌&&◌, List, length, get_or, ℤ, pos, negsuc, Option, Some, None, refl, sym, ap, subst, arith}
use Rattle.std.specs.Prelude.{IsSomeAnd, if◌then◌else◌, unsigned_abs}
use Rattle.std.specs.List.{list_all}
use Rattle.std.proofs.lemmas.Int.{ints}
use Rattle.std.proofs.lemmas.Bool.{and_parts, ltb-true}
use Rattle.std.proofs.lemmas.List.Sums.{AllPass-from_list_all}
use Rattle.interval_domain.specs.Bounds.{IsSmall}
use Rattle.interval_domain.specs.Corners.{interval}
use Rattle.diff_bounds.proofs.SmallNumbers.{small_between}
use Rattle.cob_program.specs.Sum.{Sum, MkSum, Parts, no_parts, more_parts, Part, MkPart, Factors, no_factors, more_factors, MkFactor, Atom, item, number, group}
use Rattle.cob_program.specs.Values.{whole_number, literal, with_factor, ◌>>=◌}
use Rattle.cob_program.proofs.Steps.{some_bound, some_same}
use Rattle.diff_bounds.specs.declared.form.lin.Lin.{Lin}
use Rattle.diff_bounds.specs.Forms.{coef, is_small, if_small, IsSmallForm}
use Rattle.diff_bounds.specs.Results.{sum_of, multiple_of, scaled_coefs, added_coefs, IsNarrower}
use Rattle.diff_bounds.proofs.Coefs.{length-coefs_of}
use Rattle.diff_bounds.proofs.Computed.{computed}
use Rattle.diff_bounds.proofs.Narrower.{sum_narrower, multiple_narrower}
use Rattle.sum_ranges.specs.declared.ranged.Ranged.{Ranged}
use Rattle.sum_ranges.specs.Ranged as range
use Rattle.sum_ranges.specs.Ranged.{decimal, ranged, point, IsBelow}
use Rattle.sum_ranges.specs.Results.{IsResult}
use Rattle.sum_ranges.specs.SumRanges.{turned, plus_range, factor_range, sum_range, sum_range_from, part_range, product_range_from, atom_range}
use Rattle.sum_ranges.proofs.Operations.{factors_least}
use Rattle.sum_ranges.proofs.Least.{range_below, result_in_wider}
use Rattle.sum_ranges.proofs.Narrow.{wide_ordered, point_narrower, turned_narrower, whole_product_below, atom_below}
use Rattle.sum_forms.specs.declared.front.Front.{Front}
use Rattle.sum_forms.specs.declared.front.Front.TheVariants.{Empty, Literal, Product}
use Rattle.sum_forms.specs.Constants.{outward, constant_form, range_form, item_form}
use Rattle.sum_forms.specs.Literals.{whole_factor, are_literals}
use Rattle.sum_forms.specs.SumForms.{scaled_form, turned_form, next_front, next_form, literals_form, sum_form, sum_form_from, part_form, product_form, product_form_from, atom_form}
use Rattle.sum_forms.specs.Values.{IsNarrowerIfAny}
use Rattle.sum_forms.proofs.Floors.{floor_monotone, ceiling_monotone, floor_at_most_ceiling}

-- ---- forms that are there

small_passed : (z : ℤ) → is_small z ≡ true → IsSmall z
small_passed z e = ltb-true (unsigned_abs z) (10 ^ 37) e

form_passed : (g : Lin) → length g.coefs ≡ 8 → (is_small g.constant.low && (is_small g.constant.high && list_all is_small g.coefs)) ≡ true → IsSmallForm g
form_passed g e all =
    let low = and_parts (is_small g.constant.low) (is_small g.constant.high && list_all is_small g.coefs) all in
    let high = and_parts (is_small g.constant.high) (list_all is_small g.coefs) low.1 in
    record {
      coefs = record { small = λ k lt. small_passed (coef g k) (AllPass-from_list_all is_small g.coefs high.1 k (pos 0) (omega arith)) };
      constant = record { low = small_passed g.constant.low low.0; high = small_passed g.constant.high high.0 };
    }

if_passed : (b : Bool) (g h : Lin) → (if b then Some g else None) ≡ Some h → (b ≡ true) × (g ≡ h)
if_passed true g h e = (refl, some_same g h e)
if_passed false g h e = absurd cc

-- a form that is there is small
small_there : (g h : Lin) → length g.coefs ≡ 8 → if_small g ≡ Some h → IsSmallForm g × (g ≡ h)
unfolding if_small
small_there g h e is = let parts = if_passed _ g h is in (form_passed g e parts.0, parts.1)

small_within : (a b : Lin) → IsNarrower a b → IsSmallForm b → IsSmallForm a
small_within a b is small = record {
  coefs = record { small = λ k h. subst (λ z. IsSmall z) (ap (λ (cs : List ℤ). get_or cs k (pos 0)) (sym is.coefs)) (small.coefs.small k h) };
  constant = record {
    low = small_between b.constant.low b.constant.high a.constant.low small.constant.low small.constant.high is.low (let ordered = is.ordered in let high = is.high in omega (arith, ints, ordered, high));
    high = small_between b.constant.low b.constant.high a.constant.high small.constant.low small.constant.high (let low = is.low in let ordered = is.ordered in omega (arith, ints, low, ordered)) is.high;
  };
}

narrower_there : (a b : Lin) → length a.coefs ≡ 8 → length b.coefs ≡ 8 → (IsSmallForm b → IsNarrower a b) → IsNarrowerIfAny (if_small a) (if_small b)
narrower_there a b la lb narrower = by_wide (if_small b) refl
  where
    by_wide : (o : Option Lin) → if_small b ≡ o → IsNarrowerIfAny (if_small a) o
    by_wide None e = tt
    by_wide (Some g) e =
        let parts = small_there b g lb e in
        let n = narrower parts.0 in
        let there : Some a ≡ if_small a = computed (Some a) a la (small_within a b n parts.0, refl) in
        subst (λ (o : Option Lin). IsSomeAnd o (λ x. IsNarrower x g)) there (subst (λ (y : Lin). IsNarrower a y) parts.1 n)

-- ---- constants and cells

constants_narrower : (f : ℕ) (r s : Ranged) → range.IsNarrower r s → IsNarrower (constant_form (outward f r)) (constant_form (outward f s))
constants_narrower f r s n = subst (λ (m : ℕ). IsNarrower (constant_form (outward f r)) (constant_form (outward f (ranged s.units m)))) n.scale (record {
  coefs = refl;
  low = floor_monotone f s.units.low r.units.low r.scale n.low;
  ordered = floor_at_most_ceiling f r.units.low r.units.high r.scale n.ordered;
  high = ceiling_monotone f r.units.high s.units.high r.scale n.high;
})

pub range_narrower : (f : ℕ) (r s : Ranged) → range.IsNarrower r s → IsNarrowerIfAny (range_form f r) (range_form f s)
range_narrower f r s n =
    narrower_there (constant_form (outward f r)) (constant_form (outward f s)) (length-coefs_of (λ _. pos 0)) (length-coefs_of (λ _. pos 0)) (λ small. constants_narrower f r s n)

pub item_narrower : (f : ℕ) (o : Option ℕ) (r s : Ranged) → range.IsNarrower r s → IsNarrowerIfAny (item_form f o r) (item_form f o s)
item_narrower f (Some k) r s n = record { coefs = refl; low = omega (arith, ints); ordered = omega (arith, ints); high = omega (arith, ints) }
item_narrower f None r s n = range_narrower f r s n

-- ---- multiples and sums

multiple_there : (a b : Lin) (k : ℤ) → IsNarrower a b → IsNarrowerIfAny (scaled_form k a) (scaled_form k b)
multiple_there a b k n =
    narrower_there (multiple_of a k) (multiple_of b k) (length-coefs_of (scaled_coefs a k)) (length-coefs_of (scaled_coefs b k)) (λ small. (multiple_narrower a b k n small).1)

pub sum_there : (a b c d : Lin) → IsNarrower a c → IsNarrower b d → IsNarrowerIfAny (if_small (sum_of a b)) (if_small (sum_of c d))
sum_there a b c d n m =
    narrower_there (sum_of a b) (sum_of c d) (length-coefs_of (added_coefs a b)) (length-coefs_of (added_coefs c d)) (λ small. (sum_narrower a b c d n m small).1)

pub narrower_then : (o p : Option Lin) (next more : Lin → Option Lin) → IsNarrowerIfAny o p → ((a b : Lin) → IsNarrower a b → IsNarrowerIfAny (next a) (more b)) → IsNarrowerIfAny (o >>= next) (p >>= more)
narrower_then o None next more h k = tt
narrower_then None (Some b) next more h k = absurd h
narrower_then (Some a) (Some b) next more h k = k a b h

pub scaled_narrower : (k : ℤ) (o p : Option Lin) → IsNarrowerIfAny o p → IsNarrowerIfAny (o >>= scaled_form k) (p >>= scaled_form k)
scaled_narrower k o p h = narrower_then o p (scaled_form k) (scaled_form k) h (λ a b n. multiple_there a b k n)

pub turns_narrower : (minus : Bool) (o p : Option Lin) → IsNarrowerIfAny o p → IsNarrowerIfAny (o >>= turned_form minus) (p >>= turned_form minus)
turns_narrower false o p h = narrower_then o p (turned_form false) (turned_form false) h (λ a b n. n)
turns_narrower true o p h = scaled_narrower (negsuc 0) o p h

-- ---- products

next_narrower : (f : ℕ) (front : Front) (whole : Option ℤ) (over : Bool) (r s : Ranged) (before earlier own other : Option Lin) → range.IsNarrower r s → IsNarrowerIfAny before earlier → IsNarrowerIfAny own other → IsNarrowerIfAny (next_form f front whole over r before own) (next_form f front whole over s earlier other)
next_narrower f Empty whole true r s before earlier own other n h k = range_narrower f r s n
next_narrower f Empty whole false r s before earlier own other n h k = k
next_narrower f (Literal j) (Some i) over r s before earlier own other n h k = scaled_narrower i before earlier h
next_narrower f (Literal j) None true r s before earlier own other n h k = range_narrower f r s n
next_narrower f (Literal j) None false r s before earlier own other n h k = scaled_narrower j own other k
next_narrower f Product (Some i) over r s before earlier own other n h k = scaled_narrower i before earlier h
next_narrower f Product None over r s before earlier own other n h k = range_narrower f r s n

-- a range that is there, and one that it lies in
range_then : (o p : Option Ranged) (r : Ranged) (next more : Ranged → Option Lin) → o ≡ Some r → IsBelow o p → ((s : Ranged) → range.IsNarrower r s → IsNarrowerIfAny (next r) (more s)) → IsNarrowerIfAny (o >>= next) (p >>= more)
range_then None p r next more e h k = absurd cc
range_then (Some a) None r next more e h k = absurd h
range_then (Some a) (Some b) r next more e h k =
    let same : r ≡ a = sym (some_same a r e) in
    subst (λ (x : Ranged). IsNarrowerIfAny (next x) (more b)) same (k b (subst (λ (x : Ranged). range.IsNarrower x b) (sym same) h))

factor_below : (over : Bool) (a b c d : Ranged) → range.IsNarrower a c → range.IsNarrower b d → IsBelow (factor_range over a b) (factor_range over c d)
factor_below over a b c d n m =
    range_below (IsResult (with_factor over) a b) (IsResult (with_factor over) c d) (factor_range over a b) (factor_range over c d)
    (result_in_wider (with_factor over) a b c d n m)
    (factors_least over a b n.ordered m.ordered) (factors_least over c d (wide_ordered a c n) (wide_ordered b d m))

pub either_narrower : (b : Bool) (o p q r : Option Lin) → IsNarrowerIfAny o p → IsNarrowerIfAny q r → IsNarrowerIfAny (if b then o else q) (if b then p else r)
either_narrower true o p q r h k = h
either_narrower false o p q r h k = k

module _ (f : ℕ) (cell : ℕ → Option ℕ) (narrow wide : ℕ → Ranged) (within : (place : ℕ) → range.IsNarrower (narrow place) (wide place)) where
  mutual
    pub sum_form_narrower : (s : Sum) (r : Ranged) → sum_range narrow s ≡ Some r → IsNarrowerIfAny (sum_form f cell narrow s) (sum_form f cell wide s)
    sum_form_narrower (MkSum ps) r e =
        sum_from_narrower ps (point (whole_number (pos 0))) (constant_form (interval (pos 0) (pos 0))) (constant_form (interval (pos 0) (pos 0))) r
        (record { coefs = refl; low = omega (arith, ints); ordered = omega (arith, ints); high = omega (arith, ints) }) e

    sum_from_narrower : (ps : Parts) (a : Ranged) (g h : Lin) (r : Ranged) → IsNarrower g h → sum_range_from narrow a ps ≡ Some r → IsNarrowerIfAny (sum_form_from f cell narrow g ps) (sum_form_from f cell wide h ps)
    sum_from_narrower no_parts a g h r n e = n
    sum_from_narrower (more_parts p ps) a g h r n e =
        let c = some_bound (part_range narrow p) (λ b. sum_range_from narrow (plus_range a b) ps) r e in
        narrower_then (part_form f cell narrow p) (part_form f cell wide p) (λ b. if_small (sum_of g b) >>= λ d. sum_form_from f cell narrow d ps) (λ b. if_small (sum_of h b) >>= λ d. sum_form_from f cell wide d ps)
        (part_form_narrower p c.0 c.1)
        (λ x y m. narrower_then (if_small (sum_of g x)) (if_small (sum_of h y)) (λ d. sum_form_from f cell narrow d ps) (λ d. sum_form_from f cell wide d ps)
        (sum_there g x h y n m) (λ d k l. sum_from_narrower ps (plus_range a c.0) d k r l c.2))

    part_form_narrower : (p : Part) (r : Ranged) → part_range narrow p ≡ Some r → IsNarrowerIfAny (part_form f cell narrow p) (part_form f cell wide p)
    part_form_narrower (MkPart minus fs) r e =
        let c = some_bound (product_range_from narrow (point (whole_number (pos 1))) fs) (λ a. Some (turned minus a)) r e in
        turns_narrower minus (product_form f cell narrow fs) (product_form f cell wide fs)
        (either_narrower (are_literals fs) (literals_form f cell narrow fs) (literals_form f cell wide fs) _ _
        (range_then (product_range_from narrow (point (whole_number (pos 1))) fs) (product_range_from wide (point (whole_number (pos 1))) fs) c.0 (range_form f) (range_form f) c.1 (whole_product_below narrow wide within fs) (λ s n. range_narrower f c.0 s n))
        (product_narrower fs Empty (point (whole_number (pos 1))) (point (whole_number (pos 1))) None None c.0 (point_narrower (whole_number (pos 1))) tt c.1))

    product_narrower : (fs : Factors) (front : Front) (a b : Ranged) (before earlier : Option Lin) (r : Ranged) → range.IsNarrower a b → IsNarrowerIfAny before earlier → product_range_from narrow a fs ≡ Some r → IsNarrowerIfAny (product_form_from f cell narrow front a before fs) (product_form_from f cell wide front b earlier fs)
    product_narrower no_factors front a b before earlier r n h e = h
    product_narrower (more_factors (MkFactor over minus atom) fs) front a b before earlier r n h e =
        let c = some_bound (atom_range narrow atom) (λ c. factor_range over a (turned minus c) >>= λ d. product_range_from narrow d fs) r e in
        let d = some_bound (factor_range over a (turned minus c.0)) (λ d. product_range_from narrow d fs) r c.2 in
        let own = turns_narrower minus (atom_form f cell narrow atom) (atom_form f cell wide atom) (atom_form_narrower atom c.0 c.1) in
        range_then (atom_range narrow atom) (atom_range wide atom) c.0
        (λ x. factor_range over a (turned minus x) >>= λ q. product_form_from f cell narrow (next_front front (whole_factor over minus atom)) q (next_form f front (whole_factor over minus atom) over q before (atom_form f cell narrow atom >>= turned_form minus)) fs)
        (λ x. factor_range over b (turned minus x) >>= λ q. product_form_from f cell wide (next_front front (whole_factor over minus atom)) q (next_form f front (whole_factor over minus atom) over q earlier (atom_form f cell wide atom >>= turned_form minus)) fs)
        c.1 (atom_below narrow wide within atom)
        (λ y m. range_then (factor_range over a (turned minus c.0)) (factor_range over b (turned minus y)) d.0
        (λ q. product_form_from f cell narrow (next_front front (whole_factor over minus atom)) q (next_form f front (whole_factor over minus atom) over q before (atom_form f cell narrow atom >>= turned_form minus)) fs)
        (λ q. product_form_from f cell wide (next_front front (whole_factor over minus atom)) q (next_form f front (whole_factor over minus atom) over q earlier (atom_form f cell wide atom >>= turned_form minus)) fs)
        d.1 (factor_below over a (turned minus c.0) b (turned minus y) n (turned_narrower minus c.0 y m))
        (λ q l. product_narrower fs (next_front front (whole_factor over minus atom)) d.0 q _ _ r l
        (next_narrower f front (whole_factor over minus atom) over d.0 q before earlier (atom_form f cell narrow atom >>= turned_form minus) (atom_form f cell wide atom >>= turned_form minus) l h own) d.2))

    pub atom_form_narrower : (a : Atom) (r : Ranged) → atom_range narrow a ≡ Some r → IsNarrowerIfAny (atom_form f cell narrow a) (atom_form f cell wide a)
    atom_form_narrower (item place) r e = item_narrower f (cell place) (narrow place) (wide place) (within place)
    atom_form_narrower (number n) r e = range_narrower f (point (literal n)) (point (literal n)) (point_narrower (literal n))
    atom_form_narrower (group s) r e = sum_form_narrower s r e
