-- What a sum is worth is one of the numbers that its form can be.
use Rattle.std.proofs.Common.{◌≡◌, ℕ, ◌+◌, ◌-◌, ◌^◌, ◌≤◌, Bool, true, false, ℤ, pos, negsuc, neg_ℤ, ◌+ℤ◌, ◌*ℤ◌, Option, Some, None, refl, sym, ap, subst, ◌∙◌, arith}
use Rattle.std.specs.Prelude.{IfSome, IsSomeAnd, if◌then◌else◌}
use Rattle.std.proofs.lemmas.Int.{ints}
use Rattle.std.proofs.Math.IntN.{*ℤ_comm}
use Rattle.dec_num.specs.declared.types.Scaled.{Scaled}
use Rattle.dec_num.specs.Scaled.{units_at, joint_scale}
use Rattle.interval_domain.specs.Corners.{interval}
use Rattle.cob_program.specs.Sum.{Sum, MkSum, Parts, no_parts, more_parts, Part, MkPart, Factors, no_factors, more_factors, MkFactor, Atom, item, number, group}
use Rattle.cob_program.specs.Values.{whole_number, negated, plus, product, literal, with_factor, ◌>>=◌, sum_value, sum_from, part_value, product_from, atom_value}
use Rattle.cob_program.proofs.Steps.{some_bound, some_same}
use Rattle.diff_bounds.specs.declared.form.lin.Lin.{Lin}
use Rattle.diff_bounds.specs.Forms.{coef, dot, if_small}
use Rattle.diff_bounds.specs.Results.{added_coefs, scaled_coefs, scaled_constant, sum_of, multiple_of}
use Rattle.diff_bounds.proofs.Coefs.{coef-coefs_of}
use Rattle.diff_bounds.proofs.Dots.{dot_of_sums, dot_of_multiples}
use Rattle.sum_ranges.specs.declared.ranged.Ranged.{Ranged}
use Rattle.sum_ranges.specs.Ranged.{decimal, point, IsIn}
use Rattle.sum_ranges.specs.SumRanges.{turned, factor_range, product_range_from, atom_range}
use Rattle.sum_ranges.specs.Results.{IsResult}
use Rattle.sum_ranges.proofs.Operations.{factors_least}
use Rattle.sum_ranges.proofs.Least.{ordered_of, point_in, result_in}
use Rattle.sum_ranges.proofs.Sound.{turned_in, atom_in, whole_product_in}
use Rattle.diff_bounds.specs.Scales.{Spans}
use Rattle.diff_bounds.proofs.Scales.{spans_raised, spans_added}
use Rattle.sum_forms.specs.declared.front.Front.{Front}
use Rattle.sum_forms.specs.declared.front.Front.TheVariants.{Empty, Literal, Product}
use Rattle.sum_forms.specs.Constants.{constant_form, range_form}
use Rattle.sum_forms.specs.Literals.{whole_factor, are_literals}
use Rattle.sum_forms.specs.SumForms.{scaled_form, turned_form, next_front, next_form, literals_form, sum_form, sum_form_from, part_form, product_form, product_form_from, atom_form}
use Rattle.sum_forms.specs.Values.{Shows, AreHeld}
use Rattle.sum_forms.proofs.Multiples.{spans_times}
use Rattle.sum_forms.proofs.Shows.{if_there, range_shows, item_shows, whole_factor_is, zero_shows}

-- ---- one after the other

pub if_then : {A B : Type 0} (o : Option A) (P : A → Type 0) (Q : B → Type 0) (next : A → Option B) → IfSome o P → ((a : A) → P a → IfSome (next a) Q) → IfSome (o >>= next) Q
if_then None P Q next h k = tt
if_then (Some a) P Q next h k = k a h

some_then : {A B : Type 0} (o : Option A) (P : A → Type 0) (Q : B → Type 0) (next : A → Option B) → IsSomeAnd o P → ((a : A) → P a → IfSome (next a) Q) → IfSome (o >>= next) Q
some_then None P Q next h k = absurd h
some_then (Some a) P Q next h k = k a h

pub either : {A : Type 0} (b : Bool) (x y : Option A) (P : A → Type 0) → IfSome x P → IfSome y P → IfSome (if b then x else y) P
either true x y P h k = h
either false x y P h k = k

factor_in : (over : Bool) (v w x : Scaled) (a b : Ranged) → IsIn v a → IsIn w b → with_factor over v w ≡ Some x → IsSomeAnd (factor_range over a b) (IsIn x)
factor_in over v w x a b h k e =
    result_in (IsResult (with_factor over) a b) (factor_range over a b) x (factors_least over a b (ordered_of v a h) (ordered_of w b k)) (v, w, h, k, e)

-- ---- multiples

product_turned : (v w : Scaled) → product v w ≡ product w v
product_turned v w =
    let e : v.scale + w.scale ≡ w.scale + v.scale = omega arith in
    ap (λ (n : ℕ). decimal (v.units *ℤ w.units) n) e ∙ ap (λ (u : ℤ). decimal u (w.scale + v.scale)) (*ℤ_comm v.units w.units)

pub one_product : (y : Scaled) → product (whole_number (pos 1)) y ≡ y
one_product y =
    let e : 0 + y.scale ≡ y.scale = omega arith in
    let u : pos 1 *ℤ y.units ≡ y.units = omega (arith, ints) in
    ap (λ (n : ℕ). decimal (pos 1 *ℤ y.units) n) e ∙ ap (λ (x : ℤ). decimal x y.scale) u

module _ (f : ℕ) (cells : ℕ → ℤ) where
  abbrev Shown : Option Lin → Scaled → Type 0
  Shown o v = IfSome o (λ g. Shows f cells g v)

  pub multiple_shows : (g : Lin) (k : ℤ) (v w : Scaled) → w.units ≡ k *ℤ pos (10 ^ w.scale) → Shows f cells g v → Shows f cells (multiple_of g k) (product v w)
  multiple_shows g k v w is h =
      let e = dot_of_multiples (coef g) (coef (multiple_of g k)) cells k 8 (coef-coefs_of (scaled_coefs g k)) in
      subst (λ (s : ℤ). Spans s (scaled_constant g.constant k) (product v w) f) (sym e) (spans_times (dot (coef g) cells 8) g.constant v.units v.scale f k w.units w.scale is h)

  scaled_shown : (k : ℤ) (o : Option Lin) (v w : Scaled) → w.units ≡ k *ℤ pos (10 ^ w.scale) → Shown o v → Shown (o >>= scaled_form k) (product v w)
  scaled_shown k o v w is h =
      if_then o (λ g. Shows f cells g v) (λ g. Shows f cells g (product v w)) (scaled_form k) h
      (λ g l. if_there (λ g. Shows f cells g (product v w)) (multiple_of g k) (multiple_shows g k v w is l))

  pub minus_one : (v : Scaled) → product v (decimal (negsuc 0) 0) ≡ negated true v
  minus_one v =
      let e : v.scale + 0 ≡ v.scale = omega arith in
      let u : v.units *ℤ negsuc 0 ≡ neg_ℤ v.units = omega (arith, ints) in
      ap (λ (n : ℕ). decimal (v.units *ℤ negsuc 0) n) e ∙ ap (λ (x : ℤ). decimal x v.scale) u

  turned_shown : (minus : Bool) (o : Option Lin) (v : Scaled) → Shown o v → Shown (o >>= turned_form minus) (negated minus v)
  turned_shown false o v h = if_then o (λ g. Shows f cells g v) (λ g. Shows f cells g v) (turned_form false) h (λ g l. l)
  turned_shown true o v h = subst (λ (w : Scaled). Shown (o >>= scaled_form (negsuc 0)) w) (minus_one v) (scaled_shown (negsuc 0) o v (decimal (negsuc 0) 0) refl h)

  -- ---- sums

  raised_spans : (s : ℤ) (g : Lin) (v : Scaled) (scale : ℕ) → v.scale ≤ scale → Spans s g.constant v f → Spans s g.constant (decimal (units_at v scale) scale) f
  raised_spans s g v scale h spans =
      let e : v.scale + (scale - v.scale) ≡ scale = omega arith in
      subst (λ (n : ℕ). Spans s g.constant (decimal (units_at v scale) n) f) e (spans_raised s g.constant v.units v.scale f (scale - v.scale) spans)

  pub sum_shows : (a b : Lin) (v w : Scaled) → Shows f cells a v → Shows f cells b w → Shows f cells (sum_of a b) (plus v w)
  sum_shows a b v w h k =
      let scale = joint_scale v w in
      let e = dot_of_sums (coef a) (coef b) (coef (sum_of a b)) cells 8 (coef-coefs_of (added_coefs a b)) in
      let first = raised_spans (dot (coef a) cells 8) a v (joint_scale v w) (omega arith) h in
      let last = raised_spans (dot (coef b) cells 8) b w (joint_scale v w) (omega arith) k in
      subst (λ (s : ℤ). Spans s (interval (a.constant.low +ℤ b.constant.low) (a.constant.high +ℤ b.constant.high)) (plus v w) f) (sym e)
      (spans_added (dot (coef a) cells 8) (dot (coef b) cells 8) a.constant b.constant (units_at v (joint_scale v w)) (units_at w (joint_scale v w)) (joint_scale v w) f first last)

  -- ---- products

  -- what stands before a factor is this value
  abbrev IsFront : Front → Scaled → Type 0
  IsFront Empty v = v ≡ whole_number (pos 1)
  IsFront (Literal k) v = v.units ≡ k *ℤ pos (10 ^ v.scale)
  IsFront Product v = Unit {0}

  -- the number that the factor multiplies by
  abbrev IsWhole : Option ℤ → Bool → Scaled → Type 0
  IsWhole whole over y = (k : ℤ) → whole ≡ Some k → (over ≡ false) × (y.units ≡ k *ℤ pos (10 ^ y.scale))

  multiplied : (over : Bool) (a y d : Scaled) → over ≡ false → with_factor over a y ≡ Some d → product a y ≡ d
  multiplied over a y d is e = some_same (product a y) d (subst (λ (o : Bool). with_factor o a y ≡ Some d) is e)

  front_next : (front : Front) (whole : Option ℤ) (over : Bool) (a y d : Scaled) → IsFront front a → with_factor over a y ≡ Some d → IsWhole whole over y → IsFront (next_front front whole) d
  front_next Empty (Some k) over a y d is e w =
      let fact = w k refl in
      let same : y ≡ d = sym (one_product y) ∙ ap (λ (x : Scaled). product x y) (sym is) ∙ multiplied over a y d fact.0 e in
      subst (λ (x : Scaled). x.units ≡ k *ℤ pos (10 ^ x.scale)) same fact.1
  front_next Empty None over a y d is e w = tt
  front_next (Literal k) whole over a y d is e w = tt
  front_next Product whole over a y d is e w = tt

  form_next : (front : Front) (whole : Option ℤ) (over : Bool) (q : Ranged) (before own : Option Lin) (a y d : Scaled) → IsFront front a → IsIn d q → Shown before a → Shown own y → with_factor over a y ≡ Some d → IsWhole whole over y → Shown (next_form f front whole over q before own) d
  form_next Empty whole true q before own a y d is held h k e w = range_shows f q d cells held
  form_next Empty whole false q before own a y d is held h k e w =
      let same : y ≡ d = sym (one_product y) ∙ ap (λ (x : Scaled). product x y) (sym is) ∙ multiplied false a y d refl e in
      subst (λ (x : Scaled). Shown own x) same k
  form_next (Literal j) (Some n) over q before own a y d is held h k e w =
      let fact = w n refl in
      subst (λ (x : Scaled). Shown (before >>= scaled_form n) x) (multiplied over a y d fact.0 e) (scaled_shown n before a y fact.1 h)
  form_next (Literal j) None true q before own a y d is held h k e w = range_shows f q d cells held
  form_next (Literal j) None false q before own a y d is held h k e w =
      subst (λ (x : Scaled). Shown (own >>= scaled_form j) x) (product_turned y a ∙ multiplied false a y d refl e) (scaled_shown j own y a is k)
  form_next Product (Some n) over q before own a y d is held h k e w =
      let fact = w n refl in
      subst (λ (x : Scaled). Shown (before >>= scaled_form n) x) (multiplied over a y d fact.0 e) (scaled_shown n before a y fact.1 h)
  form_next Product None over q before own a y d is held h k e w = range_shows f q d cells held

  ranged_shown : (o : Option Ranged) (v : Scaled) → IsSomeAnd o (IsIn v) → Shown (o >>= range_form f) v
  ranged_shown o v h = some_then o (IsIn v) (λ g. Shows f cells g v) (range_form f) h (λ r l. range_shows f r v cells l)

module _ (f : ℕ) (cell : ℕ → Option ℕ) (range : ℕ → Ranged) (worth : ℕ → Scaled) (cells : ℕ → ℤ) (are : AreHeld f cell range worth cells) where
  mutual
    pub sum_shown : (s : Sum) (v : Scaled) → sum_value worth s ≡ Some v → IfSome (sum_form f cell range s) (λ g. Shows f cells g v)
    sum_shown (MkSum ps) v e = sum_from_shown ps (whole_number (pos 0)) (constant_form (interval (pos 0) (pos 0))) v (zero_shows f cells) e

    sum_from_shown : (ps : Parts) (a : Scaled) (form : Lin) (v : Scaled) → Shows f cells form a → sum_from worth a ps ≡ Some v → IfSome (sum_form_from f cell range form ps) (λ g. Shows f cells g v)
    sum_from_shown no_parts a form v h e = subst (λ (x : Scaled). Shows f cells form x) (some_same a v e) h
    sum_from_shown (more_parts p ps) a form v h e =
        let c = some_bound (part_value worth p) (λ c. sum_from worth (plus a c) ps) v e in
        if_then (part_form f cell range p) (λ g. Shows f cells g c.0) (λ g. Shows f cells g v) (λ b. if_small (sum_of form b) >>= λ d. sum_form_from f cell range d ps)
        (part_shown p c.0 c.1)
        (λ b k. if_then (if_small (sum_of form b)) (λ g. Shows f cells g (plus a c.0)) (λ g. Shows f cells g v) (λ d. sum_form_from f cell range d ps)
        (if_there (λ g. Shows f cells g (plus a c.0)) (sum_of form b) (sum_shows f cells form b a c.0 h k))
        (λ d l. sum_from_shown ps (plus a c.0) d v l c.2))

    part_shown : (p : Part) (v : Scaled) → part_value worth p ≡ Some v → IfSome (part_form f cell range p) (λ g. Shows f cells g v)
    part_shown (MkPart minus fs) v e =
        let c = some_bound (product_from worth (whole_number (pos 1)) fs) (λ a. Some (negated minus a)) v e in
        subst (λ (x : Scaled). IfSome (part_form f cell range (MkPart minus fs)) (λ g. Shows f cells g x)) (some_same (negated minus c.0) v c.2)
        (turned_shown f cells minus (product_form f cell range fs) c.0
        (either (are_literals fs) (literals_form f cell range fs) (product_form_from f cell range Empty (point (whole_number (pos 1))) None fs) (λ g. Shows f cells g c.0)
        (ranged_shown f cells (product_range_from range (point (whole_number (pos 1))) fs) c.0 (whole_product_in worth range are.held fs c.0 c.1))
        (product_shown fs Empty (whole_number (pos 1)) (point (whole_number (pos 1))) None c.0 refl (point_in (whole_number (pos 1))) tt c.1)))

    product_shown : (fs : Factors) (front : Front) (a : Scaled) (r : Ranged) (before : Option Lin) (v : Scaled) → IsFront f cells front a → IsIn a r → IfSome before (λ g. Shows f cells g a) → product_from worth a fs ≡ Some v → IfSome (product_form_from f cell range front r before fs) (λ g. Shows f cells g v)
    product_shown no_factors front a r before v is held h e = subst (λ (x : Scaled). IfSome before (λ g. Shows f cells g x)) (some_same a v e) h
    product_shown (more_factors (MkFactor over minus atom) fs) front a r before v is held h e =
        let c = some_bound (atom_value worth atom) (λ c. with_factor over a (negated minus c) >>= λ d. product_from worth d fs) v e in
        let d = some_bound (with_factor over a (negated minus c.0)) (λ d. product_from worth d fs) v c.2 in
        let whole : IsWhole f cells (whole_factor over minus atom) over (negated minus c.0) = λ k l. whole_factor_is worth over minus atom c.0 k c.1 l in
        let own = turned_shown f cells minus (atom_form f cell range atom) c.0 (atom_shown atom c.0 c.1) in
        some_then (atom_range range atom) (IsIn c.0) (λ g. Shows f cells g v)
        (λ b. factor_range over r (turned minus b) >>= λ q. product_form_from f cell range (next_front front (whole_factor over minus atom)) q (next_form f front (whole_factor over minus atom) over q before (atom_form f cell range atom >>= turned_form minus)) fs)
        (atom_in worth range are.held atom c.0 c.1)
        (λ b k. some_then (factor_range over r (turned minus b)) (IsIn d.0) (λ g. Shows f cells g v)
        (λ q. product_form_from f cell range (next_front front (whole_factor over minus atom)) q (next_form f front (whole_factor over minus atom) over q before (atom_form f cell range atom >>= turned_form minus)) fs)
        (factor_in over a (negated minus c.0) d.0 r (turned minus b) held (turned_in minus c.0 b k) d.1)
        (λ q l. product_shown fs (next_front front (whole_factor over minus atom)) d.0 q (next_form f front (whole_factor over minus atom) over q before (atom_form f cell range atom >>= turned_form minus)) v
        (front_next f cells front (whole_factor over minus atom) over a (negated minus c.0) d.0 is d.1 whole) l
        (form_next f cells front (whole_factor over minus atom) over q before (atom_form f cell range atom >>= turned_form minus) a (negated minus c.0) d.0 is l h own d.1 whole) d.2))

    atom_shown : (a : Atom) (v : Scaled) → atom_value worth a ≡ Some v → IfSome (atom_form f cell range a) (λ g. Shows f cells g v)
    atom_shown (item place) v e = subst (λ (x : Scaled). IfSome (atom_form f cell range (item place)) (λ g. Shows f cells g x)) (some_same (worth place) v e) (item_shows f cell range worth cells are place)
    atom_shown (number n) v e = subst (λ (x : Scaled). IfSome (range_form f (point (literal n))) (λ g. Shows f cells g x)) (some_same (literal n) v e) (range_shows f (point (literal n)) (literal n) cells (point_in (literal n)))
    atom_shown (group s) v e = sum_shown s v e
