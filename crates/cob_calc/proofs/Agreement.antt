-- What a sum is worth rests on its items alone.
use Rattle.std.proofs.Common.{◌≡◌, ℕ, ◌==◌, Bool, true, false, List, [], ◌∷◌, ◌++◌, Option, Some, None, if◌then◌else◌, ℤ, pos, refl, sym, ap, subst, ◌∙◌}
use Rattle.std.specs.Prelude.{unsigned_abs, IfSome, is_some, unwrap_or}
use Rattle.std.specs.Option.{option_map}
use Rattle.dec_num.specs.declared.types.Scaled.{Scaled}
use Rattle.cob_program.specs.Sum.{Sum, MkSum, Parts, no_parts, more_parts, MkPart, Factors, no_factors, more_factors, MkFactor, Atom, item, number, group}
use Rattle.cob_program.specs.Values.{whole_number, negated, plus, with_factor, ◌>>=◌, sum_value, sum_from, part_value, product_from, atom_value, Root, behind_factor, root_in, root_of, exact_quotient, stored_from, stored_value, product}
use Rattle.cob_program.proofs.Steps.{both}
use Rattle.cob_tree.specs.declared.form.Form.{Form}
use Rattle.cob_tree.specs.declared.form.Form.TheVariants as form
use Rattle.cob_tree.specs.Forms.{is_number_form}
use Rattle.num_bytes.specs.Reading.{contents_value}
use Rattle.cob_runs.specs.Contents.{form_at, bytes_at, scaled_by, number_in, number_at}
use Rattle.cob_runs.specs.Computing.{items_in, items_in_parts, items_in_factors, items_in_atom, are_numeric, worth, cut_quotient, remainder_of}
use Rattle.cob_calc.specs.Contents.{Contents, amount, amount_at}
use Rattle.cob_calc.specs.Exact.{fraction_of, quotient_if, exact_root, exact_from, exact_value}
use Rattle.cob_calc.specs.declared.exact.Exact.TheVariants as exact
use Rattle.cob_calc.specs.Receiving.{rest_of}
use Rattle.cob_program.proofs.Roots.{root_more, root_many}
use Rattle.dec_num.specs.Scaled.{value_of}
use Rattle.cob_calc.specs.Arithmetic.{are_numbers}

pub bind_same : {A B : Type 0} (x y : Option A) (f g : A → Option B) → x ≡ y → ((a : A) → f a ≡ g a) → (x >>= f) ≡ (y >>= g)
bind_same None y f g e h = ap (λ o. o >>= g) e
bind_same (Some a) y f g e h = h a ∙ ap (λ o. o >>= g) e

module _ (f g : ℕ → Scaled) where
  -- the same on each of these items
  abbrev pub Agree : List ℕ → Type 0
  Agree [] = Unit {0}
  Agree (p ∷ ps) = (f p ≡ g p) × Agree ps

  agree_front : (xs ys : List ℕ) → Agree (xs ++ ys) → Agree xs
  agree_front [] ys h = tt
  agree_front (x ∷ xs) ys h = (h.0, agree_front xs ys h.1)

  agree_back : (xs ys : List ℕ) → Agree (xs ++ ys) → Agree ys
  agree_back [] ys h = h
  agree_back (x ∷ xs) ys h = agree_back xs ys h.1

  mutual
    pub same_sum : (s : Sum) → Agree (items_in s) → sum_value f s ≡ sum_value g s
    same_sum (MkSum ps) h = same_sum_from ps (whole_number (pos 0)) h

    same_sum_from : (ps : Parts) (a : Scaled) → Agree (items_in_parts ps) → sum_from f a ps ≡ sum_from g a ps
    same_sum_from no_parts a h = refl
    same_sum_from (more_parts (MkPart minus fs) ps) a h =
        bind_same (part_value f (MkPart minus fs)) (part_value g (MkPart minus fs)) (λ b. sum_from f (plus a b) ps) (λ b. sum_from g (plus a b) ps)
        (ap (λ o. o >>= λ b. Some (negated minus b)) (same_product fs (whole_number (pos 1)) (agree_front (items_in_factors fs) (items_in_parts ps) h)))
        (λ b. same_sum_from ps (plus a b) (agree_back (items_in_factors fs) (items_in_parts ps) h))

    pub same_product : (fs : Factors) (a : Scaled) → Agree (items_in_factors fs) → product_from f a fs ≡ product_from g a fs
    same_product no_factors a h = refl
    same_product (more_factors (MkFactor over minus atom) fs) a h =
        bind_same (atom_value f atom) (atom_value g atom) (λ b. with_factor over a (negated minus b) >>= λ c. product_from f c fs) (λ b. with_factor over a (negated minus b) >>= λ c. product_from g c fs)
        (same_atom atom (agree_front (items_in_atom atom) (items_in_factors fs) h))
        (λ b. bind_same (with_factor over a (negated minus b)) (with_factor over a (negated minus b)) (λ c. product_from f c fs) (λ c. product_from g c fs) refl
        (λ c. same_product fs c (agree_back (items_in_atom atom) (items_in_factors fs) h)))

    pub same_atom : (a : Atom) → Agree (items_in_atom a) → atom_value f a ≡ atom_value g a
    same_atom (item place) h = ap Some h.0
    same_atom (number n) h = refl
    same_atom (group s) h = same_sum s h

  -- ---- the quotient that is the last operation

  abbrev AgreeInRoot : Option Root → Type 0
  AgreeInRoot r = IfSome r (λ x. Agree (items_in_factors x.above) × Agree (items_in_atom x.below))

  agree_behind : (over minus : Bool) (a : Atom) (r : Option Root) → Agree (items_in_atom a) → AgreeInRoot r → AgreeInRoot (behind_factor (MkFactor over minus a) r)
  agree_behind over minus a None h k = tt
  agree_behind over minus a (Some r) h k = (agree_both (items_in_atom a) (items_in_factors r.above) h k.0, k.1)
    where
      agree_both : (xs ys : List ℕ) → Agree xs → Agree ys → Agree (xs ++ ys)
      agree_both [] ys h k = k
      agree_both (x ∷ xs) ys h k = (h.0, agree_both xs ys h.1 k)

  agree_root : (fs : Factors) → Agree (items_in_factors fs) → AgreeInRoot (root_in fs)
  agree_root no_factors h = tt
  agree_root (more_factors (MkFactor true minus a) no_factors) h = (tt, agree_front (items_in_atom a) [] h)
  agree_root (more_factors (MkFactor false minus a) no_factors) h = tt
  agree_root (more_factors (MkFactor over minus a) (more_factors q qs)) h =
      subst AgreeInRoot (sym (root_more (MkFactor over minus a) q qs))
      (agree_behind over minus a (root_in (more_factors q qs)) (agree_front (items_in_atom a) (items_in_factors (more_factors q qs)) h)
      (agree_root (more_factors q qs) (agree_back (items_in_atom a) (items_in_factors (more_factors q qs)) h)))

  agree_root_of : (s : Sum) → Agree (items_in s) → AgreeInRoot (root_of s)
  agree_root_of (MkSum no_parts) h = tt
  agree_root_of (MkSum (more_parts (MkPart false fs) no_parts)) h = agree_root fs (agree_front (items_in_factors fs) [] h)
  agree_root_of (MkSum (more_parts (MkPart true fs) no_parts)) h = tt
  agree_root_of (MkSum (more_parts p (more_parts q ps))) h = subst AgreeInRoot (sym (root_many p q ps)) tt

  same_exact_root : (r : Root) → Agree (items_in_factors r.above) → Agree (items_in_atom r.below) → exact_root f r ≡ exact_root g r
  same_exact_root r h k =
      bind_same (product_from f (whole_number (pos 1)) r.above) (product_from g (whole_number (pos 1)) r.above)
      (λ n. atom_value f r.below >>= λ d. quotient_if n (negated r.minus d)) (λ n. atom_value g r.below >>= λ d. quotient_if n (negated r.minus d))
      (same_product r.above (whole_number (pos 1)) h)
      (λ n. ap (λ o. o >>= λ d. quotient_if n (negated r.minus d)) (same_atom r.below k))

  same_exact_from : (s : Sum) (r : Option Root) → Agree (items_in s) → AgreeInRoot r → exact_from f s r ≡ exact_from g s r
  same_exact_from s None h k = ap (λ o. o >>= λ v. Some (exact.Number v)) (same_sum s h)
  same_exact_from s (Some r) h k = same_exact_root r k.0 k.1

  pub same_exact : (s : Sum) → Agree (items_in s) → exact_value f s ≡ exact_value g s
  same_exact s h = same_exact_from s (root_of s) h (agree_root_of s h)

-- ---- what is stored is what stands exact

if_zero : (n d : Scaled) (b : Bool) → option_map fraction_of (if b then None else Some (exact.Quotient n d)) ≡ (if b then None else Some (fraction_of (exact.Quotient n d)))
if_zero n d true = refl
if_zero n d false = refl

same_root : (worth_ : ℕ → Scaled) (s : Sum) (r : Option Root) → option_map fraction_of (exact_from worth_ s r) ≡ stored_from worth_ s r
same_root worth_ s None = elim (sum_value worth_ s) as (λ o. option_map fraction_of (o >>= λ v. Some (exact.Number v)) ≡ (o >>= λ v. Some (value_of v))) [ None ↦ refl | Some v ↦ refl ]
same_root worth_ s (Some r) = go (product_from worth_ (whole_number (pos 1)) r.above) (atom_value worth_ r.below)
  where
    go : (x y : Option Scaled) → option_map fraction_of (x >>= λ n. y >>= λ d. quotient_if n (negated r.minus d)) ≡ (x >>= λ n. y >>= λ d. exact_quotient n (negated r.minus d))
    go None y = refl
    go (Some n) None = refl
    go (Some n) (Some d) = if_zero n (negated r.minus d) (unsigned_abs (negated r.minus d).units == 0)

pub exact_is_stored : (worth_ : ℕ → Scaled) (s : Sum) → option_map fraction_of (exact_value worth_ s) ≡ stored_value worth_ s
exact_is_stored worth_ s = same_root worth_ s (root_of s)

-- ---- remainders

rest_if_zero : (scale : ℕ) (n d : Scaled) (b : Bool) →
    (rest_of scale (if b then None else Some (exact.Quotient n d)) >>= λ v. Some (value_of v))
    ≡ (((if b then None else Some (fraction_of (exact.Quotient n d))) >>= λ q. Some (plus n (negated true (product d (cut_quotient scale q))))) >>= λ v. Some (value_of v))
rest_if_zero scale n d true = refl
rest_if_zero scale n d false = refl

pub rest_is_remainder : (worth_ : ℕ → Scaled) (s : Sum) (scale : ℕ) (r : Option Root) → (rest_of scale (exact_from worth_ s r) >>= λ v. Some (value_of v)) ≡ remainder_of worth_ scale r
rest_is_remainder worth_ s scale None = elim (sum_value worth_ s) as (λ o. (rest_of scale (o >>= λ v. Some (exact.Number v)) >>= λ v. Some (value_of v)) ≡ None) [ None ↦ refl | Some v ↦ refl ]
rest_is_remainder worth_ s scale (Some r) = go (product_from worth_ (whole_number (pos 1)) r.above) (atom_value worth_ r.below)
  where
    go : (x y : Option Scaled) →
        (rest_of scale (x >>= λ n. y >>= λ d. quotient_if n (negated r.minus d)) >>= λ v. Some (value_of v))
        ≡ ((x >>= λ n. y >>= λ d. exact_quotient n (negated r.minus d) >>= λ q. Some (plus n (negated true (product (negated r.minus d) (cut_quotient scale q))))) >>= λ v. Some (value_of v))
    go None y = refl
    go (Some n) None = refl
    go (Some n) (Some d) = rest_if_zero scale n (negated r.minus d) (unsigned_abs (negated r.minus d).units == 0)

-- ---- items that are numbers

same_number : (digits scale : ℕ) (z : Option ℤ) → is_some (option_map (scaled_by scale) z) ≡ true → scaled_by scale (unwrap_or z (pos 0)) ≡ unwrap_or (option_map (scaled_by scale) z) (whole_number (pos 0))
same_number digits scale None h = absurd cc
same_number digits scale (Some z) h = refl

same_amount : (x : Form) (bytes : List ℕ) → is_number_form x ≡ true → is_some (number_in x bytes) ≡ true → amount x bytes ≡ unwrap_or (number_in x bytes) (whole_number (pos 0))
same_amount form.Group bytes n h = absurd cc
same_amount (form.Text k) bytes n h = absurd cc
same_amount (form.Number digits scale signed kept) bytes n h = same_number digits scale (contents_value (form.Number digits scale signed kept) bytes) h
same_amount (form.Edited picture digits scale) bytes n h = absurd cc

pub amounts_agree : (c : Contents) (places : List ℕ) → are_numbers c.layout places ≡ true → are_numeric c.layout c.storage places ≡ true → Agree (amount_at c) (worth c.layout c.storage) places
amounts_agree c [] n h = tt
amounts_agree c (p ∷ ps) n h =
    let a = both (is_number_form (form_at c.layout p)) (are_numbers c.layout ps) n in
    let b = both (is_some (number_at c.layout c.storage p)) (are_numeric c.layout c.storage ps) h in
    (same_amount (form_at c.layout p) (bytes_at c.layout c.storage p) a.0 b.0, amounts_agree c ps a.1 b.1)
