-- Sums of operands, and how great results can be.
use Rattle.std.proofs.Common.{◌≡◌, ℕ, ◌-◌, ◌^◌, ◌<◌, ◌≤◌, Bool, true, false, ◌&&◌, List, [], ◌∷◌, ◌++◌, map, Option, Some, None, refl, sym, ap, ◌∙◌, arith, ⊎_elim}
use Rattle.std.specs.Prelude.{is_some, option_map}
use Rattle.std.proofs.lemmas.Bool.{cases_lt}
use Rattle.std.proofs.Math.Nat.{le-mul_of_pos_right}
use Rattle.cob_program.specs.Sum.{Sum, MkSum, Part, parts_of, no_parts, more_parts, Atom}
use Rattle.cob_program.specs.Bounds.{Bound, joint, sum_bound, product_bound, is_small, is_small_sum}
use Rattle.cob_typed_exprs.specs.declared.bounds.Size as declared_size
use Rattle.cob_typed_exprs.specs.Scope.{Scope}
use Rattle.cob_typed_exprs.specs.Sizes.{bound_at, plain_size, capped, bound_if, if_small, quotient_at}
use Rattle.cob_program.specs.declared.act.Target.{Target}
use Rattle.cob_program.specs.declared.act.How.{How}
use Rattle.cob_program.specs.declared.act.How.TheVariants as how
use Rattle.cob_typed_verbs.specs.Workings.{atoms_if}
use Rattle.cob_typed_verbs.specs.Arithmetic.{atom_part, parts_with, part_if, is_small_result, is_small_remainder_at}
use Rattle.cob_typed_exprs.proofs.SizeLemmas.{some_if, none_if, is_some_if, capped_sum, capped_product, great_none, long_none, and_false, one_power}

-- ---- sums of operands

pub parts_with_is : (minus : Bool) (as_ : List Atom) (xs : List Part) → parts_of (map (atom_part minus) as_ ++ xs) ≡ parts_with minus as_ (parts_of xs)
parts_with_is minus [] xs = refl
parts_with_is minus (a ∷ as_) xs = ap (more_parts (atom_part minus a)) (parts_with_is minus as_ xs)

pub parts_with_only : (minus : Bool) (as_ : List Atom) → parts_of (map (atom_part minus) as_) ≡ parts_with minus as_ no_parts
parts_with_only minus [] = refl
parts_with_only minus (a ∷ as_) = ap (more_parts (atom_part minus a)) (parts_with_only minus as_)

pub part_if_is : (o : Option Atom) → parts_of (atoms_if o) ≡ part_if o
part_if_is None = refl
part_if_is (Some a) = refl

pub summed_is : (minus : Bool) (as_ : List Atom) (o : Option Atom) (old mid new : List Part) → old ≡ [] → mid ≡ old ++ map (atom_part minus) as_ → new ≡ mid ++ atoms_if o →
    MkSum (parts_of new) ≡ MkSum (parts_with minus as_ (part_if o))
summed_is minus as_ o old mid new none first rest =
    ap (λ ps. MkSum (parts_of ps)) (rest ∙ ap (λ ps. ps ++ atoms_if o) (first ∙ ap (λ ps. ps ++ map (atom_part minus) as_) none))
    ∙ ap MkSum (parts_with_is minus as_ (atoms_if o) ∙ ap (parts_with minus as_) (part_if_is o))

-- ---- results

is_some_map : (r : Option declared_size.Size) → is_some r ≡ is_some (option_map plain_size r)
is_some_map None = refl
is_some_map (Some x) = refl

small_some : (r : Option declared_size.Size) (b : Bound) → option_map plain_size r ≡ if_small b → is_some r ≡ is_small b
small_some r b is = is_some_map r ∙ ap is_some is ∙ is_some_if (is_small b) b

same_small : (a b : Bound) → if_small a ≡ if_small b → is_small a ≡ is_small b
same_small a b e = sym (is_some_if (is_small a) a) ∙ ap is_some e ∙ is_some_if (is_small b) b

pub grown : (r : Option declared_size.Size) (own size a m : Bound) (b : Bool) → option_map plain_size r ≡ if_small (sum_bound own size) → own ≡ capped a → Some size ≡ bound_if b m → is_some r ≡ (b && is_small (sum_bound a m))
grown r own size a m b is held some =
    let l = some_if b m size (sym some) in
    small_some r (sum_bound own size) is ∙ ap (λ x. is_small (sum_bound x size)) held ∙ same_small (sum_bound (capped a) size) (sum_bound a size) (capped_sum a size)
    ∙ ap (λ x. is_small (sum_bound a x)) (sym l.1) ∙ ap (λ x. x && is_small (sum_bound a m)) (sym l.0)

pub multiplied_ : (r : Option declared_size.Size) (own size a m : Bound) (b : Bool) → option_map plain_size r ≡ if_small (product_bound own size) → own ≡ capped a → Some size ≡ bound_if b m → is_some r ≡ (b && is_small (product_bound a m))
multiplied_ r own size a m b is held some =
    let l = some_if b m size (sym some) in
    small_some r (product_bound own size) is ∙ ap (λ x. is_small (product_bound x size)) held ∙ same_small (product_bound (capped a) size) (product_bound a size) (capped_product a size)
    ∙ ap (λ x. is_small (product_bound a x)) (sym l.1) ∙ ap (λ x. x && is_small (product_bound a m)) (sym l.0)

-- what isn't small grows to nothing small
pub no_result : (s : Scope) (common : Sum) (t : Target) (h : How) → (h ≡ how.Whole → ⊥) → is_small_sum (bound_at s) common ≡ false → false ≡ is_small_result s common t h
no_result s common t how.Whole other e = absurd (other refl)
no_result s common t how.Plus other e = rw e refl
no_result s common t how.Minus other e = rw e refl
no_result s common t how.Times other e = rw e refl
no_result s common t how.Under other e = sym e

-- ---- remainders

great_sum : (n p : Bound) → 10 ^ 37 ≤ n.most → is_small (sum_bound n p) ≡ false
great_sum n p high =
    let j = joint n p in
    let more = le-mul_of_pos_right {m = 10 ^ (j - n.scale)} n.most (omega (arith, one_power (j - n.scale))) in
    sym (is_some_if (is_small (sum_bound n p)) (sum_bound n p)) ∙ ap is_some (great_none (sum_bound n p).most j (omega (arith, more, high)))

long_sum : (n p : Bound) → 37 < n.scale → is_small (sum_bound n p) ≡ false
long_sum n p long = sym (is_some_if (is_small (sum_bound n p)) (sum_bound n p)) ∙ ap is_some (long_none (sum_bound n p).most (joint n p) (omega (arith, long)))

same_capped : (n : Bound) → n.most < 10 ^ 37 → capped n ≡ n
same_capped n low = ap (λ m. record { most = m; scale = n.scale }) (omega (arith, low))

module _ (n d above below : Bound) (scale : ℕ) where
  abbrev quotient : Bound
  quotient = quotient_at above below scale

  abbrev pub Answer : Bool → Type 0
  Answer b = b ≡ is_small_remainder_at above below (quotient_at above below scale)

  no_sum : is_small (sum_bound above (product_bound below quotient)) ≡ false → Answer false
  no_sum e = sym (ap (λ b. (is_small quotient && is_small (product_bound below quotient)) && b) e ∙ and_false (is_small quotient && is_small (product_bound below quotient)))

  pub long : 37 < above.scale → Answer false
  long h = no_sum (long_sum above (product_bound below quotient) h)

  -- where what is divided is below the limit, nothing is lost of the quotient
  exact : n ≡ capped above → d ≡ capped below → above.most < 10 ^ 37 → quotient_at n d scale ≡ quotient
  exact na db low = ap (λ x. quotient_at x d scale) (na ∙ same_capped above low) ∙ ap (λ x. quotient_at above x scale) db

  pub no_quotient : n ≡ capped above → d ≡ capped below → None ≡ if_small (quotient_at n d scale) → Answer false
  no_quotient na db none =
      ⊎_elim (λ (low : above.most < 10 ^ 37).
      let q : is_small quotient ≡ false = none_if (is_small quotient) quotient (sym (none ∙ ap if_small (exact na db low))) in
      sym (ap (λ b. (b && is_small (product_bound below quotient)) && is_small (sum_bound above (product_bound below quotient))) q))
      (λ (high : 10 ^ 37 ≤ above.most). no_sum (great_sum above (product_bound below quotient) high)) (cases_lt above.most (10 ^ 37))

  -- the product with the divisor
  product_is : n ≡ capped above → d ≡ capped below → above.most < 10 ^ 37 → (q : Bound) → Some q ≡ if_small (quotient_at n d scale) → if_small (product_bound d q) ≡ if_small (product_bound below quotient)
  product_is na db low q some =
      let l = some_if (is_small (quotient_at n d scale)) (quotient_at n d scale) q (sym some) in
      ap (λ x. if_small (product_bound d x)) (sym l.1 ∙ exact na db low) ∙ ap (λ x. if_small (product_bound x quotient)) db ∙ capped_product below quotient

  pub no_product : n ≡ capped above → d ≡ capped below → (q : Bound) → Some q ≡ if_small (quotient_at n d scale) → None ≡ if_small (product_bound d q) → Answer false
  no_product na db q some none =
      ⊎_elim (λ (low : above.most < 10 ^ 37).
      let p : is_small (product_bound below quotient) ≡ false = none_if (is_small (product_bound below quotient)) (product_bound below quotient) (sym (none ∙ product_is na db low q some)) in
      sym (ap (λ b. (is_small quotient && b) && is_small (sum_bound above (product_bound below quotient))) p ∙ ap (λ b. b && is_small (sum_bound above (product_bound below quotient))) (and_false (is_small quotient))))
      (λ (high : 10 ^ 37 ≤ above.most). no_sum (great_sum above (product_bound below quotient) high)) (cases_lt above.most (10 ^ 37))

  pub all_known : n ≡ capped above → d ≡ capped below → (q p : Bound) (r : Option declared_size.Size) → Some q ≡ if_small (quotient_at n d scale) → Some p ≡ if_small (product_bound d q) →
      option_map plain_size r ≡ if_small (sum_bound n p) → Answer (is_some r)
  all_known na db q p r some product is =
      ⊎_elim (λ (low : above.most < 10 ^ 37).
      let l = some_if (is_small (quotient_at n d scale)) (quotient_at n d scale) q (sym some) in
      let small_q : is_small quotient ≡ true = ap is_small (sym (exact na db low)) ∙ l.0 in
      let m = some_if (is_small (product_bound below quotient)) (product_bound below quotient) p (sym (product ∙ product_is na db low q some)) in
      small_some r (sum_bound n p) is ∙ ap (λ x. is_small (sum_bound x p)) (na ∙ same_capped above low) ∙ ap (λ x. is_small (sum_bound above x)) (sym m.1)
      ∙ sym (ap (λ b. (b && is_small (product_bound below quotient)) && is_small (sum_bound above (product_bound below quotient))) small_q
      ∙ ap (λ b. b && is_small (sum_bound above (product_bound below quotient))) m.0))
      (λ (high : 10 ^ 37 ≤ above.most).
      small_some r (sum_bound n p) is ∙ ap (λ x. is_small (sum_bound x p)) na ∙ great_sum (capped above) p (omega (arith, high))
      ∙ no_sum (great_sum above (product_bound below quotient) high))
      (cases_lt above.most (10 ^ 37))
