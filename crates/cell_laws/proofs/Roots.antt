-- The range of a sum whose last operation is a quotient is that of what is divided over what divides.
use Rattle.std.proofs.Common.{◌≡◌, ℕ, ◌-◌, ◌^◌, max, Bool, true, false, Option, Some, None, ℤ, pos, ◌+ℤ◌, ◌*ℤ◌, refl, sym, ap, subst, ◌∙◌, arith}
use Rattle.std.specs.Option.{option_map}
use Rattle.std.proofs.lemmas.Int.{ints}
use Rattle.interval_domain.specs.Corners.{interval}
use Rattle.interval_domain.proofs.IntervalEnds.{parts_of_product}
use Rattle.cob_program.specs.Sum.{Sum, MkSum, no_parts, more_parts, MkPart, Factors, no_factors, more_factors, MkFactor, Atom}
use Rattle.cob_program.specs.Values.{whole_number, Root, behind_factor, root_in, root_of, ◌>>=◌}
use Rattle.sum_ranges.specs.declared.ranged.Ranged.{Ranged}
use Rattle.sum_ranges.specs.Ranged.{ranged, point}
use Rattle.sum_ranges.specs.SumRanges.{turned, plus_range, quotient_range, factor_range, sum_range, product_range_from, atom_range}
use Rattle.transfer_ranges.specs.Amounts.{taken}
use Rattle.transfer_ranges.specs.Operands.{alone, taken_from, taken_sum}
use Rattle.transfer_ranges.specs.EdgeOperands.{settled}

-- ---- 0 and a range

power_is_one : (k : ℕ) → k ≡ 0 → 10 ^ k ≡ 1
power_is_one k e = rw e refl

once_times : (x : ℤ) (m : ℕ) → m ≡ 1 → x *ℤ pos m ≡ x
once_times x m e = rw e (omega (arith, ints, parts_of_product x (pos 1)))

none_times : (n : ℕ) → pos 0 *ℤ pos n ≡ pos 0
none_times n = omega (arith, ints, parts_of_product (pos 0) (pos n))

joint_is : (scale : ℕ) → max 0 scale ≡ scale
joint_is scale = omega arith

end_is : (x : ℤ) (scale : ℕ) → (pos 0 *ℤ pos (10 ^ (max 0 scale - 0))) +ℤ (x *ℤ pos (10 ^ (max 0 scale - scale))) ≡ x
end_is x scale =
    let whole = once_times x (10 ^ (max 0 scale - scale)) (power_is_one (max 0 scale - scale) (omega arith)) in
    omega (arith, ints, whole, none_times (10 ^ (max 0 scale - 0)))

ranged_is : (r : Ranged) (low high : ℤ) (scale : ℕ) → low ≡ r.units.low → high ≡ r.units.high → scale ≡ r.scale → ranged (interval low high) scale ≡ r
ranged_is r low high scale e f g = rw (e, f, g) refl

pub plus_zero : (b : Ranged) → plus_range (point (whole_number (pos 0))) b ≡ b
plus_zero b = ranged_is b _ _ _ (end_is b.units.low b.scale) (end_is b.units.high b.scale) (joint_is b.scale)

-- ---- the last factor

bind_assoc : {A B C : Type 0} (o : Option A) (f : A → Option B) (g : B → Option C) → ((o >>= f) >>= g) ≡ (o >>= λ a. f a >>= g)
bind_assoc None f g = refl
bind_assoc (Some a) f g = refl

bind_same : {A B : Type 0} (o : Option A) (f g : A → Option B) → ((a : A) → f a ≡ g a) → (o >>= f) ≡ (o >>= g)
bind_same None f g h = refl
bind_same (Some a) f g h = h a

some_end : {A : Type 0} (o : Option A) → (o >>= λ a. Some a) ≡ o
some_end None = refl
some_end (Some a) = refl

module _ (range : ℕ → Ranged) where
  -- what is divided, and then the quotient
  abbrev root_range : Ranged → Root → Option Ranged
  root_range a r = product_range_from range a r.above >>= λ n. atom_range range r.below >>= λ d. quotient_range n (turned r.minus d)

  root_more : (over minus : Bool) (atom : Atom) (fs : Factors) (a : Ranged) (o : Option Root) (r : Root) → ((b : Ranged) (q : Root) → o ≡ Some q → product_range_from range b fs ≡ root_range b q)
      → behind_factor (MkFactor over minus atom) o ≡ Some r → product_range_from range a (more_factors (MkFactor over minus atom) fs) ≡ root_range a r
  root_more over minus atom fs a None r more e = absurd cc
  root_more over minus atom fs a (Some q) r more e =
      let same : record { above = more_factors (MkFactor over minus atom) q.above; minus = q.minus; below = q.below } ≡ r = cc in
      subst (λ (w : Root). product_range_from range a (more_factors (MkFactor over minus atom) fs) ≡ root_range a w) same
      (bind_same (atom_range range atom) (λ b. factor_range over a (turned minus b) >>= λ c. product_range_from range c fs) (λ b. factor_range over a (turned minus b) >>= λ c. root_range c q)
      (λ b. bind_same (factor_range over a (turned minus b)) (λ c. product_range_from range c fs) (λ c. root_range c q) (λ c. more c q refl))
      ∙ sym (bind_assoc (atom_range range atom) (λ b. factor_range over a (turned minus b) >>= λ c. product_range_from range c q.above) (λ n. atom_range range q.below >>= λ d. quotient_range n (turned q.minus d))
      ∙ bind_same (atom_range range atom) (λ b. (factor_range over a (turned minus b) >>= λ c. product_range_from range c q.above) >>= λ n. atom_range range q.below >>= λ d. quotient_range n (turned q.minus d)) (λ b. factor_range over a (turned minus b) >>= λ c. root_range c q)
      (λ b. bind_assoc (factor_range over a (turned minus b)) (λ c. product_range_from range c q.above) (λ n. atom_range range q.below >>= λ d. quotient_range n (turned q.minus d)))))

  product_is : (fs : Factors) (a : Ranged) (r : Root) → root_in fs ≡ Some r → product_range_from range a fs ≡ root_range a r
  product_is no_factors a r e = absurd cc
  product_is (more_factors (MkFactor true minus atom) no_factors) a r e =
      let same : record { above = no_factors; minus = minus; below = atom } ≡ r = cc in
      subst (λ (w : Root). product_range_from range a (more_factors (MkFactor true minus atom) no_factors) ≡ root_range a w) same
      (bind_same (atom_range range atom) (λ b. quotient_range a (turned minus b) >>= λ c. Some c) (λ b. quotient_range a (turned minus b)) (λ b. some_end (quotient_range a (turned minus b))))
  product_is (more_factors (MkFactor false minus atom) no_factors) a r e = absurd cc
  product_is (more_factors (MkFactor true minus atom) (more_factors g gs)) a r e =
      root_more true minus atom (more_factors g gs) a (root_in (more_factors g gs)) r (λ b q f. product_is (more_factors g gs) b q f) e
  product_is (more_factors (MkFactor false minus atom) (more_factors g gs)) a r e =
      root_more false minus atom (more_factors g gs) a (root_in (more_factors g gs)) r (λ b q f. product_is (more_factors g gs) b q f) e

  sum_of_product : (fs : Factors) → sum_range range (MkSum (more_parts (MkPart false fs) no_parts)) ≡ product_range_from range (point (whole_number (pos 1))) fs
  sum_of_product fs = go (product_range_from range (point (whole_number (pos 1))) fs)
    where
      go : (o : Option Ranged) → ((o >>= λ a. Some a) >>= λ b. Some (plus_range (point (whole_number (pos 0))) b)) ≡ o
      go None = refl
      go (Some b) = ap Some (plus_zero b)

  sum_is : (s : Sum) (r : Root) → root_of s ≡ Some r → sum_range range s ≡ root_range (point (whole_number (pos 1))) r
  sum_is (MkSum no_parts) r e = absurd cc
  sum_is (MkSum (more_parts (MkPart false fs) no_parts)) r e = sum_of_product fs ∙ product_is fs (point (whole_number (pos 1))) r e
  sum_is (MkSum (more_parts (MkPart true fs) no_parts)) r e = absurd cc
  sum_is (MkSum (more_parts (MkPart false fs) (more_parts q qs))) r e = absurd cc
  sum_is (MkSum (more_parts (MkPart true fs) (more_parts q qs))) r e = absurd cc

  -- operands whose quotient stays exact, and the whole sum
  settled_root : (r : Root) → ((product_range_from range (point (whole_number (pos 1))) r.above >>= λ n. atom_range range r.below >>= λ d. Some (taken n (Some (turned r.minus d)))) >>= settled)
      ≡ option_map alone (root_range (point (whole_number (pos 1))) r)
  settled_root r = go (product_range_from range (point (whole_number (pos 1))) r.above) (atom_range range r.below)
    where
      go : (o q : Option Ranged) → ((o >>= λ n. q >>= λ d. Some (taken n (Some (turned r.minus d)))) >>= settled) ≡ option_map alone (o >>= λ n. q >>= λ d. quotient_range n (turned r.minus d))
      go None q = refl
      go (Some n) None = refl
      go (Some n) (Some d) = refl

  settled_from : (s : Sum) (o : Option Root) → root_of s ≡ o → (taken_from range s o >>= settled) ≡ option_map alone (sum_range range s)
  settled_from s None e = go (sum_range range s)
    where
      go : (o : Option Ranged) → (option_map alone o >>= settled) ≡ option_map alone o
      go None = refl
      go (Some b) = refl
  settled_from s (Some r) e = settled_root r ∙ ap (option_map alone) (sym (sum_is s r e))

  pub settled_is : (s : Sum) → (taken_sum range true s >>= settled) ≡ taken_sum range false s
  settled_is s = settled_from s (root_of s) refl
