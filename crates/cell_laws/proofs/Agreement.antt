-- What is stored of a sum, and its remainder, rest on the sum's items alone.
use Rattle.std.proofs.Common.{◌≡◌, ℕ, Bool, true, false, List, [], ◌∷◌, ◌++◌, Option, Some, None, pos, refl, ap, subst}
use Rattle.dec_num.specs.declared.types.Scaled.{Scaled}
use Rattle.dec_num.specs.Scaled.{value_of}
use Rattle.cob_program.specs.declared.act.How.{How}
use Rattle.cob_program.specs.declared.act.How.TheVariants as how
use Rattle.cob_program.specs.Sum.{Sum, MkSum, no_parts, more_parts, MkPart, Factors, no_factors, more_factors, MkFactor, Atom}
use Rattle.cob_program.specs.Values.{whole_number, negated, plus, product, product_from, atom_value, Root, behind_factor, root_in, root_of, exact_quotient, stored_from, ◌>>=◌}
use Rattle.cob_runs.specs.Computing as computing
use Rattle.cob_runs.specs.Computing.{items_in, items_in_factors, items_in_atom, cut_quotient, remainder_of}
pub use Rattle.transfer_ranges.proofs.Agreement.{Agree, same_sum}
use Rattle.transfer_ranges.proofs.Agreement.{bind_same, agree_front, agree_back, same_product, same_atom}

module _ (f g : ℕ → Scaled) where
  agree_both : (xs ys : List ℕ) → Agree f g xs → Agree f g ys → Agree f g (xs ++ ys)
  agree_both [] ys h k = k
  agree_both (x ∷ xs) ys h k = (h.0, agree_both xs ys h.1 k)

  -- ---- the last quotient of a sum

  -- the same on the items before it, and on its divisor's
  abbrev AgreeInRoot : Root → Type 0
  AgreeInRoot r = Agree f g (items_in_factors r.above) × Agree f g (items_in_atom r.below)

  root_more : (over minus : Bool) (a : Atom) (o : Option Root) (r : Root) → Agree f g (items_in_atom a) → ((q : Root) → o ≡ Some q → AgreeInRoot q) → behind_factor (MkFactor over minus a) o ≡ Some r → AgreeInRoot r
  root_more over minus a None r h more e = absurd cc
  root_more over minus a (Some q) r h more e =
      let same : record { above = more_factors (MkFactor over minus a) q.above; minus = q.minus; below = q.below } ≡ r = cc in
      let k = more q refl in
      subst (λ (w : Root). AgreeInRoot w) same (agree_both (items_in_atom a) (items_in_factors q.above) h k.0, k.1)

  agree_root : (fs : Factors) (r : Root) → Agree f g (items_in_factors fs) → root_in fs ≡ Some r → AgreeInRoot r
  agree_root no_factors r h e = absurd cc
  agree_root (more_factors (MkFactor true minus a) no_factors) r h e =
      let same : record { above = no_factors; minus = minus; below = a } ≡ r = cc in
      subst (λ (w : Root). AgreeInRoot w) same (tt, agree_front f g (items_in_atom a) [] h)
  agree_root (more_factors (MkFactor false minus a) no_factors) r h e = absurd cc
  agree_root (more_factors (MkFactor true minus a) (more_factors k ks)) r h e =
      root_more true minus a (root_in (more_factors k ks)) r (agree_front f g (items_in_atom a) (items_in_factors (more_factors k ks)) h)
      (λ q w. agree_root (more_factors k ks) q (agree_back f g (items_in_atom a) (items_in_factors (more_factors k ks)) h) w) e
  agree_root (more_factors (MkFactor false minus a) (more_factors k ks)) r h e =
      root_more false minus a (root_in (more_factors k ks)) r (agree_front f g (items_in_atom a) (items_in_factors (more_factors k ks)) h)
      (λ q w. agree_root (more_factors k ks) q (agree_back f g (items_in_atom a) (items_in_factors (more_factors k ks)) h) w) e

  agree_root_of : (s : Sum) (r : Root) → Agree f g (items_in s) → root_of s ≡ Some r → AgreeInRoot r
  agree_root_of (MkSum no_parts) r h e = absurd cc
  agree_root_of (MkSum (more_parts (MkPart false fs) no_parts)) r h e = agree_root fs r (agree_front f g (items_in_factors fs) [] h) e
  agree_root_of (MkSum (more_parts (MkPart true fs) no_parts)) r h e = absurd cc
  agree_root_of (MkSum (more_parts (MkPart false fs) (more_parts q qs))) r h e = absurd cc
  agree_root_of (MkSum (more_parts (MkPart true fs) (more_parts q qs))) r h e = absurd cc

  same_stored : (s : Sum) (o : Option Root) → root_of s ≡ o → Agree f g (items_in s) → stored_from f s o ≡ stored_from g s o
  same_stored s None e h = ap (λ o. o >>= λ v. Some (value_of v)) (same_sum f g s h)
  same_stored s (Some r) e h =
      let k = agree_root_of s r h e in
      bind_same (product_from f (whole_number (pos 1)) r.above) (product_from g (whole_number (pos 1)) r.above)
      (λ n. atom_value f r.below >>= λ d. exact_quotient n (negated r.minus d)) (λ n. atom_value g r.below >>= λ d. exact_quotient n (negated r.minus d))
      (same_product f g r.above (whole_number (pos 1)) k.0)
      (λ n. ap (λ o. o >>= λ d. exact_quotient n (negated r.minus d)) (same_atom f g r.below k.1))

  same_remainder_of : (scale : ℕ) (s : Sum) (o : Option Root) → root_of s ≡ o → Agree f g (items_in s) → remainder_of f scale o ≡ remainder_of g scale o
  same_remainder_of scale s None e h = refl
  same_remainder_of scale s (Some r) e h =
      let k = agree_root_of s r h e in
      ap (λ o. o >>= λ v. Some (value_of v))
      (bind_same (product_from f (whole_number (pos 1)) r.above) (product_from g (whole_number (pos 1)) r.above)
      (λ n. atom_value f r.below >>= λ d. exact_quotient n (negated r.minus d) >>= λ q. Some (plus n (negated true (product (negated r.minus d) (cut_quotient scale q)))))
      (λ n. atom_value g r.below >>= λ d. exact_quotient n (negated r.minus d) >>= λ q. Some (plus n (negated true (product (negated r.minus d) (cut_quotient scale q)))))
      (same_product f g r.above (whole_number (pos 1)) k.0)
      (λ n. ap (λ o. o >>= λ d. exact_quotient n (negated r.minus d) >>= λ q. Some (plus n (negated true (product (negated r.minus d) (cut_quotient scale q))))) (same_atom f g r.below k.1)))

  pub same_remainder : (scale : ℕ) (s : Sum) → Agree f g (items_in s) → remainder_of f scale (root_of s) ≡ remainder_of g scale (root_of s)
  same_remainder scale s h = same_remainder_of scale s (root_of s) refl h

  pub same_result : (s : Sum) (h : How) (own : Scaled) → Agree f g (items_in s) → computing.result f s h own ≡ computing.result g s h own
  same_result s how.Whole own h = same_stored s (root_of s) refl h
  same_result s how.Plus own h = ap (λ o. o >>= λ v. Some (value_of (plus own v))) (same_sum f g s h)
  same_result s how.Minus own h = ap (λ o. o >>= λ v. Some (value_of (plus own (negated true v)))) (same_sum f g s h)
  same_result s how.Times own h = ap (λ o. o >>= λ v. Some (value_of (product own v))) (same_sum f g s h)
  same_result s how.Under own h = ap (λ o. o >>= λ v. exact_quotient own v) (same_sum f g s h)
