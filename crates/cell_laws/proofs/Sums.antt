-- What an arithmetic statement's receivers get can be worked out, where items lie within their bounds.
use Rattle.std.proofs.Common.{◌≡◌, ℕ, ◌≤◌, true, false, Option, Some, None, pos, refl, sym, subst}
use Rattle.std.specs.Prelude.{if◌then◌else◌, IfSome}
use Rattle.std.specs.Option.{option_map}
use Rattle.std.proofs.lemmas.Bool.{and_parts}
use Rattle.cob_program.specs.declared.act.How.{How}
use Rattle.cob_program.specs.declared.act.How.TheVariants as how
use Rattle.cob_program.specs.Sum.{Sum, MkPart, group}
use Rattle.cob_program.specs.Values.{whole_number, Root, root_of, ◌>>=◌}
use Rattle.cob_program.specs.Bounds.{Bound, exactly, sum_bound, product_bound, is_small, sum_most, product_most_from, atom_most, is_small_sum, is_small_product, is_small_atom, is_small_root, is_small_stored}
use Rattle.cob_program.proofs.Steps.{some_bound, some_same, whole_within}
use Rattle.cob_calc.specs.Arithmetic.{is_small_result, is_small_rest}
use Rattle.cob_edge_parts.specs.Parts.{computed, remaining}
use Rattle.sum_ranges.specs.declared.ranged.Ranged.{Ranged}
use Rattle.sum_ranges.specs.Ranged.{point}
use Rattle.sum_ranges.specs.SumRanges.{turned, sum_range, product_range_from, atom_range}
use Rattle.sum_ranges.specs.Sizes.{IsRangeWithin, IsSmallRange}
use Rattle.sum_ranges.specs.Working.{AreBounded}
use Rattle.sum_ranges.proofs.Bounded.{point_within, turned_within, small_range_of, sum_range_within, product_range_within, atom_range_within}
use Rattle.cob_program.proofs.SmallSums.{small_part_most, small_atom_most}
use Rattle.sum_ranges.proofs.Rooms.{can_divide}
use Rattle.transfer_ranges.specs.declared.amounts.Taken.{Taken}
use Rattle.transfer_ranges.specs.Amounts.{taken as taken_of}
use Rattle.transfer_ranges.specs.Operands.{alone, is_whole, taken_from, taken_sum, computed_range}
use Rattle.transfer_ranges.specs.Sizes.{CanCompute, IsSmallAmount}
use Rattle.transfer_ranges.proofs.Bounding.{small_sum, small_product, small_remainder}
use Rattle.transfer_ranges.specs.EdgeOperands.{settled, amount_of}
use Rattle.transfer_ranges.specs.Working.{CanSettle, CanWork, amount_from}
use Rattle.cell_laws.proofs.Roots.{settled_is}
use Rattle.cell_laws.proofs.PremiseDivisors.{sum_root}

mapped : {A B : Type 0} (f : A → B) (o : Option A) (b : B) → option_map f o ≡ Some b → (a : A) × (o ≡ Some a) × (f a ≡ b)
mapped f None b e = absurd cc
mapped f (Some a) b e = (a, refl, some_same (f a) b e)

-- ---- by what was taken

module _ (bound : ℕ → Bound) (items : ℕ → Ranged) (bounded : AreBounded items bound) (s : Sum) where
  -- what was taken of a sum whose last operation is a quotient
  pub record IsQuotientTaken (r : Root) (t : Taken) : Type 0 where
    pub top : Ranged
    pub under : Ranged
    pub its : taken_of top (Some under) ≡ t
    pub above : IsRangeWithin top (product_most_from bound (exactly 1) r.above)
    pub below : IsRangeWithin under (atom_most bound r.below)

  pub record IsSumTaken (t : Taken) : Type 0 where
    pub all : Ranged
    pub its : alone all ≡ t
    pub within : IsRangeWithin all (sum_most bound s)

  quotient_taken : (r : Root) (t : Taken) → taken_from items s (Some r) ≡ Some t → IsQuotientTaken r t
  quotient_taken r t e =
      let n = some_bound (product_range_from items (point (whole_number (pos 1))) r.above) (λ n. atom_range items r.below >>= λ d. Some (taken_of n (Some (turned r.minus d)))) t e in
      let d = some_bound (atom_range items r.below) (λ d. Some (taken_of n.0 (Some (turned r.minus d)))) t n.2 in
      record {
        top = n.0;
        under = turned r.minus d.0;
        its = some_same (taken_of n.0 (Some (turned r.minus d.0))) t d.2;
        above = product_range_within items bound bounded.held r.above (point (whole_number (pos 1))) (exactly 1) n.0
            (point_within (whole_number (pos 1)) (exactly 1) (whole_within 1)) n.1;
        below = turned_within r.minus d.0 (atom_most bound r.below) (atom_range_within items bound bounded.held r.below d.0 d.1);
      }

  sum_taken : (t : Taken) → option_map alone (sum_range items s) ≡ Some t → IsSumTaken t
  sum_taken t e =
      let m = mapped alone (sum_range items s) t e in
      record { all = m.0; its = m.2; within = sum_range_within items bound bounded.held s m.0 m.1 }

  -- P of what was taken, by whether the last operation is a quotient
  by_root : (P : Taken → Type 0) → ((r : Root) (t : Taken) → root_of s ≡ Some r → IsQuotientTaken r t → P t) → (root_of s ≡ None → (t : Taken) → IsSumTaken t → P t) →
      IfSome (taken_sum items true s) P
  by_root P quotient other = go (root_of s) refl (taken_from items s (root_of s)) refl
    where
      go : (o : Option Root) → root_of s ≡ o → (q : Option Taken) → taken_from items s (root_of s) ≡ q → IfSome q P
      go o e None f = tt
      go None e (Some t) f = other e t (sum_taken t (subst (λ k. taken_from items s k ≡ Some t) e f))
      go (Some r) e (Some t) f = quotient r t e (quotient_taken r t (subst (λ k. taken_from items s k ≡ Some t) e f))

  -- ---- where the whole is stored

  module _ (stored : is_small_stored bound s ≡ true) where
    root_small : (o : Option Root) → root_of s ≡ o → is_small_root bound s o ≡ true
    root_small o e = subst (λ k. is_small_root bound s k ≡ true) e stored

    top_small : (r : Root) (t : Taken) → root_of s ≡ Some r → (q : IsQuotientTaken r t) → IsSmallRange q.top × IsSmallRange q.under
    top_small r t e q =
        let l = and_parts (is_small_product bound (exactly 1) r.above) (is_small_atom bound r.below) (root_small (Some r) e) in (
          small_range_of q.top (product_most_from bound (exactly 1) r.above) q.above (small_part_most bound (MkPart false r.above) l.0),
          small_range_of q.under (atom_most bound r.below) q.below (small_atom_most bound r.below l.1),
        )

    all_small : (t : Taken) → root_of s ≡ None → (q : IsSumTaken t) → IsSmallRange q.all
    all_small t e q = small_range_of q.all (sum_most bound s) q.within (small_atom_most bound (group s) (root_small None e))

    pub whole_works : (own : Ranged) → IfSome (taken_sum items true s) (CanWork (computed s how.Whole) own)
    whole_works own = by_root (CanWork (computed s how.Whole) own) (λ r t e q. works t) (λ e t q. works t)
      where
        works : (t : Taken) → CanWork (computed s how.Whole) own t
        works t = record { settled = λ e. absurd cc; given = tt }

    pub whole_small : (own : Ranged) → IfSome (amount_from (taken_sum items true s) (computed s how.Whole) own) IsSmallAmount
    whole_small own = next (taken_sum items true s) (by_root Small quotient other)
      where
        Small : Taken → Type 0
        Small t = IfSome (amount_of (computed s how.Whole) own t) IsSmallAmount

        next : (o : Option Taken) → IfSome o Small → IfSome (amount_from o (computed s how.Whole) own) IsSmallAmount
        next None h = tt
        next (Some t) h = h

        quotient : (r : Root) (t : Taken) → root_of s ≡ Some r → IsQuotientTaken r t → Small t
        quotient r t e q = subst Small q.its (top_small r t e q)

        other : root_of s ≡ None → (t : Taken) → IsSumTaken t → Small t
        other e t q = subst Small q.its (all_small t e q)

    -- ---- remainders

    pub rest_works : (scale : ℕ) (own : Ranged) → IfSome (taken_sum items true s) (CanWork (remaining s scale) own)
    rest_works scale own = by_root (CanWork (remaining s scale) own) (λ r t e q. works t) (λ e t q. works t)
      where
        works : (t : Taken) → CanWork (remaining s scale) own t
        works t = record { settled = λ e. absurd cc; given = tt }

    pub rest_small : (scale : ℕ) (own : Ranged) → scale ≤ 18 → is_small_rest bound scale (root_of s) ≡ true → IfSome (amount_from (taken_sum items true s) (remaining s scale) own) IsSmallAmount
    rest_small scale own short rest = next (taken_sum items true s) (by_root Small quotient other)
      where
        Small : Taken → Type 0
        Small t = IfSome (amount_of (remaining s scale) own t) IsSmallAmount

        next : (o : Option Taken) → IfSome o Small → IfSome (amount_from o (remaining s scale) own) IsSmallAmount
        next None h = tt
        next (Some t) h = h

        quotient : (r : Root) (t : Taken) → root_of s ≡ Some r → IsQuotientTaken r t → Small t
        quotient r t e q =
            let l = and_parts (is_small_product bound (exactly 1) r.above) (is_small_atom bound r.below) (root_small (Some r) e) in
            subst Small q.its
            (small_remainder q.top q.under (product_most_from bound (exactly 1) r.above) (atom_most bound r.below) scale q.above q.below short
            (small_part_most bound (MkPart false r.above) l.0) (small_atom_most bound r.below l.1) (subst (λ o. is_small_rest bound scale o ≡ true) e rest))

        other : root_of s ≡ None → (t : Taken) → IsSumTaken t → Small t
        other e t q = subst Small q.its tt

  -- ---- where the sum is added, multiplied by, or divides

  module _ (small : is_small_sum bound s ≡ true) where
    whole_is_small : is_small (sum_most bound s) ≡ true
    whole_is_small = small_atom_most bound (group s) small

    settles : IfSome (taken_sum items true s) CanSettle
    settles = by_root CanSettle quotient other
      where
        quotient : (r : Root) (t : Taken) → root_of s ≡ Some r → IsQuotientTaken r t → CanSettle t
        quotient r t e q =
            let h = sum_root bound s r e small in
            subst CanSettle q.its
            (can_divide q.top q.under (product_most_from bound (exactly 1) r.above) (atom_most bound r.below) q.above q.below
            (small_part_most bound (MkPart false r.above) h.above) (small_atom_most bound r.below h.below) h.whole)

        other : root_of s ≡ None → (t : Taken) → IsSumTaken t → CanSettle t
        other e t q = subst CanSettle q.its tt

    -- P of the sum itself, where the last quotient doesn't stay exact
    settled_sum : (P : Taken → Type 0) → ((all : Ranged) → IsRangeWithin all (sum_most bound s) → P (alone all)) → IfSome (taken_sum items true s) (λ t. IfSome (settled t) P)
    settled_sum P of_sum = go (taken_sum items true s) (settled_is items s)
      where
        alone_sum : (o : Option Ranged) → sum_range items s ≡ o → IfSome (option_map alone o) P
        alone_sum None e = tt
        alone_sum (Some all) e = of_sum all (sum_range_within items bound bounded.held s all e)

        go : (o : Option Taken) → (o >>= settled) ≡ option_map alone (sum_range items s) → IfSome o (λ t. IfSome (settled t) P)
        go None e = tt
        go (Some t) e = subst (λ k. IfSome k P) (sym e) (alone_sum (sum_range items s) refl)

    module _ (place : ℕ) (own : Ranged) (mine : IsRangeWithin own (bound place)) (fits : is_small (bound place) ≡ true) where
      -- what is made of the sum and of the receiver's own number
      results : (h : How) → is_whole h ≡ false → is_small_result bound s place h ≡ true → (all : Ranged) → IsRangeWithin all (sum_most bound s) →
          CanCompute h own (alone all) × IsSmallAmount (computed_range h own (alone all))
      results how.Whole f e all w = absurd cc
      results how.Plus f e all w =
          let l = and_parts (is_small_sum bound s) (is_small (sum_bound (bound place) (sum_most bound s))) e in
          small_sum own all (bound place) (sum_most bound s) mine w l.1
      results how.Minus f e all w =
          let l = and_parts (is_small_sum bound s) (is_small (sum_bound (bound place) (sum_most bound s))) e in
          let r = small_sum own (turned true all) (bound place) (sum_most bound s) mine (turned_within true all (sum_most bound s) w) l.1 in
          ((small_range_of all (sum_most bound s) w whole_is_small, r.0), r.1)
      results how.Times f e all w =
          let l = and_parts (is_small_sum bound s) (is_small (product_bound (bound place) (sum_most bound s))) e in
          small_product own all (bound place) (sum_most bound s) mine w fits whole_is_small l.1
      results how.Under f e all w =
          (tt, (small_range_of own (bound place) mine fits, small_range_of all (sum_most bound s) w whole_is_small))

      part_works : (h : How) → is_whole h ≡ false → is_small_result bound s place h ≡ true → IfSome (taken_sum items true s) (CanWork (computed s h) own)
      part_works h f e = go (taken_sum items true s) settles (settled_sum (CanCompute h own) (λ all w. (results h f e all w).0))
        where
          go : (o : Option Taken) → IfSome o CanSettle → IfSome o (λ t. IfSome (settled t) (CanCompute h own)) → IfSome o (CanWork (computed s h) own)
          go None can given = tt
          go (Some t) can given =
              record { settled = λ exact. can; given = subst (λ b. IfSome (if b then Some t else settled t) (CanCompute h own)) (sym f) given }

      part_small : (h : How) → is_whole h ≡ false → is_small_result bound s place h ≡ true → IfSome (amount_from (taken_sum items true s) (computed s h) own) IsSmallAmount
      part_small h f e = next (taken_sum items true s) (settled_sum Small (λ all w. (results h f e all w).1))
        where
          Small : Taken → Type 0
          Small t = IsSmallAmount (computed_range h own t)

          made : (o : Option Taken) → IfSome o Small → IfSome (o >>= λ t. Some (computed_range h own t)) IsSmallAmount
          made None k = tt
          made (Some t) k = k

          next : (o : Option Taken) → IfSome o (λ t. IfSome (settled t) Small) → IfSome (amount_from o (computed s h) own) IsSmallAmount
          next None k = tt
          next (Some t) k = subst (λ b. IfSome ((if b then Some t else settled t) >>= λ u. Some (computed_range h own u)) IsSmallAmount) (sym f) (made (settled t) k)

  -- ---- each receiver

  sum_of : (place : ℕ) (h : How) → is_whole h ≡ false → is_small_result bound s place h ≡ true → is_small_sum bound s ≡ true
  sum_of place how.Whole f e = absurd cc
  sum_of place how.Plus f e = (and_parts (is_small_sum bound s) (is_small (sum_bound (bound place) (sum_most bound s))) e).0
  sum_of place how.Minus f e = (and_parts (is_small_sum bound s) (is_small (sum_bound (bound place) (sum_most bound s))) e).0
  sum_of place how.Times f e = (and_parts (is_small_sum bound s) (is_small (product_bound (bound place) (sum_most bound s))) e).0
  sum_of place how.Under f e = e

  module _ (place : ℕ) (own : Ranged) (mine : IsRangeWithin own (bound place)) (fits : is_small (bound place) ≡ true) where
    part_can : (h : How) → is_whole h ≡ false → is_small_result bound s place h ≡ true → IfSome (taken_sum items true s) (CanWork (computed s h) own)
    part_can h f e = part_works (sum_of place h f e) place own mine fits h f e

    pub computed_works : (h : How) → is_small_result bound s place h ≡ true → IfSome (taken_sum items true s) (CanWork (computed s h) own)
    computed_works how.Whole e = whole_works e own
    computed_works how.Plus e = part_can how.Plus refl e
    computed_works how.Minus e = part_can how.Minus refl e
    computed_works how.Times e = part_can how.Times refl e
    computed_works how.Under e = part_can how.Under refl e

    part_fits : (h : How) → is_whole h ≡ false → is_small_result bound s place h ≡ true → IfSome (amount_from (taken_sum items true s) (computed s h) own) IsSmallAmount
    part_fits h f e = part_small (sum_of place h f e) place own mine fits h f e

    pub computed_small : (h : How) → is_small_result bound s place h ≡ true → IfSome (amount_from (taken_sum items true s) (computed s h) own) IsSmallAmount
    computed_small how.Whole e = whole_small e own
    computed_small how.Plus e = part_fits how.Plus refl e
    computed_small how.Minus e = part_fits how.Minus refl e
    computed_small how.Times e = part_fits how.Times refl e
    computed_small how.Under e = part_fits how.Under refl e
