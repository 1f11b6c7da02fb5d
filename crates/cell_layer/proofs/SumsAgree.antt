-- Where two functions from places to ranges agree on all small items, they agree on what is worked out of small numbers.
use Rattle.std.proofs.Common.{◌≡◌, ℕ, ◌&&◌, ◌||◌, Bool, true, false, Option, Some, None, pos, refl, sym, ap, ◌∙◌}
use Rattle.std.specs.Option.{option_map}
use Rattle.cob_data.specs.declared.layout.Sender.{Sender}
use Rattle.cob_data.specs.declared.layout.Sender.TheVariants as sender
use Rattle.cob_program.specs.Sum.{Sum, MkSum, Parts, no_parts, more_parts, Part, MkPart, Factors, no_factors, more_factors, MkFactor, Atom, item, number, group}
use Rattle.cob_program.specs.Values.{whole_number, Root, root_of, ◌>>=◌}
use Rattle.cob_program.specs.Bounds.{Bound, exactly, sum_bound, factor_bound, part_most, atom_most, is_small, is_small_sum, is_small_sum_from, is_small_part, is_small_product, is_small_atom, is_small_root}
use Rattle.cob_program.specs.Act.{Act, arith}
use Rattle.cob_program.proofs.Steps.{both}
use Rattle.cob_edge_parts.specs.Parts.{Amount, moved, computed, remaining, augmented}
use Rattle.sum_ranges.specs.declared.ranged.Ranged.{Ranged}
use Rattle.sum_ranges.specs.Ranged.{point}
use Rattle.sum_ranges.specs.SumRanges.{turned, plus_range, factor_range, sum_range, sum_range_from, part_range, product_range_from, atom_range}
use Rattle.sum_ranges.specs.Vanishing.{holds_zero, may_vanish, may_vanish_in_parts, may_vanish_in_part, may_vanish_in_product, may_vanish_in_atom, may_be_zero, may_vanish_in_root}
use Rattle.sum_ranges.specs.Taking.{is_small_taken}
use Rattle.sum_ranges.proofs.Roots.{root_vanishes}
use Rattle.transfer_ranges.specs.Amounts.{taken}
use Rattle.transfer_ranges.specs.Operands.{alone, is_whole, taken_from, taken_sum}
use Rattle.transfer_ranges.specs.Stores.{sender_range, operands}
use Rattle.transfer_ranges.specs.EdgeOperands.{operands_vanish}
use Rattle.transfer_ranges.specs.SmallAmounts.{is_small_sender, is_small_amount, has_small_sum}

pub bind_same : {A B : Type 0} (x y : Option A) (f g : A → Option B) → x ≡ y → ((a : A) → f a ≡ g a) → (x >>= f) ≡ (y >>= g)
bind_same None y f g e h = ap (λ o. o >>= g) e
bind_same (Some a) y f g e h = h a ∙ ap (λ o. o >>= g) e

pub or_same : (a b c d : Bool) → a ≡ c → b ≡ d → (a || b) ≡ (c || d)
or_same a b c d e f = ap (λ t. t || b) e ∙ ap (λ t. c || t) f

module _ (f g : ℕ → Ranged) (bound : ℕ → Bound) (same : (place : ℕ) → is_small (bound place) ≡ true → f place ≡ g place) where
  -- ---- ranges

  mutual
    pub sum_same : (s : Sum) → is_small_sum bound s ≡ true → sum_range f s ≡ sum_range g s
    sum_same (MkSum ps) e = sum_from_same ps (exactly 0) (point (whole_number (pos 0))) e

    sum_from_same : (ps : Parts) (b : Bound) (a : Ranged) → is_small_sum_from bound b ps ≡ true → sum_range_from f a ps ≡ sum_range_from g a ps
    sum_from_same no_parts b a e = refl
    sum_from_same (more_parts p ps) b a e =
        let next = sum_bound b (part_most bound p) in
        let l = both (is_small_part bound p) (is_small next && is_small_sum_from bound next ps) e in
        let m = both (is_small next) (is_small_sum_from bound next ps) l.1 in
        bind_same (part_range f p) (part_range g p) (λ c. sum_range_from f (plus_range a c) ps) (λ c. sum_range_from g (plus_range a c) ps)
        (part_same p l.0) (λ c. sum_from_same ps next (plus_range a c) m.1)

    part_same : (p : Part) → is_small_part bound p ≡ true → part_range f p ≡ part_range g p
    part_same (MkPart minus fs) e =
        ap (λ o. o >>= λ a. Some (turned minus a)) (product_same fs (exactly 1) (point (whole_number (pos 1))) e)

    product_same : (fs : Factors) (b : Bound) (a : Ranged) → is_small_product bound b fs ≡ true → product_range_from f a fs ≡ product_range_from g a fs
    product_same no_factors b a e = refl
    product_same (more_factors (MkFactor over minus atom) fs) b a e =
        let next = factor_bound over b (atom_most bound atom) in
        let l = both (is_small_atom bound atom) (is_small next && is_small_product bound next fs) e in
        let m = both (is_small next) (is_small_product bound next fs) l.1 in
        bind_same (atom_range f atom) (atom_range g atom)
        (λ c. factor_range over a (turned minus c) >>= λ d. product_range_from f d fs)
        (λ c. factor_range over a (turned minus c) >>= λ d. product_range_from g d fs) (atom_same atom l.0)
        (λ c. bind_same (factor_range over a (turned minus c)) (factor_range over a (turned minus c))
        (λ d. product_range_from f d fs) (λ d. product_range_from g d fs) refl (λ d. product_same fs next d m.1))

    pub atom_same : (a : Atom) → is_small_atom bound a ≡ true → atom_range f a ≡ atom_range g a
    atom_same (item place) e = ap Some (same place e)
    atom_same (number n) e = refl
    atom_same (group s) e = sum_same s e

  -- ---- divisors that may be 0

  mutual
    vanish_same : (s : Sum) → is_small_sum bound s ≡ true → may_vanish f s ≡ may_vanish g s
    vanish_same (MkSum ps) e = vanish_in_parts ps (exactly 0) e

    vanish_in_parts : (ps : Parts) (b : Bound) → is_small_sum_from bound b ps ≡ true → may_vanish_in_parts f ps ≡ may_vanish_in_parts g ps
    vanish_in_parts no_parts b e = refl
    vanish_in_parts (more_parts p ps) b e =
        let next = sum_bound b (part_most bound p) in
        let l = both (is_small_part bound p) (is_small next && is_small_sum_from bound next ps) e in
        let m = both (is_small next) (is_small_sum_from bound next ps) l.1 in
        or_same (may_vanish_in_part f p) (may_vanish_in_parts f ps) (may_vanish_in_part g p) (may_vanish_in_parts g ps)
        (vanish_in_part p l.0) (vanish_in_parts ps next m.1)

    vanish_in_part : (p : Part) → is_small_part bound p ≡ true → may_vanish_in_part f p ≡ may_vanish_in_part g p
    vanish_in_part (MkPart minus fs) e = vanish_in_product fs (exactly 1) e

    vanish_in_product : (fs : Factors) (b : Bound) → is_small_product bound b fs ≡ true → may_vanish_in_product f fs ≡ may_vanish_in_product g fs
    vanish_in_product no_factors b e = refl
    vanish_in_product (more_factors (MkFactor over minus atom) fs) b e =
        let next = factor_bound over b (atom_most bound atom) in
        let l = both (is_small_atom bound atom) (is_small next && is_small_product bound next fs) e in
        let m = both (is_small next) (is_small_product bound next fs) l.1 in
        or_same (may_vanish_in_atom f atom) ((over && holds_zero (atom_range f atom)) || may_vanish_in_product f fs)
        (may_vanish_in_atom g atom) ((over && holds_zero (atom_range g atom)) || may_vanish_in_product g fs) (vanish_in_atom atom l.0)
        (or_same (over && holds_zero (atom_range f atom)) (may_vanish_in_product f fs)
        (over && holds_zero (atom_range g atom)) (may_vanish_in_product g fs)
        (ap (λ o. over && holds_zero o) (atom_same atom l.0)) (vanish_in_product fs next m.1))

    vanish_in_atom : (a : Atom) → is_small_atom bound a ≡ true → may_vanish_in_atom f a ≡ may_vanish_in_atom g a
    vanish_in_atom (item place) e = refl
    vanish_in_atom (number n) e = refl
    vanish_in_atom (group s) e = vanish_same s e

  pub zero_same : (a : Atom) → is_small_atom bound a ≡ true → may_be_zero f a ≡ may_be_zero g a
  zero_same a e =
      or_same (may_vanish_in_atom f a) (holds_zero (atom_range f a)) (may_vanish_in_atom g a) (holds_zero (atom_range g a))
      (vanish_in_atom a e) (ap holds_zero (atom_same a e))

  -- ---- sums that are stored

  vanish_in_root : (r : Root) → is_small_product bound (exactly 1) r.above ≡ true → is_small_atom bound r.below ≡ true →
      may_vanish_in_root f r ≡ may_vanish_in_root g r
  vanish_in_root r above below =
      or_same (may_vanish_in_product f r.above) (may_be_zero f r.below) (may_vanish_in_product g r.above) (may_be_zero g r.below)
      (vanish_in_product r.above (exactly 1) above) (zero_same r.below below)

  stored_vanish : (s : Sum) (o : Option Root) → root_of s ≡ o → is_small_root bound s o ≡ true → may_vanish f s ≡ may_vanish g s
  stored_vanish s None e small = vanish_same s small
  stored_vanish s (Some r) e small =
      let l = both (is_small_product bound (exactly 1) r.above) (is_small_atom bound r.below) small in
      root_vanishes f s r e ∙ (vanish_in_root r l.0 l.1 ∙ sym (root_vanishes g s r e))

  stored_taken : (s : Sum) (o : Option Root) → is_small_root bound s o ≡ true → taken_from f s o ≡ taken_from g s o
  stored_taken s None small = ap (λ o. option_map alone o) (sum_same s small)
  stored_taken s (Some r) small =
      let l = both (is_small_product bound (exactly 1) r.above) (is_small_atom bound r.below) small in
      let one = point (whole_number (pos 1)) in
      bind_same (product_range_from f one r.above) (product_range_from g one r.above)
      (λ n. atom_range f r.below >>= λ d. Some (taken n (Some (turned r.minus d))))
      (λ n. atom_range g r.below >>= λ d. Some (taken n (Some (turned r.minus d)))) (product_same r.above (exactly 1) one l.0)
      (λ n. ap (λ o. o >>= λ d. Some (taken n (Some (turned r.minus d)))) (atom_same r.below l.1))

  taken_same : (whole : Bool) (s : Sum) → is_small_taken bound whole s ≡ true → taken_sum f whole s ≡ taken_sum g whole s
  taken_same true s small = stored_taken s (root_of s) small
  taken_same false s small = stored_taken s None small

  -- ---- statements

  sender_same : (x : Sender) → is_small_sender bound x ≡ true → sender_range f x ≡ sender_range g x
  sender_same (sender.Item place) small = ap Some (same place small)
  sender_same (sender.Number n) small = refl
  sender_same (sender.Text text) small = refl
  sender_same (sender.Fill byte) small = refl
  sender_same sender.Zero small = refl

  pub operands_same : (y : Amount) → is_small_amount bound y ≡ true → operands f y ≡ operands g y
  operands_same (moved x) small = ap (λ o. option_map alone o) (sender_same x small)
  operands_same (computed s how) small = taken_same (is_whole how) s small
  operands_same (remaining s scale) small = taken_same true s small
  operands_same (augmented x) small = ap (λ o. option_map alone o) (sender_same x small)

  pub operands_vanish_same : (a : Act) → has_small_sum bound a ≡ true → operands_vanish f a ≡ operands_vanish g a
  operands_vanish_same (arith s targets remainder size fine) small = stored_vanish s (root_of s) refl small
  operands_vanish_same _ small = refl
