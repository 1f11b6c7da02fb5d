-- Comparisons of sums.
use Rattle.std.proofs.Common.{◌≡◌, ℕ, ◌-◌, ◌*◌, ◌^◌, ◌<◌, ◌≤◌, ◌&&◌, Bool, true, false, List, Some, Result, Ok, Err, if◌then◌else◌, refl, sym, ap, subst, ◌∙◌, arith}
use Rattle.std.specs.Prelude.{unsigned_abs, nat_le}
use Rattle.std.proofs.lemmas.Bool.Decides.{nat_tests}
use Rattle.dec_num.specs.declared.types.Scaled.{Scaled}
use Rattle.dec_num.specs.Scaled.{units_at, joint_scale}
use Rattle.dec_num.proofs.Bounds.{size_of_units_at}
use Rattle.cob_tree.specs.declared.fault.Kind.TheVariants as kind
use Rattle.cob_tree.specs.declared.token.Rel.{Rel}
use Rattle.cob_program.specs.Sum.{Sum}
use Rattle.cob_program.specs.Values.{sum_value}
use Rattle.cob_program.specs.Bounds.{Bound, joint, at_scale, is_small, sum_most, is_small_sum, is_small_sides, IsWithin}
use Rattle.cob_program.proofs.Steps.{both}
use Rattle.cob_runs.specs.Computing.{items_in, are_numeric, worth}
use Rattle.cob_tree.specs.declared.fault.Kind.{Kind}
use Rattle.cob_tree.specs.declared.token.Rel.TheVariants as rel
use Rattle.cob_data.specs.declared.layout.Layout.{Layout}
use Rattle.cob_data.specs.declared.layout.Pair.{Pair}
use Rattle.cob_data.specs.declared.layout.Sender.{Sender}
use Rattle.cob_runs.specs.Faults.{◌>>=◌, or_fault}
use Rattle.cob_runs.specs.Moves.{number_of, text_of}
use Rattle.cob_runs.specs.Deciding.{Order, below, equal, above, holds, number_order, text_order, side_length, is_number_end, compared_values, compared, in_pair, decided, compared_numbers}
use Rattle.cob_calc.specs.Contents.{Contents, IsWellFormed, amount_at, bound_at}
use Rattle.cob_calc.specs.Arithmetic.{are_numbers}
use Rattle.cob_calc.specs.Comparing.{CanCompare}
use Rattle.cob_calc.proofs.Agreement.{amounts_agree, same_sum}
use Rattle.cob_calc.proofs.Bounded.{bounded}
use Rattle.cob_calc.proofs.Within as within

at_most : (a b : ℕ) → nat_le a b ≡ true → a ≤ b
at_most a b e = grind (arith, nat_tests)

-- ---- the units of both sides are small

side_within : (v : Scaled) (a : Bound) (j : ℕ) → IsWithin v a → is_small (at_scale a j) ≡ true → unsigned_abs (units_at v j) < 10 ^ 37
side_within v a j h e =
    let l = both (nat_le (at_scale a j).most (10 ^ 37 - 1)) (nat_le j 37) e in
    let size : unsigned_abs (units_at v j) ≤ a.most * 10 ^ (j - a.scale) = subst (λ s. unsigned_abs (units_at v j) ≤ a.most * 10 ^ (j - s)) h.scale (size_of_units_at v j a.most h.most) in
    omega (arith, size, at_most (at_scale a j).most (10 ^ 37 - 1) l.0)

bounds_compare : (v w : Scaled) (a b : Bound) → IsWithin v a → IsWithin w b → is_small (at_scale a (joint a b)) ≡ true → is_small (at_scale b (joint a b)) ≡ true → CanCompare v w
bounds_compare v w a b h k ea eb =
    let same : joint a b ≡ joint_scale v w = rw (← h.scale, ← k.scale) refl in
    let l = both (nat_le (at_scale a (joint a b)).most (10 ^ 37 - 1)) (nat_le (joint a b) 37) ea in
    record {
      within = subst (λ j. j ≤ 37) same (at_most (joint a b) 37 l.1);
      left = subst (λ j. unsigned_abs (units_at v j) < 10 ^ 37) same (side_within v a (joint a b) h ea);
      right = subst (λ j. unsigned_abs (units_at w j) < 10 ^ 37) same (side_within w b (joint a b) k eb);
    }

pub sides_compare : (c : Contents) (a b : Sum) (v w : Scaled) → IsWellFormed c → is_small_sides (bound_at c.layout) a b ≡ true → Some v ≡ sum_value (amount_at c) a → Some w ≡ sum_value (amount_at c) b → CanCompare v w
sides_compare c a b v w sound e ev ew =
    let bound = bound_at c.layout in
    let j = joint (sum_most bound a) (sum_most bound b) in
    let ea = is_small (at_scale (sum_most bound a) j) in
    let eb = is_small (at_scale (sum_most bound b) j) in
    let l = both (is_small_sum bound a) (is_small_sum bound b && (ea && eb)) e in
    let m = both (is_small_sum bound b) (ea && eb) l.1 in
    let n = both ea eb m.1 in
    bounds_compare v w (sum_most bound a) (sum_most bound b)
    (within.sum_within (amount_at c) bound (bounded c sound) a v (sym ev)) (within.sum_within (amount_at c) bound (bounded c sound) b w (sym ew)) n.0 n.1

-- ---- by what they are worth in storage

pub compared_as : (c : Contents) (a : Sum) (r : Rel) (b : Sum) → are_numbers c.layout (items_in a) ≡ true → are_numbers c.layout (items_in b) ≡ true →
    are_numeric c.layout c.storage (items_in a) ≡ true → are_numeric c.layout c.storage (items_in b) ≡ true →
    compared_numbers c.layout c.storage a r b ≡ decided c.layout c.storage r (sum_value (amount_at c) a) (sum_value (amount_at c) b)
compared_as c a r b na nb ea eb =
    let f = worth c.layout c.storage in
    let sa = same_sum (amount_at c) f a (amounts_agree c (items_in a) na ea) in
    let sb = same_sum (amount_at c) f b (amounts_agree c (items_in b) nb eb) in
    ap (λ t. if t then decided c.layout c.storage r (sum_value f a) (sum_value f b) else Err kind.Class) both_read
    ∙ ap (λ x. decided c.layout c.storage r x (sum_value f b)) (sym sa) ∙ ap (decided c.layout c.storage r (sum_value (amount_at c) a)) (sym sb)
  where
    both_read : (are_numeric c.layout c.storage (items_in a) && are_numeric c.layout c.storage (items_in b)) ≡ true
    both_read = rw (ea, eb) refl

-- ---- ranges of one value

by_order : (o : Order) → holds rel.Equal o ≡ (holds rel.AtLeast o && holds rel.AtMost o)
by_order below = refl
by_order equal = refl
by_order above = refl

by_values : {A : Type 0} (a b : Result A Kind) (order : A → A → Order) →
    (a >>= λ x. b >>= λ y. Ok (holds rel.Equal (order x y))) ≡
    ((a >>= λ x. b >>= λ y. Ok (holds rel.AtLeast (order x y))) >>= λ from. (a >>= λ x. b >>= λ y. Ok (holds rel.AtMost (order x y))) >>= λ to. Ok (from && to))
by_values (Err kind) b order = refl
by_values (Ok x) (Err kind) order = refl
by_values (Ok x) (Ok y) order = ap Ok (by_order (order x y))

module _ (l : Layout) (storage : List ℕ) (x y : Sender) where
  by_kinds : (numbers : Bool) → compared_values l storage numbers x rel.Equal y ≡
      (compared_values l storage numbers x rel.AtLeast y >>= λ from. compared_values l storage numbers x rel.AtMost y >>= λ to. Ok (from && to))
  by_kinds true = by_values (or_fault kind.Class (number_of l storage x)) (or_fault kind.Class (number_of l storage y)) number_order
  by_kinds false = by_values (or_fault kind.Class (text_of l storage (side_length l storage y 1) x)) (or_fault kind.Class (text_of l storage (side_length l storage x 1) y)) text_order

  pub in_one : (p : Pair) → p.low ≡ y → p.high ≡ y → compared l storage x rel.Equal y ≡ in_pair l storage x p
  in_one p low high = rw (low, high) (by_kinds (is_number_end l storage x && is_number_end l storage y))
