-- Relations as orders.
use Rattle.std.proofs.Common.{◌≡◌, ℕ, zero, suc, max, ◌&&◌, ◌||◌, ℤ, pos, negsuc, neg_ℤ, ◌-ℤ◌, Bool, true, false, Option, refl, sym, ap, subst, ◌∙◌, arith}
use Rattle.std.proofs.lemmas.Int.{ints}
use Rattle.dec_num.specs.declared.types.Scaled.{Scaled}
use Rattle.dec_num.specs.Scaled.{units_at, joint_scale}
use Rattle.interval_domain.specs.declared.bounds.Interval.{Interval}
use Rattle.interval_domain.specs.Bounds.{IsInterval}
use Rattle.cob_tree.specs.declared.token.Rel.{Rel}
use Rattle.cob_runs.specs.Deciding.{Order, below, equal, above, holds, order_of, number_order}
use Rattle.sum_ranges.specs.declared.ranged.Ranged.{Ranged}
use Rattle.sum_ranges.specs.Ranged.{decimal}
use Rattle.sum_ranges.specs.SumRanges.{raised}
use Rattle.transfer_ranges.specs.declared.beside.Orders.{Orders}
use Rattle.transfer_ranges.specs.Kept.{some_in, IsLeastIfAny}
use Rattle.transfer_ranges.specs.Sides.{is_wanted, stands, left_kept, right_kept}
use Rattle.transfer_ranges.specs.Beside.{IsBeside, CanRelate, allows}
use Rattle.transfer_ranges.proofs.Searches.{Passes}
use Rattle.transfer_ranges.proofs.Least.{at_own_scale, in_range, some_of, one_of_some, kept_least}
use Rattle.transfer_ranges.proofs.Besides.{least_same, one_least}

first_alone : (x y z : Bool) → ((x && true) || ((y && false) || (z && false))) ≡ x
first_alone true y z = refl
first_alone false true true = refl
first_alone false true false = refl
first_alone false false true = refl
first_alone false false false = refl

second_alone : (x y z : Bool) → ((x && false) || ((y && true) || (z && false))) ≡ y
second_alone true true z = refl
second_alone true false true = refl
second_alone true false false = refl
second_alone false true z = refl
second_alone false false true = refl
second_alone false false false = refl

third_alone : (x y z : Bool) → ((x && false) || ((y && false) || (z && true))) ≡ z
third_alone true true true = refl
third_alone true true false = refl
third_alone true false true = refl
third_alone true false false = refl
third_alone false true true = refl
third_alone false true false = refl
third_alone false false true = refl
third_alone false false false = refl

pub allows_below : (os : Orders) → allows os below ≡ os.below
allows_below os = first_alone os.below os.equal os.above

pub allows_equal : (os : Orders) → allows os equal ≡ os.equal
allows_equal os = second_alone os.below os.equal os.above

pub allows_above : (os : Orders) → allows os above ≡ os.above
allows_above os = third_alone os.below os.equal os.above

pub allows_is : (r : Rel) (wanted : Bool) (os : Orders) → os.below ≡ is_wanted wanted (holds r below) → os.equal ≡ is_wanted wanted (holds r equal) → os.above ≡ is_wanted wanted (holds r above) → (o : Order) → allows os o ≡ is_wanted wanted (holds r o)
allows_is r wanted os e f g below = allows_below os ∙ e
allows_is r wanted os e f g equal = allows_equal os ∙ f
allows_is r wanted os e f g above = allows_above os ∙ g

-- ---- from the other side

mirror_is : (os ms : Orders) → ms.below ≡ os.above → ms.equal ≡ os.equal → ms.above ≡ os.below → (d : ℤ) → allows ms (order_of (neg_ℤ d)) ≡ allows os (order_of d)
mirror_is os ms e f g (pos zero) = allows_equal ms ∙ f ∙ sym (allows_equal os)
mirror_is os ms e f g (pos (suc n)) = allows_below ms ∙ e ∙ sym (allows_above os)
mirror_is os ms e f g (negsuc n) = allows_above ms ∙ g ∙ sym (allows_below os)

max_back : (m n : ℕ) → max n m ≡ max m n
max_back m n = omega arith

turned_difference : (x y : Scaled) → units_at y (joint_scale y x) -ℤ units_at x (joint_scale y x) ≡ neg_ℤ (units_at x (joint_scale x y) -ℤ units_at y (joint_scale x y))
turned_difference x y =
    let e = max_back x.scale y.scale in
    ap (λ s. units_at y s -ℤ units_at x s) e ∙ turned (units_at y (joint_scale x y)) (units_at x (joint_scale x y))
  where
    turned : (a b : ℤ) → a -ℤ b ≡ neg_ℤ (b -ℤ a)
    turned a b = omega (arith, ints)

pub mirrored_order : (os ms : Orders) → ms.below ≡ os.above → ms.equal ≡ os.equal → ms.above ≡ os.below → (x y : Scaled) → allows ms (number_order y x) ≡ allows os (number_order x y)
mirrored_order os ms e f g x y =
    ap (λ d. allows ms (order_of d)) (turned_difference x y) ∙ mirror_is os ms e f g (units_at x (joint_scale x y) -ℤ units_at y (joint_scale x y))

pub relate_back : (a b : Ranged) → CanRelate a b → CanRelate b a
relate_back a b can =
    let e = sym (max_back a.scale b.scale) in
    record {
      left = subst (λ s. IsInterval (raised b s)) e can.right;
      right = subst (λ s. IsInterval (raised a s)) e can.left;
      left_units = can.right_units;
      right_units = can.left_units;
      scale = omega (arith, can.scale);
    }

-- ---- what the calls give

pub left_gives : (r : Rel) (wanted : Bool) (a b : Ranged) (os : Orders) (o : Option Interval) → os.below ≡ is_wanted wanted (holds r below) → os.equal ≡ is_wanted wanted (holds r equal) → os.above ≡ is_wanted wanted (holds r above)
    → IsLeastIfAny (IsBeside (allows os) a b) o → o ≡ left_kept r wanted a b
left_gives r wanted a b os o e f g h =
    one_least (IsBeside (allows os) a b) o (left_kept r wanted a b) h
    (least_same (Passes (λ z. test (decimal z a.scale)) a.units) (IsBeside (allows os) a b) (left_kept r wanted a b) to from (kept_least test a))
  where
    test : Scaled → Bool
    test = λ x. some_in (λ y. stands r wanted x y) b

    same : (o : Order) → allows os o ≡ is_wanted wanted (holds r o)
    same = allows_is r wanted os e f g

    to : (z : ℤ) → Passes (λ z. test (decimal z a.scale)) a.units z → IsBeside (allows os) a b z
    to z p =
        let y = one_of_some (λ y. stands r wanted (decimal z a.scale) y) b p.1 in
        (p.0, (y.0.units, y.1.held, same _ ∙ at_own_scale (λ y. stands r wanted (decimal z a.scale) y ≡ true) y.0 b y.1 y.2))

    from : (z : ℤ) → IsBeside (allows os) a b z → Passes (λ z. test (decimal z a.scale)) a.units z
    from z (h, (w, k, e)) = (h, some_of (λ y. stands r wanted (decimal z a.scale) y) b (decimal w b.scale) (in_range w b k) (sym (same _) ∙ e))

pub right_gives : (r : Rel) (wanted : Bool) (a b : Ranged) (os ms : Orders) (o : Option Interval) → os.below ≡ is_wanted wanted (holds r below) → os.equal ≡ is_wanted wanted (holds r equal) → os.above ≡ is_wanted wanted (holds r above)
    → ms.below ≡ os.above → ms.equal ≡ os.equal → ms.above ≡ os.below → IsLeastIfAny (IsBeside (allows ms) b a) o → o ≡ right_kept r wanted a b
right_gives r wanted a b os ms o e f g me mf mg h =
    one_least (IsBeside (allows ms) b a) o (right_kept r wanted a b) h
    (least_same (Passes (λ z. test (decimal z b.scale)) b.units) (IsBeside (allows ms) b a) (right_kept r wanted a b) to from (kept_least test b))
  where
    test : Scaled → Bool
    test = λ y. some_in (λ x. stands r wanted x y) a

    same : (x y : Scaled) → allows ms (number_order y x) ≡ stands r wanted x y
    same x y = mirrored_order os ms me mf mg x y ∙ allows_is r wanted os e f g (number_order x y)

    to : (z : ℤ) → Passes (λ z. test (decimal z b.scale)) b.units z → IsBeside (allows ms) b a z
    to z p =
        let x = one_of_some (λ x. stands r wanted x (decimal z b.scale)) a p.1 in
        (p.0, (x.0.units, x.1.held, same (decimal x.0.units a.scale) (decimal z b.scale) ∙ at_own_scale (λ x. stands r wanted x (decimal z b.scale) ≡ true) x.0 a x.1 x.2))

    from : (z : ℤ) → IsBeside (allows ms) b a z → Passes (λ z. test (decimal z b.scale)) b.units z
    from z (h, (w, k, e)) = (h, some_of (λ x. stands r wanted x (decimal z b.scale)) a (decimal w a.scale) (in_range w a k) (sym (same (decimal w a.scale) (decimal z b.scale)) ∙ e))
