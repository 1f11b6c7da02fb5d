-- What ranges of values leave, one after the other.
use Rattle.std.proofs.Common.{◌≡◌, ℕ, zero, suc, ◌+◌, ◌-◌, ◌^◌, ◌<◌, ◌≤◌, ◌&&◌, ◌||◌, ◌⊎◌, inl, inr, ℤ, pos, negsuc, ◌+ℤ◌, ◌-ℤ◌, ◌*ℤ◌, ◌≤ℤ◌, Bool, true, false, List, [], ◌∷◌, ◌++◌, length, get_or, take, drop, Option, Some, None, refl, sym, ap, subst, ◌∙◌, arith}
use Rattle.std.specs.Prelude.{◌≢◌, not, if◌then◌else◌, IfSome}
use Rattle.std.specs.List.{list_all, list_any}
use Rattle.std.proofs.lemmas.Int.{ints, by_lt_z}
use Rattle.std.proofs.lemmas.List.{take_more, drop_more, drop_all}
use Rattle.std.proofs.lemmas.List.Folds.{list_any-append}
use Rattle.dec_num.specs.declared.types.Scaled.{Scaled}
use Rattle.interval_domain.specs.declared.bounds.Interval.{Interval}
use Rattle.interval_domain.specs.Bounds.{Holds, IsLeast}
use Rattle.interval_domain.specs.Corners.{either_of}
use Rattle.interval_domain.proofs.IntervalEnds.{times_grows}
use Rattle.cob_tree.specs.declared.token.Rel.TheVariants as rel
use Rattle.cob_data.specs.declared.layout.Pair.{Pair}
use Rattle.cob_program.specs.Values.{◌>>=◌}
use Rattle.cob_program.proofs.Steps.{both}
use Rattle.cob_runs.specs.Deciding.{Order, below, equal, above, holds, order_of, number_order}
use Rattle.sum_ranges.specs.declared.ranged.Ranged.{Ranged}
use Rattle.sum_ranges.specs.Ranged.{decimal, ranged, IsOrdered}
use Rattle.sum_ranges.specs.SumRanges.{joint}
use Rattle.transfer_ranges.specs.Kept.{size_of, some_in, kept_in, IsLeastIfAny, IsPartOf}
use Rattle.transfer_ranges.specs.Sides.{is_wanted, stands, left_kept}
use Rattle.transfer_ranges.specs.declared.cuts.Cuts.{Cuts}
use Rattle.transfer_ranges.specs.Members.{is_within, is_same_item, end_range, can_lie, can_be, member_kept}
use Rattle.transfer_ranges.specs.Guards.{one_cut, member_cut}
use Rattle.transfer_ranges.specs.Small.{IsShortRange}
use Rattle.transfer_ranges.specs.Trimming.{within_kept, outside_kept, pair_kept, pairs_kept, trimmed}
use Rattle.transfer_ranges.proofs.Searches.{Passes, size_is}
use Rattle.transfer_ranges.proofs.Least.{in_range, some_of, one_of_some, kept_least, kept_part}
use Rattle.transfer_ranges.proofs.Short.{short_part}
use Rattle.transfer_ranges.proofs.Besides.{least_same, one_least, either_least}

-- ---- searches for the same numbers

-- what a search for numbers of a range keeps
abbrev pub PassesIn : (Scaled → Bool) → Ranged → ℤ → Type 0
PassesIn test a = Passes (λ z. test (decimal z a.scale)) a.units

pub kept_same : (f g : Scaled → Bool) (a : Ranged) → ((z : ℤ) → Holds a.units z → f (decimal z a.scale) ≡ true → g (decimal z a.scale) ≡ true) → ((z : ℤ) → Holds a.units z → g (decimal z a.scale) ≡ true → f (decimal z a.scale) ≡ true)
    → kept_in f a ≡ kept_in g a
kept_same f g a to from =
    one_least (PassesIn g a) (kept_in f a) (kept_in g a)
    (least_same (PassesIn f a) (PassesIn g a) (kept_in f a) (λ z p. (p.0, to z p.0 p.1)) (λ z p. (p.0, from z p.0 p.1)) (kept_least f a))
    (kept_least g a)

or_cases : (a b : Bool) → (a || b) ≡ true → (a ≡ true) ⊎ (b ≡ true)
or_cases true b e = inl refl
or_cases false b e = inr e

or_first : (a b : Bool) → a ≡ true → (a || b) ≡ true
or_first a b e = rw e refl

or_second : (a b : Bool) → b ≡ true → (a || b) ≡ true
or_second true b e = refl
or_second false b e = e

pub kept_either : (f g : Scaled → Bool) (a : Ranged) → either_of (kept_in f a) (kept_in g a) ≡ kept_in (λ x. f x || g x) a
kept_either f g a =
    one_least (PassesIn (λ x. f x || g x) a) (either_of (kept_in f a) (kept_in g a)) (kept_in (λ x. f x || g x) a)
    (least_same (λ z. PassesIn f a z ⊎ PassesIn g a z) (PassesIn (λ x. f x || g x) a) (either_of (kept_in f a) (kept_in g a)) to from
    (either_least (PassesIn f a) (PassesIn g a) (kept_in f a) (kept_in g a) (kept_least f a) (kept_least g a)))
    (kept_least (λ x. f x || g x) a)
  where
    to : (z : ℤ) → PassesIn f a z ⊎ PassesIn g a z → PassesIn (λ x. f x || g x) a z
    to z (inl p) = (p.0, or_first (f (decimal z a.scale)) (g (decimal z a.scale)) p.1)
    to z (inr p) = (p.0, or_second (f (decimal z a.scale)) (g (decimal z a.scale)) p.1)

    from : (z : ℤ) → PassesIn (λ x. f x || g x) a z → PassesIn f a z ⊎ PassesIn g a z
    from z p = elim (or_cases (f (decimal z a.scale)) (g (decimal z a.scale)) p.1) as (λ _. PassesIn f a z ⊎ PassesIn g a z) [ inl e ↦ inl (p.0, e) | inr e ↦ inr (p.0, e) ]

-- a search of some numbers of a range, where the others are not found
pub kept_narrower : (test : Scaled → Bool) (a : Ranged) (i : Interval) → IsPartOf i a.units → ((z : ℤ) → Holds a.units z → test (decimal z a.scale) ≡ true → Holds i z) → kept_in test (ranged i a.scale) ≡ kept_in test a
kept_narrower test a i part held =
    one_least (PassesIn test a) (kept_in test (ranged i a.scale)) (kept_in test a)
    (least_same (PassesIn test (ranged i a.scale)) (PassesIn test a) (kept_in test (ranged i a.scale))
    (λ z p. ((omega (arith, ints, part.low, p.0.0), omega (arith, ints, part.high, p.0.1)), p.1)) (λ z p. (held z p.0 p.1, p.1)) (kept_least test (ranged i a.scale)))
    (kept_least test a)

-- ---- one range of values

order_at_least : (d e : ℤ) → d ≤ℤ e → holds rel.AtLeast (order_of d) ≡ true → holds rel.AtLeast (order_of e) ≡ true
order_at_least d (pos zero) h k = refl
order_at_least d (pos (suc n)) h k = refl
order_at_least (pos zero) (negsuc n) h k = absurd (omega (arith, ints))
order_at_least (pos (suc m)) (negsuc n) h k = absurd (omega (arith, ints))
order_at_least (negsuc m) (negsuc n) h k = absurd cc

-- a greater number is at least what a lesser one is
greater_at_least : (a b : Ranged) (u z w : ℤ) → u ≤ℤ z → stands rel.AtLeast true (decimal u a.scale) (decimal w b.scale) ≡ true → stands rel.AtLeast true (decimal z a.scale) (decimal w b.scale) ≡ true
greater_at_least a b u z w h e =
    order_at_least (u *ℤ pos (10 ^ (joint a b - a.scale)) -ℤ w *ℤ pos (10 ^ (joint a b - b.scale))) (z *ℤ pos (10 ^ (joint a b - a.scale)) -ℤ w *ℤ pos (10 ^ (joint a b - b.scale)))
    (omega (arith, ints, times_grows u z (10 ^ (joint a b - a.scale)) h)) e

some_unit : (test : Scaled → Bool) (b : Ranged) → some_in test b ≡ true → (w : ℤ) × Holds b.units w × (test (decimal w b.scale) ≡ true)
some_unit test b e =
    let y = one_of_some test b e in
    (y.0.units, y.1.held, subst (λ s. test (decimal y.0.units s) ≡ true) y.1.scale y.2)

-- ---- both ends of a range of values

within_parts : (x l h : Scaled) → is_wanted true (is_within x l h) ≡ true → (stands rel.AtLeast true x l ≡ true) × (stands rel.AtMost true x h ≡ true)
within_parts x l h e = both (holds rel.AtLeast (number_order x l)) (holds rel.AtMost (number_order x h)) e

both_true : (a b : Bool) → a ≡ true → b ≡ true → (a && b) ≡ true
both_true a b e f = rw (e, f) refl

within_of : (x l h : Scaled) → stands rel.AtLeast true x l ≡ true → stands rel.AtMost true x h ≡ true → is_wanted true (is_within x l h) ≡ true
within_of x l h e f = both_true (holds rel.AtLeast (number_order x l)) (holds rel.AtMost (number_order x h)) e f

not_cases : (a b : Bool) → not (a && b) ≡ true → (not a ≡ true) ⊎ (not b ≡ true)
not_cases true b e = inr e
not_cases false b e = inl refl

not_first : (a b : Bool) → not a ≡ true → not (a && b) ≡ true
not_first true b e = absurd cc
not_first false b e = refl

not_second : (a b : Bool) → not b ≡ true → not (a && b) ≡ true
not_second true b e = e
not_second false b e = refl

outside_parts : (x l h : Scaled) → is_wanted false (is_within x l h) ≡ true → (stands rel.AtLeast false x l ≡ true) ⊎ (stands rel.AtMost false x h ≡ true)
outside_parts x l h e = not_cases (holds rel.AtLeast (number_order x l)) (holds rel.AtMost (number_order x h)) e

outside_low : (x l h : Scaled) → stands rel.AtLeast false x l ≡ true → is_wanted false (is_within x l h) ≡ true
outside_low x l h e = not_first (holds rel.AtLeast (number_order x l)) (holds rel.AtMost (number_order x h)) e

outside_high : (x l h : Scaled) → stands rel.AtMost false x h ≡ true → is_wanted false (is_within x l h) ≡ true
outside_high x l h e = not_second (holds rel.AtLeast (number_order x l)) (holds rel.AtMost (number_order x h)) e

-- from some number of the low end to some number of the high one
abbrev pub can_be_within : Ranged → Ranged → Scaled → Bool
can_be_within low high x = some_in (λ l. some_in (λ h. is_wanted true (is_within x l h)) high) low

pub within_gives : (item low high : Ranged) → within_kept item low high ≡ kept_in (can_be_within low high) item
within_gives item low high = one_least R (within_kept item low high) (kept_in (can_be_within low high) item) (go (left_kept rel.AtLeast true item low) (kept_least first item)) (kept_least (can_be_within low high) item)
  where
    R : ℤ → Type 0
    R = PassesIn (can_be_within low high) item

    first : Scaled → Bool
    first = λ x. some_in (λ y. stands rel.AtLeast true x y) low

    second : Scaled → Bool
    second = λ x. some_in (λ y. stands rel.AtMost true x y) high

    to_first : (z : ℤ) → R z → PassesIn first item z
    to_first z (h, e) =
        let l = some_unit (λ l. some_in (λ h. is_wanted true (is_within (decimal z item.scale) l h)) high) low e in
        let m = some_unit (λ h. is_wanted true (is_within (decimal z item.scale) (decimal l.0 low.scale) h)) high l.2 in
        (h, some_of (λ y. stands rel.AtLeast true (decimal z item.scale) y) low (decimal l.0 low.scale) (in_range l.0 low l.1) (within_parts (decimal z item.scale) (decimal l.0 low.scale) (decimal m.0 high.scale) m.2).0)

    go : (o : Option Interval) → IsLeastIfAny (PassesIn first item) o → IsLeastIfAny R (o >>= λ units. left_kept rel.AtMost true (ranged units item.scale) high)
    go None h = λ z r. h z (to_first z r)
    go (Some i) h = least_same (PassesIn second (ranged i item.scale)) R (left_kept rel.AtMost true (ranged i item.scale) high) to from (kept_least second (ranged i item.scale))
      where
        to : (z : ℤ) → PassesIn second (ranged i item.scale) z → R z
        to z (k, e) =
            let least = h.low_is_one in
            let most = h.high_is_one in
            let l = some_unit (λ y. stands rel.AtLeast true (decimal i.low item.scale) y) low least.1 in
            let m = some_unit (λ y. stands rel.AtMost true (decimal z item.scale) y) high e in
            let up = greater_at_least item low i.low z l.0 k.0 l.2 in (
              (omega (arith, ints, least.0.0, k.0), omega (arith, ints, most.0.1, k.1)),
              some_of (λ l. some_in (λ h. is_wanted true (is_within (decimal z item.scale) l h)) high) low (decimal l.0 low.scale) (in_range l.0 low l.1)
                  (some_of (λ h. is_wanted true (is_within (decimal z item.scale) (decimal l.0 low.scale) h)) high (decimal m.0 high.scale) (in_range m.0 high m.1)
                  (within_of (decimal z item.scale) (decimal l.0 low.scale) (decimal m.0 high.scale) up m.2)),
            )

        from : (z : ℤ) → R z → PassesIn second (ranged i item.scale) z
        from z r =
            let l = some_unit (λ l. some_in (λ h. is_wanted true (is_within (decimal z item.scale) l h)) high) low r.1 in
            let m = some_unit (λ h. is_wanted true (is_within (decimal z item.scale) (decimal l.0 low.scale) h)) high l.2 in
            (h.holds z (to_first z r), some_of (λ y. stands rel.AtMost true (decimal z item.scale) y) high (decimal m.0 high.scale) (in_range m.0 high m.1) (within_parts (decimal z item.scale) (decimal l.0 low.scale) (decimal m.0 high.scale) m.2).1)

-- below some number of the low end, or above some number of the high one
abbrev pub can_be_outside : Ranged → Ranged → Scaled → Bool
can_be_outside low high x = some_in (λ l. some_in (λ h. is_wanted false (is_within x l h)) high) low

pub outside_gives : (item low high : Ranged) → IsOrdered low → IsOrdered high → outside_kept item low high ≡ kept_in (can_be_outside low high) item
outside_gives item low high some_low some_high = kept_either first second item ∙ kept_same (λ x. first x || second x) (can_be_outside low high) item to from
  where
    first : Scaled → Bool
    first = λ x. some_in (λ y. stands rel.AtLeast false x y) low

    second : Scaled → Bool
    second = λ x. some_in (λ y. stands rel.AtMost false x y) high

    to : (z : ℤ) → Holds item.units z → (first (decimal z item.scale) || second (decimal z item.scale)) ≡ true → can_be_outside low high (decimal z item.scale) ≡ true
    to z held e = elim (or_cases (first (decimal z item.scale)) (second (decimal z item.scale)) e) as (λ _. can_be_outside low high (decimal z item.scale) ≡ true) [
      | inl f ↦
          let l = some_unit (λ y. stands rel.AtLeast false (decimal z item.scale) y) low f in
          some_of (λ l. some_in (λ h. is_wanted false (is_within (decimal z item.scale) l h)) high) low (decimal l.0 low.scale) (in_range l.0 low l.1)
          (some_of (λ h. is_wanted false (is_within (decimal z item.scale) (decimal l.0 low.scale) h)) high (decimal high.units.low high.scale) (in_range high.units.low high (omega (arith, ints), some_high))
          (outside_low (decimal z item.scale) (decimal l.0 low.scale) (decimal high.units.low high.scale) l.2))
      | inr f ↦
          let m = some_unit (λ y. stands rel.AtMost false (decimal z item.scale) y) high f in
          some_of (λ l. some_in (λ h. is_wanted false (is_within (decimal z item.scale) l h)) high) low (decimal low.units.low low.scale) (in_range low.units.low low (omega (arith, ints), some_low))
          (some_of (λ h. is_wanted false (is_within (decimal z item.scale) (decimal low.units.low low.scale) h)) high (decimal m.0 high.scale) (in_range m.0 high m.1)
          (outside_high (decimal z item.scale) (decimal low.units.low low.scale) (decimal m.0 high.scale) m.2))
    ]

    from : (z : ℤ) → Holds item.units z → can_be_outside low high (decimal z item.scale) ≡ true → (first (decimal z item.scale) || second (decimal z item.scale)) ≡ true
    from z held e =
        let l = some_unit (λ l. some_in (λ h. is_wanted false (is_within (decimal z item.scale) l h)) high) low e in
        let m = some_unit (λ h. is_wanted false (is_within (decimal z item.scale) (decimal l.0 low.scale) h)) high l.2 in
        elim (outside_parts (decimal z item.scale) (decimal l.0 low.scale) (decimal m.0 high.scale) m.2) as (λ _. (first (decimal z item.scale) || second (decimal z item.scale)) ≡ true) [
          | inl f ↦ or_first (first (decimal z item.scale)) (second (decimal z item.scale)) (some_of (λ y. stands rel.AtLeast false (decimal z item.scale) y) low (decimal l.0 low.scale) (in_range l.0 low l.1) f)
          | inr f ↦ or_second (first (decimal z item.scale)) (second (decimal z item.scale)) (some_of (λ y. stands rel.AtMost false (decimal z item.scale) y) high (decimal m.0 high.scale) (in_range m.0 high m.1) f)
        ]

-- one number for both ends
same_order : (o : Order) → (holds rel.AtLeast o && holds rel.AtMost o) ≡ holds rel.Equal o
same_order below = refl
same_order equal = refl
same_order above = refl

pub one_gives : (wanted : Bool) (item one : Ranged) → left_kept rel.Equal wanted item one ≡ kept_in (λ x. some_in (λ y. is_wanted wanted (is_within x y y)) one) item
one_gives wanted item one =
    kept_same (λ x. some_in (λ y. stands rel.Equal wanted x y) one) (λ x. some_in (λ y. is_wanted wanted (is_within x y y)) one) item
    (λ z h e. let y = some_unit (λ y. stands rel.Equal wanted (decimal z item.scale) y) one e in
    some_of (λ y. is_wanted wanted (is_within (decimal z item.scale) y y)) one (decimal y.0 one.scale) (in_range y.0 one y.1)
    (ap (is_wanted wanted) (same_order (number_order (decimal z item.scale) (decimal y.0 one.scale))) ∙ y.2))
    (λ z h e. let y = some_unit (λ y. is_wanted wanted (is_within (decimal z item.scale) y y)) one e in
    some_of (λ y. stands rel.Equal wanted (decimal z item.scale) y) one (decimal y.0 one.scale) (in_range y.0 one y.1)
    (sym (ap (is_wanted wanted) (same_order (number_order (decimal z item.scale) (decimal y.0 one.scale)))) ∙ y.2))

-- ---- a pair, by what its ends are

module _ (range : ℕ → Ranged) where
  -- the search by whether both ends are one item
  abbrev by_ends : Bool → Bool → Scaled → Pair → Bool
  by_ends t wanted x p =
      if t then some_in (λ one. is_wanted wanted (is_within x one one)) (end_range range p.low)
      else some_in (λ low. some_in (λ high. is_wanted wanted (is_within x low high)) (end_range range p.high)) (end_range range p.low)

  pair_by : (t : Bool) (p : Pair) → is_same_item p.low p.high ≡ t → (wanted : Bool) (item : Ranged) → pair_kept range wanted item p ≡ kept_in (λ x. by_ends t wanted x p) item
  pair_by t p e wanted item = ap (λ u. kept_in (λ x. by_ends u wanted x p) item) e

  pub pair_one : (p : Pair) (wanted : Bool) (item low : Ranged) (o : Option Interval) → true ≡ is_same_item p.low p.high → low ≡ end_range range p.low → o ≡ left_kept rel.Equal wanted item low → o ≡ pair_kept range wanted item p
  pair_one p wanted item low o e f g = g ∙ ap (left_kept rel.Equal wanted item) f ∙ one_gives wanted item (end_range range p.low) ∙ sym (pair_by true p (sym e) wanted item)

  pub pair_within : (p : Pair) (item low high : Ranged) (o : Option Interval) → false ≡ is_same_item p.low p.high → low ≡ end_range range p.low → high ≡ end_range range p.high → o ≡ within_kept item low high → o ≡ pair_kept range true item p
  pair_within p item low high o e f g h =
      h ∙ ap (λ l. within_kept item l high) f ∙ ap (within_kept item (end_range range p.low)) g ∙ within_gives item (end_range range p.low) (end_range range p.high) ∙ sym (pair_by false p (sym e) true item)

  pub pair_outside : (p : Pair) (item low high : Ranged) (o : Option Interval) → IsOrdered low → IsOrdered high → false ≡ is_same_item p.low p.high → low ≡ end_range range p.low → high ≡ end_range range p.high → o ≡ outside_kept item low high → o ≡ pair_kept range false item p
  pair_outside p item low high o ol oh e f g h =
      h ∙ outside_gives item low high ol oh ∙ ap (λ l. kept_in (can_be_outside l high) item) f ∙ ap (λ m. kept_in (can_be_outside (end_range range p.low) m) item) g ∙ sym (pair_by false p (sym e) false item)

  -- ---- one range of values more

  pub none_found : (item : Ranged) (ps : List Pair) → None ≡ pairs_kept range true item (take 0 ps)
  none_found item ps = one_least (PassesIn (can_be range true (take 0 ps)) item) None (pairs_kept range true item (take 0 ps)) (λ z p. clash p.1) (kept_least (can_be range true (take 0 ps)) item)
    where
      clash : false ≡ true → ⊥
      clash e = absurd cc

  pub one_more : (item : Ranged) (ps : List Pair) (i : ℕ) (p : Pair) (found here next : Option Interval) → i < length ps → p ≡ get_or ps i p → found ≡ pairs_kept range true item (take i ps) → here ≡ pair_kept range true item p → next ≡ either_of found here
      → next ≡ pairs_kept range true item (take (i + 1) ps)
  one_more item ps i p found here next h is f k n =
      n ∙ ap (λ o. either_of o here) f ∙ ap (either_of (pairs_kept range true item (take i ps))) k
      ∙ kept_either (λ x. list_any (can_lie range true x) (take i ps)) (λ x. can_lie range true x p) item
      ∙ kept_same (λ x. list_any (can_lie range true x) (take i ps) || can_lie range true x p) (λ x. list_any (can_lie range true x) (take (i + 1) ps)) item
      (λ z held e. sym (same (decimal z item.scale)) ∙ e) (λ z held e. same (decimal z item.scale) ∙ e)
    where
      last : (x : Scaled) → list_any (can_lie range true x) (p ∷ []) ≡ can_lie range true x p
      last x = or_none (can_lie range true x p)
        where
          or_none : (b : Bool) → (b || false) ≡ b
          or_none true = refl
          or_none false = refl

      same : (x : Scaled) → (list_any (can_lie range true x) (take i ps) || can_lie range true x p) ≡ list_any (can_lie range true x) (take (i + 1) ps)
      same x =
          ap (λ b. list_any (can_lie range true x) (take i ps) || b) (sym (last x))
          ∙ sym (list_any-append (can_lie range true x) (take i ps) (p ∷ []))
          ∙ ap (list_any (can_lie range true x)) (ap (λ q. take i ps ++ q ∷ []) is ∙ sym (take_more ps i p h))

  -- ---- trimming

  pub trimmed_part : (item : Ranged) (ps : List Pair) (i : Interval) → IsOrdered item → trimmed range item ps ≡ Some i → IsPartOf i item.units
  trimmed_part item [] i h e = subst (λ j. IsPartOf j item.units) (some_is item.units i e) (record { low = omega (arith, ints); ordered = h; high = omega (arith, ints) })
    where
      some_is : (a b : Interval) → Some a ≡ Some b → a ≡ b
      some_is a b e = ap (value_or a) e
        where
          value_or : Interval → Option Interval → Interval
          value_or a None = a
          value_or a (Some b) = b
  trimmed_part item (p ∷ ps) i h e = go (pair_kept range false item p) (kept_part (λ x. can_lie range false x p) item) (λ j. trimmed_part (ranged j item.scale) ps i) e
    where
      go : (o : Option Interval) → IfSome o (λ j. IsPartOf j item.units) → ((j : Interval) → IsOrdered (ranged j item.scale) → trimmed range (ranged j item.scale) ps ≡ Some i → IsPartOf i j)
          → (o >>= λ units. trimmed range (ranged units item.scale) ps) ≡ Some i → IsPartOf i item.units
      go None k rest f = absurd cc
      go (Some j) k rest f = let l = rest j k.ordered f in record { low = omega (arith, ints, k.low, l.low); ordered = l.ordered; high = omega (arith, ints, k.high, l.high) }

  -- what is trimmed away can't lie outside of all
  abbrev pub Trimmed : Ranged → List Pair → Option Interval → Type 0
  Trimmed item ps None = (z : ℤ) → PassesIn (can_be range false ps) item z → ⊥
  Trimmed item ps (Some i) = ((z : ℤ) → PassesIn (can_be range false ps) item z → Holds i z)
      × (IsOrdered item → i.low ≡ item.units.low → i.high ≡ item.units.high → (can_be range false ps (decimal item.units.low item.scale) ≡ true) × (can_be range false ps (decimal item.units.high item.scale) ≡ true))

  pub trimming : (item : Ranged) (ps : List Pair) → Trimmed item ps (trimmed range item ps)
  trimming item [] = (λ z p. p.0, λ h e f. (refl, refl))
  trimming item (p ∷ ps) = go (pair_kept range false item p) (kept_least (λ x. can_lie range false x p) item) (λ units. trimming (ranged units item.scale) ps) (λ units i. trimmed_part (ranged units item.scale) ps i)
    where
      split : (z : ℤ) → PassesIn (can_be range false (p ∷ ps)) item z → PassesIn (λ x. can_lie range false x p) item z × (can_be range false ps (decimal z item.scale) ≡ true)
      split z k = let e = both (can_lie range false (decimal z item.scale) p) (list_all (can_lie range false (decimal z item.scale)) ps) k.1 in ((k.0, e.0), e.1)

      joined : (z : ℤ) → can_lie range false (decimal z item.scale) p ≡ true → can_be range false ps (decimal z item.scale) ≡ true → can_be range false (p ∷ ps) (decimal z item.scale) ≡ true
      joined z e f = rw (e, f) refl

      go : (o : Option Interval) → IsLeastIfAny (PassesIn (λ x. can_lie range false x p) item) o → ((units : Interval) → Trimmed (ranged units item.scale) ps (trimmed range (ranged units item.scale) ps))
          → ((units i : Interval) → IsOrdered (ranged units item.scale) → trimmed range (ranged units item.scale) ps ≡ Some i → IsPartOf i units)
          → Trimmed item (p ∷ ps) (o >>= λ units. trimmed range (ranged units item.scale) ps)
      go None h rest part = λ z k. h z (split z k).0
      go (Some j) h rest part = next (trimmed range (ranged j item.scale) ps) refl (rest j)
        where
          ordered : j.low ≤ℤ j.high
          ordered = (h.holds j.low h.low_is_one).1

          next : (o : Option Interval) → trimmed range (ranged j item.scale) ps ≡ o → Trimmed (ranged j item.scale) ps o → Trimmed item (p ∷ ps) o
          next None e t = λ z k. let s = split z k in t z (h.holds z s.0, s.1)
          next (Some i) e t = (
            λ z k. let s = split z k in t.0 z (h.holds z s.0, s.1),
            λ whole low high.
                let within = part j i ordered e in
                let first : j.low ≡ item.units.low = omega (arith, ints, low, within.low, h.low_is_one.0.0) in
                let last : j.high ≡ item.units.high = omega (arith, ints, high, within.high, h.high_is_one.0.1) in
                let ends = t.1 ordered (low ∙ sym first) (high ∙ sym last) in (
                  joined item.units.low (subst (λ z. can_lie range false (decimal z item.scale) p ≡ true) first h.low_is_one.1) (subst (λ z. can_be range false ps (decimal z item.scale) ≡ true) first ends.0),
                  joined item.units.high (subst (λ z. can_lie range false (decimal z item.scale) p ≡ true) last h.high_is_one.1) (subst (λ z. can_be range false ps (decimal z item.scale) ≡ true) last ends.1),
                ),
          )

  -- ---- until nothing moves

  pub nothing_left : (item : Ranged) (ps : List Pair) → None ≡ trimmed range item ps → None ≡ pairs_kept range false item ps
  nothing_left item ps e = one_least (PassesIn (can_be range false ps) item) None (pairs_kept range false item ps) (subst (Trimmed item ps) (sym e) (trimming item ps)) (kept_least (can_be range false ps) item)

  pub nothing_moved : (item : Ranged) (ps : List Pair) (units : Interval) → IsOrdered item → Some units ≡ trimmed range item ps → units ≡ item.units → Some units ≡ pairs_kept range false item ps
  nothing_moved item ps units h e same =
      let t : Trimmed item ps (Some units) = subst (Trimmed item ps) (sym e) (trimming item ps) in
      let ends = t.1 h (ap (λ (i : Interval). i.low) same) (ap (λ (i : Interval). i.high) same) in
      let least : IsLeast (PassesIn (can_be range false ps) item) item.units = record { holds = λ z p. p.0; low_is_one = ((omega (arith, ints), h), ends.0); high_is_one = ((h, omega (arith, ints)), ends.1) } in
      one_least (PassesIn (can_be range false ps) item) (Some units) (pairs_kept range false item ps) (subst (IsLeast (PassesIn (can_be range false ps) item)) (sym same) least) (kept_least (can_be range false ps) item)

  pub some_moved : (item : Ranged) (ps : List Pair) (units : Interval) (o : Option Interval) → IsOrdered item → Some units ≡ trimmed range item ps → o ≡ pairs_kept range false (ranged units item.scale) ps → o ≡ pairs_kept range false item ps
  some_moved item ps units o h e f =
      let t : Trimmed item ps (Some units) = subst (Trimmed item ps) (sym e) (trimming item ps) in
      f ∙ kept_narrower (can_be range false ps) item units (trimmed_part item ps units h (sym e)) (λ z held k. t.0 z (held, k))

  -- ---- one range of values after the other

  trimmed_step : (ps : List Pair) (i : ℕ) (p : Pair) (left : Ranged) → i < length ps → p ≡ get_or ps i p → trimmed range left (drop i ps) ≡ (pair_kept range false left p >>= λ units. trimmed range (ranged units left.scale) (drop (i + 1) ps))
  trimmed_step ps i p left h is = ap (trimmed range left) (drop_more ps i p h ∙ ap (λ q. q ∷ drop (i + 1) ps) (sym is))

  pub trimmed_stops : (ps : List Pair) (i : ℕ) (p : Pair) (left : Ranged) (o : Option Interval) → i < length ps → p ≡ get_or ps i p → None ≡ pair_kept range false left p → trimmed range left (drop i ps) ≡ o → None ≡ o
  trimmed_stops ps i p left o h is e whole = sym (trimmed_step ps i p left h is ∙ ap (λ q. q >>= λ units. trimmed range (ranged units left.scale) (drop (i + 1) ps)) (sym e)) ∙ whole

  pub trimmed_goes_on : (ps : List Pair) (i : ℕ) (p : Pair) (left : Ranged) (units : Interval) (o : Option Interval) → i < length ps → p ≡ get_or ps i p → Some units ≡ pair_kept range false left p → trimmed range left (drop i ps) ≡ o
      → trimmed range (ranged units left.scale) (drop (i + 1) ps) ≡ o
  trimmed_goes_on ps i p left units o h is e whole = sym (trimmed_step ps i p left h is ∙ ap (λ q. q >>= λ units. trimmed range (ranged units left.scale) (drop (i + 1) ps)) (sym e)) ∙ whole

  pub trimmed_ends : (ps : List Pair) (i : ℕ) (left : Ranged) (o : Option Interval) → length ps ≤ i → trimmed range left (drop i ps) ≡ o → Some left.units ≡ o
  trimmed_ends ps i left o h whole = sym (ap (trimmed range left) (drop_all i ps h)) ∙ whole

  pub short_pair_kept : (wanted : Bool) (a : Ranged) (p : Pair) (i : Interval) → IsShortRange a → Some i ≡ pair_kept range wanted a p → IsShortRange (ranged i a.scale)
  short_pair_kept wanted a p i h e = short_part a i h (subst (λ o. IfSome o (λ j. IsPartOf j a.units)) (sym e) (kept_part (λ x. can_lie range wanted x p) a))

  pub short_trimmed : (a : Ranged) (ps : List Pair) (i : Interval) → IsShortRange a → Some i ≡ trimmed range a ps → IsShortRange (ranged i a.scale)
  short_trimmed a ps i h e = short_part a i h (trimmed_part a ps i h.ordered (sym e))

  -- what is trimmed is smaller
  pub smaller : (a : Ranged) (ps : List Pair) (i : Interval) → IsOrdered a → Some i ≡ trimmed range a ps → (i.low ≢ a.units.low) ⊎ (i.high ≢ a.units.high) → size_of i < size_of a.units
  smaller a ps i h e other =
      let part = trimmed_part a ps i h (sym e) in
      let first = size_is i part.ordered in
      let second = size_is a.units h in
      elim other as (λ _. size_of i < size_of a.units) [
        | inl low ↦ let more : (a.units.low +ℤ pos 1) ≤ℤ i.low = apart a.units.low i.low part.low low in omega (arith, ints, first, second, part.high, more)
        | inr high ↦ let more : (i.high +ℤ pos 1) ≤ℤ a.units.high = apart i.high a.units.high part.high (λ f. high (sym f)) in omega (arith, ints, first, second, part.low, more)
      ]
    where
      apart : (x y : ℤ) → x ≤ℤ y → (y ≢ x) → (x +ℤ pos 1) ≤ℤ y
      apart x y h k = by_lt_z x y (λ l. omega (arith, ints, l)) (λ l. absurd (k (omega (arith, ints, h, l))))

-- ---- a test of ranges of values

pub member_gives : (range : ℕ → Ranged) (place : ℕ) (ps : List Pair) (wanted t : Bool) (item : Ranged) (o : Option Interval) (r : Option Cuts) → r ≡ one_cut place o → o ≡ pairs_kept range wanted item ps → item ≡ range place → true ≡ t
    → r ≡ member_cut t place (member_kept range place ps wanted)
member_gives range place ps wanted t item o r e f g h =
    let kept : o ≡ member_kept range place ps wanted = f ∙ ap (λ i. pairs_kept range wanted i ps) g in
    let cut : r ≡ one_cut place (member_kept range place ps wanted) = e ∙ ap (one_cut place) kept in
    cut ∙ ap (λ b. member_cut b place (member_kept range place ps wanted)) h
