-- Operands and amounts where less is known.
use Rattle.std.proofs.Common.{◌≡◌, ℕ, Bool, true, false, ◌&&◌, ◌||◌, if◌then◌else◌, ◌⊎◌, inl, inr, Option, Some, None, pos, refl, sym, subst, arith}
use Rattle.std.specs.Option.{option_map}
use Rattle.std.proofs.lemmas.Int.{ints}
use Rattle.cob_program.specs.Sum.{Sum, MkSum, no_parts, more_parts, MkPart, Factors, no_factors, more_factors, MkFactor, Atom, item}
use Rattle.cob_program.specs.Values.{whole_number, with_factor, Root, root_in, root_of, behind_factor, ◌>>=◌}
use Rattle.cob_program.specs.Act.{Act, move, arith as arithmetic, if_, evaluate, perform, go, nothing, stop, open_files, close_files, read, write, show}
use Rattle.cob_runs.specs.declared.action.Action.{Action}
use Rattle.cob_runs.specs.declared.action.Action.TheVariants as action
use Rattle.cob_edge_parts.specs.Parts.{Amount, moved, computed, remaining, augmented, is_handled, has_phrase}
use Rattle.sum_ranges.specs.declared.ranged.Ranged.{Ranged}
use Rattle.sum_ranges.specs.Ranged.{point, IsNarrower, IsOrdered, IsBelow}
use Rattle.sum_ranges.specs.Results.{IsResult}
use Rattle.sum_ranges.specs.SumRanges.{turned, quotient_range, sum_range, product_range_from, atom_range}
use Rattle.sum_ranges.specs.Vanishing.{holds_zero, may_vanish, may_vanish_in_product, may_vanish_in_atom}
use Rattle.sum_ranges.proofs.Operations.{quotient_ranges_least}
use Rattle.sum_ranges.proofs.Least.{result_in_wider, range_below}
use Rattle.sum_ranges.proofs.Narrow.{wide_ordered, plus_narrower}
use Rattle.sum_ranges.proofs.Vanish.{zero_rises, sum_missing, product_missing, atom_missing, vanish_rises}
use Rattle.transfer_ranges.specs.declared.amounts.Taken.{Taken}
use Rattle.transfer_ranges.specs.declared.amounts.AmountRange.{AmountRange}
use Rattle.transfer_ranges.specs.declared.amounts.AmountRange.TheVariants as range
use Rattle.transfer_ranges.specs.Amounts.{taken, IsNarrowerIfAny, IsNarrowerTaken, IsNarrowerTakenIfAny, IsNarrowerAmount}
use Rattle.transfer_ranges.specs.Operands.{alone, taken_from, taken_sum}
use Rattle.transfer_ranges.specs.Stores.{operands, amount_range}
use Rattle.transfer_ranges.specs.EdgeOperands.{edge_amount, edge_operands, operands_vanish, settled_by, settled, stays_exact, taken_for, amount_of, is_divided, may_divide_by_zero}
use Rattle.cell_laws.proofs.ResultLaws.{Given}

-- ---- tests

pub or_left : (a b : Bool) → a ≡ true → (a || b) ≡ true
or_left a b e = rw e refl

pub or_right : (a b : Bool) → b ≡ true → (a || b) ≡ true
or_right true b e = refl
or_right false b e = e

pub or_either : (a b : Bool) → (a || b) ≡ true → (a ≡ true) ⊎ (b ≡ true)
or_either true b e = inl refl
or_either false b e = inr e

pub or_rises : (a b c d : Bool) → (a ≡ true → c ≡ true) → (b ≡ true → d ≡ true) → (a || b) ≡ true → (c || d) ≡ true
or_rises true b c d f g e = or_left c d (f refl)
or_rises false b c d f g e = or_right c d (g e)

pub and_rises : (u a b : Bool) → (u ≡ true → a ≡ true → b ≡ true) → (u && a) ≡ true → (u && b) ≡ true
and_rises true a b f e = f refl e
and_rises false a b f e = absurd cc

-- ---- edges of size errors

pub handled_phrase : (a : Act) (x : Action) → is_handled a x ≡ true → has_phrase a ≡ true
handled_phrase a action.Skip h = absurd cc
handled_phrase a action.Assign h = absurd cc
handled_phrase a action.Done h = absurd cc
handled_phrase a action.Size h = h
handled_phrase a (action.True n) h = absurd cc
handled_phrase a (action.False n) h = absurd cc
handled_phrase a action.SetCount h = absurd cc
handled_phrase a action.Down h = absurd cc
handled_phrase a (action.Open n) h = absurd cc
handled_phrase a (action.Close n) h = absurd cc
handled_phrase a action.Take h = absurd cc
handled_phrase a action.AtEnd h = absurd cc
handled_phrase a (action.Bad n) h = absurd cc
handled_phrase a action.Write h = absurd cc
handled_phrase a action.Show h = absurd cc

-- ---- a sum whose operands have no range

regroup : (a b c d v : Bool) → ((c || d) ≡ true → v ≡ true) → ((a || (b || c)) || d) ≡ true → (a || (b || v)) ≡ true
regroup true b c d v h e = refl
regroup false true c d v h e = refl
regroup false false c d v h e = h e

then_none : {A B : Type 0} (o : Option A) (next : A → Option B) → (o >>= next) ≡ None → (o ≡ None) ⊎ ((a : A) × (o ≡ Some a) × (next a ≡ None))
then_none None next e = inl refl
then_none (Some a) next e = inr (a, refl, e)

map_none : {A B : Type 0} (f : A → B) (o : Option A) → option_map f o ≡ None → o ≡ None
map_none f None e = refl
map_none f (Some a) e = absurd cc

module _ (range : ℕ → Ranged) where
  -- a divisor may be 0 before the last factor, or in it
  abbrev root_may_vanish : Root → Bool
  root_may_vanish r = may_vanish_in_product range r.above || may_vanish_in_atom range r.below

  root_more : (over minus : Bool) (atom : Atom) (gs : Factors) (o : Option Root) (r : Root)
      → ((q : Root) → o ≡ Some q → root_may_vanish q ≡ true → may_vanish_in_product range gs ≡ true)
      → behind_factor (MkFactor over minus atom) o ≡ Some r → root_may_vanish r ≡ true → may_vanish_in_product range (more_factors (MkFactor over minus atom) gs) ≡ true
  root_more over minus atom gs None r ih e w = absurd cc
  root_more over minus atom gs (Some q) r ih e w =
      let same : record { above = more_factors (MkFactor over minus atom) q.above; minus = q.minus; below = q.below } ≡ r = cc in
      regroup (may_vanish_in_atom range atom) (over && holds_zero (atom_range range atom)) (may_vanish_in_product range q.above) (may_vanish_in_atom range q.below) (may_vanish_in_product range gs)
      (ih q refl) (subst (λ (k : Root). root_may_vanish k ≡ true) (sym same) w)

  root_last : (minus : Bool) (atom : Atom) (r : Root) → Some (record { above = no_factors; minus = minus; below = atom }) ≡ Some r → root_may_vanish r ≡ true → may_vanish_in_product range (more_factors (MkFactor true minus atom) no_factors) ≡ true
  root_last minus atom r e w =
      let same : record { above = no_factors; minus = minus; below = atom } ≡ r = cc in
      or_left (may_vanish_in_atom range atom) ((true && holds_zero (atom_range range atom)) || false) (subst (λ (k : Root). root_may_vanish k ≡ true) (sym same) w)

  root_vanishes : (fs : Factors) (r : Root) → root_in fs ≡ Some r → root_may_vanish r ≡ true → may_vanish_in_product range fs ≡ true
  root_vanishes no_factors r e v = absurd cc
  root_vanishes (more_factors (MkFactor true minus atom) no_factors) r e v = root_last minus atom r e v
  root_vanishes (more_factors (MkFactor false minus atom) no_factors) r e v = absurd cc
  root_vanishes (more_factors (MkFactor true minus atom) (more_factors g gs)) r e v =
      root_more true minus atom (more_factors g gs) (root_in (more_factors g gs)) r (λ q f w. root_vanishes (more_factors g gs) q f w) e v
  root_vanishes (more_factors (MkFactor false minus atom) (more_factors g gs)) r e v =
      root_more false minus atom (more_factors g gs) (root_in (more_factors g gs)) r (λ q f w. root_vanishes (more_factors g gs) q f w) e v

  root_vanishes_in_sum : (s : Sum) (r : Root) → root_of s ≡ Some r → root_may_vanish r ≡ true → may_vanish range s ≡ true
  root_vanishes_in_sum (MkSum no_parts) r e v = absurd cc
  root_vanishes_in_sum (MkSum (more_parts (MkPart false fs) no_parts)) r e v = or_left (may_vanish_in_product range fs) false (root_vanishes fs r e v)
  root_vanishes_in_sum (MkSum (more_parts (MkPart true fs) no_parts)) r e v = absurd cc
  root_vanishes_in_sum (MkSum (more_parts (MkPart false fs) (more_parts q qs))) r e v = absurd cc
  root_vanishes_in_sum (MkSum (more_parts (MkPart true fs) (more_parts q qs))) r e v = absurd cc

  module _ (ordered : (place : ℕ) → IsOrdered (range place)) where
    one_ordered : IsOrdered (point (whole_number (pos 1)))
    one_ordered = omega (arith, ints)

    untaken_root : (s : Sum) (r : Root) → root_of s ≡ Some r → taken_from range s (Some r) ≡ None → may_vanish range s ≡ true
    untaken_root s r e f = elim (then_none (product_range_from range (point (whole_number (pos 1))) r.above) (λ n. atom_range range r.below >>= λ d. Some (taken n (Some (turned r.minus d)))) f) [
      | inl g ↦ root_vanishes_in_sum s r e (or_left (may_vanish_in_product range r.above) (may_vanish_in_atom range r.below) (product_missing range ordered r.above (point (whole_number (pos 1))) one_ordered g))
      | inr (n, g, h) ↦ root_vanishes_in_sum s r e (or_right (may_vanish_in_product range r.above) (may_vanish_in_atom range r.below) (atom_missing range ordered r.below (below_none n (atom_range range r.below) h)))
    ]
      where
        below_none : (n : Ranged) (o : Option Ranged) → (o >>= λ d. Some (taken n (Some (turned r.minus d)))) ≡ None → o ≡ None
        below_none n None h = refl
        below_none n (Some d) h = absurd cc

    untaken_from : (s : Sum) (o : Option Root) → root_of s ≡ o → taken_from range s o ≡ None → may_vanish range s ≡ true
    untaken_from s None e f = sum_missing range ordered s (map_none alone (sum_range range s) f)
    untaken_from s (Some r) e f = untaken_root s r e f

    -- a sum without a range has a divisor that may be 0
    pub untaken_vanishes : (s : Sum) → taken_sum range true s ≡ None → may_vanish range s ≡ true
    untaken_vanishes s e = untaken_from s (root_of s) refl e

    untaken_by : (a : Act) (x : Action) → has_phrase a ≡ true → edge_operands range a x ≡ None → operands_vanish range a ≡ true
    untaken_by (move y places) x h e = absurd cc
    untaken_by (arithmetic s targets remainder size fine) x h e = untaken_vanishes s e
    untaken_by (if_ t held other) x h e = absurd cc
    untaken_by (evaluate ws other) x h e = absurd cc
    untaken_by (perform body turns) x h e = absurd cc
    untaken_by (go n) x h e = absurd cc
    untaken_by nothing x h e = absurd cc
    untaken_by stop x h e = absurd cc
    untaken_by (open_files os) x h e = absurd cc
    untaken_by (close_files fs) x h e = absurd cc
    untaken_by (read f into end fine) x h e = absurd cc
    untaken_by (write r from) x h e = absurd cc
    untaken_by (show xs) x h e = absurd cc

    -- and so have the operands of an edge of size errors
    pub untaken_operands : (a : Act) (x : Action) → is_handled a x ≡ true → edge_operands range a x ≡ None → operands_vanish range a ≡ true
    untaken_operands a x h e = untaken_by a x (handled_phrase a x h) e

-- ---- operands where less is known

module _ (narrow wide : ℕ → Ranged) (within : (place : ℕ) → IsNarrower (narrow place) (wide place)) where
  pub operands_vanish_rises : (a : Act) → operands_vanish narrow a ≡ true → operands_vanish wide a ≡ true
  operands_vanish_rises (move y places) e = e
  operands_vanish_rises (arithmetic s targets remainder size fine) e = vanish_rises narrow wide within s e
  operands_vanish_rises (if_ t held other) e = e
  operands_vanish_rises (evaluate ws other) e = e
  operands_vanish_rises (perform body turns) e = e
  operands_vanish_rises (go n) e = e
  operands_vanish_rises nothing e = e
  operands_vanish_rises stop e = e
  operands_vanish_rises (open_files os) e = e
  operands_vanish_rises (close_files fs) e = e
  operands_vanish_rises (read f into end fine) e = e
  operands_vanish_rises (write r from) e = e
  operands_vanish_rises (show xs) e = e

  amount_operands_below : Given → (o : Option Amount) → IsNarrowerTakenIfAny (o >>= operands narrow) (o >>= operands wide)
  amount_operands_below given None = tt
  amount_operands_below given (Some y) = given.operands_ narrow wide within y

  pub edge_operands_below : Given → (a : Act) (x : Action) → IsNarrowerTakenIfAny (edge_operands narrow a x) (edge_operands wide a x)
  edge_operands_below given a x = amount_operands_below given (edge_amount a x)

-- ---- quotients that don't stay exact

-- a quotient by a range that has no other number than 0
zero_alone : (a u : Ranged) → IsOrdered a → IsOrdered u → quotient_range a u ≡ None → holds_zero (Some u) ≡ true
zero_alone a u o k e =
    let missing : (quotient_range a u >>= λ c. Some c) ≡ None = rw e refl in
    elim (or_either (holds_zero (Some u)) false (product_missing (λ place. u) (λ place. k) (more_factors (MkFactor true false (item 0)) no_factors) a o missing)) [
      | inl f ↦ f
      | inr f ↦ absurd cc
    ]

pub quotient_below : (a u b v : Ranged) → IsNarrower a b → IsNarrower u v → IsBelow (quotient_range a u) (quotient_range b v)
quotient_below a u b v n m =
    range_below (IsResult (with_factor true) a u) (IsResult (with_factor true) b v) (quotient_range a u) (quotient_range b v)
    (result_in_wider (with_factor true) a u b v n m)
    (quotient_ranges_least a u n.ordered m.ordered) (quotient_ranges_least b v (wide_ordered a b n) (wide_ordered u v m))

-- there is one, within the other, or what divides may be 0
abbrev pub SettledBelow : Option Ranged → Option Taken → Option Taken → Type 0
SettledBelow under None p = holds_zero under ≡ true
SettledBelow under (Some t) None = ⊥
SettledBelow under (Some t) (Some u) = IsNarrowerTaken t u

alone_below : (a b : Ranged) → IsNarrower a b → IsNarrowerTaken (alone a) (alone b)
alone_below a b n = record { top = n; under = tt }

settled_quotient : (u : Ranged) (o p : Option Ranged) → (o ≡ None → holds_zero (Some u) ≡ true) → IsBelow o p → SettledBelow (Some u) (option_map alone o) (option_map alone p)
settled_quotient u None p z h = z refl
settled_quotient u (Some a) None z h = h
settled_quotient u (Some a) (Some b) z h = alone_below a b h

settled_by_below : (a b : Ranged) (o p : Option Ranged) → IsNarrower a b → IsNarrowerIfAny o p → SettledBelow o (settled_by a o) (settled_by b p)
settled_by_below a b None None n m = alone_below a b n
settled_by_below a b None (Some v) n m = absurd m
settled_by_below a b (Some u) None n m = absurd m
settled_by_below a b (Some u) (Some v) n m =
    settled_quotient u (quotient_range a u) (quotient_range b v) (zero_alone a u n.ordered m.ordered) (quotient_below a u b v n m)

pub settled_below : (c d : Taken) → IsNarrowerTaken c d → SettledBelow c.under (settled c) (settled d)
settled_below c d n = settled_by_below c.top d.top c.under d.under n.top n.under

taken_for_below : (y : Amount) (c d : Taken) → IsNarrowerTaken c d → SettledBelow c.under (taken_for y c) (taken_for y d)
taken_for_below y c d n = by_exact (stays_exact y)
  where
    by_exact : (b : Bool) → SettledBelow c.under (if b then Some c else settled c) (if b then Some d else settled d)
    by_exact true = n
    by_exact false = settled_below c d n

-- ---- amounts

-- there is none, or one within the other
abbrev pub AmountBelow : Option AmountRange → Option AmountRange → Type 0
AmountBelow None None = Unit {0}
AmountBelow (Some a) (Some b) = IsNarrowerAmount a b
AmountBelow _ _ = ⊥

remaining_below : (scale : ℕ) (t u : Taken) (o p : Option Ranged) → IsNarrower t.top u.top → IsNarrowerIfAny o p → AmountBelow (option_map (λ under. range.Remainder t.top under scale) o) (option_map (λ under. range.Remainder u.top under scale) p)
remaining_below scale t u None None n m = tt
remaining_below scale t u None (Some q) n m = absurd m
remaining_below scale t u (Some q) None n m = absurd m
remaining_below scale t u (Some a) (Some b) n m = (n, m, refl)

amount_range_below : Given → (y : Amount) (own wider : Ranged) (t u : Taken) → IsNarrower own wider → IsNarrowerTaken t u → AmountBelow (amount_range y own t) (amount_range y wider u)
amount_range_below given (moved x) own wider t u n m = m.top
amount_range_below given (computed s h) own wider t u n m = given.computed_ h own wider t u n m
amount_range_below given (remaining s scale) own wider t u n m = remaining_below scale t u t.under u.under m.top m.under
amount_range_below given (augmented x) own wider t u n m = plus_narrower own t.top wider u.top n m.top

-- both or neither are there and the lower is within the other, or a divisor may be 0
abbrev pub AmountBelowIf : Option Ranged → Option AmountRange → Option AmountRange → Type 0
AmountBelowIf under o p = AmountBelow o p ⊎ ((o ≡ None) × (holds_zero under ≡ true))

pub amount_below : Given → (y : Amount) (own wider : Ranged) (c d : Taken) → IsNarrower own wider → IsNarrowerTaken c d → AmountBelowIf c.under (amount_of y own c) (amount_of y wider d)
amount_below given y own wider c d n m = go (taken_for y c) (taken_for y d) (taken_for_below y c d m)
  where
    go : (o p : Option Taken) → SettledBelow c.under o p → AmountBelowIf c.under (o >>= amount_range y own) (p >>= amount_range y wider)
    go None p h = inr (refl, h)
    go (Some t) None h = absurd h
    go (Some t) (Some u) h = inl (amount_range_below given y own wider t u n h)

-- ---- zero divisors

under_rises : (o p : Option Ranged) → IsNarrowerIfAny o p → holds_zero o ≡ true → holds_zero p ≡ true
under_rises None None n e = e
under_rises None (Some v) n e = absurd n
under_rises (Some u) None n e = absurd n
under_rises (Some u) (Some v) n e = zero_rises (Some u) (Some v) n e

pub divisor_zero_rises : (y : Amount) (c d : Taken) → IsNarrowerTaken c d → may_divide_by_zero y c ≡ true → may_divide_by_zero y d ≡ true
divisor_zero_rises y c d n e =
    or_rises (holds_zero c.under) (is_divided y && holds_zero (option_map (λ t. t.top) (settled c))) (holds_zero d.under) (is_divided y && holds_zero (option_map (λ t. t.top) (settled d)))
    (under_rises c.under d.under n.under)
    (and_rises (is_divided y) (holds_zero (option_map (λ t. t.top) (settled c))) (holds_zero (option_map (λ t. t.top) (settled d))) (λ u. tops (settled c) (settled d) (settled_below c d n)))
    e
  where
    tops : (o p : Option Taken) → SettledBelow c.under o p → holds_zero (option_map (λ t. t.top) o) ≡ true → holds_zero (option_map (λ t. t.top) p) ≡ true
    tops None p h f = absurd cc
    tops (Some t) None h f = absurd h
    tops (Some t) (Some u) h f = zero_rises (Some t.top) (Some u.top) h.top f
