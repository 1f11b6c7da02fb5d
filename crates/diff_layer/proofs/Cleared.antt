-- What both layers clear, where the first one does and where it doesn't.
use Rattle.std.proofs.Common.{◌≡◌, ℕ, Bool, true, false, ◌||◌, ◌&&◌, not, if◌then◌else◌, List, [], ◌∷◌, ℤ, pos, neg_ℤ, Option, Some, None, is_some, refl, sym, ap, subst, ◌∙◌, arith}
use Rattle.std.specs.Prelude.{int_le, int_lt}
use Rattle.std.specs.Option.{option_map, option_map_or}
use Rattle.std.specs.List.{list_any}
use Rattle.std.proofs.lemmas.Int.{ints}
use Rattle.std.proofs.Props.{props}
use Rattle.std.proofs.Math.Logic.{∥∥₁_elim}
use Rattle.dec_num.specs.declared.types.Mode.{Mode}
use Rattle.cob_data.specs.declared.extent.Extent.{Extent}
use Rattle.cob_data.specs.declared.layout.Sender.{Sender}
use Rattle.dec_num.specs.declared.types.Mode.TheVariants.{Trunc}
use Rattle.interval_domain.specs.declared.bounds.Interval.{Interval}
use Rattle.cob_tree.specs.declared.fault.Kind.{Kind}
use Rattle.cob_tree.specs.declared.fault.Kind.TheVariants as kind
use Rattle.cob_program.specs.declared.act.How.TheVariants as how
use Rattle.cob_program.specs.Sum.{Sum}
use Rattle.cob_program.specs.Values.{◌>>=◌, Root, root_of}
use Rattle.cob_program.specs.Act.{Act, Program}
use Rattle.cob_runs.specs.declared.action.Action.{Action}
use Rattle.cob_runs.specs.Contents.{form_at}
use Rattle.cob_runs.specs.Computing.{items_in}
use Rattle.cob_edge_parts.specs.Parts.{Amount, moved, computed, remaining, augmented, Part, read, unread, subscript, index, divide, store, bytes_in, guard, read_count, set_count, count_down, guard_count, has_phrase}
use Rattle.diff_bounds.specs.declared.form.lin.Lin.{Lin}
use Rattle.diff_bounds.specs.Upper.{upper_of}
use Rattle.sum_forms.specs.Constants.{range_form}
use Rattle.sum_forms.specs.SumForms.{sum_form}
use Rattle.sum_ranges.specs.declared.ranged.Ranged.{Ranged}
use Rattle.sum_ranges.specs.SumRanges.{sum_range}
use Rattle.transfer_ranges.specs.declared.amounts.Taken.{Taken}
use Rattle.transfer_ranges.specs.declared.amounts.Receiver.{Receiver}
use Rattle.transfer_ranges.specs.declared.amounts.AmountRange.{AmountRange}
use Rattle.transfer_ranges.specs.declared.amounts.AmountRange.TheVariants as range
use Rattle.transfer_ranges.specs.Operands.{alone, taken_from, whole_range}
use Rattle.transfer_ranges.specs.Stores.{operands, amount_range}
use Rattle.transfer_ranges.specs.Receivers.{receiver_of, counter}
use Rattle.transfer_ranges.specs.ResultRanges.{most, exceeds, amount_units, may_fail, near_range, lowered, count_may_fail}
use Rattle.transfer_ranges.specs.Working.{amount_from}
use Rattle.interval_domain.specs.Known.{Known}
use Rattle.cob_graph.specs.declared.homes.Home.TheVariants.{Item as of_item, Count as of_count}
use Rattle.cob_graph.specs.Homes.{homes_of}
use Rattle.cell_steps.specs.Cells.{units_of}
use Rattle.cell_steps.specs.Agreeing.{of_operands}
use Rattle.transfer_ranges.specs.EdgeOperands.{edge_amount, edge_operands, settled, amount_of}
use Rattle.cell_steps.specs.Seen.{Seen}
use Rattle.cell_steps.specs.Stores.{range_at, with_taken}
use Rattle.cell_steps.specs.Clearing.{is_misfit, has_quotient, all_fit_of, all_fit, all_count, clears_part}
use Rattle.cell_laws.specs.Sizes.{sends_small, IsSmallPart, IsSmallStore}
use Rattle.cell_layer.specs.Walks.{if_sent_small, with_taken_small, clears_small, CanStep}
use Rattle.cell_layer.proofs.SmallEdges.{all_is_taken}
use Rattle.cell_layer.proofs.Stepping.{taken_can, taken_written}
use Rattle.diff_steps.specs.Packs.{Pack, size_of, pack_decimals}
use Rattle.diff_steps.specs.Moments.{is_written}
use Rattle.diff_steps.specs.Forms.{amount_form, set_form, subscript_form, lowered_form, has_operands, kept_form, cell_at}
use Rattle.diff_steps.specs.Stores.{upper_negated}
use Rattle.diff_steps.specs.Clearing.{some_pack, high_fits, low_fits, ends_fit, high_found, low_found, high_shown, low_shown, is_apart_in, amounts_fit, store_fits, clears_part2}
use Rattle.diff_layer.proofs.AmountsAgree.{same_amount_form, same_set_form, same_operands, same_lowered_form}
use Rattle.diff_layer.specs.Ends.{part_form, shows_end}
use Rattle.diff_layer.specs.Clears.{range_shown, amount_shown, store_shown, count_shown, store_cleared, set_cleared, part_cleared}
use Rattle.diff_layer.specs.Parts.{IsStoreOf, IsOfEdge}
use Rattle.diff_layer.specs.Walks.{seen2}

-- ---- the first layer

module _ (p : Program) (a : Act) (x : Action) where
  pub small_clears : (y : Part) (s : Seen) (fault : Kind) → IsSmallPart p a x y → clears_small p a x y s fault ≡ clears_part p a x y s fault
  small_clears (read place) s kind.Class h = refl
  small_clears (read place) s kind.Size h = refl
  small_clears (read place) s kind.Zero h = refl
  small_clears (read place) s kind.Truncation h = refl
  small_clears (read place) s kind.Subscript h = refl
  small_clears unread s kind.Class h = refl
  small_clears unread s kind.Size h = refl
  small_clears unread s kind.Zero h = refl
  small_clears unread s kind.Truncation h = refl
  small_clears unread s kind.Subscript h = refl
  small_clears (subscript last k) s kind.Class h = refl
  small_clears (subscript last k) s kind.Size h = refl
  small_clears (subscript last k) s kind.Zero h = refl
  small_clears (subscript last k) s kind.Truncation h = refl
  small_clears (subscript last k) s kind.Subscript h = refl
  small_clears (index last k count) s kind.Class h = refl
  small_clears (index last k count) s kind.Size h = refl
  small_clears (index last k count) s kind.Zero h = refl
  small_clears (index last k count) s kind.Truncation h = refl
  small_clears (index last k count) s kind.Subscript h = refl
  small_clears (divide d) s kind.Class h = refl
  small_clears (divide d) s kind.Size h = refl
  small_clears (divide d) s kind.Zero h = refl
  small_clears (divide d) s kind.Truncation h = refl
  small_clears (divide d) s kind.Subscript h = refl
  small_clears (store place mode y) s fault h =
      ap (λ (t : Seen). has_phrase a || (not (is_misfit y fault) || all_fit p a x t place mode y)) (all_is_taken p a x h.sender s)
  small_clears (bytes_in offset count) s fault h = refl
  small_clears (guard t wanted) s fault h = refl
  small_clears (read_count n) s kind.Class h = refl
  small_clears (read_count n) s kind.Size h = refl
  small_clears (read_count n) s kind.Zero h = refl
  small_clears (read_count n) s kind.Truncation h = refl
  small_clears (read_count n) s kind.Subscript h = refl
  small_clears (set_count n y) s kind.Size h = ap (all_count p a x) (all_is_taken p a x h.1 s)
  small_clears (set_count n y) s kind.Class h = refl
  small_clears (set_count n y) s kind.Zero h = refl
  small_clears (set_count n y) s kind.Truncation h = refl
  small_clears (set_count n y) s kind.Subscript h = refl
  small_clears (count_down n) s kind.Size h = refl
  small_clears (count_down n) s kind.Class h = refl
  small_clears (count_down n) s kind.Zero h = refl
  small_clears (count_down n) s kind.Truncation h = refl
  small_clears (count_down n) s kind.Subscript h = refl
  small_clears (guard_count n wanted) s fault h = refl

-- ---- ends

both_too : (low high more_high more_low : Bool) → (low && high) ≡ true → ((high || more_high) && (low || more_low)) ≡ true
both_too true true h l e = refl
both_too true false h l e = absurd cc
both_too false high h l e = absurd cc

not_less : (x y : ℤ) → int_lt x y ≡ not (int_le y x)
not_less x y = grind (arith, ints)

neither : (a b : Bool) → not (not a || not b) ≡ (b && a)
neither true true = refl
neither true false = refl
neither false true = refl
neither false false = refl

held : (digits : ℕ) (i : Interval) → not (exceeds digits i) ≡ (int_le i.high (most digits) && int_le (neg_ℤ (most digits)) i.low)
held digits i =
    (λ k. not (not_less i.low (neg_ℤ (most digits)) k || not_less (most digits) i.high k)) ∙ neither (int_le (neg_ℤ (most digits)) i.low) (int_le i.high (most digits))

either_none : (a b h l : Bool) → h ≡ false → l ≡ false → ((a || h) && (b || l)) ≡ (a && b)
either_none true true h l e g = refl
either_none true false h l e g = g
either_none false b true l e g = absurd cc
either_none false b false l e g = refl

either_more : (a b h l : Bool) → (a && b) ≡ true → ((a || h) && (b || l)) ≡ true
either_more true true h l e = refl
either_more true false h l e = absurd cc
either_more false b h l e = absurd cc

some_same : (f g : Pack → List ℤ → Bool) → ((pack : Pack) (m : List ℤ) → f pack m ≡ g pack m) → (packs : List Pack) (ms : List (List ℤ)) → some_pack f packs ms ≡ some_pack g packs ms
some_same f g same [] ms = refl
some_same f g same (pack ∷ packs) [] = refl
some_same f g same (pack ∷ packs) (m ∷ ms) = λ i. same pack m i || some_same f g same packs ms i

some_none : (f : Pack → List ℤ → Bool) → ((pack : Pack) (m : List ℤ) → f pack m ≡ false) → (packs : List Pack) (ms : List (List ℤ)) → some_pack f packs ms ≡ false
some_none f none [] ms = refl
some_none f none (pack ∷ packs) [] = refl
some_none f none (pack ∷ packs) (m ∷ ms) = ap (λ b. b || some_pack f packs ms) (none pack m) ∙ some_none f none packs ms

module _ (p : Program) (packs : List Pack) (ms : List (List ℤ)) (form : Pack → Option Lin) (mode : Mode) (r : Receiver) where
  -- a range is shown by the ends of the forms of a part
  pub range_is : (known : List Known) (common : Option Taken) (wrote : List Extent) (y : Part) → ((pack : Pack) → part_form p known common wrote y pack ≡ form pack) → (i : Interval) →
      range_shown p known common wrote y mode r packs ms i ≡ ends_fit p packs ms form mode r i
  range_is known common wrote y same i =
      (λ k. (int_le i.high (most r.digits) || high k) && (int_le (neg_ℤ (most r.digits)) i.low || low k))
    where
      high : some_pack (shows_end p known common wrote y mode r false) packs ms ≡ high_shown p packs ms form mode r
      high = some_same (shows_end p known common wrote y mode r false) (λ pack m. high_fits mode r (pack_decimals p.layout pack) (form pack >>= upper_of (size_of pack) m))
          (λ pack m. ap (λ (f : Option Lin). high_fits mode r (pack_decimals p.layout pack) (f >>= upper_of (size_of pack) m)) (same pack)) packs ms

      low : some_pack (shows_end p known common wrote y mode r true) packs ms ≡ low_shown p packs ms form mode r
      low = some_same (shows_end p known common wrote y mode r true) (λ pack m. low_fits mode r (pack_decimals p.layout pack) (form pack >>= upper_negated (size_of pack) m))
          (λ pack m. ap (λ (f : Option Lin). low_fits mode r (pack_decimals p.layout pack) (f >>= upper_negated (size_of pack) m)) (same pack)) packs ms

  -- where there are no forms, the ends fit if the range does
  none_fit : ((pack : Pack) → form pack ≡ None) → (i : Interval) → ends_fit p packs ms form mode r i ≡ not (exceeds r.digits i)
  none_fit none i =
      either_none (int_le i.high (most r.digits)) (int_le (neg_ℤ (most r.digits)) i.low) (high_shown p packs ms form mode r) (low_shown p packs ms form mode r)
      (some_none _ (λ pack m. ap (λ (f : Option Lin). high_fits mode r (pack_decimals p.layout pack) (f >>= upper_of (size_of pack) m)) (none pack)) packs ms)
      (some_none _ (λ pack m. ap (λ (f : Option Lin). low_fits mode r (pack_decimals p.layout pack) (f >>= upper_negated (size_of pack) m)) (none pack)) packs ms)
      ∙ sym (held r.digits i)

  pub more_fit : (i : Interval) → not (exceeds r.digits i) ≡ true → ends_fit p packs ms form mode r i ≡ true
  more_fit i e =
      either_more (int_le i.high (most r.digits)) (int_le (neg_ℤ (most r.digits)) i.low) (high_shown p packs ms form mode r) (low_shown p packs ms form mode r) (sym (held r.digits i) ∙ e)

  abbrev fit_by : Option AmountRange → Bool
  fit_by q = option_map_or (ends_fit p packs ms form mode r) (q >>= amount_units mode r.scale) true

  abbrev fit_alone : Option AmountRange → Bool
  fit_alone q = option_map_or (λ m. not (may_fail mode r m)) q true

  amount_none : ((pack : Pack) → form pack ≡ None) → (q : Option AmountRange) → fit_by q ≡ fit_alone q
  amount_none none None = refl
  amount_none none (Some m) = by_units (amount_units mode r.scale m)
    where
      by_units : (u : Option Interval) → option_map_or (ends_fit p packs ms form mode r) u true ≡ not (option_map_or (exceeds r.digits) u false)
      by_units None = refl
      by_units (Some i) = none_fit none i

  amount_more : (q : Option AmountRange) → fit_alone q ≡ true → fit_by q ≡ true
  amount_more None e = refl
  amount_more (Some m) e = by_units (amount_units mode r.scale m) e
    where
      by_units : (u : Option Interval) → not (option_map_or (exceeds r.digits) u false) ≡ true → option_map_or (ends_fit p packs ms form mode r) u true ≡ true
      by_units None g = refl
      by_units (Some i) g = more_fit i g

-- ---- amounts that have no form

is_decimal : AmountRange → Bool
is_decimal (range.Decimal r) = true
is_decimal _ = false

decimal_if : Option AmountRange → Bool
decimal_if None = true
decimal_if (Some q) = is_decimal q

both_ways : {X : Type 0} (b : Bool) → b ≡ true → b ≡ false → X
both_ways b e g = absurd (let h = sym e ∙ g in cc)

-- what is divided and what divides are taken of a sum alone whose last operation is a division
root_from : (items : ℕ → Ranged) (s : Sum) (o : Option Root) (c : Taken) (u : Ranged) → taken_from items s o ≡ Some c → c.under ≡ Some u → is_some o ≡ true
root_from items s (Some r) c u e g = refl
root_from items s None c u e g = go (sum_range items s) e
  where
    under_of : Option Taken → Option Ranged
    under_of None = None
    under_of (Some d) = d.under

    go : (q : Option Ranged) → option_map alone q ≡ Some c → false ≡ true
    go None h = absurd cc
    go (Some r) h = absurd (let k = ap under_of h ∙ g in cc)

module _ (p : Program) (a : Act) (x : Action) (t : Seen) where
  -- a quotient that stays exact is that of the sum
  abbrev Rooted : Amount → Type 0
  Rooted (computed s how.Whole) = (c : Taken) (u : Ranged) → t.common ≡ Some c → c.under ≡ Some u → is_some (root_of s) ≡ true
  Rooted _ = Unit {0}

  sent_all : sends_small p a x ≡ true → (o : Option Taken) → if_sent_small p a x o ≡ o
  sent_all e o = go (sends_small p a x) e
    where
      go : (b : Bool) → b ≡ true → (if b then o else None) ≡ o
      go true f = refl
      go false f = absurd cc

  rooted : (y : Amount) → CanStep p a x t → t.written ≡ true → sends_small p a x ≡ true → IsStoreOf p a x y → Rooted y
  rooted (moved z) can w sent of_edge = tt
  rooted (computed s how.Whole) can w sent of_edge =
      λ c u e g. ∥∥₁_elim of_edge.operands (hlevel props) (λ same. root_from (can.taken w).range s (root_of s) c u (sym (its same) ∙ e) g)
    where
      its : edge_amount a x ≡ Some (of_operands (computed s how.Whole)) → t.common ≡ taken_from (can.taken w).range s (root_of s)
      its same = (can.taken w).same ∙ (sent_all sent (edge_operands (can.taken w).range a x) ∙ ap (λ (o : Option Amount). o >>= operands (can.taken w).range) same)
  rooted (computed s how.Plus) can w sent of_edge = tt
  rooted (computed s how.Minus) can w sent of_edge = tt
  rooted (computed s how.Times) can w sent of_edge = tt
  rooted (computed s how.Under) can w sent of_edge = tt
  rooted (remaining s scale) can w sent of_edge = tt
  rooted (augmented z) can w sent of_edge = tt

module _ (p : Program) (t : Seen) (wrote : List Extent) (place : ℕ) where
  abbrev own : Ranged
  own = range_at p t.cells place

  by_written : (b k : Bool) (f g : Option Lin) → f ≡ None → k ≡ true → (if b then f else (if true && k then None else g)) ≡ None
  by_written true k f g e h = e
  by_written false true f g e h = refl
  by_written false false f g e h = absurd cc

  whole_none : (s : Sum) (pack : Pack) (c : Taken) (u : Ranged) → t.common ≡ Some c → c.under ≡ Some u → is_some (root_of s) ≡ true → amount_form p pack t wrote place (computed s how.Whole) ≡ None
  whole_none s pack c u e g root =
      by_written (list_any (is_written p.layout wrote) (items_in s)) (is_some (root_of s)) (kept_form p pack t wrote t.common)
      (sum_form (pack_decimals p.layout pack) (cell_at p pack t wrote) (range_at p t.cells) s)
      (ap (kept_form p pack t wrote) e ∙ ap (λ (o : Option Ranged). if is_some o then None else range_form (pack_decimals p.layout pack) c.top) g) root

  -- what isn't a decimal has no form
  abbrev IsFormless : Amount → AmountRange → Type 0
  IsFormless y q = amount_from t.common y own ≡ Some q → is_decimal q ≡ false → (pack : Pack) → amount_form p pack t wrote place y ≡ None

  decimal_alone : (y : Amount) (q : AmountRange) → decimal_if (amount_from t.common y own) ≡ true → IsFormless y q
  unfolding decimal_if
  decimal_alone y q all e not_one pack = both_ways (is_decimal q) (sym (ap decimal_if e) ∙ all) not_one

  module _ (a : Act) (x : Action) where
    no_form : (y : Amount) (q : AmountRange) → Rooted p a x t y → IsFormless y q
    unfolding decimal_if is_decimal
    no_form (moved z) q root = decimal_alone (moved z) q (go t.common)
      where
        go : (o : Option Taken) → decimal_if (o >>= amount_of (moved z) own) ≡ true
        go None = refl
        go (Some c) = refl
    no_form (augmented z) q root = decimal_alone (augmented z) q (go t.common)
      where
        go : (o : Option Taken) → decimal_if (o >>= amount_of (augmented z) own) ≡ true
        go None = refl
        go (Some c) = refl
    no_form (remaining s scale) q root = λ e d pack. refl
    no_form (computed s how.Under) q root = λ e d pack. refl
    no_form (computed s how.Plus) q root = decimal_alone (computed s how.Plus) q (go t.common)
      where
        cut : (o : Option Taken) → decimal_if (o >>= λ d. amount_range (computed s how.Plus) own d) ≡ true
        cut None = refl
        cut (Some d) = refl

        go : (o : Option Taken) → decimal_if (o >>= amount_of (computed s how.Plus) own) ≡ true
        go None = refl
        go (Some c) = cut (settled c)
    no_form (computed s how.Minus) q root = decimal_alone (computed s how.Minus) q (go t.common)
      where
        cut : (o : Option Taken) → decimal_if (o >>= λ d. amount_range (computed s how.Minus) own d) ≡ true
        cut None = refl
        cut (Some d) = refl

        go : (o : Option Taken) → decimal_if (o >>= amount_of (computed s how.Minus) own) ≡ true
        go None = refl
        go (Some c) = cut (settled c)
    no_form (computed s how.Times) q root = decimal_alone (computed s how.Times) q (go t.common)
      where
        cut : (o : Option Taken) → decimal_if (o >>= λ d. amount_range (computed s how.Times) own d) ≡ true
        cut None = refl
        cut (Some d) = refl

        go : (o : Option Taken) → decimal_if (o >>= amount_of (computed s how.Times) own) ≡ true
        go None = refl
        go (Some c) = cut (settled c)
    no_form (computed s how.Whole) q root = λ e d pack. by_common t.common refl e d pack
      where
        by_under : (pack : Pack) (c : Taken) (v : Option Ranged) → t.common ≡ Some c → c.under ≡ v → Some (whole_range c.top c.under) ≡ Some q → is_decimal q ≡ false →
            amount_form p pack t wrote place (computed s how.Whole) ≡ None
        by_under pack c (Some u) g h e d = whole_none s pack c u g h (root c u g h)
        by_under pack c None g h e d =
            both_ways (is_decimal q) (sym (ap decimal_if e) ∙ ap (λ (o : Option Ranged). decimal_if (Some (whole_range c.top o))) h) d

        by_common : (o : Option Taken) → t.common ≡ o → (o >>= amount_of (computed s how.Whole) own) ≡ Some q → is_decimal q ≡ false → (pack : Pack) →
            amount_form p pack t wrote place (computed s how.Whole) ≡ None
        by_common None g e d pack = absurd cc
        by_common (Some c) g e d pack = by_under pack c c.under g refl e d

-- ---- stores

or_false : (b c : Bool) → (b || c) ≡ false → (b ≡ false) × (c ≡ false)
or_false true c e = absurd cc
or_false false c e = (refl, e)

or_more : (a b c d : Bool) → (c ≡ true → d ≡ true) → (a || (b || c)) ≡ true → (a || (b || d)) ≡ true
or_more true b c d more e = refl
or_more false true c d more e = refl
or_more false false c d more e = more e

module _ (p : Program) (packs : List Pack) (a : Act) (x : Action) (t : Seen) (wrote : List Extent) (ms : List (List ℤ)) (place : ℕ) (mode : Mode) where
  abbrev receives : Receiver
  receives = receiver_of (form_at p.layout place)

  abbrev found : Amount → Option AmountRange
  found y = amount_from t.common y (range_at p t.cells place)

  abbrev forms_of : Amount → Pack → Option Lin
  forms_of y pack = amount_form p pack t wrote place y

  abbrev by_forms : Amount → Option AmountRange → Bool
  by_forms y q = fit_by p packs ms (forms_of y) mode receives q

  amounts_as : (y : Amount) → option_map_or (amounts_fit p packs a x t (seen2 wrote ms) place mode y) t.common true ≡ by_forms y (found y)
  amounts_as y = go t.common
    where
      go : (o : Option Taken) → option_map_or (amounts_fit p packs a x t (seen2 wrote ms) place mode y) o true ≡ by_forms y (o >>= amount_of y (range_at p t.cells place))
      go None = refl
      go (Some c) = refl

  alone_as : (y : Amount) → option_map_or (all_fit_of p a x t place mode y) t.common true ≡ fit_alone p packs ms (forms_of y) mode receives (found y)
  alone_as y = go t.common
    where
      go : (o : Option Taken) → option_map_or (all_fit_of p a x t place mode y) o true ≡ fit_alone p packs ms (forms_of y) mode receives (o >>= amount_of y (range_at p t.cells place))
      go None = refl
      go (Some c) = refl

  amount_is : (y : Amount) → Rooted p a x t y → fit_alone p packs ms (forms_of y) mode receives (found y) ≡ false → (q : Option AmountRange) → found y ≡ q →
      amount_shown p t.cells t.common wrote (store place mode y) mode receives packs ms q ≡ by_forms y q
  unfolding is_decimal
  amount_is y root falls None e = refl
  amount_is y root falls (Some (range.Decimal i)) e =
      range_is p packs ms (forms_of y) mode receives t.cells t.common wrote (store place mode y) (λ pack. same_amount_form p pack t t.cells t.common wrote place y refl refl) (near_range mode receives.scale i)
  amount_is y root falls (Some (range.Quotient top under)) e =
      sym (amount_none p packs ms (forms_of y) mode receives (no_form p t wrote place a x y (range.Quotient top under) root e refl) (Some (range.Quotient top under))
      ∙ (ap (fit_alone p packs ms (forms_of y) mode receives) (sym e) ∙ falls))
  amount_is y root falls (Some (range.Remainder top under scale)) e =
      sym (amount_none p packs ms (forms_of y) mode receives (no_form p t wrote place a x y (range.Remainder top under scale) root e refl) (Some (range.Remainder top under scale))
      ∙ (ap (fit_alone p packs ms (forms_of y) mode receives) (sym e) ∙ falls))

  shown_is : (y : Amount) → Rooted p a x t y → option_map_or (all_fit_of p a x t place mode y) t.common true ≡ false →
      store_shown p t.cells t.common wrote place mode y packs ms
      ≡ (not (has_operands p t wrote y) || option_map_or (amounts_fit p packs a x t (seen2 wrote ms) place mode y) t.common true)
  shown_is y root falls =
      λ i. not (same_operands p [] t t.cells t.common wrote y refl i)
      || (amount_is y root (sym (alone_as y) ∙ falls) (found y) refl ∙ sym (amounts_as y)) i

  abbrev cleared_at : Amount → Bool
  cleared_at (remaining s scale) = false
  cleared_at y = store_shown p t.cells t.common wrote place mode y packs ms

  store_is : (y : Amount) → Rooted p a x t y → all_fit p a x t place mode y ≡ false → cleared_at y ≡ store_fits p packs a x t (seen2 wrote ms) place mode y
  store_is (moved z) root e = shown_is (moved z) root e
  store_is (computed s h) root e = shown_is (computed s h) root e
  store_is (remaining s scale) root e =
      sym (ap (λ b. is_some (root_of s) && (not true || b))
      (amounts_as (remaining s scale) ∙ (amount_none p packs ms (forms_of (remaining s scale)) mode receives (λ pack. refl) (found (remaining s scale)) ∙ sym (alone_as (remaining s scale)))) ∙ e)
  store_is (augmented z) root e = shown_is (augmented z) root e

  store_too : (y : Amount) → all_fit p a x t place mode y ≡ true → store_fits p packs a x t (seen2 wrote ms) place mode y ≡ true
  store_too y e =
      go (has_quotient y) (not (has_operands p t wrote y)) (option_map_or (all_fit_of p a x t place mode y) t.common true) (option_map_or (amounts_fit p packs a x t (seen2 wrote ms) place mode y) t.common true)
      (λ f. amounts_as y ∙ amount_more p packs ms (forms_of y) mode receives (found y) (sym (alone_as y) ∙ f)) e
    where
      last : (n o : Bool) → o ≡ true → (n || o) ≡ true
      last true o f = refl
      last false o f = f

      go : (h n c o : Bool) → (c ≡ true → o ≡ true) → (h && c) ≡ true → (h && (n || o)) ≡ true
      go true n c o more f = last n o (more f)
      go false n c o more f = absurd cc

-- ---- parts

module _ (p : Program) (packs : List Pack) (a : Act) (x : Action) (s : Seen) (wrote : List Extent) (ms : List (List ℤ)) where
  abbrev moment : Seen
  moment = with_taken p a x s

  as_taken : (place : ℕ) (mode : Mode) (y : Amount) → with_taken_small p a x s ≡ moment → store_cleared p packs a x place mode y s (seen2 wrote ms) ≡ cleared_at p packs a x moment wrote ms place mode y
  as_taken place mode (moved z) e = ap (λ (t : Seen). store_shown p t.cells t.common wrote place mode (moved z) packs ms) e
  as_taken place mode (computed u h) e = ap (λ (t : Seen). store_shown p t.cells t.common wrote place mode (computed u h) packs ms) e
  as_taken place mode (remaining u scale) e = refl
  as_taken place mode (augmented z) e = ap (λ (t : Seen). store_shown p t.cells t.common wrote place mode (augmented z) packs ms) e

  store_cleared_is : (place : ℕ) (mode : Mode) (y : Amount) (fault : Kind) → IsSmallStore p a x place y → IsStoreOf p a x y → CanStep p a x s → clears_part p a x (store place mode y) s fault ≡ false →
      store_cleared p packs a x place mode y s (seen2 wrote ms) ≡ clears_part2 p packs a x (store place mode y) s (seen2 wrote ms) fault
  store_cleared_is place mode y fault small of_edge can e =
      let same = all_is_taken p a x small.sender s in
      let one = or_false (has_phrase a) _ e in
      let two = or_false (not (is_misfit y fault)) _ one.1 in
      let can_there = subst (CanStep p a x) same (taken_can p a x s can) in
      let written = subst (λ (t : Seen). t.written ≡ true) same (taken_written p a x s) in
      as_taken place mode y same
      ∙ (store_is p packs a x moment wrote ms place mode y (rooted p a x moment y can_there written small.sender of_edge) two.1
      ∙ sym (λ i. one.0 i || (two.0 i || store_fits p packs a x moment (seen2 wrote ms) place mode y)))

  set_is : (n : ℕ) (z : Sender) → with_taken_small p a x s ≡ moment →
      set_cleared p packs a x (set_count n z) s (seen2 wrote ms) ≡ clears_part2 p packs a x (set_count n z) s (seen2 wrote ms) kind.Size
  set_is n z e =
      ap (λ (t : Seen). count_shown p t.cells t.common wrote (set_count n z) packs ms) e ∙ go moment.common
    where
      go : (o : Option Taken) → option_map_or (λ c. range_shown p moment.cells moment.common wrote (set_count n z) Trunc counter packs ms c.top.units) o true
          ≡ option_map_or (λ c. ends_fit p packs ms (λ pack. set_form p pack moment wrote z) Trunc counter c.top.units) o true
      go None = refl
      go (Some c) =
          range_is p packs ms (λ pack. set_form p pack moment wrote z) Trunc counter moment.cells moment.common wrote (set_count n z) (λ pack. same_set_form p pack moment moment.cells moment.common wrote z refl) c.top.units

  pub part_cleared_is : (y : Part) (fault : Kind) → IsSmallPart p a x y → IsOfEdge p a x y → CanStep p a x s → clears_part p a x y s fault ≡ false →
      part_cleared p packs a x y s (seen2 wrote ms) fault ≡ clears_part2 p packs a x y s (seen2 wrote ms) fault
  part_cleared_is (read place) kind.Class small of_edge can e = sym e
  part_cleared_is (read place) kind.Size small of_edge can e = absurd cc
  part_cleared_is (read place) kind.Zero small of_edge can e = absurd cc
  part_cleared_is (read place) kind.Truncation small of_edge can e = absurd cc
  part_cleared_is (read place) kind.Subscript small of_edge can e = absurd cc
  part_cleared_is unread kind.Class small of_edge can e = refl
  part_cleared_is unread kind.Size small of_edge can e = absurd cc
  part_cleared_is unread kind.Zero small of_edge can e = absurd cc
  part_cleared_is unread kind.Truncation small of_edge can e = absurd cc
  part_cleared_is unread kind.Subscript small of_edge can e = absurd cc
  part_cleared_is (subscript last k) kind.Class small of_edge can e = sym e
  part_cleared_is (subscript last k) kind.Size small of_edge can e = absurd cc
  part_cleared_is (subscript last k) kind.Zero small of_edge can e = absurd cc
  part_cleared_is (subscript last k) kind.Truncation small of_edge can e = absurd cc
  part_cleared_is (subscript last k) kind.Subscript small of_edge can e = absurd cc
  part_cleared_is (index last k count) kind.Class small of_edge can e = absurd cc
  part_cleared_is (index last k count) kind.Size small of_edge can e = absurd cc
  part_cleared_is (index last k count) kind.Zero small of_edge can e = absurd cc
  part_cleared_is (index last k count) kind.Truncation small of_edge can e = absurd cc
  part_cleared_is (index last k count) kind.Subscript small of_edge can e = refl
  part_cleared_is (divide d) kind.Zero small of_edge can e = sym (ap (λ b. b || some_pack (is_apart_in p s d) packs ms) e)
  part_cleared_is (divide d) kind.Class small of_edge can e = absurd cc
  part_cleared_is (divide d) kind.Size small of_edge can e = absurd cc
  part_cleared_is (divide d) kind.Truncation small of_edge can e = absurd cc
  part_cleared_is (divide d) kind.Subscript small of_edge can e = absurd cc
  part_cleared_is (store place mode y) fault small of_edge can e = store_cleared_is place mode y fault small of_edge can e
  part_cleared_is (bytes_in offset count) fault small of_edge can e = absurd cc
  part_cleared_is (guard t wanted) fault small of_edge can e = absurd cc
  part_cleared_is (read_count n) kind.Class small of_edge can e = sym e
  part_cleared_is (read_count n) kind.Size small of_edge can e = absurd cc
  part_cleared_is (read_count n) kind.Zero small of_edge can e = absurd cc
  part_cleared_is (read_count n) kind.Truncation small of_edge can e = absurd cc
  part_cleared_is (read_count n) kind.Subscript small of_edge can e = absurd cc
  part_cleared_is (set_count n z) kind.Size small of_edge can e = set_is n z (all_is_taken p a x small.1 s)
  part_cleared_is (set_count n z) kind.Class small of_edge can e = absurd cc
  part_cleared_is (set_count n z) kind.Zero small of_edge can e = absurd cc
  part_cleared_is (set_count n z) kind.Truncation small of_edge can e = absurd cc
  part_cleared_is (set_count n z) kind.Subscript small of_edge can e = absurd cc
  part_cleared_is (count_down n) kind.Size small of_edge can e =
      range_is p packs ms (λ pack. lowered_form p pack s wrote n) Trunc counter s.cells s.common wrote (count_down n) (λ pack. same_lowered_form p pack s s.cells s.common wrote n refl)
      (lowered (units_of p.layout (homes_of p) s.cells (of_count n)))
  part_cleared_is (count_down n) kind.Class small of_edge can e = absurd cc
  part_cleared_is (count_down n) kind.Zero small of_edge can e = absurd cc
  part_cleared_is (count_down n) kind.Truncation small of_edge can e = absurd cc
  part_cleared_is (count_down n) kind.Subscript small of_edge can e = absurd cc
  part_cleared_is (guard_count n wanted) fault small of_edge can e = absurd cc

  -- both layers clear what the first layer clears
  pub cleared_too : (y : Part) (fault : Kind) → clears_part p a x y s fault ≡ true → clears_part2 p packs a x y s (seen2 wrote ms) fault ≡ true
  cleared_too (read place) kind.Class e = e
  cleared_too (read place) kind.Size e = refl
  cleared_too (read place) kind.Zero e = refl
  cleared_too (read place) kind.Truncation e = refl
  cleared_too (read place) kind.Subscript e = refl
  cleared_too unread kind.Class e = absurd cc
  cleared_too unread kind.Size e = refl
  cleared_too unread kind.Zero e = refl
  cleared_too unread kind.Truncation e = refl
  cleared_too unread kind.Subscript e = refl
  cleared_too (subscript last k) kind.Class e = e
  cleared_too (subscript last k) kind.Size e = refl
  cleared_too (subscript last k) kind.Zero e = refl
  cleared_too (subscript last k) kind.Truncation e = refl
  cleared_too (subscript last k) kind.Subscript e = refl
  cleared_too (index last k count) kind.Class e = refl
  cleared_too (index last k count) kind.Size e = refl
  cleared_too (index last k count) kind.Zero e = refl
  cleared_too (index last k count) kind.Truncation e = refl
  cleared_too (index last k count) kind.Subscript e =
      let i = units_of p.layout (homes_of p) s.cells (of_item k) in
      both_too (int_le (pos 1) i.low) (int_le i.high (pos count)) (high_found p packs ms (λ pack. subscript_form p pack s [] k) count)
      (low_found p packs ms (λ pack. subscript_form p pack s [] k)) e
  cleared_too (divide d) kind.Zero e = ap (λ b. b || some_pack (is_apart_in p s d) packs ms) e
  cleared_too (divide d) kind.Class e = refl
  cleared_too (divide d) kind.Size e = refl
  cleared_too (divide d) kind.Truncation e = refl
  cleared_too (divide d) kind.Subscript e = refl
  cleared_too (store place mode y) fault e =
      or_more (has_phrase a) (not (is_misfit y fault)) (all_fit p a x moment place mode y) (store_fits p packs a x moment (seen2 wrote ms) place mode y)
      (store_too p packs a x moment wrote ms place mode y) e
  cleared_too (bytes_in offset count) fault e = refl
  cleared_too (guard t wanted) fault e = refl
  cleared_too (read_count n) kind.Class e = e
  cleared_too (read_count n) kind.Size e = refl
  cleared_too (read_count n) kind.Zero e = refl
  cleared_too (read_count n) kind.Truncation e = refl
  cleared_too (read_count n) kind.Subscript e = refl
  cleared_too (set_count n z) kind.Size e = go moment.common e
    where
      go : (o : Option Taken) → option_map_or (λ c. not (count_may_fail c.top.units)) o true ≡ true → option_map_or (λ c. ends_fit p packs ms (λ pack. set_form p pack moment wrote z) Trunc counter c.top.units) o true ≡ true
      go None f = refl
      go (Some c) f = more_fit p packs ms (λ pack. set_form p pack moment wrote z) Trunc counter c.top.units f
  cleared_too (set_count n z) kind.Class e = refl
  cleared_too (set_count n z) kind.Zero e = refl
  cleared_too (set_count n z) kind.Truncation e = refl
  cleared_too (set_count n z) kind.Subscript e = refl
  cleared_too (count_down n) kind.Size e =
      more_fit p packs ms (λ pack. lowered_form p pack s wrote n) Trunc counter (lowered (units_of p.layout (homes_of p) s.cells (of_count n))) e
  cleared_too (count_down n) kind.Class e = refl
  cleared_too (count_down n) kind.Zero e = refl
  cleared_too (count_down n) kind.Truncation e = refl
  cleared_too (count_down n) kind.Subscript e = refl
  cleared_too (guard_count n wanted) fault e = refl
