-- What both layers clear at a part where more is seen they clear where less is.
use Rattle.std.proofs.Common.{◌≡◌, ℕ, ◌+◌, ◌*◌, ◌^◌, Bool, true, false, ◌&&◌, ◌||◌, not, inl, inr, List, [], ◌∷◌, ℤ, pos, neg_ℤ, ◌≤ℤ◌, Option, Some, None, refl, ap, subst, ◌∙◌, arith}
use Rattle.std.specs.Prelude.{int_le, int_lt}
use Rattle.std.specs.Option.{option_map_or}
use Rattle.std.proofs.lemmas.Int.{ints}
use Rattle.std.proofs.lemmas.Bool.{and_parts, false≢true}
use Rattle.dec_num.specs.declared.types.Mode.{Mode}
use Rattle.dec_num.specs.declared.types.Mode.TheVariants.{Trunc}
use Rattle.interval_domain.specs.declared.bounds.Interval.{Interval}
use Rattle.cob_tree.specs.declared.fault.Kind.{Kind}
use Rattle.cob_tree.specs.declared.fault.Kind.TheVariants as kind
use Rattle.cob_data.specs.declared.extent.Extent.{Extent}
use Rattle.cob_data.specs.declared.layout.Sender.{Sender}
use Rattle.cob_program.specs.Sum.{Atom}
use Rattle.cob_program.specs.Values.{◌>>=◌}
use Rattle.cob_program.specs.Act.{Act, Program}
use Rattle.cob_runs.specs.declared.action.Action.{Action}
use Rattle.cob_runs.specs.Contents.{form_at}
use Rattle.cob_edge_parts.specs.Parts.{Amount, Part, read, unread, subscript, index, divide, store, bytes_in, guard, read_count, set_count, count_down, guard_count, has_phrase}
use Rattle.diff_bounds.specs.declared.form.lin.Lin.{Lin}
use Rattle.diff_bounds.specs.Matrix.{word}
use Rattle.diff_bounds.specs.Numbers.{IsUnder}
use Rattle.diff_bounds.specs.Upper.{upper_of}
use Rattle.diff_bounds.specs.Values.{AreLower}
use Rattle.sum_ranges.specs.declared.ranged.Ranged.{Ranged}
use Rattle.sum_ranges.specs.SumRanges.{atom_range}
use Rattle.sum_ranges.specs.Vanishing.{holds_zero}
use Rattle.sum_forms.specs.SumForms.{atom_form}
use Rattle.sum_forms.specs.Values.{IsNarrowerIfAny}
use Rattle.transfer_ranges.specs.declared.amounts.Receiver.{Receiver}
use Rattle.transfer_ranges.specs.declared.amounts.Taken.{Taken}
use Rattle.transfer_ranges.specs.declared.amounts.AmountRange.{AmountRange}
use Rattle.transfer_ranges.specs.Receivers.{receiver_of, counter}
use Rattle.transfer_ranges.specs.Amounts.{IsNarrowerTaken, IsNarrowerTakenIfAny}
use Rattle.transfer_ranges.specs.Results.{IsInside, IsInsideIfAny}
use Rattle.transfer_ranges.specs.ResultRanges.{amount_units, most, lowered}
use Rattle.transfer_ranges.proofs.Narrower.{units_inside}
use Rattle.transfer_ranges.proofs.Rounding.{near_grows}
use Rattle.cob_graph.specs.declared.homes.Home.TheVariants.{Item as of_item, Count as of_count}
use Rattle.cob_graph.specs.Homes.{homes_of}
use Rattle.cell_steps.specs.Cells.{units_of}
use Rattle.transfer_ranges.specs.EdgeOperands.{amount_of}
use Rattle.cell_steps.specs.Seen.{Seen}
use Rattle.cell_steps.specs.Stores.{range_at, with_taken}
use Rattle.cell_steps.specs.Clearing.{is_misfit, has_quotient, clears_part}
use Rattle.cell_steps.specs.Order.{SeenBelow}
use Rattle.cell_laws.proofs.ItemRanges.{units_below, range_below}
use Rattle.cell_laws.proofs.OperandsRise.{or_rises, or_right, and_rises, AmountBelowIf, amount_below}
use Rattle.cell_laws.proofs.PartsRise.{taken_rises}
use Rattle.cell_laws.proofs.ClearsFall.{clears_below}
use Rattle.cell_laws.proofs.ResultLawsHold.{rising}
use Rattle.diff_steps.specs.Packs.{Pack, size_of, pack_decimals}
use Rattle.diff_steps.specs.Moments.{Seen2}
use Rattle.diff_steps.specs.Forms.{cell_at, amount_form, set_form, subscript_form, lowered_form, has_operands}
use Rattle.diff_steps.specs.Stores.{upper_negated}
use Rattle.diff_steps.specs.Clearing.{some_pack, high_fits, low_fits, high_shown, low_shown, ends_fit, is_at_most, high_in_table, low_in_table, high_found, low_found, ends_in_table, is_negative, is_apart_in, amounts_fit, store_fits, clears_part2}
use Rattle.pack_laws.specs.Agreeing.{AreMatrices}
use Rattle.pack_laws.specs.EdgeLaws.{AreLowerEach}
use Rattle.pack_laws.proofs.PacksPutRise.{matrix_is_flat, lower_of, negated_falls}
use Rattle.pack_laws.proofs.SignsRise.{upper_lower_if, upper_negated_lower_if}
use Rattle.pack_laws.proofs.PacksStoresRise.{operands_rise}
use Rattle.pack_laws.proofs.FormsRise.{are_taken, divisor_narrower, lowered_narrower, subscript_narrower, set_narrower, amount_narrower}

-- ---- tests of numbers

below_falls : (x y z : ℤ) → x ≤ℤ y → int_le y z ≡ true → int_le x z ≡ true
below_falls x y z h e = grind (arith, h, e)

above_falls : (x y z : ℤ) → y ≤ℤ x → int_le z y ≡ true → int_le z x ≡ true
above_falls x y z h e = grind (arith, h, e)

less_falls : (x y z : ℤ) → x ≤ℤ y → int_lt y z ≡ true → int_lt x z ≡ true
less_falls x y z h e = grind (arith, h, e)

both_rise : (b c d e : Bool) → (b ≡ true → d ≡ true) → (c ≡ true → e ≡ true) → (b && c) ≡ true → (d && e) ≡ true
both_rise b c d e f g h =
    let two = and_parts b c h in
    rw (f two.0) (g two.1)

second_of : (b c : Bool) → b ≡ true → (not b || c) ≡ true → c ≡ true
second_of true c e f = f
second_of false c e f = absurd (false≢true e)

-- ---- bounds

high_falls : (mode : Mode) (r : Receiver) (f : ℕ) (o q : Option ℤ) → IsUnder o q → high_fits mode r f q ≡ true → high_fits mode r f o ≡ true
high_falls mode r f o None n e = absurd cc
high_falls mode r f None (Some v) n e = absurd n
high_falls mode r f (Some u) (Some v) n e = below_falls _ _ (most r.digits) (near_grows mode r.scale f u v n) e

low_falls : (mode : Mode) (r : Receiver) (f : ℕ) (o q : Option ℤ) → IsUnder o q → low_fits mode r f q ≡ true → low_fits mode r f o ≡ true
low_falls mode r f o None n e = absurd cc
low_falls mode r f None (Some v) n e = absurd n
low_falls mode r f (Some u) (Some v) n e = above_falls _ _ (neg_ℤ (most r.digits)) (near_grows mode r.scale f (neg_ℤ v) (neg_ℤ u) (negated_falls u v n)) e

at_most_falls : (most : ℤ) (o q : Option ℤ) → IsUnder o q → is_at_most most q ≡ true → is_at_most most o ≡ true
at_most_falls most o None n e = absurd cc
at_most_falls most None (Some v) n e = absurd n
at_most_falls most (Some u) (Some v) n e = below_falls u v most n e

negative_falls : (o q : Option ℤ) → IsUnder o q → is_negative q ≡ true → is_negative o ≡ true
negative_falls o None n e = absurd cc
negative_falls None (Some v) n e = absurd n
negative_falls (Some u) (Some v) n e = less_falls u v (pos 0) n e

-- ---- some pack shows it

-- words that are no higher
abbrev IsLower : Pack → List ℤ → List ℤ → Type 0
IsLower pack m t = AreLower (size_of pack + 1) (word (size_of pack + 1) m) (word (size_of pack + 1) t)

some_falls : (shows more : Pack → List ℤ → Bool) → ((pack : Pack) (m t : List ℤ) → IsLower pack m t → more pack t ≡ true → shows pack m ≡ true)
    → (packs : List Pack) (ms ts : List (List ℤ)) → AreMatrices packs ms → AreMatrices packs ts → AreLowerEach packs ms ts → some_pack more packs ts ≡ true → some_pack shows packs ms ≡ true
some_falls shows more falls [] ms ts are is lower e = absurd (false≢true e)
some_falls shows more falls (pack ∷ packs) [] ts are is lower e = absurd are
some_falls shows more falls (pack ∷ packs) (m ∷ ms) [] are is lower e = absurd is
some_falls shows more falls (pack ∷ packs) (m ∷ ms) (t ∷ ts) are is lower e =
    or_rises (more pack t) (some_pack more packs ts) (shows pack m) (some_pack shows packs ms)
    (falls pack m t (lower_of (size_of pack) m t (matrix_is_flat (size_of pack) m are.0.1) (matrix_is_flat (size_of pack) t is.0.1) lower.0))
    (some_falls shows more falls packs ms ts are.1 is.1 lower.1) e

-- ---- what is seen of packs

-- the edge has written to the same bytes, and no word is higher
pub record PacksBelow (packs : List Pack) (r q : Seen2) : Type 0 where
  pub wrote : r.wrote ≡ q.wrote
  pub low : AreMatrices packs r.packs
  pub high : AreMatrices packs q.packs
  pub lower : AreLowerEach packs r.packs q.packs

module _ (p : Program) (packs : List Pack) (r q : Seen2) (under : PacksBelow packs r q) where
  ends_fall : (form more : Pack → Option Lin) → ((pack : Pack) → IsNarrowerIfAny (form pack) (more pack)) → (mode : Mode) (k : Receiver) (i j : Interval) → IsInside i j
      → ends_fit p packs q.packs more mode k j ≡ true → ends_fit p packs r.packs form mode k i ≡ true
  ends_fall form more narrower mode k i j inside =
      both_rise (int_le j.high (most k.digits) || high_shown p packs q.packs more mode k) (int_le (neg_ℤ (most k.digits)) j.low || low_shown p packs q.packs more mode k)
      (int_le i.high (most k.digits) || high_shown p packs r.packs form mode k) (int_le (neg_ℤ (most k.digits)) i.low || low_shown p packs r.packs form mode k)
      (or_rises (int_le j.high (most k.digits)) (high_shown p packs q.packs more mode k) (int_le i.high (most k.digits)) (high_shown p packs r.packs form mode k)
      (below_falls i.high j.high (most k.digits) inside.1)
      (some_falls (λ pack m. high_fits mode k (pack_decimals p.layout pack) (form pack >>= upper_of (size_of pack) m)) (λ pack m. high_fits mode k (pack_decimals p.layout pack) (more pack >>= upper_of (size_of pack) m))
      (λ pack m t lower. high_falls mode k (pack_decimals p.layout pack) (form pack >>= upper_of (size_of pack) m) (more pack >>= upper_of (size_of pack) t) (upper_lower_if (size_of pack) m t lower (form pack) (more pack) (narrower pack)))
      packs r.packs q.packs under.low under.high under.lower))
      (or_rises (int_le (neg_ℤ (most k.digits)) j.low) (low_shown p packs q.packs more mode k) (int_le (neg_ℤ (most k.digits)) i.low) (low_shown p packs r.packs form mode k)
      (above_falls i.low j.low (neg_ℤ (most k.digits)) inside.0)
      (some_falls (λ pack m. low_fits mode k (pack_decimals p.layout pack) (form pack >>= upper_negated (size_of pack) m)) (λ pack m. low_fits mode k (pack_decimals p.layout pack) (more pack >>= upper_negated (size_of pack) m))
      (λ pack m t lower. low_falls mode k (pack_decimals p.layout pack) (form pack >>= upper_negated (size_of pack) m) (more pack >>= upper_negated (size_of pack) t) (upper_negated_lower_if (size_of pack) m t lower (form pack) (more pack) (narrower pack)))
      packs r.packs q.packs under.low under.high under.lower))

  table_ends_fall : (form more : Pack → Option Lin) → ((pack : Pack) → IsNarrowerIfAny (form pack) (more pack)) → (count : ℕ) (i j : Interval) → IsInside i j
      → ends_in_table p packs q.packs more count j ≡ true → ends_in_table p packs r.packs form count i ≡ true
  table_ends_fall form more narrower count i j inside =
      both_rise (int_le j.high (pos count) || high_found p packs q.packs more count) (int_le (pos 1) j.low || low_found p packs q.packs more)
      (int_le i.high (pos count) || high_found p packs r.packs form count) (int_le (pos 1) i.low || low_found p packs r.packs form)
      (or_rises (int_le j.high (pos count)) (high_found p packs q.packs more count) (int_le i.high (pos count)) (high_found p packs r.packs form count)
      (below_falls i.high j.high (pos count) inside.1)
      (some_falls (λ pack m. high_in_table count (pack_decimals p.layout pack) (form pack >>= upper_of (size_of pack) m)) (λ pack m. high_in_table count (pack_decimals p.layout pack) (more pack >>= upper_of (size_of pack) m))
      (λ pack m t lower. at_most_falls (pos (count * 10 ^ pack_decimals p.layout pack)) (form pack >>= upper_of (size_of pack) m) (more pack >>= upper_of (size_of pack) t) (upper_lower_if (size_of pack) m t lower (form pack) (more pack) (narrower pack)))
      packs r.packs q.packs under.low under.high under.lower))
      (or_rises (int_le (pos 1) j.low) (low_found p packs q.packs more) (int_le (pos 1) i.low) (low_found p packs r.packs form)
      (above_falls i.low j.low (pos 1) inside.0)
      (some_falls (λ pack m. low_in_table (pack_decimals p.layout pack) (form pack >>= upper_negated (size_of pack) m)) (λ pack m. low_in_table (pack_decimals p.layout pack) (more pack >>= upper_negated (size_of pack) m))
      (λ pack m t lower. at_most_falls (neg_ℤ (pos (10 ^ pack_decimals p.layout pack))) (form pack >>= upper_negated (size_of pack) m) (more pack >>= upper_negated (size_of pack) t) (upper_negated_lower_if (size_of pack) m t lower (form pack) (more pack) (narrower pack)))
      packs r.packs q.packs under.low under.high under.lower))

  module _ (a : Act) (x : Action) where
    -- ---- stores, where operands are taken

    module _ (s t : Seen) (below : SeenBelow p a x s t) where
      -- a form that may speak of what the edge has written to
      along_wrote : (form : List Extent → Option Lin) (o : Option Lin) → IsNarrowerIfAny o (form r.wrote) → IsNarrowerIfAny o (form q.wrote)
      along_wrote form o n = subst (λ (wrote : List Extent). IsNarrowerIfAny o (form wrote)) under.wrote n

      module _ (place : ℕ) (mode : Mode) (y : Amount) where
        abbrev its_receiver : Receiver
        its_receiver = receiver_of (form_at p.layout place)

        amounts_fall : has_operands p s r.wrote y ≡ true → (c d : Taken) → s.common ≡ Some c → IsNarrowerTaken c d → amounts_fit p packs a x t q place mode y d ≡ true → amounts_fit p packs a x s r place mode y c ≡ true
        amounts_fall has c d e n =
            by_amounts (amount_of y (range_at p s.cells place) c) (amount_of y (range_at p t.cells place) d) refl
            (amount_below rising y (range_at p s.cells place) (range_at p t.cells place) c d (range_below p.layout (homes_of p) s.cells t.cells below.fits below.cells place) n)
          where
            form : Pack → Option Lin
            form pack = amount_form p pack s r.wrote place y

            more : Pack → Option Lin
            more pack = amount_form p pack t q.wrote place y

            by_units : (o u : Option Interval) → IsInsideIfAny o u → ((pack : Pack) → IsNarrowerIfAny (form pack) (more pack))
                → option_map_or (ends_fit p packs q.packs more mode its_receiver) u true ≡ true → option_map_or (ends_fit p packs r.packs form mode its_receiver) o true ≡ true
            by_units None u k narrower f = refl
            by_units (Some i) None k narrower f = absurd k
            by_units (Some i) (Some j) k narrower f = ends_fall form more narrower mode its_receiver i j k f

            by_amounts : (o u : Option AmountRange) → amount_of y (range_at p s.cells place) c ≡ o → AmountBelowIf c.under o u
                → option_map_or (ends_fit p packs q.packs more mode its_receiver) (u >>= amount_units mode its_receiver.scale) true ≡ true
                → option_map_or (ends_fit p packs r.packs form mode its_receiver) (o >>= amount_units mode its_receiver.scale) true ≡ true
            by_amounts None u g k f = refl
            by_amounts (Some v) None g (inl k) f = absurd k
            by_amounts (Some v) None g (inr k) f = absurd (let e = k.0 in cc)
            by_amounts (Some v) (Some w) g (inr k) f = absurd (let e = k.0 in cc)
            by_amounts (Some v) (Some w) g (inl k) f =
                by_units (amount_units mode its_receiver.scale v) (amount_units mode its_receiver.scale w) (units_inside mode its_receiver.scale v w k)
                (λ pack. along_wrote (λ wrote. amount_form p pack t wrote place y) (form pack)
                (amount_narrower p a x pack s t below r.wrote place y v (ap (λ (o : Option Taken). o >>= amount_of y (range_at p s.cells place)) e ∙ g) has)) f

        store_falls : store_fits p packs a x t q place mode y ≡ true → store_fits p packs a x s r place mode y ≡ true
        store_falls =
            and_rises (has_quotient y) (not (has_operands p t q.wrote y) || option_map_or (amounts_fit p packs a x t q place mode y) t.common true) (not (has_operands p s r.wrote y) || option_map_or (amounts_fit p packs a x s r place mode y) s.common true)
            (λ quotient. by_operands (has_operands p s r.wrote y) refl)
          where
            by_common : has_operands p s r.wrote y ≡ true → (o u : Option Taken) → s.common ≡ o → IsNarrowerTakenIfAny o u
                → option_map_or (amounts_fit p packs a x t q place mode y) u true ≡ true → option_map_or (amounts_fit p packs a x s r place mode y) o true ≡ true
            by_common has None u e n f = refl
            by_common has (Some c) None e n f = absurd n
            by_common has (Some c) (Some d) e n f = amounts_fall has c d e n f

            above : has_operands p s r.wrote y ≡ true → has_operands p t q.wrote y ≡ true
            above has = subst (λ (wrote : List Extent). has_operands p t wrote y ≡ true) under.wrote (operands_rise p a x s t below r.wrote y has)

            by_operands : (b : Bool) → has_operands p s r.wrote y ≡ b → (not (has_operands p t q.wrote y) || option_map_or (amounts_fit p packs a x t q place mode y) t.common true) ≡ true
                → (not b || option_map_or (amounts_fit p packs a x s r place mode y) s.common true) ≡ true
            by_operands false e f = refl
            by_operands true e f = by_common e s.common t.common refl below.common (second_of (has_operands p t q.wrote y) (option_map_or (amounts_fit p packs a x t q place mode y) t.common true) (above e) f)

      -- ---- counters

      sent_falls : (form more : Pack → Option Lin) → ((c : Taken) → s.common ≡ Some c → (pack : Pack) → IsNarrowerIfAny (form pack) (more pack))
          → option_map_or (λ c. ends_fit p packs q.packs more Trunc counter c.top.units) t.common true ≡ true → option_map_or (λ c. ends_fit p packs r.packs form Trunc counter c.top.units) s.common true ≡ true
      sent_falls form more narrower = by_common s.common t.common refl below.common
        where
          by_common : (o u : Option Taken) → s.common ≡ o → IsNarrowerTakenIfAny o u
              → option_map_or (λ c. ends_fit p packs q.packs more Trunc counter c.top.units) u true ≡ true → option_map_or (λ c. ends_fit p packs r.packs form Trunc counter c.top.units) o true ≡ true
          by_common None u e n f = refl
          by_common (Some c) None e n f = absurd n
          by_common (Some c) (Some d) e n f = ends_fall form more (narrower c e) Trunc counter c.top.units d.top.units (n.top.low, n.top.high) f

    -- ---- parts

    module _ (s t : Seen) (below : SeenBelow p a x s t) where
      apart_falls : (d : Atom) → (clears_part p a x (divide d) t kind.Zero || some_pack (is_apart_in p t d) packs q.packs) ≡ true → (clears_part p a x (divide d) s kind.Zero || some_pack (is_apart_in p s d) packs r.packs) ≡ true
      apart_falls d = by_range (atom_range (range_at p s.cells) d) refl
        where
          -- a divisor without a range isn't 0
          nothing_there : atom_range (range_at p s.cells) d ≡ None → clears_part p a x (divide d) s kind.Zero ≡ true
          nothing_there e = or_right (has_phrase a) (not (holds_zero (atom_range (range_at p s.cells) d))) (ap (λ (o : Option Ranged). not (holds_zero o)) e)

          by_range : (o : Option Ranged) → atom_range (range_at p s.cells) d ≡ o → (clears_part p a x (divide d) t kind.Zero || some_pack (is_apart_in p t d) packs q.packs) ≡ true → (clears_part p a x (divide d) s kind.Zero || some_pack (is_apart_in p s d) packs r.packs) ≡ true
          by_range None e f = ap (λ (b : Bool). b || some_pack (is_apart_in p s d) packs r.packs) (nothing_there e)
          by_range (Some v) e f =
              or_rises (clears_part p a x (divide d) t kind.Zero) (some_pack (is_apart_in p t d) packs q.packs) (clears_part p a x (divide d) s kind.Zero) (some_pack (is_apart_in p s d) packs r.packs)
              (clears_below rising p a x (divide d) s t kind.Zero below)
              (some_falls (is_apart_in p s d) (is_apart_in p t d) (λ pack m u lower. one_apart pack m u lower) packs r.packs q.packs under.low under.high under.lower) f
            where
              one_apart : (pack : Pack) (m u : List ℤ) → IsLower pack m u → is_apart_in p t d pack u ≡ true → is_apart_in p s d pack m ≡ true
              one_apart pack m u lower =
                  let form = atom_form (pack_decimals p.layout pack) (cell_at p pack s []) (range_at p s.cells) d in
                  let more = atom_form (pack_decimals p.layout pack) (cell_at p pack t []) (range_at p t.cells) d in
                  let narrower = divisor_narrower p a x pack s t below d v e in
                  or_rises (is_negative (more >>= upper_of (size_of pack) u)) (is_negative (more >>= upper_negated (size_of pack) u)) (is_negative (form >>= upper_of (size_of pack) m)) (is_negative (form >>= upper_negated (size_of pack) m))
                  (negative_falls (form >>= upper_of (size_of pack) m) (more >>= upper_of (size_of pack) u) (upper_lower_if (size_of pack) m u lower form more narrower))
                  (negative_falls (form >>= upper_negated (size_of pack) m) (more >>= upper_negated (size_of pack) u) (upper_negated_lower_if (size_of pack) m u lower form more narrower))

      stores_fall : (place : ℕ) (mode : Mode) (y : Amount) (fault : Kind)
          → (has_phrase a || (not (is_misfit y fault) || store_fits p packs a x (with_taken p a x t) q place mode y)) ≡ true
          → (has_phrase a || (not (is_misfit y fault) || store_fits p packs a x (with_taken p a x s) r place mode y)) ≡ true
      stores_fall place mode y fault =
          or_rises (has_phrase a) (not (is_misfit y fault) || store_fits p packs a x (with_taken p a x t) q place mode y) (has_phrase a) (not (is_misfit y fault) || store_fits p packs a x (with_taken p a x s) r place mode y) (λ f. f)
          (or_rises (not (is_misfit y fault)) (store_fits p packs a x (with_taken p a x t) q place mode y) (not (is_misfit y fault)) (store_fits p packs a x (with_taken p a x s) r place mode y) (λ f. f)
          (store_falls (with_taken p a x s) (with_taken p a x t) (taken_rises rising p a x s t below).below place mode y))

      down_falls : (n : ℕ)
          → ends_fit p packs q.packs (λ pack. lowered_form p pack t q.wrote n) Trunc counter (lowered (units_of p.layout (homes_of p) t.cells (of_count n))) ≡ true
          → ends_fit p packs r.packs (λ pack. lowered_form p pack s r.wrote n) Trunc counter (lowered (units_of p.layout (homes_of p) s.cells (of_count n))) ≡ true
      down_falls n =
          let w = units_below p.layout (homes_of p) s.cells t.cells (of_count n) below.fits below.cells in
          ends_fall (λ pack. lowered_form p pack s r.wrote n) (λ pack. lowered_form p pack t q.wrote n)
          (λ pack. along_wrote s t below (λ wrote. lowered_form p pack t wrote n) (lowered_form p pack s r.wrote n) (lowered_narrower p a x pack s t below r.wrote n)) Trunc counter
          (lowered (units_of p.layout (homes_of p) s.cells (of_count n))) (lowered (units_of p.layout (homes_of p) t.cells (of_count n)))
          (let l = w.low in omega (arith, ints, l), let m = w.high in omega (arith, ints, m))

      set_falls : (n : ℕ) (y : Sender) → clears_part2 p packs a x (set_count n y) t q kind.Size ≡ true → clears_part2 p packs a x (set_count n y) s r kind.Size ≡ true
      set_falls n y =
          let k = with_taken p a x s in
          let l = with_taken p a x t in
          let taken = (taken_rises rising p a x s t below).below in
          sent_falls k l taken (λ pack. set_form p pack k r.wrote y) (λ pack. set_form p pack l q.wrote y)
          (λ c e pack. along_wrote k l taken (λ wrote. set_form p pack l wrote y) (set_form p pack k r.wrote y)
          (set_narrower p a x pack k l taken r.wrote y (are_taken k.common l.common c e taken.common)))

      index_falls : (k count : ℕ)
          → ends_in_table p packs q.packs (λ pack. subscript_form p pack t [] k) count (units_of p.layout (homes_of p) t.cells (of_item k)) ≡ true
          → ends_in_table p packs r.packs (λ pack. subscript_form p pack s [] k) count (units_of p.layout (homes_of p) s.cells (of_item k)) ≡ true
      index_falls k count =
          let w = units_below p.layout (homes_of p) s.cells t.cells (of_item k) below.fits below.cells in
          table_ends_fall (λ pack. subscript_form p pack s [] k) (λ pack. subscript_form p pack t [] k) (λ pack. subscript_narrower p a x pack s t below [] k) count
          (units_of p.layout (homes_of p) s.cells (of_item k)) (units_of p.layout (homes_of p) t.cells (of_item k)) (w.low, w.high)

      pub clears_part2_falls : (y : Part) (fault : Kind) → clears_part2 p packs a x y t q fault ≡ true → clears_part2 p packs a x y s r fault ≡ true
      clears_part2_falls (read place) fault e = clears_below rising p a x (read place) s t fault below e
      clears_part2_falls unread fault e = clears_below rising p a x unread s t fault below e
      clears_part2_falls (subscript last k) fault e = clears_below rising p a x (subscript last k) s t fault below e
      clears_part2_falls (index last k count) kind.Subscript e = index_falls k count e
      clears_part2_falls (index last k count) kind.Size e = refl
      clears_part2_falls (index last k count) kind.Zero e = refl
      clears_part2_falls (index last k count) kind.Class e = refl
      clears_part2_falls (index last k count) kind.Truncation e = refl
      clears_part2_falls (divide d) kind.Zero e = apart_falls d e
      clears_part2_falls (divide d) kind.Size e = refl
      clears_part2_falls (divide d) kind.Class e = refl
      clears_part2_falls (divide d) kind.Truncation e = refl
      clears_part2_falls (divide d) kind.Subscript e = refl
      clears_part2_falls (store place mode y) fault e = stores_fall place mode y fault e
      clears_part2_falls (bytes_in offset count) fault e = refl
      clears_part2_falls (guard v wanted) fault e = refl
      clears_part2_falls (read_count n) fault e = clears_below rising p a x (read_count n) s t fault below e
      clears_part2_falls (set_count n y) kind.Size e = set_falls n y e
      clears_part2_falls (set_count n y) kind.Zero e = refl
      clears_part2_falls (set_count n y) kind.Class e = refl
      clears_part2_falls (set_count n y) kind.Truncation e = refl
      clears_part2_falls (set_count n y) kind.Subscript e = refl
      clears_part2_falls (count_down n) kind.Size e = down_falls n e
      clears_part2_falls (count_down n) kind.Zero e = refl
      clears_part2_falls (count_down n) kind.Class e = refl
      clears_part2_falls (count_down n) kind.Truncation e = refl
      clears_part2_falls (count_down n) kind.Subscript e = refl
      clears_part2_falls (guard_count n wanted) fault e = refl
