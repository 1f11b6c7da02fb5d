-- What receivers and counters get is one of the numbers of its form.
use Rattle.std.proofs.Common.{◌≡◌, ◌≤◌, ℕ, Bool, true, false, ◌||◌, if◌then◌else◌, List, [], ◌∷◌, ◌++◌, Option, Some, None, is_some, ℤ, pos, neg_ℤ, ◌+ℤ◌, ◌*ℤ◌, refl, sym, ap, subst, ◌∙◌, arith}
use Rattle.std.specs.Prelude.{IfSome, IsSomeAnd, max, ◌-◌, ◌^◌, unwrap_or}
use Rattle.std.specs.List.{list_any}
use Rattle.std.specs.Option.{option_map}
use Rattle.std.proofs.lemmas.Int.{ints}
use Rattle.dec_num.specs.declared.types.Scaled.{Scaled}
use Rattle.dec_num.specs.Exact.{Fraction}
use Rattle.dec_num.specs.Scaled.{value_of}
use Rattle.dec_num.proofs.Signed.{neg_ℤ_times}
use Rattle.cob_data.specs.declared.extent.Extent.{Extent}
use Rattle.cob_data.specs.declared.layout.Layout.{Layout}
use Rattle.cob_data.specs.declared.layout.Sender.{Sender}
use Rattle.cob_data.specs.declared.layout.Sender.TheVariants as sender
use Rattle.cob_program.specs.declared.act.How.{How}
use Rattle.cob_program.specs.declared.act.How.TheVariants as how
use Rattle.cob_program.specs.declared.act.Target.{Target}
use Rattle.cob_program.specs.Sum.{Sum, MkSum, no_parts, more_parts, MkPart, no_factors, more_factors, MkFactor, Atom}
use Rattle.cob_program.specs.Values.{whole_number, negated, plus, product, sum_value, part_value, product_from, atom_value, Root, root_of, exact_quotient, stored_from, ◌>>=◌}
use Rattle.cob_program.specs.Act.{Act, Program}
use Rattle.cob_program.proofs.Steps.{some_bound, some_same}
use Rattle.cob_runs.specs.declared.action.Action.{Action}
use Rattle.cob_runs.specs.Contents.{number_at}
use Rattle.cob_runs.specs.Computing.{items_in, are_numeric, worth}
use Rattle.cob_runs.specs.Moves.{number_of}
use Rattle.cob_edge_parts.specs.Parts.{Amount, moved, computed, remaining, augmented, Part, read, divides, divisors_of}
use Rattle.cob_edge_parts.specs.Meaning as run
use Rattle.cob_edge_parts.specs.Meaning.{Moment, with_own, amount, ReadsAt}
use Rattle.cob_edge_parts.proofs.Divisors.{sum_counts, result_counts}
use Rattle.diff_bounds.specs.declared.form.lin.Lin.{Lin}
use Rattle.sum_ranges.specs.declared.ranged.Ranged.{Ranged}
use Rattle.sum_ranges.specs.Ranged.{decimal, point, IsIn}
use Rattle.sum_ranges.specs.SumRanges.{product_range, sum_range}
use Rattle.sum_ranges.proofs.Least.{point_in}
use Rattle.sum_forms.specs.Constants.{range_form}
use Rattle.sum_forms.specs.Literals.{whole_factor}
use Rattle.sum_forms.specs.SumForms.{scaled_form, sum_form}
use Rattle.sum_forms.proofs.Shows.{whole_factor_is}
use Rattle.sum_forms.proofs.Sound.{one_product}
use Rattle.transfer_ranges.specs.declared.amounts.Taken.{Taken}
use Rattle.transfer_ranges.specs.Amounts.{IsAmount}
use Rattle.transfer_ranges.specs.Operands.{whole_range}
use Rattle.transfer_ranges.specs.Stores.{amount_range}
use Rattle.cob_edge_parts.specs.Counters.{PassesParts}
use Rattle.cell_laws.specs.Places.{IsBehindOperands, EndsWithRead, IsStored}
use Rattle.cob_graph.specs.declared.homes.Home.TheVariants.{Item as of_item}
use Rattle.cell_steps.specs.Premises.{HasSoundItems}
use Rattle.cell_steps.specs.Storages.{storage}
use Rattle.transfer_ranges.specs.EdgeOperands.{edge_amount, settled, amount_of}
use Rattle.cell_steps.specs.Seen.{Seen}
use Rattle.cell_steps.specs.Stores.{range_at, handled}
use Rattle.cell_laws.proofs.Agreement.{Agree, same_sum}
use Rattle.cell_laws.proofs.HomesHold.{some_times, number_holds}
use Rattle.cell_laws.proofs.PartsDone.{both_true, and_true, read_first}
use Rattle.cell_laws.proofs.StoresKeep.{is_there, TakenAt, its_amount}
use Rattle.diff_steps.specs.Packs.{Pack, size_of, cell_of, pack_decimals, cells_in}
use Rattle.diff_steps.specs.Moments.{is_written}
use Rattle.diff_steps.specs.Forms.{negated_if, whole_sum, added_forms, turned_if, own_form, kept_form, taken_form, operands_form, item_sent, sender_form, multiplied_form, computed_form, has_operands, amount_form}
use Rattle.pack_laws.specs.Agreeing.{IsTracked}
use Rattle.pack_laws.proofs.FormsShowValues.{IsTold, Told, range_told, scaled_told, turned_told, added_told, same_told}
use Rattle.pack_laws.proofs.FormsShowSums.{item_told, sum_told, sum_ranged}
use Rattle.cell_laws.proofs.Roots.{plus_zero}
use Rattle.std.proofs.lemmas.Bool.{or_parts}

-- ---- decimals

nothing_added : (u : ℤ) (n m : ℕ) → (pos 0 *ℤ pos (10 ^ n)) +ℤ (u *ℤ pos (10 ^ (m - m))) ≡ u
nothing_added u n m =
    let e : m - m ≡ 0 = omega arith in
    let none : pos 0 *ℤ pos (10 ^ n) ≡ pos 0 = omega (arith, ints) in
    let one : u *ℤ pos (10 ^ 0) ≡ u = omega (arith, ints) in
    let same : u *ℤ pos (10 ^ (m - m)) ≡ u *ℤ pos (10 ^ 0) = ap (λ (k : ℕ). u *ℤ pos (10 ^ k)) e in
    omega (arith, ints, none, one, same)

plus_nothing : (v : Scaled) → plus (whole_number (pos 0)) v ≡ v
plus_nothing v =
    let e : max 0 v.scale ≡ v.scale = omega arith in
    ap (λ (n : ℕ). decimal ((pos 0 *ℤ pos (10 ^ (n - 0))) +ℤ (v.units *ℤ pos (10 ^ (n - v.scale)))) n) e
    ∙ ap (λ (u : ℤ). decimal u v.scale) (nothing_added v.units (v.scale - 0) v.scale)

-- a sum that is one whole literal
whole_negated : (minus : Bool) (k : ℤ) (y : Scaled) → y.units ≡ k *ℤ pos (10 ^ y.scale) → (negated minus y).units ≡ negated_if minus k *ℤ pos (10 ^ (negated minus y).scale)
whole_negated false k y e = e
whole_negated true k y e = ap neg_ℤ e ∙ sym (neg_ℤ_times k (10 ^ y.scale))

whole_literal : (minus m : Bool) (over : Bool) (worth_ : ℕ → Scaled) (atom : Atom) (k : ℤ) (v : Scaled) → option_map (negated_if minus) (whole_factor over m atom) ≡ Some k
    → sum_value worth_ (MkSum (more_parts (MkPart minus (more_factors (MkFactor over m atom) no_factors)) no_parts)) ≡ Some v → v.units ≡ k *ℤ pos (10 ^ v.scale)
whole_literal minus m true worth_ atom k v e is = absurd cc
whole_literal minus m false worth_ atom k v e is =
    let b = some_bound (part_value worth_ (MkPart minus (more_factors (MkFactor false m atom) no_factors))) (λ b. Some (plus (whole_number (pos 0)) b)) v is in
    let a = some_bound (product_from worth_ (whole_number (pos 1)) (more_factors (MkFactor false m atom) no_factors)) (λ a. Some (negated minus a)) b.0 b.1 in
    let c = some_bound (atom_value worth_ atom) (λ c. Some (product (whole_number (pos 1)) (negated m c))) a.0 a.1 in
    by_factor (whole_factor false m atom) c.0 refl e c.1
    (sym (some_same (plus (whole_number (pos 0)) b.0) v b.2) ∙ plus_nothing b.0 ∙ sym (some_same (negated minus a.0) b.0 a.2)
    ∙ ap (negated minus) (sym (some_same (product (whole_number (pos 1)) (negated m c.0)) a.0 c.2) ∙ one_product (negated m c.0)))
  where
    by_factor : (o : Option ℤ) (c : Scaled) → whole_factor false m atom ≡ o → option_map (negated_if minus) o ≡ Some k → atom_value worth_ atom ≡ Some c → v ≡ negated minus (negated m c) → v.units ≡ k *ℤ pos (10 ^ v.scale)
    by_factor None c f e is same = absurd cc
    by_factor (Some j) c f e is same =
        let fact = whole_factor_is worth_ false m atom c j is f in
        subst (λ (w : Scaled). w.units ≡ k *ℤ pos (10 ^ w.scale)) (sym same)
        (subst (λ (z : ℤ). (negated minus (negated m c)).units ≡ z *ℤ pos (10 ^ (negated minus (negated m c)).scale)) (some_same (negated_if minus j) k e) (whole_negated minus j (negated m c) fact.1))

whole_sum_is : (worth_ : ℕ → Scaled) (s : Sum) (k : ℤ) (v : Scaled) → whole_sum s ≡ Some k → sum_value worth_ s ≡ Some v → v.units ≡ k *ℤ pos (10 ^ v.scale)
whole_sum_is worth_ (MkSum no_parts) k v e is = absurd cc
whole_sum_is worth_ (MkSum (more_parts (MkPart minus no_factors) no_parts)) k v e is = absurd cc
whole_sum_is worth_ (MkSum (more_parts (MkPart minus (more_factors (MkFactor over m atom) no_factors)) no_parts)) k v e is = whole_literal minus m over worth_ atom k v e is
whole_sum_is worth_ (MkSum (more_parts (MkPart minus (more_factors (MkFactor over m atom) (more_factors g gs))) no_parts)) k v e is = absurd cc
whole_sum_is worth_ (MkSum (more_parts (MkPart minus no_factors) (more_parts q qs))) k v e is = absurd cc
whole_sum_is worth_ (MkSum (more_parts (MkPart minus (more_factors (MkFactor over m atom) no_factors)) (more_parts q qs))) k v e is = absurd cc
whole_sum_is worth_ (MkSum (more_parts (MkPart minus (more_factors (MkFactor over m atom) (more_factors g gs))) (more_parts q qs))) k v e is = absurd cc

-- ---- forms that tell a value

module _ (cells : ℕ → Option ℤ) (f : ℕ) where
  abbrev pub ValueTold : Option Lin → Fraction → Type 0
  ValueTold o v = IfSome o (λ form. (d : Scaled) × (v ≡ value_of d) × IsTold cells f form d)

  pub value_told : (o : Option Lin) (d : Scaled) (v : Fraction) → v ≡ value_of d → Told cells f o d → ValueTold o v
  value_told None d v e h = tt
  value_told (Some form) d v e h = (d, e, h)

  told_of_value : (o : Option Lin) (u : Scaled) → ValueTold o (value_of u) → Told cells f o u
  told_of_value None u h = tt
  told_of_value (Some form) u (d, e, h) = same_told cells f (Some form) u d e h

-- ---- items that weren't written

module _ (l : Layout) (sound : HasSoundItems l) (wrote : List Extent) (m : Moment) (tracked : IsTracked l wrote m) where
  same_number : (place : ℕ) → is_written l wrote place ≡ false → number_at l m.storage place ≡ number_at l m.first place
  same_number place e = tracked.same place 0 (some_times l sound place) e

  same_worths : (places : List ℕ) → list_any (is_written l wrote) places ≡ false → Agree (worth l m.storage) (worth l m.first) places
  same_worths [] e = tt
  same_worths (place ∷ places) e =
      let two = or_parts (is_written l wrote place) (list_any (is_written l wrote) places) e in
      (ap (λ (o : Option Scaled). unwrap_or o (whole_number (pos 0))) (same_number place two.0), same_worths places two.1)

  still_numeric : (places : List ℕ) → list_any (is_written l wrote) places ≡ false → are_numeric l m.first places ≡ true → are_numeric l m.storage places ≡ true
  still_numeric [] e numeric = refl
  still_numeric (place ∷ places) e numeric =
      let two = or_parts (is_written l wrote place) (list_any (is_written l wrote) places) e in
      let both = both_true (is_some (number_at l m.first place)) (are_numeric l m.first places) numeric in
      and_true (is_some (number_at l m.storage place)) (are_numeric l m.storage places) (ap is_some (same_number place two.0) ∙ both.0) (still_numeric places two.1 both.1)

module _ (p : Program) (statement : ℕ) (a : Act) (x : Action) (pack : Pack) (few : size_of pack ≤ 8) where
  module _ (done : List Part) (t : Seen) (m : Moment) (g : TakenAt p statement a x done t m) (wrote : List Extent) (tracked : IsTracked p.layout wrote m) where
    abbrev f : ℕ
    f = pack_decimals p.layout pack

    abbrev cells : ℕ → Option ℤ
    cells = cells_in p.layout pack (storage m.storage m.counts)

    abbrev Tells : Option Lin → Scaled → Type 0
    Tells o d = Told cells f o d

    -- ---- the receiver's own number

    own_read : (place : ℕ) → EndsWithRead done place → m.by_zero ≡ false → number_at p.layout m.storage place ≡ Some m.own
    own_read place e z = last e.before (run.beginning m.first g.counts) (subst (λ (xs : List Part). PassesParts p.layout (handled p a x) xs (run.beginning m.first g.counts) m) e.split g.passed)
      where
        read_last : (k : Moment) (b : Bool) → k.by_zero ≡ b → ReadsAt p.layout b place k m → number_at p.layout m.storage place ≡ Some m.own
        read_last k true f h = absurd (let zeros : m.by_zero ≡ k.by_zero = ap (λ (j : Moment). j.by_zero) h in cc)
        read_last k false f (v, number, same) = subst (λ (j : Moment). number_at p.layout j.storage place ≡ Some j.own) (sym same) number

        last : (xs : List Part) (k : Moment) → PassesParts p.layout (handled p a x) (xs ++ read place ∷ []) k m → number_at p.layout m.storage place ≡ Some m.own
        last [] k (next, h, same) = read_last k k.by_zero refl (subst (λ (j : Moment). ReadsAt p.layout k.by_zero place k j) (sym same) h.0)
        last (y ∷ xs) k (next, h, hs) = last xs next hs

    own_told : (place : ℕ) (v : Scaled) → number_at p.layout m.storage place ≡ Some v → Tells (own_form p pack t wrote place) v
    own_told place v e = item_told p g.sound.items t.cells m.storage m.counts g.stands pack few place v e

    -- ---- operands that were kept

    -- where the last quotient doesn't stay exact, the value is one of what was taken
    abbrev IsKeptOf : Fraction → Taken → Type 0
    IsKeptOf v c = c.under ≡ None → (w : Scaled) × IsIn w c.top × (v ≡ value_of w)

    kept_told : (o : Option Taken) (v : Fraction) → IsSomeAnd o (IsKeptOf v) → ValueTold cells f (kept_form p pack t wrote o) v
    kept_told None v h = absurd h
    kept_told (Some c) v h = by_quotient c.under h
      where
        by_quotient : (u : Option Ranged) → (u ≡ None → (w : Scaled) × IsIn w c.top × (v ≡ value_of w)) → ValueTold cells f (if is_some u then None else range_form f c.top) v
        by_quotient (Some u) h = tt
        by_quotient None h = let w = h refl in value_told cells f (range_form f c.top) w.0 v w.2 (range_told cells f c.top w.0 w.1)

    -- the receiver's number doesn't matter there, and so may be 0
    abbrev without_own : Moment
    without_own = with_own m (whole_number (pos 0))

    moved_kept : (y : Sender) (v : Scaled) → edge_amount a x ≡ Some (moved y) → number_of p.layout m.first y ≡ Some v → IsSomeAnd t.common (IsKeptOf (value_of v))
    moved_kept y v e is = go t.common (g.took m (moved y) (point m.own) (value_of v) refl e (point_in m.own) (ap (option_map value_of) is))
      where
        go : (o : Option Taken) → IsSomeAnd o (λ c. IsSomeAnd (amount_of (moved y) (point m.own) c) (λ r. IsAmount r (value_of v))) → IsSomeAnd o (IsKeptOf (value_of v))
        go None h = h
        go (Some c) h = λ none. h

    augmented_kept : (y : Sender) (v : Scaled) → edge_amount a x ≡ Some (augmented y) → number_of p.layout m.first y ≡ Some v → IsSomeAnd t.common (IsKeptOf (value_of v))
    augmented_kept y v e is = go t.common (g.took without_own (augmented y) (point (whole_number (pos 0))) (value_of (plus (whole_number (pos 0)) v)) refl e (point_in (whole_number (pos 0))) (ap (option_map (λ u. value_of (plus (whole_number (pos 0)) u))) is))
      where
        go : (o : Option Taken) → IsSomeAnd o (λ c. IsSomeAnd (amount_of (augmented y) (point (whole_number (pos 0))) c) (λ r. IsAmount r (value_of (plus (whole_number (pos 0)) v)))) → IsSomeAnd o (IsKeptOf (value_of v))
        go None h = h
        go (Some c) (w, inside, same) = λ none. (w, subst (λ (r : Ranged). IsIn w r) (plus_zero c.top) inside, ap value_of (sym (plus_nothing v)) ∙ same)

    -- what a sum is worth that isn't stored whole
    summand_kept : (s : Sum) (v : Scaled) → edge_amount a x ≡ Some (computed s how.Whole) → sum_value (worth p.layout m.first) s ≡ Some v → IsSomeAnd (t.common >>= settled) (IsKeptOf (value_of v))
    summand_kept s v e is = go t.common (g.took without_own (computed s how.Plus) (point (whole_number (pos 0))) (value_of (plus (whole_number (pos 0)) v)) refl e (point_in (whole_number (pos 0))) (ap (λ (o : Option Scaled). o >>= λ u. Some (value_of (plus (whole_number (pos 0)) u))) is))
      where
        settled_go : (o : Option Taken) → IsSomeAnd (o >>= amount_range (computed s how.Plus) (point (whole_number (pos 0)))) (λ r. IsAmount r (value_of (plus (whole_number (pos 0)) v))) → IsSomeAnd o (IsKeptOf (value_of v))
        settled_go None h = h
        settled_go (Some c) (w, inside, same) = λ none. (w, subst (λ (r : Ranged). IsIn w r) (plus_zero c.top) inside, ap value_of (sym (plus_nothing v)) ∙ same)

        go : (o : Option Taken) → IsSomeAnd o (λ c. IsSomeAnd (amount_of (computed s how.Plus) (point (whole_number (pos 0))) c) (λ r. IsAmount r (value_of (plus (whole_number (pos 0)) v)))) → IsSomeAnd (o >>= settled) (IsKeptOf (value_of v))
        go None h = h
        go (Some c) h = settled_go (settled c) h

    whole_kept : (s : Sum) (v : Fraction) → edge_amount a x ≡ Some (computed s how.Whole) → amount p.layout m (computed s how.Whole) ≡ Some v → IsSomeAnd t.common (IsKeptOf v)
    whole_kept s v e is = go t.common (g.took m (computed s how.Whole) (point m.own) v refl e (point_in m.own) is)
      where
        by_quotient : (top : Ranged) (u : Option Ranged) → IsAmount (whole_range top u) v → u ≡ None → (w : Scaled) × IsIn w top × (v ≡ value_of w)
        by_quotient top None h none = h
        by_quotient top (Some u) h none = absurd cc

        go : (o : Option Taken) → IsSomeAnd o (λ c. IsSomeAnd (amount_of (computed s how.Whole) (point m.own) c) (λ r. IsAmount r v)) → IsSomeAnd o (IsKeptOf v)
        go None h = h
        go (Some c) h = λ none. by_quotient c.top c.under h none

    -- ---- senders

    sender_told : (y : Sender) (v : Scaled) → IsSomeAnd t.common (IsKeptOf (value_of v)) → number_of p.layout m.first y ≡ Some v → Tells (sender_form p pack t wrote y) v
    sender_told y v kept is = by_kind y is
      where
        kept_sent : Tells (kept_form p pack t wrote t.common) v
        kept_sent = told_of_value cells f (kept_form p pack t wrote t.common) v (kept_told t.common (value_of v) kept)

        by_cell : (place : ℕ) → number_at p.layout m.first place ≡ Some v → (o : Option ℕ) (b : Bool) → is_written p.layout wrote place ≡ b → Tells (item_sent p pack t wrote place o b) v
        by_cell place is (Some k) false e = own_told place v (same_number p.layout g.sound.items wrote m tracked place e ∙ is)
        by_cell place is (Some k) true e = kept_sent
        by_cell place is None b e = kept_sent

        by_kind : (y : Sender) → number_of p.layout m.first y ≡ Some v → Tells (sender_form p pack t wrote y) v
        by_kind (sender.Item place) is = by_cell place is (cell_of pack (of_item place)) (is_written p.layout wrote place) refl
        by_kind (sender.Number n) is = kept_sent
        by_kind (sender.Text text) is = kept_sent
        by_kind (sender.Fill byte) is = kept_sent
        by_kind sender.Zero is = kept_sent

    pub moved_told : (y : Sender) (v : Scaled) → edge_amount a x ≡ Some (moved y) → number_of p.layout m.first y ≡ Some v → Tells (sender_form p pack t wrote y) v
    moved_told y v its is = sender_told y v (moved_kept y v its is) is

    -- ---- sums

    module _ (s : Sum) (ts : List Target) (behind : IsBehindOperands s ts done) (its : edge_amount a x ≡ Some (computed s how.Whole)) where
      numeric_first : are_numeric p.layout m.first (items_in s) ≡ true
      numeric_first =
          (read_first p.layout (handled p a x) (items_in s) (divides (divisors_of s ts) ++ behind.behind) (run.beginning m.first g.counts) m refl
          (subst (λ (xs : List Part). PassesParts p.layout (handled p a x) xs (run.beginning m.first g.counts) m) behind.split g.passed)).numeric

      unwritten_told : (v : Scaled) → list_any (is_written p.layout wrote) (items_in s) ≡ false → sum_value (worth p.layout m.first) s ≡ Some v → Tells (sum_form f (λ place. cell_of pack (of_item place)) (range_at p t.cells) s) v
      unwritten_told v e is =
          sum_told p g.sound.items t.cells m.storage m.counts g.stands pack few s v (still_numeric p.layout g.sound.items wrote m tracked (items_in s) e numeric_first)
          (same_sum (worth p.layout m.storage) (worth p.layout m.first) s (same_worths p.layout g.sound.items wrote m tracked (items_in s) e) ∙ is)

      summand_told : (v : Scaled) → sum_value (worth p.layout m.first) s ≡ Some v → Tells (operands_form p pack t wrote false s) v
      summand_told v is = by_written (list_any (is_written p.layout wrote) (items_in s)) refl
        where
          by_written : (b : Bool) → list_any (is_written p.layout wrote) (items_in s) ≡ b → Tells (if b then taken_form p pack t wrote false else sum_form f (λ place. cell_of pack (of_item place)) (range_at p t.cells) s) v
          by_written true e = told_of_value cells f (kept_form p pack t wrote (t.common >>= settled)) v (kept_told (t.common >>= settled) (value_of v) (summand_kept s v its is))
          by_written false e = unwritten_told v e is

      whole_told : (v : Fraction) → amount p.layout m (computed s how.Whole) ≡ Some v → ValueTold cells f (operands_form p pack t wrote true s) v
      whole_told v is = by_written (list_any (is_written p.layout wrote) (items_in s)) refl
        where
          by_root : (o : Option Root) → list_any (is_written p.layout wrote) (items_in s) ≡ false → stored_from (worth p.layout m.first) s o ≡ Some v → ValueTold cells f (if is_some o then None else sum_form f (λ place. cell_of pack (of_item place)) (range_at p t.cells) s) v
          by_root (Some r) e h = tt
          by_root None e h =
              let u = some_bound (sum_value (worth p.layout m.first) s) (λ u. Some (value_of u)) v h in
              value_told cells f (sum_form f (λ place. cell_of pack (of_item place)) (range_at p t.cells) s) u.0 v (sym (some_same (value_of u.0) v u.2)) (unwritten_told u.0 e u.1)

          by_written : (b : Bool) → list_any (is_written p.layout wrote) (items_in s) ≡ b
              → ValueTold cells f (if b then taken_form p pack t wrote true else (if is_some (root_of s) then None else sum_form f (λ place. cell_of pack (of_item place)) (range_at p t.cells) s)) v
          by_written true e = kept_told t.common v (whole_kept s v its is)
          by_written false e = by_root (root_of s) e is

    -- ---- amounts

    -- what a receiver multiplies its number by
    times_told : (place : ℕ) (s : Sum) (v : Scaled) (value : Fraction) → edge_amount a x ≡ Some (computed s how.Whole) → number_at p.layout m.storage place ≡ Some m.own
        → sum_value (worth p.layout m.first) s ≡ Some v → value ≡ value_of (product m.own v) → ValueTold cells f (multiplied_form p pack t wrote place (whole_sum s)) value
    times_told place s v value its own is same = by_literal (whole_sum s) refl
      where
        ranged_go : (o : Option Taken) → IsSomeAnd (o >>= amount_range (computed s how.Times) (range_at p t.cells place)) (λ r. IsAmount r (value_of (product m.own v)))
            → ValueTold cells f (o >>= λ c. range_form f (product_range (range_at p t.cells place) c.top)) (value_of (product m.own v))
        ranged_go None h = tt
        ranged_go (Some c) (w, inside, e) =
            value_told cells f (range_form f (product_range (range_at p t.cells place) c.top)) w (value_of (product m.own v)) e (range_told cells f (product_range (range_at p t.cells place) c.top) w inside)

        common_go : (o : Option Taken) → IsSomeAnd o (λ c. IsSomeAnd (amount_of (computed s how.Times) (range_at p t.cells place) c) (λ r. IsAmount r (value_of (product m.own v))))
            → ValueTold cells f ((o >>= settled) >>= λ c. range_form f (product_range (range_at p t.cells place) c.top)) (value_of (product m.own v))
        common_go None h = tt
        common_go (Some c) h = ranged_go (settled c) h

        by_literal : (o : Option ℤ) → whole_sum s ≡ o → ValueTold cells f (multiplied_form p pack t wrote place o) value
        by_literal (Some k) e =
            value_told cells f (own_form p pack t wrote place >>= scaled_form k) (product m.own v) value same
            (scaled_told cells f k (own_form p pack t wrote place) m.own v (whole_sum_is (worth p.layout m.first) s k v e is) (own_told place m.own own))
        by_literal None e =
            subst (λ (y : Fraction). ValueTold cells f (multiplied_form p pack t wrote place None) y) (sym same)
            (common_go t.common (g.took m (computed s how.Times) (range_at p t.cells place) (value_of (product m.own v)) refl its (number_holds p g.sound.items t.cells (storage m.storage m.counts) g.stands place m.own own)
            (ap (λ (o : Option Scaled). o >>= λ u. Some (value_of (product m.own u))) is)))

    module _ (place : ℕ) (z : m.by_zero ≡ false) where
      computed_told : (s : Sum) (h : How) (v : Fraction) → IsStored a x done place (computed s h) → amount p.layout m (computed s h) ≡ Some v → ValueTold cells f (computed_form p pack t wrote place s h) v
      computed_told s how.Whole v q is = whole_told s q.arithmetic.targets q.operands (its_amount p statement a x done place (computed s how.Whole) q) v is
      computed_told s how.Plus v q is =
          let its = its_amount p statement a x done place (computed s how.Plus) q in
          let u = some_bound (sum_value (worth p.layout m.first) s) (λ u. Some (value_of (plus m.own u))) v is in
          value_told cells f (added_forms (own_form p pack t wrote place) (operands_form p pack t wrote false s)) (plus m.own u.0) v (sym (some_same (value_of (plus m.own u.0)) v u.2))
          (added_told cells f (own_form p pack t wrote place) (operands_form p pack t wrote false s) m.own u.0 (own_told place m.own (own_read place (q.own (λ e. cc)) z))
          (summand_told s q.arithmetic.targets q.operands its u.0 u.1))
      computed_told s how.Minus v q is =
          let its = its_amount p statement a x done place (computed s how.Minus) q in
          let u = some_bound (sum_value (worth p.layout m.first) s) (λ u. Some (value_of (plus m.own (negated true u)))) v is in
          value_told cells f (added_forms (own_form p pack t wrote place) (turned_if true (operands_form p pack t wrote false s))) (plus m.own (negated true u.0)) v (sym (some_same (value_of (plus m.own (negated true u.0))) v u.2))
          (added_told cells f (own_form p pack t wrote place) (turned_if true (operands_form p pack t wrote false s)) m.own (negated true u.0) (own_told place m.own (own_read place (q.own (λ e. cc)) z))
          (turned_told cells f (operands_form p pack t wrote false s) u.0 (summand_told s q.arithmetic.targets q.operands its u.0 u.1)))
      computed_told s how.Times v q is =
          let u = some_bound (sum_value (worth p.layout m.first) s) (λ u. Some (value_of (product m.own u))) v is in
          times_told place s u.0 v (its_amount p statement a x done place (computed s how.Times) q) (own_read place (q.own (λ e. cc)) z) u.1 (sym (some_same (value_of (product m.own u.0)) v u.2))
      computed_told s how.Under v q is = tt

      mapped : (h : Scaled → Scaled) (o : Option Scaled) (v : Fraction) → option_map (λ u. value_of (h u)) o ≡ Some v → (u : Scaled) × (o ≡ Some u) × (v ≡ value_of (h u))
      mapped h None v e = absurd cc
      mapped h (Some u) v e = (u, refl, sym (some_same (value_of (h u)) v e))

      pub amount_told : (y : Amount) (v : Fraction) → IsStored a x done place y → amount p.layout m y ≡ Some v → ValueTold cells f (amount_form p pack t wrote place y) v
      amount_told (moved y) v q is =
          let u = mapped (λ u. u) (number_of p.layout m.first y) v is in
          value_told cells f (sender_form p pack t wrote y) u.0 v u.2 (moved_told y u.0 (its_amount p statement a x done place (moved y) q) u.1)
      amount_told (computed s h) v q is = computed_told s h v q is
      amount_told (remaining s scale) v q is = tt
      amount_told (augmented y) v q is =
          let u = mapped (plus m.own) (number_of p.layout m.first y) v is in
          value_told cells f (added_forms (own_form p pack t wrote place) (sender_form p pack t wrote y)) (plus m.own u.0) v u.2
          (added_told cells f (own_form p pack t wrote place) (sender_form p pack t wrote y) m.own u.0 (own_told place m.own (own_read place q.2 z))
          (sender_told y u.0 (augmented_kept y u.0 (its_amount p statement a x done place (augmented y) q) u.1) u.1))

      -- ---- operands have a range

      operands_valued : (s : Sum) (h : How) (v : Fraction) → amount p.layout m (computed s h) ≡ Some v → is_some (sum_value (worth p.layout m.first) s) ≡ true
      operands_valued s how.Whole v is = sum_counts (worth p.layout m.first) s ∙ sym (result_counts (worth p.layout m.first) s how.Whole m.own) ∙ ap is_some is
      operands_valued s how.Plus v is = ap is_some (some_bound (sum_value (worth p.layout m.first) s) (λ u. Some (value_of (plus m.own u))) v is).1
      operands_valued s how.Minus v is = ap is_some (some_bound (sum_value (worth p.layout m.first) s) (λ u. Some (value_of (plus m.own (negated true u)))) v is).1
      operands_valued s how.Times v is = ap is_some (some_bound (sum_value (worth p.layout m.first) s) (λ u. Some (value_of (product m.own u))) v is).1
      operands_valued s how.Under v is = ap is_some (some_bound (sum_value (worth p.layout m.first) s) (λ u. exact_quotient m.own u) v is).1

      operands_there : (s : Sum) (h : How) (v : Fraction) → IsStored a x done place (computed s h) → amount p.layout m (computed s h) ≡ Some v → has_operands p t wrote (computed s h) ≡ true
      operands_there s h v q is = by_written (list_any (is_written p.layout wrote) (items_in s)) refl
        where
          some_there : (o : Option Ranged) (u : Scaled) → IsSomeAnd o (IsIn u) → is_some o ≡ true
          some_there None u h = absurd h
          some_there (Some r) u h = refl

          by_written : (b : Bool) → list_any (is_written p.layout wrote) (items_in s) ≡ b → (b || is_some (sum_range (range_at p t.cells) s)) ≡ true
          by_written true e = refl
          by_written false e =
              let u = is_there (sum_value (worth p.layout m.first) s) (operands_valued s h v is) in
              some_there (sum_range (range_at p t.cells) s) u.0
              (sum_ranged p g.sound.items t.cells m.storage m.counts g.stands pack few s u.0
              (still_numeric p.layout g.sound.items wrote m tracked (items_in s) e (numeric_first s q.arithmetic.targets q.operands (its_amount p statement a x done place (computed s h) q)))
              (same_sum (worth p.layout m.storage) (worth p.layout m.first) s (same_worths p.layout g.sound.items wrote m tracked (items_in s) e) ∙ u.1))

      pub amount_operands : (y : Amount) (v : Fraction) → IsStored a x done place y → amount p.layout m y ≡ Some v → has_operands p t wrote y ≡ true
      amount_operands (moved y) v q is = refl
      amount_operands (computed s h) v q is = operands_there s h v q is
      amount_operands (remaining s scale) v q is = refl
      amount_operands (augmented y) v q is = refl
