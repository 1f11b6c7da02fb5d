-- Operands that were taken hold what amounts are worth.
use Rattle.std.proofs.Common.{◌≡◌, ℕ, true, false, List, length, Option, Some, None, ℤ, pos, refl, sym, subst, ◌∙◌, arith}
use Rattle.std.specs.Prelude.{IsSomeAnd, unwrap_or}
use Rattle.std.specs.Option.{option_map}
use Rattle.std.proofs.lemmas.Int.{ints}
use Rattle.dec_num.specs.declared.types.Scaled.{Scaled}
use Rattle.dec_num.specs.Exact.{Fraction}
use Rattle.dec_num.specs.Scaled.{value_of}
use Rattle.cob_tree.specs.declared.form.Form.TheVariants as form
use Rattle.cob_data.specs.declared.layout.Sender.{Sender}
use Rattle.cob_data.specs.declared.layout.Sender.TheVariants as sender
use Rattle.cob_program.specs.declared.act.Target.{Target}
use Rattle.cob_program.specs.declared.act.How.{How}
use Rattle.cob_program.specs.declared.act.How.TheVariants as how
use Rattle.cob_program.specs.Sum.{Sum}
use Rattle.cob_program.specs.Values.{whole_number, literal, plus, root_of, ◌>>=◌}
use Rattle.cob_program.specs.Act.{once, times, until, varying, Stmts, Phrase, Act, move, arith as arithmetic, if_, evaluate, perform, go as go_to, nothing, stop, open_files, close_files, read as reading, write, show, Program}
use Rattle.cob_runs.specs.declared.action.Action.{Action}
use Rattle.cob_runs.specs.declared.action.Action.TheVariants as action
use Rattle.cob_runs.specs.Contents.{number_in, number_at}
use Rattle.cob_runs.specs.Moves.{number_of}
use Rattle.cob_runs.specs.Computing as computing
use Rattle.cob_runs.specs.Computing.{items_in, are_numeric, worth, remainder_of}
use Rattle.cob_edge_parts.specs.Parts.{Amount, moved, computed, remaining, augmented}
use Rattle.cob_edge_parts.specs.Meaning.{Moment, amount}
use Rattle.sum_ranges.specs.declared.ranged.Ranged.{Ranged}
use Rattle.sum_ranges.specs.Ranged.{decimal, point, IsIn}
use Rattle.transfer_ranges.specs.declared.amounts.Taken.{Taken}
use Rattle.transfer_ranges.specs.Amounts.{IsAmount}
use Rattle.transfer_ranges.specs.Operands.{alone, is_whole, taken_sum, computed_range, remaining_range}
use Rattle.transfer_ranges.specs.Stores.{sender_range, operands}
use Rattle.interval_domain.specs.Known.{Known}
use Rattle.cell_steps.specs.Storages.{storage, StandsIn}
use Rattle.cell_steps.specs.Premises.{HasSoundItems}
use Rattle.transfer_ranges.specs.EdgeOperands.{edge_amount, edge_operands, settled, amount_of}
use Rattle.cell_steps.specs.Stores.{range_at}
use Rattle.cell_steps.specs.Agreeing.{OperandsHold, of_operands}
use Rattle.cell_laws.proofs.AmountLaws.{Given}
use Rattle.transfer_ranges.proofs.Agreement.{numeric_agree}
use Rattle.cell_laws.proofs.Agreement.{same_result, same_remainder}
use Rattle.cell_laws.proofs.Roots.{settled_is}
use Rattle.cell_laws.proofs.HomesHold.{number_holds, range_is_ordered}

unbound : {A B : Type 0} (P : B → Type 0) (o : Option A) (next : A → Option B) → IsSomeAnd (o >>= next) P → IsSomeAnd o (λ c. IsSomeAnd (next c) P)
unbound P None next h = h
unbound P (Some c) next h = h

mapped : {A B : Type 0} (P : B → Type 0) (f : A → B) (o : Option A) → IsSomeAnd o (λ c. P (f c)) → IsSomeAnd (option_map f o) P
mapped P f None h = h
mapped P f (Some c) h = h

module _ (given : Given) (p : Program) (sound : HasSoundItems p.layout) (cells : List Known) (first : List ℕ) (counts : List (Option ℤ)) (stands : StandsIn p cells (storage first counts)) where
  abbrev other : ℕ → Scaled
  other place = decimal (range_at p cells place).units.low (range_at p cells place).scale

  abbrev number_or_other : ℕ → Scaled
  number_or_other place = unwrap_or (number_at p.layout first place) (other place)

  all_in : (place : ℕ) → IsIn (number_or_other place) (range_at p cells place)
  all_in place = go (number_at p.layout first place) refl
    where
      go : (o : Option Scaled) → number_at p.layout first place ≡ o → IsIn (unwrap_or o (other place)) (range_at p cells place)
      go None e = record { held = (omega (arith, ints), range_is_ordered p sound cells (storage first counts) stands place); scale = refl }
      go (Some v) e = number_holds p sound cells (storage first counts) stands place v e

  -- ---- sums

  computed_holds : (s : Sum) (h : How) (own : Ranged) (v : Scaled) (x : Fraction) → are_numeric p.layout first (items_in s) ≡ true → IsIn v own → computing.result (worth p.layout first) s h v ≡ Some x
      → IsSomeAnd (taken_sum (range_at p cells) true s) (λ c. IsSomeAnd (amount_of (computed s h) own c) (λ r. IsAmount r x))
  computed_holds s h own v x numeric inside e = by_how h refl (given.computed_ number_or_other (range_at p cells) all_in s h v own inside x (sym (same_result (worth p.layout first) number_or_other s h v (numeric_agree p.layout first other (items_in s) numeric)) ∙ e))
    where
      not_whole : (k : How) → is_whole k ≡ false → IsSomeAnd (taken_sum (range_at p cells) false s) (λ t. IsAmount (computed_range k own t) x) → IsSomeAnd (taken_sum (range_at p cells) true s) (λ c. IsSomeAnd (settled c >>= λ t. Some (computed_range k own t)) (λ r. IsAmount r x))
      not_whole k f w = unsettled (taken_sum (range_at p cells) true s) (subst (λ (o : Option Taken). IsSomeAnd o (λ t. IsAmount (computed_range k own t) x)) (sym (settled_is (range_at p cells) s)) w)
        where
          unsettled : (o : Option Taken) → IsSomeAnd (o >>= settled) (λ t. IsAmount (computed_range k own t) x) → IsSomeAnd o (λ c. IsSomeAnd (settled c >>= λ t. Some (computed_range k own t)) (λ r. IsAmount r x))
          unsettled None m = m
          unsettled (Some c) m = one (settled c) m
            where
              one : (q : Option Taken) → IsSomeAnd q (λ t. IsAmount (computed_range k own t) x) → IsSomeAnd (q >>= λ t. Some (computed_range k own t)) (λ r. IsAmount r x)
              one None n = n
              one (Some t) n = n

      whole : (o : Option Taken) → IsSomeAnd o (λ t. IsAmount (computed_range how.Whole own t) x) → IsSomeAnd o (λ c. IsSomeAnd (amount_of (computed s how.Whole) own c) (λ r. IsAmount r x))
      whole None m = m
      whole (Some c) m = m

      by_how : (k : How) → h ≡ k → IsSomeAnd (taken_sum (range_at p cells) (is_whole h) s) (λ t. IsAmount (computed_range h own t) x) → IsSomeAnd (taken_sum (range_at p cells) true s) (λ c. IsSomeAnd (amount_of (computed s h) own c) (λ r. IsAmount r x))
      by_how k f w = subst (λ (j : How). IsSomeAnd (taken_sum (range_at p cells) true s) (λ c. IsSomeAnd (amount_of (computed s j) own c) (λ r. IsAmount r x))) (sym f)
          (at_how k (subst (λ (j : How). IsSomeAnd (taken_sum (range_at p cells) (is_whole j) s) (λ t. IsAmount (computed_range j own t) x)) f w))
        where
          at_how : (k : How) → IsSomeAnd (taken_sum (range_at p cells) (is_whole k) s) (λ t. IsAmount (computed_range k own t) x) → IsSomeAnd (taken_sum (range_at p cells) true s) (λ c. IsSomeAnd (amount_of (computed s k) own c) (λ r. IsAmount r x))
          at_how how.Whole w = whole (taken_sum (range_at p cells) true s) w
          at_how how.Plus w = not_whole how.Plus refl w
          at_how how.Minus w = not_whole how.Minus refl w
          at_how how.Times w = not_whole how.Times refl w
          at_how how.Under w = not_whole how.Under refl w

  remaining_holds : (s : Sum) (scale : ℕ) (x : Fraction) → are_numeric p.layout first (items_in s) ≡ true → remainder_of (worth p.layout first) scale (root_of s) ≡ Some x
      → IsSomeAnd (taken_sum (range_at p cells) true s) (λ c. IsSomeAnd (remaining_range scale c) (λ r. IsAmount r x))
  remaining_holds s scale x numeric e =
      unbound (λ r. IsAmount r x) (taken_sum (range_at p cells) true s) (remaining_range scale)
      (given.remaining_ number_or_other (range_at p cells) all_in s scale x (sym (same_remainder (worth p.layout first) number_or_other scale s (numeric_agree p.layout first other (items_in s) numeric)) ∙ e))

  -- ---- senders

  in_point : (v : Scaled) → IsIn v (point v)
  in_point v = record { held = (omega (arith, ints), omega (arith, ints)); scale = refl }

  sent_in : (y : Sender) (v : Scaled) → number_of p.layout first y ≡ Some v → IsSomeAnd (sender_range (range_at p cells) y) (IsIn v)
  sent_in (sender.Item place) v e = number_holds p sound cells (storage first counts) stands place v e
  sent_in (sender.Number n) v e = let same : literal n ≡ v = cc in subst (λ (w : Scaled). IsIn w (point (literal n))) same (in_point (literal n))
  sent_in (sender.Text text) v e = go (number_in (form.Text (length text)) text) e
    where
      go : (o : Option Scaled) → o ≡ Some v → IsSomeAnd (option_map point o) (IsIn v)
      go None f = absurd cc
      go (Some w) f = let same : w ≡ v = cc in subst (λ (u : Scaled). IsIn u (point w)) same (in_point w)
  sent_in (sender.Fill byte) v e = absurd cc
  sent_in sender.Zero v e = let same : whole_number (pos 0) ≡ v = cc in subst (λ (w : Scaled). IsIn w (point (whole_number (pos 0)))) same (in_point (whole_number (pos 0)))

  -- a number, and what is made of it
  sent_there : (y : Sender) (f : Scaled → Fraction) (x : Fraction) → option_map f (number_of p.layout first y) ≡ Some x → (v : Scaled) × (number_of p.layout first y ≡ Some v) × (x ≡ f v)
  sent_there y f x e = go (number_of p.layout first y) refl e
    where
      go : (o : Option Scaled) → number_of p.layout first y ≡ o → option_map f o ≡ Some x → (v : Scaled) × (number_of p.layout first y ≡ Some v) × (x ≡ f v)
      go None k m = absurd cc
      go (Some v) k m = (v, k, let same : f v ≡ x = cc in sym same)

  moved_holds : (y : Sender) (own : Ranged) (x : Fraction) → option_map value_of (number_of p.layout first y) ≡ Some x → IsSomeAnd (option_map alone (sender_range (range_at p cells) y)) (λ c. IsSomeAnd (amount_of (moved y) own c) (λ r. IsAmount r x))
  moved_holds y own x e =
      let v = sent_there y value_of x e in
      go v.0 (sender_range (range_at p cells) y) (sent_in y v.0 v.1) v.2
    where
      go : (v : Scaled) (o : Option Ranged) → IsSomeAnd o (IsIn v) → x ≡ value_of v → IsSomeAnd (option_map alone o) (λ c. IsSomeAnd (amount_of (moved y) own c) (λ r. IsAmount r x))
      go v None h k = h
      go v (Some r) h k = (v, h, k)

  augmented_holds : (y : Sender) (own : Ranged) (w : Scaled) (x : Fraction) → IsIn w own → option_map (λ v. value_of (plus w v)) (number_of p.layout first y) ≡ Some x
      → IsSomeAnd (option_map alone (sender_range (range_at p cells) y)) (λ c. IsSomeAnd (amount_of (augmented y) own c) (λ r. IsAmount r x))
  augmented_holds y own w x inside e =
      let v = sent_there y (λ v. value_of (plus w v)) x e in
      go v.0 (sender_range (range_at p cells) y) (sent_in y v.0 v.1) v.2
    where
      go : (v : Scaled) (o : Option Ranged) → IsSomeAnd o (IsIn v) → x ≡ value_of (plus w v) → IsSomeAnd (option_map alone o) (λ c. IsSomeAnd (amount_of (augmented y) own c) (λ r. IsAmount r x))
      go v None h k = h
      go v (Some r) h k = (plus w v, given.plus_in_ w v own r inside h, k)

  -- ---- edges

  abbrev IsNumeric : Act → Type 0
  IsNumeric a = (s : Sum) (ts : List Target) (r : Option ℕ) (size : Phrase) (fine : Stmts) → a ≡ arithmetic s ts r size fine → are_numeric p.layout first (items_in s) ≡ true

  sum_numeric : (a : Act) (x : Action) (s : Sum) → IsNumeric a → edge_amount a x ≡ Some (computed s how.Whole) → are_numeric p.layout first (items_in s) ≡ true
  sum_numeric (arithmetic u ts r size fine) x s h e =
      let same : u ≡ s = cc in
      subst (λ (k : Sum). are_numeric p.layout first (items_in k) ≡ true) same (h u ts r size fine refl)
  sum_numeric (move y places) x s h e = absurd cc
  sum_numeric (if_ t held other) x s h e = absurd cc
  sum_numeric (evaluate ws other) x s h e = absurd cc
  sum_numeric (perform body once) x s h e = absurd cc
  sum_numeric (perform body (times y)) x s h e = absurd cc
  sum_numeric (perform body (until after t)) x s h e = absurd cc
  sum_numeric (perform body (varying after place start by t)) x s h e = absurd (varied x e)
    where
      varied : (x : Action) → edge_amount (perform body (varying after place start by t)) x ≡ Some (computed s how.Whole) → ⊥
      varied action.Assign f = cc
      varied action.Skip f = cc
      varied action.Done f = cc
      varied action.Size f = cc
      varied (action.True k) f = cc
      varied (action.False k) f = cc
      varied action.SetCount f = cc
      varied action.Down f = cc
      varied (action.Open k) f = cc
      varied (action.Close k) f = cc
      varied action.Take f = cc
      varied action.AtEnd f = cc
      varied (action.Bad k) f = cc
      varied action.Write f = cc
      varied action.Show f = cc
  sum_numeric (go_to n) x s h e = absurd cc
  sum_numeric nothing x s h e = absurd cc
  sum_numeric stop x s h e = absurd cc
  sum_numeric (open_files os) x s h e = absurd cc
  sum_numeric (close_files fs) x s h e = absurd cc
  sum_numeric (reading f into end fine) x s h e = absurd cc
  sum_numeric (write r None) x s h e = absurd cc
  sum_numeric (write r (Some y)) x s h e = absurd cc
  sum_numeric (show xs) x s h e = absurd cc

  holds_by : (a : Act) (x : Action) → IsNumeric a → (m : Moment) (y : Amount) (own : Ranged) (v : Fraction) → m.first ≡ first → edge_amount a x ≡ Some (of_operands y) → IsIn m.own own → amount p.layout m y ≡ Some v
      → IsSomeAnd (operands (range_at p cells) (of_operands y)) (λ c. IsSomeAnd (amount_of y own c) (λ r. IsAmount r v))
  holds_by a x h m (computed s k) own v f e inside g =
      computed_holds s k own m.own v (sum_numeric a x s h e) inside (subst (λ (bytes : List ℕ). computing.result (worth p.layout bytes) s k m.own ≡ Some v) f g)
  holds_by a x h m (remaining s scale) own v f e inside g =
      remaining_holds s scale v (sum_numeric a x s h e) (subst (λ (bytes : List ℕ). remainder_of (worth p.layout bytes) scale (root_of s) ≡ Some v) f g)
  holds_by a x h m (moved y) own v f e inside g = moved_holds y own v (subst (λ (bytes : List ℕ). option_map value_of (number_of p.layout bytes y) ≡ Some v) f g)
  holds_by a x h m (augmented y) own v f e inside g = augmented_holds y own m.own v inside (subst (λ (bytes : List ℕ). option_map (λ w. value_of (plus m.own w)) (number_of p.layout bytes y) ≡ Some v) f g)

  pub operands_hold : (statement : ℕ) (a : Act) (x : Action) → IsNumeric a → OperandsHold p statement a x first (edge_operands (range_at p cells) a x)
  operands_hold statement a x h m y own v f e inside g =
      subst (λ (o : Option Amount). IsSomeAnd (o >>= operands (range_at p cells)) (λ c. IsSomeAnd (amount_of y own c) (λ r. IsAmount r v))) (sym e) (holds_by a x h m y own v f e inside g)
