-- Stores: a receiver gets bytes of a number of the result, or keeps its value where it may.
use Rattle.std.proofs.Common.{◌≡◌, Bool, true, false, ◌&&◌, ◌||◌, if◌then◌else◌, inl, inr, List, ℕ, Option, Some, None, is_some, ℤ, refl, sym, ap, subst, ◌∙◌}
use Rattle.std.specs.Prelude.{IsSomeAnd}
use Rattle.std.specs.Option.{option_map, option_map_or}
use Rattle.dec_num.specs.declared.types.Mode.{Mode}
use Rattle.dec_num.specs.Exact.{Fraction}
use Rattle.interval_domain.specs.Bounds.{Holds}
use Rattle.cob_program.specs.Sum.{Sum}
use Rattle.cob_program.specs.Values.{Root, root_of, ◌>>=◌}
use Rattle.cob_program.specs.Act.{Act, Program}
use Rattle.cob_runs.specs.declared.action.Action.{Action}
use Rattle.cob_runs.specs.Contents.{form_at, bytes_of, filled_at, stored as stored_units}
use Rattle.cob_edge_parts.specs.Parts.{Amount, moved, computed, remaining, augmented, Part, store}
use Rattle.cob_edge_parts.specs.Meaning.{Moment, with_storage, with_failure, is_left_alone, stored_bytes, stored_or_kept, amount, Stores}
use Rattle.sum_ranges.specs.declared.ranged.Ranged.{Ranged}
use Rattle.sum_ranges.specs.SumRanges.{sum_range}
use Rattle.transfer_ranges.specs.declared.amounts.Taken.{Taken}
use Rattle.transfer_ranges.specs.declared.amounts.AmountRange.{AmountRange}
use Rattle.transfer_ranges.specs.Receivers.{receiver_of}
use Rattle.transfer_ranges.specs.Amounts.{IsAmount}
use Rattle.transfer_ranges.specs.Operands.{alone, taken_from}
use Rattle.transfer_ranges.specs.Stores.{operands}
use Rattle.transfer_ranges.specs.ResultRanges as result
use Rattle.transfer_ranges.specs.ResultRanges.{result_range}
use Rattle.cell_laws.specs.Places.{IsStored}
use Rattle.transfer_ranges.specs.EdgeOperands.{amount_of, is_remainder}
use Rattle.cell_steps.specs.Seen.{Seen}
use Rattle.cell_steps.specs.Stores.{has_one_receiver, range_at, handled, keeps_receiver, amount_at, result_at, may_exceed, may_fail}
use Rattle.transfer_ranges.specs.Working.{may_vanish}
use Rattle.cell_steps.specs.Agreeing.{of_operands, FailsAt}
use Rattle.cell_laws.proofs.OperandsRise.{or_left, or_right}
use Rattle.cell_laws.proofs.WalkLaws.{Given}
use Rattle.cell_laws.proofs.PartsDone.{and_true}
use Rattle.cell_laws.proofs.StoresKeep.{then_holds, then_is, TakenAt, HasRoot, amount_there, its_amount, amount_meant}

module _ (given : Given) (p : Program) (statement : ℕ) (a : Act) (x : Action) (done : List Part) (place : ℕ) (mode : Mode) (y : Amount) (t : Seen) (m : Moment) (g : TakenAt p statement a x done t m) (q : IsStored a x done place y) where
  -- bytes that it gets are of a number of the result
  pub result_meant : keeps_receiver a x ≡ false → (held : List ℕ) → m.by_zero ≡ false → stored_bytes p.layout m place mode y ≡ Some held → IsSomeAnd (result_at p a x t place mode y) (λ i. (z : ℤ) × Holds i z × (held ≡ bytes_of (form_at p.layout place) z))
  result_meant off held unzero e =
      let v = then_is (amount p.layout m y) (stored_units mode (form_at p.layout place)) held e in
      subst (λ (b : Bool). IsSomeAnd (if b then None else (amount_at p a x t place y >>= result_range mode (receiver_of (form_at p.layout place)))) (λ i. (z : ℤ) × Holds i z × (held ≡ bytes_of (form_at p.layout place) z))) (sym off)
      (then_holds (λ (r : AmountRange). IsAmount r v.0) (λ i. (z : ℤ) × Holds i z × (held ≡ bytes_of (form_at p.layout place) z)) (amount_at p a x t place y) (result_range mode (receiver_of (form_at p.layout place)))
      (amount_meant p statement a x done place y t m g q unzero v.0 v.1) (λ r h. given.fits_ mode (form_at p.layout place) r v.0 held h v.2))

  -- ---- why a receiver may keep its value

  -- besides a result that doesn't fit
  abbrev other_failures : Bool
  other_failures = t.may_zero || (may_vanish t.common y || (is_remainder y && t.any_fail))

  fails_by : handled p a x ≡ true → (may_exceed p a x t place mode y || other_failures) ≡ true → may_fail p a x t place mode y ≡ true
  fails_by on e = and_true (handled p a x) (may_exceed p a x t place mode y || other_failures) on e

  -- it is left alone: a remainder behind a failed quotient, and what stands behind a divisor that is 0
  alone_fails : handled p a x ≡ true → is_left_alone m y ≡ true → may_fail p a x t place mode y ≡ true
  alone_fails on e = fails_by on (or_right (may_exceed p a x t place mode y) other_failures (by_kind y refl e m.by_zero refl))
    where
      by_zero : m.by_zero ≡ true → other_failures ≡ true
      by_zero f = or_left t.may_zero (may_vanish t.common y || (is_remainder y && t.any_fail)) (g.zero f)

      by_quotient : is_remainder y ≡ true → t.any_fail ≡ true → other_failures ≡ true
      by_quotient is f = or_right t.may_zero (may_vanish t.common y || (is_remainder y && t.any_fail)) (or_right (may_vanish t.common y) (is_remainder y && t.any_fail) (and_true (is_remainder y) t.any_fail is f))

      by_kind : (u : Amount) → y ≡ u → is_left_alone m u ≡ true → (b : Bool) → m.by_zero ≡ b → other_failures ≡ true
      by_kind u same h true f = by_zero f
      by_kind (computed s k) same h false f = absurd cc
      by_kind (moved k) same h false f = absurd cc
      by_kind (augmented k) same h false f = absurd cc
      by_kind (remaining s scale) same h false f = by_quotient (ap is_remainder same) (g.fails (subst (λ (b : Bool). (b || m.failed) ≡ true) f h) f)

  -- a remainder of what is no quotient has no range
  no_root : (s : Sum) (scale : ℕ) → y ≡ remaining s scale → root_of s ≡ None → may_exceed p a x t place mode y ≡ true
  no_root s scale same none =
      by_taken (sum_range (range_at p g.taken.0) s)
      (g.taken.1 ∙ (ap (λ (o : Option Amount). o >>= operands (range_at p g.taken.0)) (its_amount p statement a x done place y q ∙ ap (λ (u : Amount). Some (of_operands u)) same) ∙ ap (taken_from (range_at p g.taken.0) s) none))
    where
      by_taken : (o : Option Ranged) → t.common ≡ option_map alone o → may_exceed p a x t place mode y ≡ true
      by_taken None e = subst (λ (c : Option Taken). option_map_or (result.may_fail mode (receiver_of (form_at p.layout place))) (c >>= amount_of y (range_at p t.cells place)) true ≡ true) (sym e) refl
      by_taken (Some r) e = subst (λ (c : Option Taken). option_map_or (result.may_fail mode (receiver_of (form_at p.layout place))) (c >>= amount_of y (range_at p t.cells place)) true ≡ true) (sym e)
          (subst (λ (u : Amount). option_map_or (result.may_fail mode (receiver_of (form_at p.layout place))) (amount_of u (range_at p t.cells place) (alone r)) true ≡ true) (sym same) refl)

  -- it doesn't hold its value
  misfit_exceeds : m.by_zero ≡ false → stored_bytes p.layout m place mode y ≡ None → may_exceed p a x t place mode y ≡ true
  misfit_exceeds unzero e = by_amount (amount p.layout m y) refl e
    where
      exceeds_in : (o : Option AmountRange) (v : Fraction) → IsSomeAnd o (λ r. IsAmount r v) → stored_units mode (form_at p.layout place) v ≡ None → option_map_or (result.may_fail mode (receiver_of (form_at p.layout place))) o true ≡ true
      exceeds_in None v h f = absurd h
      exceeds_in (Some r) v h f = given.fails_ mode (form_at p.layout place) r v h f

      nothing_there : amount p.layout m y ≡ None → is_some (amount p.layout m y) ≡ true → may_exceed p a x t place mode y ≡ true
      nothing_there f h = absurd cc

      there : (u : Amount) → y ≡ u → HasRoot p statement a x u → is_some (amount p.layout m y) ≡ true
      there u same root = amount_there p statement a x done place y t m g q unzero (subst (λ (k : Amount). HasRoot p statement a x k) (sym same) root)

      by_root : (s : Sum) (scale : ℕ) → y ≡ remaining s scale → amount p.layout m y ≡ None → (o : Option Root) → root_of s ≡ o → may_exceed p a x t place mode y ≡ true
      by_root s scale same f None k = no_root s scale same k
      by_root s scale same f (Some r) k = nothing_there f (there (remaining s scale) same (ap is_some k))

      by_kind : (u : Amount) → y ≡ u → amount p.layout m y ≡ None → may_exceed p a x t place mode y ≡ true
      by_kind (computed s k) same f = nothing_there f (there (computed s k) same tt)
      by_kind (moved k) same f = nothing_there f (there (moved k) same tt)
      by_kind (augmented k) same f = nothing_there f (there (augmented k) same tt)
      by_kind (remaining s scale) same f = by_root s scale same f (root_of s) refl

      by_amount : (o : Option Fraction) → amount p.layout m y ≡ o → (o >>= stored_units mode (form_at p.layout place)) ≡ None → may_exceed p a x t place mode y ≡ true
      by_amount None f h = by_kind y refl f
      by_amount (Some v) f h = exceeds_in (amount_at p a x t place y) v (amount_meant p statement a x done place y t m g q unzero v f) h

  -- ---- all outcomes

  -- What holds where it keeps its value and may, and where it gets its bytes, holds behind each store. On an edge that
  -- keeps its receiver it gets none.
  pub each_outcome : (C : Moment → Type 0) → (may_fail p a x t place mode y ≡ true → C m) → (may_fail p a x t place mode y ≡ true → C (with_failure m))
      → (keeps_receiver a x ≡ false → (held : List ℕ) → m.by_zero ≡ false → stored_bytes p.layout m place mode y ≡ Some held → C (with_storage m (filled_at p.layout m.storage place held)))
      → (n : Moment) → (handled p a x ≡ false → m.by_zero ≡ false) → (keeps_receiver a x ≡ true → FailsAt p.layout (store place mode y) m) → Stores p.layout (handled p a x) place mode y m n → C n
  each_outcome C alone_ misfits fits n off_zero fails h = by_edge (handled p a x) refl h
    where
      by_keeping : (held : List ℕ) → m.by_zero ≡ false → is_left_alone m y ≡ false → stored_bytes p.layout m place mode y ≡ Some held → (b : Bool) → keeps_receiver a x ≡ b → C (with_storage m (filled_at p.layout m.storage place held))
      by_keeping held unzero apart e true k = elim (fails k) [ inl f ↦ absurd cc | inr f ↦ absurd cc ]
      by_keeping held unzero apart e false k = fits k held unzero e

      by_bytes : handled p a x ≡ true → m.by_zero ≡ false → is_left_alone m y ≡ false → (o : Option (List ℕ)) → stored_bytes p.layout m place mode y ≡ o → C (stored_or_kept p.layout m place o)
      by_bytes on unzero apart None e = misfits (fails_by on (or_left (may_exceed p a x t place mode y) other_failures (misfit_exceeds unzero e)))
      by_bytes on unzero apart (Some held) e = by_keeping held unzero apart e (keeps_receiver a x) refl

      without_zero : (u : Amount) → is_left_alone m u ≡ false → m.by_zero ≡ false
      without_zero (computed s k) e = e
      without_zero (moved k) e = e
      without_zero (augmented k) e = e
      without_zero (remaining s scale) e = front m.by_zero e
        where
          front : (b : Bool) → (b || m.failed) ≡ false → b ≡ false
          front true f = absurd cc
          front false f = refl

      by_alone : handled p a x ≡ true → (b : Bool) → is_left_alone m y ≡ b → n ≡ (if b then m else stored_or_kept p.layout m place (stored_bytes p.layout m place mode y)) → C n
      by_alone on true e k = subst C (sym k) (alone_ (alone_fails on e))
      by_alone on false e k = subst C (sym k) (by_bytes on (without_zero y e) e (stored_bytes p.layout m place mode y) refl)

      by_edge : (b : Bool) → handled p a x ≡ b → Stores p.layout b place mode y m n → C n
      by_edge true on k = by_alone on (is_left_alone m y) refl k
      by_edge false off (held, e, k) = subst C (sym k) (fits (ap (λ b. b && has_one_receiver a) off) held (off_zero off) e)
