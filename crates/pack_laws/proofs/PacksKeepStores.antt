-- Stores: what is known of differences behind them is true of what a run leaves.
use Rattle.std.proofs.Common.{◌≡◌, ◌<◌, ◌≤◌, ℕ, suc, ◌+◌, ◌-◌, ◌^◌, Bool, true, false, ◌&&◌, ◌||◌, not, if◌then◌else◌, List, Option, Some, None, is_some, ℤ, pos, ◌*ℤ◌, refl, sym, ap, subst, ◌∙◌, arith}
use Rattle.std.specs.Prelude.{IfSome, IsSomeAnd, nat_lt, slice_get, unsigned_abs}
use Rattle.std.specs.Option.{option_map}
use Rattle.std.proofs.lemmas.Option.{slice_get_within}
use Rattle.dec_num.specs.declared.types.Mode.{Mode}
use Rattle.dec_num.specs.declared.types.Scaled.{Scaled}
use Rattle.dec_num.specs.Exact.{Fraction, near}
use Rattle.dec_num.specs.Scaled.{value_of}
use Rattle.cob_tree.specs.declared.form.Form.{Form}
use Rattle.cob_tree.specs.declared.form.Form.TheVariants as form
use Rattle.cob_data.specs.declared.extent.Extent.{Extent}
use Rattle.interval_domain.specs.Bounds.{Holds}
use Rattle.cob_program.specs.Act.{Act, Program}
use Rattle.cob_runs.specs.declared.action.Action.{Action}
use Rattle.cob_runs.specs.Contents.{form_at, bytes_of, digits_of, scale_of, scaled_by, times_at, occurrence_number, filled_at, if_held, stored as stored_units}
use Rattle.cob_runs.specs.Moves.{takes_number}
use Rattle.cob_edge_parts.specs.Parts.{Amount, Part, store}
use Rattle.cob_edge_parts.specs.Meaning.{Moment, with_storage, is_left_alone, stored_bytes, stored_or_kept, amount, Stores}
use Rattle.diff_bounds.specs.declared.form.lin.Lin.{Lin}
use Rattle.diff_bounds.specs.Forms.{coef, dot}
use Rattle.diff_bounds.specs.Matrix.{word}
use Rattle.diff_bounds.specs.Storages.{StandsIn}
use Rattle.diff_bounds.specs.Values.{worths}
use Rattle.diff_bounds.specs.Assigned.{with_value}
use Rattle.diff_bounds.specs.Errors.{AreSure}
use Rattle.diff_bounds.specs.Scales.{Spans}
use Rattle.transfer_ranges.specs.declared.amounts.AmountRange.{AmountRange}
use Rattle.transfer_ranges.specs.declared.amounts.AmountRange.TheVariants as range
use Rattle.transfer_ranges.specs.Receivers.{receiver_of, kept_units}
use Rattle.transfer_ranges.specs.Amounts.{IsAmount}
use Rattle.cell_laws.specs.Places.{IsStored}
use Rattle.cob_graph.specs.declared.homes.Home.{Home}
use Rattle.cob_graph.specs.declared.homes.Home.TheVariants.{Item as of_item}
use Rattle.cob_graph.specs.Homes.{is_home}
use Rattle.cell_steps.specs.Storages as values
use Rattle.cell_steps.specs.Storages.{storage, occurrences_of}
use Rattle.cell_steps.specs.Cells.{is_beside}
use Rattle.cell_steps.specs.Seen.{Seen}
use Rattle.cell_steps.specs.Stores.{handled, keeps_receiver, amount_at, result_at, may_fail, may_fit}
use Rattle.cell_steps.specs.Agreeing.{FailsAt}
use Rattle.cell_laws.proofs.StoreOutcomes.{result_meant, each_outcome}
use Rattle.cell_laws.proofs.HomesHold.{some_times}
use Rattle.cell_laws.proofs.StoresKeep.{IsItemFilled, item_is_filled, then_is, TakenAt, amount_meant}
use Rattle.diff_steps.specs.Packs.{Pack, size_of, cell_of, pack_decimals, unit_of, cells_in, PackStands}
use Rattle.diff_steps.specs.Matrices.{bottom}
use Rattle.diff_steps.specs.Forms.{amount_form, has_operands}
use Rattle.diff_steps.specs.Stores.{known_of_amount, forgotten_cells}
use Rattle.diff_steps.specs.Steps.{by_outcome, is_other, form_at_cell, stored_cell, stored_pack, is_lost, lost_pack, pack_behind_store}
use Rattle.pack_laws.specs.Orders.{IsShown}
use Rattle.pack_laws.proofs.Occurrences.{first_home}
use Rattle.pack_laws.proofs.Stored.{form_stands}
use Rattle.pack_laws.proofs.Signs.{known_is_sure}
use Rattle.pack_laws.specs.Agreeing.{IsPackOf}
use Rattle.pack_laws.specs.Showing.{ShowsValueAt}
use Rattle.cell_laws.proofs.WalkLawsHold.{cell_laws}
use Rattle.pack_laws.proofs.PacksKeepCells.{found_cell, decimals_within, cell_value, homes_left, put_left, with_any, not_home, other_cell, edited_apart}
use Rattle.pack_laws.proofs.PacksKeepCounters.{same_shown}
use Rattle.cell_laws.proofs.PartsKeep.{less_by_test}

-- ---- the bytes of a number

held_is : (f : Form) (z : ℤ) (held : List ℕ) → if_held f z ≡ Some held → (unsigned_abs z < 10 ^ digits_of f) × (held ≡ bytes_of f z)
held_is f z held e = go (nat_lt (unsigned_abs z) (10 ^ digits_of f)) refl e
  where
    go : (b : Bool) → nat_lt (unsigned_abs z) (10 ^ digits_of f) ≡ b → (if b then Some (bytes_of f z) else None) ≡ Some held → (unsigned_abs z < 10 ^ digits_of f) × (held ≡ bytes_of f z)
    go true lt h = let same : bytes_of f z ≡ held = cc in (less_by_test (unsigned_abs z) (10 ^ digits_of f) lt, sym same)
    go false lt h = absurd cc

module _ (p : Program) (statement : ℕ) (a : Act) (x : Action) (done : List Part) (place : ℕ) (mode : Mode) (y : Amount) (t : Seen) (m : Moment) (g : TakenAt p statement a x done t m)
    (q : IsStored a x done place y) (takes : takes_number (form_at p.layout place) ≡ true) where
  -- ---- what a store does to storage

  -- its number, and the bytes that it gets
  record Gets (held : List ℕ) : Type 0 where
    v : Fraction
    worth_ : amount p.layout m y ≡ Some v
    room : unsigned_abs (near mode v (pos (scale_of (form_at p.layout place)))) < 10 ^ digits_of (form_at p.layout place)
    bytes : held ≡ bytes_of (form_at p.layout place) (near mode v (pos (scale_of (form_at p.layout place))))

  gets : (held : List ℕ) → stored_bytes p.layout m place mode y ≡ Some held → Gets held
  gets held e =
      let v = then_is (amount p.layout m y) (stored_units mode (form_at p.layout place)) held e in
      let h = held_is (form_at p.layout place) (near mode v.0 (pos (scale_of (form_at p.layout place)))) held v.2 in
      record { v = v.0; worth_ = v.1; room = h.0; bytes = h.1 }

  -- the item gets its number, as it is read back, and items that have none of its bytes keep theirs
  record IsFilled (held : List ℕ) (v : Fraction) : Type 0 where
    others : (h : Home) → is_beside p.layout place h ≡ false → (n : ℕ) → n < occurrences_of p.layout h
        → values.value_at p.layout (storage (filled_at p.layout m.storage place held) m.counts) h n ≡ values.value_at p.layout (storage m.storage m.counts) h n
    new : ((picture : List ℕ) (digits scale : ℕ) → form_at p.layout place ≡ form.Edited picture digits scale → ⊥)
        → values.value_at p.layout (storage (filled_at p.layout m.storage place held) m.counts) (of_item place) 0 ≡ Some (kept_units (receiver_of (form_at p.layout place)).signed (near mode v (pos (receiver_of (form_at p.layout place)).scale)))

  filled : (held : List ℕ) (is : Gets held) → IsFilled held is.v
  filled held is = record { others = fill.others; new = λ uncut. by_form (form_at p.layout place) refl uncut }
    where
      fill : IsItemFilled p.layout place 0 (near mode is.v (pos (scale_of (form_at p.layout place)))) m.storage held m.counts
      fill = item_is_filled p.layout place 0 (near mode is.v (pos (scale_of (form_at p.layout place)))) m.storage held m.counts g.sound.items
          (some_times p.layout g.sound.items place) takes is.room is.bytes g.stands.whole

      by_sign : (b : Bool) (z : ℤ) → (if b then z else pos (unsigned_abs z)) ≡ kept_units b z
      by_sign true z = refl
      by_sign false z = refl

      no_number : (f : Form) → form_at p.layout place ≡ f → (takes_number f ≡ true → ⊥) → ⊥
      no_number f e none = none (subst (λ (k : Form). takes_number k ≡ true) e takes)

      by_form : (f : Form) → form_at p.layout place ≡ f → ((picture : List ℕ) (digits scale : ℕ) → f ≡ form.Edited picture digits scale → ⊥)
          → values.value_at p.layout (storage (filled_at p.layout m.storage place held) m.counts) (of_item place) 0 ≡ Some (kept_units (receiver_of f).signed (near mode is.v (pos (receiver_of f).scale)))
      by_form form.Group e uncut = absurd (no_number form.Group e (λ h. cc))
      by_form (form.Text n) e uncut = absurd (no_number (form.Text n) e (λ h. cc))
      by_form (form.Edited picture digits scale) e uncut = absurd (uncut picture digits scale refl)
      by_form (form.Number digits scale signed kept) e uncut =
          fill.new digits scale signed kept e
          ∙ ap Some (by_sign signed (near mode is.v (pos (scale_of (form_at p.layout place)))))
          ∙ ap (λ (f : Form). Some (kept_units signed (near mode is.v (pos (scale_of f))))) e

  -- ---- the matrix of a pack

  receiver_scale : (f : Form) → (receiver_of f).scale ≡ scale_of f
  receiver_scale form.Group = refl
  receiver_scale (form.Text n) = refl
  receiver_scale (form.Edited picture digits scale) = refl
  receiver_scale (form.Number digits scale signed kept) = refl

  module _ (pack : Pack) (of : IsPackOf p pack) (few : size_of pack ≤ 8) (wrote : List Extent) (w : List ℤ) (stands : PackStands p.layout pack w (storage m.storage m.counts)) where
    abbrev values_before : ℕ → Option ℤ
    values_before = cells_in p.layout pack (storage m.storage m.counts)

    abbrev to_scale : ℕ
    to_scale = (receiver_of (form_at p.layout place)).scale

    -- a decimal of which what is said to be known is so
    record IsKnown (f : Lin) (o : Option AmountRange) (v : Fraction) : Type 0 where
      u : Scaled
      same : v ≡ value_of u
      shown : IsShown (size_of pack) values_before f u (pack_decimals p.layout pack)
      sure_ : AreSure (known_of_amount (size_of pack) w f to_scale o) u to_scale

    known_of : (f : Lin) (v : Fraction) (d : Scaled) → v ≡ value_of d → IsShown (size_of pack) values_before f d (pack_decimals p.layout pack) → (o : Option AmountRange) → IsSomeAnd o (λ r. IsAmount r v) → IsKnown f o v
    known_of f v d e shown None h = absurd h
    known_of f v d e shown (Some (range.Decimal r)) (u, inside, same) =
        let its = same_shown (size_of pack) values_before f d u (pack_decimals p.layout pack) (sym same ∙ e) shown in
        record {
          u = u;
          same = same;
          shown = its;
          sure_ = known_is_sure (size_of pack) w values_before few stands f its.over u (pack_decimals p.layout pack) its.spans to_scale r inside;
        }
    known_of f v d e shown (Some (range.Quotient top under)) h = record { u = d; same = e; shown = shown; sure_ = record { whole = λ k. absurd cc; not_negative = λ k. absurd cc; not_positive = λ k. absurd cc } }
    known_of f v d e shown (Some (range.Remainder top under scale)) h = record { u = d; same = e; shown = shown; sure_ = record { whole = λ k. absurd cc; not_negative = λ k. absurd cc; not_positive = λ k. absurd cc } }

    abbrev its_units : Fraction → ℤ
    its_units v = kept_units (receiver_of (form_at p.layout place)).signed (near mode v (pos to_scale)) *ℤ pos (unit_of p.layout pack (of_item place))

    cell_stands : (at : ℕ) → slice_get pack at ≡ Some (of_item place) → (v : Fraction) → IsSomeAnd (amount_at p a x t place y) (λ r. IsAmount r v) → (o : Option Lin) → IfSome o (ShowsValueAt p.layout pack m v)
        → StandsIn (size_of pack + 1) (word (size_of pack + 1) (form_at_cell p a x t place mode y pack (suc at) o w)) (with_value values_before (suc at) (its_units v))
    cell_stands at e v meant None h = with_any (size_of pack) w values_before (suc at) (its_units v) (let lt = slice_get_within pack at (of_item place) e in omega (arith, lt)) stands
    cell_stands at e v meant (Some f) (d, same, shown) =
        let k = known_of f v d same shown (amount_at p a x t place y) meant in
        let scales : to_scale + (pack_decimals p.layout pack - scale_of (form_at p.layout place)) ≡ pack_decimals p.layout pack =
        (let le = decimals_within p.layout pack at (of_item place) e in let rs = receiver_scale (form_at p.layout place) in omega (arith, le, rs)) in
        subst (λ (q : Fraction). StandsIn (size_of pack + 1) (word (size_of pack + 1) (form_at_cell p a x t place mode y pack (suc at) (Some f) w)) (with_value values_before (suc at) (its_units q))) (sym k.same)
        (form_stands (size_of pack) values_before w (suc at) few (omega arith) (let lt = slice_get_within pack at (of_item place) e in omega (arith, lt)) stands
        f (receiver_of (form_at p.layout place)).signed mode (known_of_amount (size_of pack) w f to_scale (amount_at p a x t place y)) k.u to_scale (pack_decimals p.layout pack - scale_of (form_at p.layout place))
        k.shown.over k.shown.operands k.sure_ (subst (λ (n : ℕ). Spans (dot (coef f) (λ j. worths values_before (suc j)) 8) f.constant k.u n) (sym scales) k.shown.spans))

    other_test : (h : Home) → is_other p a x place h ≡ false → is_home h (of_item place) ≡ false → is_beside p.layout place h ≡ false
    other_test h e ne = go (is_beside p.layout place h) (is_home h (of_item place)) ne e
      where
        go : (b c : Bool) → c ≡ false → (b && not c) ≡ false → b ≡ false
        go true true f h = absurd cc
        go true false f h = absurd cc
        go false c f h = refl

    lost_test : (h : Home) → is_lost p a x place h ≡ false → is_beside p.layout place h ≡ false
    lost_test h e = go (is_home h (of_item place)) (is_beside p.layout place h) e
      where
        go : (b c : Bool) → (b || c) ≡ false → c ≡ false
        go true c f = absurd cc
        go false c f = f

    -- a number is stored
    stored_stands : (held : List ℕ) (is : Gets held) → m.by_zero ≡ false → has_operands p t wrote y ≡ true → IfSome (amount_form p pack t wrote place y) (ShowsValueAt p.layout pack m is.v)
        → PackStands p.layout pack (stored_pack p a x t wrote place mode y pack w) (storage (filled_at p.layout m.storage place held) m.counts)
    stored_stands held is unzero there shown =
        subst (λ (b : Bool). PackStands p.layout pack (if b then forgotten_cells (size_of pack) (is_other p a x place) 1 pack (stored_cell p a x t wrote place mode y pack (cell_of pack (of_item place)) w) else bottom (size_of pack)) (storage (filled_at p.layout m.storage place held) m.counts))
        (sym there) (by_cell (cell_of pack (of_item place)) refl)
      where
        fill : IsFilled held is.v
        fill = filled held is

        by_cell : (o : Option ℕ) → cell_of pack (of_item place) ≡ o → PackStands p.layout pack (forgotten_cells (size_of pack) (is_other p a x place) 1 pack (stored_cell p a x t wrote place mode y pack o w)) (storage (filled_at p.layout m.storage place held) m.counts)
        by_cell None e =
            homes_left p.layout pack (is_other p a x place) (storage m.storage m.counts) (storage (filled_at p.layout m.storage place held) m.counts) w
            (λ k h f is_left. fill.others h (other_test h is_left (not_home pack (of_item place) h k e f)) 0 (first_home p.layout g.sound.items h)) stands
        by_cell (Some at) e =
            let f = found_cell pack (of_item place) at e in
            put_left p.layout pack (is_other p a x place) (storage m.storage m.counts) (storage (filled_at p.layout m.storage place held) m.counts) at (its_units is.v)
            (form_at_cell p a x t place mode y pack (suc at) (amount_form p pack t wrote place y) w)
            (cell_value p.layout pack (storage (filled_at p.layout m.storage place held) m.counts) at (of_item place) f
            ∙ ap (λ (o : Option ℤ). option_map (λ z. z *ℤ pos (unit_of p.layout pack (of_item place))) o) (fill.new (λ picture digits scale k. edited_apart p place digits scale picture k (of.homes at (of_item place) f))))
            (slice_get_within pack at (of_item place) f)
            (λ k h ne k_is is_left. fill.others h (other_test h is_left (other_cell p pack of (of_item place) h at k f k_is ne)) 0 (first_home p.layout g.sound.items h))
            (cell_stands at f is.v (amount_meant p statement a x done place y t m g q unzero is.v is.worth_) (amount_form p pack t wrote place y) shown)

    -- it may be stored, or not
    lost_stored : (held : List ℕ) → Gets held → PackStands p.layout pack (lost_pack p a x place pack w) (storage (filled_at p.layout m.storage place held) m.counts)
    lost_stored held is =
        homes_left p.layout pack (is_lost p a x place) (storage m.storage m.counts) (storage (filled_at p.layout m.storage place held) m.counts) w
        (λ k h f is_left. (filled held is).others h (lost_test h is_left) 0 (first_home p.layout g.sound.items h)) stands

    lost_kept : PackStands p.layout pack (lost_pack p a x place pack w) (storage m.storage m.counts)
    lost_kept = homes_left p.layout pack (is_lost p a x place) (storage m.storage m.counts) (storage m.storage m.counts) w (λ k h f is_left. refl) stands

  -- ---- the matrix behind the store

  module _ (pack : Pack) (of : IsPackOf p pack) (few : size_of pack ≤ 8) (wrote : List Extent) (w : List ℤ) (stands : PackStands p.layout pack w (storage m.storage m.counts))
      (there : m.by_zero ≡ false → (v : Fraction) → amount p.layout m y ≡ Some v → has_operands p t wrote y ≡ true)
      (shown : m.by_zero ≡ false → (v : Fraction) → amount p.layout m y ≡ Some v → IfSome (amount_form p pack t wrote place y) (ShowsValueAt p.layout pack m v)) where
    abbrev Behind : Moment → Type 0
    Behind n = PackStands p.layout pack (pack_behind_store p a x t wrote place mode y pack w) (storage n.storage n.counts)

    abbrev Outcome : Bool → Bool → Moment → Type 0
    Outcome fails fits n = PackStands p.layout pack (by_outcome fails fits (stored_pack p a x t wrote place mode y pack w) (lost_pack p a x place pack w) w) (storage n.storage n.counts)

    kept : may_fail p a x t place mode y ≡ true → Behind m
    kept fails = subst (λ (b : Bool). Outcome b (may_fit p a x t place mode y) m) (sym fails) (by_fit (may_fit p a x t place mode y))
      where
        by_fit : (b : Bool) → Outcome true b m
        by_fit true = lost_kept pack of few wrote w stands
        by_fit false = stands

    fitted : keeps_receiver a x ≡ false → (held : List ℕ) → m.by_zero ≡ false → stored_bytes p.layout m place mode y ≡ Some held → Behind (with_storage m (filled_at p.layout m.storage place held))
    fitted off held unzero e = by_flags (may_fail p a x t place mode y) (may_fit p a x t place mode y) refl
      where
        is : Gets held
        is = gets held e

        never : {A : Type 0} (P : A → Type 0) (o : Option A) → IsSomeAnd o P → is_some o ≡ false → ⊥
        never P None h f = h
        never P (Some c) h f = cc

        by_flags : (b c : Bool) → may_fit p a x t place mode y ≡ c → Outcome b c (with_storage m (filled_at p.layout m.storage place held))
        by_flags false c f = stored_stands pack of few wrote w stands held is unzero (there unzero is.v is.worth_) (shown unzero is.v is.worth_)
        by_flags true true f = lost_stored pack of few wrote w stands held is
        by_flags true false f = absurd (never (λ i. (z : ℤ) × Holds i z × (held ≡ bytes_of (form_at p.layout place) z)) (result_at p a x t place mode y) (result_meant cell_laws p statement a x done place mode y t m g q off held unzero e) f)

    pub store_stands : (n : Moment) → (handled p a x ≡ false → m.by_zero ≡ false) → (keeps_receiver a x ≡ true → FailsAt p.layout (store place mode y) m) → Stores p.layout (handled p a x) place mode y m n → Behind n
    store_stands n off_zero fails h = each_outcome cell_laws p statement a x done place mode y t m g q Behind kept kept fitted n off_zero fails h

  -- ---- storage behind the store

  pub record IsChanged (n : Moment) : Type 0 where
    pub first : n.first ≡ m.first
    pub others : (other j : ℕ) → j < times_at p.layout other → is_beside p.layout place (of_item other) ≡ false
        → occurrence_number p.layout n.storage other j ≡ occurrence_number p.layout m.storage other j

  unchanged : IsChanged m
  unchanged = record { first = refl; others = λ other j less e. refl }

  filled_changes : (held : List ℕ) → stored_bytes p.layout m place mode y ≡ Some held → IsChanged (with_storage m (filled_at p.layout m.storage place held))
  filled_changes held e = record {
    first = refl;
    others = λ other j less apart.
        ap (option_map (scaled_by (scale_of (form_at p.layout other)))) ((filled held (gets held e)).others (of_item other) apart j less);
  }

  pub store_changes : (n : Moment) → Stores p.layout (handled p a x) place mode y m n → IsChanged n
  store_changes n h = by_edge (handled p a x) h
    where
      by_bytes : (o : Option (List ℕ)) → stored_bytes p.layout m place mode y ≡ o → IsChanged (stored_or_kept p.layout m place o)
      by_bytes None e = record { first = refl; others = λ other j less apart. refl }
      by_bytes (Some held) e = filled_changes held e

      by_alone : (b : Bool) → IsChanged (if b then m else stored_or_kept p.layout m place (stored_bytes p.layout m place mode y))
      by_alone true = unchanged
      by_alone false = by_bytes (stored_bytes p.layout m place mode y) refl

      by_edge : (b : Bool) → Stores p.layout b place mode y m n → IsChanged n
      by_edge true k = subst IsChanged (sym k) (by_alone (is_left_alone m y))
      by_edge false (held, e, k) = subst IsChanged (sym k) (filled_changes held e)
