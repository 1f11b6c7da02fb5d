-- What matrices show of a subscript: where its ends are those of occurrences, no run meets its fault.
use Rattle.std.proofs.Common.{◌≡◌, ◌≤◌, ℕ, ◌*◌, ◌^◌, Bool, true, false, ◌||◌, ◌⊎◌, if◌then◌else◌, inl, inr, List, [], Option, Some, None, Err, ℤ, pos, neg_ℤ, ◌*ℤ◌, ◌≤ℤ◌, refl, ap, subst, ◌∙◌, arith}
use Rattle.std.specs.Prelude.{IfSome, int_le}
use Rattle.std.proofs.lemmas.Int.{ints}
use Rattle.dec_num.specs.declared.types.Scaled.{Scaled}
use Rattle.dec_num.proofs.Powers.{ten_positive}
use Rattle.cob_tree.specs.declared.fault.Kind.{Kind}
use Rattle.cob_data.specs.declared.layout.Sender.TheVariants as sender
use Rattle.interval_domain.specs.declared.bounds.Interval.{Interval}
use Rattle.interval_domain.specs.Bounds.{Holds}
use Rattle.cob_program.specs.Values.{◌>>=◌}
use Rattle.cob_program.specs.Act.{Act, Program}
use Rattle.cob_runs.specs.declared.action.Action.{Action}
use Rattle.cob_runs.specs.Subscripts.{in_table}
use Rattle.cob_edge_parts.specs.Parts.{Part}
use Rattle.cob_edge_parts.specs.Meaning.{Moment, subscript_in}
use Rattle.diff_bounds.specs.declared.form.lin.Lin.{Lin}
use Rattle.diff_bounds.specs.Upper.{upper_of}
use Rattle.diff_bounds.proofs.Scales.{times_cancel}
use Rattle.cob_graph.specs.declared.homes.Home.TheVariants.{Item as of_item}
use Rattle.cob_graph.specs.Homes.{homes_of}
use Rattle.cell_steps.specs.Storages.{storage}
use Rattle.cell_steps.specs.Cells.{units_of}
use Rattle.cell_steps.specs.Seen.{Seen}
use Rattle.cell_laws.proofs.OperandsRise.{or_either}
use Rattle.cell_laws.proofs.PartsDone.{both_true}
use Rattle.cell_laws.proofs.Subscripts.{subscript_holds, not_found}
use Rattle.diff_steps.specs.Packs.{Pack, size_of, pack_decimals, cells_in, PackStands}
use Rattle.diff_steps.specs.Moments.{Seen2}
use Rattle.diff_steps.specs.Stores.{upper_negated}
use Rattle.diff_steps.specs.Forms.{is_whole_sender, own_form, subscript_form}
use Rattle.diff_steps.specs.Clearing.{high_in_table, low_in_table, high_found, low_found, ends_in_table}
use Rattle.pack_laws.specs.Agreeing.{ArePacksOf, Agrees2}
use Rattle.pack_laws.specs.Showing.{ShowsAt}
use Rattle.pack_laws.proofs.FormsShowSums.{item_told}
use Rattle.pack_laws.proofs.FormsShowMoments.{shows}
use Rattle.pack_laws.proofs.PacksKeep.{whole_scale}
use Rattle.pack_laws.proofs.PacksClearEnds.{shown_under, shown_over, some_shows}

-- ---- bounds in units of ten to a power

module _ (z u : ℤ) (f scale : ℕ) (whole : scale ≡ 0) where
  at_scale : (x : ℤ) → x *ℤ pos (10 ^ scale) ≡ x
  at_scale x = ap (λ (n : ℕ). x *ℤ pos (10 ^ n)) whole ∙ alone x
    where
      alone : (x : ℤ) → x *ℤ pos 1 ≡ x
      alone x = omega (arith, ints)

  high_by : (count : ℕ) → (z *ℤ pos (10 ^ f)) ≤ℤ (u *ℤ pos (10 ^ scale)) → int_le u (pos (count * 10 ^ f)) ≡ true → z ≤ℤ pos count
  high_by count under e = times_cancel z (pos count) (10 ^ f) (ten_positive f) (below (z *ℤ pos (10 ^ f)) (pos (count * 10 ^ f)) (subst (λ (y : ℤ). (z *ℤ pos (10 ^ f)) ≤ℤ y) (at_scale u) under) e)
    where
      below : (x y : ℤ) → x ≤ℤ u → int_le u y ≡ true → x ≤ℤ y
      below x y a b = omega (arith, ints, a, b)

  low_by : (neg_ℤ u *ℤ pos (10 ^ scale)) ≤ℤ (z *ℤ pos (10 ^ f)) → int_le u (neg_ℤ (pos (10 ^ f))) ≡ true → pos 1 ≤ℤ z
  low_by over e = times_cancel (pos 1) z (10 ^ f) (ten_positive f) (above (10 ^ f) (z *ℤ pos (10 ^ f)) (subst (λ (y : ℤ). y ≤ℤ (z *ℤ pos (10 ^ f))) (at_scale (neg_ℤ u)) over) e)
    where
      above : (n : ℕ) (x : ℤ) → neg_ℤ u ≤ℤ x → int_le u (neg_ℤ (pos n)) ≡ true → (pos 1 *ℤ pos n) ≤ℤ x
      above n x a b = omega (arith, ints, a, b)

module _ (p : Program) (packs : List Pack) (of : ArePacksOf p packs) (statement : ℕ) (a : Act) (x : Action) where
  module _ (done : List Part) (k : ℕ) (s : Seen) (r : Seen2) (m : Moment) (v : Scaled) (g : Agrees2 p packs statement a x done s r m) (has : subscript_in p.layout m k ≡ Some v) where
    -- the form shows the number, which has no decimals
    abbrev ShowsWhole : Pack → Option Lin → Type 0
    ShowsWhole pack o = IfSome o (λ form. (v.scale ≡ 0) × ShowsAt p.layout pack m v form)

    shown : (pack : Pack) → size_of pack ≤ 8 → ShowsWhole pack (subscript_form p pack s [] k)
    shown pack few = by_scale (is_whole_sender p.layout (sender.Item k)) refl
      where
        of_own : (o : Option Lin) → v.scale ≡ 0 → IfSome o (ShowsAt p.layout pack m v) → ShowsWhole pack o
        of_own None whole h = tt
        of_own (Some form) whole h = (whole, h)

        by_scale : (b : Bool) → is_whole_sender p.layout (sender.Item k) ≡ b → ShowsWhole pack (if b then own_form p pack s [] k else None)
        by_scale true e =
            of_own (own_form p pack s [] k) (whole_scale p.layout m.storage (sender.Item k) v e has)
            (shows p statement a x pack few done s m g.cells (own_form p pack s [] k) v
            (item_told p g.cells.sound.items s.cells m.storage m.counts g.cells.stands pack few k v has))
        by_scale false e = tt

    high_holds : (count : ℕ) → high_found p packs r.packs (λ pack. subscript_form p pack s [] k) count ≡ true → v.units ≤ℤ pos count
    high_holds count e =
        some_shows p (storage m.storage m.counts) (λ pack w. high_in_table count (pack_decimals p.layout pack) (subscript_form p pack s [] k >>= upper_of (size_of pack) w)) (v.units ≤ℤ pos count)
        (λ pack w is few stands f. by_form pack w few stands (subscript_form p pack s [] k) (shown pack few) f) packs r.packs of g.matrices g.stand e
      where
        by_form : (pack : Pack) (w : List ℤ) → size_of pack ≤ 8 → PackStands p.layout pack w (storage m.storage m.counts) → (o : Option Lin) → ShowsWhole pack o
            → high_in_table count (pack_decimals p.layout pack) (o >>= upper_of (size_of pack) w) ≡ true → v.units ≤ℤ pos count
        by_form pack w few stands None h f = absurd cc
        by_form pack w few stands (Some form) (whole, is) f = by_bound (upper_of (size_of pack) w form) refl f
          where
            by_bound : (o : Option ℤ) → upper_of (size_of pack) w form ≡ o → high_in_table count (pack_decimals p.layout pack) o ≡ true → v.units ≤ℤ pos count
            by_bound None same f = absurd cc
            by_bound (Some u) same f =
                high_by v.units u (pack_decimals p.layout pack) v.scale whole count
                (shown_under (size_of pack) w (cells_in p.layout pack (storage m.storage m.counts)) few stands (pack_decimals p.layout pack) form v is u same) f

    low_holds : low_found p packs r.packs (λ pack. subscript_form p pack s [] k) ≡ true → pos 1 ≤ℤ v.units
    low_holds e =
        some_shows p (storage m.storage m.counts) (λ pack w. low_in_table (pack_decimals p.layout pack) (subscript_form p pack s [] k >>= upper_negated (size_of pack) w)) (pos 1 ≤ℤ v.units)
        (λ pack w is few stands f. by_form pack w few stands (subscript_form p pack s [] k) (shown pack few) f) packs r.packs of g.matrices g.stand e
      where
        by_form : (pack : Pack) (w : List ℤ) → size_of pack ≤ 8 → PackStands p.layout pack w (storage m.storage m.counts) → (o : Option Lin) → ShowsWhole pack o
            → low_in_table (pack_decimals p.layout pack) (o >>= upper_negated (size_of pack) w) ≡ true → pos 1 ≤ℤ v.units
        by_form pack w few stands None h f = absurd cc
        by_form pack w few stands (Some form) (whole, is) f = by_bound (upper_negated (size_of pack) w form) refl f
          where
            by_bound : (o : Option ℤ) → upper_negated (size_of pack) w form ≡ o → low_in_table (pack_decimals p.layout pack) o ≡ true → pos 1 ≤ℤ v.units
            by_bound None same f = absurd cc
            by_bound (Some u) same f =
                low_by v.units u (pack_decimals p.layout pack) v.scale whole
                (shown_over (size_of pack) w (cells_in p.layout pack (storage m.storage m.counts)) few stands (pack_decimals p.layout pack) form v is u same) f

  pub index_stands_clear : (done : List Part) (k count : ℕ) (s : Seen) (r : Seen2) (m : Moment) (v : Scaled) (fault : Kind) → Agrees2 p packs statement a x done s r m
      → ends_in_table p packs r.packs (λ pack. subscript_form p pack s [] k) count (units_of p.layout (homes_of p) s.cells (of_item k)) ≡ true
      → subscript_in p.layout m k ≡ Some v → in_table count v.units ≡ Err fault → ⊥
  index_stands_clear done k count s r m v fault g clear has none =
      let two = both_true (int_le i.high (pos count) || high_found p packs r.packs form count) (int_le (pos 1) i.low || low_found p packs r.packs form) clear in
      not_found count v.units fault none
      (at_low (or_either (int_le (pos 1) i.low) (low_found p packs r.packs form) two.1), at_high (or_either (int_le i.high (pos count)) (high_found p packs r.packs form count) two.0))
    where
      form : Pack → Option Lin
      form pack = subscript_form p pack s [] k

      i : Interval
      i = units_of p.layout (homes_of p) s.cells (of_item k)

      held : Holds i v.units
      held = subscript_holds p statement a x done k s m v g.cells has

      at_low : (int_le (pos 1) i.low ≡ true) ⊎ (low_found p packs r.packs form ≡ true) → pos 1 ≤ℤ v.units
      at_low (inl e) = let l = held.0 in omega (arith, ints, l, e)
      at_low (inr e) = low_holds done k s r m v g has e

      at_high : (int_le i.high (pos count) ≡ true) ⊎ (high_found p packs r.packs form count ≡ true) → v.units ≤ℤ pos count
      at_high (inl e) = let h = held.1 in omega (arith, ints, h, e)
      at_high (inr e) = high_holds done k s r m v g has count e
