-- What is known of cells where a run begins is true of first storage, and lies in the cells' own ranges.
use Rattle.std.proofs.Common.{◌≡◌, ◌<◌, ◌⊎◌, inl, inr, ℕ, zero, suc, Bool, true, false, if◌then◌else◌, List, [], ◌∷◌, map, length, Option, Some, None, ℤ, refl, sym, ap, subst, ◌∙◌, arith}
use Rattle.std.specs.Option.{option_map_or}
use Rattle.std.proofs.Props.{props}
use Rattle.std.proofs.Math.Logic.{∥∥₁_elim}
use Rattle.std.proofs.lemmas.Int.{ints}
use Rattle.std.proofs.lemmas.Slice.Eq.{bytes_eq-Decides}
use Rattle.cob_data.specs.declared.layout.Item.{Item}
use Rattle.cob_data.specs.declared.layout.Layout.{Layout}
use Rattle.cob_data.specs.Extents.{start_of}
use Rattle.cob_data.specs.Occurrences.{extent_of}
use Rattle.cob_data.proofs.ExtentStarts.{last_or_before}
use Rattle.num_bytes.specs.Reading.{contents_value}
use Rattle.cob_program.specs.Act.{Program}
use Rattle.cob_program.specs.Values.{◌>>=◌}
use Rattle.cob_runs.specs.Contents.{area, item_at, form_at, times_at, occurrence_bytes}
use Rattle.cob_runs.specs.Runs.{first_storage}
use Rattle.cob_graph.specs.declared.graph.Graph.{Graph}
use Rattle.interval_domain.specs.declared.bounds.Interval.{Interval}
use Rattle.interval_domain.specs.Bounds.{Holds}
use Rattle.dom_laws.specs.Meaning.{Storage}
use Rattle.interval_domain.specs.Known.{Known, KnownFits, joined_known}
use Rattle.interval_domain.specs.Elements.{CellsFit}
use Rattle.interval_domain.proofs.OneKnown.{known_join_left, known_join_right, known_join_fits}
use Rattle.graph_runs.specs.Sources.{IsSourceGraph}
use Rattle.graph_runs.specs.Doing.{Begins}
use Rattle.cob_edge_parts.specs.Counters.{IsCounted}
use Rattle.graph_runs.proofs.Counting.{begins_counted}
use Rattle.data_laws.proofs.Stored.{first_storage_is_whole}
use Rattle.cob_graph.specs.declared.homes.Home.{Home}
use Rattle.cob_graph.specs.declared.homes.Home.TheVariants.{Item as of_item, Count as of_count}
use Rattle.cob_graph.specs.Homes.{is_home, homes_of}
use Rattle.cell_steps.specs.OwnRanges.{form_range, home_range, owns}
use Rattle.cell_steps.specs.Storages.{known_of, value_at, KnownStands, HomeStands, StandsIn}
use Rattle.cell_laws.proofs.CellLists.{home_is}
use Rattle.cell_laws.proofs.HomesStand.{stands_above}
use Rattle.cell_laws.proofs.FirstBytes.{over_length, filled_bytes_stand}
use Rattle.cell_laws.proofs.Sound.{items_are_sound}
use Rattle.cell_laws.specs.Entry.{values_over, is_filled, first_number, point, least_of, entry_known, entry_cells}

-- ---- the least interval of some numbers

module _ (number : ℕ → Option ℤ) where
  point_stands : (read : ℕ → Option ℤ) (n : ℕ) → ((z : ℤ) → number n ≡ Some z → read n ≡ Some z) → KnownStands (number n >>= point) (read n)
  point_stands read n same = go (number n) refl
    where
      go : (o : Option ℤ) → number n ≡ o → KnownStands (o >>= point) (read n)
      go None e = tt
      go (Some z) e = subst (KnownStands (point z)) (sym (same z e)) (omega (arith, ints), omega (arith, ints))

  -- It stands for each of them.
  pub least_stands : (read : ℕ → Option ℤ) (count : ℕ) → ((n : ℕ) (z : ℤ) → n < count → number n ≡ Some z → read n ≡ Some z) → (n : ℕ) → n < count → KnownStands (least_of number count) (read n)
  least_stands read zero same n less = tt
  least_stands read (suc zero) same n less =
      let first : 0 ≡ n = omega (arith, less) in
      subst (λ (k : ℕ). KnownStands (number 0 >>= point) (read k)) first (point_stands read 0 (λ z. same 0 z (omega arith)))
  least_stands read (suc (suc k)) same n less =
      by (last_or_before n (suc k) less) (λ before. least_stands read (suc k) (λ j z below. same j z (omega (arith, below))) n before)
    where
      by : (n < suc k) ⊎ (n ≡ suc k) → (n < suc k → KnownStands (least_of number (suc k)) (read n)) → KnownStands (joined_known (least_of number (suc k)) (number (suc k) >>= point)) (read n)
      by (inl before) earlier =
          stands_above (least_of number (suc k)) (joined_known (least_of number (suc k)) (number (suc k) >>= point)) (read n)
          (known_join_left (least_of number (suc k)) (number (suc k) >>= point)) (earlier before)
      by (inr last) earlier =
          stands_above (number (suc k) >>= point) (joined_known (least_of number (suc k)) (number (suc k) >>= point)) (read n)
          (known_join_right (least_of number (suc k)) (number (suc k) >>= point))
          (subst (λ (j : ℕ). KnownStands (number (suc k) >>= point) (read j)) (sym last) (point_stands read (suc k) (λ z. same (suc k) z (omega arith))))

  point_fits : (own : Interval) (n : ℕ) → ((z : ℤ) → number n ≡ Some z → Holds own z) → KnownFits own (number n >>= point)
  point_fits own n inside = go (number n) refl
    where
      go : (o : Option ℤ) → number n ≡ o → KnownFits own (o >>= point)
      go None e = tt
      go (Some z) e = let h = inside z e in (h.0, omega (arith, ints), h.1)

  -- It lies where each of them does.
  pub least_fits : (own : Interval) (count : ℕ) → ((n : ℕ) (z : ℤ) → n < count → number n ≡ Some z → Holds own z) → KnownFits own (least_of number count)
  least_fits own zero inside = tt
  least_fits own (suc zero) inside = point_fits own 0 (λ z. inside 0 z (omega arith))
  least_fits own (suc (suc k)) inside =
      known_join_fits own (least_of number (suc k)) (number (suc k) >>= point)
      (least_fits own (suc k) (λ n z below. inside n z (omega (arith, below)))) (point_fits own (suc k) (λ z. inside (suc k) z (omega arith)))

-- ---- filled bytes

module _ (l : Layout) (place n : ℕ) where
  -- what an occurrence is read as whose bytes are filled
  number_is : (z : ℤ) → first_number l place n ≡ Some z → (is_filled l place n ≡ true) × (contents_value (form_at l place) (occurrence_bytes l (values_over l 0) place n) ≡ Some z)
  number_is z = go (is_filled l place n) refl
    where
      go : (b : Bool) → is_filled l place n ≡ b → (if b then contents_value (form_at l place) (occurrence_bytes l (values_over l 0) place n) else None) ≡ Some z
          → (is_filled l place n ≡ true) × (contents_value (form_at l place) (occurrence_bytes l (values_over l 0) place n) ≡ Some z)
      go true e f = (e, f)
      go false e f = absurd cc

  filled_stands : (first : List ℕ) → is_filled l place n ≡ true → occurrence_bytes l (first_storage l first) place n ≡ occurrence_bytes l (values_over l 0) place n
  filled_stands first filled = go (item_at l place) ((bytes_eq-Decides (occurrence_bytes l (values_over l 0) place n) (occurrence_bytes l (values_over l 1) place n)).0 filled)
    where
      bytes : Option Item → List ℕ → List ℕ
      bytes o storage = option_map_or (λ i. area storage (start_of (extent_of i) n) i.length) o []

      go : (o : Option Item) → bytes o (values_over l 0) ≡ bytes o (values_over l 1) → bytes o (first_storage l first) ≡ bytes o (values_over l 0)
      go None e = refl
      go (Some i) e = filled_bytes_stand l first (start_of (extent_of i) n) i.length e

-- ---- own ranges

module _ (p : Program) (g : Graph) where
  own_at_first : (place n : ℕ) (z : ℤ) → n < times_at p.layout place → first_number p.layout place n ≡ Some z → IsSourceGraph p g → Holds (form_range (form_at p.layout place)) z
  own_at_first place n z less e source =
      let l = p.layout in
      (items_are_sound l source.items source.signs).own place n (values_over l 0) z
      (over_length l [] ∙ first_storage_is_whole l [] source.items) less (number_is l place n z e).1

  known_fits : ∥ IsSourceGraph p g ∥₁ → (h : Home) → KnownFits (home_range p.layout h) (entry_known p.layout h)
  known_fits source (of_item place) =
      least_fits (first_number p.layout place) (home_range p.layout (of_item place)) (times_at p.layout place)
      (λ n z less e. ∥∥₁_elim source (hlevel props) (λ (s : IsSourceGraph p g). own_at_first place n z less e s))
  known_fits source (of_count statement) = tt

  cells_fit : ∥ IsSourceGraph p g ∥₁ → (hs : List Home) → CellsFit (map (home_range p.layout) hs) (map (entry_known p.layout) hs)
  cells_fit source [] = tt
  cells_fit source (h ∷ hs) = (known_fits source h, cells_fit source hs)

  pub entry_fits : ∥ IsSourceGraph p g ∥₁ → CellsFit (owns p) (entry_cells p)
  entry_fits source = cells_fit source (homes_of p)

-- ---- first storage

-- what is known of a home is what is known of its own cell
known_of_each : (f : Home → Known) (P : Known → Type 0) (h : Home) → P None → P (f h) → (hs : List Home) → P (known_of hs (map f hs) h)
known_of_each f P h none some [] = none
known_of_each f P h none some (k ∷ hs) = by_home (is_home k h) refl (known_of_each f P h none some hs)
  where
    by_home : (b : Bool) → is_home k h ≡ b → P (known_of hs (map f hs) h) → P (if b then f k else known_of hs (map f hs) h)
    by_home true e rest = subst (λ (j : Home). P (f j)) (sym (home_is k h e)) some
    by_home false e rest = rest

known_stands : (l : Layout) (first : List ℕ) (s : Storage) → s.bytes ≡ first_storage l first → (h : Home) → HomeStands l s (entry_known l h) h
known_stands l first s same (of_item place) =
    least_stands (first_number l place) (value_at l s (of_item place)) (times_at l place) reads
  where
    reads : (n : ℕ) (z : ℤ) → n < times_at l place → first_number l place n ≡ Some z → value_at l s (of_item place) n ≡ Some z
    reads n z less e =
        let is = number_is l place n z e in
        ap (contents_value (form_at l place)) (ap (λ b. occurrence_bytes l b place n) same ∙ filled_stands l place n first is.0) ∙ is.1
known_stands l first s same (of_count statement) = λ n less. tt

module _ (p : Program) (g : Graph) (s : Storage) (begins : Begins p g s) where
  abbrev l : Layout
  l = p.layout

  pub entry_stands : StandsIn p (entry_cells p) s
  entry_stands = record {
    whole = ap length begins.bytes ∙ first_storage_is_whole l begins.first begins.of_source.items;
    counted = subst (IsCounted p) (sym begins.counters) (begins_counted p begins.of_source.numbers);
    known = λ h. known_of_each (entry_known l) (λ c. HomeStands l s c h) h (λ n less. tt) (known_stands l begins.first s begins.bytes h) (homes_of p);
  }
