-- What each part of an edge makes of what is known of differences before it (Miné 2001).
use Rattle.std.specs.Prelude.{ℕ, suc, ◌&&◌, ◌||◌, not, if◌then◌else◌, Bool, true, false, List, [], ◌∷◌, ◌++◌, ℤ, Option, Some, None}
use Rattle.dec_num.specs.declared.types.Mode.{Mode}
use Rattle.cob_data.specs.declared.extent.Extent.{Extent}
use Rattle.cob_program.specs.Values.{◌>>=◌}
use Rattle.cob_program.specs.Logic.{Test, numbers}
use Rattle.cob_program.specs.Act.{Act, Program}
use Rattle.cob_runs.specs.declared.action.Action.{Action}
use Rattle.cob_runs.specs.Contents.{form_at}
use Rattle.cob_edge_parts.specs.Parts.{Amount, Part, store, bytes_in, guard, set_count, count_down}
use Rattle.diff_bounds.specs.declared.form.lin.Lin.{Lin}
use Rattle.transfer_ranges.specs.Receivers.{receiver_of}
use Rattle.interval_domain.specs.Known.{Known}
use Rattle.cob_graph.specs.declared.homes.Home.{Home}
use Rattle.cob_graph.specs.declared.homes.Home.TheVariants.{Item as of_item, Count as of_count}
use Rattle.cob_graph.specs.Homes.{is_home, homes_of}
use Rattle.cell_steps.specs.Cells.{is_in_extent, bytes_from, is_beside}
use Rattle.cell_steps.specs.Seen.{Seen}
use Rattle.cell_steps.specs.Stores.{range_at, keeps_receiver, with_taken, amount_at, may_fail, may_fit}
use Rattle.cell_steps.specs.Steps.{step}
use Rattle.diff_steps.specs.Packs.{Pack, size_of, cell_of, pack_decimals, unit_of}
use Rattle.diff_steps.specs.Matrices.{put_closed, forgotten, bottom}
use Rattle.diff_steps.specs.Moments.{Seen2, with_packs, item_bytes}
use Rattle.diff_steps.specs.Forms.{amount_form, set_form, lowered_form, cell_at, has_operands}
use Rattle.diff_steps.specs.Stores.{known_of_amount, assigned_or_forgotten, form_stored, forgotten_cells}
use Rattle.diff_steps.specs.Guards.{related}

-- ---- each pack

abbrev pub each_pack : (Pack → List ℤ → List ℤ) → List Pack → List (List ℤ) → List (List ℤ)
each_pack change (pack ∷ packs) (m ∷ ms) = change pack m ∷ each_pack change packs ms
each_pack change _ ms = ms

-- Lowered to what is known of the cells, and closed; nothing where a cycle of a pack is negative.
abbrev pub all_closed : Program → List Known → List Pack → List (List ℤ) → Option (List (List ℤ))
all_closed p known [] ms = Some []
all_closed p known (pack ∷ packs) [] = None
all_closed p known (pack ∷ packs) (m ∷ ms) =
    put_closed p.layout (homes_of p) known pack m >>= λ c. all_closed p known packs ms >>= λ cs. Some (c ∷ cs)

-- ---- stores

-- by whether the receiver may keep its value, and whether the store may fit
abbrev pub by_outcome : Bool → Bool → List ℤ → List ℤ → List ℤ → List ℤ
by_outcome false fits stored lost kept = stored
by_outcome true true stored lost kept = lost
by_outcome true false stored lost kept = kept

module _ (p : Program) (a : Act) (x : Action) where
  -- an item that has bytes of the receiver's
  abbrev pub is_other : ℕ → Home → Bool
  is_other place h = is_beside p.layout place h && not (is_home h (of_item place))

  -- the receiver's cell, where it has one and its new value a form
  abbrev pub form_at_cell : Seen → ℕ → Mode → Amount → Pack → ℕ → Option Lin → List ℤ → List ℤ
  form_at_cell t place mode y pack to None m = forgotten (size_of pack) to m
  form_at_cell t place mode y pack to (Some form) m =
      form_stored (size_of pack) to (receiver_of (form_at p.layout place)).signed mode (unit_of p.layout pack (of_item place))
      (known_of_amount (size_of pack) m form (receiver_of (form_at p.layout place)).scale (amount_at p a x t place y)) form m

  abbrev pub stored_cell : Seen → List Extent → ℕ → Mode → Amount → Pack → Option ℕ → List ℤ → List ℤ
  stored_cell t wrote place mode y pack None m = m
  stored_cell t wrote place mode y pack (Some k) m = form_at_cell t place mode y pack (suc k) (amount_form p pack t wrote place y) m

  -- What else has bytes of the item is forgotten.
  abbrev pub stored_pack : Seen → List Extent → ℕ → Mode → Amount → Pack → List ℤ → List ℤ
  stored_pack t wrote place mode y pack m =
      if has_operands p t wrote y
      then forgotten_cells (size_of pack) (is_other place) 1 pack (stored_cell t wrote place mode y pack (cell_of pack (of_item place)) m)
      else bottom (size_of pack)

  -- the receiver's cell, and what has bytes of it
  abbrev pub is_lost : ℕ → Home → Bool
  is_lost place h = is_home h (of_item place) || is_beside p.layout place h

  abbrev pub lost_pack : ℕ → Pack → List ℤ → List ℤ
  lost_pack place pack m = forgotten_cells (size_of pack) (is_lost place) 1 pack m

  abbrev pub pack_behind_store : Seen → List Extent → ℕ → Mode → Amount → Pack → List ℤ → List ℤ
  pack_behind_store t wrote place mode y pack m =
      by_outcome (may_fail p a x t place mode y) (may_fit p a x t place mode y) (stored_pack t wrote place mode y pack m)
      (lost_pack place pack m) m

  -- ---- counters

  abbrev pub counter_stored : ℕ → Option Lin → Pack → Option ℕ → List ℤ → List ℤ
  counter_stored statement form pack None m = m
  counter_stored statement form pack (Some k) m = assigned_or_forgotten (size_of pack) (suc k) form m

  abbrev pub counted_pack : ℕ → Option Lin → Pack → List ℤ → List ℤ
  counted_pack statement form pack m = counter_stored statement form pack (cell_of pack (of_count statement)) m

  -- ---- parts

  abbrev pub guarded_pack : Seen → Test → Bool → Pack → List ℤ → List ℤ
  guarded_pack s (numbers b r c) wanted pack m =
      related (pack_decimals p.layout pack) (cell_at p pack s []) (range_at p s.cells) (size_of pack) b r c wanted m
  guarded_pack s t wanted pack m = m

  -- what a part does to a pack
  abbrev pub changed_pack : Part → Seen → List Extent → Pack → List ℤ → List ℤ
  changed_pack (store place mode y) s wrote pack m = pack_behind_store (with_taken p a x s) wrote place mode y pack m
  changed_pack (bytes_in offset count) s wrote pack m =
      forgotten_cells (size_of pack) (is_in_extent p.layout (bytes_from offset count)) 1 pack m
  changed_pack (guard t wanted) s wrote pack m = guarded_pack s t wanted pack m
  changed_pack (set_count statement y) s wrote pack m =
      counted_pack statement (set_form p pack (with_taken p a x s) wrote y) pack m
  changed_pack (count_down statement) s wrote pack m = counted_pack statement (lowered_form p pack s wrote statement) pack m
  changed_pack _ s wrote pack m = m

  -- The bytes that a part writes to. On an edge that keeps its receiver a store fails, and writes nothing.
  abbrev pub written_by : Part → List Extent
  written_by (store place mode y) = if keeps_receiver a x then [] else item_bytes p.layout place
  written_by (bytes_in offset count) = bytes_from offset count ∷ []
  written_by _ = []

  -- Forms are read from what is seen before the part, and from the matrices as they were.
  abbrev pub changed : List Pack → Part → Seen → Seen2 → Seen2
  changed packs y s r = record { wrote = written_by y ++ r.wrote; packs = each_pack (changed_pack y s r.wrote) packs r.packs }

  -- Beside what is seen of the cells. Nothing where no run passes the part.
  abbrev pub step2 : List Pack → Part → Seen → Seen2 → Option (Seen × Seen2)
  step2 packs y s r =
      step p a x y s >>= λ t. all_closed p t.cells packs (changed packs y s r).packs >>= λ ms. Some (t, with_packs (changed packs y s r) ms)
