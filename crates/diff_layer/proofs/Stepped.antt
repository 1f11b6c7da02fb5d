-- A part that both rows are led over.
use Rattle.std.proofs.Common.{◌≡◌, Bool, true, false, if◌then◌else◌, List, ◌++◌, ℤ, Option, Some, None, refl, sym, ap, subst, ◌∙◌}
use Rattle.std.specs.Prelude.{IfSome}
use Rattle.std.proofs.Props.{props}
use Rattle.std.proofs.Math.Logic.{∥∥₁_elim}
use Rattle.cob_data.specs.declared.extent.Extent.{Extent}
use Rattle.cob_program.specs.Values.{◌>>=◌}
use Rattle.cob_program.specs.Act.{Act, Program}
use Rattle.cob_runs.specs.declared.action.Action.{Action}
use Rattle.cob_edge_parts.specs.Parts.{Amount, moved, computed, remaining, augmented, Part, read, unread, subscript, index, divide, store, bytes_in, guard, read_count, set_count, count_down, guard_count}
use Rattle.transfer_ranges.specs.declared.amounts.Taken.{Taken}
use Rattle.transfer_ranges.specs.Working.{CanWork}
use Rattle.interval_domain.specs.Known.{Known}
use Rattle.cell_steps.specs.Agreeing.{of_operands}
use Rattle.cell_steps.specs.Seen.{Seen}
use Rattle.cell_steps.specs.Stores.{range_at, keeps_receiver, taking}
use Rattle.cell_laws.specs.Sizes.{IsSmallPart}
use Rattle.cell_layer.specs.Latest.{Latest, latest_behind}
use Rattle.cell_layer.specs.Walks.{trimmed, with_taken_small, step_small, CanStep}
use Rattle.cell_layer.proofs.Stepping.{taken_can, taken_written, can_work}
use Rattle.diff_steps.specs.Packs.{Pack}
use Rattle.diff_steps.specs.Moments.{Seen2, with_packs}
use Rattle.diff_steps.specs.Steps.{each_pack, all_closed, changed_pack, changed, written_by}
use Rattle.diff_layer.specs.Sizes.{HasSmallTop}
use Rattle.diff_layer.specs.PackWriting.{amount_items, are_written}
use Rattle.diff_layer.proofs.KeptSmall.{kept_small}
use Rattle.diff_layer.specs.Clears.{IsSetCount}
use Rattle.diff_layer.specs.Parts.{IsOfEdge, IsWrittenTo, CanChange, plan_changed}
use Rattle.diff_layer.specs.Walks.{seen2, passed_to, step2_small}
use Rattle.diff_layer.specs.Writing.{edge_items, items_of_amount, part_bytes}
use Rattle.diff_layer.proofs.Changed.{stored_common, counted_common, part_is, kept_behind}
use Rattle.diff_layer.proofs.SmallPacks.{each_same}

module _ (p : Program) (a : Act) (x : Action) where
  -- ---- what was written to

  operand_items : (y : Amount) → amount_items (of_operands y) ≡ amount_items y
  operand_items (moved z) = refl
  operand_items (computed s h) = refl
  operand_items (remaining s scale) = refl
  operand_items (augmented z) = refl

  pub written_to : (y : Part) (wrote : List Extent) (written : Bool) → IsOfEdge p a x y → written ≡ are_written p.layout wrote (edge_items a x) → IsWrittenTo p.layout wrote written y
  written_to (read place) wrote written of_edge e = tt
  written_to unread wrote written of_edge e = tt
  written_to (subscript last k) wrote written of_edge e = tt
  written_to (index last k count) wrote written of_edge e = tt
  written_to (divide d) wrote written of_edge e = tt
  written_to (store place mode y) wrote written of_edge e =
      e ∙ ∥∥₁_elim of_edge.operands (hlevel props) (λ same. ap (are_written p.layout wrote) (ap items_of_amount same ∙ operand_items y))
  written_to (bytes_in offset count) wrote written of_edge e = tt
  written_to (guard t wanted) wrote written of_edge e = tt
  written_to (read_count n) wrote written of_edge e = tt
  written_to (set_count n y) wrote written of_edge e =
      e ∙ ∥∥₁_elim of_edge (hlevel props) (λ same. ap (λ o. are_written p.layout wrote (items_of_amount o)) same)
  written_to (count_down n) wrote written of_edge e = tt
  written_to (guard_count n wanted) wrote written of_edge e = tt

  -- ---- what can be worked out

  small_cells_same : (s : Seen) → (with_taken_small p a x s).cells ≡ s.cells
  small_cells_same s = go s.written
    where
      go : (b : Bool) → (if b then s else trimmed p a x (taking p a x s)).cells ≡ s.cells
      go true = refl
      go false = refl

  pub can_change : (y : Part) (s t : Seen) → IsSmallPart p a x y → IsOfEdge p a x y → CanStep p a x s → step_small p a x y s ≡ Some t → CanChange p s.cells t.common y
  can_change (read place) s t small of_edge can e = tt
  can_change unread s t small of_edge can e = tt
  can_change (subscript last k) s t small of_edge can e = tt
  can_change (index last k count) s t small of_edge can e = tt
  can_change (divide d) s t small of_edge can e = tt
  can_change (store place mode y) s t small of_edge can e =
      let w = with_taken_small p a x s in
      let same : w.common ≡ t.common = sym (stored_common p a x w t _ _ e) in
      record {
        own = small.own;
        small = of_edge.small;
        top = subst (λ (o : Option Taken). IfSome o HasSmallTop) same (kept_small p a x w (taken_can p a x s can) (taken_written p a x s) small.sum);
        work =
            subst (λ (o : Option Taken). IfSome o (CanWork y (range_at p s.cells place))) same
            (subst (λ (cs : List Known). IfSome w.common (CanWork y (range_at p cs place))) (small_cells_same s)
            (can_work p a x w (taken_can p a x s can) (taken_written p a x s) place y small));
      }
  can_change (bytes_in offset count) s t small of_edge can e = tt
  can_change (guard test wanted) s t small of_edge can e = small
  can_change (read_count n) s t small of_edge can e = tt
  can_change (set_count n y) s t small of_edge can e =
      let w = with_taken_small p a x s in
      subst (λ (o : Option Taken). IfSome o HasSmallTop) (sym (counted_common p a x w t _ e)) (kept_small p a x w (taken_can p a x s can) (taken_written p a x s) small.0)
  can_change (count_down n) s t small of_edge can e = tt
  can_change (guard_count n wanted) s t small of_edge can e = tt

  -- ---- both rows

  bytes_same : (y : Part) → written_by p a x y ≡ part_bytes (keeps_receiver a x) p.layout y
  bytes_same (read place) = refl
  bytes_same unread = refl
  bytes_same (subscript last k) = refl
  bytes_same (index last k count) = refl
  bytes_same (divide d) = refl
  bytes_same (store place mode y) = refl
  bytes_same (bytes_in offset count) = refl
  bytes_same (guard t wanted) = refl
  bytes_same (read_count n) = refl
  bytes_same (set_count n y) = refl
  bytes_same (count_down n) = refl
  bytes_same (guard_count n wanted) = refl

  module _ (packs : List Pack) where
    pub stepped : (y : Part) (s t : Seen) (known : List Known) (latest before : Latest) (wrote : List Extent) (ms out : List (List ℤ)) (b : Bool) →
        IsSmallPart p a x y → step_small p a x y s ≡ Some t → latest ≡ latest_behind p a x y s before → known ≡ s.cells →
        all_closed p t.cells packs (each_pack (plan_changed p known t.common latest wrote y) packs ms) ≡ (if b then Some out else None) →
        step2_small p packs a x y s (seen2 wrote ms) ≡ passed_to b t (seen2 (part_bytes (keeps_receiver a x) p.layout y ++ wrote) out)
    stepped y s t known latest before wrote ms out b small e told cells closes =
        ap (λ (o : Option Seen). o >>= λ u. all_closed p u.cells packs c.packs >>= λ ks. Some (u, with_packs c ks)) e
        ∙ (ap (λ (o : Option (List (List ℤ))). o >>= λ ks. Some (t, with_packs c ks)) (ap (all_closed p t.cells packs) (sym changes) ∙ closes) ∙ go b)
      where
        c : Seen2
        c = changed p a x packs y s (seen2 wrote ms)

        one : (pack : Pack) (m : List ℤ) → plan_changed p known t.common latest wrote y pack m ≡ changed_pack p a x y s wrote pack m
        one pack m =
            ap (λ cs. plan_changed p cs t.common latest wrote y pack m) cells
            ∙ part_is p a x y s t.common latest wrote pack m (kept_behind p a x y s t latest before small e told)

        changes : each_pack (plan_changed p known t.common latest wrote y) packs ms ≡ c.packs
        changes = each_same (plan_changed p known t.common latest wrote y) (changed_pack p a x y s wrote) one packs ms

        go : (d : Bool) → ((if d then Some out else None) >>= λ ks. Some (t, with_packs c ks)) ≡ passed_to d t (seen2 (part_bytes (keeps_receiver a x) p.layout y ++ wrote) out)
        go true = ap (λ bs. Some (t, seen2 (bs ++ wrote) out)) (bytes_same y)
        go false = refl

pub set_can : (p : Program) (known : List Known) (common : Option Taken) (y : Part) → IsSetCount y → IfSome common HasSmallTop → CanChange p known common y
set_can p known common (set_count n z) is top = top
set_can p known common (read place) is top = absurd is
set_can p known common unread is top = absurd is
set_can p known common (subscript last k) is top = absurd is
set_can p known common (index last k count) is top = absurd is
set_can p known common (divide d) is top = absurd is
set_can p known common (store place mode y) is top = absurd is
set_can p known common (bytes_in offset count) is top = absurd is
set_can p known common (guard t wanted) is top = absurd is
set_can p known common (read_count n) is top = absurd is
set_can p known common (count_down n) is top = absurd is
set_can p known common (guard_count n wanted) is top = absurd is
