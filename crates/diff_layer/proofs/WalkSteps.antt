-- How far an edge is walked with both rows.
use Rattle.std.proofs.Common.{◌≡◌, ◌≤◌, ◌<◌, ◌+◌, ℕ, Bool, true, false, ◌&&◌, not, if◌then◌else◌, List, [], ◌∷◌, ◌++◌, map, length, get_or, ℤ, Option, Some, None, refl, sym, ap, subst, ◌∙◌}
use Rattle.std.proofs.Props.{props}
use Rattle.std.proofs.Math.Logic.{∥∥₁_elim}
use Rattle.cob_tree.specs.declared.fault.Kind.{Kind}
use Rattle.cob_tree.specs.declared.kinds.Kinds.{Kinds}
use Rattle.cob_tree.specs.Kinds.{kinds_of, every_kind, both}
use Rattle.cob_data.specs.declared.extent.Extent.{Extent}
use Rattle.cob_program.specs.Act.{Act, Program}
use Rattle.cob_runs.specs.declared.action.Action.{Action}
use Rattle.cob_runs.specs.declared.action.Cell.{Cell}
use Rattle.cob_edge_parts.specs.Parts.{Part, is_handled}
use Rattle.edge_parts.specs.PartView.{plain_part}
use Rattle.edge_parts.specs.declared.part.EdgePart.{EdgePart}
use Rattle.edge_parts.specs.declared.work.EdgeWork.{EdgeWork}
use Rattle.interval_domain.specs.Known.{Known}
use Rattle.interval_domain.specs.Rows.{cells_of}
use Rattle.interval_domain.specs.Elements.{CellsFit}
use Rattle.cell_steps.specs.OwnRanges.{owns}
use Rattle.cell_steps.specs.Seen.{Seen, beginning}
use Rattle.cell_layer.specs.declared.edge.kept.Kept.{Kept}
use Rattle.cell_layer.specs.Kept.{seen}
use Rattle.cell_layer.specs.ProgramRows.{IsRowOf}
use Rattle.cell_layer.specs.Walks.{CanStep}
use Rattle.diff_steps.specs.Moments.{Seen2}
use Rattle.diff_steps.specs.Edges.{beginning2, finished2}
use Rattle.diff_steps.specs.Clearing.{clears_part2}
use Rattle.diff_layer.specs.PackWriting.{are_written}
use Rattle.diff_layer.specs.declared.pack.plans.PackPlan.{PackPlan}
use Rattle.diff_layer.specs.declared.pack.edge.PackEdge.{PackEdge}
use Rattle.diff_layer.specs.declared.pack.edge.PackState.{PackState}
use Rattle.diff_layer.specs.Closed.{IsClosedRow}
use Rattle.diff_layer.specs.Plans.{plain_plans, matrices_for}
use Rattle.diff_layer.specs.Walks.{seen2, passed_to, step2_small, steps2_small, clears_all2, closed_walked, closed_clears}
use Rattle.cell_layer.specs.Works.{program_of, statement_of, act_of}
use Rattle.diff_layer.specs.Works.{parts_of_edge, bytes_of}
use Rattle.diff_layer.specs.Writing.{edge_items}
use Rattle.diff_layer.proofs.Items.{nothing_written}
use Rattle.diff_layer.proofs.SmallPacks.{walks_are_small, clears_are_small2}
use Rattle.cell_layer.proofs.KindSets.{same_tests, both_then, both_last, both_all}
use Rattle.diff_layer.proofs.Walked.{left, left_more, left_none, passed, stopped, cleared_passed, cleared_stopped}

module _ (edge : PackEdge) where
  abbrev work : EdgeWork
  work = edge.work.now

  abbrev cells : List Cell
  cells = edge.cells.now

  abbrev plans : List PackPlan
  plans = edge.plans.now

  abbrev p : Program
  p = program_of work

  abbrev a : Act
  a = act_of work

  abbrev x : Action
  x = work.action

  abbrev items : List ℕ
  items = edge_items a x

  -- the walk stands behind some parts of the edge, with room for a row
  pub record IsAt (row before : List ℤ) (state : PackState) (out : List ℤ) : Type 0 where
    pub row_of : IsRowOf p cells row
    pub room : length before ≡ length row
    pub can : CanStep p a x (seen row state.kept)
    pub matrices : IsClosedRow p (cells_of row) plans out
    -- the bytes that were written to
    pub wrote : List Extent
    pub told : state.written ≡ are_written p.layout wrote items

  module _ (first : List Known) (firsts : List (List ℤ)) where
    -- so many parts are passed, and what is left gives what the whole list gives
    pub record IsWalkedTo (i : ℕ) (row before : List ℤ) (state : PackState) (out : List ℤ) : Type 0 where
      pub at : IsAt row before state out
      pub same : steps2_small p (plain_plans plans) a x (left work.parts.items i) (seen row state.kept) (seen2 at.wrote (matrices_for plans out))
          ≡ steps2_small p (plain_plans plans) a x (left work.parts.items 0) (beginning first) (beginning2 firsts)

    -- what was cleared so far and by what is left is what the whole list clears
    pub record IsClearedTo (cleared : Kinds) (i : ℕ) (row before : List ℤ) (state : PackState) (out : List ℤ) : Type 0 where
      pub at : IsAt row before state out
      pub same : both cleared (kinds_of (clears_all2 p (plain_plans plans) a x (left work.parts.items i) (seen row state.kept) (seen2 at.wrote (matrices_for plans out))))
          ≡ kinds_of (clears_all2 p (plain_plans plans) a x (left work.parts.items 0) (beginning first) (beginning2 firsts))

  -- ---- at the beginning

  abbrev pub begun : Kept → PackState
  begun kept = record { kept = kept; written = false }

  module _ (row before : List ℤ) (kept : Kept) (out : List ℤ)
      (is : IsRowOf p cells row) (room : length before ≡ length row) (fits : CellsFit (owns p) (cells_of row)) (matrices : IsClosedRow p (cells_of row) plans out)
      (begins : seen row kept ≡ beginning (cells_of row)) where
    begins_at : IsAt row before (begun kept) out
    begins_at = record {
      row_of = is;
      room = room;
      can = subst (CanStep p a x) (sym begins) (record { fits = fits; taken = λ w. absurd (cc) });
      matrices = matrices;
      wrote = [];
      told = nothing_written p.layout items;
    }

    pub walk_begins : IsWalkedTo (cells_of row) (matrices_for plans out) 0 row before (begun kept) out
    unfolding begins_at
    walk_begins = record {
      at = begins_at;
      same = ap (λ s. steps2_small p (plain_plans plans) a x (left work.parts.items 0) s (beginning2 (matrices_for plans out))) begins;
    }

    pub clear_begins : IsClearedTo (cells_of row) (matrices_for plans out) every_kind 0 row before (begun kept) out
    unfolding begins_at
    clear_begins = record {
      at = begins_at;
      same = ap (λ s. kinds_of (clears_all2 p (plain_plans plans) a x (left work.parts.items 0) s (beginning2 (matrices_for plans out)))) begins;
    }

  -- ---- over a part

  module _ (part : EdgePart) (row before : List ℤ) (state : PackState) (out row2 before2 : List ℤ) (state2 : PackState) (out2 : List ℤ) (b : Bool) where
    abbrev y : Part
    y = plain_part part

    abbrev StepsTo : Type 0
    StepsTo = (wrote : List Extent) → state.written ≡ are_written p.layout wrote items →
        step2_small p (plain_plans plans) a x y (seen row state.kept) (seen2 wrote (matrices_for plans out)) ≡ passed_to b (seen row2 state2.kept) (seen2 (bytes_of work y ++ wrote) (matrices_for plans out2))

    abbrev WritesTo : Type 0
    WritesTo = (wrote : List Extent) → state.written ≡ are_written p.layout wrote items → state2.written ≡ are_written p.layout (bytes_of work y ++ wrote) items

    module _ (steps : StepsTo) where
      step_is : (at : IsAt row before state out) → b ≡ true →
          step2_small p (plain_plans plans) a x y (seen row state.kept) (seen2 at.wrote (matrices_for plans out)) ≡ Some (seen row2 state2.kept, seen2 (bytes_of work y ++ at.wrote) (matrices_for plans out2))
      step_is at e = steps at.wrote at.told ∙ ap (λ (d : Bool). passed_to d (seen row2 state2.kept) (seen2 (bytes_of work y ++ at.wrote) (matrices_for plans out2))) e

      none_is : (at : IsAt row before state out) → b ≡ false → step2_small p (plain_plans plans) a x y (seen row state.kept) (seen2 at.wrote (matrices_for plans out)) ≡ None
      none_is at e = steps at.wrote at.told ∙ ap (λ (d : Bool). passed_to d (seen row2 state2.kept) (seen2 (bytes_of work y ++ at.wrote) (matrices_for plans out2))) e

      next_at : (at : IsAt row before state out) → WritesTo → IsRowOf p cells row2 → length before2 ≡ length row2 → CanStep p a x (seen row2 state2.kept) → IsClosedRow p (cells_of row2) plans out2 →
          IsAt row2 before2 state2 out2
      next_at at writes is room can matrices = record {
        row_of = is;
        room = room;
        can = can;
        matrices = matrices;
        wrote = bytes_of work y ++ at.wrote;
        told = writes at.wrote at.told;
      }

      module _ (first : List Known) (firsts : List (List ℤ)) (i : ℕ) (within : i < length work.parts.items) (is : part ≡ get_or work.parts.items i part) where
        abbrev cut : left work.parts.items i ≡ y ∷ left work.parts.items (i + 1)
        cut = left_more work.parts.items i part within is

        abbrev Now : Type 0
        Now = IsWalkedTo first firsts i row before state out

        pub walks_on : Now → b ≡ true → WritesTo → IsRowOf p cells row2 → length before2 ≡ length row2 → CanStep p a x (seen row2 state2.kept) → IsClosedRow p (cells_of row2) plans out2 →
            IsWalkedTo first firsts (i + 1) row2 before2 state2 out2
        unfolding next_at
        walks_on now e writes is_row room can matrices = record {
          at = next_at now.at writes is_row room can matrices;
          same =
              sym
              (passed p (plain_plans plans) a x y (left work.parts.items (i + 1)) (left work.parts.items i) cut (seen row state.kept) (seen2 now.at.wrote (matrices_for plans out))
              (seen row2 state2.kept) (seen2 (bytes_of work y ++ now.at.wrote) (matrices_for plans out2)) (step_is now.at e))
              ∙ now.same;
        }

        pub walk_stops : Now → b ≡ false → None ≡ steps2_small p (plain_plans plans) a x (left work.parts.items 0) (beginning first) (beginning2 firsts)
        walk_stops now e =
            sym (stopped p (plain_plans plans) a x y (left work.parts.items (i + 1)) (left work.parts.items i) cut (seen row state.kept) (seen2 now.at.wrote (matrices_for plans out)) (none_is now.at e))
            ∙ now.same

        module _ (cleared here : Kinds) where
          abbrev Cleared : Type 0
          Cleared = IsClearedTo first firsts cleared i row before state out

          abbrev IsIts : Cleared → Type 0
          IsIts now = here ≡ kinds_of (clears_part2 p (plain_plans plans) a x y (seen row state.kept) (seen2 now.at.wrote (matrices_for plans out)))

          pub clears_on : (now : Cleared) → IsIts now → b ≡ true → WritesTo → IsRowOf p cells row2 → length before2 ≡ length row2 → CanStep p a x (seen row2 state2.kept) →
              IsClosedRow p (cells_of row2) plans out2 → IsClearedTo first firsts (both cleared here) (i + 1) row2 before2 state2 out2
          unfolding next_at
          clears_on now its e writes is_row room can matrices = record {
            at = next_at now.at writes is_row room can matrices;
            same =
                ap (λ h. both (both cleared h) (kinds_of (clears_all2 p (plain_plans plans) a x (left work.parts.items (i + 1)) (seen row2 state2.kept) (seen2 (bytes_of work y ++ now.at.wrote) (matrices_for plans out2))))) its
                ∙ both_then cleared (clears_part2 p (plain_plans plans) a x y (seen row state.kept) (seen2 now.at.wrote (matrices_for plans out)))
                (clears_all2 p (plain_plans plans) a x (left work.parts.items (i + 1)) (seen row2 state2.kept) (seen2 (bytes_of work y ++ now.at.wrote) (matrices_for plans out2)))
                (clears_all2 p (plain_plans plans) a x (left work.parts.items i) (seen row state.kept) (seen2 now.at.wrote (matrices_for plans out)))
                (cleared_passed p (plain_plans plans) a x y (left work.parts.items (i + 1)) (left work.parts.items i) cut (seen row state.kept) (seen2 now.at.wrote (matrices_for plans out))
                (seen row2 state2.kept) (seen2 (bytes_of work y ++ now.at.wrote) (matrices_for plans out2)) (step_is now.at e))
                ∙ now.same;
          }

          pub clear_stops : (now : Cleared) → IsIts now → b ≡ false → both cleared here ≡ kinds_of (clears_all2 p (plain_plans plans) a x (left work.parts.items 0) (beginning first) (beginning2 firsts))
          clear_stops now its e =
              ap (both cleared) its
              ∙ both_last cleared (clears_part2 p (plain_plans plans) a x y (seen row state.kept) (seen2 now.at.wrote (matrices_for plans out)))
              (clears_all2 p (plain_plans plans) a x (left work.parts.items i) (seen row state.kept) (seen2 now.at.wrote (matrices_for plans out)))
              (cleared_stopped p (plain_plans plans) a x y (left work.parts.items (i + 1)) (left work.parts.items i) cut (seen row state.kept) (seen2 now.at.wrote (matrices_for plans out)) (none_is now.at e))
              ∙ now.same

  module _ (first : List Known) (firsts : List (List ℤ)) (cleared : Kinds) (i : ℕ) (row before : List ℤ) (state : PackState) (out : List ℤ)
      (now : IsClearedTo first firsts cleared i row before state out) where
    pub clear_ends : length work.parts.items ≤ i → cleared ≡ kinds_of (clears_all2 p (plain_plans plans) a x (left work.parts.items 0) (beginning first) (beginning2 firsts))
    clear_ends past =
        sym (both_all cleared)
        ∙ (ap (λ ys. both cleared (kinds_of (clears_all2 p (plain_plans plans) a x ys (seen row state.kept) (seen2 now.at.wrote (matrices_for plans out))))) (sym (left_none work.parts.items i past))
        ∙ now.same)

  -- ---- the whole edge

  module _ (first : List Known) (firsts : List (List ℤ)) where
    -- what the list gives the edge gives
    pub walked_whole : (o : Option (Seen × Seen2)) → o ≡ steps2_small p (plain_plans plans) a x (left work.parts.items 0) (beginning first) (beginning2 firsts) →
        closed_walked p (plain_plans plans) (statement_of work) x first firsts ≡ finished2 p (plain_plans plans) a x o
    walked_whole o e = ∥∥₁_elim work.listed (hlevel props) whole
      where
        whole : map plain_part work.parts.items ≡ parts_of_edge work → closed_walked p (plain_plans plans) (statement_of work) x first firsts ≡ finished2 p (plain_plans plans) a x o
        whole listed =
            sym (walks_are_small p a x (plain_plans plans) (parts_of_edge work) first (beginning2 firsts) edge.small)
            ∙ ap (finished2 p (plain_plans plans) a x)
            (ap (λ ys. steps2_small p (plain_plans plans) a x ys (beginning first) (beginning2 firsts)) (sym listed) ∙ sym e)

    pub walk_ends : (i : ℕ) (row before : List ℤ) (state : PackState) (out : List ℤ) (b : Bool) →
        IsWalkedTo first firsts i row before state out → length work.parts.items ≤ i → b ≡ not (is_handled a x && not state.kept.any_fail) →
        closed_walked p (plain_plans plans) (statement_of work) x first firsts ≡ (if b then Some (matrices_for plans out) else None)
    walk_ends i row before state out b now past e =
        walked_whole (Some (seen row state.kept, seen2 now.at.wrote (matrices_for plans out)))
        (sym (ap (λ ys. steps2_small p (plain_plans plans) a x ys (seen row state.kept) (seen2 now.at.wrote (matrices_for plans out))) (left_none work.parts.items i past)) ∙ now.same)
        ∙ go (is_handled a x && not state.kept.any_fail) b e
      where
        go : (h d : Bool) → d ≡ not h → (if h then None else Some (matrices_for plans out)) ≡ (if d then Some (matrices_for plans out) else None)
        go true true f = absurd cc
        go true false f = refl
        go false true f = refl
        go false false f = absurd cc

    pub clears_whole : (cleared : Kinds) → cleared ≡ kinds_of (clears_all2 p (plain_plans plans) a x (left work.parts.items 0) (beginning first) (beginning2 firsts)) →
        cleared ≡ kinds_of (λ fault. closed_clears p (plain_plans plans) (statement_of work) x first fault firsts)
    clears_whole cleared e = e ∙ same_tests _ _ (λ fault. ∥∥₁_elim work.listed (hlevel props) (whole fault))
      where
        whole : (fault : Kind) → map plain_part work.parts.items ≡ parts_of_edge work →
            clears_all2 p (plain_plans plans) a x (left work.parts.items 0) (beginning first) (beginning2 firsts) fault ≡ closed_clears p (plain_plans plans) (statement_of work) x first fault firsts
        whole fault listed =
            ap (λ ys. clears_all2 p (plain_plans plans) a x ys (beginning first) (beginning2 firsts) fault) listed
            ∙ clears_are_small2 p a x (plain_plans plans) (parts_of_edge work) first (beginning2 firsts) fault edge.small
