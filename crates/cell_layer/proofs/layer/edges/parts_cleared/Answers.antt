use Rattle.std.proofs.Common.{◌<◌, ◌+◌, List, length, get_or, ap, subst, ◌∙◌}
use Rattle.cob_tree.specs.declared.kinds.Kinds.{Kinds}
use Rattle.cob_tree.specs.Kinds.{kinds_of, both}
use Rattle.edge_parts.specs.declared.part.EdgePart.{EdgePart}
use Rattle.edge_parts.specs.PartView.{plain_part}
use Rattle.cell_laws.specs.Sizes.{IsSmallPart}
use Rattle.cell_layer.specs.Walks.{clears_all_small}
use Rattle.cell_layer.specs.Kept.{seen}
use Rattle.cell_layer.specs.Works.{program_of, act_of}
use Rattle.cell_layer.proofs.Walked.{left_of, next_left, holds_next, cleared_passed}
use Rattle.cell_layer.proofs.layer.edges.parts_cleared.Goals as goal

pub loop-part-preserved : goal.loop-part-preserved
loop-part-preserved c =
    let w = c.args.work.now in
    let p = program_of w in
    let a = act_of w in
    let x = w.action in
    let ps = w.parts.items in
    let i = c.loop-part.part-index in
    let y = c.part-item.result in
    let s = seen c.loop-part.row c.loop-part.kept in
    let t = seen c.walk_part.new.row c.walk_part.new.kept in
    let value = c.as_slice-part-items.ensures.value in
    let within = subst (λ (zs : List EdgePart). i < length zs) value c.loop-part-test.true in
    let is = c.part-item.is ∙ ap (λ (zs : List EdgePart). get_or zs i y) value in
    record {
      row_of = c.walk_part.ensures.row;
      can = c.walk_part.ensures.can c.if-not-walk_part.false;
      small = (holds_next (IsSmallPart p a x) ps i y within is c.loop-part.invariant.small).1;
      told =
          ap (λ (k : Kinds). both k (kinds_of (clears_all_small p a x (left_of ps (i + 1)) t)))
          (c.both-cleared.ensures ∙ ap (both c.loop-part.cleared) c.cleared_by_part.ensures)
          ∙ (cleared_passed p a x (plain_part y) (left_of ps (i + 1)) (left_of ps i) (next_left ps i y within is) s c.loop-part.cleared t
          (c.walk_part.ensures.on c.if-not-walk_part.false)
          ∙ c.loop-part.invariant.told);
    }
