use Rattle.std.proofs.Common.{◌≡◌, ◌-◌, ◌∙◌, List, Bool, length, sym, ap, false, Some, arith}
use Rattle.std.specs.Prelude.{slice_index_or}
use Rattle.cob_program.specs.ActView.{plain_program}
use Rattle.cell_laws.specs.Entry.{entry_cells}
use Rattle.cell_laws.specs.Layer.{row_for, row_post}
use Rattle.cell_layer.specs.Heads.{is_head}
use Rattle.cell_layer.proofs.Marks.{length-heads, mark_of, head_is, is_head_of}
use Rattle.cell_layer.proofs.layer.flowing.CellLayerSystem.is_head.Goals as goal

pub is_marked-requires-clause-last : goal.is_marked-requires-clause-last
is_marked-requires-clause-last c =
    let s = c.args.self.now in
    let g = s.graph.now in
    let many = ap (λ (marks : List Bool). length marks) (c.as_slice.ensures.value ∙ s.marked) ∙ length-heads (length g.nodes) g.edges in
    omega (arith, many, c.requires.last)

pub returns : goal.returns
returns c =
    let s = c.args.self.now in
    let p = plain_program s.program.now in
    let g = s.graph.now in
    let node = c.args.node in
    let entry = row_for p (Some (entry_cells p)) in
    let is : c.is_marked.result ≡ is_head g.edges node =
    c.is_marked.ensures
    ∙ ap (λ marks. slice_index_or marks (node - 1) false) (c.as_slice.ensures.value ∙ s.marked)
    ∙ mark_of g node c.requires.first c.requires.last in
    (λ yes. head_is g entry (row_post p g) node (sym is ∙ yes), λ head. is ∙ is_head_of g entry (row_post p g) node head)
