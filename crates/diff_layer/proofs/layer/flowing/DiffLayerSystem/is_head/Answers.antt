use Rattle.std.proofs.Common.{◌≡◌, ◌-◌, ◌∙◌, List, Bool, length, sym, ap, false, arith}
use Rattle.std.specs.Prelude.{slice_index_or}
use Rattle.cob_program.specs.ActView.{plain_program}
use Rattle.cell_laws.specs.Entry.{entry_cells}
use Rattle.cell_layer.specs.Heads.{is_head}
use Rattle.cell_layer.proofs.Marks.{length-heads, mark_of, head_is, is_head_of}
use Rattle.diff_steps.specs.Edges.{entry_packs}
use Rattle.diff_bounds.specs.PackRows.{row_of}
use Rattle.pack_laws.specs.Layer.{diff_post}
use Rattle.pack_laws.specs.Packs.{packs_of}
use Rattle.diff_layer.proofs.layer.flowing.DiffLayerSystem.is_head.Goals as goal

pub is_marked-requires-clause-last : goal.is_marked-requires-clause-last
is_marked-requires-clause-last g c =
    let s = c.args.self.now in
    let graph = s.graph.now in
    let many = ap (λ (marks : List Bool). length marks) (c.as_slice.ensures.value ∙ s.marked) ∙ length-heads (length graph.nodes) graph.edges in
    omega (arith, many, c.requires.last)

pub returns : goal.returns
returns g c =
    let s = c.args.self.now in
    let graph = s.graph.now in
    let node = c.args.node in
    let p = plain_program s.program.now in
    let packs = packs_of p s.packs.now in
    let entry = row_of (entry_packs p packs (entry_cells p)) in
    let post = diff_post p graph packs (g.R.Rows.row_at s.facts.now) in
    let is : c.is_marked.result ≡ is_head graph.edges node =
    c.is_marked.ensures
    ∙ ap (λ marks. slice_index_or marks (node - 1) false) (c.as_slice.ensures.value ∙ s.marked)
    ∙ mark_of graph node c.requires.first c.requires.last in
    (λ yes. head_is graph entry post node (sym is ∙ yes), λ head. is ∙ is_head_of graph entry post node head)
