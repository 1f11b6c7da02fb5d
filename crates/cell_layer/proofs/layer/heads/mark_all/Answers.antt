use Rattle.std.proofs.Common.{◌-◌, ◌∙◌, nat_le, true, length, take, get_or, sym, ap}
use Rattle.std.specs.Prelude.{if◌then◌else◌, slice_set}
use Rattle.std.proofs.lemmas.List.{take_more}
use Rattle.graph_runs.specs.Places.{no_edge}
use Rattle.cell_layer.specs.Heads.{heads_of}
use Rattle.cell_layer.proofs.Marks.{marked}
use Rattle.cell_layer.proofs.layer.heads.mark_all.Goals as goal

pub loop-edge-preserved : goal.loop-edge-preserved
loop-edge-preserved c =
    let xs = c.args.edges.now in
    let n = length c.args.heads.now in
    let i = c.loop-edge.edge-index in
    let x = get_or xs i no_edge in
    c.mark.ensures
    ∙ ap (λ hs. if nat_le x.to x.from then slice_set hs (x.to - 1) true else hs) c.loop-edge.invariant
    ∙ sym (marked n (take i xs) x (c.requires.first i no_edge c.loop-edge-test.true) (c.requires.last i no_edge c.loop-edge-test.true))
    ∙ ap (heads_of n) (sym (take_more xs i no_edge c.loop-edge-test.true))
