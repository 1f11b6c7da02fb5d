use Rattle.std.proofs.Common.{ap, ◌∙◌, arith}
use Rattle.cell_layer.specs.Heads.{heads_of}
use Rattle.cell_layer.proofs.Filled.{written_back}
use Rattle.cell_layer.proofs.layer.heads.heads_of.Goals as goal

pub returns : goal.returns
returns c =
    let kept = c.mark_all.auto.heads in
    let len = c.as_mut_slice.ensures.len in
    written_back c.mark_all.new.heads c.in_ok-heads.heads.items c.in_ok-heads.heads.len (omega (arith, kept, len))
    ∙ c.mark_all.ensures ∙ ap (λ n. heads_of n c.args.edges.now) (len ∙ c.in_ok-heads.ensures.len)
