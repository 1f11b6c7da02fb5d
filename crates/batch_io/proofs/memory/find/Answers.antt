use Rattle.std.proofs.Common.{◌∙◌, sym, ap, Some}
use Rattle.batch_io.proofs.MemoryLemmas.{find-absent, find-present}
use Rattle.batch_io.proofs.memory.find.Goals as goal

pub returns-in_err-place : goal.returns-in_err-place
returns-in_err-place c = rw c.from_residual.ensures (sym (find-absent c.args.files.now.items c.args.name.now (sym c.in_err-place.ensures)))

pub returns : goal.returns
returns c = ap (λ bytes. Some bytes) c.as_slice.ensures.value
    ∙ sym (find-present c.args.files.now.items c.args.name.now c.in_ok-place.place (sym c.in_ok-place.ensures) c.index.result.now c.index.ensures)
