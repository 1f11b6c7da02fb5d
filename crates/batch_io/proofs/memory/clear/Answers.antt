use Rattle.std.proofs.Common.{◌∙◌, sym, ap}
use Rattle.std.specs.FinMap.{insert}
use Rattle.batch_io.specs.Memory.{contents_of}
use Rattle.batch_io.proofs.MemoryLemmas.{files-set, files-push}
use Rattle.batch_io.proofs.memory.clear.Goals as goal

pub returns-in-Some-clause-ok : goal.returns-in-Some-clause-ok
returns-in-Some-clause-ok c =
    files-set c.args.files.now.items c.args.name.now c.in-Some.place (sym c.in-Some.ensures) c.index_mut.result.now c.index_mut.ensures.value c.clear.new.self
    ∙ ap (insert (contents_of c.args.files.now.items) c.args.name.now) c.clear.ensures.items

pub returns-in_ok-push-in-None-clause-ok : goal.returns-in_ok-push-in-None-clause-ok
returns-in_ok-push-in-None-clause-ok c =
    ap contents_of c.in_ok-push-in-None.ensures.items
    ∙ files-push c.args.files.now.items c.args.name.now (c.in_ok-from_str-in-None.field-0, c.new.result) c.in_ok-from_str-in-None.ensures.ok (sym c.in-None.ensures)
    ∙ ap (insert (contents_of c.args.files.now.items) c.args.name.now) c.new.ensures.items
