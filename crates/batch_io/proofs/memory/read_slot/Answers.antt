use Rattle.std.proofs.Common.{◌∙◌, Some, ap}
use Rattle.batch_io.specs.Memory.{contents_of}
use Rattle.batch_io.proofs.SlotLemmas.{reads_slot}
use Rattle.batch_io.proofs.memory.read_slot.Goals as goal

pub returns-clause-slot : goal.returns-clause-slot
returns-clause-slot c =
    reads_slot (contents_of c.args.files.now.items) c.args.slots.now.items c.args.id c.in-Some-Reading.reader c.read_on.new.reader c.index_mut.result.now
    c.read_on.new.buf c.read_on.result c.requires.opened c.index_mut.ensures.value
    (c.in-Some-Reading.is ∙ ap (λ opened. Some opened) c.in-Some-Reading.field-0-is) c.read_on.ensures.on
