use Rattle.batch_io.specs.Memory.{contents_of}
use Rattle.batch_io.proofs.SlotLemmas.{reads_memory}
use Rattle.batch_io.proofs.memory.MemFilesFiles.read.Goals as goal

pub returns-clause-call : goal.returns-clause-call
returns-clause-call c =
    reads_memory (contents_of c.args.self.now.files.items) c.args.self.now.slots.items c.read_slot.new.slots.items c.args.id
    c.read_slot.new.buf c.read_slot.result c.args.self.now.reading c.args.self.now.writing c.read_slot.ensures.slot
