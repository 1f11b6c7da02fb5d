use Rattle.std.proofs.Common.{List, ℕ, subst, sym}
use Rattle.batch_io.specs.FilesState.{known_bytes}
use Rattle.commands.specs.Steps.{IsLaid, Reads}
use Rattle.commands.proofs.Refusals.{answers_refused, no_fault, no_usage}
use Rattle.commands.proofs.source.read_source.Goals as goal

pub returns-in-Ok-laid_in-clause-holds : goal.returns-in-Ok-laid_in-clause-holds
returns-in-Ok-laid_in-clause-holds g c = record {
  bytes = c.in-Ok.bytes.items;
  held = c.in-Ok.ensures.ok.1;
  is_laid = subst (λ (bytes : List ℕ). IsLaid bytes c.in-Ok-laid_in.laid) c.deref.ensures.value c.in-Ok-laid_in.ensures;
}

pub returns-clause-reads : goal.returns-clause-reads
returns-clause-reads g c =
    let read = c.in-Ok.ensures in
    subst (Reads (g.F.Files.state c.args.files.now) (g.F.Files.state c.read_file.new.files))
    (sym (no_fault c.answer_to.result c.in-Err.cause c.answer_to.ensures))
    (record { contents = read.bytes; ids = read.ids; writing = read.writing; reading = read.reading })

pub returns-clause-answer : goal.returns-clause-answer
returns-clause-answer g c =
    answers_refused c.args.name.now c.in-Ok.bytes.items c.answer_to.result c.in-Err.cause c.deref.result.now
    (known_bytes (g.F.Files.state c.args.files.now)) c.in-Ok.ensures.ok.1 c.deref.ensures.value c.in-Err.ensures
    c.answer_to.ensures

pub returns-clause-usage : goal.returns-clause-usage
returns-clause-usage g c = no_usage c.answer_to.result c.in-Err.cause c.answer_to.ensures
