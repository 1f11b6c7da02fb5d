use Rattle.batch_io.specs.FilesState.{known_bytes}
use Rattle.command_words.specs.Commands.{plain_run}
use Rattle.commands.proofs.Tasks.{found_answer, found_blames, found_reads, found_ready, found_task}
use Rattle.commands.proofs.running.task.task_for.Goals as goal

pub returns-clause-reads : goal.returns-clause-reads
returns-clause-reads g c =
    let read = c.in-Ok.ensures in
    found_reads c.task_in.result c.deref.result.now (plain_run c.args.said.now) (g.F.Files.state c.args.files.now)
    (g.F.Files.state c.read_file.new.files) c.task_in.ensures
    (record { contents = read.bytes; ids = read.ids; writing = read.writing; reading = read.reading })

pub returns-clause-holds : goal.returns-clause-holds
returns-clause-holds g c =
    let known = known_bytes (g.F.Files.state c.args.files.now) in
    found_task (plain_run c.args.said.now) c.in-Ok.bytes.items known c.in-Ok.ensures.ok.1
    c.deref.result.now c.deref.ensures.value c.task_in.result c.task_in.ensures

pub returns-clause-ready : goal.returns-clause-ready
returns-clause-ready g c =
    found_ready c.task_in.result c.deref.result.now (plain_run c.args.said.now) c.task_in.ensures

pub returns-clause-answer : goal.returns-clause-answer
returns-clause-answer g c =
    let known = known_bytes (g.F.Files.state c.args.files.now) in
    found_answer (plain_run c.args.said.now) c.in-Ok.bytes.items known c.in-Ok.ensures.ok.1
    c.deref.result.now c.deref.ensures.value c.task_in.result c.task_in.ensures

pub returns-clause-blames : goal.returns-clause-blames
returns-clause-blames g c =
    found_blames c.task_in.result c.deref.result.now (plain_run c.args.said.now) c.task_in.ensures
