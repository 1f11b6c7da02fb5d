use Rattle.commands.proofs.running.task.run.Goals as goal

pub run_to_ending-ending-requires-clause-able : goal.run_to_ending-ending-requires-clause-able
run_to_ending-ending-requires-clause-able g c = c.requires.can
