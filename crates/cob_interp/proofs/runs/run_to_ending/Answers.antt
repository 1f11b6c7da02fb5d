use Rattle.cob_program.specs.ActView.{plain_program}
use Rattle.std.specs.Prelude.{map, string_bytes}
use Rattle.cob_interp.proofs.Unmade.{unmade_kept}
use Rattle.cob_interp.proofs.runs.run_to_ending.Goals as goal

pub run_through-requires-clause-whole : goal.run_through-requires-clause-whole
run_through-requires-clause-whole g c = c.requires.able.whole

pub run_through-requires-clause-sound : goal.run_through-requires-clause-sound
run_through-requires-clause-sound g c = c.requires.able.items

pub run_through-requires-clause-able : goal.run_through-requires-clause-able
run_through-requires-clause-able g c = c.requires.able.statements

pub run_through-requires-clause-files : goal.run_through-requires-clause-files
run_through-requires-clause-files g c = c.requires.able.files

pub returns-clause-unmade : goal.returns-clause-unmade
returns-clause-unmade g c =
    unmade_kept (plain_program c.args.program.now) c.args.graph.now c.requires.able.whole c.requires.graph
    (map string_bytes c.args.paths.now) c.args.budget _ _ _ c.run_through.ensures.runs
