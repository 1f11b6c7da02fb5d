use Rattle.std.proofs.Common.{◌∙◌}
use Rattle.std.specs.Prelude.{map, string_bytes}
use Rattle.std.proofs.lemmas.List.{length-map}
use Rattle.cob_program.specs.ActView.{plain_program}
use Rattle.cob_interp.specs.Runs.{outside}
use Rattle.cob_interp.proofs.Starting.{begins_with, refused_first, placed_first}
use Rattle.cob_interp.proofs.TrackLemmas.{ids_kept, ids_stay, none_open, tracks_pass}
use Rattle.cob_interp.proofs.runs.run_through.Goals as goal

pub returns-in_default-clause-runs : goal.returns-in_default-clause-runs
returns-in_default-clause-runs g c =
    refused_first (plain_program c.args.program.now) c.args.graph.now (map string_bytes c.args.paths.now)
    (length-map c.args.paths.now string_bytes ∙ c.requires.paths) c.ways_tell_of_runs.ensures c.requires.whole
    c.requires.graph c.args.budget _

pub returns-in_default-first-clause-runs : goal.returns-in_default-first-clause-runs
returns-in_default-first-clause-runs g c =
    refused_first (plain_program c.args.program.now) c.args.graph.now (map string_bytes c.args.paths.now)
    (length-map c.args.paths.now string_bytes ∙ c.requires.paths) c.ways_tell_of_runs.ensures c.requires.whole
    c.requires.graph c.args.budget _

pub returns-in_default-none-clause-runs : goal.returns-in_default-none-clause-runs
returns-in_default-none-clause-runs g c =
    refused_first (plain_program c.args.program.now) c.args.graph.now (map string_bytes c.args.paths.now)
    (length-map c.args.paths.now string_bytes ∙ c.requires.paths) c.ways_tell_of_runs.ensures c.requires.whole
    c.requires.graph c.args.budget _

pub returns-clause-runs : goal.returns-clause-runs
returns-clause-runs g c =
    let start = outside (g.F.Files.state c.args.files.now) (g.O.Sink.state c.args.out.now) in
    c.ending_of.ensures.runs c.args.budget start
    (c.walk-halted.ensures.halts start
    (begins_with (plain_program c.args.program.now) c.args.graph.now (map string_bytes c.args.paths.now)
    (length-map c.args.paths.now string_bytes ∙ c.requires.paths) c.ways_tell_of_runs.ensures c.requires.whole
    c.requires.graph c.args.budget start
    _ c.new.result.items c.in-Ok-first.world.world c.new.ensures.items c.in-Ok-first.ensures.value))

pub returns-clause-ids : goal.returns-clause-ids
returns-clause-ids g c =
    ids_kept _ _ _ _ c.in-Ok-none.ensures.none c.ending_of.ensures.none
    (tracks_pass _ _ _ _ _ _ c.walk-halted.ensures.tracks c.ending_of.ensures.tracks)

pub walk-halted-requires-clause-placed : goal.walk-halted-requires-clause-placed
walk-halted-requires-clause-placed g c =
    placed_first (plain_program c.args.program.now) _ (map string_bytes c.args.paths.now) (g.F.Files.state c.args.files.now) _ _ _
    c.requires.paths (length-map c.args.paths.now string_bytes) c.in-Ok-none.ensures.none c.in-Ok-none.ensures.purposes c.in-Ok-first.ensures.value

pub returns-in_default-clause-ids : goal.returns-in_default-clause-ids
returns-in_default-clause-ids g c = ids_stay _

pub returns-in_default-first-clause-ids : goal.returns-in_default-first-clause-ids
returns-in_default-first-clause-ids g c = ids_stay _

pub returns-in_default-none-clause-ids : goal.returns-in_default-none-clause-ids
returns-in_default-none-clause-ids g c = ids_stay _

pub walk-halted-requires-clause-live : goal.walk-halted-requires-clause-live
walk-halted-requires-clause-live g c = none_open _ _ c.in-Ok-none.ensures.none

pub ending_of-requires-clause-live : goal.ending_of-requires-clause-live
ending_of-requires-clause-live g c = c.walk-halted.ensures.tracks.live

pub ending_of-requires-clause-placed : goal.ending_of-requires-clause-placed
ending_of-requires-clause-placed g c = c.walk-halted.ensures.placed
