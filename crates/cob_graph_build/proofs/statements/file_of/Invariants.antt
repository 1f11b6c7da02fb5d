use Rattle.std.proofs.Common.{◌≡◌, drop}
use Rattle.std.specs.Option.{option_map_or}
use Rattle.cob_runs.specs.Acts.{file_from}
use Rattle.cob_graph_build.proofs.statements.file_of.Given as goal

abbrev pub invariant-loop-file : goal.invariant-loop-file
invariant-loop-file l =
    option_map_or (λ f. f) (file_from l.layout l.place (drop l.file-index l.file-items) l.record_place) 0
    ≡ option_map_or (λ f. f) (file_from l.layout 0 l.layout.files l.record_place) 0
