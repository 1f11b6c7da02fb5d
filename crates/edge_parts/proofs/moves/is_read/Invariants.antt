use Rattle.std.proofs.Common.{◌≡◌, drop}
use Rattle.std.specs.List.{list_any}
use Rattle.cob_runs.specs.Contents.{form_at}
use Rattle.cob_edge_parts.specs.Parts.{is_read_for}
use Rattle.edge_parts.proofs.moves.is_read.Given as goal

abbrev pub invariant-loop-place : goal.invariant-loop-place
invariant-loop-place l = list_any (λ place. is_read_for l.layout (form_at l.layout place) l.from) (drop l.place-index l.to)
    ≡ list_any (λ place. is_read_for l.layout (form_at l.layout place) l.from) l.to
