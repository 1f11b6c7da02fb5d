use Rattle.std.proofs.Common.{◌≡◌, ◌==◌, true, false, rules}
use Rattle.std.specs.List.{list_any}
use Rattle.cob_graph_build.proofs.FileLemmas.{file_here, file_later}
use Rattle.cob_graph_build.proofs.statements.file_of.Goals as goal

pub returns-then-has_record : goal.returns-then-has_record
returns-then-has_record c =
    let has : list_any (λ r. r == c.args.record_place) c.file-item.result.records ≡ true = search rules in
    let l = c.loop-file in
    file_here c.args.layout.now c.get-file-items.result.now l.file-index l.place c.args.record_place c.file-item.result
    c.loop-file-test.true c.file-item.is _ has l.invariant

pub loop-file-preserved : goal.loop-file-preserved
loop-file-preserved c =
    let has : list_any (λ r. r == c.args.record_place) c.file-item.result.records ≡ false = search rules in
    let l = c.loop-file in
    file_later c.args.layout.now c.get-file-items.result.now l.file-index l.place c.args.record_place c.file-item.result
    c.loop-file-test.true c.file-item.is _ c.in_ok-place.place has c.in_ok-place.ensures l.invariant
