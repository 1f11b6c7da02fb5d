use Rattle.std.proofs.Common.{◌∙◌, ◌++◌, sym, ap}
use Rattle.std.specs.FinMap.{insert}
use Rattle.std.proofs.lemmas.Result.{err_from_is_err_and}
use Rattle.batch_io.specs.Memory.{contents_of}
use Rattle.batch_io.proofs.MemoryLemmas.{files-set, files-set_same, files-push, absent_bytes, present_bytes}
use Rattle.batch_io.proofs.memory.append.Goals as goal

pub returns-in_err-extend_from_slice-in-Some-clause-err : goal.returns-in_err-extend_from_slice-in-Some-clause-err
returns-in_err-extend_from_slice-in-Some-clause-err c =
    let end = err_from_is_err_and c.from_residual.result c.from_residual.ensures.1 in
    let same = files-set_same c.args.files.now.items c.args.name.now c.in-Some.place (sym c.in-Some.ensures) c.index_mut.result.now c.index_mut.ensures.value c.extend_from_slice.new.self
    c.in_err-extend_from_slice-in-Some.ensures.items in
    rw end.1 same

pub returns-in_ok-extend_from_slice-in-Some-clause-ok : goal.returns-in_ok-extend_from_slice-in-Some-clause-ok
returns-in_ok-extend_from_slice-in-Some-clause-ok c =
    let files = c.args.files.now.items in
    let name = c.args.name.now in
    files-set files name c.in-Some.place (sym c.in-Some.ensures) c.index_mut.result.now c.index_mut.ensures.value c.extend_from_slice.new.self
    ∙ ap (insert (contents_of files) name) (c.in_ok-extend_from_slice-in-Some.ensures.items
    ∙ ap (λ bytes. bytes ++ c.args.piece.now) (sym (present_bytes files name c.in-Some.place (sym c.in-Some.ensures) c.index_mut.result.now c.index_mut.ensures.value)))

pub returns-in_ok-push-in-None-clause-ok : goal.returns-in_ok-push-in-None-clause-ok
returns-in_ok-push-in-None-clause-ok c =
    let files = c.args.files.now.items in
    let name = c.args.name.now in
    ap contents_of c.in_ok-push-in-None.ensures.items
    ∙ files-push files name (c.in_ok-from_str-in-None.field-0, c.in_ok-from_slice-in-None.field-0) c.in_ok-from_str-in-None.ensures.ok (sym c.in-None.ensures)
    ∙ ap (insert (contents_of files) name) (c.in_ok-from_slice-in-None.ensures.items
    ∙ ap (λ bytes. bytes ++ c.args.piece.now) (sym (absent_bytes files name (sym c.in-None.ensures))))
