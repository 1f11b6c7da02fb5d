use Rattle.std.proofs.Common.{refl, rules, ◌∙◌, ap, Ok}
use Rattle.std.proofs.lemmas.Result.{err_from_is_err_and}
use Rattle.cob_store.proofs.MoveLemmas.{moved_to-filled, moved_to-cause}
use Rattle.cob_store.proofs.moves.move_to_all.Goals as goal

pub returns-in_err-values : goal.returns-in_err-values
returns-in_err-values c =
    let s = c.args.storage.now in
    let p = err_from_is_err_and c.from_residual.result c.from_residual.ensures.1 in
    rw (p.1, p.2) (
      moved_to-cause c.args.layout.now s c.args.sender.now c.args.to.now s c.in_err-values.field-0.0
          c.in_err-values.ensures.value,
      refl,
    )

pub returns : goal.returns
returns c =
    let s = c.args.storage.now in
    moved_to-filled c.args.layout.now s c.args.sender.now c.args.to.now s c.in_ok-values.values.items
    c.in_ok-values.ensures.value
    ∙ ap Ok (search rules)
