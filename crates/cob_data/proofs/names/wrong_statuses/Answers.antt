use Rattle.std.proofs.Common.{◌≡◌, map}
use Rattle.cob_data.specs.Files.{breaks_status}
use Rattle.std.proofs.lemmas.Result.{IfOk-weaker}
use Rattle.cob_data.proofs.names.wrong_statuses.Goals as goal

pub returns : goal.returns
returns c = IfOk-weaker c.flag_wrong_statuses.result _ (λ v. v.items ≡ map (breaks_status c.args.items.now) c.args.selects.now) (λ v so. so c.args.items.now c.in_ok-note_items.ensures) c.flag_wrong_statuses.ensures
