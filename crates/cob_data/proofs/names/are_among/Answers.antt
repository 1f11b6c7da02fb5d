use Rattle.std.proofs.lemmas.Result.{IfOk-weaker}
use Rattle.std.proofs.Common.{◌≡◌, map, ◌∙◌}
use Rattle.cob_data.specs.Names.{stands_in}
use Rattle.cob_data.proofs.NameLemmas.{same_flags}
use Rattle.cob_data.proofs.names.are_among.Goals as goal

pub returns : goal.returns
returns c = IfOk-weaker c.flag_found.result _ (λ v. v.items ≡ map (stands_in c.args.others.now) c.args.names.now) (λ v so. so ∙ same_flags _ _ c.args.names.now c.in_ok-put_names.ensures) c.flag_found.ensures
