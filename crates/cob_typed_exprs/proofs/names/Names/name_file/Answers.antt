use Rattle.std.proofs.Common.{◌∙◌, sym, ap}
use Rattle.std.specs.Option.{option_copied}
use Rattle.cob_data.specs.declared.layout.Layout.{Layout}
use Rattle.cob_typed_exprs.specs.Names.{qualifies, file_above}
use Rattle.cob_typed_exprs.specs.Homes.{list_of}
use Rattle.cob_typed_exprs.proofs.HomeLemmas.{file_above_is}
use Rattle.cob_typed_exprs.proofs.names.Names.name_file.Goals as goal

pub returns : goal.returns
returns c =
    let home = ap option_copied (c.copied.ensures ∙ c.get.ensures.value) ∙ c.self.invariant.homes_are c.args.place in
    c.name_home.ensures
    ∙ ap (λ h. qualifies c.args.of.now (list_of h)) home
    ∙ ap (qualifies c.args.of.now) (sym (file_above_is c.self.inside.layout.now.files c.args.place))
    ∙ ap (λ (l : Layout). qualifies c.args.of.now (file_above l.files c.args.place)) c.self.view_is
