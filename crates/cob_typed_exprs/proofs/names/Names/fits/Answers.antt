use Rattle.std.proofs.Common.{◌∙◌, ap}
use Rattle.cob_data.specs.declared.layout.Layout.{Layout}
use Rattle.cob_typed_exprs.proofs.AboveLemmas.{flag_step}
use Rattle.cob_typed_exprs.proofs.names.Names.fits.Goals as goal

pub returns-in-Flag : goal.returns-in-Flag
returns-in-Flag c =
    flag_step c.args.self.now c.args.kind c.args.of.now c.args.place c.get.result.now c.index-get-place.result c.stands_within.result c.in-Flag.is c.requires
    (c.get.ensures ∙ ap (λ (l : Layout). l.flags) c.self.view_is)
    c.stands_within.ensures
