use Rattle.std.proofs.Common.{◌∙◌, sym, ap, is_some}
use Rattle.cob_data.specs.declared.layout.Layout.{Layout}
use Rattle.cob_typed_exprs.specs.Names.{is_record}
use Rattle.cob_typed_exprs.proofs.HomeLemmas.{is_record_is, copied_is}
use Rattle.cob_typed_exprs.proofs.names.Names.is_record.Goals as goal

pub returns : goal.returns
returns c =
    c.contains_key.ensures ∙ copied_is _
    ∙ ap is_some (c.self.invariant.homes_are c.args.place)
    ∙ sym (is_record_is c.self.inside.layout.now.files c.args.place)
    ∙ ap (λ (l : Layout). is_record l.files c.args.place) c.self.view_is
