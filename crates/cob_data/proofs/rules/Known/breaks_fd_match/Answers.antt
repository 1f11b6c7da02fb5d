use Rattle.std.proofs.Common.{List, ap, ◌∙◌}
use Rattle.std.specs.List.{list_any}
use Rattle.cob_data.specs.Files.{is_record_of}
use Rattle.cob_data.specs.declared.description.Description.{Description}
use Rattle.cob_data.proofs.NameLemmas.{lacks_select_is, fd_match_then, fd_match_else}
use Rattle.cob_data.proofs.rules.Known.breaks_fd_match.Goals as goal

pub returns-then-lacks_select : goal.returns-then-lacks_select
returns-then-lacks_select c = λ d is. fd_match_then c.args.self.now c.args.file c.lacks_select.result d (lacks_select_is c.args.names.now c.args.self.now c.args.file c.lacks_select.result c.requires.named c.requires.within c.lacks_select.ensures d is) c.if-lacks_select.true

pub returns-else-lacks_select : goal.returns-else-lacks_select
returns-else-lacks_select c = λ d is.
    let has = c.has_record.ensures ∙ ap (λ (ds : List Description). list_any (is_record_of c.args.file) ds) (c.deref.ensures.value ∙ ap (λ f. f.items) c.self.view_is) in
    fd_match_else c.args.self.now c.args.file c.lacks_select.result c.has_record.result d (lacks_select_is c.args.names.now c.args.self.now c.args.file c.lacks_select.result c.requires.named c.requires.within c.lacks_select.ensures d is) c.if-lacks_select.false has
