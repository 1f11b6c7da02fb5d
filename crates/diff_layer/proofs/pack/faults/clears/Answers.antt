use Rattle.std.proofs.Common.{sym, ap, ◌∙◌}
use Rattle.cob_tree.specs.Kinds.{has}
use Rattle.cob_tree.proofs.KindLaws.{has_kinds_of}
use Rattle.edge_parts.specs.PartView.{plain_part}
use Rattle.cell_layer.specs.Walks.{clears_small}
use Rattle.diff_layer.specs.Moments.{act_at, seen_at, packs_in, words_in}
use Rattle.diff_layer.specs.Views.{program_of}
use Rattle.diff_layer.proofs.Stepped.{written_to}
use Rattle.diff_layer.proofs.ClearedAt.{clears_too, clears_else}
use Rattle.diff_layer.proofs.pack.faults.clears.Goals as goal

pub returns-then-has : goal.returns-then-has
returns-then-has c wrote written =
    let x = c.args in
    let m = x.moment.now in
    c.if-has.true
    ∙ clears_too (program_of m.items) (packs_in x.matrices.now) (act_at m) m.action (plain_part x.part) (seen_at m) wrote (words_in x.matrices.now) x.fault
    c.requires.small (sym (ap (λ k. has k x.fault) c.requires.cells ∙ has_kinds_of (clears_small (program_of x.moment.now.items) (act_at x.moment.now) x.moment.now.action (plain_part x.part) (seen_at x.moment.now)) x.fault) ∙ (sym c.has.ensures ∙ c.if-has.true))

pub returns-else-has : goal.returns-else-has
returns-else-has c wrote written =
    let x = c.args in
    let m = x.moment.now in
    let p = program_of m.items in
    let part = plain_part x.part in
    clears_else p (packs_in x.matrices.now) (act_at m) m.action part (seen_at m) wrote (words_in x.matrices.now) x.fault c.requires.small c.is_shown.result c.requires.of_edge c.requires.can
    (sym (ap (λ k. has k x.fault) c.requires.cells ∙ has_kinds_of (clears_small (program_of x.moment.now.items) (act_at x.moment.now) x.moment.now.action (plain_part x.part) (seen_at x.moment.now)) x.fault) ∙ (sym c.has.ensures ∙ c.if-has.false))
    (c.is_shown.ensures wrote (written_to p (act_at m) m.action part wrote m.written c.requires.of_edge written))
