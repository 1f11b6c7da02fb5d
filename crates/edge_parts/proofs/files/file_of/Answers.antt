use Rattle.std.proofs.Common.{◌==◌, sym, ap, ◌∙◌, arith}
use Rattle.std.specs.List.{list_any}
use Rattle.edge_parts.proofs.FileLoops.{next_file, this_file}
use Rattle.edge_parts.proofs.files.file_of.Goals as goal

pub returns-then-is_record : goal.returns-then-is_record
returns-then-is_record c =
    this_file c.args.layout.now c.get-decl-items.result.now c.loop-at.at c.args.rec c.decl-item.result (omega arith) c.decl-item.is
    (ap (λ rs. list_any (λ r. r == c.args.rec) rs) (sym c.get.ensures) ∙ (sym c.is_record.ensures ∙ c.if-is_record.true))
    ∙ sym c.loop-at.invariant

pub loop-at-preserved : goal.loop-at-preserved
loop-at-preserved c =
    c.loop-at.invariant
    ∙ next_file c.args.layout.now c.get-decl-items.result.now c.loop-at.at c.args.rec c.decl-item.result (omega arith) c.decl-item.is
    (ap (λ rs. list_any (λ r. r == c.args.rec) rs) (sym c.get.ensures) ∙ (sym c.is_record.ensures ∙ c.if-is_record.false))
