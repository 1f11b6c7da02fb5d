use Rattle.std.proofs.Common.{◌≡◌, ap, ◌∙◌, ◌++◌, ◌-◌, ℕ, map, arith}
use Rattle.std.specs.List.{range_with_len}
use Rattle.cob_lex.specs.Text.{mark_at}
use Rattle.cob_lex.specs.Run.{text}
use Rattle.cob_lex.proofs.TextLemmas.{push_more}
use Rattle.cob_lex.proofs.join.Joining.push_columns.Goals as goal

pub loop-column-preserved : goal.loop-column-preserved
loop-column-preserved c = record {
  run = c.in_ok-push.ensures.run;
  marks = push_more _ _ _ c.args.number c.args.line.now c.args.from c.loop-column.column _ (omega arith) c.loop-column.invariant.marks c.byte_at.ensures c.in_ok-push.ensures.marks;
}

pub returns-clause-marks : goal.returns-clause-marks
returns-clause-marks c =
    let end : c.loop-column.column ≡ 73 = omega arith in
    c.loop-column.invariant.marks
    ∙ ap (λ (n : ℕ). text c.args.self.now ++ map (mark_at c.args.number c.args.line.now) (range_with_len c.args.from (n - c.args.from))) end
