use Rattle.std.proofs.Common.{None, Some, Ok, Err, ap, sym, ◌∙◌}
use Rattle.cob_lex.specs.Text.{place}
use Rattle.cob_lex.proofs.TextLemmas.{text_is}
use Rattle.cob_lex.proofs.text.text_of.Goals as goal

pub returns-in-None-clause-text : goal.returns-in-None-clause-text
returns-in-None-clause-text c =
    text_is c.args.bytes.now None (Ok c.in-Ok.text.items) c.in-None.ensures c.in-Ok.ensures

pub returns-in-Some-clause-bad_line : goal.returns-in-Some-clause-bad_line
returns-in-Some-clause-bad_line c =
    rw c.end.ensures (text_is c.args.bytes.now (Some c.in-Some.place) (Ok c.in-Ok.text.items) c.in-Some.ensures c.in-Ok.ensures)

pub returns-in-None-bad-clause-bad_line : goal.returns-in-None-bad-clause-bad_line
returns-in-None-bad-clause-bad_line c =
    rw c.end-in-None-bad.ensures (text_is c.args.bytes.now None (Err (place c.in-Err-BadLine.line c.in-Err-BadLine.column)) c.in-None-bad.ensures (rw c.in-Err-BadLine.field-0-is at c.in-Err-BadLine.ensures))

pub returns-in-Some-bad-clause-bad_line : goal.returns-in-Some-bad-clause-bad_line
returns-in-Some-bad-clause-bad_line c =
    rw c.end-in-Some-bad.ensures (text_is c.args.bytes.now (Some c.in-Some-bad.bad) (Err (place c.in-Err-BadLine.line c.in-Err-BadLine.column)) c.in-Some-bad.ensures (rw c.in-Err-BadLine.field-0-is at c.in-Err-BadLine.ensures) ∙ ap Err (sym c.earlier.ensures))
