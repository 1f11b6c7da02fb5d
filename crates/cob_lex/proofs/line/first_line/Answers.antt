use Rattle.std.proofs.Common.{◌+◌, ◌∷◌, length, drop, ap, sym, ◌∙◌, arith}
use Rattle.std.proofs.lemmas.List.{take_rest, drop_all}
use Rattle.std.specs.Str.Lines.{lines}
use Rattle.cob_lex.proofs.LineLemmas.{lines_at, lines_none}
use Rattle.cob_lex.proofs.line.first_line.Goals as goal

pub returns-in-Some-clause-cut : goal.returns-in-Some-clause-cut
returns-in-Some-clause-cut c =
    let bytes = c.args.bytes.now in
    let end = c.in-Some.end in
    let found = c.in-Some.ensures in
    rw take_rest (lines_at bytes end found.0.high found.0.before found.1 ∙ ap (λ l. l ∷ lines (drop (end + 1) bytes)) (sym c.without_return.ensures.stripped))

pub returns-in-None-clause-cut : goal.returns-in-None-clause-cut
returns-in-None-clause-cut c =
    let bytes = c.args.bytes.now in
    rw (take_rest, drop_all (length bytes) bytes (omega arith)) (lines_none bytes c.requires c.in-None.ensures)
