use Rattle.std.proofs.Common.{◌≡◌, ◌∙◌, ap}
use Rattle.cert_text.specs.View.{view}
use Rattle.cob_program.specs.ActView.{plain_program}
use Rattle.commands.specs.Alarms.{alarms_of}
use Rattle.commands.specs.Answer.{Report, answer_text, status_of}
use Rattle.commands.specs.View.{plain_answer}
use Rattle.commands.specs.Analysis.{analysis, report_of}
use Rattle.commands.proofs.analysing.findings.texts_of.Goals as goal

pub returns : goal.returns
returns c =
    let p = plain_program c.args.laid.now.program in
    let a = analysis p c.args.laid.now.graph (view c.args.found.now.cert) in
    let same : Report c.in_ok-alarms.alarms.items ≡ report_of a =
    ap Report (c.in_ok-alarms.ensures ∙ ap (alarms_of p) (c.deref.ensures.value ∙ c.requires.pairs)) in
    record {
      found = c.requires.found;
      certificate = c.in_ok-certificate.ensures;
      report = c.in_ok-text.ensures ∙ ap answer_text same;
      status = c.status_of.ensures ∙ ap status_of same;
    }
