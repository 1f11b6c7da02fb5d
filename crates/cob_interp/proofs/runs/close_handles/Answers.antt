use Rattle.std.proofs.Common.{Result, sym, subst}
use Rattle.cob_interp.specs.declared.ends.Ended.{Ended}
use Rattle.cob_interp.specs.declared.ends.RunEnd.{RunEnd}
use Rattle.cob_interp.specs.Runs.{outside, Runs}
use Rattle.cob_interp.proofs.ClosingHandles.{closed_behind}
use Rattle.cob_interp.proofs.Failing.{own_stays}
use Rattle.cob_interp.proofs.runs.close_handles.Goals as goal

pub returns-clause-stays : goal.returns-clause-stays
returns-clause-stays g c = own_stays c.args.end c.close_all-closed.result c.end_behind.result c.end_behind.ensures

pub returns-clause-runs : goal.returns-clause-runs
returns-clause-runs g c p paths budget start sink runs broken =
    subst (λ (r : Result Ended RunEnd). Runs p paths budget start
    (outside (g.F.Files.state c.close_all-closed.new.files) sink) r) (sym c.end_behind.ensures)
    (closed_behind p paths budget start sink _ _ c.close_all-closed.ensures.same c.args.handles.now c.args.end c.requires.own
    c.close_all-closed.result c.close_all-closed.ensures.counts c.close_all-closed.ensures.first runs broken)
