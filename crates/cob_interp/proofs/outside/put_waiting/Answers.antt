use Rattle.std.proofs.Common.{ap, sym, ◌∙◌}
use Rattle.cob_world.specs.Views.{plain_mode}
use Rattle.cob_interp.proofs.Passing.{ids_stay}
use Rattle.cob_interp.proofs.Waiting.{put_touches, writes_lose, other_readies, untouched_one, writes_readies}
use Rattle.cob_interp.proofs.outside.put_waiting.Goals as goal

pub returns-in-Writing-clause-readies : goal.returns-in-Writing-clause-readies
returns-in-Writing-clause-readies g c =
    writes_readies _ _ c.args.handles.now c.args.place c.args.file.now
    (sym c.mode.ensures ∙ ap plain_mode c.in-Writing.is) c.all.result.now c.all.ensures _ c.put.ensures.puts

pub returns-in-Writing-clause-touches : goal.returns-in-Writing-clause-touches
returns-in-Writing-clause-touches g c path named =
    put_touches _ _ c.args.handles.now c.args.place path c.args.file.now named
    (sym c.mode.ensures ∙ ap plain_mode c.in-Writing.is) (rw (sym c.all.ensures) c.put.ensures.part)

pub returns-in-Writing-clause-loses : goal.returns-in-Writing-clause-loses
returns-in-Writing-clause-loses g c =
    writes_lose _ _ c.args.handles.now c.args.place c.args.file.now
    (sym c.mode.ensures ∙ ap plain_mode c.in-Writing.is) c.all.result.now c.all.ensures _ c.put.ensures.short

pub returns-in-Closed : goal.returns-in-Closed
returns-in-Closed g c = record {
  readies = λ path named. other_readies _ path c.args.file.now c.mode.result c.mode.ensures c.in-Closed.is;
  touches = λ path named. untouched_one _ path c.args.file.now;
  loses = tt;
  ids = ids_stay _;
  fault = tt;
}
