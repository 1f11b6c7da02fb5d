use Rattle.cob_interp.proofs.HandleLemmas.{puts_under_part, puts_short}
use Rattle.cob_interp.proofs.handles.Handles.put.Goals as goal

pub returns-in-Ok-clause-part : goal.returns-in-Ok-clause-part
returns-in-Ok-clause-part g c =
    puts_under_part _ _ c.args.self.now c.args.place c.id_for-id.result c.args.bytes.now _ c.id_for-id.ensures
    c.put_whole.ensures

pub returns-in-Err-Failed-clause-part : goal.returns-in-Err-Failed-clause-part
returns-in-Err-Failed-clause-part g c =
    puts_under_part _ _ c.args.self.now c.args.place c.id_for-id.result c.args.bytes.now _ c.id_for-id.ensures
    c.put_whole.ensures

pub returns-in-Err-Memory-clause-part : goal.returns-in-Err-Memory-clause-part
returns-in-Err-Memory-clause-part g c =
    puts_under_part _ _ c.args.self.now c.args.place c.id_for-id.result c.args.bytes.now _ c.id_for-id.ensures
    c.put_whole.ensures

pub returns-in-Err-Failed-clause-short : goal.returns-in-Err-Failed-clause-short
returns-in-Err-Failed-clause-short g c =
    puts_short _ _ c.args.self.now c.args.place c.id_for-id.result c.args.bytes.now _ c.id_for-id.ensures
    c.in-Err-Failed.ensures

pub returns-in-Err-Memory-clause-short : goal.returns-in-Err-Memory-clause-short
returns-in-Err-Memory-clause-short g c =
    puts_short _ _ c.args.self.now c.args.place c.id_for-id.result c.args.bytes.now _ c.id_for-id.ensures
    c.in-Err-Memory.ensures
