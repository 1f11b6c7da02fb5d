use Rattle.std.proofs.Common.{◌≡◌, refl, ◌∙◌, length, ◌-◌, drop, length-take, length-drop, arith}
use Rattle.batch_io.proofs.RecordLemmas.{gives_on, room_kept}
use Rattle.batch_io.proofs.whole.read_record.Goals as goal

pub loop-done-preserved : goal.loop-done-preserved
loop-done-preserved g c =
    let kept = c.loop-done.invariant in
    let call = c.in_ok-count.ensures.call in
    let buf = c.loop-done.buf in
    let done = c.loop-done.done in
    let long : length c.read.new.buf ≡ length buf - done =
    omega (arith, c.read.auto.buf, length-take (length buf - done) (drop done buf), length-drop done buf) in
    let room = room_kept buf c.read.new.buf done (length buf - done) (omega arith) long in
    let fits = call.count in
    record {
      within = omega (arith, room, fits);
      gives = gives_on _ _ _ c.args.id buf c.read.new.buf done _ c.in_ok-count.count kept.within kept.gives call;
      reading = call.reading.kept refl ∙ kept.reading;
      writing = call.writing ∙ kept.writing;
    }
