use Rattle.std.proofs.Common.{refl, ap, ◌∙◌, ◌-◌, length, take, drop}
use Rattle.std.specs.Io.KnownBytes.{append_known}
use Rattle.batch_io.proofs.WholeLemmas.{piece_fits, shown_more}
use Rattle.batch_io.proofs.whole.show_whole.Goals as goal

pub loop-done-preserved : goal.loop-done-preserved
loop-done-preserved g c =
    let bytes = c.args.bytes.now in
    let done = c.loop-done.done in
    let count = c.in_ok-done.field-0 in
    let kept = c.loop-done.invariant in
    let call = c.in_ok-done.ensures.call in
    record {
      within = piece_fits bytes done count kept.within call.count;
      told = call.appended ∙ ap (λ told. append_known told (take count (take (length bytes - done) (drop done bytes)))) kept.told
          ∙ shown_more (g.O.Sink.state c.args.out.now).told bytes done count;
      faults = call.faults.kept refl ∙ kept.faults;
    }
