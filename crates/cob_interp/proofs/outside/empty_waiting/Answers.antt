use Rattle.std.proofs.Common.{ℕ, List, Some, ap, ◌∙◌}
use Rattle.cob_runs.specs.State.{with_files}
use Rattle.cob_world.specs.Calling.{refilled, replaced}
use Rattle.cob_interp.proofs.EmptyRooms.{idle_emptied, emptied_once, emptied_twice}
use Rattle.cob_interp.proofs.outside.empty_waiting.Goals as goal

pub returns-in_default-clause-emptied : goal.returns-in_default-clause-emptied
returns-in_default-clause-emptied c = idle_emptied c.args.place c.args.world.now.world c.in_default.ensures

pub returns-clause-emptied : goal.returns-clause-emptied
returns-clause-emptied c =
    let w = c.args.world.now.world in
    let u = c.replace_content-waited.new.self.world in
    c.set_content.ensures.value
    ∙ ap (λ (bytes : List ℕ). with_files u (refilled c.args.place (Some bytes) u.files)) c.clear.ensures.items
    ∙ emptied_twice c.args.place c.in-Some.at w u c.in-Some.ensures
    (c.replace_content-waited.ensures.value
    ∙ ap (λ (bytes : List ℕ). with_files w (replaced c.args.place (Some bytes) c.in-Some.at w.files)) c.new.ensures.items
    ∙ emptied_once c.args.place c.in-Some.at w c.in-Some.ensures)
