use Rattle.std.proofs.Common.{map, drop, ap, ◌∙◌, sym, arith}
use Rattle.std.specs.Option.{option_map}
use Rattle.std.proofs.lemmas.List.{drop-drop}
use Rattle.cob_world.proofs.ContentLemmas.{same_content, next_file}
use Rattle.cob_world.proofs.begin.first_files.Goals as goal

pub loop-at-preserved : goal.loop-at-preserved
loop-at-preserved c = (
  next_file (map (option_map (λ v. v.items)) c.args.contents.now) c.args.decls.now c.loop-at.files.items c.push.new.self.items _ c.closed.result
      (option_map (λ v. v.items) c.content_at.result) c.loop-at.at (omega arith)
      (c.content_at.ensures.value ∙ same_content (option_map (λ v. v.items)) c.loop-at.contents c.args.contents.now c.loop-at.at c.loop-at.invariant.1)
      c.closed.ensures c.in_ok-push.ensures.items c.loop-at.invariant.0,
  c.content_at.ensures.rest
      ∙ (sym (drop-drop 1 c.loop-at.at c.loop-at.contents)
      ∙ (ap (drop 1) c.loop-at.invariant.1 ∙ drop-drop 1 c.loop-at.at c.args.contents.now)),
)
