use Rattle.std.proofs.Common.{◌≡◌, ℕ, true, false, List, String, Global, sym, ap, ◌∙◌}
use Rattle.cob_data.specs.Names.{stands_in}
use Rattle.command_words.specs.Words.{texts, lent_texts}
use Rattle.commands.specs.Paths.{path_of}
use Rattle.commands.proofs.Clashes.{clash_found, clash_refused, paths_more, clash_more}
use Rattle.commands.proofs.running.paths.distinct_paths.Goals as goal

pub returns-then-stands_in : goal.returns-then-stands_in
returns-then-stands_in c =
    let text = c.as_str.ensures.value ∙ c.in_ok-path.ensures.text in
    let there : stands_in (texts c.loop-file.paths.items)
    (path_of (lent_texts c.args.words.now) c.file-item.result) ≡ true =
    ap (λ (t : List ℕ). stands_in (texts c.loop-file.paths.items) t) (sym text) ∙
    ap (λ (ps : List (String Global)). stands_in (texts ps) c.as_str.result.now) (sym c.deref.ensures.value) ∙
    sym c.stands_in.ensures ∙ c.if-stands_in.true in
    clash_refused (lent_texts c.args.words.now) c.args.files.now c.file-item.result c.refusal.result
    (clash_found (lent_texts c.args.words.now) c.args.files.now c.loop-file.file-index c.file-item.result
    (texts c.loop-file.paths.items) c.loop-file-test.true c.file-item.is there c.loop-file.invariant.clash_is)
    c.refusal.ensures

pub loop-file-preserved : goal.loop-file-preserved
loop-file-preserved c =
    let text = c.as_str.ensures.value ∙ c.in_ok-path.ensures.text in
    let new : stands_in (texts c.loop-file.paths.items)
    (path_of (lent_texts c.args.words.now) c.file-item.result) ≡ false =
    ap (λ (t : List ℕ). stands_in (texts c.loop-file.paths.items) t) (sym text) ∙
    ap (λ (ps : List (String Global)). stands_in (texts ps) c.as_str.result.now) (sym c.deref.ensures.value) ∙
    sym c.stands_in.ensures ∙ c.if-stands_in.false in
    record {
      so_far =
          paths_more (lent_texts c.args.words.now) c.args.files.now c.loop-file.file-index c.file-item.result
          c.loop-file.paths.items c.push.new.self.items c.in_ok-path.path c.loop-file-test.true c.file-item.is
          c.in_ok-path.ensures.text c.in_ok-push.ensures.items
          c.loop-file.invariant.so_far;
      clash_is =
          clash_more (lent_texts c.args.words.now) c.args.files.now c.loop-file.file-index c.file-item.result
          c.loop-file.paths.items c.push.new.self.items c.in_ok-path.path c.loop-file-test.true c.file-item.is
          c.in_ok-path.ensures.text c.in_ok-push.ensures.items
          new c.loop-file.invariant.clash_is;
    }
