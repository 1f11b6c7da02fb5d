use Rattle.std.proofs.Common.{◌≡◌, ◌+◌, ◌++◌, pos, rules, ap, ◌∙◌, arith}
use Rattle.std.specs.Int.{w128}
use Rattle.std.specs.Prelude.{slice_index_or}
use Rattle.std.specs.List.{flat_map, range_with_len}
use Rattle.std.proofs.lemmas.Int.{to_z-of_z}
use Rattle.diff_bounds.specs.PackRows.{words_of}
use Rattle.cert_text.specs.Bounds.{word_bounds}
use Rattle.cert_text.proofs.Adding.{one_more}
use Rattle.cert_text.proofs.bounds.add_matrix.Goals as goal

pub loop-at-preserved : goal.loop-at-preserved
loop-at-preserved c =
    one_more (λ k. word_bounds c.args.pack c.args.size k (slice_index_or c.args.m.now k (pos 0))) c.loop-at.at (c.loop-at.at + 1) c.args.bounds.now.items
    c.loop-at.bounds.items c.add_word.new.bounds.items (omega arith) c.loop-at.invariant
    (c.in_ok-add_word.ensures
    ∙ ap (λ x. c.loop-at.bounds.items ++ word_bounds c.args.pack c.args.size c.loop-at.at x)
    (to_z-of_z w128 (slice_index_or c.args.m.now c.loop-at.at (pos 0)) (search rules)))

pub returns : goal.returns
returns c =
    let whole : c.loop-at.at ≡ words_of c.args.size = omega (arith, c.requires.width) in
    c.loop-at.invariant
    ∙ ap
    (λ n.
    c.args.bounds.now.items
    ++ flat_map (λ k. word_bounds c.args.pack c.args.size k (slice_index_or c.args.m.now k (pos 0))) (range_with_len 0 n)) whole
