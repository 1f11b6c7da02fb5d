use Rattle.std.proofs.Common.{ℕ, pos, get_or, refl, sym, ap, ◌∙◌, arith, rules}
use Rattle.std.specs.Int.{w128}
use Rattle.std.proofs.lemmas.Int.{to_z-of_z}
use Rattle.diff_bounds.specs.Matrix.{word}
use Rattle.diff_bounds.proofs.RowsThrough.{short_along, lesser_along, via_word, columns_more}
use Rattle.diff_bounds.proofs.matrix.closing.lower_row.Goals as goal

pub lesser-requires-clause-second : goal.lesser-requires-clause-second
lesser-requires-clause-second c =
    let n = c.args.places in
    let m = c.loop-column.m in
    short_along (word n c.args.m.now c.args.via c.loop-column.column) _
    (to_z-of_z w128 _ (search rules) ∙ ap (λ (p : ℕ). get_or m p (pos 0)) c.place_of-in-loop-column.ensures.value ∙ via_word n c.args.m.now c.args.via c.args.row c.loop-column.column m c.loop-column.invariant.columns c.requires.via (omega arith))
    (c.requires.second c.loop-column.column (omega arith))

pub loop-column-preserved : goal.loop-column-preserved
loop-column-preserved c =
    let n = c.args.places in
    let m = c.loop-column.m in
    let column = c.loop-column.column in
    let columns = c.loop-column.invariant.columns in
    record {
      first = c.loop-column.invariant.first;
      columns = columns_more n c.args.m.now c.args.via c.args.row column m c.place_of-at.result _ (search rules) c.requires.row (omega arith) c.place_of-at.ensures.value columns
          (lesser_along _ _ _ _ (word n c.args.m.now c.args.row column) (word n c.args.m.now c.args.row c.args.via) (word n c.args.m.now c.args.via column) _
          (sym (to_z-of_z w128 _ (search rules) ∙ ap (λ (p : ℕ). get_or m p (pos 0)) c.place_of-at.ensures.value ∙ columns.left column (omega arith) (omega arith)))
          (sym c.loop-column.invariant.first)
          (sym (to_z-of_z w128 _ (search rules) ∙ ap (λ (p : ℕ). get_or m p (pos 0)) c.place_of-in-loop-column.ensures.value ∙ via_word n c.args.m.now c.args.via c.args.row column m columns c.requires.via (omega arith)))
          (to_z-of_z w128 _ (search rules))
          c.lesser.ensures);
    }

pub lesser-requires-clause-first : goal.lesser-requires-clause-first
lesser-requires-clause-first c = short_along _ _ c.loop-column.invariant.first c.requires.first

pub returns-after-loop-column-clause-row : goal.returns-after-loop-column-clause-row
returns-after-loop-column-clause-row c j h = c.loop-column.invariant.columns.done j (omega arith)

pub returns-after-loop-column-clause-others : goal.returns-after-loop-column-clause-others
returns-after-loop-column-clause-others c = c.loop-column.invariant.columns.others

pub returns-else-first-lt-NO_PATH-clause-others : goal.returns-else-first-lt-NO_PATH-clause-others
returns-else-first-lt-NO_PATH-clause-others c i j h g ne = refl
