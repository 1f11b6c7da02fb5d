use Rattle.std.proofs.Common.{◌+◌, ◌*◌, List, ℤ, inl, inr, refl, sym, subst, arith, rules}
use Rattle.std.specs.Int.{w128}
use Rattle.std.proofs.lemmas.Int.{to_z-of_z}
use Rattle.std.proofs.lemmas.Bool.{cases_eq}
use Rattle.diff_bounds.proofs.Puts.{IsColumnPut, column_more, column_skipped}
use Rattle.diff_bounds.proofs.form.assignment.put_column.Goals as goal

pub loop-row-preserved : goal.loop-row-preserved
loop-row-preserved c =
    let n = c.args.places in
    let old = c.args.m.now in
    let words = c.args.words.now in
    let new = c.put_off_diagonal.new.m in
    elim (cases_eq (c.loop-row.row) (c.args.column)) as (λ _. IsColumnPut n old words c.args.column (c.loop-row.row + 1) new) [
      | inl e ↦ subst (λ (l : List ℤ). IsColumnPut n old words c.args.column (c.loop-row.row + 1) l) (sym (c.put_off_diagonal.ensures.kept e))
          (column_skipped n old words c.args.column c.loop-row.row c.loop-row.m e c.loop-row.invariant)
      | inr ne ↦ subst (λ (l : List ℤ). IsColumnPut n old words c.args.column (c.loop-row.row + 1) l) (sym (c.put_off_diagonal.ensures.put ne))
          (column_more n old words c.args.column c.loop-row.row c.loop-row.m (c.loop-row.row * n + c.args.column) _ (search rules) (omega arith) (omega arith) ne refl (to_z-of_z w128 _ (search rules)) c.loop-row.invariant)
    ]
