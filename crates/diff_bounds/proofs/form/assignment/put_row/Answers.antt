use Rattle.std.proofs.Common.{◌+◌, ◌*◌, List, ℤ, inl, inr, refl, sym, subst, arith, rules}
use Rattle.std.specs.Int.{w128}
use Rattle.std.proofs.lemmas.Int.{to_z-of_z}
use Rattle.std.proofs.lemmas.Bool.{cases_eq}
use Rattle.diff_bounds.proofs.Puts.{IsRowPut, row_more, row_skipped}
use Rattle.diff_bounds.proofs.form.assignment.put_row.Goals as goal

pub loop-column-preserved : goal.loop-column-preserved
loop-column-preserved c =
    let n = c.args.places in
    let old = c.args.m.now in
    let words = c.args.words.now in
    let new = c.put_off_diagonal.new.m in
    elim (cases_eq (c.args.row) (c.loop-column.column)) as (λ _. IsRowPut n old words c.args.row (c.loop-column.column + 1) new) [
      | inl e ↦ subst (λ (l : List ℤ). IsRowPut n old words c.args.row (c.loop-column.column + 1) l) (sym (c.put_off_diagonal.ensures.kept e))
          (row_skipped n old words c.args.row c.loop-column.column c.loop-column.m (sym e) c.loop-column.invariant)
      | inr ne ↦ subst (λ (l : List ℤ). IsRowPut n old words c.args.row (c.loop-column.column + 1) l) (sym (c.put_off_diagonal.ensures.put ne))
          (row_more n old words c.args.row c.loop-column.column c.loop-column.m (c.args.row * n + c.loop-column.column) _ (search rules) (omega arith) (omega arith) (λ e. ne (sym e)) refl (to_z-of_z w128 _ (search rules)) c.loop-column.invariant)
    ]
