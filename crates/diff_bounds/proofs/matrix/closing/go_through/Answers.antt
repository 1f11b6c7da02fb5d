use Rattle.std.proofs.Common.{◌≡◌, ℕ, ℤ, pos, get_or, ◌≤ℤ◌, ◌<ℤ◌, sym, subst, arith}
use Rattle.std.proofs.lemmas.Int.{ints}
use Rattle.std.proofs.Math.Nat.{le_refl}
use Rattle.diff_bounds.proofs.RowsThrough.{RowsDone, via_row, through_of, trip_negative, rows_more}
use Rattle.diff_bounds.specs.Sums.{IsShort}
use Rattle.std.proofs.lemmas.Bool.{false≢true}
use Rattle.diff_bounds.proofs.matrix.closing.go_through.Goals as goal

pub returns-then-m-place_of-lt0-clause-negative : goal.returns-then-m-place_of-lt0-clause-negative
returns-then-m-place_of-lt0-clause-negative c e =
    let n = c.args.places in
    let new = c.lower_row.new.m in (
      c.loop-row.row,
      c.loop-row-test.true,
      trip_negative n c.args.m.now c.args.via c.loop-row.row c.loop-row.m new c.loop-row.invariant c.requires.diagonal c.requires.via (omega arith)
          (record { words = c.lower_row.ensures.row; others = c.lower_row.ensures.others })
          (subst (λ (p : ℕ). get_or new p (pos 0) <ℤ pos 0) c.place_of.ensures.value (omega (arith, ints))),
    )

pub loop-row-preserved : goal.loop-row-preserved
loop-row-preserved c =
    let n = c.args.places in
    let new = c.lower_row.new.m in
    rows_more n c.args.m.now c.args.via c.loop-row.row c.loop-row.m new c.loop-row.invariant c.requires.diagonal c.requires.via (omega arith)
    (record { words = c.lower_row.ensures.row; others = c.lower_row.ensures.others })
    (subst (λ (p : ℕ). pos 0 ≤ℤ get_or new p (pos 0)) c.place_of.ensures.value (omega (arith, ints)))

-- ---- what the row asks
pub lower_row-requires-clause-few : goal.lower_row-requires-clause-few
lower_row-requires-clause-few c = c.requires.few

pub lower_row-requires-clause-first : goal.lower_row-requires-clause-first
lower_row-requires-clause-first c =
    let row = c.loop-row.row in
    subst (λ (x : ℤ). IsShort x) (sym (c.loop-row.invariant.left row c.args.via (le_refl row) c.loop-row-test.true c.requires.via))
    (c.requires.short row c.args.via c.loop-row-test.true c.requires.via)

pub lower_row-requires-clause-second : goal.lower_row-requires-clause-second
lower_row-requires-clause-second c j h =
    subst (λ (x : ℤ). IsShort x) (sym (via_row c.args.places c.args.m.now c.args.via c.loop-row.row c.loop-row.m c.loop-row.invariant (c.requires.diagonal c.args.via c.requires.via) c.requires.via j h))
    (c.requires.short c.args.via j c.requires.via h)

-- ---- what isn't said
pub returns-then-m-place_of-lt0-clause-through : goal.returns-then-m-place_of-lt0-clause-through
returns-then-m-place_of-lt0-clause-through c t = absurd (false≢true t)

pub returns-then-m-place_of-lt0-clause-diagonal : goal.returns-then-m-place_of-lt0-clause-diagonal
returns-then-m-place_of-lt0-clause-diagonal c t = absurd (false≢true t)

pub returns-clause-negative : goal.returns-clause-negative
returns-clause-negative c e = absurd (false≢true (sym e))

-- ---- behind the last row
pub returns-clause-through : goal.returns-clause-through
returns-clause-through c t =
    let all : c.loop-row.row ≡ c.args.places = omega arith in
    through_of c.args.places c.args.m.now c.args.via c.loop-row.m (subst (λ (k : ℕ). RowsDone c.args.places c.args.m.now c.args.via k c.loop-row.m) all c.loop-row.invariant)

pub returns-clause-diagonal : goal.returns-clause-diagonal
returns-clause-diagonal c t i h =
    let all : c.loop-row.row ≡ c.args.places = omega arith in
    c.loop-row.invariant.diagonal i (rw all h)
