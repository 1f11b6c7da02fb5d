use Rattle.std.proofs.Common.{◌≡◌, ◌+◌, ◌-◌, ◌∙◌, drop, ap, sym, subst, arith}
use Rattle.std.specs.Prelude.{IfSome}
use Rattle.interval_domain.specs.Rows.{cells_of, known_at}
use Rattle.cert_text.specs.Claims.{written_from}
use Rattle.cert_text.specs.Gaps.{IsSmall, cell_gaps, gaps_from}
use Rattle.cert_text.proofs.Seeking.{first, found_there, none_found, passed_on, small_at, small_claim}
use Rattle.cert_text.proofs.gaps.cells_gap.Goals as goal

pub cell_gap-gap-requires-clause-reached : goal.cell_gap-gap-requires-clause-reached
cell_gap-gap-requires-clause-reached c =
    subst (λ known. IfSome known IsSmall) (sym c.known_at.ensures.value)
    (small_at (cells_of c.args.row.now) c.loop-k.k c.requires.small (omega (arith, c.requires.cells)))

pub cell_gap-gap-requires-clause-claimed : goal.cell_gap-gap-requires-clause-claimed
cell_gap-gap-requires-clause-claimed c =
    subst (λ known. IfSome known IsSmall) (sym c.claim_at-claimed.ensures.value)
    (small_claim c.args.claims.now c.loop-k.next (c.loop-k.k + 1) c.requires.claims)

pub returns-then-is_some : goal.returns-then-is_some
returns-then-is_some c =
    let reached = cells_of c.args.row.now in
    let k = c.loop-k.k in
    let rest = drop c.loop-k.next c.args.claims.now in
    let gap =
    c.cell_gap-gap.ensures
    ∙ ap (λ r. first (cell_gaps (k + 1) r c.claim_at-claimed.result.0)) c.known_at.ensures.value
    ∙ ap (λ w. first (cell_gaps (k + 1) (known_at reached k) w)) c.claim_at-claimed.ensures.value in
    found_there reached c.args.claims.now c.args.cells k (k + 1) rest c.cell_gap-gap.result (omega arith)
    c.loop-k.invariant.sought (omega (arith, c.requires.cells)) c.loop-k-test.true gap (sym c.is_some.ensures ∙ c.if-is_some.true)

pub loop-k-preserved : goal.loop-k-preserved
loop-k-preserved c =
    let reached = cells_of c.args.row.now in
    let k = c.loop-k.k in
    let rest = drop c.loop-k.next c.args.claims.now in
    let gap =
    c.cell_gap-gap.ensures
    ∙ ap (λ r. first (cell_gaps (k + 1) r c.claim_at-claimed.result.0)) c.known_at.ensures.value
    ∙ ap (λ w. first (cell_gaps (k + 1) (known_at reached k) w)) c.claim_at-claimed.ensures.value in
    record {
      next = c.claim_at-claimed.ensures.within;
      sought =
          passed_on reached c.args.claims.now c.args.cells k (k + 1) rest (drop c.claim_at-claimed.result.1 c.args.claims.now)
          c.cell_gap-gap.result (omega arith) c.loop-k.invariant.sought (omega (arith, c.requires.cells)) c.loop-k-test.true gap
          (sym c.is_some.ensures ∙ c.if-is_some.false) c.claim_at-claimed.ensures.behind;
    }

pub loop-k-init : goal.loop-k-init
loop-k-init c = record {
  next = omega arith;
  sought =
      let whole : c.args.cells ≡ c.args.cells - 0 = omega arith in
      ap (λ n. first (gaps_from 1 (cells_of c.args.row.now) (written_from 1 n c.args.claims.now))) whole;
}

pub returns : goal.returns
returns c =
    none_found (cells_of c.args.row.now) c.args.claims.now c.args.cells c.loop-k.k (drop c.loop-k.next c.args.claims.now) c.loop-k.invariant.sought
    (omega (arith, c.requires.cells))
