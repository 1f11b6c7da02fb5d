use Rattle.std.proofs.Common.{◌+◌, ◌∙◌, replicate, length, drop, refl, ap, sym, subst, pos, arith}
use Rattle.interval_domain.specs.Rows.{cells_of, row_from}
use Rattle.cert_text.specs.Claims.{met_known}
use Rattle.cert_text.proofs.Filling.{IsDoneTo, begun, cannot_go_on, next_done, is_done}
use Rattle.cert_text.proofs.claims.set_claims.Goals as goal

pub loop-k-init : goal.loop-k-init
loop-k-init c = record {
  next = omega arith;
  words = c.set_reached.auto.row;
  reached = c.set_reached.ensures.reached;
  done = begun c.args.owns.now c.args.claims.now (cells_of c.set_reached.new.row) c.set_reached.ensures.cells;
}

pub loop-k-preserved : goal.loop-k-preserved
loop-k-preserved c =
    let owns = c.args.owns.now in
    let claims = c.args.claims.now in
    let k = c.loop-k.k in
    let behind = drop c.claim_at-claimed.result.1 claims in
    let some = sym c.in-Some.is ∙ c.met_known.ensures.value ∙ ap (met_known _) c.claim_at-claimed.ensures.value in
    record {
      next = c.claim_at-claimed.ensures.within;
      words = c.set_known.auto.row ∙ c.loop-k.invariant.words;
      reached = c.set_known.ensures.reached;
      done =
          subst (λ cs. IsDoneTo owns claims (k + 1) cs behind) (sym c.set_known.ensures.cells)
          (next_done owns claims k (k + 1) (cells_of c.loop-k.row) (drop c.loop-k.next claims) behind _ _ c.in-Some.known
          (omega arith) c.loop-k.invariant.done c.loop-k-test.true refl some c.claim_at-claimed.ensures.behind);
    }

pub returns-in_default : goal.returns-in_default
returns-in_default c =
    let owns = c.args.owns.now in
    let claims = c.args.claims.now in
    let k = c.loop-k.k in
    let none = sym c.in_default.is ∙ c.met_known.ensures.value ∙ ap (met_known _) c.claim_at-claimed.ensures.value in
    c.set_unreached.ensures ∙ ap (λ n. replicate n (pos 0)) c.loop-k.invariant.words
    ∙ sym (ap (row_from (length c.args.row.now))
    (cannot_go_on owns claims k (k + 1) (cells_of c.loop-k.row) (drop c.loop-k.next claims) _ _ (omega arith)
    c.loop-k.invariant.done c.loop-k-test.true refl none))

pub returns : goal.returns
returns c =
    c.loop-k.invariant.reached
    ∙ sym (ap (row_from (length c.args.row.now))
    (is_done c.args.owns.now c.args.claims.now c.loop-k.k (cells_of c.loop-k.row) (drop c.loop-k.next c.args.claims.now)
    c.loop-k.invariant.done (omega (arith, c.loop-k-test.false, c.loop-k.auto.k-end))))
