use Rattle.std.proofs.Common.{◌+◌, suc, drop, sym, subst, arith}
use Rattle.std.specs.Prelude.{IfSome}
use Rattle.interval_domain.specs.Rows.{cells_of}
use Rattle.cert_text.specs.Gaps.{IsSmall}
use Rattle.cert_text.proofs.Seeking.{small_at}
use Rattle.analyse_core.specs.Certificates.{claims_from, known_claims}
use Rattle.analyse_core.proofs.Claiming.{claims_cut, all_claimed}
use Rattle.cob_program.proofs.Loops.{added}
use Rattle.analyse_core.proofs.certificate.claims_of.Goals as goal

pub add_known-requires : goal.add_known-requires
add_known-requires c =
    subst (λ known. IfSome known IsSmall) (sym c.known_at.ensures.value)
    (small_at (cells_of c.args.row.now) c.loop-k.k c.requires.small (omega (arith, c.requires.cells)))

pub loop-k-preserved : goal.loop-k-preserved
loop-k-preserved c =
    let cs = cells_of c.args.row.now in
    let k = c.loop-k.k in
    added _ _ (known_claims (k + 1) c.known_at.result) (claims_from (suc (k + 1)) (drop (k + 1) cs)) _ _ c.in_ok-add_known.ensures
    (claims_cut cs k (k + 1) c.known_at.result (omega arith) (omega (arith, c.requires.cells, c.loop-k-test.true)) c.known_at.ensures.value)
    c.loop-k.invariant

pub returns : goal.returns
returns c =
    all_claimed (cells_of c.args.row.now) c.loop-k.k _ (omega (arith, c.requires.cells, c.loop-k-test.false)) c.loop-k.invariant
