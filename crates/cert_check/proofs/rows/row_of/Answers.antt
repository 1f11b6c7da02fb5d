use Rattle.std.proofs.Common.{◌∙◌, arith}
use Rattle.cert_check.proofs.Noting.{written_back}
use Rattle.cert_check.proofs.rows.row_of.Goals as goal

pub returns : goal.returns
returns c =
    let kept = c.set_claimed_row.auto.row in
    let len = c.as_mut_slice.ensures.len in
    written_back c.set_claimed_row.new.row c.in_ok-row.row.items c.in_ok-row.row.len (omega (arith, kept, len)) ∙ c.set_claimed_row.ensures
