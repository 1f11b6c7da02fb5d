-- The table has the powers of ten in order.
use Rattle.std.proofs.Common.{◌^◌, arith}
use Rattle.std.proofs.lemmas.List.FromFn.{get_or-map-range_with_len}
use Rattle.dec_num.proofs.tens.ten.Goals as goal

pub returns : goal.returns
returns c = get_or-map-range_with_len (λ k. 10 ^ k) 0 39 c.args.k c.args.k 0 (omega arith) (omega arith)
