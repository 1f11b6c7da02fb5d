use Rattle.std.proofs.Common.{◌≡◌, map}
use Rattle.std.specs.Prelude.{take}
use Rattle.cert_text.specs.View.{place_of}
use Rattle.cert_text.specs.Claims.{claimed_row}
use Rattle.cert_check.specs.Rows.{words_of}
use Rattle.cert_check.proofs.rows.rows_of.Given as goal

abbrev pub invariant-loop-place : goal.invariant-loop-place
invariant-loop-place l = words_of l.rows.items ≡ map (claimed_row l.owns) (map place_of (take l.place-index l.places))
