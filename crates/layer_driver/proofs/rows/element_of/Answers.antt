use Rattle.cert_text.specs.View.{place_of}
use Rattle.layer_driver.proofs.Claims.{rows_of_claims_are_elements}
use Rattle.layer_driver.proofs.rows.element_of.Goals as goal

pub returns : goal.returns
returns c = rows_of_claims_are_elements c.args.owns.now (place_of c.args.place.now) _ c.in_ok-row_of.ensures
