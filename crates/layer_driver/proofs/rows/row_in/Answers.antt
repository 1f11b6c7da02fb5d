use Rattle.layer_driver.proofs.rows.row_in.Goals as goal

pub returns : goal.returns
returns c = c.in_ok-element_of.ensures
