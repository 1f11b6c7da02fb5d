use Rattle.data_laws.proofs.Signs.{separate_items_have_signs}
use Rattle.data_laws.proofs.laws.separate_items_have_signs.Goals as goal

pub returns : goal.returns
returns c = separate_items_have_signs
