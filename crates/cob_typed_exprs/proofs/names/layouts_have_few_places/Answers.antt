use Rattle.cob_typed_exprs.proofs.FewPlaces.{few_places}
use Rattle.cob_typed_exprs.proofs.names.layouts_have_few_places.Goals as goal

pub returns : goal.returns
returns c = few_places
