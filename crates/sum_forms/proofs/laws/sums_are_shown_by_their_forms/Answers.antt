use Rattle.sum_forms.proofs.Sound.{sum_shown}
use Rattle.sum_forms.proofs.laws.sums_are_shown_by_their_forms.Goals as goal

pub returns : goal.returns
returns c = sum_shown
