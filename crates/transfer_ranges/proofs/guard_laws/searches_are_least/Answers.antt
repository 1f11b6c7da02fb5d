use Rattle.transfer_ranges.proofs.Searches.{kept_is, number_of_met, met_of_number}
use Rattle.transfer_ranges.proofs.guard_laws.searches_are_least.Goals as goal

pub returns : goal.returns
returns c = record {
  least = kept_is;
  met = λ test i. (number_of_met test i, λ h. met_of_number test i h.0 h.1 h.2);
}
