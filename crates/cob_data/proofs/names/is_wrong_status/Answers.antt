use Rattle.std.proofs.Common.{not, ap, ◌∙◌, List, ℕ}
use Rattle.cob_data.specs.Files.{is_status_item}
use Rattle.cob_data.proofs.names.is_wrong_status.Goals as goal

pub returns-in-Some : goal.returns-in-Some
returns-in-Some c = λ items are. rw c.in-Some.is (ap not (c.is_noted.ensures ∙ are c.get.result.now ∙ ap (λ (n : List ℕ). is_status_item n items) c.get.ensures))
