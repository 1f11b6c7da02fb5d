use Rattle.std.proofs.Common.{◌≡◌, drop}
use Rattle.cob_data.specs.Files.{longest, largest_record}
use Rattle.cob_data.proofs.files.largest_record.Given as goal

abbrev pub invariant-loop-place : goal.invariant-loop-place
invariant-loop-place l = longest l.most l.file (drop l.place l.items) (drop l.place l.spots) ≡ largest_record l.file l.items l.spots
