use Rattle.std.proofs.Common.{◌≡◌, ◌≤◌, ◌++◌, take, drop}
use Rattle.cob_tree.specs.Pictures.{place_count}
use Rattle.num_bytes.specs.Editing.{begins_suppressed, edited}
use Rattle.num_bytes.proofs.picture.write_symbols.Given as goal

abbrev pub invariant-loop-at : goal.invariant-loop-at
invariant-loop-at l = record {
  at_most_18 : l.places ≤ place_count l.picture;
  places : l.places ≡ place_count (drop l.at l.picture);
  written : take l.at l.bytes ++ edited l.suppressed (drop l.at l.picture) l.number ≡ edited (begins_suppressed l.picture) l.picture l.number;
}
