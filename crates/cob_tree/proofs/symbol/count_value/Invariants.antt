use Rattle.std.proofs.Common.{◌≡◌, ◌+◌, min, true, take}
use Rattle.std.specs.List.{list_all}
use Rattle.std.specs.Char.{is_ascii_digit}
use Rattle.std.specs.Str.Parse.{digits_value}
use Rattle.cob_tree.specs.Pictures.{most_bytes}
use Rattle.cob_tree.proofs.symbol.count_value.Given as goal

abbrev pub invariant-loop-digit : goal.invariant-loop-digit
invariant-loop-digit l = record {
  decimal : list_all is_ascii_digit (take l.digit-index l.digits) ≡ true;
  value : l.value ≡ min (digits_value 10 (take l.digit-index l.digits)) (most_bytes + 1);
}
