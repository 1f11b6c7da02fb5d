use Rattle.std.proofs.Common.{◌≡◌, drop, not, pos}
use Rattle.std.specs.Prelude.{is_some}
use Rattle.std.specs.List.{list_any}
use Rattle.cob_program.specs.Values.{whole_number}
use Rattle.cob_calc.specs.Receiving.{result_of}
use Rattle.cob_calc.proofs.worked.Worked.has_zero_divisor.Given as goal

abbrev pub invariant-loop-target : goal.invariant-loop-target
invariant-loop-target l =
    list_any (λ t. not (is_some (result_of l.self t.how (whole_number (pos 0))))) (drop l.target-index l.targets)
    ≡ list_any (λ t. not (is_some (result_of l.self t.how (whole_number (pos 0))))) l.targets
