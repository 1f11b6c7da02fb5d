use Rattle.std.proofs.Common.{◌≡◌, map}
use Rattle.std.specs.List.{range_with_len}
use Rattle.analyse_core.specs.Reaching.{is_performed}
use Rattle.analyse_core.proofs.reaching.first_marks.Given as goal

abbrev pub invariant-loop-para : goal.invariant-loop-para
invariant-loop-para l = l.marks.items ≡ map (λ para. is_performed para l.own) (range_with_len 0 l.para)
