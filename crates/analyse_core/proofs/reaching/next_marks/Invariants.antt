use Rattle.std.proofs.Common.{◌≡◌, map}
use Rattle.std.specs.List.{range_with_len}
use Rattle.analyse_core.specs.Mentions.{lists_of}
use Rattle.analyse_core.specs.Reaching.{is_performed_by}
use Rattle.analyse_core.proofs.reaching.next_marks.Given as goal

abbrev pub invariant-loop-para : goal.invariant-loop-para
invariant-loop-para l = l.next.items ≡ map (is_performed_by (lists_of l.texts) l.own l.marks) (range_with_len 0 l.para)
