use Rattle.std.proofs.Common.{◌≡◌, ◌++◌, map, take}
use Rattle.cert_text.specs.Text.{entries_text, bound_entry}
use Rattle.cert_text.proofs.printing.push_bounds.Given as goal

abbrev pub invariant-loop-bound : goal.invariant-loop-bound
invariant-loop-bound l = l.text.items ≡ l.fn.text.items ++ entries_text (map bound_entry (take l.bound-index l.bounds))
