use Rattle.std.proofs.Common.{◌≡◌, length}
use Rattle.cert_text.specs.Lines.{cut}
use Rattle.cert_text.specs.Draft.{parts_of}
use Rattle.cert_text.specs.Whole.{reading, read_of}
use Rattle.cert_text.proofs.reading.read_lines.Given as goal

abbrev pub invariant-loop-first : goal.invariant-loop-first
invariant-loop-first l = reading l.line (parts_of l.draft) (cut l.rest).whole (cut l.rest).rest ≡ read_of l.bytes

abbrev pub decreases-loop-first : goal.decreases-loop-first
decreases-loop-first l = length l.rest
