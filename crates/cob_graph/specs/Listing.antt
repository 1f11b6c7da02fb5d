-- What contracts see of the calls and jumps that are found.
use Rattle.std.specs.Prelude.{map}
use Rattle.cob_graph.specs.declared.calls.Span as declared_span
use Rattle.cob_graph.specs.declared.calls.Call as declared_call
use Rattle.cob_graph.specs.declared.calls.Jump as declared_jump
use Rattle.cob_graph.specs.declared.calls.Found as declared_found
use Rattle.cob_graph.specs.Nesting.{Span, Call, Jump, Found}

abbrev pub plain_span : declared_span.Span → Span
plain_span s = record { first = s.first; last = s.last }

abbrev pub plain_call : declared_call.Call → Call
plain_call c = record { line = c.line; para = c.para; span = plain_span c.span }

abbrev pub plain_jump : declared_jump.Jump → Jump
plain_jump j = record { line = j.line; para = j.para; to = j.to }

abbrev pub plain_found : declared_found.Found → Found
plain_found f = record { calls = map plain_call f.calls.items; jumps = map plain_jump f.jumps.items }
