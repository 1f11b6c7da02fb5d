use Rattle.std.proofs.Common.{◌≡◌, ◌++◌, map, take}
use Rattle.cert_text.specs.Text.{entries_text, nodes_entries}
use Rattle.cert_text.specs.View.{place_of}
use Rattle.cert_text.proofs.printing.push_nodes.Given as goal

abbrev pub invariant-loop-node : goal.invariant-loop-node
invariant-loop-node l = (l.number ≡ l.node-index) × (l.text.items ≡ l.fn.text.items ++ entries_text (nodes_entries 1 (map place_of (take l.node-index l.nodes))))
