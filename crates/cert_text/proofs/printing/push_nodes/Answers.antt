use Rattle.std.proofs.Common.{ap, ◌+◌, ℕ}
use Rattle.cert_text.specs.View.{place_of}
use Rattle.cert_text.proofs.Printed.{nodes_step}
use Rattle.cert_text.proofs.printing.push_nodes.Goals as goal

pub loop-node-preserved : goal.loop-node-preserved
loop-node-preserved c = (
  ap (λ (n : ℕ). n + 1) c.loop-node.invariant.0,
  nodes_step place_of c.args.text.now.items c.args.nodes.now c.loop-node.node-index c.loop-node.number c.node-item.result c.loop-node.text.items c.push_node.new.text.items c.loop-node-test.true c.node-item.is c.loop-node.invariant.0 c.loop-node.invariant.1 c.in_ok-push_node.ensures,
)
