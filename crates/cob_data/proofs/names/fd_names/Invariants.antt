use Rattle.std.proofs.Common.{◌≡◌, take}
use Rattle.cob_data.specs.Names.{fd_names}
use Rattle.cob_data.proofs.names.fd_names.Given as goal

abbrev pub invariant-loop-fd : goal.invariant-loop-fd
invariant-loop-fd l = l.names.items ≡ fd_names (take l.fd-index l.fds)
