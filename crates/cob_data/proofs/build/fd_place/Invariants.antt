use Rattle.std.proofs.Common.{◌≡◌, drop}
use Rattle.std.specs.List.{position_from}
use Rattle.std.specs.Str.{bytes_eq}
use Rattle.cob_tree.specs.declared.front.Fd.{Fd}
use Rattle.cob_data.proofs.build.fd_place.Given as goal

abbrev pub invariant-loop-place : goal.invariant-loop-place
invariant-loop-place l = position_from (λ (f : Fd). bytes_eq f.name l.name) l.place (drop l.place l.fds) ≡ position_from (λ (f : Fd). bytes_eq f.name l.name) 0 l.fds
