use Rattle.std.proofs.Common.{List, length, refl, ap, arith}
use Rattle.cob_tree.specs.declared.front.Fd.{Fd}
use Rattle.cob_data.specs.Entries.{file_entries}
use Rattle.cob_data.proofs.ReadLemmas.{reads_front, front_length}
use Rattle.cob_data.proofs.read.read_front.Goals as goal

pub read-requires : goal.read-requires
read-requires c =
    let count = front_length c.args.front.now in
    let more = c.in_ok-read_files.ensures.more in
    omega (arith, ap length c.new.ensures.items, ap length c.entries_in.ensures, ap (λ (xs : List Fd). length (file_entries 0 xs)) c.fds_in.ensures, c.requires.entries)

pub returns-clause-items : goal.returns-clause-items
returns-clause-items c = (reads_front _ _ _ c.args.front.now _ _ c.new.ensures.items c.new-2.ensures.items refl c.fds_in.ensures c.entries_in.ensures c.in_ok-read_files.ensures.moves c.in_ok-read.ensures.moves).items

pub returns-clause-conditions : goal.returns-clause-conditions
returns-clause-conditions c = (reads_front _ _ _ c.args.front.now _ _ c.new.ensures.items c.new-2.ensures.items refl c.fds_in.ensures c.entries_in.ensures c.in_ok-read_files.ensures.moves c.in_ok-read.ensures.moves).conditions
