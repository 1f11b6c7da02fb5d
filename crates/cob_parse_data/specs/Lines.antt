-- The divisions before PROCEDURE without the lines that they hold.
use Rattle.std.specs.Prelude.{map}
use Rattle.std.specs.Option.{option_map}
use Rattle.cob_tree.specs.declared.front.Front.{Front}
use Rattle.cob_tree.specs.declared.front.Env.{Env}
use Rattle.cob_tree.specs.declared.front.Io.{Io}
use Rattle.cob_tree.specs.declared.front.Select.{Select}
use Rattle.cob_tree.specs.declared.front.Data.{Data}
use Rattle.cob_tree.specs.declared.front.Fd.{Fd}
use Rattle.cob_tree.specs.declared.front.Entry.{Entry}

abbrev pub select_without_line : Select → Select
select_without_line s = record { line = 0; name = s.name; external = s.external; clauses = s.clauses }

abbrev pub io_without_lines : Io → Io
io_without_lines io = record { selects = map select_without_line io.selects }

abbrev pub env_without_lines : Env → Env
env_without_lines e = record { config = e.config; io = option_map io_without_lines e.io }

abbrev pub entry_without_line : Entry → Entry
entry_without_line e = record { line = 0; level = e.level; name = e.name; clauses = e.clauses }

abbrev pub fd_without_lines : Fd → Fd
fd_without_lines f = record { line = 0; name = f.name; clauses = f.clauses; entries = map entry_without_line f.entries }

abbrev pub data_without_lines : Data → Data
data_without_lines d = record { files = option_map (map fd_without_lines) d.files; storage = option_map (map entry_without_line) d.storage }

abbrev pub without_lines : Front → Front
without_lines f = record { name = f.name; env = option_map env_without_lines f.env; «data» = option_map data_without_lines f.data }
