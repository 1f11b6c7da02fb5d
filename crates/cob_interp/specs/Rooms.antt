-- How many bytes wait of a file that is written: at most 65,536, or those of one longer record.
use Rattle.std.specs.Prelude.{◌≡◌, ◌≤◌, ◌⊎◌, ◌+◌, ℕ, [], length, slice_get, Option, Some, None}
use Rattle.cob_data.specs.declared.layout.FileDecl.{FileDecl}
use Rattle.cob_data.specs.declared.layout.Layout.{Layout}
use Rattle.cob_program.specs.Act.{Act, write}
use Rattle.cob_runs.specs.Acts.{decl_at, file_from}
use Rattle.cob_runs.specs.Files.{File, writing, bytes_in}
use Rattle.cob_runs.specs.State.{World}
use Rattle.cob_interp.specs.declared.setting.Setting.{Setting}

-- One more record of the file has room behind the bytes that wait of it, or none wait.
abbrev pub HasRoom : Option FileDecl → Option File → Type 0
HasRoom None f = Unit {0}
HasRoom (Some d) None = Unit {0}
HasRoom (Some d) (Some f) = (length (bytes_in f) + d.length ≤ 65536) ⊎ (f.mode ≡ writing → bytes_in f ≡ [])

-- the file to which a statement writes a record, if it is a WRITE
abbrev pub written_by : Layout → Act → Option ℕ
written_by l (write rec_ from) = file_from l 0 l.files rec_
written_by l _ = None

abbrev pub HasRoomAt : Layout → World → Option ℕ → Type 0
HasRoomAt l w None = Unit {0}
HasRoomAt l w (Some place) = HasRoom (decl_at l place) (slice_get w.files place)

-- What a WRITE is to write has room, or nothing waits of its file.
abbrev pub HasRoomFor : Setting → World → Act → Type 0
HasRoomFor s w a = HasRoomAt s.program.now.layout w (written_by s.program.now.layout a)
