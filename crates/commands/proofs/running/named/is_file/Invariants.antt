use Rattle.std.proofs.Common.{◌≡◌, drop}
use Rattle.commands.specs.Paths.{file_named}
use Rattle.commands.proofs.running.named.is_file.Given as goal

abbrev pub invariant-loop-file : goal.invariant-loop-file
invariant-loop-file l = file_named l.name (drop l.file-index l.files) ≡ file_named l.name l.files
