use Rattle.std.proofs.Common.{◌≡◌, [], map, take, drop}
use Rattle.command_words.specs.Words.{texts, lent_texts}
use Rattle.commands.specs.Paths.{path_of, clash}
use Rattle.commands.proofs.running.paths.distinct_paths.Given as goal

abbrev pub invariant-loop-file : goal.invariant-loop-file
invariant-loop-file l = record {
  so_far : texts l.paths.items ≡ map (path_of (lent_texts l.words)) (take l.file-index l.files);
  clash_is : clash (lent_texts l.words) (texts l.paths.items) (drop l.file-index l.files) ≡ clash (lent_texts l.words)
      [] l.files;
}
