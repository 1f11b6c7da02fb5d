-- What is printed where a run didn't come to its end.
use Rattle.std.specs.Prelude.{ℕ, List, [], ◌++◌, slice_get, codes, decimal}
use Rattle.std.specs.Option.{option_map_or}
use Rattle.cob_data.specs.declared.layout.FileDecl.{FileDecl}
use Rattle.cob_interp.specs.declared.ends.RunEnd.{RunEnd}
use Rattle.cob_interp.specs.declared.ends.RunEnd.TheVariants as run
use Rattle.cob_runs.specs.Files.{status_bytes}
use Rattle.cob_tree.specs.declared.fault.Kind.{Kind}
use Rattle.cob_tree.specs.Kinds.{kind_text}
use Rattle.commands.specs.ReportText.{line_end}
use Rattle.commands.specs.Text.{memory_line, read_fault_line, write_fault_line}

-- the external name of the file at a place
abbrev pub external_at : List FileDecl → ℕ → List ℕ
external_at files place = option_map_or (λ d. d.external) (slice_get files place) []

abbrev pub ragged_line : List ℕ → ℕ → List ℕ
ragged_line name count = codes "E15 " ++ name ++ codes " length " ++ decimal count ++ line_end

-- words before a number
abbrev pub number_line : List ℕ → ℕ → List ℕ
number_line words number = words ++ decimal number ++ line_end

-- the status by its two digits
abbrev pub stop_line : ℕ → ℕ → List ℕ
stop_line status statement =
    codes "E17 status " ++ status_bytes status ++ codes " statement " ++ decimal statement ++ line_end

abbrev pub fault_line : Kind → ℕ → ℕ → List ℕ
fault_line kind statement step =
    codes "E18 " ++ kind_text kind ++ codes " statement " ++ decimal statement
    ++ codes " step " ++ decimal step ++ line_end

-- How a run of a program with these files ended, as a line.
abbrev pub run_text : List FileDecl → RunEnd → List ℕ
run_text files run.ReadFault = read_fault_line
run_text files run.WriteFault = write_fault_line
run_text files (run.Ragged file count) = ragged_line (external_at files file) count
run_text files (run.StepsSpent count) = number_line (codes "E16 steps ") count
run_text files (run.IoStop status statement) = stop_line status statement
run_text files (run.Fault kind statement step) = fault_line kind statement step
run_text files run.Memory = memory_line
