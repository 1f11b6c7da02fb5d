-- What is printed.
use Rattle.std.specs.Prelude.{ℕ, ℤ, List, ◌++◌, codes, decimal, Option, None, Some}
use Rattle.std.specs.Fmt.{signed_decimal}
use Rattle.cob_data.specs.declared.end.Rule.{Rule}
use Rattle.cob_data.specs.declared.end.Rule.TheVariants as rule
use Rattle.cob_data.specs.declared.end.Which.{Which}
use Rattle.cob_data.specs.declared.end.Which.TheVariants as which
use Rattle.cob_front.specs.declared.refusal.Refusal.{Refusal}
use Rattle.cob_front.specs.declared.refusal.Refusal.TheVariants as end
use Rattle.cert_text.specs.declared.gap.Gap.{Gap}
use Rattle.cert_text.specs.declared.gap.Gap.TheVariants as gap
use Rattle.cert_check.specs.declared.ends.Shape.{Shape}
use Rattle.cert_check.specs.declared.ends.Shape.TheVariants as shape
use Rattle.commands.specs.ReportText.{line_end}

abbrev pub bound_text : Option ℤ → List ℕ
bound_text None = codes "none"
bound_text (Some n) = signed_decimal n

abbrev pub cell_text : ℕ → List ℕ
cell_text cell = codes " cell " ++ decimal cell

abbrev pub ends_text : ℤ → ℤ → List ℕ
ends_text reached claimed = codes " reached " ++ signed_decimal reached ++ codes " claimed " ++ signed_decimal claimed

abbrev pub place_text : ℕ → ℕ → ℕ → List ℕ
place_text pack row column =
    codes " pack " ++ decimal pack ++ codes " row " ++ decimal row ++ codes " column " ++ decimal column

abbrev pub difference_text : Option ℤ → ℤ → List ℕ
difference_text reached claimed = codes " reached " ++ bound_text reached ++ codes " claimed " ++ signed_decimal claimed

abbrev pub gap_text : Gap → List ℕ
gap_text gap.Reach = codes " reach"
gap_text (gap.Class cell) = cell_text cell ++ codes " class"
gap_text (gap.Low cell reached claimed) = cell_text cell ++ codes " low" ++ ends_text reached claimed
gap_text (gap.High cell reached claimed) = cell_text cell ++ codes " high" ++ ends_text reached claimed
gap_text (gap.Diff pack row column reached claimed) = place_text pack row column ++ difference_text reached claimed

-- the line of a place at which a certificate isn't inductive
abbrev pub leak_line : ℕ → ℕ → Gap → List ℕ
leak_line layer edge gap = codes "E14 layer " ++ decimal layer ++ codes " edge " ++ decimal edge ++ gap_text gap ++ line_end

abbrev pub shape_text : Shape → List ℕ
shape_text shape.Cells = codes "cells"
shape_text shape.Nodes = codes "nodes"

-- the line of a number that differs from the program's
abbrev pub shape_line : Shape → ℕ → ℕ → List ℕ
shape_line what found wanted =
    codes "E13 " ++ shape_text what ++ codes " found " ++ decimal found ++ codes " wanted " ++ decimal wanted ++ line_end

-- the one line of a refusal at a place
abbrev pub place_line : List ℕ → ℕ → ℕ → List ℕ
place_line code line column = code ++ codes " line " ++ decimal line ++ codes " column " ++ decimal column ++ line_end

-- The text of a refusal at a line.
abbrev pub at_line : List ℕ → ℕ → List ℕ
at_line code line = code ++ codes " line " ++ decimal line ++ line_end

-- ---- why a source is no program

abbrev pub rule_text : Rule → List ℕ
rule_text rule.L1 = codes "L1"
rule_text rule.L2 = codes "L2"
rule_text rule.L3 = codes "L3"
rule_text rule.L4 = codes "L4"
rule_text rule.L5 = codes "L5"
rule_text rule.L6 = codes "L6"
rule_text rule.L7 = codes "L7"
rule_text rule.L8 = codes "L8"
rule_text rule.L9 = codes "L9"
rule_text rule.L10 = codes "L10"
rule_text rule.L11 = codes "L11"
rule_text rule.L12 = codes "L12"
rule_text rule.Q1 = codes "Q1"
rule_text rule.Q2 = codes "Q2"
rule_text rule.Q3 = codes "Q3"
rule_text rule.Q4 = codes "Q4"
rule_text rule.Q5 = codes "Q5"
rule_text rule.Q6 = codes "Q6"
rule_text rule.Q7 = codes "Q7"
rule_text rule.Q8 = codes "Q8"
rule_text rule.Q9 = codes "Q9"
rule_text rule.Q10 = codes "Q10"
rule_text rule.Q11 = codes "Q11"
rule_text rule.N5 = codes "N5"
rule_text rule.N1 = codes "N1"
rule_text rule.N2 = codes "N2"
rule_text rule.N3 = codes "N3"
rule_text rule.N4 = codes "N4"

abbrev pub which_text : Which → List ℕ
which_text which.Nesting = codes "nesting"
which_text which.Items = codes "items"
which_text which.Storage = codes "storage"
which_text which.Files = codes "files"
which_text which.Cells = codes "cells"
which_text which.Nodes = codes "nodes"

-- The line of a count above its limit.
abbrev pub over_line : Which → ℕ → List ℕ
over_line which count = codes "E10 " ++ which_text which ++ codes " " ++ decimal count ++ line_end

abbrev pub memory_line : List ℕ
memory_line = codes "E19 memory" ++ line_end

abbrev pub refusal_text : Refusal → List ℕ
refusal_text end.TooLong = codes "E5 source too long" ++ line_end
refusal_text (end.BadLine line column) = place_line (codes "E6") line column
refusal_text (end.BadToken line column) = place_line (codes "E7") line column
refusal_text (end.Syntax line) = at_line (codes "E8") line
refusal_text (end.Nesting count) = over_line which.Nesting count
refusal_text (end.Outside rule line) = at_line (codes "E9 " ++ rule_text rule) line
refusal_text (end.Limit which count) = over_line which count
refusal_text end.Memory = memory_line

-- ---- why a file isn't read or written

abbrev pub read_fault_line : List ℕ
read_fault_line = codes "E3 read" ++ line_end

abbrev pub write_fault_line : List ℕ
write_fault_line = codes "E4 write" ++ line_end
