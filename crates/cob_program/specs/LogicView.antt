-- What contracts see of conditions.
use Rattle.std.specs.Prelude.{List, map}
use Rattle.cob_program.specs.declared.logic.Test as declared_test
use Rattle.cob_program.specs.declared.logic.Test.TheVariants as variant
use Rattle.cob_program.specs.declared.logic.Logic as declared_logic
use Rattle.cob_program.specs.declared.logic.Logic.TheOpen as layer
use Rattle.cob_program.specs.declared.logic.Logic.TheFolds.{fold-Logic}
use Rattle.cob_program.specs.SumView.{plain_sum}
use Rattle.cob_program.specs.Logic.{Test, numbers, texts, member, numeric, always, Logic, all_of, any_of, not_, test, Logics, logics_of}

abbrev pub plain_test : declared_test.Test → Test
plain_test (variant.Number left rel right) = numbers (plain_sum left) rel (plain_sum right)
plain_test (variant.Text left rel right) = texts left rel right
plain_test (variant.Member place ranges) = member place ranges
plain_test (variant.Numeric place) = numeric place
plain_test variant.Always = always

abbrev logic_step : layer.Logic-F Logic → Logic
logic_step (layer.All parts) = all_of (logics_of parts.items)
logic_step (layer.Any parts) = any_of (logics_of parts.items)
logic_step (layer.Not b) = not_ b.value
logic_step (layer.Test t) = test (plain_test t)

abbrev pub plain_logic : declared_logic.Logic → Logic
plain_logic = fold-Logic Logic logic_step

abbrev pub plain_logics : List declared_logic.Logic → Logics
plain_logics xs = logics_of (map plain_logic xs)
