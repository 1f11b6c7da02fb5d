-- What contracts see of a moment of a walk.
use Rattle.std.specs.Prelude.{List, ℤ}
use Rattle.cob_program.specs.ActView.{plain_act}
use Rattle.cob_program.specs.Act.{Act, Program}
use Rattle.cell_layer.specs.Kept.{seen}
use Rattle.cell_steps.specs.Seen.{Seen}
use Rattle.interval_domain.specs.Known.{Known}
use Rattle.diff_steps.specs.Packs.{Pack}
use Rattle.diff_layer.specs.declared.pack.moment.Moment.{Moment}
use Rattle.diff_layer.specs.declared.pack.moment.Matrices.{Matrices}
use Rattle.diff_layer.specs.Plans.{plain_plans, ArePlansOf, matrices_for, IsRowFor}
use Rattle.diff_layer.specs.Views.{program_of, known_in}

abbrev pub program_at : Moment → Program
program_at moment = program_of moment.items

-- what is known of cells
abbrev pub known_at : Moment → List Known
known_at moment = known_in moment.items

abbrev pub act_at : Moment → Act
act_at moment = plain_act moment.act.now

abbrev pub seen_at : Moment → Seen
seen_at moment = seen moment.items.row.now moment.kept

abbrev pub packs_in : Matrices → List Pack
packs_in m = plain_plans m.plans.now

abbrev pub words_in : Matrices → List (List ℤ)
words_in m = matrices_for m.plans.now m.words.now

-- there is a matrix for each pack of the program
pub record AreMatricesOf (p : Program) (m : Matrices) : Type 0 where
  pub plans : ArePlansOf p m.plans.now
  pub rows : IsRowFor m.plans.now m.words.now
