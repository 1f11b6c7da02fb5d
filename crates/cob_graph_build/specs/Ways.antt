-- Where a condition goes before it tries a test: to its first test, or on, as what holds or fails.
use Rattle.std.specs.Prelude.{ℕ, ◌+◌}
use Rattle.cob_program.specs.Logic.{Logic, all_of, any_of, not_, test, Logics, no_logics, more_logics, logics_of}
use Rattle.cob_program.specs.Act.{Stmts, When, MkWhen}
use Rattle.cob_graph.specs.Laid.{tests_in}
use Rattle.cob_graph_build.specs.declared.ways.Way.{Way}
use Rattle.cob_graph_build.specs.declared.ways.Way.TheVariants.{At, Held, Failed}

-- the node, by those at which control goes on
abbrev pub led : Way → ℕ → ℕ → ℕ
led (At first) held failed = first
led Held held failed = held
led Failed held failed = failed

abbrev pub turned : Way → Way
turned (At first) = At first
turned Held = Failed
turned Failed = Held

-- the second way is taken where the first one holds, or where it fails
abbrev pub if_held : Way → Way → Way
if_held (At first) other = At first
if_held Held other = other
if_held Failed other = Failed

abbrev pub if_failed : Way → Way → Way
if_failed (At first) other = At first
if_failed Held other = Held
if_failed Failed other = other

abbrev mutual
  pub way_of : Logic → ℕ → Way
  way_of (all_of ls) at = way_of_all ls at
  way_of (any_of ls) at = way_of_any ls at
  way_of (not_ x) at = turned (way_of x at)
  way_of (test t) at = At at

  pub way_of_all : Logics → ℕ → Way
  way_of_all no_logics at = Held
  way_of_all (more_logics x xs) at = if_held (way_of x at) (way_of_all xs (at + tests_in x))

  pub way_of_any : Logics → ℕ → Way
  way_of_any no_logics at = Failed
  way_of_any (more_logics x xs) at = if_failed (way_of x at) (way_of_any xs (at + tests_in x))

-- ---- a WHEN: its tests, and its statements

abbrev pub when_tests : When → Logics
when_tests (MkWhen ts ss) = logics_of ts

abbrev pub when_body : When → Stmts
when_body (MkWhen ts ss) = ss
