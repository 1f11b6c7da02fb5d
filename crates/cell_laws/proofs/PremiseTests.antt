-- Each test of a statement that can be done can be made.
use Rattle.std.proofs.Common.{List, [], ◌∷◌, ◌++◌}
use Rattle.std.specs.List.{AllByRecursion}
use Rattle.cob_data.specs.declared.layout.Layout.{Layout}
use Rattle.cob_program.specs.Logic.{Test, Logic, all_of, any_of, not_, test, Logics, no_logics, more_logics}
use Rattle.cob_program.specs.Act.{Turns, once, times, until, varying, Act, if_, evaluate, perform, Whens, no_whens, more_whens, MkWhen}
use Rattle.cob_runs.specs.Effects.{tests_of, tests_among, tests_in_list, tests_in_whens, tests_in_turns, tests_in_act}
use Rattle.cob_calc.specs.Comparing.{CanTest, CanDecide, CanDecideAll}
use Rattle.cob_world.specs.Doing.{CanTurn, CanDoAct, CanDoWhens}

module _ (l : Layout) where
  abbrev CanTestAll : List Test → Type 0
  CanTestAll tests = AllByRecursion (CanTest l) tests

  both : (xs ys : List Test) → CanTestAll xs → CanTestAll ys → CanTestAll (xs ++ ys)
  both [] ys first second = second
  both (t ∷ xs) ys first second = (first.0, both xs ys first.1 second)

  mutual
    in_logic : (t : Logic) → CanDecide l t → CanTestAll (tests_of t)
    in_logic (all_of ts) can = in_logics ts can
    in_logic (any_of ts) can = in_logics ts can
    in_logic (not_ t) can = in_logic t can
    in_logic (test t) can = (can, tt)

    in_logics : (ts : Logics) → CanDecideAll l ts → CanTestAll (tests_among ts)
    in_logics no_logics can = tt
    in_logics (more_logics t ts) can = both (tests_of t) (tests_among ts) (in_logic t can.0) (in_logics ts can.1)

  in_list : (ts : List Logic) → AllByRecursion (CanDecide l) ts → CanTestAll (tests_in_list ts)
  in_list [] can = tt
  in_list (t ∷ ts) can = both (tests_of t) (tests_in_list ts) (in_logic t can.0) (in_list ts can.1)

  in_whens : (ws : Whens) → CanDoWhens l ws → CanTestAll (tests_in_whens ws)
  in_whens no_whens can = tt
  in_whens (more_whens (MkWhen tests ss) ws) can = both (tests_in_list tests) (tests_in_whens ws) (in_list tests can.0) (in_whens ws can.2)

  in_turns : (turns : Turns) → CanTurn l turns → CanTestAll (tests_in_turns turns)
  in_turns once can = tt
  in_turns (times x) can = tt
  in_turns (until after t) can = in_logic t can
  in_turns (varying after place start by t) can = in_logic t can.1

  pub tests_can : (a : Act) → CanDoAct l a → CanTestAll (tests_in_act a)
  tests_can (if_ t held other) can = in_logic t can.0
  tests_can (evaluate ws other) can = in_whens ws can.0
  tests_can (perform body turns) can = in_turns turns can.0
  tests_can a can = tt
