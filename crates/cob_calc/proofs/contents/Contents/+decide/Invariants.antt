use Rattle.std.proofs.Common.{◌≡◌, drop, map}
use Rattle.cob_program.specs.Logic.{logics_of}
use Rattle.cob_program.specs.LogicView.{plain_logic}
use Rattle.cob_runs.specs.Deciding.{all_hold, some_holds}
use Rattle.cob_calc.specs.Comparing.{CanDecideAll}
use Rattle.cob_calc.proofs.contents.Contents.+decide.Given as goal

abbrev pub invariant-all_hold-loop-part : goal.invariant-all_hold-loop-part
invariant-all_hold-loop-part l = record {
  left : all_hold l.self.layout l.self.storage (logics_of (map plain_logic (drop l.part-index l.parts))) ≡ all_hold l.self.layout l.self.storage (logics_of (map plain_logic l.parts));
  can : CanDecideAll l.self.layout (logics_of (map plain_logic (drop l.part-index l.parts)));
}

abbrev pub invariant-some_holds-loop-part : goal.invariant-some_holds-loop-part
invariant-some_holds-loop-part l = record {
  left : some_holds l.self.layout l.self.storage (logics_of (map plain_logic (drop l.part-index l.parts))) ≡ some_holds l.self.layout l.self.storage (logics_of (map plain_logic l.parts));
  can : CanDecideAll l.self.layout (logics_of (map plain_logic (drop l.part-index l.parts)));
}
