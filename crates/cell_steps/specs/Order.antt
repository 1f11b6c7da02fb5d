-- When less is seen: what is known is narrower, and less may have happened.
use Rattle.std.specs.Prelude.{◌≡◌, true, None}
use Rattle.cob_program.specs.Act.{Act, Program}
use Rattle.cob_runs.specs.declared.action.Action.{Action}
use Rattle.transfer_ranges.specs.Amounts.{IsNarrowerTakenIfAny}
use Rattle.interval_domain.specs.Elements.{CellsFit, CellsBelow}
use Rattle.cell_steps.specs.OwnRanges.{owns}
use Rattle.cell_steps.specs.Seen.{Seen}
use Rattle.cell_steps.specs.Stores.{handled}

module _ (p : Program) (a : Act) (x : Action) where
  pub record SeenBelow (s t : Seen) : Type 0 where
    -- Unknown cells come to be of their own range, so that known ones have to lie in it.
    pub fits : CellsFit (owns p) s.cells
    pub cells : CellsBelow s.cells t.cells
    pub written : s.written ≡ t.written
    pub common : IsNarrowerTakenIfAny s.common t.common
    -- On an edge of size errors operands without a range have a divisor that may be 0.
    pub untaken : handled p a x ≡ true → s.written ≡ true → s.common ≡ None → s.may_zero ≡ true
    pub zero : s.may_zero ≡ true → t.may_zero ≡ true
    pub fails : s.any_fail ≡ true → t.any_fail ≡ true
