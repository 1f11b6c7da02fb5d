-- A run on told files has an end within a budget, and one alone.
use Rattle.std.specs.Prelude.{◌≡◌, ℕ, Result}
use Rattle.cob_program.specs.Act.{Program}
use Rattle.cob_runs.specs.Runs.{Contents}
use Rattle.cob_interp.specs.declared.ends.Ended.{Ended}
use Rattle.cob_interp.specs.declared.ends.RunEnd.{RunEnd}
use Rattle.cob_interp.specs.Ends.{IsEnd}

-- it has one at most
abbrev pub OneEnd : Type 0
OneEnd = (p : Program) (contents : Contents) (budget : ℕ) (a b : Result Ended RunEnd) (n m : ℕ)
    → IsEnd p contents budget a n → IsEnd p contents budget b m → a ≡ b

-- the run ends so within the budget, behind some step
pub record Ends (p : Program) (contents : Contents) (budget : ℕ) : Type 0 where
  pub result : Result Ended RunEnd
  pub steps : ℕ
  pub is : IsEnd p contents budget result steps

-- It has one at least.
abbrev pub SomeEnd : Type 0
SomeEnd = (p : Program) (contents : Contents) (budget : ℕ) → Ends p contents budget
