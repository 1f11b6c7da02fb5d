-- Calls by number, some of which are to fail.
use Rattle.std.specs.Prelude.{◌≡◌, ◌↔◌, ℕ, ◌+◌, ◌-◌, ◌^◌, min, List, Bool, IsTrue, Contains}
use Rattle.batch_io.specs.declared.failing.FailingCalls.{FailingCalls}

-- The call has the next number, from 1 on, and fails exactly where that number is listed. Numbers end at u64's last value.
pub record NumbersCall (old new : FailingCalls) (failed : Bool) : Type 0 where
  pub number : new.made ≡ min (old.made + 1) (2 ^ 64 - 1)
  pub fails : IsTrue failed ↔ Contains old.listed.items new.made
  pub listed : new.listed.items ≡ old.listed.items

-- no call so far
pub record StartsCalls (listed : List ℕ) (result : FailingCalls) : Type 0 where
  pub failing : result.listed.items ≡ listed
  pub made : result.made ≡ 0
