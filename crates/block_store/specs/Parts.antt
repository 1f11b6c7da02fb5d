-- What callers see of words in two parts.
use Rattle.std.specs.Prelude.{List, ℤ}

pub record Parts : Type 0 where
  pub low : List ℤ
  pub high : List ℤ
