use Rattle.std.proofs.Common.{◌≡◌, ◌≤◌, ◌+◌, ◌-◌, true, sym, ◌∙◌, arith}
use Rattle.std.specs.Prelude.{◌&&◌, nat_le}
use Rattle.std.proofs.lemmas.Bool.{and_parts, leb-true}
use Rattle.cob_tree.proofs.InitialLemmas.{among_none}
use Rattle.cob_tree.proofs.keyword.beginning_with.Goals as goal

pub returns-then-is_capital : goal.returns-then-is_capital
returns-then-is_capital c rest =
    let first = c.args.first in
    let capital : (nat_le 65 first && nat_le first 90) ≡ true = sym c.is_capital.ensures ∙ c.if-is_capital.true in
    let low : 65 ≤ first = leb-true 65 first (and_parts (nat_le 65 first) (nat_le first 90) capital).0 in
    c.with_letter.ensures first (omega (arith, low)) rest

pub returns-else-is_capital : goal.returns-else-is_capital
returns-else-is_capital c rest = among_none c.args.first rest (sym c.is_capital.ensures ∙ c.if-is_capital.false)
