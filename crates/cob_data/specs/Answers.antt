-- The answer to a tree.
use Rattle.std.specs.Prelude.{◌≡◌, ℕ, ◌⊎◌, nat_lt, if◌then◌else◌, Option, Some, None, Result, Ok, Err}
use Rattle.rule_order.specs.Order.{first_broken}
use Rattle.cob_tree.specs.declared.tree.Tree.{Tree}
use Rattle.cob_data.specs.declared.end.Rule.{Rule}
use Rattle.cob_data.specs.declared.end.Which.{Which}
use Rattle.cob_data.specs.declared.end.Which.TheVariants as which
use Rattle.cob_data.specs.declared.end.DataEnd.{DataEnd}
use Rattle.cob_data.specs.declared.end.DataEnd.TheVariants as data_end
use Rattle.cob_data.specs.declared.layout.Layout.{Layout}
use Rattle.cob_data.specs.Rules.{Facts, lines_in, data_rules, count_of, limit_of}
use Rattle.cob_data.specs.Layouts.{HasLayout, layout, layout_in, IsCause}

-- ---- which answers there are

-- the layout, where there is one; else why there is none
abbrev pub IsAnswer : Tree → Result Layout DataEnd → Type 0
IsAnswer t (Ok l) = HasLayout t × (l ≡ layout t)
IsAnswer t (Err end) = IsCause t end

-- the tree is refused for this reason, or for want of memory
abbrev pub IsRefused : Result Layout DataEnd → DataEnd → Type 0
IsRefused (Ok l) end = ⊥
IsRefused (Err e) end = (e ≡ end) ⊎ (e ≡ data_end.Memory)

-- the tree is refused for no reason but want of memory
abbrev pub IsAccepted : Result Layout DataEnd → Type 0
IsAccepted (Ok l) = Unit {0}
IsAccepted (Err e) = e ≡ data_end.Memory

-- ---- the refusal as a function

abbrev pub outside_or : Option (Rule × ℕ) → Option DataEnd → Option DataEnd
outside_or None other = other
outside_or (Some (rule, line)) other = Some (data_end.Outside rule line)

-- a limit, where it is exceeded
abbrev pub limit_or : Facts → Which → Option DataEnd → Option DataEnd
limit_or f w other = if nat_lt (limit_of w) (count_of f w) then Some (data_end.Limit w (count_of f w)) else other

abbrev pub limit_in : Facts → Option DataEnd
limit_in f = limit_or f which.Items (limit_or f which.Storage (limit_or f which.Files None))

abbrev pub refusal_in : Facts → Option DataEnd
refusal_in f = outside_or (first_broken (lines_in f) data_rules) (limit_in f)

-- what is answered from facts
abbrev pub IsJudged : Facts → Result Layout DataEnd → Type 0
IsJudged f (Ok l) = (refusal_in f ≡ None) × (l ≡ layout_in f)
IsJudged f (Err end) = (refusal_in f ≡ Some end) ⊎ (end ≡ data_end.Memory)
