-- The answer to a tree and its layout.
use Rattle.std.specs.Prelude.{◌≡◌, ℕ, ◌⊎◌, ◌==◌, ◌-◌, ◌++◌, List, [], ◌∷◌, map, Result, Ok, Err}
use Rattle.rule_order.specs.Order.{line_if}
use Rattle.cob_tree.specs.Stmt as tree
use Rattle.cob_data.specs.declared.end.Rule.{Rule}
use Rattle.cob_data.specs.declared.layout.Layout.{Layout}
use Rattle.cob_program.specs.declared.program.Program as declared_program
use Rattle.cob_program.specs.ActView.{plain_para, plain_program}
use Rattle.cob_typed_exprs.specs.declared.finding.Finding.{Finding}
use Rattle.cob_typed.specs.declared.typing.Typed as declared_typed
use Rattle.cob_typed.specs.declared.end.TypedEnd.{TypedEnd}
use Rattle.cob_typed.specs.declared.end.TypedEnd.TheVariants as typed_end
use Rattle.cob_typed.specs.Lists.{found_behind}
use Rattle.cob_typed.specs.Typing.{typed_all, typed, rule_number, clashes, IsTyped, IsOutside}

-- the program, where all rules are kept; else the first that is broken, or want of memory
abbrev pub IsAnswer : Layout → tree.Tree → Result declared_program.Program TypedEnd → Type 0
IsAnswer l t (Ok p) = IsTyped l t × (plain_program p ≡ typed l t)
IsAnswer l t (Err (typed_end.Outside rule line)) = IsOutside l t rule line
IsAnswer l t (Err typed_end.Memory) = Unit {0}

-- the result is refused for this reason, or for want of memory
abbrev pub IsRefused : Result declared_program.Program TypedEnd → Rule → ℕ → Type 0
IsRefused (Ok p) rule line = ⊥
IsRefused (Err end) rule line = (end ≡ typed_end.Outside rule line) ⊎ (end ≡ typed_end.Memory)

-- the result is no refusal, but for want of memory
abbrev pub IsAccepted : Result declared_program.Program TypedEnd → Type 0
IsAccepted (Ok p) = Unit {0}
IsAccepted (Err end) = end ≡ typed_end.Memory

-- ---- before it is answered

-- the lines at which a rule is broken
abbrev pub lines_in : List Finding → Rule → List ℕ
lines_in [] rule = []
lines_in (f ∷ fs) rule = line_if (rule_number f.rule == rule_number rule) f.line (lines_in fs rule)

-- what a layout and a tree give
pub record AreTyped (l : Layout) (t : tree.Tree) (x : declared_typed.Typed) : Type 0 where
  pub paras : map plain_para x.paras.items ≡ (typed_all l t).value
  pub statements : x.statements ≡ (typed_all l t).next - 1
  pub findings : x.findings.items ≡ found_behind [] ((typed_all l t).found ++ clashes [] t.paragraphs)
