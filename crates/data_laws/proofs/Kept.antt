-- What the rules on items keep in a tree that has a layout.
use Rattle.std.proofs.Common.{◌≡◌, ℕ, false, List, [], ◌∷◌, ◌++◌, refl}
use Rattle.cob_tree.specs.declared.tree.Tree.{Tree}
use Rattle.cob_data.specs.declared.end.Rule.{Rule}
use Rattle.cob_data.specs.declared.end.Rule.TheVariants.{L1, L2, L4, L5, L6}
use Rattle.cob_data.specs.Rules.{Facts, facts_of, item_breaks, item_lines, condition_lines, select_lines, fd_lines, end_lines, lines_in}
use Rattle.cob_data.specs.Layouts.{HasLayout}
use Rattle.data_laws.proofs.Pairs.{AllPairs, rule_kept}

nothing_in_first : (xs ys : List ℕ) → xs ++ ys ≡ [] → xs ≡ []
nothing_in_first [] ys e = refl
nothing_in_first (x ∷ xs) ys e = absurd (cc)

items_keep : (f : Facts) (rule : Rule) → lines_in f rule ≡ [] → AllPairs (λ d s. item_breaks rule d s ≡ false) f.items f.spots
items_keep f rule none =
    let items = item_lines rule f.items f.spots in
    let conditions = condition_lines rule f f.conditions in
    let selects = select_lines rule f [] f.selects in
    let fds = fd_lines rule f [] f.fds in
    rule_kept rule f.items f.spots
    (nothing_in_first items conditions
    (nothing_in_first (items ++ conditions) selects
    (nothing_in_first (items ++ conditions ++ selects) fds
    (nothing_in_first (items ++ conditions ++ selects ++ fds) (end_lines rule f.program f.end) none))))

-- the rule is broken by no item
abbrev pub IsKept : Tree → Rule → Type 0
IsKept t rule = AllPairs (λ d s. item_breaks rule d s ≡ false) (facts_of t).items (facts_of t).spots

pub record KeepsItemRules (t : Tree) : Type 0 where
  pub levels : IsKept t L1
  pub parts : IsKept t L2
  pub usages : IsKept t L4
  pub values : IsKept t L5
  pub redefinitions : IsKept t L6

pub keeps_item_rules : (t : Tree) → HasLayout t → KeepsItemRules t
keeps_item_rules t has =
    let f = facts_of t in
    let rules = has.kept in
    record {
      levels = items_keep f L1 rules.0;
      parts = items_keep f L2 rules.1.0;
      usages = items_keep f L4 rules.1.1.1.0;
      values = items_keep f L5 rules.1.1.1.1.0;
      redefinitions = items_keep f L6 rules.1.1.1.1.1.0;
    }
