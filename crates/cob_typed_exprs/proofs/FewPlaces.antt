-- A layout that was made from a tree has few places.
use Rattle.std.proofs.Common.{◌≡◌, ℕ, ◌+◌, ◌≤◌, Bool, true, false, cond, List, [], ◌∷◌, length, Option, Some, None, Ok, refl, sym, ap, arith}
use Rattle.std.proofs.lemmas.List.{length-map}
use Rattle.cob_tree.specs.declared.tree.Tree.{Tree}
use Rattle.cob_tree.specs.StmtView.{plain_tree}
use Rattle.cob_tree.specs.PrintStmt.{print_tree}
use Rattle.cob_data.specs.declared.description.Area.{Area}
use Rattle.cob_data.specs.declared.description.Description.{Description}
use Rattle.cob_data.specs.declared.description.Spot.{Spot}
use Rattle.cob_data.specs.declared.layout.Layout.{Layout}
use Rattle.cob_data.specs.Entries.{Placed, all_entries, items_of, condition, conditions, conditions_of, is_condition, owner_in}
use Rattle.cob_data.specs.Layouts.{laid_items, flag_of, file_of, layout}
use Rattle.cob_data.specs.Rules.{facts_of}
use Rattle.cob_data.specs.Answers.{IsAnswer}
use Rattle.cob_data.proofs.PrintLemmas.{few_entries}
use Rattle.cob_data.proofs.ReadLemmas.{descriptions_length}
use Rattle.cob_typed_exprs.specs.Search.{HasFewPlaces}
use Rattle.cob_tree.specs.Limits.{token_limit}

items_length : (ds : List Description) (ss : List Spot) → length (laid_items ds ss) ≤ length ds
items_length [] ss = omega arith
items_length (d ∷ ds) [] = omega arith
items_length (d ∷ ds) (s ∷ ss) = omega (arith, items_length ds ss)

conditions_length : (n : ℕ) (last : Option Area) (ps : List Placed) → length (conditions n last ps) ≤ length ps
conditions_length n last [] = omega arith
conditions_length n last (p ∷ ps) = by (is_condition p.entry) n last p ps (conditions_length n last ps) (conditions_length (n + 1) (Some p.area) ps) where
  by : (b : Bool) (n : ℕ) (last : Option Area) (p : Placed) (ps : List Placed) → length (conditions n last ps) ≤ length ps → length (conditions (n + 1) (Some p.area) ps) ≤ length ps →
      length (cond b (condition p.entry (owner_in p.area n last) ∷ conditions n last ps) (conditions (n + 1) (Some p.area) ps)) ≤ length (p ∷ ps)
  by true n last p ps h k = omega (arith, h)
  by false n last p ps h k = omega (arith, k)

few_in : (t : Tree) → length (print_tree (plain_tree t)) ≤ token_limit → length (facts_of t).selects ≤ 16 → HasFewPlaces (layout t)
few_in t few files =
    let entries = few_entries t few in
    record {
      items = omega (arith, items_length (facts_of t).items (facts_of t).spots, descriptions_length (all_entries t.front), entries.entries);
      flags = omega (arith, length-map (conditions_of t.front) flag_of, conditions_length 0 None (all_entries t.front), entries.entries);
      files = omega (arith, length-map (facts_of t).selects (file_of (facts_of t)), files);
    }

pub few_places : (t : Tree) (l : Layout) → length (print_tree (plain_tree t)) ≤ token_limit → IsAnswer t (Ok l) → HasFewPlaces l
few_places t l few answer = rw (answer.1) (few_in t few answer.0.within.files)
