-- What the loops note are the packs of the definition.
use Rattle.std.proofs.Common.{◌≡◌, ◌≤◌, ◌<◌, ◌+◌, Bool, true, false, cond, if◌then◌else◌, ℕ, length, arith, List, [], ◌∷◌, ◌++◌, map, Option, Some, None, refl, sym, ap, ◌∙◌}
use Rattle.std.specs.Prelude.{◌==◌, IfSome}
use Rattle.std.specs.List.{fold, filter, filter_map, range_with_len, cons_option}
use Rattle.std.proofs.lemmas.List.FromFn.{filter_of_map_range_with_len_more}
use Rattle.std.proofs.lemmas.List.{map-append, map-id, length-map}
use Rattle.std.proofs.lemmas.List.Sums.{fold-append}
use Rattle.cob_program.specs.Act.{Program}
use Rattle.cob_runs.specs.declared.action.Cell.{Cell}
use Rattle.cob_graph.specs.Graphs.{cells_of}
use Rattle.cob_graph.specs.declared.homes.Home.TheVariants.{Item as of_item}
use Rattle.cob_graph.specs.Homes.{homes_of}
use Rattle.cob_graph.specs.Limits.{most_cells}
use Rattle.cob_graph.specs.Numbers.{item_of, number_of}
use Rattle.cob_graph.proofs.NumberLemmas.{number_within}
use Rattle.cob_graph.proofs.Parallel.{cells_same}
use Rattle.analyse_core.specs.declared.mention.Mention.{Mention}
use Rattle.analyse_core.specs.Mentions.{texts_of}
use Rattle.analyse_core.specs.Firsts.{noted}
use Rattle.analyse_core.specs.Choice.{numeric_cell, most_pack_cells, first_cells, cells_together, same_cells, is_pack, most_packs, packs_among, packs_of, all_loops, noted_if, noted_mention, noted_pack}
use Rattle.analyse_core.proofs.MentionNoting.{first_noted, passing_over}

one : (o : Option ℕ) (cells ys : List ℕ) → fold (noted (λ a b. a == b) most_pack_cells) cells (cons_option o ys) ≡ fold (noted (λ a b. a == b) most_pack_cells) (noted_if cells o) ys
one None cells ys = refl
one (Some number) cells ys = refl

module _ (p : Program) where
  pub cells_noted : (cells : List ℕ) (xs : List Mention) → fold (noted_mention p) cells xs ≡ fold (noted (λ a b. a == b) most_pack_cells) cells (filter_map (numeric_cell p) xs)
  cells_noted cells [] = refl
  cells_noted cells (x ∷ xs) =
      cells_noted (noted_mention p cells x) xs ∙ sym (one (numeric_cell p x) cells (filter_map (numeric_cell p) xs))

  pub first_are : (xs : List Mention) → fold (noted_mention p) [] xs ≡ first_cells p xs
  first_are xs = cells_noted [] xs ∙ sym (first_noted (λ a b. a == b) most_pack_cells (filter_map (numeric_cell p) xs))

  -- the packs of loops are noted first, and then those of paragraphs
  pub both_noted : (loops texts : List (List Mention)) →
      fold noted_pack (fold noted_pack [] (map (cells_together p) loops)) (map (cells_together p) texts) ≡ fold noted_pack [] (map (cells_together p) (loops ++ texts))
  both_noted loops texts =
      sym (ap (fold noted_pack []) (map-append (cells_together p) loops texts)
      ∙ fold-append noted_pack [] (map (cells_together p) loops) (map (cells_together p) texts))

pub packs_noted : (lists : List (List ℕ)) → fold noted_pack [] lists ≡ packs_among lists
packs_noted lists = sym (first_noted same_cells most_packs (filter is_pack lists) ∙ passing_over (noted same_cells most_packs) is_pack [] lists)

pub packs_are : (p : Program) (texts loops : List (List Mention)) (some all : List (List ℕ)) → texts ≡ texts_of p.paras →
    loops ≡ all_loops texts 0 p.paras → some ≡ fold noted_pack [] (map (cells_together p) loops) →
    all ≡ fold noted_pack some (map (cells_together p) texts) → all ≡ packs_of p
packs_are p texts loops some all e f g h =
    let first = ap (λ ts. all_loops ts 0 p.paras) e in
    h ∙ ap (λ ps. fold noted_pack ps (map (cells_together p) texts)) g
    ∙ both_noted p loops texts
    ∙ packs_noted (map (cells_together p) (loops ++ texts))
    ∙ ap (λ ls. packs_among (map (cells_together p) (ls ++ texts))) (f ∙ first)
    ∙ ap (λ ts. packs_among (map (cells_together p) (all_loops (texts_of p.paras) 0 p.paras ++ ts))) e

-- a cell's number is one of so many
pub number_is_small : (p : Program) (cells : List Cell) (place : ℕ) (o : Option ℕ) → cells ≡ cells_of p → length cells ≤ most_cells →
    o ≡ number_of p (of_item place) → IfSome o (λ k. k < most_cells)
number_is_small p cells place None same few e = tt
number_is_small p cells place (Some k) same few e =
    let within = number_within (of_item place) (homes_of p) k (sym e) in
    let many = length-map (homes_of p) item_of in
    let also = length-map (cells_of p) (λ (c : Cell). c.item) in
    let alike = ap length (cells_same p) in
    let count = ap length same in
    omega (arith, within, many, also, alike, count, few)

-- ---- numbers in turn

choice_is : (b : Bool) (x : ℕ) → cond b (x ∷ []) [] ≡ (if b then x ∷ [] else [])
choice_is true x = refl
choice_is false x = refl

pub held_more : (test : ℕ → Bool) (k j : ℕ) (old new : List ℕ) → j ≡ k + 1 → old ≡ filter test (range_with_len 1 k) →
    new ≡ old ++ (if test j then j ∷ [] else []) → new ≡ filter test (range_with_len 1 (k + 1))
held_more test k j old new e is more =
    more ∙ ap (λ xs. xs ++ (if test j then j ∷ [] else [])) (is ∙ sym (ap (filter test) (map-id (range_with_len 1 k))))
    ∙ sym (ap (λ ys. filter test (map (λ (x : ℕ). x) (range_with_len 1 k)) ++ ys) (choice_is (test j) j))
    ∙ sym (filter_of_map_range_with_len_more test (λ (x : ℕ). x) 1 k j (omega (arith, e)))
    ∙ ap (filter test) (map-id (range_with_len 1 (k + 1)))
