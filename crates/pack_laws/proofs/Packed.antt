-- Packs by rising numbers of a program's cells have no two cells of one home.
use Rattle.std.proofs.Common.{◌≡◌, ◌≤◌, ◌<◌, ◌⊎◌, inl, inr, false, ℕ, ℤ, ◌-◌, List, [], ◌∷◌, length, Some, sym, ap, ◌∙◌, arith}
use Rattle.std.specs.Prelude.{slice_get, slice_index_or, Contains}
use Rattle.std.specs.List.{AllByRecursion}
use Rattle.std.proofs.lemmas.Bool.{cases_lt}
use Rattle.std.proofs.lemmas.List.{length-map, get_or-map, get_or_default}
use Rattle.std.proofs.lemmas.Option.{slice_get_within, get_or_from_slice_get, slice_get-get_or}
use Rattle.cob_data.specs.declared.layout.Layout.{Layout}
use Rattle.cob_program.specs.Act.{Program}
use Rattle.cob_graph.specs.declared.homes.Home.{Home}
use Rattle.cob_graph.specs.declared.homes.Home.TheVariants.{Item as of_item}
use Rattle.cob_graph.specs.Homes.{homes_of}
use Rattle.cell_steps.specs.Cells.{is_table}
use Rattle.diff_bounds.specs.declared.Pack as declared
use Rattle.diff_steps.specs.Packs.{size_of}
use Rattle.pack_laws.specs.Agreeing.{IsPackOf, ArePacksOf}
use Rattle.pack_laws.specs.Layer.{ArePacks}
use Rattle.pack_laws.specs.Packs.{home_at, pack_in, packs_of, AreRisingNumbers, ArePacksOfCells}

-- no item is a table's
abbrev pub HasPlainItems : Layout → Type 0
HasPlainItems l = (place : ℕ) → is_table l place ≡ false

-- no home stands at two places
abbrev pub HasDistinctHomes : Program → Type 0
HasDistinctHomes p = (j k : ℕ) (h : Home) → slice_get (homes_of p) j ≡ Some h → slice_get (homes_of p) k ≡ Some h → j ≡ k

module _ (p : Program) (count : ℕ) (many : count ≡ length (homes_of p)) (distinct : HasDistinctHomes p) (plain : HasPlainItems p.layout)
    (numbers : List ℕ) (are : AreRisingNumbers count numbers) where
  -- the number at a place, and what its cell is of
  record IsAt (k : ℕ) (h : Home) : Type 0 where
    within : k < length numbers
    first : 1 ≤ slice_index_or numbers k 0
    inside : slice_index_or numbers k 0 - 1 < length (homes_of p)
    home : home_at (homes_of p) (slice_index_or numbers k 0) ≡ h

  is_at : (k : ℕ) (h : Home) → slice_get (pack_in (homes_of p) numbers) k ≡ Some h → IsAt k h
  is_at k h e =
      let inside_map = slice_get_within (pack_in (homes_of p) numbers) k h e in
      let same = length-map numbers (home_at (homes_of p)) in
      let within : k < length numbers = omega (arith, inside_map, same) in
      let low = are.first k within in
      let high = are.last k within in
      record {
        within = within;
        first = low;
        inside = omega (arith, low, high, many);
        home =
            sym (get_or-map (home_at (homes_of p)) numbers k 0 h within)
            ∙ get_or_from_slice_get (pack_in (homes_of p) numbers) k h h e;
      }

  contained : (k : ℕ) (h : Home) → IsAt k h → Contains (homes_of p) h
  contained k h at =
      let place = slice_index_or numbers k 0 - 1 in
      (place, at.inside, get_or_default (homes_of p) place h (of_item 0) at.inside ∙ at.home)

  got : (k : ℕ) (h : Home) → IsAt k h → slice_get (homes_of p) (slice_index_or numbers k 0 - 1) ≡ Some h
  got k h at = slice_get-get_or (homes_of p) (slice_index_or numbers k 0 - 1) (of_item 0) at.inside ∙ ap Some at.home

  one_place : (j k : ℕ) (h : Home) → IsAt j h → IsAt k h → j ≡ k
  one_place j k h at also = by_order (cases_lt j k) (cases_lt k j)
    where
      same : slice_index_or numbers j 0 ≡ slice_index_or numbers k 0
      same =
          let places = distinct (slice_index_or numbers j 0 - 1) (slice_index_or numbers k 0 - 1) h (got j h at) (got k h also) in
          omega (arith, places, at.first, also.first)

      by_order : (j < k) ⊎ (k ≤ j) → (k < j) ⊎ (j ≤ k) → j ≡ k
      by_order (inl less) other = let more = are.rising j k less also.within in absurd (omega (arith, more, same))
      by_order (inr not_less) (inl more) = let less = are.rising k j more at.within in absurd (omega (arith, less, same))
      by_order (inr not_less) (inr not_more) = omega (arith, not_less, not_more)

  pub is_pack : IsPackOf p (pack_in (homes_of p) numbers)
  is_pack = record {
    homes = λ k h e. contained k h (is_at k h e);
    distinct = λ j k h e f. one_place j k h (is_at j h e) (is_at k h f);
    plain = λ k place e. plain place;
  }

  pub few_cells : size_of (pack_in (homes_of p) numbers) ≤ 8
  few_cells = let same = length-map numbers (home_at (homes_of p)) in omega (arith, same, are.few)

module _ (p : Program) (count : ℕ) (many : count ≡ length (homes_of p)) (distinct : HasDistinctHomes p)
    (plain : HasPlainItems p.layout) where
  pub are_packs_of : (packs : List declared.Pack) → ArePacksOfCells count packs → ArePacksOf p (packs_of p packs)
  are_packs_of [] are = tt
  are_packs_of (pack ∷ packs) are = (is_pack p count many distinct plain pack.cells.items are.0, are_packs_of packs are.1)

  pub are_few : (packs : List declared.Pack) → ArePacksOfCells count packs → AllByRecursion (λ pack. size_of pack ≤ 8) (packs_of p packs)
  are_few [] are = tt
  are_few (pack ∷ packs) are = (few_cells p count many distinct plain pack.cells.items are.0, are_few packs are.1)

  pub are_packs : (packs : List declared.Pack) (lists : List (List ℤ)) → ArePacksOfCells count packs → length lists ≡ length packs
      → ArePacks p (packs_of p packs) lists
  are_packs packs lists are listed = record {
    cells = are_packs_of packs are;
    few = are_few packs are;
    listed = listed ∙ sym (length-map packs (λ pack. pack_in (homes_of p) pack.cells.items));
  }
