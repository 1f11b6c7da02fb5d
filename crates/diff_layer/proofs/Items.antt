-- Items of sums, and bytes that are written to, piece by piece.
use Rattle.std.proofs.Common.{◌≡◌, ℕ, ◌+◌, ◌<◌, Bool, true, false, ◌||◌, List, [], ◌∷◌, ◌++◌, length, map, get_or, Option, Some, None, refl, sym, ap, ◌∙◌}
use Rattle.std.specs.List.{list_any}
use Rattle.std.specs.Option.{option_map_or}
use Rattle.std.proofs.lemmas.List.Folds.{list_any-append}
use Rattle.cob_data.specs.declared.extent.Extent.{Extent}
use Rattle.cob_data.specs.declared.layout.Item.{Item}
use Rattle.cob_data.specs.declared.layout.Layout.{Layout}
use Rattle.cob_data.specs.Extents.{share_extents}
use Rattle.cob_data.specs.Occurrences.{extent_of}
use Rattle.cob_program.specs.declared.sum.Part as declared_part
use Rattle.cob_program.specs.declared.sum.Factor as declared_factor
use Rattle.cob_program.specs.declared.sum.Factor.{out-Factor}
use Rattle.cob_program.specs.declared.sum.Atom.TheFolds.{fold_out-Factor}
use Rattle.cob_program.specs.Sum.{Parts, parts_of, Part, MkPart, more_parts, factors_of, more_factors}
use Rattle.cob_program.specs.SumView.{plain_part, plain_factor, plain_atom}
use Rattle.cob_program.proofs.Loops.{item_step}
use Rattle.cob_runs.specs.Contents.{item_at}
use Rattle.cob_runs.specs.Computing.{items_in_parts, items_in_factors, items_in_atom}
use Rattle.edge_parts.proofs.SumLoops.{factors_from, products_from}
use Rattle.diff_steps.specs.Moments.{is_written, item_bytes}
use Rattle.diff_layer.specs.PackWriting.{are_written}
use Rattle.diff_layer.specs.Writing.{product_items}

-- ---- items

pub factor_items_first : (xs : List declared_factor.Factor) (i : ℕ) (x : declared_factor.Factor) → i < length xs → x ≡ get_or xs i x →
    items_in_factors (factors_from xs i) ≡ items_in_atom (plain_atom (out-Factor x).atom) ++ items_in_factors (factors_from xs (i + 1))
factor_items_first xs i x within is =
    let rest = factors_from xs (i + 1) in
    ap (λ ys. items_in_factors (factors_of (map plain_factor ys))) (item_step xs i x within is)
    ∙ ap (λ f. items_in_factors (more_factors f rest)) (fold_out-Factor _ _ _ _ _ _ _ _ x)

pub product_items_first : (xs : List declared_part.Part) (i : ℕ) (x : declared_part.Part) → i < length xs → x ≡ get_or xs i x →
    items_in_parts (products_from xs i) ≡ product_items (plain_part x) ++ items_in_parts (products_from xs (i + 1))
product_items_first xs i x within is =
    ap (λ ys. items_in_parts (parts_of (map plain_part ys))) (item_step xs i x within is) ∙ more (plain_part x) (products_from xs (i + 1))
  where
    more : (p : Part) (ps : Parts) → items_in_parts (more_parts p ps) ≡ product_items p ++ items_in_parts ps
    more (MkPart minus fs) ps = refl

-- ---- what was written to

module _ (l : Layout) (wrote : List Extent) where
  pub met_first : (all here rest : List ℕ) (first : Bool) → all ≡ here ++ rest → first ≡ are_written l wrote here → first ≡ true → are_written l wrote all ≡ true
  met_first all here rest first cut is e =
      ap (are_written l wrote) cut ∙ (list_any-append (is_written l wrote) here rest ∙ ap (λ b. b || are_written l wrote rest) (sym is ∙ e))

  pub met_later : (all here rest : List ℕ) (first : Bool) → all ≡ here ++ rest → first ≡ are_written l wrote here → first ≡ false → are_written l wrote all ≡ are_written l wrote rest
  met_later all here rest first cut is e =
      ap (are_written l wrote) cut ∙ (list_any-append (is_written l wrote) here rest ∙ ap (λ b. b || are_written l wrote rest) (sym is ∙ e))

pub nothing_written : (l : Layout) (places : List ℕ) → false ≡ are_written l [] places
nothing_written l [] = refl
nothing_written l (place ∷ places) = here (item_at l place) ∙ ap (λ b. is_written l [] place || b) (nothing_written l places)
  where
    here : (o : Option Item) → false ≡ (option_map_or (λ i. list_any (λ (e : Extent). share_extents e (extent_of i)) []) o false || false)
    here None = refl
    here (Some i) = refl

pub missing_item : (l : Layout) (place : ℕ) (places : List ℕ) → item_at l place ≡ None → false ≡ are_written l (item_bytes l place) places
missing_item l place places e =
    nothing_written l places
    ∙ ap (λ o. are_written l (option_map_or (λ (i : Item). extent_of i ∷ []) o []) places) (sym e)

-- ---- what was written to by more parts

pub or_swapped : (a b : Bool) → (a || b) ≡ (b || a)
or_swapped true true = refl
or_swapped true false = refl
or_swapped false true = refl
or_swapped false false = refl

or_parted : (a b c d : Bool) → ((a || b) || (c || d)) ≡ ((a || c) || (b || d))
or_parted true b c d = refl
or_parted false true true d = refl
or_parted false true false d = refl
or_parted false false c d = refl

module _ (l : Layout) (bs wrote : List Extent) where
  item_more : (place : ℕ) → is_written l (bs ++ wrote) place ≡ (is_written l wrote place || is_written l bs place)
  item_more place = at (item_at l place)
    where
      shares : Item → Extent → Bool
      shares i e = share_extents e (extent_of i)

      at : (o : Option Item) → option_map_or (λ i. list_any (shares i) (bs ++ wrote)) o false ≡ (option_map_or (λ i. list_any (shares i) wrote) o false || option_map_or (λ i. list_any (shares i) bs) o false)
      at None = refl
      at (Some i) = list_any-append (shares i) bs wrote ∙ or_swapped (list_any (shares i) bs) (list_any (shares i) wrote)

  pub written_more : (places : List ℕ) → are_written l (bs ++ wrote) places ≡ (are_written l wrote places || are_written l bs places)
  written_more [] = refl
  written_more (place ∷ places) =
      (λ i. item_more place i || written_more places i)
      ∙ or_parted (is_written l wrote place) (is_written l bs place) (are_written l wrote places) (are_written l bs places)
