-- Steps of loops over what cells are of.
use Rattle.std.proofs.Common.{◌≡◌, ℕ, ◌+◌, ◌<◌, List, [], ◌∷◌, ◌++◌, map, length, take, drop, get_or, refl, sym, ap, subst, take_at, ◌∙◌}
use Rattle.std.proofs.lemmas.List.{length-map, map-append, take_more}
use Rattle.cob_data.specs.declared.layout.Layout.{Layout}
use Rattle.cob_graph.specs.declared.homes.Home.{Home}
use Rattle.diff_bounds.specs.declared.Pack as declared
use Rattle.diff_layer.specs.declared.pack.plans.PackPlan.{PackPlan}
use Rattle.diff_layer.specs.Plans.{plain_plan, plain_plans}
use Rattle.pack_laws.specs.Packs.{home_at, pack_in, packs_in}
use Rattle.diff_layer.specs.Planning.{HasUnit, HaveUnits, IsPlanFor, ArePlansFor, sizes_in}

-- ---- packs

mapped_more : {X Y : Type 0} (f : X → Y) (xs : List X) (i : ℕ) (x : X) → i < length xs → x ≡ get_or xs i x →
    map f (take (i + 1) xs) ≡ map f (take i xs) ++ f x ∷ []
mapped_more f xs i x within is =
    ap (map f) (take_more xs i x within ∙ ap (λ y. take i xs ++ y ∷ []) (sym is)) ∙ map-append f (take i xs) (x ∷ [])

pub cell_pushed : (new old : List Home) (y : Home) (homes : List Home) (numbers : List ℕ) (i n : ℕ) → i < length numbers → n ≡ get_or numbers i n →
    new ≡ old ++ y ∷ [] → old ≡ pack_in homes (take i numbers) → y ≡ home_at homes n → new ≡ pack_in homes (take (i + 1) numbers)
cell_pushed new old y homes numbers i n within is grown done here =
    grown ∙ (λ k. done k ++ here k ∷ []) ∙ sym (mapped_more (home_at homes) numbers i n within is)

pub size_pushed : (new old : List ℕ) (size : ℕ) (packs : List declared.Pack) (i : ℕ) (pack : declared.Pack) → i < length packs → pack ≡ get_or packs i pack →
    new ≡ old ++ size ∷ [] → old ≡ sizes_in (take i packs) → size ≡ length pack.cells.items → new ≡ sizes_in (take (i + 1) packs)
size_pushed new old size packs i pack within is grown done here =
    grown ∙ (λ k. done k ++ here k ∷ []) ∙ sym (mapped_more (λ (x : declared.Pack). length x.cells.items) packs i pack within is)

units_more : (l : Layout) (plans : List PackPlan) (plan : PackPlan) → HaveUnits l plans → HasUnit l plan → HaveUnits l (plans ++ plan ∷ [])
units_more l [] plan all here = (here, tt)
units_more l (x ∷ plans) plan all here = (all.0, units_more l plans plan all.1 here)

pub plan_pushed : (l : Layout) (homes : List Home) (new old : List PackPlan) (plan : PackPlan) (packs : List declared.Pack) (i : ℕ) (pack : declared.Pack) → i < length packs →
    pack ≡ get_or packs i pack → new ≡ old ++ plan ∷ [] → ArePlansFor l homes (take i packs) old → IsPlanFor l homes pack plan → ArePlansFor l homes (take (i + 1) packs) new
plan_pushed l homes new old plan packs i pack within is grown done here = record {
  packs =
      ap plain_plans grown ∙ map-append plain_plan old (plan ∷ []) ∙ (λ k. done.packs k ++ here.cells k ∷ [])
      ∙ sym (mapped_more (λ (x : declared.Pack). pack_in homes x.cells.items) packs i pack within is);
  units = subst (HaveUnits l) (sym grown) (units_more l old plan done.units here.unit);
}

pub no_plans : (l : Layout) (homes : List Home) (packs : List declared.Pack) → ArePlansFor l homes (take 0 packs) []
no_plans l homes [] = record { packs = refl; units = tt }
no_plans l homes (x ∷ packs) = record { packs = refl; units = tt }

-- there is a plan for each pack
pub as_many : (homes : List Home) (all : List declared.Pack) (plans : List PackPlan) → plain_plans plans ≡ packs_in homes all → length plans ≡ length all
as_many homes all plans e =
    sym (length-map plans plain_plan) ∙ ap length e ∙ length-map all (λ (x : declared.Pack). pack_in homes x.cells.items)

-- a slice that is written back into its vector
pub written_back : {A : Type 0} (xs items : List A) (n : ℕ) → length xs ≡ n → take n (xs ++ drop (length xs) items) ≡ xs
written_back xs items n e = take_at xs (drop (length xs) items) n e
