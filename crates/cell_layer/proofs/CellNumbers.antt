-- Cells by their homes and by their numbers.
use Rattle.std.proofs.Common.{◌≡◌, ◌<◌, ℕ, suc, Bool, true, false, if◌then◌else◌, List, [], ◌∷◌, length, Option, Some, None, ℤ, refl, sym, ap, ◌∙◌, arith}
use Rattle.std.specs.Option.{option_map}
use Rattle.cob_program.specs.Act.{Program}
use Rattle.cob_runs.specs.declared.action.Cell.{Cell}
use Rattle.cob_graph.specs.declared.homes.Home.{Home}
use Rattle.cob_graph.specs.Homes.{is_home, homes_of}
use Rattle.cell_steps.specs.Storages.{known_of}
use Rattle.interval_domain.specs.Known.{Known}
use Rattle.interval_domain.specs.Rows as rows
use Rattle.interval_domain.specs.Rows.{IsReached}
use Rattle.cob_graph.specs.Numbers.{number_in, number_of}
use Rattle.cob_graph.proofs.NumberLemmas.{number_within}
use Rattle.cell_steps.specs.Cells.{with_known}
use Rattle.cell_layer.specs.ProgramRows.{known_in, set_in, IsCellNumber, IsRowOf}

known_behind : (c : Known) (cs : List Known) (o : Option ℕ) → known_in (c ∷ cs) (option_map suc o) ≡ known_in cs o
known_behind c cs None = refl
known_behind c cs (Some k) = refl

known_nowhere : (o : Option ℕ) → known_in [] o ≡ None
known_nowhere None = refl
known_nowhere (Some k) = refl

pub known_is : (home : Home) (hs : List Home) (cs : List Known) → known_in cs (number_in home hs) ≡ known_of hs cs home
known_is home [] cs = refl
known_is home (h ∷ hs) [] = known_nowhere (number_in home (h ∷ hs))
known_is home (h ∷ hs) (c ∷ cs) =
    go (is_home h home) (known_behind c cs (number_in home hs) ∙ known_is home hs cs)
  where
    go : (here : Bool) → known_in (c ∷ cs) (option_map suc (number_in home hs)) ≡ known_of hs cs home →
        known_in (c ∷ cs) (if here then Some 0 else option_map suc (number_in home hs)) ≡ (if here then c else known_of hs cs home)
    go true rest = refl
    go false rest = rest

set_behind : (c new : Known) (cs : List Known) (o : Option ℕ) →
    set_in (c ∷ cs) (option_map suc o) new ≡ c ∷ set_in cs o new
set_behind c new cs None = refl
set_behind c new cs (Some k) = refl

set_nowhere : (o : Option ℕ) (new : Known) → set_in [] o new ≡ []
set_nowhere None new = refl
set_nowhere (Some k) new = refl

pub set_is : (home : Home) (new : Known) (hs : List Home) (cs : List Known) →
    set_in cs (number_in home hs) new ≡ with_known home new hs cs
set_is home new [] cs = refl
set_is home new (h ∷ hs) [] = set_nowhere (number_in home (h ∷ hs)) new
set_is home new (h ∷ hs) (c ∷ cs) =
    go (is_home h home) (set_behind c new cs (number_in home hs) ∙ ap (λ ds. c ∷ ds) (set_is home new hs cs))
  where
    go : (here : Bool) → set_in (c ∷ cs) (option_map suc (number_in home hs)) new ≡ c ∷ with_known home new hs cs →
        set_in (c ∷ cs) (if here then Some 0 else option_map suc (number_in home hs)) new
        ≡ (if here then new ∷ cs else c ∷ with_known home new hs cs)
    go true rest = refl
    go false rest = rest

-- ---- numbers within a row

within_any : (n : ℕ) (cs : List Known) (o : Option ℕ) → ((k : ℕ) → o ≡ Some k → k < n) → length cs ≡ n → IsCellNumber cs o
within_any n cs None h e = tt
within_any n cs (Some k) h e = let less : k < n = h k refl in omega (arith, e, less)

pub number_fits : (p : Program) (cells : List Cell) (row : List ℤ) (home : Home) (o : Option ℕ) →
    IsRowOf p cells row → o ≡ number_of p home → IsCellNumber (rows.cells_of row) o
number_fits p cells row home o r e =
    within_any (length (homes_of p)) (rows.cells_of row) o (λ k f. number_within home (homes_of p) k (sym e ∙ f)) r.count

-- ---- rows

with_length : (home : Home) (new : Known) (hs : List Home) (cs : List Known) → length (with_known home new hs cs) ≡ length cs
with_length home new [] cs = refl
with_length home new (h ∷ hs) [] = refl
with_length home new (h ∷ hs) (c ∷ cs) = go (is_home h home) (ap suc (with_length home new hs cs))
  where
    go : (here : Bool) → length (c ∷ with_known home new hs cs) ≡ length (c ∷ cs) →
        length (if here then new ∷ cs else c ∷ with_known home new hs cs) ≡ length (c ∷ cs)
    go true rest = refl
    go false rest = rest

pub set_row : (p : Program) (cells : List Cell) (row later : List ℤ) (home : Home) (new : Known) → IsRowOf p cells row →
    rows.cells_of later ≡ with_known home new (homes_of p) (rows.cells_of row) → IsReached later → IsRowOf p cells later
set_row p cells row later home new r e reached = record {
  cells_are = r.cells_are;
  reached = reached;
  count = ap length e ∙ (with_length home new (homes_of p) (rows.cells_of row) ∙ r.count);
}

-- the cells behind a change by a number
pub set_by_number : (p : Program) (home : Home) (new : Known) (cs ds : List Known) (o : Option ℕ) → o ≡ number_of p home →
    ds ≡ set_in cs o new → ds ≡ with_known home new (homes_of p) cs
set_by_number p home new cs ds o e f = f ∙ (ap (λ k. set_in cs k new) e ∙ set_is home new (homes_of p) cs)

pub known_by_number : (p : Program) (home : Home) (cs : List Known) (o : Option ℕ) (known : Known) → o ≡ number_of p home →
    known ≡ known_in cs o → known ≡ known_of (homes_of p) cs home
known_by_number p home cs o known e f = f ∙ (ap (known_in cs) e ∙ known_is home (homes_of p) cs)
