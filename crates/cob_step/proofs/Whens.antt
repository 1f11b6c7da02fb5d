-- The WHENs of an EVALUATE, one after another.
use Rattle.std.proofs.Common.{ℕ, ◌+◌, ◌≡◌, ◌<◌, ◌≤◌, true, false, List, ◌∷◌, length, map, drop, get_or, sym, ap, ◌∙◌, subst, if◌then◌else◌, Ok, Err}
use Rattle.std.proofs.lemmas.List.{drop_more, drop_all}
use Rattle.cob_tree.specs.declared.fault.Kind.{Kind}
use Rattle.cob_data.specs.declared.layout.Layout.{Layout}
use Rattle.cob_program.specs.declared.act.When as declared_when
use Rattle.cob_program.specs.declared.act.Act.TheViews.{out-When}
use Rattle.cob_program.specs.declared.act.Act.TheFolds.{fold_out-When}
use Rattle.cob_program.specs.declared.logic.Logic as declared_logic
use Rattle.cob_program.specs.Logic.{logics_of}
use Rattle.cob_program.specs.LogicView.{plain_logic}
use Rattle.cob_program.specs.ActView.{plain_when, plain_stmts, plain_whens}
use Rattle.cob_program.specs.Act.{Program, Stmts, When, MkWhen, Whens, no_whens, more_whens}
use Rattle.cob_runs.specs.Faults.{◌>>=◌}
use Rattle.cob_runs.specs.Files.{Choice}
use Rattle.cob_runs.specs.State.{World}
use Rattle.cob_runs.specs.Steps.{chosen}
use Rattle.cob_calc.specs.Comparing.{CanDecideAll}
use Rattle.cob_world.specs.Doing.{CanDoWhens}
use Rattle.cob_step.specs.Choosing.{when_holds, list_in}
use Rattle.cob_step.proofs.Kept.{can_decide_all}

module _ (p : Program) (c : Choice) (v : World) (other : Stmts) where
  pub chosen_here : (w : When) (ws : Whens) → when_holds p.layout v w ≡ Ok true →
      chosen p c v (more_whens w ws) other ≡ Ok (list_in w)
  chosen_here (MkWhen tests body) ws e = ap (λ r. r >>= λ b. if b then Ok body else chosen p c v ws other) e

  pub chosen_later : (w : When) (ws : Whens) → when_holds p.layout v w ≡ Ok false →
      chosen p c v (more_whens w ws) other ≡ chosen p c v ws other
  chosen_later (MkWhen tests body) ws e = ap (λ r. r >>= λ b. if b then Ok body else chosen p c v ws other) e

  pub chosen_broken : (w : When) (ws : Whens) (kind : Kind) → when_holds p.layout v w ≡ Err kind →
      chosen p c v (more_whens w ws) other ≡ Err kind
  chosen_broken (MkWhen tests body) ws kind e = ap (λ r. r >>= λ b. if b then Ok body else chosen p c v ws other) e

pub whens_step : (xs : List declared_when.When) (i : ℕ) (x : declared_when.When) → i < length xs → x ≡ get_or xs i x →
    plain_whens (drop i xs) ≡ more_whens (plain_when x) (plain_whens (drop (i + 1) xs))
whens_step xs i x within is = ap plain_whens (drop_more xs i x within ∙ ap (λ y. y ∷ drop (i + 1) xs) (sym is))

pub whens_end : (xs : List declared_when.When) (i : ℕ) → length xs ≤ i → plain_whens (drop i xs) ≡ no_whens
whens_end xs i past = ap plain_whens (drop_all i xs past)

pub can_first : (l : Layout) (w : When) (ws : Whens) → CanDoWhens l (more_whens w ws) →
    CanDoWhens l (more_whens w no_whens)
can_first l (MkWhen tests body) ws (t, b, hs) = (t, b, tt)

pub can_others : (l : Layout) (w : When) (ws : Whens) → CanDoWhens l (more_whens w ws) → CanDoWhens l ws
can_others l (MkWhen tests body) ws (t, b, hs) = hs

when_view : (w : declared_when.When) → plain_when w ≡ MkWhen (map plain_logic (out-When w).tests)
    (plain_stmts (out-When w).body.items)
when_view w = fold_out-When _ _ _ _ _ _ _ _ w

pub tests_can : (l : Layout) (w : declared_when.When) (ts : List declared_logic.Logic) → ts ≡ (out-When w).tests →
    CanDoWhens l (more_whens (plain_when w) no_whens) → CanDecideAll l (logics_of (map plain_logic ts))
tests_can l w ts is h =
    let P : When → Type 0 = λ x. CanDoWhens l (more_whens x no_whens) in
    let Q : List declared_logic.Logic → Type 0 = λ us. CanDecideAll l (logics_of (map plain_logic us)) in
    subst Q (sym is) (can_decide_all l (map plain_logic (out-When w).tests) (subst P (when_view w) h).0)
