-- Along each way the counter of a loop in which the way stands is above 0.
use Rattle.std.proofs.Common.{◌≡◌, ◌≤◌, ◌⊎◌, inl, inr, ℕ, zero, suc, ◌-◌, true, false, List, [], ◌∷◌, Option, Some, None, Ok, ℤ, pos, sym, ap, subst, ◌∙◌, arith}
use Rattle.std.specs.Prelude.{slice_get}
use Rattle.std.specs.Option.{option_map_or}
use Rattle.std.proofs.lemmas.Bool.{false≢true}
use Rattle.std.proofs.lemmas.Option.{none-some}
use Rattle.cob_program.specs.Act.{times, perform, Program}
use Rattle.cob_runs.specs.declared.action.Action.{Action}
use Rattle.cob_runs.specs.declared.action.Action.TheVariants as action
use Rattle.cob_runs.specs.Files.{Choice}
use Rattle.cob_runs.specs.State.{World}
use Rattle.cob_runs.specs.Effects.{effect, act_at}
use Rattle.cob_runs.specs.Runs.{Contents, choice_at}
use Rattle.cob_graph.specs.declared.graph.Graph.{Graph}
use Rattle.cob_graph.specs.Graphs.{IsGraph}
use Rattle.cob_graph.specs.WellFormed.{IsWellFormed}
use Rattle.cob_graph_laws.specs.Ways.{Comes, at_first, onward, passed}
use Rattle.cob_edge_parts.specs.Edges.{StandsForCount, StandFor}
use Rattle.graph_runs.specs.Counts.{NumbersArePositive, IsPositiveIn, CountsArePositive, CountersArePositive}
use Rattle.graph_runs.proofs.Entering.{Setting, Counts, Keeps, IsOwn, IsFine}
use Rattle.graph_runs.proofs.Whole.{of_graph, first_outside, edge_fine}
use Rattle.graph_runs.proofs.Effects.{does_act, plain_kept, SetsOwn, first_set, counts_down, test_held}

module _ (s : Setting) (numbers : NumbersArePositive s.p) (some : 1 ≤ s.loop) (number : ℕ) (c : Choice) (w v : World)
    (n m : ℕ) where
  -- where the way stands in the loop, its counter is above 0
  abbrev Stands : ℕ → World → Type 0
  Stands i u = s.inside i ≡ true → IsPositiveIn u.counts s.loop

  kept : v.counts ≡ w.counts → Keeps s n m → Stands n w → Stands m v
  kept e k h here = subst (λ (l : List (Option ℤ)). IsPositiveIn l s.loop) (sym e) (h (k here))

  apart : (x : Action) → effect s.p number c w x ≡ Ok (Some v) → (IsOwn s number → ⊥) → number - 1 ≡ s.loop - 1 →
      ⊥
  apart x e other same =
      let a = does_act s.p number c w v x e in
      let l = numbers number a.0 a.1 in
      other (omega (arith, l, some, same))

  set_apart : SetsOwn s.p number c w v → (number - 1 ≡ s.loop - 1 → ⊥) → Keeps s n m → Stands n w → Stands m v
  set_apart sets other k h here =
      let above = h (k here) in
      (above.0, sets s.loop other ∙ above.1)

  counts_on : (x : Action) → effect s.p number c w x ≡ Ok (Some v) → SetsOwn s.p number c w v →
      Keeps s n m → (IsOwn s number → s.inside m ≡ false) → Stands n w → Stands m v
  counts_on x e sets k out h here =
      let other : IsOwn s number → ⊥ = λ own. false≢true (sym (out own) ∙ here) in
      set_apart sets (apart x e other) k h here

  test_on : (i : ℕ) → effect s.p number c w (action.True i) ≡ Ok (Some v) →
      Keeps s n m ⊎ (IsOwn s number × Counts s) → Stands n w → Stands m v
  test_on i e (inl k) h here = kept (plain_kept s.p number c w v (action.True i) tt e) k h here
  test_on i e (inr own) h here =
      subst (λ (j : ℕ). IsPositiveIn v.counts j) own.0
      (test_held s.p number c w v i own.1.body own.1.sender (ap (act_at s.p) own.0 ∙ own.1.is) e)

  pub onward_stands : (x : Action) → IsFine s n number x m → effect s.p number c w x ≡ Ok (Some v) → Stands n w →
      Stands m v
  onward_stands (action.True i) f e h = test_on i e f h
  onward_stands action.SetCount f e h =
      counts_on action.SetCount e (first_set s.p number c w v e) f.0 f.1 h
  onward_stands action.Down f e h =
      counts_on action.Down e (counts_down s.p number c w v e) f.0 (λ own. (f.1 own).0) h
  onward_stands x f e h = kept (plain_kept s.p number c w v x tt e) f h

module _ (p : Program) (g : Graph) (is : IsGraph p g) (whole : IsWellFormed p) (numbers : NumbersArePositive p)
    (contents : Contents) (first : List ℕ) (choices : List Choice) (loop : ℕ) (some : 1 ≤ loop) where
  way_stands : {k n : ℕ} {w : World} → Comes p g contents first choices k n w →
      (of_graph p g is whole loop).inside n ≡ true → IsPositiveIn w.counts loop
  way_stands at_first here = absurd (first_outside p g is whole loop here)
  way_stands (onward {k = k} {n = n} {w = w} {v = v} x a m way stands out does handled) here =
      onward_stands (of_graph p g is whole loop) numbers some x.statement
      (choice_at p contents first choices (passed k x - 1)) w v n m a
      (edge_fine p g is whole loop n x a m stands out) does (λ h. way_stands way h) here

pub counts_are_positive : CountsArePositive
counts_are_positive p g whole numbers is contents first choices statement w h =
    let fine = edge_fine p g is whole statement h.node h.at action.Down h.to h.stands h.out in
    let own = fine.1 h.its in
    let it = own.2 in
    way_stands p g is whole numbers contents first choices statement
    (numbers statement (perform it.body (times it.sender)) it.is) h.way own.1

-- ---- counters that stand for counts

same_count : (a b : Option ℤ) (n : ℤ) → StandsForCount a b → a ≡ Some n → b ≡ Some n
same_count (Some i) b n h e = h ∙ e
same_count None b n h e = absurd (none-some n e)

abbrev count_at : List (Option ℤ) → ℕ → Option ℤ
count_at counts i = option_map_or (λ c. c) (slice_get counts i) None

stand_count : (as_ bs : List (Option ℤ)) (i : ℕ) (n : ℤ) → StandFor as_ bs → count_at as_ i ≡ Some n →
    count_at bs i ≡ Some n
stand_count [] bs i n h e = absurd (none-some n e)
stand_count (a ∷ as_) [] i n h e = absurd h
stand_count (a ∷ as_) (b ∷ bs) zero n h e = same_count a b n h.0 e
stand_count (a ∷ as_) (b ∷ bs) (suc i) n h e = stand_count as_ bs i n h.1 e

pub counters_are_positive : CountersArePositive
counters_are_positive p g whole numbers is contents first choices statement w counters h stand =
    let above = counts_are_positive p g whole numbers is contents first choices statement w h in
    (above.0, stand_count w.counts counters (statement - 1) (pos (suc above.0)) stand above.1)
