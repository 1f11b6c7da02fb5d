-- A condition's first node is where its way leads.
use Rattle.std.specs.Prelude.{Result, IfOk}
use Rattle.std.proofs.Common.{ℕ, ◌+◌, ◌≡◌, refl, sym, ap, subst, ◌∙◌}
use Rattle.cob_program.specs.Logic.{Logic, all_of, any_of, not_, test, Logics, no_logics, more_logics}
use Rattle.cob_graph.specs.Laid.{tests_in}
use Rattle.cob_graph.specs.Places.{first_of_logic, first_of_all, first_of_any}
use Rattle.cob_graph_build.specs.declared.ways.Way.{Way}
use Rattle.cob_graph_build.specs.declared.ways.Way.TheVariants.{At, Held, Failed}
use Rattle.cob_graph_build.specs.Ways.{led, turned, if_held, if_failed, way_of, way_of_all, way_of_any}

turned_led : (w : Way) (held failed : ℕ) → led (turned w) held failed ≡ led w failed held
turned_led (At first) held failed = refl
turned_led Held held failed = refl
turned_led Failed held failed = refl

held_led : (w other : Way) (held failed : ℕ) → led (if_held w other) held failed ≡ led w (led other held failed) failed
held_led (At first) other held failed = refl
held_led Held other held failed = refl
held_led Failed other held failed = refl

failed_led : (w other : Way) (held failed : ℕ) → led (if_failed w other) held failed ≡ led w held (led other held failed)
failed_led (At first) other held failed = refl
failed_led Held other held failed = refl
failed_led Failed other held failed = refl

mutual
  logic_way : (l : Logic) (at held failed : ℕ) → led (way_of l at) held failed ≡ first_of_logic l at held failed
  logic_way (all_of ls) at held failed = all_way ls at held failed
  logic_way (any_of ls) at held failed = any_way ls at held failed
  logic_way (not_ x) at held failed = turned_led (way_of x at) held failed ∙ logic_way x at failed held
  logic_way (test t) at held failed = refl

  pub all_way : (ls : Logics) (at held failed : ℕ) → led (way_of_all ls at) held failed ≡ first_of_all ls at held failed
  all_way no_logics at held failed = refl
  all_way (more_logics x xs) at held failed =
      let behind = at + tests_in x in
      held_led (way_of x at) (way_of_all xs behind) held failed
      ∙ logic_way x at (led (way_of_all xs behind) held failed) failed
      ∙ ap (λ n. first_of_logic x at n failed) (all_way xs behind held failed)

  pub any_way : (ls : Logics) (at held failed : ℕ) → led (way_of_any ls at) held failed ≡ first_of_any ls at held failed
  any_way no_logics at held failed = refl
  any_way (more_logics x xs) at held failed =
      let behind = at + tests_in x in
      failed_led (way_of x at) (way_of_any xs behind) held failed
      ∙ logic_way x at held (led (way_of_any xs behind) held failed)
      ∙ ap (λ n. first_of_logic x at held n) (any_way xs behind held failed)

-- ---- the first condition of a list, and those behind it

module _ (list : Logics) (x : Logic) (rest : Logics) (at : ℕ) (way : Way) where
  pub all_first : list ≡ more_logics x rest → way ≡ way_of x at →
      if_held way (way_of_all rest (at + tests_in x)) ≡ way_of_all list at
  all_first cut is =
      ap (λ w. if_held w (way_of_all rest (at + tests_in x))) is ∙ ap (λ ls. way_of_all ls at) (sym cut)

  pub any_first : list ≡ more_logics x rest → way ≡ way_of x at →
      if_failed way (way_of_any rest (at + tests_in x)) ≡ way_of_any list at
  any_first cut is =
      ap (λ w. if_failed w (way_of_any rest (at + tests_in x))) is ∙ ap (λ ls. way_of_any ls at) (sym cut)

module _ {E : Type 0} (r : Result Way E) (list : Logics) (x : Logic) (rest : Logics) (at n behind : ℕ) where
  pub all_behind : IfOk r (λ w. w ≡ way_of_all rest behind) → list ≡ more_logics x rest → Held ≡ way_of x at →
      n ≡ tests_in x → behind ≡ at + n → IfOk r (λ w. w ≡ way_of_all list at)
  all_behind told cut is counted on =
      subst (λ v. IfOk r (λ w. w ≡ v)) (ap (way_of_all rest) (on ∙ ap (λ k. at + k) counted) ∙ all_first list x rest at Held cut is) told

  pub any_behind : IfOk r (λ w. w ≡ way_of_any rest behind) → list ≡ more_logics x rest → Failed ≡ way_of x at →
      n ≡ tests_in x → behind ≡ at + n → IfOk r (λ w. w ≡ way_of_any list at)
  any_behind told cut is counted on =
      subst (λ v. IfOk r (λ w. w ≡ v)) (ap (way_of_any rest) (on ∙ ap (λ k. at + k) counted) ∙ any_first list x rest at Failed cut is) told
