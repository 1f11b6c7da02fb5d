-- Where EVALUATE leads.
use Rattle.std.proofs.Common.{◌≡◌, ℕ, suc, ◌+◌, Bool, true, false, List, [], ◌∷◌, ◌++◌, Some, Result, Ok, Err, refl, sym, ap, subst, ◌∙◌, arith}
use Rattle.std.specs.Prelude.{slice_get, if◌then◌else◌}
use Rattle.std.proofs.lemmas.Bool.{false≢true}
use Rattle.cob_tree.specs.declared.fault.Kind.{Kind}
use Rattle.cob_program.specs.Logic.{Test, Logic, logics_of}
use Rattle.cob_program.specs.Act.{Stmts, Act, evaluate, Whens, no_whens, more_whens, MkWhen}
use Rattle.cob_runs.specs.declared.action.Action.TheVariants as action
use Rattle.cob_runs.specs.Faults.{◌>>=◌}
use Rattle.cob_runs.specs.Deciding.{some_holds}
use Rattle.cob_runs.specs.State.{World, Doing, rest, going}
use Rattle.cob_runs.specs.Steps.{chosen}
use Rattle.cob_runs.specs.Effects.{edge_taken, act_at, tests_of, tests_in_list, tests_in_whens, edge_decided, edge_tested}
use Rattle.cob_runs.specs.Effects as effect
use Rattle.cob_graph.specs.Laid.{LaidList, LaidWhens, no_laid_whens, more_laid_whens, choosing, tests_among, list_size, whens_size}
use Rattle.cob_graph.specs.Places.{first_of_list, first_of_whens}
use Rattle.cob_graph.specs.Nodes.{list_nodes, any_nodes, whens_nodes}
use Rattle.cob_graph.specs.Copies.{AreLaidWhens}
use Rattle.cob_graph.specs.Graphs.{all_nodes}
use Rattle.cob_graph.specs.WellFormed.{AreWellFormedWhens}
use Rattle.cob_graph.specs.Lookup.{node_at}
use Rattle.cob_graph_laws.proofs.Fronts.{Runs, front, back, right, behind}
use Rattle.cob_graph.proofs.Lengths.{length-any, length-list, length-whens}
use Rattle.cob_graph_laws.proofs.Relation.{Setting, choice, Way, Stand, Here, ActAt, Stands, Standing}
use Rattle.cob_graph_laws.proofs.Ways.{leaves, by_act}
use Rattle.cob_graph_laws.proofs.Conditions.{Decides, any_decide, length-among}
use Rattle.cob_graph_laws.proofs.Statements.{Leads, listed}

same_tests : (ts : List Logic) → tests_in_list ts ≡ effect.tests_among (logics_of ts)
same_tests [] = refl
same_tests (t ∷ ts) = ap (λ (l : List Test). tests_of t ++ l) (same_tests ts)

module _ (s : Setting) (h : Here s) (hs : List (Here s)) (ds : List Doing) (number k next : ℕ) (w : World)
    (st : Stands s ds (h ∷ hs) next) where
  when_on : (tr fa : ℕ) (ss : Stmts) (later : Result Stmts Kind) (r : Result Bool Kind) →
      Decides s h.c number k w tr fa r → Standing s (rest ss ∷ ds) tr →
      (Way s (suc k) fa w → Leads s k number w (later >>= λ xs. Ok (going w (rest xs ∷ ds)))) →
      Leads s k number w ((r >>= λ b. if b then Ok ss else later) >>= λ xs. Ok (going w (rest xs ∷ ds)))
  when_on tr fa ss later (Ok true) d stand f = record { node = tr; way = d; standing = stand }
  when_on tr fa ss later (Ok false) d stand f = f d
  when_on tr fa ss later (Err kind) d stand f = d

  module _ (other : Stmts) (other_at : ℕ) (act : Act) (tests : List Test) (its : act_at s.p number ≡ Some act)
      (f : (wanted : Bool) (i : ℕ) → edge_tested s.p number (choice s k) w wanted i act ≡ edge_decided s.p number (choice s k) w
      wanted (slice_get tests i))
      (others : Standing s (rest other ∷ ds) other_at) where
    whens_lead : (ws : Whens) (xs : LaidWhens) (i at : ℕ) → AreWellFormedWhens s.p ws → AreLaidWhens s.p h.lo h.hi ws xs →
        Runs (slice_get tests) i (tests_in_whens ws) →
        Stand s at (whens_nodes h.c number xs i at other_at next) → Way s (suc k) (first_of_whens xs at other_at next)
        w →
        Leads s k number w (chosen s.p (choice s k) w ws other >>= λ ss. Ok (going w (rest ss ∷ ds)))
    whens_lead no_whens no_laid_whens i at whole laid ts ns way = record
        { node = other_at; way = way; standing = others }
    whens_lead (more_whens (MkWhen us ss) ws) (more_laid_whens vs ys xs) i at whole laid ts ns way =
        let all = node_at (all_nodes s.p s.is.copies) in
        let size = tests_among (logics_of vs) in
        let tr = first_of_list ys (at + size) next in
        let fa = first_of_whens xs (at + size + list_size ys) other_at next in
        let first = any_nodes h.c number false (logics_of vs) i at tr fa in
        let list = list_nodes h.c ys (at + size) next in
        let later = whens_nodes h.c number xs (i + size) (at + size + list_size ys) other_at next in
        let stand = right all at first list later ns in
        let lists = back all at size first (list ++ later) (length-any h.c number false (logics_of vs) i at tr fa)
        stand in
        let laid_tests = subst (λ (l : List Test). Runs (slice_get tests) i (l ++ tests_in_whens ws))
        (ap tests_in_list laid.0 ∙ same_tests vs) ts in
        when_on tr fa ss (chosen s.p (choice s k) w ws other) (some_holds s.p.layout w.storage (logics_of us))
        (subst (λ (l : List Logic). Decides s h.c number k w tr fa (some_holds s.p.layout w.storage (logics_of l)))
        (sym laid.0)
        (any_decide s h.c number k w act tests its f false (logics_of vs) i at tr fa (λ e. absurd (false≢true e))
        (front (slice_get tests) i (effect.tests_among (logics_of vs)) (tests_in_whens ws) laid_tests)
        (front all at first (list ++ later) stand) way))
        (listed s h hs ds ss ys (at + size) next whole.0 laid.1 (front all (at + size) list later lists) st)
        (λ onwards. whens_lead ws xs (i + size) (at + size + list_size ys) whole.1 laid.2
        (back (slice_get tests) i size (effect.tests_among (logics_of vs)) (tests_in_whens ws)
        (length-among (logics_of vs)) laid_tests)
        (back all (at + size) (list_size ys) list later (length-list h.c ys (at + size) next) lists) onwards)
    whens_lead no_whens (more_laid_whens vs ys xs) i at whole laid ts ns way = absurd laid
    whens_lead (more_whens (MkWhen us ss) ws) no_laid_whens i at whole laid ts ns way = absurd laid

  pub evaluate_leads : (ws : Whens) (other : Stmts) (xs : LaidWhens) (b : LaidList) (at : ℕ) →
      ActAt s h number (evaluate ws other) (choosing xs b) at next → Way s k at w →
      Leads s k number w (chosen s.p (choice s k) w ws other >>= λ ss. Ok (going w (rest ss ∷ ds)))
  evaluate_leads ws other xs b at x way =
      let all = node_at (all_nodes s.p s.is.copies) in
      let other_at = first_of_list b (at + 1 + whens_size xs) next in
      let ns = whens_nodes h.c number xs 0 (at + 1) other_at next in
      let ms = list_nodes h.c b (at + 1 + whens_size xs) next in
      let act = evaluate ws other in
      whens_lead other other_at act (tests_in_whens ws) x.its (λ wanted i. refl)
      (listed s h hs ds other b (at + 1 + whens_size xs) next x.whole.1 x.laid.1
      (back all (at + 1) (whens_size xs) ns ms (length-whens h.c number xs 0 (at + 1) other_at next) x.stand.1) st)
      ws xs 0 (at + 1) x.whole.0 x.laid.0 (behind [] (tests_in_whens ws) 0 refl) (front all (at + 1) ns ms x.stand.1)
      (leaves s h.c number k true _ at action.Skip refl (first_of_whens xs (at + 1) other_at next) w w way x.stand.0
      (0, omega arith, refl)
      (by_act s number (choice s k) w action.Skip act (edge_taken w) x.its refl))
