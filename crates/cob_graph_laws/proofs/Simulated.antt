-- Each run is a way through the graph.
use Rattle.std.proofs.Common.{◌≡◌, ℕ, zero, suc, ◌+◌, List, [], ◌∷◌, length, Option, None, Result, Ok, Err, refl, sym, ap, subst, ◌∙◌, arith}
use Rattle.std.specs.Option.{option_map_or}
use Rattle.std.proofs.lemmas.Option.{slice_get_past}
use Rattle.cob_tree.specs.declared.fault.Kind.{Kind}
use Rattle.cob_program.specs.Act.{Stmts, no_stmts, Para}
use Rattle.cob_runs.specs.declared.outcome.Outcome.{Outcome}
use Rattle.cob_runs.specs.declared.outcome.Outcome.TheVariants.{Going, Ended, IoStop, Fault}
use Rattle.cob_runs.specs.State.{World, Doing, rest, paras, State, state, going}
use Rattle.cob_runs.specs.Steps.{body_at, settled, settle, settled_on, faulty_or, step, number_of, front_done}
use Rattle.cob_runs.specs.Runs.{first_world, begin, run}
use Rattle.cob_graph.specs.Laid.{no_laid, more_laid, LaidParas, no_laid_paras, more_laid_paras, list_size, paras_size}
use Rattle.cob_graph.specs.Places.{first_of_paras}
use Rattle.cob_graph.specs.Nodes.{list_nodes, paras_nodes}
use Rattle.cob_graph.specs.Copies.{AreLaid, AreLaidParas}
use Rattle.cob_graph.specs.Graphs.{all_nodes, as_node, final_of, final_node, last_para, main_copy}
use Rattle.cob_graph.specs.Lookup.{node_at}
use Rattle.cob_graph_laws.specs.Ways.{at_first, ComesExactly, Shows, RunsAreWays}
use Rattle.cob_graph_laws.proofs.Fronts.{front, back, whole}
use Rattle.cob_graph.proofs.Lengths.{final_is, length-list}
use Rattle.cob_graph_laws.proofs.InGraphs.{node_there}
use Rattle.cob_graph_laws.proofs.Relation.{Setting, choice, Way, Within, Stand, Here, Stands, Standing, Goes, Comes_by}
use Rattle.cob_graph_laws.proofs.Settling.{IsReady, settled_ready, settling, part, whole_in}
use Rattle.cob_graph_laws.proofs.Statements.{Leads}
use Rattle.cob_graph_laws.proofs.EachAct.{front_leads}
use Rattle.cob_graph_laws.proofs.Beginnings.{ready_steps}

abbrev IsReadyIf : Outcome → List Doing → Type 0
IsReadyIf Going [] = ⊥
IsReadyIf Going (d ∷ ds) = IsReady (d ∷ ds)
IsReadyIf _ ds = Unit {0}

-- paragraphs begin at their first number, where all their nodes end at what follows
starts_at : (ps : LaidParas) (at next : ℕ) → next ≡ at + paras_size ps → first_of_paras ps at next ≡ at
starts_at no_laid_paras at next e = omega (arith, e)
starts_at (more_laid_paras no_laid ps) at next e = starts_at ps (at + 0) next (omega (arith, e)) ∙ omega arith
starts_at (more_laid_paras (more_laid x xs) ps) at next e = refl

module _ (s : Setting) where
  -- what a state shows, and that its front is something to do where it goes on
  abbrev Holds : ℕ → State → Type 0
  Holds k t = Comes_by s t.outcome k t.world t.control × IsReadyIf t.outcome t.control

  at_final : (hs : List (Here s)) (k n : ℕ) (w : World) → Stands s [] hs n → Way s k n w → Within s k w
  at_final [] k n w st way = record { left = k; within = omega arith; way = subst (λ (i : ℕ). Way s k i w) st way }
  at_final (h ∷ hs) k n w st way = absurd st

  settled_holds : (ds : List Doing) (k n : ℕ) (w : World) → Standing s ds n → IsReady ds → Way s k n w →
      Holds k (settled_on s.p None w ds)
  settled_holds [] k n w st r way = (at_final st.copies k n w st.stands way, tt)
  settled_holds (d ∷ ds) k n w st r way = (record { node = n; way = way; standing = st }, r)

  settle_holds : (o : Outcome) (k : ℕ) (w : World) (ds : List Doing) → Comes_by s o k w ds →
      Holds k (settle s.p None w ds o)
  settle_holds Going k w ds g = settled_holds (settled s.p ds) k g.node w
      (settling s ds g.standing.copies g.node g.standing.stands) (settled_ready s.p ds) g.way
  settle_holds Ended k w ds g = (g, tt)
  settle_holds (IoStop status statement) k w ds g = (g, tt)
  settle_holds (Fault kind statement) k w ds g = (g, tt)

  led : (t : State) (k number : ℕ) (r : Result State Kind) → Leads s k number t.world r →
      Holds (suc k) (faulty_or s.p (choice s k) t number r)
  led t k number (Ok next) h = settle_holds next.outcome (suc k) next.world next.control h
  led t k number (Err kind) h = (h, tt)

  later : (k : ℕ) (w : World) → Within s k w → Within s (suc k) w
  later k w x = let l = x.within in record { left = x.left; within = omega (arith, l); way = x.way }

  step_holds : (o : Outcome) (k : ℕ) (w : World) (ds : List Doing) → Holds k (state w ds o) →
      Holds (suc k) (step s.p (choice s k) (state w ds o))
  step_holds Going k w [] h = absurd h.1
  step_holds Going k w (d ∷ ds) h =
      led (going w (d ∷ ds)) k (number_of d) (front_done s.p (choice s k) d w ds)
      (front_leads s d ds h.0.standing.copies k h.0.node w h.0.standing.stands h.1 h.0.way)
  step_holds Ended k w ds h = (later k w h.0, tt)
  step_holds (IoStop status statement) k w ds h =
      let x = h.0 in
      let l = x.within in (
        record {
          left = x.left;
          node = x.node;
          before = x.before;
          at = x.at;
          action = x.action;
          way = x.way;
          stands = x.stands;
          within = omega (arith, l);
          its = x.its;
          out = x.out;
          leads = x.leads;
          meets = x.meets;
          unhandled = x.unhandled;
        },
        tt,
      )
  step_holds (Fault kind statement) k w ds h =
      let x = h.0 in
      let l = x.within in (
        record {
          left = x.left;
          node = x.node;
          at = x.at;
          action = x.action;
          to = x.to;
          way = x.way;
          stands = x.stands;
          within = omega (arith, l);
          its = x.its;
          out = x.out;
          meets = x.meets;
        },
        tt,
      )

  -- ---- the beginning

  main_stands : Stand s 1 (paras_nodes (main_copy s.p s.is.copies) s.is.copies 1 (final_of s.is.copies))
  main_stands = front (node_at (all_nodes s.p s.is.copies)) 1
      (paras_nodes (main_copy s.p s.is.copies) s.is.copies 1 (final_of s.is.copies)) (final_node ∷ [])
      (whole (all_nodes s.p s.is.copies))

  begins : (count : ℕ) (laid : LaidParas) → count ≡ length s.p.paras →
      final_of s.is.copies ≡ 1 + paras_size laid →
      AreLaidParas s.p 0 (last_para s.p) 0 count laid →
      Stand s 1 (paras_nodes (main_copy s.p s.is.copies) laid 1 (final_of s.is.copies)) →
      Standing s (rest (body_at s.p 0) ∷ paras 1 (last_para s.p) ∷ []) 1
  begins zero no_laid_paras e f are ns =
      let c = main_copy s.p s.is.copies in
      let final = final_of s.is.copies in
      let none : body_at s.p 0 ≡ no_stmts = ap (λ (o : Option Para). option_map_or (λ x. x.body) o no_stmts)
      (slice_get_past s.p.paras 0 (omega (arith, e))) in
      let h : Here s = record {
        c = c;
        lo = 1;
        hi = last_para s.p;
        next = final;
        layout = refl;
        final = final_is s.p s.g s.is;
        parts =
            λ t l g. absurd (omega (arith, e, l, g));
      } in
      record {
        copies = h ∷ [];
        stands = (
          1,
          record {
            laid = no_laid;
            at = 1;
            whole = whole_in s.p s.p.paras 0 s.whole;
            are = subst
                (λ (ss : Stmts). AreLaid s.p 1 (last_para s.p) ss no_laid) (sym none) tt;
            stand = tt;
            begins = refl;
          },
          (
            refl,
            record {
              count = zero;
              laid = no_laid_paras;
              at = 1;
              counted = omega (arith, e);
              are = tt;
              stand = tt;
              begins = omega (arith, f);
            },
            final_is s.p s.g s.is,
          ),
        );
      }
  begins (suc count) (more_laid_paras xs ps) e f are ns =
      let c = main_copy s.p s.is.copies in
      let final = final_of s.is.copies in
      let all = node_at (all_nodes s.p s.is.copies) in
      let behind_it = first_of_paras ps (1 + list_size xs) final in
      let own = list_nodes c xs 1 behind_it in
      let more = paras_nodes c ps (1 + list_size xs) final in
      let h : Here s = record {
        c = c;
        lo = 0;
        hi = last_para s.p;
        next = final;
        layout = refl;
        final = final_is s.p s.g s.is;
        parts = λ t l g. part s c 0 (last_para s.p) final t 0 (length s.p.paras) s.is.copies 1 t (omega (arith, e, g))
            (omega arith) (omega (arith, e)) s.is.laid main_stands;
      } in
      record {
        copies = h ∷ [];
        stands = (
          behind_it,
          record {
            laid = xs;
            at = 1;
            whole = whole_in s.p s.p.paras 0 s.whole;
            are = are.0;
            stand = front all 1 own
                more ns;
            begins = sym (starts_at (more_laid_paras xs ps) 1 final f);
          },
          (
            refl,
            record {
              count = count;
              laid = ps;
              at = 1 + list_size xs;
              counted = omega (arith, e);
              are = are.1;
              stand = back all 1 (list_size xs) own more (length-list c xs 1 behind_it) ns;
              begins = refl;
            },
            final_is s.p s.g s.is,
          ),
        );
      }
  begins zero (more_laid_paras xs ps) e f are ns = absurd are
  begins (suc count) no_laid_paras e f are ns = absurd are

  begin_holds : Holds 0 (begin s.p s.contents s.first)
  begin_holds =
      settle_holds Going 0 (first_world s.p s.contents s.first) (rest (body_at s.p 0) ∷ paras 1 (last_para s.p) ∷ [])
      (record {
        node = 1;
        way = at_first;
        standing = begins (length s.p.paras) s.is.copies refl refl s.is.laid main_stands;
      })

  run_holds : (n : ℕ) → Holds n (run s.p s.contents s.first s.choices n)
  run_holds zero = begin_holds
  run_holds (suc n) =
      let t = run s.p s.contents s.first s.choices n in
      step_holds t.outcome n t.world t.control (run_holds n)

  going_on : (k : ℕ) (w : World) (ds : List Doing) → Goes s k w ds → IsReadyIf Going ds →
      ComesExactly s.p s.g s.contents s.first s.choices k (going w ds)
  going_on k w [] g r = absurd r
  going_on k w (d ∷ ds) g r =
      let x = ready_steps s d ds g.standing.copies g.node g.standing.stands r in
      record {
        node = g.node;
        at = as_node x.at;
        way = g.way;
        stands = node_there s.p s.g s.is g.node x.at x.stands;
        begins = x.begins;
        its = x.its;
      }

  shown : (o : Outcome) (k : ℕ) (w : World) (ds : List Doing) → Holds k (state w ds o) →
      Shows s.p s.g s.contents s.first s.choices k (state w ds o)
  shown Going k w ds h = going_on k w ds h.0 h.1
  shown Ended k w ds h = h.0
  shown (IoStop status statement) k w ds h = h.0
  shown (Fault kind statement) k w ds h = h.0

pub simulates : RunsAreWays
simulates p g whole is contents first choices n =
    let s : Setting = record {
      p = p;
      g = g;
      is = is;
      contents = contents;
      first = first;
      choices = choices;
      whole =
          whole;
    } in
    let t = run p contents first choices n in
    shown s t.outcome n t.world t.control (run_holds s n)
