-- Where each statement leads, and each thing to do.
use Rattle.std.proofs.Common.{◌≡◌, ℕ, suc, ◌+◌, Bool, true, List, [], ◌∷◌, is_some, Ok, refl, sym, subst, arith}
use Rattle.cob_program.specs.Logic.{Logic}
use Rattle.cob_program.specs.Act.{Turns, MkStmt, Stmts, no_stmts, more_stmts, Act, move, arith as arithmetic, if_, evaluate, perform, go, nothing, stop, open_files, close_files, read, write, show}
use Rattle.cob_runs.specs.declared.action.Action.TheVariants as action
use Rattle.cob_runs.specs.State.{World, Doing, rest, paras, testing, augmenting}
use Rattle.cob_runs.specs.Acts as acts
use Rattle.cob_runs.specs.Acts.{compute, file_from}
use Rattle.cob_runs.specs.Steps.{is_given, gone_to, done, number_of, front_done}
use Rattle.cob_runs.specs.Effects.{edge_taken}
use Rattle.cob_graph.specs.Laid.{MkLaid, LaidList, no_laid, more_laid, LaidAct, moving, showing, skipping, going, ending, computing, deciding, choosing, performing, opening, closing, reading, writing, size, act_size}
use Rattle.cob_graph.specs.Places.{first_of_list}
use Rattle.cob_graph.specs.Nodes.{list_nodes, act_nodes}
use Rattle.cob_graph.specs.Copies.{AreLaid, file_of}
use Rattle.cob_graph.specs.Graphs.{all_nodes}
use Rattle.cob_graph.specs.WellFormed.{AreWellFormed}
use Rattle.cob_graph.specs.Lookup.{node_at}
use Rattle.cob_graph_laws.proofs.Fronts.{front, back, behind}
use Rattle.cob_graph.proofs.Lengths.{length-nodes}
use Rattle.cob_graph_laws.proofs.Relation.{Setting, choice, Way, Stand, Here, ActAt, Stands, among}
use Rattle.cob_graph_laws.proofs.Settling.{IsReady, gone}
use Rattle.cob_graph_laws.proofs.Ways.{leaves, by_act}
use Rattle.cob_graph_laws.proofs.Statements.{Leads, one_way, if_leads, arith_leads}
use Rattle.cob_graph_laws.proofs.Choosing.{evaluate_leads}
use Rattle.cob_graph_laws.proofs.Loops.{loop_leads, testing_leads, augmenting_leads}
use Rattle.cob_graph_laws.proofs.FileCalls.{opens, closes, write_leads}
use Rattle.cob_graph_laws.proofs.ReadSteps.{read_leads}

module _ (s : Setting) where
  module _ (h : Here s) (hs : List (Here s)) (ds : List Doing) (number k at next : ℕ) (w : World) (way : Way s k at w)
      (st : Stands s ds (h ∷ hs) next) where
    as_laid : (a : Act) (x z : LaidAct) → ActAt s h number a x at next → x ≡ z →
        Stand s at (act_nodes h.c number z at next)
    as_laid a x z y e = subst (λ (v : LaidAct). Stand s at (act_nodes h.c number v at next)) e y.stand

    act_leads : (a : Act) (x : LaidAct) → ActAt s h number a x at next →
        Leads s k number w (done s.p (choice s k) number a w ds)
    act_leads (move v places) x y =
        one_way s h.c number k at w (move v places) _ action.Assign refl next ds way y.its
        (as_laid (move v places) x moving y y.laid).0 (0, omega arith, refl)
        (among s h hs _ _ st) (acts.move s.p.layout v places w) refl _ refl
    act_leads (show xs) x y =
        one_way s h.c number k at w (show xs) _ action.Show refl next ds way y.its
        (as_laid (show xs) x showing y y.laid).0 (0, omega arith, refl)
        (among s h hs _ _ st) (Ok (acts.show s.p.layout xs w)) refl _ refl
    act_leads nothing x y =
        one_way s h.c number k at w nothing _ action.Skip refl next ds way y.its (as_laid nothing x skipping y y.laid).0
        (0, omega arith, refl)
        (among s h hs _ _ st) (Ok w) refl _ refl
    act_leads (go to) x y =
        one_way s h.c number k at w (go to) _ action.Skip refl (h.c.para to) (gone_to to ds) way y.its
        (as_laid (go to) x (going to) y y.laid.0).0 (0, omega arith, refl)
        (gone s ds h hs next to st y.laid.1 y.laid.2) (Ok w) refl _ refl
    act_leads stop x y = record {
      left = suc k;
      within = omega arith;
      way = subst (λ (n : ℕ). Way s (suc k) n w) h.final
          (leaves s h.c number k true _ at action.Skip refl h.c.final w w way (as_laid stop x ending y y.laid).0
          (0, omega arith, refl) (by_act s number (choice s k) w action.Skip stop (edge_taken w) y.its refl));
    }
    act_leads (open_files os) x y =
        opens s h number k hs ds next st os os true 0 at w y.its y.whole (behind [] os 0 refl)
        (as_laid (open_files os) x (opening os) y y.laid) way
    act_leads (close_files fs) x y =
        closes s h number k hs ds next st fs fs true 0 at w y.its y.whole (behind [] fs 0 refl)
        (as_laid (close_files fs) x (closing fs) y y.laid) way
    act_leads (write r from) x y =
        write_leads s h number k hs ds next st r from at w y.its (file_from s.p.layout 0 s.p.layout.files r) refl
        y.whole
        (as_laid (write r from) x (writing (file_of s.p r) (is_some from)) y y.laid) way
    act_leads (arithmetic sum ts remainder size fine) (computing a b) y =
        arith_leads s h hs ds number k at next w way st sum ts remainder size fine a b y
        (compute s.p.layout (is_given size) sum ts remainder w) refl
    act_leads (if_ t held other) (deciding u a b) y =
        if_leads s h hs ds number k at next w way st t held other a b
        (subst (λ (v : Logic). ActAt s h number (if_ t held other) (deciding v a b) at next) (sym y.laid.0) y)
    act_leads (evaluate ws other) (choosing xs b) y = evaluate_leads s h hs ds number k next w st ws other xs b at y way
    act_leads (perform body turns) (performing x t) y =
        loop_leads s h hs ds number k w body turns x at next
        (subst (λ (v : Turns). ActAt s h number (perform body turns) (performing x v) at next) (sym y.laid.0) y)
        way st
    act_leads (read f into end fine) (reading g i a b) y =
        read_leads s h hs ds number k at next w way st f into end fine a b
        (subst (λ (v : Bool). ActAt s h number (read f into end fine) (reading f v a b) at next) (sym y.laid.1)
        (subst (λ (v : ℕ). ActAt s h number (read f into end fine) (reading v i a b) at next) (sym y.laid.0) y))
    act_leads (arithmetic sum ts remainder size fine) x y = absurd y.laid
    act_leads (if_ t held other) x y = absurd y.laid
    act_leads (evaluate ws other) x y = absurd y.laid
    act_leads (perform body turns) x y = absurd y.laid
    act_leads (read f into end fine) x y = absurd y.laid

  rest_leads : (h : Here s) (hs : List (Here s)) (ds : List Doing) (k n number line : ℕ) (w : World) (a : Act)
      (ss : Stmts) (laid : LaidList) (at next : ℕ) →
      AreWellFormed s.p (more_stmts (MkStmt number line a) ss) → AreLaid s.p h.lo h.hi
      (more_stmts (MkStmt number line a) ss) laid → Stand s at (list_nodes h.c laid at next) →
      n ≡ first_of_list laid at next → Stands s ds (h ∷ hs) next → Way s k n w →
      Leads s k number w (done s.p (choice s k) number a w (rest ss ∷ ds))
  rest_leads h hs ds k n number line w a ss no_laid at next whole are ns e st way = absurd are
  rest_leads h hs ds k n number line w a ss (more_laid (MkLaid m x) xs) at next whole are ns e st way =
      let all = node_at (all_nodes s.p s.is.copies) in
      let behind_it = first_of_list xs (at + act_size x) next in
      let own = act_nodes h.c m x at behind_it in
      let more = list_nodes h.c xs (at + act_size x) next in
      act_leads h hs (rest ss ∷ ds) number k at behind_it w (subst (λ (i : ℕ). Way s k i w) e way) (
        next,
        record {
          laid = xs;
          at = at + act_size x;
          whole = whole.2;
          are = are.1;
          stand = back all at (act_size x)
              own more (length-nodes h.c (MkLaid m x) at behind_it) ns;
          begins = refl;
        },
        st,
      )
      a x (record {
        its = whole.0;
        whole = whole.1;
        laid = are.0.1;
        stand = subst
            (λ (i : ℕ). Stand s at (act_nodes h.c i x at behind_it)) (sym are.0.0) (front all at own more ns);
      })

  pub front_leads : (d : Doing) (ds : List Doing) (hs : List (Here s)) (k n : ℕ) (w : World) → Stands s (d ∷ ds) hs n →
      IsReady (d ∷ ds) → Way s k n w →
      Leads s k (number_of d) w (front_done s.p (choice s k) d w ds)
  front_leads d ds [] k n w st r way = absurd st
  front_leads (rest no_stmts) ds (h ∷ hs) k n w st r way = absurd r
  front_leads (rest (more_stmts (MkStmt number line a) ss)) ds (h ∷ hs) k n w st r way =
      rest_leads h hs ds k n number line w a ss st.1.laid st.1.at st.0 st.1.whole st.1.are st.1.stand st.1.begins st.2
      way
  front_leads (paras first q) ds (h ∷ hs) k n w st r way = absurd r
  front_leads (testing number body turns) ds (h ∷ hs) k n w st r way = testing_leads s h hs ds number k w body turns n
      st.0 st.1 way st.2
  front_leads (augmenting number body turns) ds (h ∷ hs) k n w st r way = augmenting_leads s h hs ds number k w body
      turns n st.0 st.1 way st.2
