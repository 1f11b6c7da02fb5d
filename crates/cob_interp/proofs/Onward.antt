-- How the run goes on from a node, and how it ends there, where the outside's files stay as they are.
use Rattle.std.proofs.Common.{◌≡◌, ℕ, ◌+◌, ◌<◌, ◌≤◌, true, false, List, [], ◌++◌, Option, Some, None, Ok, Err, refl, sym, ap, subst, ◌∙◌, below_more}
use Rattle.std.specs.Prelude.{Contains}
use Rattle.std.specs.Option.{option_map_or}
use Rattle.batch_io.specs.FilesState.{Contents}
use Rattle.cob_tree.specs.declared.fault.Kind.{Kind}
use Rattle.cob_program.specs.Act.{Act, Program}
use Rattle.cob_runs.specs.declared.action.Action.{Action}
use Rattle.cob_runs.specs.declared.outcome.Outcome.TheVariants.{Going, Fault, IoStop}
use Rattle.cob_runs.specs.State.{World}
use Rattle.cob_runs.specs.Effects.{Effect, effect, effect_of, status, status_of, not_taken, is_handled, act_at}
use Rattle.cob_graph.specs.declared.graph.Graph.{Graph}
use Rattle.cob_graph.specs.declared.graph.Node.{Node}
use Rattle.cob_graph.specs.Lookup.{node_at, edge, final_in}
use Rattle.cob_graph_laws.specs.Ways.{passed, onward}
use Rattle.cob_graph_laws.specs.Told.{Way, IsOverAfter, GoesOnAfter}
use Rattle.cob_interp.specs.declared.ends.Ended.{Ended}
use Rattle.cob_interp.specs.declared.ends.RunEnd.TheVariants as end
use Rattle.cob_interp.specs.Told.{seen, seen_files, AreSynced, AreDistinct, KeepsNames}
use Rattle.cob_interp.specs.Ends.{told_files, meets_cut, IsFree, AreFree, IsCutAt, state_after}
use Rattle.cob_interp.specs.Running.{StandsIn, RestsIn}
use Rattle.cob_interp.proofs.Following.{Follows, IsPlainFor, plain_follows, plain_status}

-- ---- effects that follow

module _ (now : Contents) (paths : List (List ℕ)) (text : List ℕ) where
  pub goes_where : (e other : Effect) (v : World) → Follows now paths text e other → e ≡ Ok (Some v)
      → (other ≡ Ok (Some (seen now paths text v))) × AreSynced now paths v.files
  goes_where (Ok None) other v follows is = cc
  goes_where (Ok (Some u)) other v follows is =
      let same : u ≡ v = cc in
      subst (λ (x : World). (other ≡ Ok (Some (seen now paths text x))) × AreSynced now paths x.files) same follows
  goes_where (Err kind) other v follows is = cc

  pub faults_where : (e other : Effect) (kind : Kind) → Follows now paths text e other → e ≡ Err kind → other ≡ Err kind
  faults_where (Ok None) other kind follows is = cc
  faults_where (Ok (Some u)) other kind follows is = cc
  faults_where (Err kind_) other kind follows is = cc

module _ (p : Program) where
  pub effect_by_act : (number : ℕ) (w : World) (a : Action) (b : Act) → act_at p number ≡ Some b
      → effect p number None w a ≡ effect_of p number None w a b
  effect_by_act number w a b its = ap (λ (o : Option Act). option_map_or (effect_of p number None w a) o not_taken) its

  pub status_by_act : (number : ℕ) (w : World) (a : Action) (b : Act) → act_at p number ≡ Some b
      → status p number None w a ≡ status_of p number None w a b
  status_by_act number w a b its = ap (λ (o : Option Act). option_map_or (status_of p number None w a) o None) its

pub one_more : (p : Program) (contents : List (Option (List ℕ))) (n : ℕ) → AreFree p contents n
    → IsFree p (state_after p contents n)
    → AreFree p contents (n + 1)
one_more p contents n free this = below_more (λ (m : ℕ). IsFree p (state_after p contents m)) n free this

-- ---- one edge

module _ (p : Program) (g : Graph) (paths : List (List ℕ)) where
  -- The edge is taken in the world as it is seen, and leads to another with what is told now.
  pub goes_over : (first told now : Contents) (text : List ℕ) (w v : World) (left begun begun_ n m : ℕ) (x : Node)
      (a : Action)
      → StandsIn p g paths first told text w left begun n → node_at g.nodes n ≡ Some x → Contains g.edges (edge n a m)
      → effect p x.statement None (seen told paths text w) a ≡ Ok (Some (seen now paths text v))
      → is_handled p x.statement a ≡ true → AreSynced now paths v.files → KeepsNames first now paths
      → AreFree p (told_files first paths) begun_
      → StandsIn p g paths first now text v (passed left x) begun_ m
  goes_over first told now text w v left begun begun_ n m x a s at out does handled synced others free = record {
    tells = s.tells;
    way = onward x a m s.way at out does handled;
    synced = synced;
    others = others;
    free = free;
  }

  -- the edge is taken with a status that nothing handles
  pub stopped_by : (first told now : Contents) (text : List ℕ) (w v : World) (left step n m : ℕ) (x : Node) (a : Action)
      (status_ : ℕ)
      → (begun : ℕ) → StandsIn p g paths first told text w left begun n → node_at g.nodes n ≡ Some x
      → step ≡ passed left x
      → Contains g.edges (edge n a m)
      → effect p x.statement None (seen told paths text w) a ≡ Ok (Some (seen now paths text v))
      → status p x.statement None (seen told paths text w) a ≡ Some status_
      → is_handled p x.statement a ≡ false → AreSynced now paths v.files → KeepsNames first now paths
      → AreFree p (told_files first paths) step
      → (budget : ℕ) → step ≤ budget
      → RestsIn p g paths budget first now text v (Err (end.IoStop status_ x.statement))
  stopped_by first told now text w v left step n m x a status_ begun s at counts out does gives unhandled synced others
      free budget within =
      let over = s.tells.stops left n (seen told paths text w) (seen now paths text v) x a m status_ s.way at out does
      gives unhandled in
      let over_ : IsOverAfter p g (told_files first paths) [] step (IoStop status_ x.statement)
      (seen now paths text v) =
      subst (λ (k : ℕ). IsOverAfter p g (told_files first paths) [] k (IoStop status_ x.statement)
      (seen now paths text v)) (sym counts) over in
      record {
        steps = step;
        answer = record { within = within; outcome = over_.outcome; before = over_.before; free = free };
        files = ap (λ (u : World). u.files) over_.world;
        shown = ap (λ (u : World). u.shown) over_.world;
        synced = synced;
        others = others;
      }

  module _ (first told : Contents) (text : List ℕ) (apart : AreDistinct paths) (w v : World) (left step n m : ℕ)
      (x : Node) (a : Action)
      (b : Act) (s : StandsIn p g paths first told text w left step n) (at : node_at g.nodes n ≡ Some x)
      (counts : step ≡ passed left x) (its : act_at p x.statement ≡ Some b) (plain : IsPlainFor a b)
      (out : Contains g.edges (edge n a m)) where
    follows : Follows told paths text (effect p x.statement None w a) (effect p x.statement None
        (seen told paths text w) a)
    follows = rw (effect_by_act p x.statement w a b its, effect_by_act p x.statement (seen told paths text w) a b its)
        (plain_follows p x.statement told paths text apart w s.synced a b plain)

    same_status : status p x.statement None (seen told paths text w) a ≡ status p x.statement None w a
    same_status = status_by_act p x.statement (seen told paths text w) a b its
        ∙ plain_status p x.statement told paths text apart w s.synced a b plain
        ∙ sym (status_by_act p x.statement w a b its)

    pub plain_goes : effect p x.statement None w a ≡ Ok (Some v) → is_handled p x.statement a ≡ true
        → StandsIn p g paths first told text v step step m
    plain_goes does handled =
        let on = goes_where told paths text _ _ v follows does in
        subst (λ (k : ℕ). StandsIn p g paths first told text v k step m) (sym counts)
        (goes_over first told told text w v left step step n m x a s at out on.0 handled on.1 s.others s.free)

    module _ (budget : ℕ) (within : step ≤ budget) where
      -- the step meets a fault, and files and what is shown stay
      pub plain_faults : (kind : Kind) → effect p x.statement None w a ≡ Err kind → v.files ≡ w.files
          → v.shown ≡ w.shown
          → RestsIn p g paths budget first told text v (Err (end.Fault kind x.statement step))
      plain_faults kind meets files shown =
          let over = s.tells.faults left n (seen told paths text w) x a m kind s.way at out
          (faults_where told paths text _ _ kind follows meets) in
          let over_ : IsOverAfter p g (told_files first paths) [] step (Fault kind x.statement)
          (seen told paths text w) =
          subst (λ (k : ℕ). IsOverAfter p g (told_files first paths) [] k (Fault kind x.statement)
          (seen told paths text w)) (sym counts) over in
          record {
            steps = step;
            answer = (refl, record { within = within; outcome = over_.outcome; before = over_.before; free = s.free });
            files = ap (λ (u : World). u.files) over_.world ∙ ap (seen_files told paths) (sym files);
            shown = ap (λ (u : World). u.shown) over_.world ∙ ap (λ (t : List ℕ). text ++ t) (sym shown);
            synced = subst (AreSynced told paths) (sym files) s.synced;
            others = s.others;
          }

      -- a status that nothing handles
      pub plain_stops : (status_ : ℕ) → effect p x.statement None w a ≡ Ok (Some v)
          → status p x.statement None w a ≡ Some status_ → is_handled p x.statement a ≡ false
          → RestsIn p g paths budget first told text v (Err (end.IoStop status_ x.statement))
      plain_stops status_ does gives unhandled =
          let on = goes_where told paths text _ _ v follows does in
          stopped_by first told told text w v left step n m x a status_ step s at counts out on.0
          (same_status ∙ gives) unhandled on.1
          s.others s.free budget within

  -- ---- at a node at which a step begins, and behind the last one

  module _ (first told : Contents) (text : List ℕ) (w : World) (steps n : ℕ)
      (s : StandsIn p g paths first told text w steps steps n)
      (budget : ℕ) where
    pub ends_well : n ≡ final_in g → steps ≤ budget → (e : Ended) → e.steps ≡ steps
        → RestsIn p g paths budget first told text w (Ok e)
    ends_well last within e counted =
        let over = s.tells.ends steps (seen told paths text w)
        (subst (λ (k : ℕ). Way p g (told_files first paths) [] steps k (seen told paths text w)) last s.way) in
        record {
          steps = steps;
          answer = (counted, record { within = within; outcome = over.outcome; before = over.before; free = s.free });
          files = ap (λ (u : World). u.files) over.world;
          shown = ap (λ (u : World). u.shown) over.world;
          synced = s.synced;
          others = s.others;
        }

    module _ (x : Node) (at : node_at g.nodes n ≡ Some x) (starts : x.starts ≡ true) where
      pub goes_on : GoesOnAfter p g (told_files first paths) [] steps x.statement (seen told paths text w)
      goes_on = s.tells.goes_on steps n (seen told paths text w) x s.way at starts

      pub spends : steps ≡ budget → RestsIn p g paths budget first told text w (Err (end.StepsSpent budget))
      spends spent = record {
        steps = steps;
        answer = (
          refl,
          (
            spent,
            record {
              outcome = subst (λ (k : ℕ). (state_after p (told_files first paths) k).outcome ≡ Going) spent
                  goes_on.outcome;
              free = subst (AreFree p (told_files first paths)) spent s.free;
            },
          ),
        );
        files = ap (λ (u : World). u.files) goes_on.world;
        shown = ap (λ (u : World). u.shown) goes_on.world;
        synced = s.synced;
        others = s.others;
      }

      -- the next statement is a READ at a ragged end
      pub is_ragged : steps < budget → (file count : ℕ)
          → IsCutAt p (told_files first paths) budget file count x.statement (seen told paths text w)
          → RestsIn p g paths budget first told text w (Err (end.Ragged file count))
      is_ragged within file count cut = record {
        steps = steps;
        answer = record {
          within = within;
          outcome = goes_on.outcome;
          free = s.free;
          stops = rw (goes_on.next, goes_on.world) cut;
        };
        files = ap (λ (u : World). u.files) goes_on.world;
        shown = ap (λ (u : World). u.shown) goes_on.world;
        synced = s.synced;
        others = s.others;
      }

      -- nothing stops the step that begins here
      pub begins_freely : ((file : ℕ) → meets_cut p x.statement (seen told paths text w) file ≡ false)
          → StandsIn p g paths first told text w steps (steps + 1) n
      begins_freely uncut = record {
        tells = s.tells;
        way = s.way;
        synced = s.synced;
        others = s.others;
        free = one_more p (told_files first paths) steps s.free
            (rw (goes_on.next, goes_on.world) uncut);
      }
