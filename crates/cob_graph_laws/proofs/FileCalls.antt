-- Where statements on files lead.
use Rattle.std.proofs.Common.{◌≡◌, ℕ, suc, ◌+◌, ◌≤◌, Bool, true, false, not, List, [], ◌∷◌, length, Option, Some, None, is_some, Result, Ok, Err, refl, ap, subst, ◌∙◌, arith}
use Rattle.std.specs.Prelude.{slice_get, if◌then◌else◌}
use Rattle.std.specs.Option.{option_map, option_map_or}
use Rattle.std.proofs.lemmas.Bool.{false≢true}
use Rattle.cob_tree.specs.declared.fault.Kind.{Kind}
use Rattle.cob_data.specs.declared.layout.Sender.{Sender}
use Rattle.cob_program.specs.declared.act.Opening.{Opening}
use Rattle.cob_program.specs.Act.{Act, open_files, close_files, write}
use Rattle.cob_runs.specs.declared.action.Action.{Action}
use Rattle.cob_runs.specs.declared.action.Action.TheVariants as action
use Rattle.cob_runs.specs.declared.outcome.Outcome.{Outcome}
use Rattle.cob_runs.specs.declared.outcome.Outcome.TheVariants.{Going, Ended, IoStop, Fault}
use Rattle.cob_runs.specs.Faults.{◌>>=◌}
use Rattle.cob_runs.specs.State.{World, Doing, state}
use Rattle.cob_runs.specs.Acts.{has_status, is_fine, open_one, close_one, write_one, file_from, move_if}
use Rattle.cob_runs.specs.Steps.{outcome_of, unless_over, each_from, written_by}
use Rattle.cob_runs.specs.Effects.{effect_of, met, edge_taken, taken_if, act_at, by_status, status_of, status_if, is_handled, handled_by, handled_in}
use Rattle.cob_runs.specs.Effects as effect
use Rattle.cob_graph.specs.Nodes.{bad_to, open_nodes, close_nodes, write_nodes, write_edges}
use Rattle.cob_graph.specs.Lookup.{final_in}
use Rattle.cob_graph_laws.proofs.Fronts.{Runs}
use Rattle.cob_graph_laws.proofs.Relation.{Setting, choice, Way, Within, Stops, Stand, Here, Stands, among, Comes_by}
use Rattle.cob_graph_laws.proofs.Ways.{so_far, IsNode, leaves, meets, stops, by_act, status_by_act, bad_by_act}
use Rattle.cob_graph_laws.proofs.Statements.{Leads}

module _ (s : Setting) (h : Here s) (number k : ℕ) where
  -- behind a call: at m, or where the run ends
  abbrev pub Called : ℕ → World → Outcome → Type 0
  Called m v Going = Way s (suc k) m v
  Called m v Ended = Within s (suc k) v
  Called m v (IoStop status statement) = Stops s (suc k) status statement v
  Called m v (Fault kind statement) = ⊥

  pub bad_lands : (has : Bool) (file m status : ℕ) (v : World) → has_status h.c.layout file ≡ has →
      (has ≡ true → Way s (suc k) (bad_to h.c number file m) v) →
      (has ≡ false → bad_to h.c number file m ≡ final_in s.g → Stops s (suc k) status number v) →
      Called m v (if has then Going else IoStop status number)
  bad_lands true file m status v e way stop = subst (λ (b : Bool). Way s (suc k) (if b then m else h.c.final) v) e
      (way refl)
  bad_lands false file m status v e way stop = stop refl (ap (λ (b : Bool). if b then m else h.c.final) e ∙ h.final)

  pub same_status : (file : ℕ) → has_status h.c.layout file ≡ has_status s.p.layout file
  same_status file = ap (λ l. has_status l file) h.layout

  -- a node with a way for a good status and one for a bad one
  module _ (b : Bool) (n file i m : ℕ) (good : Action) (w : World) (act : Act) (x : World × ℕ)
      (way : Way s (so_far k b) n w)
      (is : IsNode s h.c number b ((good, m) ∷ (action.Bad i, bad_to h.c number file m) ∷ []) n)
      (its : act_at s.p number ≡ Some act)
      (does : effect_of s.p number (choice s k) w good act ≡ by_status s.p number (choice s k) w true x)
      (fails : effect_of s.p number (choice s k) w (action.Bad i) act ≡ by_status s.p number (choice s k) w false x)
      (tells : status_of s.p number (choice s k) w (action.Bad i) act ≡ Some x.1)
      (on : is_handled s.p number good ≡ true)
      (handles : handled_by s.p number i act ≡ has_status s.p.layout file)
    where
      called_by : (fine : Bool) → is_fine x.1 ≡ fine →
          Called m x.0 (if fine then Going else (if has_status s.p.layout file then Going else IoStop x.1 number))
      called_by true e = leaves s h.c number k b _ n good on m w x.0 way is (0, omega arith, refl)
          (by_act s number (choice s k) w good act (edge_taken x.0) its (does ∙ ap (λ f. taken_if f x.0) e))
      called_by false e =
          let to = bad_to h.c number file m in
          let does_so = by_act s number (choice s k) w (action.Bad i) act (edge_taken x.0) its
          (fails ∙ ap (λ f. taken_if (not f) x.0) e) in
          let told = bad_by_act s number i act (has_status s.p.layout file) its handles in
          bad_lands (has_status s.p.layout file) file m x.1 x.0 (same_status file)
          (λ has. leaves s h.c number k b _ n (action.Bad i) (told ∙ has) to w x.0 way is (1, omega arith, refl)
          does_so)
          (λ has. stops s h.c number k b _ n (action.Bad i) (told ∙ has) to w x.0 x.1 way is (1, omega arith, refl)
          does_so (status_by_act s number (choice s k) w (action.Bad i) act (Some x.1) its tells))

      called : Called m x.0 (outcome_of number (has_status s.p.layout file) x.1)
      called = called_by (is_fine x.1) refl

  module _ (hs : List (Here s)) (ds : List Doing) (next : ℕ) (st : Stands s ds (h ∷ hs) next) where
    pub landed : (o : Outcome) (v : World) → Called next v o → Comes_by s o (suc k) v ds
    landed Going v d = record { node = next; way = d; standing = among s h hs _ _ st }
    landed Ended v d = d
    landed (IoStop status statement) v d = d
    landed (Fault kind statement) v d = absurd d

    module _ {A : Type 0} (act : A → World → World × ℕ) (file : A → ℕ) where
      goes_on : (o : Outcome) (v : World) (m : ℕ) (more : World × Outcome) → Called m v o →
          (Way s (suc k) m v → Comes_by s more.1 (suc k) more.0 ds) →
          Comes_by s (unless_over s.p.layout act file number o v more).1 (suc k)
          (unless_over s.p.layout act file number o v more).0 ds
      goes_on Going v m more d f = f d
      goes_on Ended v m more d f = d
      goes_on (IoStop status statement) v m more d f = d
      goes_on (Fault kind statement) v m more d f = absurd d

    pub opens : (all os : List Opening) (b : Bool) (i at : ℕ) (w : World) → act_at s.p number ≡ Some (open_files all) →
        1 ≤ length os → Runs (slice_get all) i os →
        Stand s at (open_nodes h.c number b os i at next) → Way s (so_far k b) at w →
        Comes_by s (each_from s.p.layout (open_one s.p.layout) (λ o. o.file) number os w).1 (suc k)
        (each_from s.p.layout (open_one s.p.layout) (λ o. o.file) number os w).0 ds
    opens all [] b i at w its l r ns way = absurd (omega (arith, l))
    opens all (o ∷ []) b i at w its l r ns way =
        let x = open_one s.p.layout o w in
        goes_on (open_one s.p.layout) (λ o. o.file) (outcome_of number (has_status s.p.layout o.file) x.1) x.0 next
        (x.0, Going)
        (called b at o.file i next (action.Open i) w (open_files all) x way ns.0 its
        (ap (effect.edge_opened s.p number (choice s k) w true) r.0)
        (ap (effect.edge_opened s.p number (choice s k) w false) r.0)
        (ap (λ (y : Option Opening). status_if s.p number (choice s k) w y (λ o. open_one s.p.layout o w)) r.0) refl
        (ap (λ (y : Option Opening). handled_in s.p number (option_map (λ o. o.file) y)) r.0))
        (λ d. landed Going x.0 d)
    opens all (o ∷ o2 ∷ os) b i at w its l r ns way =
        let x = open_one s.p.layout o w in
        goes_on (open_one s.p.layout) (λ o. o.file) (outcome_of number (has_status s.p.layout o.file) x.1) x.0 (at + 1)
        (each_from s.p.layout (open_one s.p.layout) (λ o. o.file) number (o2 ∷ os) x.0)
        (called b at o.file i (at + 1) (action.Open i) w (open_files all) x way ns.0 its
        (ap (effect.edge_opened s.p number (choice s k) w true) r.0)
        (ap (effect.edge_opened s.p number (choice s k) w false) r.0)
        (ap (λ (y : Option Opening). status_if s.p number (choice s k) w y (λ o. open_one s.p.layout o w)) r.0) refl
        (ap (λ (y : Option Opening). handled_in s.p number (option_map (λ o. o.file) y)) r.0))
        (λ d. opens all (o2 ∷ os) false (i + 1) (at + 1) x.0 its (omega arith) r.1 ns.1 d)

    pub closes : (all fs : List ℕ) (b : Bool) (i at : ℕ) (w : World) → act_at s.p number ≡ Some (close_files all) →
        1 ≤ length fs → Runs (slice_get all) i fs →
        Stand s at (close_nodes h.c number b fs i at next) → Way s (so_far k b) at w →
        Comes_by s (each_from s.p.layout (close_one s.p.layout) (λ f. f) number fs w).1 (suc k)
        (each_from s.p.layout (close_one s.p.layout) (λ f. f) number fs w).0 ds
    closes all [] b i at w its l r ns way = absurd (omega (arith, l))
    closes all (f ∷ []) b i at w its l r ns way =
        let x = close_one s.p.layout f w in
        goes_on (close_one s.p.layout) (λ f. f) (outcome_of number (has_status s.p.layout f) x.1) x.0 next (x.0, Going)
        (called b at f i next (action.Close i) w (close_files all) x way ns.0 its
        (ap (effect.edge_closed s.p number (choice s k) w true) r.0)
        (ap (effect.edge_closed s.p number (choice s k) w false) r.0)
        (ap (λ (y : Option ℕ). status_if s.p number (choice s k) w y (λ f. close_one s.p.layout f w)) r.0) refl
        (ap (handled_in s.p number) r.0))
        (λ d. landed Going x.0 d)
    closes all (f ∷ g ∷ fs) b i at w its l r ns way =
        let x = close_one s.p.layout f w in
        goes_on (close_one s.p.layout) (λ f. f) (outcome_of number (has_status s.p.layout f) x.1) x.0 (at + 1)
        (each_from s.p.layout (close_one s.p.layout) (λ f. f) number (g ∷ fs) x.0)
        (called b at f i (at + 1) (action.Close i) w (close_files all) x way ns.0 its
        (ap (effect.edge_closed s.p number (choice s k) w true) r.0)
        (ap (effect.edge_closed s.p number (choice s k) w false) r.0)
        (ap (λ (y : Option ℕ). status_if s.p number (choice s k) w y (λ f. close_one s.p.layout f w)) r.0) refl
        (ap (handled_in s.p number) r.0))
        (λ d. closes all (g ∷ fs) false (i + 1) (at + 1) x.0 its (omega arith) r.1 ns.1 d)

    -- ---- WRITE

    module _ (r : ℕ) (from : Option Sender) (its : act_at s.p number ≡ Some (write r from)) (f : ℕ)
        (found : file_from s.p.layout 0 s.p.layout.files r ≡ Some f) where
      writes : (b : Bool) (n : ℕ) (v : World) → IsNode s h.c number b (write_edges h.c number f next) n →
          Way s (so_far k b) n v →
          Comes_by s (outcome_of number (has_status s.p.layout f) (write_one s.p.layout (choice s k) f r v).1) (suc k)
          (write_one s.p.layout (choice s k) f r v).0 ds
      writes b n v is way =
          let x = write_one s.p.layout (choice s k) f r v in
          landed (outcome_of number (has_status s.p.layout f) x.1) x.0
          (called b n f 0 next action.Write v (write r from) x way is its
          (ap (effect.edge_wrote s.p number (choice s k) v true r) found)
          (ap (effect.edge_wrote s.p number (choice s k) v false r) found)
          (ap (λ (y : Option ℕ). status_if s.p number (choice s k) v y (λ f. write_one s.p.layout (choice s k) f r v))
          found) refl (ap (handled_in s.p number) found))

      writes_moved : (at : ℕ) (w : World) → IsNode s h.c number true ((action.Assign, at + 1) ∷ []) at →
          IsNode s h.c number false (write_edges h.c number f next) (at + 1) → Way s k at w →
          (m : Result World Kind) → move_if s.p.layout from r w ≡ m →
          Leads s k number w (m >>= λ v. Ok
          (state (write_one s.p.layout (choice s k) f r v).0 ds
          (outcome_of number (has_status s.p.layout f) (write_one s.p.layout (choice s k) f r v).1)))
      writes_moved at w is then_is way (Ok v) e =
          writes false (at + 1) v then_is
          (leaves s h.c number k true _ at action.Assign refl (at + 1) w v way is (0, omega arith, refl)
          (by_act s number (choice s k) w action.Assign (write r from) (edge_taken v) its (ap met e)))
      writes_moved at w is then_is way (Err kind) e =
          meets s h.c number k true _ at action.Assign (at + 1) w kind way is (0, omega arith, refl)
          (by_act s number (choice s k) w action.Assign (write r from) (Err kind) its (ap met e))

    pub write_leads : (r : ℕ) (from : Option Sender) (at : ℕ) (w : World) → act_at s.p number ≡ Some (write r from) →
        (file : Option ℕ) → file_from s.p.layout 0 s.p.layout.files r ≡ file →
        is_some file ≡ true → Stand s at
        (write_nodes h.c number (option_map_or (λ f. f) file 0) (is_some from) at next) → Way s k at w →
        Leads s k number w (written_by s.p (choice s k) number r file from w ds)
    write_leads r from at w its None e i ns way = absurd (false≢true i)
    write_leads r None at w its (Some f) e i ns way = writes r None its f e true at w ns.0 way
    write_leads r (Some x) at w its (Some f) e i ns way = writes_moved r (Some x) its f e at w ns.0 ns.1.0 way
        (move_if s.p.layout (Some x) r w) refl
