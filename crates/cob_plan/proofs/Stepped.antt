-- A plan's nodes make up steps.
use Rattle.std.proofs.Common.{◌≡◌, ◌≤◌, ◌<◌, ◌==◌, ◌⊎◌, inl, inr, ℕ, zero, suc, ◌+◌, Bool, true, false, List, [], ◌∷◌, ◌++◌, length, length-append, Option, Some, None, refl, sym, ap, subst, ◌∙◌, eq-eqb, arith}
use Rattle.std.specs.Prelude.{slice_get, Contains, ◌||◌}
use Rattle.std.proofs.lemmas.List.{length-map}
use Rattle.std.proofs.lemmas.Option.{same_Some, none-some, slice_get_cases, slice_get_within}
use Rattle.cob_program.specs.Act.{Act, Program}
use Rattle.cob_runs.specs.declared.action.Action.{Action}
use Rattle.cob_runs.specs.Effects.{act_at}
use Rattle.cob_graph.specs.declared.graph.Graph.{Graph}
use Rattle.cob_graph.specs.Laid.{LaidParas, paras_size}
use Rattle.cob_graph.specs.Nodes.{Noded}
use Rattle.cob_graph.specs.Graphs.{as_node, final_node, final_of, main_copy, all_nodes, IsGraph}
use Rattle.cob_graph.specs.Lookup.{node_at}
use Rattle.cob_graph.specs.WellFormed.{IsWellFormed}
use Rattle.cob_graph.proofs.Lengths.{length-paras}
use Rattle.cob_plan.specs.declared.node.Op.{Op}
use Rattle.cob_plan.specs.declared.node.Op.TheVariants as op
use Rattle.cob_plan.specs.declared.node.PlanNode.{PlanNode}
use Rattle.cob_plan.specs.declared.statement.Statement.{Statement}
use Rattle.cob_plan.specs.Listing.{plain_statements, listed}
use Rattle.cob_plan.specs.Plan.{ArePlanNodes, op_edges}
use Rattle.cob_plan.specs.Fitting.{IsFitting}
use Rattle.cob_plan.specs.Nodes.{IsNoded, AreNoded}
use Rattle.cob_plan.specs.Stepping.{IsListed, rests_in, IsRest, IsWithin, LeadsOn, OpLeadsOn, OpensInTurn, HasSteps, file_opened}
use Rattle.cob_plan.proofs.LaidSteps.{Rests, IsOf, Goes, AllGo, opened_at, NextOpens, AllOpen, IsLed, EachLed, step_nodes, program_led, program_begins}
use Rattle.cob_plan.proofs.Listings.{is_listed}
use Rattle.cob_plan.proofs.Planned.{laid_fits, node_fits}

-- ---- lists

front_get : {A : Type 0} (xs ys : List A) (i : ℕ) → i < length xs → slice_get (xs ++ ys) i ≡ slice_get xs i
front_get [] ys i l = absurd (omega (arith, l))
front_get (x ∷ xs) ys zero l = refl
front_get (x ∷ xs) ys (suc i) l = front_get xs ys i (omega (arith, l))

or_true : (b c : Bool) → c ≡ true → (b || c) ≡ true
or_true true c e = refl
or_true false c e = e

module _ (p : Program) (get : ℕ → Option Noded) (final : ℕ) where
  led_at : (ns : List Noded) (at i : ℕ) (x : Noded) → EachLed p get final at ns → slice_get ns i ≡ Some x →
      IsLed p get final (at + i) x
  led_at [] at i x h e = absurd (none-some x e)
  led_at (y ∷ ns) at zero x h e =
      subst (λ (n : ℕ). IsLed p get final n x) (omega arith) (subst (IsLed p get final at) (same_Some y x e) h.0)
  led_at (y ∷ ns) at (suc i) x h e =
      subst (λ (n : ℕ). IsLed p get final n x) (omega arith) (led_at ns (at + 1) i x h.1 e)

  goes_out : (number from : ℕ) (out : List (Action × ℕ)) (a : Action) (to : ℕ) → AllGo p get final number from out →
      Contains out (a, to) → Goes p get final number from to
  goes_out number from [] a to h (k, l, e) = absurd (omega (arith, l))
  goes_out number from (x ∷ out) a to h (zero, l, e) =
      subst (Goes p get final number from) (ap (λ (y : Action × ℕ). y.1) e) h.0
  goes_out number from (x ∷ out) a to h (suc k, l, e) = goes_out number from out a to h.1 (k, omega (arith, l), e)

  opens_out : (k : ℕ) (out : List (Action × ℕ)) (a : Action) (to : ℕ) → AllOpen p get final k out →
      Contains out (a, to) → NextOpens p get final k to
  opens_out k [] a to h (j, l, e) = absurd (omega (arith, l))
  opens_out k (x ∷ out) a to h (zero, l, e) = subst (NextOpens p get final k) (ap (λ (y : Action × ℕ). y.1) e) h.0
  opens_out k (x ∷ out) a to h (suc j, l, e) = opens_out k out a to h.1 (j, omega (arith, l), e)

-- an operation and its ways on tell the same file
opened_by_op : (o : Op) → opened_at (op_edges o) ≡ file_opened o
opened_by_op (op.Skip to) = refl
opened_by_op (op.Assign to) = refl
opened_by_op (op.Show to) = refl
opened_by_op (op.SetCount to) = refl
opened_by_op (op.CountDown to) = refl
opened_by_op (op.Compute fine None) = refl
opened_by_op (op.Compute fine (Some size)) = refl
opened_by_op (op.Test k held other) = refl
opened_by_op (op.Open k fine bad) = refl
opened_by_op (op.Close k fine bad) = refl
opened_by_op (op.Read found end bad) = refl
opened_by_op (op.Write fine bad) = refl
opened_by_op op.Final = refl

opened_in : (s : PlanNode) (x : Noded) → IsNoded x s → opened_at x.out ≡ file_opened s.op
opened_in s x is = subst (λ (out : List (Action × ℕ)). opened_at out ≡ file_opened s.op) is.edges (opened_by_op s.op)

-- ---- plans

module _ (p : Program) (g : Graph) (kept : IsWellFormed p) (graph : IsGraph p g) (nodes : List PlanNode)
    (are : ArePlanNodes g nodes) (noded : AreNoded (all_nodes p graph.copies) nodes) where
  abbrev ps : LaidParas
  ps = graph.copies

  abbrev steps : List Noded
  steps = step_nodes p ps

  abbrev get : ℕ → Option Noded
  get = node_at steps

  abbrev final : ℕ
  final = final_of ps

  counted : length steps ≡ paras_size ps
  counted = length-paras (main_copy p ps) ps 1 final

  many : length nodes ≡ final
  many =
      omega (
        arith,
        are.all,
        ap length graph.nodes,
        length-map (all_nodes p ps) as_node,
        length-append steps (final_node ∷ []),
        counted,
      )

  -- a plan's node before the last one is the one laid
  own_laid : (i : ℕ) (s : PlanNode) → slice_get nodes i ≡ Some s → i < length steps →
      (x : Noded) × (get (suc i) ≡ Some x) × IsNoded x s
  own_laid i s e l =
      let found = noded.each i s e in
      (found.0, sym (front_get steps (final_node ∷ []) i l) ∙ found.1, found.2)

  same_laid : (i : ℕ) (s : PlanNode) (x : Noded) → slice_get nodes i ≡ Some s → get (suc i) ≡ Some x → IsNoded x s
  same_laid i s x e laid =
      let found = own_laid i s e (slice_get_within steps i x laid) in
      subst (λ (y : Noded). IsNoded y s) (same_Some found.0 x (sym found.1 ∙ laid)) found.2

  -- ---- where no step goes on

  rests_last : (n : ℕ) (o : Option PlanNode) → n ≡ length nodes → rests_in (length nodes) n o ≡ true
  rests_last n None e = refl
  rests_last n (Some s) e = or_true s.starts (n == length nodes) (eq-eqb n (length nodes) e)

  rests_begun : (i : ℕ) (x : Noded) (o : Option PlanNode) → slice_get nodes i ≡ o → get (suc i) ≡ Some x →
      x.starts ≡ true → rests_in (length nodes) (suc i) o ≡ true
  rests_begun i x None e laid begins = refl
  rests_begun i x (Some s) e laid begins =
      ap (λ (b : Bool). b || (suc i == length nodes)) ((same_laid i s x e laid).starts ∙ begins)

  begun : (n : ℕ) (x : Noded) → get n ≡ Some x → x.starts ≡ true → IsRest nodes n
  begun zero x laid begins = absurd (none-some x laid)
  begun (suc i) x laid begins = record {
    above = omega arith;
    within = omega (arith, slice_get_within steps i x laid, counted, many);
    is = rests_begun i x (slice_get nodes i) refl laid begins;
  }

  last_or_begun : (n : ℕ) → (n ≡ final) ⊎ ((x : Noded) × (get n ≡ Some x) × (x.starts ≡ true)) → IsRest nodes n
  last_or_begun n (inl e) = record {
    above = omega (arith, e);
    within = omega (arith, e, many);
    is = rests_last n (node_at nodes n) (e ∙ sym many);
  }
  last_or_begun n (inr (x, laid, begins)) = begun n x laid begins

  is_rest : (n : ℕ) → Rests p get final n → IsRest nodes n
  is_rest n r = last_or_begun n r.is

  -- ---- within a step

  own_statement : (n statement : ℕ) (y : Noded) → get n ≡ Some y → y.statement ≡ statement → (s : PlanNode) →
      node_at nodes n ≡ Some s → s.statement ≡ statement
  own_statement zero statement y laid its s e = absurd (none-some y laid)
  own_statement (suc i) statement y laid its s e = (same_laid i s y e laid).statement ∙ its

  place_of : (n : ℕ) (y : Noded) → get n ≡ Some y → (1 ≤ n) × (n < length nodes)
  place_of zero y laid = absurd (none-some y laid)
  place_of (suc i) y laid = (omega arith, omega (arith, slice_get_within steps i y laid, counted, many))

  is_within : (n statement : ℕ) → IsOf p get final statement n → IsWithin nodes n statement
  is_within n statement o = record {
    above = (place_of n o.node o.stands).0;
    below = (place_of n o.node o.stands).1;
    own = own_statement n statement o.node o.stands o.its;
  }

  leads_on : (statement from since to : ℕ) → since ≤ from → Goes p get final statement from to →
      LeadsOn nodes statement since to
  leads_on statement from since to l h = record {
    on = elim h.way [
      | inl r ↦ inl (is_rest to r)
      | inr o ↦ inr (omega (arith, l, o.0), is_within to statement o.1)
    ];
  }

  -- ---- all of them

  led_there : (i : ℕ) (x : Noded) → get (suc i) ≡ Some x → IsLed p get final (suc i) x
  led_there i x laid =
      subst (λ (n : ℕ). IsLed p get final n x) (omega arith)
      (led_at p get final steps 1 i x (program_led p ps graph.laid kept).each laid)

  node_leads : (n : ℕ) (s : PlanNode) → node_at nodes n ≡ Some s → n < length nodes →
      OpLeadsOn nodes n s.statement s.op
  node_leads zero s e l = absurd (none-some s e)
  node_leads (suc i) s e l = λ a to out.
      let own = own_laid i s e (omega (arith, l, counted, many)) in
      let led = led_there i own.0 own.1 in
      let there = subst (λ (es : List (Action × ℕ)). Contains es (a, to)) own.2.edges out in
      let goes = goes_out p get final own.0.statement (suc i + 1) own.0.out a to led.goes there in
      subst (λ (number : ℕ). LeadsOn nodes number (suc (suc i)) to) (sym own.2.statement)
      (leads_on own.0.statement (suc i + 1) (suc (suc i)) to (omega arith) goes)

  node_does : (n : ℕ) (s : PlanNode) → node_at nodes n ≡ Some s → n < length nodes → (a : Act) →
      act_at p s.statement ≡ Some a → IsFitting p s a
  node_does zero s e l a its = absurd (none-some s e)
  node_does (suc i) s e l a its =
      let own = own_laid i s e (omega (arith, l, counted, many)) in
      node_fits p own.0 s (laid_fits p g kept graph i own.0 own.1) own.2 a its

  -- ---- files that are opened

  plan_at : (i : ℕ) (y : Noded) → get (suc i) ≡ Some y → (s : PlanNode) × (slice_get nodes i ≡ Some s)
  plan_at i y laid = elim (slice_get_cases nodes i).1 [
    | inl there ↦ (there.0, there.2)
    | inr past ↦ absurd (omega (arith, past.0, slice_get_within steps i y laid, counted, many))
  ]

  opens_there : (k to : ℕ) → NextOpens p get final k to →
      IsRest nodes to ⊎ ((x : PlanNode) × (node_at nodes to ≡ Some x) × (file_opened x.op ≡ Some (k + 1)))
  opens_there k to (inl r) = inl (is_rest to r)
  opens_there k zero (inr (y, laid, e)) = absurd (none-some y laid)
  opens_there k (suc i) (inr (y, laid, e)) =
      let found = plan_at i y laid in
      inr (found.0, found.1, sym (opened_in found.0 y (same_laid i found.0 y found.1 laid)) ∙ e)

  node_opens : (n : ℕ) (s : PlanNode) → node_at nodes n ≡ Some s → n < length nodes → OpensInTurn nodes n s
  node_opens zero s e l = absurd (none-some s e)
  node_opens (suc i) s e l =
      let own = own_laid i s e (omega (arith, l, counted, many)) in
      let led = led_there i own.0 own.1 in
      let same = opened_in s own.0 own.2 in
      record {
        first = λ starts k is. led.opens.first (sym own.2.starts ∙ starts) k (same ∙ is);
        next = λ k is a to out.
            let there = subst (λ (es : List (Action × ℕ)). Contains es (a, to)) own.2.edges out in
            opens_there k to (opens_out p get final k own.0.out a to (led.opens.next k (same ∙ is)) there);
      }

  module _ (statements : List Statement) (is : plain_statements statements ≡ listed p) where
    node_listed : (n : ℕ) (s : PlanNode) → node_at nodes n ≡ Some s → n < length nodes →
        IsListed statements s.statement
    node_listed zero s e l = absurd (none-some s e)
    node_listed (suc i) s e l =
        let own = own_laid i s e (omega (arith, l, counted, many)) in
        let led = led_there i own.0 own.1 in
        is_listed p statements s.statement led.act is
        (subst (λ (number : ℕ). act_at p number ≡ Some led.act) (sym own.2.statement) led.its)

    pub has_steps : HasSteps p nodes statements
    has_steps = record {
      first = is_rest 1 (program_begins p ps graph.laid kept);
      leads = node_leads;
      listed = node_listed;
      fits = node_does;
      opens = node_opens;
    }
