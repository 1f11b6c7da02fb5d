-- Each edge passes its parts where it is taken, and one of them meets the fault where its statement does.
use Rattle.std.proofs.Common.{◌≡◌, ℕ, ◌-◌, Bool, true, false, List, [], inl, Option, Some, Ok, Err, ℤ, refl, sym, ap, subst, ◌∙◌}
use Rattle.std.specs.Prelude.{if◌then◌else◌, is_some, slice_set}
use Rattle.std.specs.Option.{option_map_or}
use Rattle.std.proofs.lemmas.Bool.{false≢true}
use Rattle.cob_tree.specs.declared.fault.Kind.{Kind}
use Rattle.cob_program.specs.Act.{once, times, until, varying, Act, arith, if_, evaluate, perform, go, nothing, stop, open_files, close_files, write, Program}
use Rattle.cob_program.specs.Act as act
use Rattle.cob_runs.specs.declared.action.Action.{Action}
use Rattle.cob_runs.specs.declared.action.Action.TheVariants as action
use Rattle.cob_runs.specs.Files.{Choice}
use Rattle.cob_runs.specs.State.{World}
use Rattle.cob_runs.specs.Effects.{Effect, edge_taken, not_taken, edge_tested, edge_counted, effect_of, effect, act_at, is_times}
use Rattle.cob_edge_parts.specs.Parts.{Part, has_phrase, is_handled, reads_count, assign_parts, compute_parts, condition_parts, count_parts, call_parts, read_parts, bad_parts, parts_of}
use Rattle.cob_edge_parts.specs.Meaning.{beginning, count_in, Meets}
use Rattle.cob_edge_parts.specs.Edges.{StandFor, fault_edge, PartsArePassed, PartsArePassedBeside, FaultsAreMet}
use Rattle.cob_edge_parts.proofs.Moving.{some_of}
use Rattle.cob_edge_parts.proofs.Counting.{Standing, CountsSo, counters_stay, StandsAt, set_edge, down_edge, left_edge, stand_set, stand_at}
use Rattle.cob_edge_parts.proofs.EachEdge.{Does, stays, assign_edge, tested_edge, call_edge, read_edge, bad_edge, computed_passed, computed_met, show_edge, if_ok}

-- the statement with the number
by_act : (p : Program) (statement : ℕ) (c : Choice) (w : World) (a : Act) (x : Action) (r : Effect) →
    act_at p statement ≡ Some a → effect p statement c w x ≡ r → effect_of p statement c w x a ≡ r
by_act p statement c w a x r its e =
    sym (ap (λ (o : Option Act). option_map_or (effect_of p statement c w x) o not_taken) its) ∙ e

-- counters stand for counts that are set alike
abbrev SetsAlike : Standing → ℕ → List (Option ℤ) → List (Option ℤ) → Type 0
SetsAlike Stand statement as_ bs =
    (n : ℤ) → Stand (slice_set as_ (statement - 1) (Some n)) (slice_set bs (statement - 1) (Some n))

module _ (Stand : Standing) (p : Program) (statement : ℕ) (c : Choice) (w : World) (counts : List (Option ℤ))
    (same : Stand w.counts counts) (sets : SetsAlike Stand statement w.counts counts) where
  abbrev Passed : Bool → List Part → Effect → Type 0
  Passed handled xs r = CountsSo Stand p.layout counts handled xs w r

  plain : (xs : List Part) (r : Effect) → Does p statement c w counts xs r → Passed false xs r
  plain xs r h = counters_stay Stand p.layout counts w false xs r same h

  count_edge : (a : Act) → Passed false (count_parts p statement a) (edge_counted p statement c w a)
  count_edge (perform body (times x)) = set_edge Stand p.layout counts w statement x sets
  count_edge (perform body once) = tt
  count_edge (perform body (until after t)) = tt
  count_edge (perform body (varying after place start by t)) = tt
  count_edge (act.move x places) = tt
  count_edge (arith s targets remainder size fine) = tt
  count_edge (if_ t held other) = tt
  count_edge (evaluate ws other) = tt
  count_edge (go para) = tt
  count_edge nothing = tt
  count_edge stop = tt
  count_edge (open_files os) = tt
  count_edge (close_files fs) = tt
  count_edge (act.read f into end fine) = tt
  count_edge (write r from) = tt
  count_edge (act.show xs) = tt

  times_edge : (wanted : Bool) (k : ℕ) (a : Act) → StandsAt Stand p.layout counts w statement → is_times a ≡ true →
      Passed false (condition_parts p statement wanted k a) (edge_tested p statement c w wanted k a)
  times_edge wanted k (perform body (times x)) h e = left_edge Stand p.layout counts w p c statement wanted same h
  times_edge wanted k (perform body once) h e = absurd (false≢true e)
  times_edge wanted k (perform body (until after t)) h e = absurd (false≢true e)
  times_edge wanted k (perform body (varying after place start by t)) h e = absurd (false≢true e)
  times_edge wanted k (act.move x places) h e = absurd (false≢true e)
  times_edge wanted k (arith s targets remainder size fine) h e = absurd (false≢true e)
  times_edge wanted k (if_ t held other) h e = absurd (false≢true e)
  times_edge wanted k (evaluate ws other) h e = absurd (false≢true e)
  times_edge wanted k (go para) h e = absurd (false≢true e)
  times_edge wanted k nothing h e = absurd (false≢true e)
  times_edge wanted k stop h e = absurd (false≢true e)
  times_edge wanted k (open_files os) h e = absurd (false≢true e)
  times_edge wanted k (close_files fs) h e = absurd (false≢true e)
  times_edge wanted k (act.read f into end fine) h e = absurd (false≢true e)
  times_edge wanted k (write r from) h e = absurd (false≢true e)
  times_edge wanted k (act.show xs) h e = absurd (false≢true e)

  by_times : (wanted : Bool) (k : ℕ) (a : Act) (b : Bool) → is_times a ≡ b →
      (is_times a ≡ true → StandsAt Stand p.layout counts w statement) →
      Passed false (condition_parts p statement wanted k a) (edge_tested p statement c w wanted k a)
  by_times wanted k a true e h = times_edge wanted k a (h e) e
  by_times wanted k a false e h =
      plain (condition_parts p statement wanted k a) (edge_tested p statement c w wanted k a)
      (tested_edge p statement c w counts wanted k a e)

  abbrev Stands : Act → Action → Type 0
  Stands a x = reads_count a x ≡ true → StandsAt Stand p.layout counts w statement

  as_plain : (xs : List Part) (r q : Effect) → r ≡ q → Does p statement c w counts xs r → Passed false xs q
  as_plain xs r q e h = subst (λ (s : Effect). Passed false xs s) e (plain xs r h)

  as_passed : (xs : List Part) (r q : Effect) → r ≡ q → Passed false xs r → Passed false xs q
  as_passed xs r q e h = subst (λ (s : Effect). Passed false xs s) e h

  -- an edge that is taken
  edge_passed : (a : Act) (x : Action) (v : World) → Stands a x → effect_of p statement c w x a ≡ Ok (Some v) →
      Passed (is_handled a x) (parts_of p statement a x) (edge_taken v)
  edge_passed a action.Skip v h e = as_plain [] _ (edge_taken v) e (stays p statement c w counts)
  edge_passed a action.Assign v h e = as_plain (assign_parts p statement a) _ (edge_taken v) e
      (assign_edge p statement c w counts a)
  edge_passed a action.Done v h e =
      counters_stay Stand p.layout counts w false (compute_parts p statement a) (edge_taken v) same
      (computed_passed p statement c w counts false a v e)
  edge_passed a action.Size v h e =
      counters_stay Stand p.layout counts w (has_phrase a) (compute_parts p statement a) (edge_taken v) same
      (computed_passed p statement c w counts true a v e)
  edge_passed a (action.True k) v h e =
      as_passed (condition_parts p statement true k a) _ (edge_taken v) e (by_times true k a (is_times a) refl h)
  edge_passed a (action.False k) v h e =
      as_passed (condition_parts p statement false k a) _ (edge_taken v) e (by_times false k a (is_times a) refl h)
  edge_passed a action.SetCount v h e = as_passed (count_parts p statement a) _ (edge_taken v) e (count_edge a)
  edge_passed a action.Down v h e =
      as_passed (parts_of p statement a action.Down) _ (edge_taken v) e (down_edge Stand p.layout counts w statement sets
      (h refl))
  edge_passed a (action.Open k) v h e =
      as_plain (call_parts p statement true k a) _ (edge_taken v) e (call_edge p statement c w counts true k a)
  edge_passed a (action.Close k) v h e =
      as_plain (call_parts p statement true k a) _ (edge_taken v) e (call_edge p statement c w counts true k a)
  edge_passed a action.Take v h e = as_plain (read_parts p statement a) _ (edge_taken v) e
      (read_edge p statement c w counts 0 a)
  edge_passed a action.AtEnd v h e = as_plain (read_parts p statement a) _ (edge_taken v) e
      (read_edge p statement c w counts 10 a)
  edge_passed a (action.Bad k) v h e = as_plain (bad_parts p statement k a) _ (edge_taken v) e
      (bad_edge p statement c w counts k a)
  edge_passed a action.Write v h e =
      as_plain (call_parts p statement true 0 a) _ (edge_taken v) e (call_edge p statement c w counts true 0 a)
  edge_passed a action.Show v h e = as_plain [] _ (edge_taken v) e (show_edge p statement c w counts a)

-- ---- the counters are the counts

abbrev Same : Standing
Same as_ bs = bs ≡ as_

counted_stands : (p : Program) (statement : ℕ) (w : World) → is_some (count_in w.counts statement) ≡ true →
    StandsAt Same p.layout w.counts w statement
counted_stands p statement w h = let n = some_of (count_in w.counts statement) h in (n.0, n.1, inl n.1)

pub parts_are_passed : PartsArePassed
parts_are_passed p statement c a x w v its h e =
    let g = edge_passed Same p statement c w w.counts refl (λ n. refl) a x v (λ r. counted_stands p statement w (h r))
    (by_act p statement c w a x (edge_taken v) its e) in
    record { last = g.0; way = g.1; same_storage = g.2; same_counts = g.3; fails = g.4 }

-- ---- the counters stand for them

pub parts_are_passed_beside : PartsArePassedBeside
parts_are_passed_beside p statement c a x w v counts its h s e =
    let g = edge_passed StandFor p statement c w counts s (λ n. stand_set w.counts counts (statement - 1) n s) a x v
    (λ r. stand_at w.counts counts (statement - 1) s (h r)) (by_act p statement c w a x (edge_taken v) its e) in
    record {
      later = g.0.counts;
      leads = record { last = g.0; way = g.1; same_storage = g.2; same_counts = refl; fails = g.4 };
      stand = g.3;
    }

-- ---- faults

module _ (p : Program) (statement : ℕ) (c : Choice) (w : World) (counts : List (Option ℤ)) where
  abbrev MeetsAt : Act → Action → Kind → Type 0
  MeetsAt a x fault =
      Meets p.layout (is_handled a (fault_edge a x)) (parts_of p statement a (fault_edge a x))
      (beginning w.storage counts) fault

  times_fine : (wanted : Bool) (k : ℕ) (a : Act) (fault : Kind) → is_times a ≡ true →
      edge_tested p statement c w wanted k a ≡ Err fault → ⊥
  times_fine wanted k (perform body (times x)) fault h e = if_ok p statement c w counts _ w fault e
  times_fine wanted k (perform body once) fault h e = false≢true h
  times_fine wanted k (perform body (until after t)) fault h e = false≢true h
  times_fine wanted k (perform body (varying after place start by t)) fault h e = false≢true h
  times_fine wanted k (act.move x places) fault h e = false≢true h
  times_fine wanted k (arith s targets remainder size fine) fault h e = false≢true h
  times_fine wanted k (if_ t held other) fault h e = false≢true h
  times_fine wanted k (evaluate ws other) fault h e = false≢true h
  times_fine wanted k (go para) fault h e = false≢true h
  times_fine wanted k nothing fault h e = false≢true h
  times_fine wanted k stop fault h e = false≢true h
  times_fine wanted k (open_files os) fault h e = false≢true h
  times_fine wanted k (close_files fs) fault h e = false≢true h
  times_fine wanted k (act.read f into end fine) fault h e = false≢true h
  times_fine wanted k (write r from) fault h e = false≢true h
  times_fine wanted k (act.show xs) fault h e = false≢true h

  tested_met : (wanted : Bool) (k : ℕ) (a : Act) (fault : Kind) (b : Bool) → is_times a ≡ b →
      edge_tested p statement c w wanted k a ≡ Err fault →
      Meets p.layout false (condition_parts p statement wanted k a) (beginning w.storage counts) fault
  tested_met wanted k a fault true f e = absurd (times_fine wanted k a fault f e)
  tested_met wanted k a fault false f e =
      subst (λ (r : Effect). Does p statement c w counts (condition_parts p statement wanted k a) r) e
      (tested_edge p statement c w counts wanted k a f)

  done_met : (a : Act) (fault : Kind) (b : Bool) → has_phrase a ≡ b →
      Meets p.layout (has_phrase a) (compute_parts p statement a) (beginning w.storage counts) fault →
      Meets p.layout (is_handled a (if b then action.Size else action.Done))
      (parts_of p statement a (if b then action.Size else action.Done)) (beginning w.storage counts) fault
  done_met a fault true e h = h
  done_met a fault false e h =
      subst (λ b. Meets p.layout b (compute_parts p statement a) (beginning w.storage counts) fault) e h

  as_met : (xs : List Part) (r : Effect) (fault : Kind) → r ≡ Err fault → Does p statement c w counts xs r →
      Meets p.layout false xs (beginning w.storage counts) fault
  as_met xs r fault e h = subst (λ (q : Effect). Does p statement c w counts xs q) e h

  -- what stands for counts doesn't matter where a fault is met
  abbrev Anyhow : Standing
  Anyhow as_ bs = Unit {0}

  met_at : (a : Act) (x : Action) (fault : Kind) → effect_of p statement c w x a ≡ Err fault → MeetsAt a x fault
  met_at a action.Skip fault e = absurd (cc)
  met_at a action.Assign fault e = as_met (assign_parts p statement a) _ fault e (assign_edge p statement c w counts a)
  met_at a action.Done fault e = done_met a fault (has_phrase a) refl
      (computed_met p statement c w counts false a fault e)
  met_at a action.Size fault e = computed_met p statement c w counts true a fault e
  met_at a (action.True k) fault e = tested_met true k a fault (is_times a) refl e
  met_at a (action.False k) fault e = tested_met false k a fault (is_times a) refl e
  met_at a action.SetCount fault e =
      subst (λ (r : Effect). CountsSo Anyhow p.layout counts false (count_parts p statement a) w r) e
      (count_edge Anyhow p statement c w counts tt (λ n. tt) a)
  met_at a action.Down fault e = absurd (cc)
  met_at a (action.Open k) fault e = as_met (call_parts p statement true k a) _ fault e
      (call_edge p statement c w counts true k a)
  met_at a (action.Close k) fault e = as_met (call_parts p statement true k a) _ fault e
      (call_edge p statement c w counts true k a)
  met_at a action.Take fault e = as_met (read_parts p statement a) _ fault e (read_edge p statement c w counts 0 a)
  met_at a action.AtEnd fault e = as_met (read_parts p statement a) _ fault e (read_edge p statement c w counts 10 a)
  met_at a (action.Bad k) fault e = as_met (bad_parts p statement k a) _ fault e (bad_edge p statement c w counts k a)
  met_at a action.Write fault e = as_met (call_parts p statement true 0 a) _ fault e
      (call_edge p statement c w counts true 0 a)
  met_at a action.Show fault e = as_met [] _ fault e (show_edge p statement c w counts a)

pub faults_are_met : FaultsAreMet
faults_are_met p statement c a x w counts fault its e =
    met_at p statement c w counts a x fault (by_act p statement c w a x (Err fault) its e)
