-- What edges do to counters: one that counts sets its own, others leave them all.
use Rattle.std.proofs.Common.{◌≡◌, ℕ, zero, suc, ◌-◌, Bool, true, false, List, [], ◌∷◌, Option, Some, None, Result, Ok, Err, ℤ, pos, negsuc, refl, sym, ap, subst, ◌∙◌}
use Rattle.std.specs.Prelude.{if◌then◌else◌, not, slice_get, slice_set, ◌-ℤ◌}
use Rattle.std.specs.Option.{option_map_or}
use Rattle.std.proofs.lemmas.Bool.{false≢true}
use Rattle.dec_num.specs.declared.types.Scaled.{Scaled}
use Rattle.cob_tree.specs.declared.fault.Kind.{Kind}
use Rattle.cob_tree.specs.declared.fault.Kind.TheVariants as kind
use Rattle.cob_data.specs.declared.layout.Sender.{Sender}
use Rattle.cob_program.specs.Logic.{Test}
use Rattle.cob_program.specs.Act.{times, Act, perform, Body, Program}
use Rattle.cob_runs.specs.declared.action.Action.{Action}
use Rattle.cob_runs.specs.declared.action.Action.TheVariants as action
use Rattle.cob_runs.specs.Faults.{◌>>=◌, or_fault}
use Rattle.cob_runs.specs.Files.{Choice}
use Rattle.cob_runs.specs.Moves.{number_of}
use Rattle.cob_runs.specs.State.{World}
use Rattle.cob_runs.specs.Acts.{with_count}
use Rattle.cob_runs.specs.Steps.{is_left}
use Rattle.cob_runs.specs.Effects.{Effect, edge_taken, taken_if, not_taken, met, edge_decided, edge_tested, edge_counted, tests_in_act, effect_of, effect, act_at}
use Rattle.cob_edge_parts.specs.Parts.{Part, assign_parts, call_parts, read_parts, bad_parts, test_parts}
use Rattle.cob_edge_parts.specs.Meaning.{count_in}
use Rattle.cob_edge_parts.proofs.PlainEdges.{test_edge}
use Rattle.cob_edge_parts.proofs.EachEdge.{Does, stays, assign_edge, call_edge, read_edge, bad_edge, computed_passed, show_edge}
use Rattle.graph_runs.specs.Counts.{IsPositiveIn}

-- edges that leave the counters
abbrev pub IsPlain : Action → Type 0
IsPlain action.SetCount = ⊥
IsPlain action.Down = ⊥
IsPlain x = Unit {0}

is_taken : (b : Bool) (u v : World) → taken_if b u ≡ Ok (Some v) → (b ≡ true) × (u ≡ v)
is_taken true u v e = (refl, cc)
is_taken false u v e = absurd (cc)

-- another place of a list
other_place : {A : Type 0} (xs : List A) (i j : ℕ) (x : A) → (i ≡ j → ⊥) →
    slice_get (slice_set xs i x) j ≡ slice_get xs j
other_place [] i j x apart = refl
other_place (y ∷ ys) zero zero x apart = absurd (apart refl)
other_place (y ∷ ys) zero (suc j) x apart = refl
other_place (y ∷ ys) (suc i) zero x apart = refl
other_place (y ∷ ys) (suc i) (suc j) x apart = other_place ys i j x (λ e. apart (ap suc e))

module _ (p : Program) (number : ℕ) (c : Choice) (w v : World) where
  -- ---- counters that stay

  as_done : (xs : List Part) (r : Effect) → Does p number c w w.counts xs r → r ≡ Ok (Some v) → v.counts ≡ w.counts
  as_done xs r h e = (subst (λ (q : Effect). Does p number c w w.counts xs q) e h).4

  decided_counts : (wanted : Bool) (t : Option Test) → edge_decided p number c w wanted t ≡ Ok (Some v) →
      v.counts ≡ w.counts
  decided_counts wanted None e = absurd (cc)
  decided_counts wanted (Some t) e =
      as_done (test_parts p.layout wanted (Some t)) (edge_decided p number c w wanted (Some t))
      (test_edge p.layout w.counts w t wanted) e

  tested_counts : (wanted : Bool) (k : ℕ) (a : Act) → edge_tested p number c w wanted k a ≡ Ok (Some v) →
      v.counts ≡ w.counts
  tested_counts wanted k (perform body (times x)) e =
      let left = is_left (count_in w.counts number) in
      sym (ap (λ (u : World). u.counts) (is_taken (if wanted then left else not left) w v e).1)
  tested_counts wanted k a e = decided_counts wanted (slice_get (tests_in_act a) k) e

  plain_counts : (x : Action) (a : Act) → IsPlain x → effect_of p number c w x a ≡ Ok (Some v) → v.counts ≡ w.counts
  plain_counts action.Skip a i e = as_done [] (edge_taken w) (stays p number c w w.counts) e
  plain_counts action.Assign a i e = as_done (assign_parts p number a) _ (assign_edge p number c w w.counts a) e
  plain_counts action.Done a i e = (computed_passed p number c w w.counts false a v e).4
  plain_counts action.Size a i e = (computed_passed p number c w w.counts true a v e).4
  plain_counts (action.True k) a i e = tested_counts true k a e
  plain_counts (action.False k) a i e = tested_counts false k a e
  plain_counts action.SetCount a i e = absurd i
  plain_counts action.Down a i e = absurd i
  plain_counts (action.Open k) a i e =
      as_done (call_parts p number true k a) _ (call_edge p number c w w.counts true k a) e
  plain_counts (action.Close k) a i e =
      as_done (call_parts p number true k a) _ (call_edge p number c w w.counts true k a) e
  plain_counts action.Take a i e =
      as_done (read_parts p number a) _ (read_edge p number c w w.counts 0 a) e
  plain_counts action.AtEnd a i e =
      as_done (read_parts p number a) _ (read_edge p number c w w.counts 10 a) e
  plain_counts (action.Bad k) a i e =
      as_done (bad_parts p number k a) _ (bad_edge p number c w w.counts k a) e
  plain_counts action.Write a i e =
      as_done (call_parts p number true 0 a) _ (call_edge p number c w w.counts true 0 a) e
  plain_counts action.Show a i e = as_done [] _ (show_edge p number c w w.counts a) e

  -- ---- the statement with the number

  found_by : (x : Action) (o : Option Act) → act_at p number ≡ o →
      option_map_or (effect_of p number c w x) o not_taken ≡ Ok (Some v) →
      (a : Act) × (act_at p number ≡ Some a) × (effect_of p number c w x a ≡ Ok (Some v))
  found_by x None is e = absurd (cc)
  found_by x (Some a) is e = (a, is, e)

  pub does_act : (x : Action) → effect p number c w x ≡ Ok (Some v) →
      (a : Act) × (act_at p number ≡ Some a) × (effect_of p number c w x a ≡ Ok (Some v))
  does_act x e = found_by x (act_at p number) refl e

  pub plain_kept : (x : Action) → IsPlain x → effect p number c w x ≡ Ok (Some v) → v.counts ≡ w.counts
  plain_kept x i e = let h = does_act x e in plain_counts x h.0 i h.2

  -- ---- counters that are set

  -- a counter alone is new
  abbrev pub SetsOwn : Type 0
  SetsOwn = (loop : ℕ) → (number - 1 ≡ loop - 1 → ⊥) → count_in v.counts loop ≡ count_in w.counts loop

  own_set : (n : ℤ) → with_count p.layout number n w ≡ v → SetsOwn
  own_set n e loop apart =
      ap (λ (u : World). count_in u.counts loop) (sym e)
      ∙ ap (λ (o : Option (Option ℤ)). option_map_or (λ c. c) o None)
      (other_place w.counts (number - 1) (loop - 1) (Some n) apart)

  set_by : (r : Result Scaled Kind) → met (r >>= λ n. Ok (with_count p.layout number n.units w)) ≡ Ok (Some v) →
      SetsOwn
  set_by (Ok n) e = own_set n.units (cc)
  set_by (Err kind) e = absurd (cc)

  counted_set : (a : Act) → edge_counted p number c w a ≡ Ok (Some v) → SetsOwn
  counted_set (perform body (times x)) e = set_by (or_fault kind.Class (number_of p.layout w.storage x)) e
  counted_set a e = absurd (cc)

  down_set : (o : Option ℤ) →
      edge_taken (option_map_or (λ n. with_count p.layout number (n -ℤ pos 1) w) o w) ≡ Ok (Some v) → SetsOwn
  down_set (Some n) e = own_set (n -ℤ pos 1) (cc)
  down_set None e = λ loop apart. let same : w ≡ v = cc in ap (λ (u : World). count_in u.counts loop) (sym same)

  pub first_set : effect p number c w action.SetCount ≡ Ok (Some v) → SetsOwn
  first_set e = let h = does_act action.SetCount e in counted_set h.0 h.2

  pub counts_down : effect p number c w action.Down ≡ Ok (Some v) → SetsOwn
  counts_down e = let h = does_act action.Down e in down_set (count_in w.counts number) h.2

  -- ---- the test of TIMES

  left_is : (o : Option ℤ) → is_left o ≡ true → (n : ℕ) × (o ≡ Some (pos (suc n)))
  left_is (Some (pos (suc n))) e = (n, refl)
  left_is (Some (pos zero)) e = absurd (false≢true e)
  left_is (Some (negsuc n)) e = absurd (false≢true e)
  left_is None e = absurd (false≢true e)

  pub test_held : (k : ℕ) (body : Body) (x : Sender) → act_at p number ≡ Some (perform body (times x)) →
      effect p number c w (action.True k) ≡ Ok (Some v) → IsPositiveIn v.counts number
  test_held k body x is e =
      let does : taken_if (is_left (count_in w.counts number)) w ≡ Ok (Some v) =
      ap (λ (o : Option Act). option_map_or (effect_of p number c w (action.True k)) o not_taken) (sym is) ∙ e in
      let t = is_taken (is_left (count_in w.counts number)) w v does in
      subst (λ (u : World). IsPositiveIn u.counts number) t.1 (left_is (count_in w.counts number) t.0)
