-- A run on told files has one end within a budget.
use Rattle.std.proofs.Common.{◌≡◌, ◌≢◌, ◌<◌, ◌≤◌, ◌⊎◌, ℕ, zero, suc, Bool, true, false, length, Option, Some, None, Result, Ok, Err, inl, inr, eqb-true, refl, sym, ap, subst, ◌∙◌, arith}
use Rattle.std.specs.Prelude.{◌==◌, ◌&&◌, if◌then◌else◌, slice_get}
use Rattle.std.specs.Option.{option_map_or}
use Rattle.std.proofs.lemmas.Bool.{false≢true, eq-eqb}
use Rattle.std.proofs.lemmas.Bool.{cases_order}
use Rattle.std.proofs.lemmas.Bool.Decides.{eqb_tells}
use Rattle.cob_program.specs.Act.{Act, move, arith as arithmetic, if_, evaluate, perform, go, nothing, stop, open_files, close_files, read, write, show, Program}
use Rattle.cob_runs.specs.declared.outcome.Outcome.{Outcome}
use Rattle.cob_runs.specs.declared.outcome.Outcome.TheVariants.{Going, Fault, IoStop}
use Rattle.cob_runs.specs.declared.outcome.Outcome.TheVariants as outcome
use Rattle.cob_runs.specs.Files.{bytes_in}
use Rattle.cob_runs.specs.State.{World, State}
use Rattle.cob_runs.specs.Steps.{step, step_in}
use Rattle.cob_runs.specs.Effects.{act_at}
use Rattle.cob_runs.specs.Runs.{Contents}
use Rattle.cob_graph_laws.specs.Ways.{next_statement}
use Rattle.cob_interp.specs.declared.ends.Ended.{Ended}
use Rattle.cob_interp.specs.declared.ends.RunEnd.{RunEnd}
use Rattle.cob_interp.specs.declared.ends.RunEnd.TheVariants as end
use Rattle.cob_interp.specs.Ends.{cut_by, IsFree, state_after, AreFree, IsEnd}
use Rattle.cob_interp.specs.OneEnd.{OneEnd}

-- ---- the end that a state tells behind so many steps

abbrev size_in : World → ℕ → ℕ
size_in w file = option_map_or (λ f. length (bytes_in f)) (slice_get w.files file) 0

abbrev act_end : World → Act → Result Ended RunEnd
act_end w (read f into at_end fine) = Err (end.Ragged f (size_in w f))
act_end w _ = Err end.Memory

module _ (p : Program) (contents : Contents) (budget : ℕ) where
  abbrev going_end : ℕ → State → Result Ended RunEnd
  going_end n s = if n == budget then Err (end.StepsSpent budget)
      else option_map_or (act_end s.world) (act_at p (next_statement p s.control)) (Err end.Memory)

  abbrev end_in : Outcome → ℕ → State → Result Ended RunEnd
  end_in Going n s = going_end n s
  end_in outcome.Ended n s = Ok (record { steps = n })
  end_in (IoStop status statement) n s = Err (end.IoStop status statement)
  end_in (Fault kind statement) n s = Err (end.Fault kind statement n)

  abbrev end_at : ℕ → Result Ended RunEnd
  end_at n = end_in (state_after p contents n).outcome n (state_after p contents n)

  -- ---- one place

  -- a run that goes on behind a step went on before it
  went_on : (o : Outcome) (s : State) → s.outcome ≡ o → (step_in p None o s).outcome ≡ Going → o ≡ Going
  went_on Going s e g = refl
  went_on outcome.Ended s e g = sym e ∙ g
  went_on (IoStop status statement) s e g = sym e ∙ g
  went_on (Fault kind statement) s e g = sym e ∙ g

  earlier : (n m : ℕ) → n ≤ m → (state_after p contents m).outcome ≡ Going → (state_after p contents n).outcome ≡ Going
  earlier n zero l e =
      let f : 0 ≡ n = omega (arith, l) in subst (λ (i : ℕ). (state_after p contents i).outcome ≡ Going) f e
  earlier n (suc m) l e = by (λ k. earlier n m k (let s = state_after p contents m in went_on s.outcome s refl e))
      (cases_order n (suc m))
    where
      by : (n ≤ m → (state_after p contents n).outcome ≡ Going) → (n ≡ suc m) ⊎ ((n < suc m) ⊎ (suc m < n)) →
          (state_after p contents n).outcome ≡ Going
      by before (inl f) = subst (λ (i : ℕ). (state_after p contents i).outcome ≡ Going) (sym f) e
      by before (inr (inl k)) = before (omega (arith, k))
      by before (inr (inr k)) = absurd (omega (arith, l, k))

  -- ---- where an end stands

  -- the run is over, or goes on and is at its budget or not free
  pub record Stands (n : ℕ) : Type 0 where
    pub within : n ≤ budget
    pub before : (m : ℕ) → m < n → (state_after p contents m).outcome ≡ Going
    pub free : AreFree p contents n
    pub stops : (state_after p contents n).outcome ≡ Going → IsFree p (state_after p contents n) → n ≡ budget

  cut_unfree : (b : Bool) → b ≡ true → b ≡ false → ⊥
  cut_unfree b e f = false≢true (sym f ∙ e)

  pub stands : (a : Result Ended RunEnd) (n : ℕ) → IsEnd p contents budget a n → Stands n
  stands (Ok e) n x = let y = x.1 in record {
    within = y.within;
    before = y.before;
    free = y.free;
    stops = λ g f. absurd
        (cc);
  }
  stands (Err (end.IoStop status statement)) n y = record {
    within = y.within;
    before = y.before;
    free = y.free;
    stops = λ g f. absurd (cc);
  }
  stands (Err (end.Fault kind statement step)) n x = let y = x.1 in
      record { within = y.within; before = y.before; free = y.free; stops = λ g f. absurd (cc) }
  stands (Err (end.StepsSpent count)) n x =
      let e = x.1.0 in record {
        within = omega (arith, e);
        before = λ m l. earlier m budget (omega (arith, l, e)) x.1.1.outcome;
        free = subst (λ (i : ℕ). AreFree p contents i) (sym e) x.1.1.free;
        stops = λ g f. e;
      }
  stands (Err (end.Ragged file count)) n y =
      let l = y.within in record {
        within = omega (arith, l);
        before = λ m k. earlier m n (omega (arith, k)) y.outcome;
        free = y.free;
        stops = λ g f. absurd (cut_unfree _ y.stops.cut (f file));
      }
  stands (Err end.ReadFault) n y = absurd y
  stands (Err end.WriteFault) n y = absurd y
  stands (Err end.Memory) n y = absurd y

  not_earlier : (n m : ℕ) → Stands n → Stands m → n < m → ⊥
  not_earlier n m x y l =
      let e = x.stops (y.before n l) (y.free n l) in
      let w = y.within in
      absurd (omega (arith, e, w, l))

  same_place : (n m : ℕ) → Stands n → Stands m → n ≡ m
  same_place n m x y = by (cases_order n m)
    where
      by : (n ≡ m) ⊎ ((n < m) ⊎ (m < n)) → n ≡ m
      by (inl e) = e
      by (inr (inl l)) = absurd (not_earlier n m x y l)
      by (inr (inr l)) = absurd (not_earlier m n y x l)

  -- ---- what an end is

  is_over : (o ending : Outcome) (n : ℕ) (s : State) → o ≡ ending → end_in ending n s ≡ end_in o n s
  is_over o ending n s e = ap (λ x. end_in x n s) (sym e)

  spent : (n : ℕ) (s : State) → n ≡ budget → Err (end.StepsSpent budget) ≡ going_end n s
  spent n s e = sym (ap (λ b. if b then Err (end.StepsSpent budget)
      else option_map_or (act_end s.world) (act_at p (next_statement p s.control)) (Err end.Memory))
      (eq-eqb n budget e))

  stopped : (n : ℕ) (s : State) (r : Result Ended RunEnd) → n < budget →
      option_map_or (act_end s.world) (act_at p (next_statement p s.control)) (Err end.Memory) ≡ r → r ≡ going_end n s
  stopped n s r l e = by (eqb_tells n budget)
    where
      by : ((n == budget ≡ true) × (n ≡ budget)) ⊎ ((n == budget ≡ false) × (n ≢ budget)) → r ≡ going_end n s
      by (inl x) = let f = x.1 in absurd (omega (arith, f, l))
      by (inr x) = sym e ∙ sym (ap (λ b. if b then Err (end.StepsSpent budget)
          else option_map_or (act_end s.world) (act_at p (next_statement p s.control)) (Err end.Memory)) x.0)

  both : (a b : Bool) → (a && b) ≡ true → a ≡ true
  both true b e = refl
  both false b e = e

  cut_act : (w : World) (file : ℕ) (a : Act) → cut_by p a w file ≡ true → act_end w a ≡ Err (end.Ragged file
      (size_in w file))
  cut_act w file (read f into at_end fine) e = ap (λ (i : ℕ). Err (end.Ragged i (size_in w i)))
      (eqb-true f file (both _ _ e))
  cut_act w file (move x places) e = absurd (false≢true e)
  cut_act w file (arithmetic s targets remainder size fine) e = absurd (false≢true e)
  cut_act w file (if_ t held other) e = absurd (false≢true e)
  cut_act w file (evaluate ws other) e = absurd (false≢true e)
  cut_act w file (perform body turns) e = absurd (false≢true e)
  cut_act w file (go para) e = absurd (false≢true e)
  cut_act w file nothing e = absurd (false≢true e)
  cut_act w file stop e = absurd (false≢true e)
  cut_act w file (open_files os) e = absurd (false≢true e)
  cut_act w file (close_files fs) e = absurd (false≢true e)
  cut_act w file (write r from) e = absurd (false≢true e)
  cut_act w file (show xs) e = absurd (false≢true e)

  cut_at : (w : World) (file : ℕ) (a : Option Act) → option_map_or (λ a. cut_by p a w file) a false ≡ true →
      option_map_or (act_end w) a (Err end.Memory) ≡ Err (end.Ragged file (size_in w file))
  cut_at w file None e = absurd (false≢true e)
  cut_at w file (Some a) e = cut_act w file a e

  is_end : (a : Result Ended RunEnd) (n : ℕ) → IsEnd p contents budget a n → a ≡ end_at n
  is_end (Ok e) n x =
      ap (λ (i : ℕ). Ok (record { steps = i })) x.0 ∙ is_over _ outcome.Ended n (state_after p contents n) x.1.outcome
  is_end (Err (end.IoStop status statement)) n y = is_over _ (IoStop status statement) n (state_after p contents n)
      y.outcome
  is_end (Err (end.Fault kind statement step)) n x =
      ap (λ (i : ℕ). Err (end.Fault kind statement i)) x.0
      ∙ is_over _ (Fault kind statement) n (state_after p contents n) x.1.outcome
  is_end (Err (end.StepsSpent count)) n x =
      ap (λ (i : ℕ). Err (end.StepsSpent i)) x.0 ∙ spent n (state_after p contents n) x.1.0
      ∙ is_over _ Going n (state_after p contents n)
      (subst (λ (i : ℕ). (state_after p contents i).outcome ≡ Going) (sym x.1.0) x.1.1.outcome)
  is_end (Err (end.Ragged file count)) n y =
      let s = state_after p contents n in
      ap (λ (i : ℕ). Err (end.Ragged file i)) y.stops.counted
      ∙ stopped n s _ y.within (cut_at s.world file (act_at p (next_statement p s.control)) y.stops.cut)
      ∙ is_over _ Going n s y.outcome
  is_end (Err end.ReadFault) n y = absurd y
  is_end (Err end.WriteFault) n y = absurd y
  is_end (Err end.Memory) n y = absurd y

pub one_end_holds : OneEnd
one_end_holds p contents budget a b n m x y =
    is_end p contents budget a n x
    ∙ ap (end_at p contents budget) (same_place p contents budget n m (stands p contents budget a n x)
    (stands p contents budget b m y))
    ∙ sym (is_end p contents budget b m y)
