-- A run on told files has an end within a budget.
use Rattle.std.proofs.Common.{◌≡◌, ◌<◌, ◌≤◌, ◌⊎◌, ℕ, zero, suc, ◌+◌, Bool, true, false, Option, Some, None, Ok, Err, inl, inr, eq-eqb, refl, ap, subst, arith}
use Rattle.std.specs.Prelude.{◌==◌, ◌&&◌, slice_get}
use Rattle.std.specs.Option.{option_map_or}
use Rattle.std.proofs.lemmas.Bool.{cases_lt}
use Rattle.cob_program.specs.Act.{Act, read, Program}
use Rattle.cob_runs.specs.declared.outcome.Outcome.{Outcome}
use Rattle.cob_runs.specs.declared.outcome.Outcome.TheVariants.{Going, Fault, IoStop}
use Rattle.cob_runs.specs.declared.outcome.Outcome.TheVariants as outcome
use Rattle.cob_runs.specs.State.{World, State}
use Rattle.cob_runs.specs.Effects.{act_at}
use Rattle.cob_runs.specs.Runs.{Contents}
use Rattle.cob_graph_laws.specs.Ways.{next_statement}
use Rattle.cob_interp.specs.declared.ends.RunEnd.TheVariants as end
use Rattle.cob_interp.specs.Ends.{cut_file, cut_by, meets_cut, IsFree, state_after, AreFree}
use Rattle.cob_interp.specs.OneEnd.{Ends, SomeEnd}

and_false : (b : Bool) → b && false ≡ false
and_false true = refl
and_false false = refl

module _ (p : Program) where
  -- some file ends within a record, or none does
  abbrev Cuts : (ℕ → Bool) → Type 0
  Cuts cut = ((f : ℕ) × (cut f ≡ true)) ⊎ ((f : ℕ) → cut f ≡ false)

  by_file : (f : ℕ) (b : Bool) → Cuts (λ g. f == g && b)
  by_file f true = inl (f, ap (λ b. b && true) (eq-eqb f f refl))
  by_file f false = inr (λ g. and_false (f == g))

  by_act : (a : Act) (w : World) → Cuts (cut_by p a w)
  by_act (read f into at_end fine) w = by_file f (cut_file (slice_get p.layout.files f) (slice_get w.files f))
  by_act _ w = inr (λ f. refl)

  by_found : (r : Option Act) (w : World) → Cuts (λ f. option_map_or (λ a. cut_by p a w f) r false)
  by_found None w = inr (λ f. refl)
  by_found (Some a) w = by_act a w

  next_cut : (s : State) → Cuts (meets_cut p (next_statement p s.control) s.world)
  next_cut s = by_found (act_at p (next_statement p s.control)) s.world

  -- what holds before a place and there holds before the next
  one_more : (P : ℕ → Type 0) (n : ℕ) → ((m : ℕ) → m < n → P m) → P n → (m : ℕ) → m < suc n → P m
  one_more P n before here m l = by_order (cases_lt m n)
    where
      by_order : (m < n) ⊎ (n ≤ m) → P m
      by_order (inl k) = before m k
      by_order (inr k) = let same : n ≡ m = omega (arith, k, l) in subst P same here

  module _ (contents : Contents) (budget : ℕ) where
    abbrev at : ℕ → State
    at n = state_after p contents n

    abbrev GoesOn : ℕ → Type 0
    GoesOn n = (at n).outcome ≡ Going

    abbrev Before : ℕ → Type 0
    Before n = (m : ℕ) → m < n → GoesOn m

    -- a run that is over has its end, another goes on
    unless_over : (n : ℕ) → n ≤ budget → Before n → AreFree p contents n → (o : Outcome) → (at n).outcome ≡ o →
        (GoesOn n → Ends p contents budget) → Ends p contents budget
    unless_over n within before free Going is go_on = go_on is
    unless_over n within before free outcome.Ended is go_on = record {
      result = Ok (record { steps = n });
      steps = n;
      is = (refl, record { within = within; outcome = is; before = before; free = free });
    }
    unless_over n within before free (IoStop status statement) is go_on = record {
      result = Err (end.IoStop status statement);
      steps = n;
      is = record { within = within; outcome = is; before = before; free = free };
    }
    unless_over n within before free (Fault kind statement) is go_on = record {
      result = Err (end.Fault kind statement n);
      steps = n;
      is = (refl, record { within = within; outcome = is; before = before; free = free });
    }

    spent : (n : ℕ) → n ≡ budget → AreFree p contents n → GoesOn n → Ends p contents budget
    spent n all free is = record {
      result = Err (end.StepsSpent budget);
      steps = n;
      is = (refl, (all, record { outcome = subst GoesOn all is; free = subst (AreFree p contents) all free }));
    }

    stopped : (n f : ℕ) → n < budget → AreFree p contents n → GoesOn n →
        meets_cut p (next_statement p (at n).control) (at n).world f ≡ true → Ends p contents budget
    stopped n f within free is cut = record {
      result = Err (end.Ragged f _);
      steps = n;
      is = record { within = within; outcome = is; free = free; stops = record { cut = cut; counted = refl } };
    }

    -- so many steps of the budget are left
    search_from : (left n : ℕ) → n + left ≡ budget → Before n → AreFree p contents n → Ends p contents budget
    search_from zero n all before free =
        unless_over n (omega (arith, all)) before free (at n).outcome refl (λ is. spent n (omega (arith, all)) free is)
    search_from (suc left) n all before free =
        unless_over n (omega (arith, all)) before free (at n).outcome refl (λ is. elim (next_cut (at n)) [
          | inl cut ↦ stopped n cut.0 (omega (arith, all)) free is cut.1
          | inr next ↦ search_from left (suc n) (omega (arith, all)) (one_more GoesOn n before is)
              (one_more (λ m. IsFree p (at m)) n free next)
        ])

pub some_end_holds : SomeEnd
some_end_holds p contents budget =
    search_from p contents budget budget 0 (omega arith) (λ m l. absurd (omega (arith, l)))
    (λ m l. absurd (omega (arith, l)))
