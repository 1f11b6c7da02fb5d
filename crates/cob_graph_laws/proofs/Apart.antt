-- Actions of which at most one is taken, whatever the statement and the world.
use Rattle.std.proofs.Common.{◌≡◌, ℕ, Bool, true, false, not, ◌&&◌, ◌==◌, Option, Some, None, Result, Ok, Err, eqb-true, refl, sym, arith}
use Rattle.std.specs.Prelude.{slice_get}
use Rattle.std.specs.Option.{option_map_or}
use Rattle.cob_tree.specs.declared.fault.Kind.{Kind}
use Rattle.cob_program.specs.declared.act.Opening.{Opening}
use Rattle.cob_program.specs.Logic.{Test}
use Rattle.cob_program.specs.Act.{times, Act, arith as arith_, perform, open_files, close_files, read, write, Program}
use Rattle.cob_runs.specs.declared.action.Action.{Action}
use Rattle.cob_runs.specs.declared.action.Action.TheVariants as action
use Rattle.cob_runs.specs.Faults.{◌>>=◌}
use Rattle.cob_runs.specs.Deciding.{test_holds}
use Rattle.cob_runs.specs.Files.{Choice}
use Rattle.cob_runs.specs.State.{World}
use Rattle.cob_runs.specs.Acts.{compute, is_fine, count_of, open_one, close_one, take_one, write_one, file_from}
use Rattle.cob_runs.specs.Steps.{is_given, is_left}
use Rattle.cob_runs.specs.Effects.{act_at, tests_in_act, Effect, taken_if, not_taken, effect_of, effect, edge_computed, edge_decided, edge_tested, by_status, edge_opened, edge_closed, edge_wrote, file_call, called_bad, read_with}

-- not both are taken, nor is one where the other meets a fault, and two faults are the same
abbrev pub Exclusive : Effect → Effect → Type 0
Exclusive (Ok None) s = Unit {0}
Exclusive (Ok (Some v)) (Ok None) = Unit {0}
Exclusive (Ok (Some v)) (Ok (Some u)) = ⊥
Exclusive (Ok (Some v)) (Err kind) = ⊥
Exclusive (Err kind) (Ok None) = Unit {0}
Exclusive (Err kind) (Ok (Some u)) = ⊥
Exclusive (Err kind) (Err other) = kind ≡ other

abbrev pub Rivals : Action → Action → Type 0
Rivals a b = (p : Program) (number : ℕ) (c : Choice) (w : World) →
    Exclusive (effect p number c w a) (effect p number c w b)

-- ---- effects

pub turned : (r s : Effect) → Exclusive r s → Exclusive s r
turned (Ok None) (Ok None) h = tt
turned (Ok None) (Ok (Some u)) h = tt
turned (Ok None) (Err other) h = tt
turned (Ok (Some v)) (Ok None) h = tt
turned (Ok (Some v)) (Ok (Some u)) h = h
turned (Ok (Some v)) (Err kind) h = h
turned (Err kind) (Ok None) h = tt
turned (Err kind) (Ok (Some u)) h = h
turned (Err kind) (Err other) h = sym h

beside_none : (r : Effect) → Exclusive r not_taken
beside_none (Ok None) = tt
beside_none (Ok (Some v)) = tt
beside_none (Err kind) = tt

unless_both : (b c : Bool) (w v : World) → (b ≡ true → c ≡ true → ⊥) → Exclusive (taken_if b w) (taken_if c v)
unless_both true true w v h = h refl refl
unless_both true false w v h = tt
unless_both false c w v h = tt

one_of_two : (b : Bool) (w : World) → Exclusive (taken_if b w) (taken_if (not b) w)
one_of_two true w = tt
one_of_two false w = tt

of_answer : (r : Result Bool Kind) (w : World) →
    Exclusive (r >>= λ b. taken_if b w) (r >>= λ b. taken_if (not b) w)
of_answer (Ok b) w = one_of_two b w
of_answer (Err kind) w = refl

of_computing : (r : Result (World × Bool) Kind) →
    Exclusive (r >>= λ x. taken_if (not x.1) x.0) (r >>= λ x. taken_if x.1 x.0)
of_computing (Ok x) = turned (taken_if x.1 x.0) (taken_if (not x.1) x.0) (one_of_two x.1 x.0)
of_computing (Err kind) = refl

-- ---- statuses

not_ten : (n : ℕ) → (n == 0) ≡ true → (n == 10) ≡ true → ⊥
not_ten n e f = omega (arith, eqb-true n 0 e, eqb-true n 10 f)

not_other : (fine ten : Bool) → fine ≡ true → (not fine && not ten) ≡ true → ⊥
not_other true ten e f = cc
not_other false ten e f = cc

not_else : (fine ten : Bool) → ten ≡ true → (not fine && not ten) ≡ true → ⊥
not_else true ten e f = cc
not_else false true e f = cc
not_else false false e f = cc

module _ (p : Program) (number : ℕ) (c : Choice) (w : World) where
  -- ---- the parts of a statement

  of_test : (t : Option Test) → Exclusive (edge_decided p number c w true t) (edge_decided p number c w false t)
  of_test None = tt
  of_test (Some t) = of_answer (test_holds p.layout w.storage t) w

  of_tested : (k : ℕ) (a : Act) → Exclusive (edge_tested p number c w true k a) (edge_tested p number c w false k a)
  of_tested k (perform body (times x)) = one_of_two (is_left (count_of number w)) w
  of_tested k a = of_test (slice_get (tests_in_act a) k)

  of_computed : (a : Act) → Exclusive (edge_computed p number c w false a) (edge_computed p number c w true a)
  of_computed (arith_ s targets remainder size fine) =
      of_computing (compute p.layout (is_given size) s targets remainder w)
  of_computed a = beside_none (edge_computed p number c w false a)

  of_status : (x : World × ℕ) → Exclusive (by_status p number c w true x) (by_status p number c w false x)
  of_status x = one_of_two (is_fine x.1) x.0

  of_opened : (o : Option Opening) → Exclusive (edge_opened p number c w true o) (edge_opened p number c w false o)
  of_opened None = tt
  of_opened (Some o) = of_status (open_one p.layout o w)

  of_closed : (f : Option ℕ) → Exclusive (edge_closed p number c w true f) (edge_closed p number c w false f)
  of_closed None = tt
  of_closed (Some f) = of_status (close_one p.layout f w)

  of_wrote : (r : ℕ) (f : Option ℕ) → Exclusive (edge_wrote p number c w true r f) (edge_wrote p number c w false r f)
  of_wrote r None = tt
  of_wrote r (Some f) = of_status (write_one p.layout c f r w)

  of_call : (k : ℕ) (a : Act) → Exclusive (file_call p number c w true k a) (called_bad p number c w k a)
  of_call k (open_files os) = of_opened (slice_get os k)
  of_call k (close_files fs) = of_closed (slice_get fs k)
  of_call k (write r from) = of_wrote r (file_from p.layout 0 p.layout.files r)
  of_call k a = tt

  of_read : (a : Act) → Exclusive (read_with p number c w 0 a) (read_with p number c w 10 a)
  of_read (read f into end fine) =
      let x = take_one p.layout c f w in unless_both (x.1 == 0) (x.1 == 10) x.0 x.0 (not_ten x.1)
  of_read a = tt

  of_read_bad : (a : Act) → Exclusive (read_with p number c w 0 a) (called_bad p number c w 0 a)
  of_read_bad (read f into end fine) =
      let x = take_one p.layout c f w in
      unless_both (x.1 == 0) (not (is_fine x.1) && not (x.1 == 10)) x.0 x.0 (not_other (x.1 == 0) (x.1 == 10))
  of_read_bad a = tt

  of_end_bad : (a : Act) → Exclusive (read_with p number c w 10 a) (called_bad p number c w 0 a)
  of_end_bad (read f into end fine) =
      let x = take_one p.layout c f w in
      unless_both (x.1 == 10) (not (is_fine x.1) && not (x.1 == 10)) x.0 x.0 (not_else (x.1 == 0) (x.1 == 10))
  of_end_bad a = tt

  -- the statement with the number, where there is one
  in_act : (a b : Action) (o : Option Act) →
      ((act : Act) → Exclusive (effect_of p number c w a act) (effect_of p number c w b act)) →
      Exclusive (option_map_or (effect_of p number c w a) o not_taken)
      (option_map_or (effect_of p number c w b) o not_taken)
  in_act a b None h = tt
  in_act a b (Some act) h = h act

-- ---- rivals

pub true_false : (k : ℕ) → Rivals (action.True k) (action.False k)
true_false k p number c w =
    in_act p number c w (action.True k) (action.False k) (act_at p number) (of_tested p number c w k)

pub done_size : Rivals action.Done action.Size
done_size p number c w = in_act p number c w action.Done action.Size (act_at p number) (of_computed p number c w)

pub open_bad : (k : ℕ) → Rivals (action.Open k) (action.Bad k)
open_bad k p number c w =
    in_act p number c w (action.Open k) (action.Bad k) (act_at p number) (of_call p number c w k)

pub close_bad : (k : ℕ) → Rivals (action.Close k) (action.Bad k)
close_bad k p number c w =
    in_act p number c w (action.Close k) (action.Bad k) (act_at p number) (of_call p number c w k)

pub write_bad : Rivals action.Write (action.Bad 0)
write_bad p number c w = in_act p number c w action.Write (action.Bad 0) (act_at p number) (of_call p number c w 0)

pub take_end : Rivals action.Take action.AtEnd
take_end p number c w = in_act p number c w action.Take action.AtEnd (act_at p number) (of_read p number c w)

pub take_bad : Rivals action.Take (action.Bad 0)
take_bad p number c w = in_act p number c w action.Take (action.Bad 0) (act_at p number) (of_read_bad p number c w)

pub end_bad : Rivals action.AtEnd (action.Bad 0)
end_bad p number c w = in_act p number c w action.AtEnd (action.Bad 0) (act_at p number) (of_end_bad p number c w)

pub turned_rivals : (a b : Action) → Rivals a b → Rivals b a
turned_rivals a b h p number c w = turned (effect p number c w a) (effect p number c w b) (h p number c w)
