-- Which way is taken: from what a part of a statement comes to.
use Rattle.std.proofs.Common.{◌≡◌, ℕ, ◌==◌, ◌&&◌, true, false, not, List, [], ◌∷◌, refl, ap, ◌∙◌, arith, Some, None, Ok, Err}
use Rattle.std.specs.Prelude.{Contains}
use Rattle.std.specs.Option.{option_map_or}
use Rattle.cob_program.specs.Act.{Act, Program}
use Rattle.cob_runs.specs.declared.action.Action.{Action}
use Rattle.cob_runs.specs.declared.action.Action.TheVariants as action
use Rattle.cob_runs.specs.Acts.{is_fine}
use Rattle.cob_runs.specs.State.{World}
use Rattle.cob_runs.specs.Effects.{not_taken, taken_if, act_at, effect_of, effect, status, status_of, status_by, is_handled, handled_by, end_handled, called_bad}
use Rattle.cob_plan.specs.declared.node.Op.{Op}
use Rattle.cob_plan.specs.declared.node.Op.TheVariants as op
use Rattle.cob_plan.specs.declared.end.DoEnd.{DoEnd}
use Rattle.cob_plan.specs.declared.end.DoEnd.TheVariants as end
use Rattle.cob_plan.specs.declared.called.Taken.{Taken}
use Rattle.cob_plan.specs.Plan.{op_edges}
use Rattle.cob_plan.specs.Doing.{Does, EndsBy, IsTaking}
use Rattle.cob_plan.specs.Leading.{Leads}

-- ---- ways among a node's

pub only : {A : Type 0} (x : A) (xs : List A) → Contains (x ∷ xs) x
only x xs = (0, omega arith, refl)

pub second : {A : Type 0} (x y : A) (ys : List A) → Contains (x ∷ y ∷ ys) y
second x y ys = (1, omega arith, refl)

pub third : {A : Type 0} (x y z : A) (zs : List A) → Contains (x ∷ y ∷ z ∷ zs) z
third x y z zs = (2, omega arith, refl)

-- ---- one way

module _ (p : Program) (number : ℕ) (a : Act) (its : act_at p number ≡ Some a) (old : World) where
  effect_is : (x : Action) → effect p number None old x ≡ effect_of p number None old x a
  effect_is x = ap (λ found. option_map_or (effect_of p number None old x) found not_taken) its

  status_is : (x : Action) → status p number None old x ≡ status_of p number None old x a
  status_is x = ap (λ found. option_map_or (status_of p number None old x) found None) its

module _ (p : Program) (number : ℕ) (a : Act) (o : Op) (x : Action) (old now : World) (to : ℕ) (l : Leads p number a o x to) where
  pub goes : effect_of p number None old x a ≡ Ok (Some now) → Does p number o old now (Ok to)
  goes met = record {
    action = x;
    out = l.out;
    does = effect_is p number a l.its old x ∙ met;
    goes_on = l.handled;
  }

  pub fails : (e : DoEnd) → EndsBy (effect_of p number None old x a) old now e → Does p number o old now (Err e)
  fails (end.Fault kind) h = record {
    action = x;
    to = to;
    out = l.out;
    meets = effect_is p number a l.its old x ∙ h.0;
    others = h.1;
  }
  fails (end.Stop status_) h = absurd h
  fails end.Memory h = tt

-- ---- calls on files

-- the way of a status that is met
module _ (p : Program) (number k : ℕ) (a : Act) (o : Op) (old now : World) (to status_ : ℕ) (its : act_at p number ≡ Some a)
    (out : Contains (op_edges o) (action.Bad k, to)) (leads : called_bad p number None old k a ≡ Ok (Some now))
    (gives : status_by p number None old k a ≡ Some status_) where
  handled_is : is_handled p number (action.Bad k) ≡ handled_by p number k a
  handled_is = ap (λ found. option_map_or (handled_by p number k) found true) its

  pub goes_bad : handled_by p number k a ≡ true → Does p number o old now (Ok to)
  goes_bad handled = record {
    action = action.Bad k;
    out = out;
    does = effect_is p number a its old (action.Bad k) ∙ leads;
    goes_on = handled_is ∙ handled;
  }

  pub stops_bad : handled_by p number k a ≡ false → Does p number o old now (Err (end.Stop status_))
  stops_bad not_handled = record {
    action = action.Bad k;
    to = to;
    out = out;
    does = effect_is p number a its old (action.Bad k) ∙ leads;
    gives = status_is p number a its old (action.Bad k) ∙ gives;
    stops = handled_is ∙ not_handled;
  }

-- ---- READ

module _ (p : Program) (number : ℕ) (a : Act) (old now : World) (its : act_at p number ≡ Some a) (t : Taken)
    (h : IsTaking p number 0 old now a t) (found at_end bad : ℕ) where
  abbrev here : Op
  here = op.Read found at_end bad

  pub goes_found : is_fine t.status ≡ true → Does p number here old now (Ok found)
  goes_found fine = record {
    action = action.Take;
    out = only (action.Take, found) ((action.AtEnd, at_end) ∷ (action.Bad 0, bad) ∷ []);
    does = effect_is p number a its old action.Take ∙ h.found ∙ ap (λ b. taken_if b now) fine;
    goes_on = refl;
  }

  end_is : is_handled p number action.AtEnd ≡ end_handled p number a
  end_is = ap (λ x. option_map_or (end_handled p number) x true) its

  ends : t.status ≡ 10 → effect p number None old action.AtEnd ≡ Ok (Some now)
  ends ten = effect_is p number a its old action.AtEnd ∙ h.ended ∙ ap (λ n. taken_if (n == 10) now) ten

  pub goes_end : t.status ≡ 10 → t.end_handled ≡ true → Does p number here old now (Ok at_end)
  goes_end ten handled = record {
    action = action.AtEnd;
    out = second (action.Take, found) (action.AtEnd, at_end) ((action.Bad 0, bad) ∷ []);
    does = ends ten;
    goes_on = end_is ∙ h.end ∙ handled;
  }

  pub stops_end : t.status ≡ 10 → t.end_handled ≡ false → Does p number here old now (Err (end.Stop 10))
  stops_end ten not_handled = record {
    action = action.AtEnd;
    to = at_end;
    out = second (action.Take, found) (action.AtEnd, at_end) ((action.Bad 0, bad) ∷ []);
    does = ends ten;
    gives = status_is p number a its old action.AtEnd ∙ h.gives ∙ ap (λ n. Some n) ten;
    stops = end_is ∙ h.end ∙ not_handled;
  }

  module _ (not_fine : is_fine t.status ≡ false) (not_ten : (t.status == 10) ≡ false) where
    leads_bad : called_bad p number None old 0 a ≡ Ok (Some now)
    leads_bad = h.bad ∙ ap (λ b. taken_if (not b && not (t.status == 10)) now) not_fine
        ∙ ap (λ b. taken_if (not b) now) not_ten

    out_bad : Contains (op_edges here) (action.Bad 0, bad)
    out_bad = third (action.Take, found) (action.AtEnd, at_end) (action.Bad 0, bad) []

    pub taken_bad : t.handled ≡ true → Does p number here old now (Ok bad)
    taken_bad handled =
        goes_bad p number 0 a here old now bad t.status its out_bad leads_bad h.gives (h.file ∙ handled)

    pub taken_stops : t.handled ≡ false → Does p number here old now (Err (end.Stop t.status))
    taken_stops not_handled =
        stops_bad p number 0 a here old now bad t.status its out_bad leads_bad h.gives (h.file ∙ not_handled)
