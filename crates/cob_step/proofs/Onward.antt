-- What comes of a statement's part, and of what is done behind it.
use Rattle.std.proofs.Common.{◌≡◌, ap, ◌∙◌, sym, refl, List, ◌∷◌, Result, Ok, Err}
use Rattle.std.specs.Result.{OnOk}
use Rattle.cob_tree.specs.declared.fault.Kind.{Kind}
use Rattle.cob_store.specs.declared.end.MoveEnd.{MoveEnd}
use Rattle.cob_store.specs.declared.end.MoveEnd.TheVariants as end
use Rattle.cob_runs.specs.declared.outcome.Outcome.{Outcome}
use Rattle.cob_runs.specs.declared.outcome.Outcome.TheVariants.{Going, Fault}
use Rattle.cob_runs.specs.Faults.{◌>>=◌}
use Rattle.cob_program.specs.Act.{Program}
use Rattle.cob_runs.specs.Files.{Choice}
use Rattle.cob_runs.specs.State.{World, Doing, State, state, going}
use Rattle.cob_runs.specs.Steps.{front_done, number_of, faulty_or, settled_state, step_on, step_in, step}
use Rattle.cob_world.specs.Becoming.{Becomes, Leaves}

-- what is done behind a part that went well, and behind one that met a fault
pub behind : {A B : Type 0} (r : Result A Kind) (a : A) (next : A → Result B Kind) → r ≡ Ok a → (r >>= next) ≡ next a
behind r a next e = ap (λ x. x >>= next) e

pub broken : {A B : Type 0} (r : Result A Kind) (kind : Kind) (next : A → Result B Kind) → r ≡ Err kind →
    (r >>= next) ≡ Err kind
broken r kind next e = ap (λ x. x >>= next) e

-- a run that goes on
pub goes : (w : World) (ds es : List Doing) (o : Outcome) → ds ≡ es → o ≡ Going → going w ds ≡ state w es o
goes w ds es o e g = ap (λ xs. state w xs Going) e ∙ ap (λ x. state w es x) (sym g)

-- a part that changes nothing but the world
pub stays : {A : Type 0} (r : Result World Kind) (x : Result A MoveEnd) (w v : World) (ds : List Doing) (o : Outcome) →
    o ≡ Going → Becomes r x w v → Becomes (r >>= λ u. Ok (going u ds)) x (state w ds o) (state v ds o)
stays r (Ok a) w v ds o g e = behind r v (λ u. Ok (going u ds)) e ∙ ap Ok (goes v ds ds o refl g)
stays r (Err (end.Fault kind)) w v ds o g (e, s) = (broken r kind (λ u. Ok (going u ds)) e, ap (λ u. state u ds o) s)
stays r (Err end.Memory) w v ds o g h = tt

-- the same fault behind it
pub leaves : {A B W V : Type 0} (r : Result A Kind) (next : A → Result B Kind) (x : MoveEnd) (w v : W) (s t : V) →
    (v ≡ w → t ≡ s) → Leaves r x w v → Leaves (r >>= next) x s t
leaves r next (end.Fault kind) w v s t same (e, is) = (broken r kind next e, same is)
leaves r next end.Memory w v s t same h = tt

-- where there is a result, one state is another
pub onto : {T E : Type 0} (r : Result T E) (t a b : State) → a ≡ b → OnOk r (t ≡ a) → OnOk r (t ≡ b)
onto (Ok x) t a b e h = h ∙ e
onto (Err x) t a b e h = tt

-- ---- a step

module _ (p : Program) (c : Choice) (s : State) (d : Doing) (ds : List Doing) (front : s.control ≡ d ∷ ds) where
  front_is : step_on p c s s.control ≡ faulty_or p c s (number_of d) (front_done p c d s.world ds)
  front_is = ap (λ es. step_on p c s es) front

  pub step_done : (next : State) → front_done p c d s.world ds ≡ Ok next →
      step_on p c s s.control ≡ settled_state p c next
  step_done next e = front_is ∙ ap (λ r. faulty_or p c s (number_of d) r) e

  pub step_broken : (kind : Kind) → front_done p c d s.world ds ≡ Err kind →
      step_on p c s s.control ≡ state s.world (d ∷ ds) (Fault kind (number_of d))
  step_broken kind e = front_is ∙ ap (λ r. faulty_or p c s (number_of d) r) e
      ∙ ap (λ es. state s.world es (Fault kind (number_of d))) front

pub step_is : (p : Program) (c : Choice) (s : State) → s.outcome ≡ Going → step_on p c s s.control ≡ step p c s
step_is p c s going_ = ap (λ o. step_in p c o s) (sym going_)
