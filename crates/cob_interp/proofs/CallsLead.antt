-- What comes of an edge that calls a file, behind which the outside's files may be others.
use Rattle.std.proofs.Common.{◌≡◌, ℕ, zero, suc, Bool, true, false, not, List, [], ◌∷◌, ◌⊎◌, inl, inr, Some, None, Err, refl, sym, ap, subst, ◌∙◌, arith}
use Rattle.std.specs.Prelude.{Contains, slice_get}
use Rattle.batch_io.specs.FilesState.{Contents}
use Rattle.cob_tree.specs.declared.fault.Kind.{Kind}
use Rattle.cob_program.specs.declared.act.Opening.{Opening}
use Rattle.cob_program.specs.Act.{Act, open_files, close_files, Program}
use Rattle.cob_runs.specs.declared.action.Action.{Action}
use Rattle.cob_runs.specs.declared.action.Action.TheVariants as action
use Rattle.cob_runs.specs.State.{World}
use Rattle.cob_runs.specs.Acts.{is_fine, open_one, close_one}
use Rattle.cob_runs.specs.Effects.{effect, effect_of, status, status_of, status_if, act_at, by_status, taken_if, edge_opened, edge_closed}
use Rattle.cob_plan.specs.declared.node.Op.TheVariants as op
use Rattle.cob_plan.specs.Plan.{op_edges}
use Rattle.cob_interp.specs.Told.{seen, AgreeBut, KeepsNames}
use Rattle.cob_interp.proofs.SeenFiles.{contains_at}
use Rattle.cob_interp.proofs.Calls.{CallFollows}
use Rattle.cob_interp.proofs.Following.{Follows, by_status_follows}
use Rattle.cob_interp.proofs.Onward.{effect_by_act, status_by_act}

-- an edge of two
pub one_of_two : (x y z : Action × ℕ) → Contains (x ∷ y ∷ []) z → (z ≡ x) ⊎ (z ≡ y)
one_of_two x y z (zero, within, at) = inl (sym at)
one_of_two x y z (suc zero, within, at) = inr (sym at)
one_of_two x y z (suc (suc k), within, at) = absurd (omega arith)

-- names that are no paths hold what they held before the run
pub others_keep : (first told now : Contents) (paths : List (List ℕ)) (place : ℕ) (path : List ℕ)
    → slice_get paths place ≡ Some path
    → AgreeBut told now path → KeepsNames first told paths → KeepsNames first now paths
others_keep first told now paths place path at but keeps name none =
    but name (λ e. none (subst (Contains paths) (sym e) (contains_at paths place path at))) ∙ keeps name none

pub never_faults : (b : Bool) (v : World) (kind : Kind) → taken_if b v ≡ Err kind → ⊥
never_faults true v kind e = cc
never_faults false v kind e = cc

pub by_status_sound : (p : Program) (number : ℕ) (w : World) (fine : Bool) (x : World × ℕ) (kind : Kind)
    → by_status p number None w fine x ≡ Err kind → ⊥
by_status_sound p number w true x kind e = never_faults (is_fine x.1) x.0 kind e
by_status_sound p number w false x kind e = never_faults (not (is_fine x.1)) x.0 kind e

module _ (p : Program) (number : ℕ) (told now : Contents) (paths : List (List ℕ)) (text : List ℕ) (w : World) where
  -- what is asked of an edge's effect
  pub record EdgeFollows (a : Action) : Type 0 where
    pub effect_ : Follows now paths text (effect p number None w a) (effect p number None (seen told paths text w) a)
    pub status_ : status p number None (seen told paths text w) a ≡ status p number None w a
    pub sound : (kind : Kind) → effect p number None w a ≡ Err kind → ⊥

  module _ (kept seen_ : World × ℕ) (follows : CallFollows now paths text kept seen_) (b : Act)
      (its : act_at p number ≡ Some b) where
    -- an edge whose effect is by the call's status
    by_call : (a : Action) (fine : Bool)
        → effect_of p number None w a b ≡ by_status p number None w fine kept
        → effect_of p number None (seen told paths text w) a b ≡ by_status p number None (seen told paths text w) fine
        seen_
        → status_of p number None (seen told paths text w) a b ≡ status_of p number None w a b
        → EdgeFollows a
    by_call a fine e f same = record {
      effect_ = rw (effect_by_act p number w a b its, effect_by_act p number (seen told paths text w) a b its, e, f)
          (by_status_follows now paths text p number w (seen told paths text w) kept seen_ follows fine);
      status_ = status_by_act p number (seen told paths text w) a b its ∙ same ∙ sym (status_by_act p number w a b its);
      sound = λ kind f_. by_status_sound p number w fine kept kind (sym e ∙ sym (effect_by_act p number w a b its)
          ∙ f_);
    }

  module _ (k : ℕ) (fs : List ℕ) (file : ℕ) (its : act_at p number ≡ Some (close_files fs))
      (at : slice_get fs k ≡ Some file)
      (follows : CallFollows now paths text (close_one p.layout file w)
      (close_one p.layout file (seen told paths text w))) where
    close_effect : (v : World) (fine : Bool)
        → edge_closed p number None v fine (slice_get fs k) ≡ by_status p number None v fine (close_one p.layout file v)
    close_effect v fine = rw at refl

    close_status : (v : World)
        → status_if p number None v (slice_get fs k) (λ f. close_one p.layout f v) ≡ Some (close_one p.layout file v).1
    close_status v = rw at refl

    pub close_edge : (a : Action) (m fine bad : ℕ) → Contains (op_edges (op.Close k fine bad)) (a, m) → EdgeFollows a
    close_edge a m fine bad c = elim (one_of_two _ _ _ c) [
      | inl e ↦ subst EdgeFollows (sym (ap (λ (x : Action × ℕ). x.0) e))
          (by_call _ _ follows (close_files fs) its (action.Close k) true (close_effect w true)
          (close_effect (seen told paths text w) true) refl)
      | inr e ↦ subst EdgeFollows (sym (ap (λ (x : Action × ℕ). x.0) e))
          (by_call _ _ follows (close_files fs) its (action.Bad k) false (close_effect w false)
          (close_effect (seen told paths text w) false)
          (close_status (seen told paths text w) ∙ ap Some follows.status ∙ sym (close_status w)))
    ]

  module _ (k : ℕ) (os : List Opening) (o : Opening) (its : act_at p number ≡ Some (open_files os))
      (at : slice_get os k ≡ Some o)
      (follows : CallFollows now paths text (open_one p.layout o w)
      (open_one p.layout o (seen told paths text w))) where
    pub open_effect : (v : World) (fine : Bool)
        → edge_opened p number None v fine (slice_get os k) ≡ by_status p number None v fine (open_one p.layout o v)
    open_effect v fine = rw at refl

    open_status : (v : World)
        → status_if p number None v (slice_get os k) (λ f. open_one p.layout f v) ≡ Some (open_one p.layout o v).1
    open_status v = rw at refl

    pub open_edge : (a : Action) (m fine bad : ℕ) → Contains (op_edges (op.Open k fine bad)) (a, m) → EdgeFollows a
    open_edge a m fine bad c = elim (one_of_two _ _ _ c) [
      | inl e ↦ subst EdgeFollows (sym (ap (λ (x : Action × ℕ). x.0) e))
          (by_call _ _ follows (open_files os) its (action.Open k) true (open_effect w true)
          (open_effect (seen told paths text w) true) refl)
      | inr e ↦ subst EdgeFollows (sym (ap (λ (x : Action × ℕ). x.0) e))
          (by_call _ _ follows (open_files os) its (action.Bad k) false (open_effect w false)
          (open_effect (seen told paths text w) false)
          (open_status (seen told paths text w) ∙ ap Some follows.status ∙ sym (open_status w)))
    ]
