-- How the files change where they are opened and closed.
use Rattle.std.proofs.Common.{◌≡◌, ℕ, zero, suc, Bool, true, false, not, if◌then◌else◌, List, [], ◌∷◌, Option, Some, None, Result, Ok, Err, ◌⊎◌, inl, inr, refl, sym, ap, subst, ◌∙◌}
use Rattle.std.specs.Prelude.{Contains, slice_get, slice_set, IsSome, IfOk}
use Rattle.std.proofs.lemmas.Bool.{false≢true}
use Rattle.cob_tree.specs.declared.fault.Kind.{Kind}
use Rattle.cob_data.specs.declared.layout.FileDecl.{FileDecl}
use Rattle.cob_data.specs.declared.layout.Layout.{Layout}
use Rattle.cob_plan.specs.declared.node.Op.{Op}
use Rattle.cob_plan.specs.declared.node.Op.TheVariants as op
use Rattle.cob_plan.specs.declared.end.DoEnd.{DoEnd}
use Rattle.cob_plan.specs.declared.end.DoEnd.TheVariants as does
use Rattle.cob_plan.specs.Plan.{op_edges}
use Rattle.cob_plan.specs.Doing.{Does}
use Rattle.cob_program.specs.declared.act.Opening.{Opening}
use Rattle.cob_program.specs.Act.{Act, open_files, close_files, Program}
use Rattle.cob_runs.specs.declared.action.Action.{Action}
use Rattle.cob_runs.specs.declared.action.Action.TheVariants as action
use Rattle.cob_runs.specs.Files.{File, file, Mode, closed, reading, writing, opened, after_close}
use Rattle.cob_runs.specs.State.{World, with_storage, with_files}
use Rattle.cob_runs.specs.Acts.{is_fine, decl_at, with_file, file_act, open_one, close_one}
use Rattle.cob_runs.specs.Effects.{Effect, effect, act_at, taken_if, not_taken}
use Rattle.cob_runs.specs.Effects as effects
use Rattle.cob_world.specs.Calling.{refilled, refilled_on}
use Rattle.cob_interp.specs.declared.ends.RunEnd.{RunEnd}
use Rattle.cob_interp.specs.declared.setting.Setting.{Setting}
use Rattle.cob_interp.specs.declared.setting.Standing.{Standing}
use Rattle.cob_interp.specs.Setting.{program_of}
use Rattle.cob_interp.specs.Doing.{answered, DoesPart}
use Rattle.cob_interp.specs.Ends.{UnlessRefused}
use Rattle.cob_interp.specs.Touching.{ShutsOnly, OpensOnly}
use Rattle.cob_interp.specs.Tracking.{IsOpen, StayAt, purpose_in, purposes_of}
use Rattle.cob_interp.proofs.Places.{set_stays}
use Rattle.cob_interp.proofs.Purposes.{purposes_set}
use Rattle.cob_interp.proofs.Onward.{effect_by_act}
use Rattle.cob_interp.proofs.CallsLead.{one_of_two, by_status_sound}

-- ---- none or several changes

shuts_stay : (w : World) → ShutsOnly w w
shuts_stay w = record { each = λ place f has. (f, has, inl refl) }

pub opens_stay : (w : World) → OpensOnly w w
opens_stay w = record { each = λ place f has. (f, has, λ shut. shut) }

pub opens_pass : (w v u : World) → OpensOnly w v → OpensOnly v u → OpensOnly w u
opens_pass w v u first then_ = record {
  each = λ place f has.
      let g = first.each place f has in
      let h = then_.each place g.0 g.1 in
      (h.0, h.1, λ shut. g.2 (h.2 shut));
}

-- ---- one file is new

set_at : (fs : List File) (place p : ℕ) (e g f : File) → slice_get fs place ≡ Some e → slice_get fs p ≡ Some f
    → (slice_get (slice_set fs place g) p ≡ Some f) ⊎ ((e ≡ f) × (slice_get (slice_set fs place g) p ≡ Some g))
set_at [] place p e g f has at = cc
set_at (x ∷ fs) zero zero e g f has at = let same : e ≡ f = cc in inr (same, refl)
set_at (x ∷ fs) zero (suc p) e g f has at = inl at
set_at (x ∷ fs) (suc place) zero e g f has at = inl at
set_at (x ∷ fs) (suc place) (suc p) e g f has at = set_at fs place p e g f has at

module _ (w v : World) (place : ℕ) (e g : File) (has : slice_get w.files place ≡ Some e)
    (files_ : v.files ≡ slice_set w.files place g) where
  set_in : (p : ℕ) (f : File) → slice_get w.files p ≡ Some f
      → (slice_get v.files p ≡ Some f) ⊎ ((e ≡ f) × (slice_get v.files p ≡ Some g))
  set_in p f at =
      subst (λ (fs : List File). (slice_get fs p ≡ Some f) ⊎ ((e ≡ f) × (slice_get fs p ≡ Some g))) (sym files_)
      (set_at w.files place p e g f has at)

  pub set_closes : g.mode ≡ closed → ShutsOnly w v
  set_closes shut = record {
    each = λ p f at. elim (set_in p f at) [
      | inl same ↦ (f, same, inl refl)
      | inr new ↦ (g, new.1, inr shut)
    ];
  }

  pub set_opens : (g.mode ≡ closed → e.mode ≡ closed) → OpensOnly w v
  set_opens still = record {
    each = λ p f at. elim (set_in p f at) [
      | inl same ↦ (f, same, λ shut. shut)
      | inr new ↦ (g, new.1, λ shut. subst (λ (x : File). x.mode ≡ closed) new.0 (still shut))
    ];
  }

-- the file at a place is read no more, and the others stay
abbrev pub EndsAt : List File → ℕ → List File → Type 0
EndsAt fs place gs = StayAt fs gs × (purposes_of gs ≡ slice_set (purposes_of fs) place None)

-- ---- calls

closed_by_mode : (content : Option (List ℕ)) (m : Mode) (place : ℕ)
    → (after_close (file content m place)).0.mode ≡ closed
closed_by_mode content closed place = refl
closed_by_mode content (reading ended) place = refl
closed_by_mode content writing place = refl

open_by_mode : (output : Bool) (content : Option (List ℕ)) (m : Mode) (place : ℕ)
    → (opened output (file content m place)).0.mode ≡ closed → m ≡ closed
open_by_mode output content closed place shut = refl
open_by_mode output content (reading ended) place shut = shut
open_by_mode output content writing place shut = shut

module _ (l : Layout) (w : World) where
  closes_on : (place : ℕ) (d : Option FileDecl) (o : Option File) → slice_get w.files place ≡ o
      → ShutsOnly w (file_act l after_close place d o w).0
  closes_on place None o has = shuts_stay w
  closes_on place (Some d) None has = shuts_stay w
  closes_on place (Some d) (Some f) has =
      set_closes w (with_file l place d (after_close f) w).0 place f (after_close f).0 has refl
      (closed_by_mode f.content f.mode f.place)

  pub close_one_closes : (place : ℕ) → ShutsOnly w (close_one l place w).0
  close_one_closes place = closes_on place (decl_at l place) (slice_get w.files place) refl

  ends_on : (place : ℕ) (d : Option FileDecl) (o : Option File) → IsSome d → IsSome o
      → EndsAt w.files place (file_act l after_close place d o w).0.files
  ends_on place None o declared has = absurd (false≢true declared)
  ends_on place (Some d) None declared has = absurd (false≢true has)
  ends_on place (Some d) (Some f) declared has =
      let shut = closed_by_mode f.content f.mode f.place in (
        set_stays w.files place (after_close f).0
            (λ reads. subst (λ (m : Mode). IsOpen m → ⊥) (sym shut) (λ r. r) reads),
        purposes_set w.files place (after_close f).0
            ∙ ap (λ (m : Mode). slice_set (purposes_of w.files) place (purpose_in m)) shut,
      )

  -- a file that is closed is read no more
  pub close_one_ends : (place : ℕ) (d : FileDecl) (f : File) → decl_at l place ≡ Some d → slice_get w.files place ≡ Some f
      → EndsAt w.files place (close_one l place w).0.files
  close_one_ends place d f declared has =
      ends_on place (decl_at l place) (slice_get w.files place)
      (subst (λ (o : Option FileDecl). IsSome o) (sym declared) refl)
      (subst (λ (o : Option File). IsSome o) (sym has) refl)

  opens_on : (output : Bool) (place : ℕ) (d : Option FileDecl) (o : Option File) → slice_get w.files place ≡ o
      → OpensOnly w (file_act l (opened output) place d o w).0
  opens_on output place None o has = opens_stay w
  opens_on output place (Some d) None has = opens_stay w
  opens_on output place (Some d) (Some f) has =
      set_opens w (with_file l place d (opened output f) w).0 place f (opened output f).0 has refl
      (open_by_mode output f.content f.mode f.place)

  pub open_one_opens : (o : Opening) → OpensOnly w (open_one l o w).0
  open_one_opens o = opens_on o.output o.file (decl_at l o.file) (slice_get w.files o.file) refl

-- other bytes
pub refilled_opens : (w v : World) (place : ℕ) (content : Option (List ℕ))
    → v ≡ with_files w (refilled place content w.files) → OpensOnly w v
refilled_opens w v place content is =
    subst (λ (u : World). OpensOnly w u) (sym is) (by_file (slice_get w.files place) refl) where
      by_file : (o : Option File) → slice_get w.files place ≡ o
          → OpensOnly w (with_files w (refilled_on place content w.files o))
      by_file None has = opens_stay w
      by_file (Some f) has =
          set_opens w (with_files w (slice_set w.files place (file content f.mode f.place))) place f
          (file content f.mode f.place) has refl (λ shut. shut)

-- ---- edges

not_going : (v : World) → not_taken ≡ Ok (Some v) → ⊥
not_going v e = cc

not_faulty : (kind : Kind) → not_taken ≡ Err kind → ⊥
not_faulty kind e = cc

taken_is : (b : Bool) (u v : World) → taken_if b u ≡ Ok (Some v) → u ≡ v
taken_is true u v e = cc
taken_is false u v e = cc

by_status_is : (p : Program) (number : ℕ) (w v : World) (fine : Bool) (x : World × ℕ)
    → effects.by_status p number None w fine x ≡ Ok (Some v)
    → x.0 ≡ v
by_status_is p number w v fine x e = taken_is (if fine then is_fine x.1 else not (is_fine x.1)) x.0 v e

module _ (p : Program) (number k : ℕ) (w v : World) where
  -- what an edge does, by its statement's act
  does_by_act : (e : Effect) (b : Act) → act_at p number ≡ Some b → (x : Action × ℕ) (a : Action) (m : ℕ) → (a, m) ≡ x
      → effect p number None w a ≡ e → effects.effect_of p number None w x.0 b ≡ e
  does_by_act e b its x a m is does =
      sym (effect_by_act p number w x.0 b its)
      ∙ subst (λ (y : Action × ℕ). effect p number None w y.0 ≡ e) is does

  closed_sound : (kind : Kind) (fine : Bool) (o : Option ℕ) → effects.edge_closed p number None w fine o ≡ Err kind → ⊥
  closed_sound kind fine None e = not_faulty kind e
  closed_sound kind fine (Some file_) e = by_status_sound p number w fine (close_one p.layout file_ w) kind e

  opened_sound : (kind : Kind) (fine : Bool) (o : Option Opening) → effects.edge_opened p number None w fine o ≡ Err kind → ⊥
  opened_sound kind fine None e = not_faulty kind e
  opened_sound kind fine (Some o) e = by_status_sound p number w fine (open_one p.layout o w) kind e

  -- neither CLOSE nor OPEN meets a fault
  close_edge_sound : (fs : List ℕ) → act_at p number ≡ Some (close_files fs) → (fine bad : ℕ) (kind : Kind) (a : Action)
      (m : ℕ) → Contains (op_edges (op.Close k fine bad)) (a, m) → effect p number None w a ≡ Err kind → ⊥
  close_edge_sound fs its fine bad kind a m out meets = elim (one_of_two _ _ _ out) [
    | inl is ↦ closed_sound kind true (slice_get fs k)
        (does_by_act (Err kind) (close_files fs) its (action.Close k, fine) a m is meets)
    | inr is ↦ closed_sound kind false (slice_get fs k)
        (does_by_act (Err kind) (close_files fs) its (action.Bad k, bad) a m is meets)
  ]

  open_edge_sound : (os : List Opening) → act_at p number ≡ Some (open_files os) → (fine bad : ℕ) (kind : Kind)
      (a : Action) (m : ℕ) → Contains (op_edges (op.Open k fine bad)) (a, m) → effect p number None w a ≡ Err kind → ⊥
  open_edge_sound os its fine bad kind a m out meets = elim (one_of_two _ _ _ out) [
    | inl is ↦ opened_sound kind true (slice_get os k)
        (does_by_act (Err kind) (open_files os) its (action.Open k, fine) a m is meets)
    | inr is ↦ opened_sound kind false (slice_get os k)
        (does_by_act (Err kind) (open_files os) its (action.Bad k, bad) a m is meets)
  ]

  -- what holds behind each CLOSE
  module _ (fs : List ℕ) (its : act_at p number ≡ Some (close_files fs)) (Is : World → Type 0)
      (each : (file_ : ℕ) → slice_get fs k ≡ Some file_ → Is (close_one p.layout file_ w).0) where
    closed_so : (fine : Bool) (o : Option ℕ) → slice_get fs k ≡ o → effects.edge_closed p number None w fine o ≡ Ok (Some v)
        → Is v
    closed_so fine None at e = absurd (not_going v e)
    closed_so fine (Some file_) at e =
        subst Is (by_status_is p number w v fine (close_one p.layout file_ w) e) (each file_ at)

    close_edge_is : (fine bad : ℕ) (a : Action) (m : ℕ) → Contains (op_edges (op.Close k fine bad)) (a, m)
        → effect p number None w a ≡ Ok (Some v) → Is v
    close_edge_is fine bad a m out does = elim (one_of_two _ _ _ out) [
      | inl is ↦ closed_so true (slice_get fs k) refl (does_by_act (Ok (Some v)) (close_files fs) its (action.Close k, fine) a m is does)
      | inr is ↦ closed_so false (slice_get fs k) refl (does_by_act (Ok (Some v)) (close_files fs) its (action.Bad k, bad) a m is does)
    ]

  -- and behind each OPEN
  module _ (os : List Opening) (its : act_at p number ≡ Some (open_files os)) (Is : World → Type 0)
      (each : (o : Opening) → slice_get os k ≡ Some o → Is (open_one p.layout o w).0) where
    opened_so : (fine : Bool) (o : Option Opening) → slice_get os k ≡ o
        → effects.edge_opened p number None w fine o ≡ Ok (Some v) → Is v
    opened_so fine None at e = absurd (not_going v e)
    opened_so fine (Some o) at e =
        subst Is (by_status_is p number w v fine (open_one p.layout o w) e) (each o at)

    open_edge_is : (fine bad : ℕ) (a : Action) (m : ℕ) → Contains (op_edges (op.Open k fine bad)) (a, m)
        → effect p number None w a ≡ Ok (Some v) → Is v
    open_edge_is fine bad a m out does = elim (one_of_two _ _ _ out) [
      | inl is ↦ opened_so true (slice_get os k) refl (does_by_act (Ok (Some v)) (open_files os) its (action.Open k, fine) a m is does)
      | inr is ↦ opened_so false (slice_get os k) refl (does_by_act (Ok (Some v)) (open_files os) its (action.Bad k, bad) a m is does)
    ]

-- ---- the part of a node

module _ (s : Setting) (x : Standing) (step : ℕ) (w v : World) where
  abbrev Out : Op → Action → ℕ → Type 0
  Out o a m = Contains (op_edges o) (a, m)

  abbrev of : Action → Effect
  of a = effect (program_of s) x.statement.now.number None w a

  -- what each way on leaves, and each fault, holds where the node's part is done or comes to an end
  pub where_done : (IsIt : Type 0) (o : Op) → x.plan_node.now.op ≡ o
      → ((a : Action) (m : ℕ) → Out o a m → of a ≡ Ok (Some v) → IsIt)
      → ((kind : Kind) (a : Action) (m : ℕ) → Out o a m → of a ≡ Err kind → v ≡ with_storage w v.storage → IsIt)
      → (result : Result ℕ RunEnd) → DoesPart s x step w v result → UnlessRefused result IsIt
  where_done IsIt o is each faults result d =
      subst (λ (r : Result ℕ RunEnd). UnlessRefused r IsIt) (sym d.told) (by_outcome d.outcome d.does) where
        out_of : (a : Action) (m : ℕ) → Out x.plan_node.now.op a m → Out o a m
        out_of a m out = subst (λ (y : Op). Out y a m) is out

        by_outcome : (outcome : Result ℕ DoEnd) → Does (program_of s) x.statement.now.number x.plan_node.now.op w v outcome
            → UnlessRefused (answered x.statement.now.number step outcome) IsIt
        by_outcome (Ok to) done = each done.action to (out_of done.action to done.out) done.does
        by_outcome (Err (does.Fault kind)) done =
            faults kind done.action done.to (out_of done.action done.to done.out) done.meets done.others
        by_outcome (Err (does.Stop status_)) done =
            each done.action done.to (out_of done.action done.to done.out) done.does
        by_outcome (Err does.Memory) done = tt

  -- behind a CLOSE
  pub close_done : (IsIt : World → Type 0) (fs : List ℕ) (k fine bad : ℕ) → x.plan_node.now.op ≡ op.Close k fine bad
      → act_at (program_of s) x.statement.now.number ≡ Some (close_files fs)
      → ((file_ : ℕ) → slice_get fs k ≡ Some file_ → IsIt (close_one s.program.now.layout file_ w).0)
      → (result : Result ℕ RunEnd) → DoesPart s x step w v result → UnlessRefused result (IsIt v)
  close_done IsIt fs k fine bad is its each result d =
      where_done (IsIt v) (op.Close k fine bad) is
      (close_edge_is (program_of s) x.statement.now.number k w v fs its IsIt each fine bad)
      (λ kind a m out meets others.
      absurd (close_edge_sound (program_of s) x.statement.now.number k w v fs its fine bad kind a m out meets)) result d

  pub close_part : (fs : List ℕ) (k fine bad : ℕ) → x.plan_node.now.op ≡ op.Close k fine bad
      → act_at (program_of s) x.statement.now.number ≡ Some (close_files fs)
      → (result : Result ℕ RunEnd) → DoesPart s x step w v result → UnlessRefused result (ShutsOnly w v)
  close_part fs k fine bad is its result d =
      close_done (λ (u : World). ShutsOnly w u) fs k fine bad is its
      (λ file_ at. close_one_closes s.program.now.layout w file_) result d

  pub close_ends : (fs : List ℕ) (k fine bad : ℕ) → x.plan_node.now.op ≡ op.Close k fine bad
      → act_at (program_of s) x.statement.now.number ≡ Some (close_files fs)
      → (place : ℕ) (decl : FileDecl) (f : File) → slice_get fs k ≡ Some place
      → decl_at s.program.now.layout place ≡ Some decl → slice_get w.files place ≡ Some f
      → (result : Result ℕ RunEnd) → DoesPart s x step w v result → UnlessRefused result (EndsAt w.files place v.files)
  close_ends fs k fine bad is its place decl f at declared has result d =
      close_done (λ (u : World). EndsAt w.files place u.files) fs k fine bad is its
      (λ file_ at_. let same : place ≡ file_ = cc in
      subst (λ (n : ℕ). EndsAt w.files place (close_one s.program.now.layout n w).0.files) same
      (close_one_ends s.program.now.layout w place decl f declared has)) result d

  -- behind an OPEN
  pub open_done : (IsIt : World → Type 0) (os : List Opening) (k fine bad : ℕ) → x.plan_node.now.op ≡ op.Open k fine bad
      → act_at (program_of s) x.statement.now.number ≡ Some (open_files os)
      → ((o : Opening) → slice_get os k ≡ Some o → IsIt (open_one s.program.now.layout o w).0)
      → (result : Result ℕ RunEnd) → DoesPart s x step w v result → UnlessRefused result (IsIt v)
  open_done IsIt os k fine bad is its each result d =
      where_done (IsIt v) (op.Open k fine bad) is
      (open_edge_is (program_of s) x.statement.now.number k w v os its IsIt each fine bad)
      (λ kind a m out meets others.
      absurd (open_edge_sound (program_of s) x.statement.now.number k w v os its fine bad kind a m out meets)) result d

  pub open_part : (os : List Opening) (k fine bad : ℕ) → x.plan_node.now.op ≡ op.Open k fine bad
      → act_at (program_of s) x.statement.now.number ≡ Some (open_files os)
      → (result : Result ℕ RunEnd) → DoesPart s x step w v result → UnlessRefused result (OpensOnly w v)
  open_part os k fine bad is its result d =
      open_done (λ (u : World). OpensOnly w u) os k fine bad is its
      (λ o at. open_one_opens s.program.now.layout w o) result d

-- behind other changes
pub opens_behind : (w u v : World) (result : Result ℕ RunEnd) → OpensOnly w u → UnlessRefused result (OpensOnly u v)
    → IfOk result (λ _. OpensOnly w v)
opens_behind w u v (Ok to) first then_ = opens_pass w u v first then_
opens_behind w u v (Err e) first then_ = tt
