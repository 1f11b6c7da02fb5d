-- What a READ of the next record does to the world as the run sees it.
use Rattle.std.proofs.Common.{◌≡◌, ℕ, zero, suc, ◌+◌, ◌⊎◌, ◌==◌, ◌&&◌, Bool, true, false, not, List, [], ◌∷◌, Option, Some, None, Ok, Err, inl, inr, refl, sym, ap, subst, ◌∙◌, arith}
use Rattle.std.specs.Prelude.{slice_get, slice_set, Contains}
use Rattle.batch_io.specs.FilesState.{Contents}
use Rattle.cob_tree.specs.declared.fault.Kind.{Kind}
use Rattle.cob_data.specs.declared.layout.FileDecl.{FileDecl}
use Rattle.cob_data.specs.declared.layout.Layout.{Layout}
use Rattle.cob_program.specs.Act.{Phrase, Stmts, read, Program}
use Rattle.cob_plan.specs.declared.node.Op.TheVariants as op
use Rattle.cob_plan.specs.Plan.{op_edges}
use Rattle.cob_runs.specs.declared.action.Action.{Action}
use Rattle.cob_runs.specs.declared.action.Action.TheVariants as action
use Rattle.cob_runs.specs.Files.{File, file, Mode, reading, Taken, after_read}
use Rattle.cob_runs.specs.State.{World, with_files}
use Rattle.cob_runs.specs.Acts.{is_fine, decl_at, taken_world, take_on, take_one}
use Rattle.cob_runs.specs.Effects.{effect, effect_of, status, status_of, act_at, taken_if}
use Rattle.cob_world.specs.Calling.{replaced, replaced_on}
use Rattle.cob_interp.specs.Told.{seen, seen_file, seen_files, AreSynced, AreDistinct}
use Rattle.cob_interp.specs.Readying.{settled, settled_on, settled_file}
use Rattle.cob_interp.proofs.SeenFiles.{seen_set, synced_set}
use Rattle.cob_interp.proofs.Calls.{CallFollows}
use Rattle.cob_interp.proofs.OneFile.{WindowFollows}
use Rattle.cob_interp.proofs.Onward.{effect_by_act, status_by_act}

pub get_set : (fs : List File) (place : ℕ) (f g : File) → slice_get fs place ≡ Some f
    → slice_get (slice_set fs place g) place ≡ Some g
get_set [] place f g has = cc
get_set (x ∷ fs) zero f g has = refl
get_set (x ∷ fs) (suc place) f g has = get_set fs place f g has

set_twice : (fs : List File) (place : ℕ) (f g : File) → slice_set (slice_set fs place f) place g ≡ slice_set fs place g
set_twice [] place f g = refl
set_twice (x ∷ fs) zero f g = refl
set_twice (x ∷ fs) (suc place) f g = ap (λ (ys : List File). x ∷ ys) (set_twice fs place f g)

-- the READ's outcome on the world as it is seen, beside that on the world that is kept, which changes so behind it
pub record TakeFollows (told : Contents) (paths : List (List ℕ)) (text : List ℕ) (change : World → World)
    (kept sees : World × ℕ) : Type 0 where
  pub status : sees.1 ≡ kept.1
  pub world : sees.0 ≡ seen told paths text (change kept.0)
  pub synced : AreSynced told paths (change kept.0).files

-- of a file that isn't read, or whose end was met
pub take_idle : (told : Contents) (paths : List (List ℕ)) (text : List ℕ) (kept sees : World × ℕ)
    → CallFollows told paths text kept sees → TakeFollows told paths text (λ v. v) kept sees
take_idle told paths text kept sees follows =
    record { status = follows.status; world = follows.world; synced = follows.synced }

module _ (l : Layout) (told : Contents) (paths : List (List ℕ)) (text : List ℕ) (apart : AreDistinct paths) (w : World)
    (s : AreSynced told paths w.files) (place : ℕ) (path : List ℕ) (f : File) (d : FileDecl)
    (at : slice_get paths place ≡ Some path) (has : slice_get w.files place ≡ Some f)
    (declared : decl_at l place ≡ Some d) (sees_at : slice_get (seen_files told paths w.files) place ≡ Some (seen_file told path f))
    (window : List ℕ) (mode_ : f.mode ≡ reading false)
    (follows : WindowFollows told path f.place (after_read d.length (file (Some window) (reading false) 0))
    (after_read d.length (seen_file told path f))) where
  abbrev shown_file : File
  shown_file = file (Some window) (reading false) 0

  abbrev shown : World
  shown = with_files w (slice_set w.files place shown_file)

  abbrev kept_taken : Taken
  kept_taken = after_read d.length shown_file

  abbrev sees_taken : Taken
  sees_taken = after_read d.length (seen_file told path f)

  abbrev new_file : File
  new_file = settled_file f.place kept_taken.file

  -- what it leaves of the files that are kept
  files_left : (files : List File) → files ≡ slice_set (slice_set w.files place shown_file) place kept_taken.file
      → settled_on place f.place files (slice_get files place) ≡ slice_set w.files place new_file
  files_left files is =
      let there : slice_get files place ≡ Some kept_taken.file =
      ap (λ (fs : List File). slice_get fs place) is
      ∙ get_set (slice_set w.files place shown_file) place shown_file kept_taken.file
      (get_set w.files place f shown_file has) in
      ap (settled_on place f.place files) there
      ∙ ap (λ (fs : List File). slice_set fs place new_file) (is ∙ set_twice w.files place shown_file kept_taken.file)
      ∙ set_twice w.files place kept_taken.file new_file

  taken_follows : TakeFollows told paths text (settled place f.place) (taken_world l None place d kept_taken shown)
      (taken_world l None place d sees_taken (seen told paths text w))
  taken_follows =
      let left = files_left (slice_set (slice_set w.files place shown_file) place kept_taken.file) refl in
      let set = seen_set told told path (λ name e. refl) new_file paths w.files place apart s at in
      record {
        status = follows.status;
        world = rw (left, set, ← follows.file, follows.found, follows.status) refl;
        synced = rw left (synced_set told told path (λ name e. refl) new_file paths w.files place apart s at
            follows.synced);
      }

  take_by : (decl : Option FileDecl) (o : Option File) (g : File) (z : World) → decl ≡ Some d → o ≡ Some g
      → take_on l None place decl o z ≡ taken_world l None place d (after_read d.length g) z
  take_by None o g z e h = cc
  take_by (Some x) None g z e h = cc
  take_by (Some x) (Some y) g z e h =
      let same : x ≡ d = cc in
      let there : y ≡ g = cc in
      rw (same, there) refl

  pub take_follows : TakeFollows told paths text (settled place f.place)
      (take_one l None place (with_files w (replaced place (Some window) 0 w.files)))
      (take_one l None place (seen told paths text w))
  take_follows =
      let shows : with_files w (replaced place (Some window) 0 w.files) ≡ shown =
      ap (λ (o : Option File). with_files w (replaced_on place (Some window) 0 w.files o)) has
      ∙ ap (λ (m : Mode). with_files w (slice_set w.files place (file (Some window) m 0))) mode_ in
      let kept_at : slice_get (slice_set w.files place shown_file) place ≡ Some shown_file =
      get_set w.files place f shown_file has in
      let kept : take_one l None place (with_files w (replaced place (Some window) 0 w.files))
      ≡ taken_world l None place d kept_taken shown =
      ap (take_one l None place) shows
      ∙ take_by (decl_at l place) (slice_get (slice_set w.files place shown_file) place) shown_file shown declared kept_at in
      let sees : take_one l None place (seen told paths text w)
      ≡ taken_world l None place d sees_taken (seen told paths text w) =
      take_by (decl_at l place) (slice_get (seen_files told paths w.files) place) (seen_file told path f)
      (seen told paths text w) declared sees_at in
      subst (λ (x : World × ℕ). TakeFollows told paths text (settled place f.place) x
      (take_one l None place (seen told paths text w))) (sym kept)
      (subst (λ (x : World × ℕ). TakeFollows told paths text (settled place f.place)
      (taken_world l None place d kept_taken shown) x) (sym sees) taken_follows)

-- ---- the edges of a READ

pub taken_test : (b : Bool) (v u : World) → taken_if b v ≡ Ok (Some u) → (b ≡ true) × (v ≡ u)
taken_test true v u e = (refl, cc)
taken_test false v u e = cc

pub three : (x y z e : Action × ℕ) → Contains (x ∷ y ∷ z ∷ []) e → (x ≡ e) ⊎ ((y ≡ e) ⊎ (z ≡ e))
three x y z e (zero, within, at) = inl at
three x y z e (suc zero, within, at) = inr (inl at)
three x y z e (suc (suc zero), within, at) = inr (inr at)
three x y z e (suc (suc (suc k)), within, at) = absurd (omega arith)

module _ (p : Program) (told : Contents) (paths : List (List ℕ)) (text : List ℕ) (w u : World)
    (change : World → World) (f : ℕ) (follows : TakeFollows told paths text change (take_one p.layout None f w) (take_one p.layout None f u)) where
  by_test : (test : ℕ → Bool) (v : World)
      → taken_if (test (take_one p.layout None f w).1) (take_one p.layout None f w).0 ≡ Ok (Some v)
      → (taken_if (test (take_one p.layout None f u).1) (take_one p.layout None f u).0
      ≡ Ok (Some (seen told paths text (change v)))) × AreSynced told paths (change v).files
  by_test test v e =
      let t = taken_test _ _ _ e in
      let same : test (take_one p.layout None f u).1 ≡ true = ap test follows.status ∙ t.0 in
      let world : (take_one p.layout None f u).0 ≡ seen told paths text (change v) =
      follows.world ∙ ap (λ (x : World). seen told paths text (change x)) t.1 in (
        rw (same, world) refl,
        subst (λ (x : World). AreSynced told paths (change x).files) t.1 follows.synced,
      )

-- what is asked of a READ's edge
pub record EdgeReads (p : Program) (number : ℕ) (told : Contents) (paths : List (List ℕ)) (text : List ℕ)
    (w u : World) (change : World → World) (a : Action) : Type 0 where
  pub effect_ : (v : World) → effect p number None w a ≡ Ok (Some v)
      → (effect p number None u a ≡ Ok (Some (seen told paths text (change v)))) × AreSynced told paths (change v).files
  pub status_ : status p number None u a ≡ status p number None w a
  pub sound : (kind : Kind) → effect p number None w a ≡ Err kind → ⊥

never_errs : (b : Bool) (v : World) (kind : Kind) → taken_if b v ≡ Err kind → ⊥
never_errs true v kind e = cc
never_errs false v kind e = cc

module _ (p : Program) (number : ℕ) (told : Contents) (paths : List (List ℕ)) (text : List ℕ) (w u : World)
    (change : World → World) (f : ℕ) (into : Option ℕ) (end_ : Phrase) (fine : Stmts)
    (its : act_at p number ≡ Some (read f into end_ fine))
    (follows : TakeFollows told paths text change (take_one p.layout None f w) (take_one p.layout None f u)) where
  edge_by : (a : Action) (test : ℕ → Bool)
      → ((z : World) → effect_of p number None z a (read f into end_ fine)
      ≡ taken_if (test (take_one p.layout None f z).1) (take_one p.layout None f z).0)
      → status_of p number None u a (read f into end_ fine) ≡ status_of p number None w a (read f into end_ fine)
      → EdgeReads p number told paths text w u change a
  edge_by a test is same = record {
    effect_ = λ v e.
        let on = by_test p told paths text w u change f follows test v
        (sym (is w) ∙ sym (effect_by_act p number w a (read f into end_ fine) its) ∙ e) in
        (effect_by_act p number u a (read f into end_ fine) its ∙ is u ∙ on.0, on.1);
    status_ = status_by_act p number u a (read f into end_ fine) its ∙ same
        ∙ sym (status_by_act p number w a (read f into end_ fine) its);
    sound = λ kind e.
        never_errs _ _ kind (sym (is w) ∙ sym (effect_by_act p number w a (read f into end_ fine) its) ∙ e);
  }

  pub read_edge : (a : Action) (m found end_to bad : ℕ) → Contains (op_edges (op.Read found end_to bad)) (a, m)
      → EdgeReads p number told paths text w u change a
  read_edge a m found end_to bad c = elim (three _ _ _ _ c) [
    | inl e ↦ subst (EdgeReads p number told paths text w u change) (ap (λ (x : Action × ℕ). x.0) e)
        (edge_by action.Take (λ n. n == 0) (λ z. refl) refl)
    | inr (inl e) ↦ subst (EdgeReads p number told paths text w u change) (ap (λ (x : Action × ℕ). x.0) e)
        (edge_by action.AtEnd (λ n. n == 10) (λ z. refl) (ap Some follows.status))
    | inr (inr e) ↦ subst (EdgeReads p number told paths text w u change) (ap (λ (x : Action × ℕ). x.0) e)
        (edge_by (action.Bad 0) (λ n. not (is_fine n) && not (n == 10)) (λ z. refl) (ap Some follows.status))
  ]

-- ---- behind it

pub settles : (w : World) (place before : ℕ) (f : File) → slice_get w.files place ≡ Some f
    → with_files w (replaced place (Some []) (before + f.place) w.files) ≡ settled place before w
settles w place before f has =
    ap (λ (o : Option File). with_files w (replaced_on place (Some []) (before + f.place) w.files o)) has
    ∙ sym (ap (λ (o : Option File). with_files w (settled_on place before w.files o)) has)

pub settles_none : (w : World) (place before : ℕ) → slice_get w.files place ≡ None → w ≡ settled place before w
settles_none w place before none = sym (ap (λ (o : Option File). with_files w (settled_on place before w.files o)) none)

-- what is kept of the files
module _ (l : Layout) (w : World) (place : ℕ) (f : File) (d : FileDecl) (has : slice_get w.files place ≡ Some f)
    (declared : decl_at l place ≡ Some d) (window : List ℕ) (mode_ : f.mode ≡ reading false) where
  abbrev held : File
  held = file (Some window) (reading false) 0

  abbrev pub given : World
  given = with_files w (replaced place (Some window) 0 w.files)

  given_is : given ≡ with_files w (slice_set w.files place held)
  given_is =
      ap (λ (o : Option File). with_files w (replaced_on place (Some window) 0 w.files o)) has
      ∙ ap (λ (m : Mode). with_files w (slice_set w.files place (file (Some window) m 0))) mode_

  taken_files : (z : World) (decl : Option FileDecl) (o : Option File) → z ≡ with_files w (slice_set w.files place held)
      → decl ≡ Some d → o ≡ Some held
      → (take_on l None place decl o z).0.files
      ≡ slice_set (slice_set w.files place held) place (after_read d.length held).file
  taken_files z None o e h k = cc
  taken_files z (Some x) None e h k = cc
  taken_files z (Some x) (Some y) e h k =
      let same : x ≡ d = cc in
      let there : y ≡ held = cc in
      rw (e, same, there) refl

  pub kept_files : (settled place f.place (take_one l None place given).0).files
      ≡ slice_set w.files place (settled_file f.place (after_read d.length held).file)
  kept_files =
      let files_ = taken_files given (decl_at l place) (slice_get given.files place) given_is declared
      (ap (λ (z : World). slice_get z.files place) given_is ∙ get_set w.files place f held has) in
      ap (λ (fs : List File). settled_on place f.place fs (slice_get fs place)) files_
      ∙ ap (settled_on place f.place (slice_set (slice_set w.files place held) place (after_read d.length held).file))
      (get_set (slice_set w.files place held) place held (after_read d.length held).file
      (get_set w.files place f held has))
      ∙ set_twice (slice_set w.files place held) place (after_read d.length held).file
      (settled_file f.place (after_read d.length held).file)
      ∙ set_twice w.files place held (settled_file f.place (after_read d.length held).file)
