-- The files as the run sees them, where one of them changes.
use Rattle.std.proofs.Common.{◌≡◌, ℕ, zero, suc, cond, List, [], ◌∷◌, ◌++◌, Option, Some, None, refl, sym, ap, subst, ◌∙◌, zero-lt-suc, suc-le-suc}
use Rattle.std.specs.Prelude.{Contains, slice_get, slice_set, unwrap_or}
use Rattle.std.specs.FinMap.{get, insert, get-insert}
use Rattle.std.proofs.lemmas.Cmp.{nat_list_cmp_total}
use Rattle.std.proofs.lemmas.Bool.{false_from_ne_true}
use Rattle.batch_io.specs.FilesState.{Contents}
use Rattle.batch_io.proofs.EntriesLemmas.{is_same, same_name}
use Rattle.cob_runs.specs.Files.{File, file, Mode, closed, reading, writing, bytes_in}
use Rattle.cob_interp.specs.Told.{seen_in, seen_file, seen_files, IsSyncedIn, IsSynced, AreSynced, AreDistinct, AgreeBut}

-- ---- contents that agree

module _ (told now : Contents) where
  abbrev pub Agree : List (List ℕ) → Type 0
  Agree [] = Unit {0}
  Agree (path ∷ paths) = (get now path ≡ get told path) × Agree paths

pub agree_everywhere : (told : Contents) (paths : List (List ℕ)) → Agree told told paths
agree_everywhere told [] = tt
agree_everywhere told (path ∷ paths) = (refl, agree_everywhere told paths)

contains_more : (path x : List ℕ) (paths : List (List ℕ)) → Contains paths x → Contains (path ∷ paths) x
contains_more path x paths (k, within, at) = (suc k, suc-le-suc within, at)

contains_first : (path x : List ℕ) (paths : List (List ℕ)) → path ≡ x → Contains (path ∷ paths) x
contains_first path x paths e = (zero, zero-lt-suc _, e)

pub contains_at : (paths : List (List ℕ)) (i : ℕ) (path : List ℕ) → slice_get paths i ≡ Some path → Contains paths path
contains_at [] i path e = cc
contains_at (q ∷ paths) zero path e = contains_first q path paths cc
contains_at (q ∷ paths) (suc i) path e = contains_more q path paths (contains_at paths i path e)

agree_apart : (told now : Contents) (path : List ℕ) (paths : List (List ℕ)) → AgreeBut told now path
    → (Contains paths path → ⊥) → Agree told now paths
agree_apart told now path [] but apart = tt
agree_apart told now path (q ∷ paths) but apart = (
  but q (λ e. apart (contains_first q path paths e)),
  agree_apart told now path paths but (λ c. apart (contains_more q path paths c)),
)

pub insert_agrees : (told : Contents) (path bytes : List ℕ) → AgreeBut told (insert told path bytes) path
insert_agrees told path bytes name apart =
    get-insert nat_list_cmp_total told path bytes name
    ∙ ap (λ b. cond b (Some bytes) (get told name)) (false_from_ne_true _ (λ same. apart (same_name name path same)))

pub insert_gets : (told : Contents) (path bytes : List ℕ) → get (insert told path bytes) path ≡ Some bytes
insert_gets told path bytes =
    get-insert nat_list_cmp_total told path bytes path
    ∙ ap (λ b. cond b (Some bytes) (get told path)) (is_same path path refl)

-- ---- one file

module _ (told now : Contents) (path : List ℕ) (agree : get now path ≡ get told path) where
  pub seen_in_same : (m : Mode) (f : File) → seen_in now m path f ≡ seen_in told m path f
  seen_in_same closed f = ap (λ content. file content closed f.place) agree
  seen_in_same (reading ended) f = ap (λ content. file content (reading ended) f.place) agree
  seen_in_same writing f = ap (λ content. file (Some (unwrap_or content [] ++ bytes_in f)) writing f.place) agree

  pub synced_same : (m : Mode) (content : Option (List ℕ)) (place : ℕ) → IsSyncedIn told m path content place
      → IsSyncedIn now m path content place
  synced_same closed content place s = tt
  synced_same (reading ended) content place s = (s.0, agree ∙ s.1, s.2)
  synced_same writing content place s = (s.0, agree ∙ s.1)

-- ---- all of them

pub seen_same : (told now : Contents) (paths : List (List ℕ)) (fs : List File) → Agree told now paths
    → seen_files now paths fs ≡ seen_files told paths fs
seen_same told now [] fs agree = refl
seen_same told now (path ∷ paths) [] agree = refl
seen_same told now (path ∷ paths) (f ∷ fs) agree =
    let e = seen_in_same told now path agree.0 f.mode f in
    let es = seen_same told now paths fs agree.1 in
    cc

pub all_synced_same : (told now : Contents) (paths : List (List ℕ)) (fs : List File) → Agree told now paths
    → AreSynced told paths fs → AreSynced now paths fs
all_synced_same told now [] [] agree s = tt
all_synced_same told now [] (f ∷ fs) agree s = s
all_synced_same told now (path ∷ paths) [] agree s = s
all_synced_same told now (path ∷ paths) (f ∷ fs) agree s =
    (synced_same told now path agree.0 f.mode f.content f.place s.0, all_synced_same told now paths fs agree.1 s.1)

-- what is seen of the file at a place
abbrev pub SeenAt : Contents → List (List ℕ) → ℕ → Option File → Option File → Type 0
SeenAt told paths i None other = other ≡ None
SeenAt told paths i (Some f) other =
    (path : List ℕ) × (slice_get paths i ≡ Some path) × (other ≡ Some (seen_file told path f)) × IsSynced told path f

pub seen_at : (told : Contents) (paths : List (List ℕ)) (fs : List File) (i : ℕ) → AreSynced told paths fs
    → SeenAt told paths i (slice_get fs i) (slice_get (seen_files told paths fs) i)
seen_at told [] [] i s = refl
seen_at told [] (f ∷ fs) i s = absurd s
seen_at told (path ∷ paths) [] i s = absurd s
seen_at told (path ∷ paths) (f ∷ fs) zero s = (path, refl, refl, s.0)
seen_at told (path ∷ paths) (f ∷ fs) (suc i) s = seen_at told paths fs i s.1

module _ (told now : Contents) (path : List ℕ) (but : AgreeBut told now path) (g : File) where
  pub seen_set : (paths : List (List ℕ)) (fs : List File) (i : ℕ) → AreDistinct paths → AreSynced told paths fs
      → slice_get paths i ≡ Some path
      → seen_files now paths (slice_set fs i g) ≡ slice_set (seen_files told paths fs) i (seen_file now path g)
  seen_set [] fs i apart s at = cc
  seen_set (q ∷ paths) [] i apart s at = absurd s
  seen_set (q ∷ paths) (f ∷ fs) zero apart s at =
      let same : q ≡ path = cc in
      let es = seen_same told now paths fs (agree_apart told now path paths but
      (λ c. apart.0 (subst (Contains paths) (sym same) c))) in
      let e : seen_file now q g ≡ seen_file now path g = ap (λ (x : List ℕ). seen_file now x g) same in
      cc
  seen_set (q ∷ paths) (f ∷ fs) (suc i) apart s at =
      let other = but q (λ e. apart.0 (subst (Contains paths) (sym e) (contains_at paths i path at))) in
      let e = seen_in_same told now q other f.mode f in
      let es = seen_set paths fs i apart.1 s.1 at in
      cc

  pub synced_set : (paths : List (List ℕ)) (fs : List File) (i : ℕ) → AreDistinct paths → AreSynced told paths fs
      → slice_get paths i ≡ Some path → IsSynced now path g → AreSynced now paths (slice_set fs i g)
  synced_set [] fs i apart s at own = cc
  synced_set (q ∷ paths) [] i apart s at own = absurd s
  synced_set (q ∷ paths) (f ∷ fs) zero apart s at own =
      let same : q ≡ path = cc in (
        subst (λ (x : List ℕ). IsSynced now x g) (sym same) own,
        all_synced_same told now paths fs
            (agree_apart told now path paths but (λ c. apart.0 (subst (Contains paths) (sym same) c))) s.1,
      )
  synced_set (q ∷ paths) (f ∷ fs) (suc i) apart s at own =
      let other = but q (λ e. apart.0 (subst (Contains paths) (sym e) (contains_at paths i path at))) in
      (synced_same told now q other f.mode f.content f.place s.0, synced_set paths fs i apart.1 s.1 at own)
