-- What names hold behind a run of whose files nothing waits.
use Rattle.std.proofs.Common.{◌≡◌, ℕ, suc, ◌≤◌, List, [], ◌∷◌, ◌++◌, length, map, Option, Some, refl, sym, ap, ◌∙◌, append-nil, arith}
use Rattle.std.specs.Prelude.{unwrap_or}
use Rattle.std.specs.FinMap.{get}
use Rattle.batch_io.specs.FilesState.{Contents, FilesState}
use Rattle.cob_runs.specs.Files.{File, file, Mode, closed, reading, writing, bytes_in}
use Rattle.cob_interp.specs.declared.ends.RunEnd.{RunEnd}
use Rattle.cob_interp.specs.declared.ends.RunEnd.TheVariants as end
use Rattle.cob_interp.specs.Told.{seen_file, seen_files, IsSyncedIn, AreSynced}
use Rattle.cob_interp.specs.Readying.{AreWell, IsRefusal, AreEmptied}
use Rattle.cob_interp.proofs.CloseLemmas.{rose_on}

-- a refusal behind calls that went well
pub refused_on : (a b c : FilesState) (e : RunEnd) → AreWell a b → IsRefusal b c e → IsRefusal a c e
refused_on a b c end.ReadFault well r = rose_on a.reading b.reading c.reading well.reading r
refused_on a b c end.WriteFault well r = rose_on a.writing b.writing c.writing well.writing r
refused_on a b c end.Memory well r = tt
refused_on a b c (end.Ragged file_ count) well r = absurd r
refused_on a b c (end.StepsSpent count) well r = absurd r
refused_on a b c (end.IoStop status_ statement) well r = absurd r
refused_on a b c (end.Fault kind statement step) well r = absurd r

-- ---- names hold what the run sees

module _ (told : Contents) (path : List ℕ) where
  content_by_mode : (content : Option (List ℕ)) (m : Mode) (place : ℕ) → IsSyncedIn told m path content place
      → (m ≡ writing → bytes_in (file content m place) ≡ [])
      → get told path ≡ (seen_file told path (file content m place)).content
  content_by_mode content closed place s none = refl
  content_by_mode content (reading ended) place s none = refl
  content_by_mode content writing place s none =
      s.1
      ∙ sym (ap (λ (c : Option (List ℕ)). Some (unwrap_or c [] ++ bytes_in (file content writing place))) s.1
      ∙ ap (λ (b : List ℕ). Some (s.0 ++ b)) (none refl) ∙ ap (λ (b : List ℕ). Some b) (append-nil s.0))

pub contents_told : (told : Contents) (paths : List (List ℕ)) (fs : List File) → AreSynced told paths fs
    → AreEmptied fs (length paths) → map (get told) paths ≡ map (λ f. f.content) (seen_files told paths fs)
contents_told told [] [] s none = refl
contents_told told [] (f ∷ fs) s none = absurd s
contents_told told (path ∷ paths) [] s none = absurd s
contents_told told (path ∷ paths) (f ∷ fs) s none =
    let e = content_by_mode told path f.content f.mode f.place s.0 (λ mode_. none 0 f (omega arith) refl mode_) in
    let es = contents_told told paths fs s.1 (λ place g below has mode_. none (suc place) g (omega (arith, below)) has mode_) in
    cc

pub emptied_up_to : (fs : List File) (count more : ℕ) → count ≤ more → AreEmptied fs more → AreEmptied fs count
emptied_up_to fs count more within none place f below has mode_ = none place f (omega (arith, below, within)) has mode_
