-- Files that statements name are declared, and what is declared has a path and a place in the world.
use Rattle.std.proofs.Common.{◌≡◌, ℕ, ◌+◌, ◌<◌, ◌≤◌, zero, suc, Bool, true, false, eqb, cond, List, [], ◌∷◌, length, Option, Some, None, refl, sym, ap, subst, ◌∙◌, arith}
use Rattle.std.specs.Prelude.{slice_get, string_bytes}
use Rattle.std.specs.List.{AllByRecursion, list_any}
use Rattle.std.specs.Option.{option_map}
use Rattle.std.proofs.lemmas.List.{length-map}
use Rattle.std.proofs.lemmas.Option.{none-some, slice_get_within}
use Rattle.cob_data.specs.declared.layout.FileDecl.{FileDecl}
use Rattle.cob_data.specs.declared.layout.Layout.{Layout}
use Rattle.cob_program.specs.declared.act.Opening.{Opening}
use Rattle.cob_program.specs.Act.{Act, open_files, close_files, read, write}
use Rattle.cob_runs.specs.Acts.{file_from}
use Rattle.cob_runs.specs.Effects.{act_at}
use Rattle.cob_runs.specs.Files.{File}
use Rattle.cob_interp.specs.declared.parts.Call.TheVariants as call
use Rattle.cob_interp.specs.declared.setting.Setting.{Setting}
use Rattle.cob_interp.specs.Able.{HasItsFiles}
use Rattle.cob_interp.specs.Setting.{program_of, paths_of, IsCall}
use Rattle.cob_interp.specs.Readying.{IsDeclared, IsPath}
use Rattle.cob_interp.specs.Rooms.{written_by}
use Rattle.cob_interp.proofs.RecordReads.{read_act}

there : {X : Type 0} (xs : List X) (place : ℕ) → place < length xs → (x : X) × (slice_get xs place ≡ Some x)
there [] place within = absurd (omega (arith, within))
there (x ∷ xs) zero within = (x, refl)
there (x ∷ xs) (suc place) within = there xs place (omega (arith, within))

-- ---- what is declared is there

pub declared_below : (s : Setting) (place : ℕ) → place < length s.program.now.layout.files → IsDeclared s place
declared_below s place within = there s.program.now.layout.files place within

module _ (s : Setting) (all : length s.paths.now ≡ length s.program.now.layout.files) (place : ℕ)
    (declared : IsDeclared s place) where
  within : place < length s.program.now.layout.files
  within = slice_get_within s.program.now.layout.files place declared.0 declared.1

  has_path : place < length (paths_of s)
  has_path = subst (λ (n : ℕ). place < n) (sym (length-map s.paths.now string_bytes ∙ all)) within

  pub path_there : (path : List ℕ) × IsPath s place path
  path_there =
      let at = there (paths_of s) place has_path in
      (at.0, record { decl = declared.0; declared = declared.1; path_ = at.1 })

  pub no_path : length s.paths.now ≤ place → ⊥
  no_path past = omega (arith, past, all, within)

  pub no_file : (fs : List File) → length fs ≡ length (paths_of s) → slice_get fs place ≡ None → ⊥
  no_file fs as_many none =
      let at = there fs place (subst (λ (n : ℕ). place < n) (sym as_many) has_path) in
      none-some at.0 (sym none ∙ at.1)

-- no mode is asked of a file that is there
pub no_mode : (o : Option File) → None ≡ option_map (λ f. f.mode) o → o ≡ None
no_mode None e = refl
no_mode (Some f) e = absurd (none-some f.mode e)

-- ---- what is named is declared

all_at : {X : Type 0} (P : X → Type 0) (xs : List X) (place : ℕ) (x : X) → AllByRecursion P xs
    → slice_get xs place ≡ Some x → P x
all_at P [] place x all at = absurd (none-some x at)
all_at P (y ∷ xs) zero x all at = let same : y ≡ x = cc in subst P same all.0
all_at P (y ∷ xs) (suc place) x all at = all_at P xs place x all.1 at

module _ (s : Setting) (its : HasItsFiles (program_of s)) (number : ℕ) where
  pub opens_declared : (os : List Opening) → act_at (program_of s) number ≡ Some (open_files os) → (k : ℕ) (o : Opening)
      → slice_get os k ≡ Some o → IsDeclared s o.file
  opens_declared os is k o at =
      declared_below s o.file
      (all_at (λ (x : Opening). x.file < length s.program.now.layout.files) os k o (its.named number (open_files os) is) at)

  pub closes_declared : (fs : List ℕ) → act_at (program_of s) number ≡ Some (close_files fs) → (k file : ℕ)
      → slice_get fs k ≡ Some file → IsDeclared s file
  closes_declared fs is k file at =
      declared_below s file
      (all_at (λ (f : ℕ). f < length s.program.now.layout.files) fs k file (its.named number (close_files fs) is) at)

  pub reads_declared : (a : Act) (file : ℕ) → act_at (program_of s) number ≡ Some a → IsCall a (call.Read file)
      → IsDeclared s file
  reads_declared a file is reads =
      let r = read_act a file reads in
      declared_below s file (its.named number (read file r.0 r.1 r.2) (is ∙ ap Some r.3))

found_below : (l : Layout) (n : ℕ) (ds : List FileDecl) (rec_ file : ℕ) → file_from l n ds rec_ ≡ Some file
    → file < n + length ds
found_below l n [] rec_ file e = absurd (none-some file e)
found_below l n (d ∷ ds) rec_ file e =
    at (list_any (λ r. eqb r rec_) d.records) e (found_below l (n + 1) ds rec_ file) where
      at : (here : Bool) → cond here (Some n) (file_from l (n + 1) ds rec_) ≡ Some file
          → (file_from l (n + 1) ds rec_ ≡ Some file → file < n + 1 + length ds) → file < n + length (d ∷ ds)
      at true is later = let same : n ≡ file = cc in omega (arith, same)
      at false is later = omega (arith, later is)

-- the file of a record that is written
pub write_declared : (s : Setting) (a : Act) (file : ℕ) → written_by s.program.now.layout a ≡ Some file
    → IsDeclared s file
write_declared s (write r from) file e =
    declared_below s file (omega (arith, found_below s.program.now.layout 0 s.program.now.layout.files r file e))
write_declared s _ file e = absurd (none-some file e)
