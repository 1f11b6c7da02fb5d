-- A call on a file keeps it, unless it opens it for output.
use Rattle.std.proofs.Common.{◌≡◌, ℕ, zero, suc, Bool, true, false, List, [], ◌∷◌, slice_get, slice_set, Option, Some, None, refl, ap, subst}
use Rattle.std.proofs.lemmas.Option.{none-some, same_Some}
use Rattle.cob_runs.specs.Files.{File, Mode, closed, reading, writing, opened, opened_new, opened_in, closed_in, taken_from, record_at, read_in, written_in}
use Rattle.cob_runs.specs.Runs.{Contents, content_at}
use Rattle.cob_graph_laws.specs.Kept.{IsKept}

pub closed_apart : closed ≡ writing → ⊥
closed_apart e = cc

reading_apart : (ended : Bool) → reading ended ≡ writing → ⊥
reading_apart ended e = cc

module _ (contents : Contents) (place : ℕ) where
  abbrev Kept : File → Type 0
  Kept f = IsKept contents place f

  new_kept : (content : Option (List ℕ)) → content ≡ content_at contents place → Kept (opened_new false content).0
  new_kept None e = record { content = e; mode = closed_apart }
  new_kept (Some bytes) e = record { content = e; mode = reading_apart false }

  input_kept : (m : Mode) (f : File) → Kept f → Kept (opened_in false m f).0
  input_kept closed f k = new_kept f.content k.content
  input_kept (reading ended) f k = k
  input_kept writing f k = k

  pub open_kept : (output : Bool) (f : File) → (output ≡ true → ⊥) → Kept f → Kept (opened output f).0
  open_kept true f never k = absurd (never refl)
  open_kept false f never k = input_kept f.mode f k

  pub close_kept : (m : Mode) (f : File) → Kept f → Kept (closed_in m f).0
  close_kept closed f k = k
  close_kept (reading ended) f k = record { content = k.content; mode = closed_apart }
  close_kept writing f k = record { content = k.content; mode = closed_apart }

  record_kept : (size : ℕ) (f : File) (r : Option (List ℕ)) → Kept f → Kept (taken_from size f r).file
  record_kept size f None k = record { content = k.content; mode = reading_apart true }
  record_kept size f (Some r) k = record { content = k.content; mode = reading_apart false }

  pub read_kept : (size : ℕ) (m : Mode) (f : File) → Kept f → Kept (read_in size m f).file
  read_kept size closed f k = k
  read_kept size writing f k = k
  read_kept size (reading true) f k = k
  read_kept size (reading false) f k = record_kept size f (record_at size f) k

  pub write_kept : (m : Mode) (r : List ℕ) (f : File) → f.mode ≡ m → Kept f → Kept (written_in m r f).0
  write_kept closed r f e k = k
  write_kept (reading ended) r f e k = k
  write_kept writing r f e k = absurd (k.mode e)

  -- ---- among all files

  -- whether there is such a file; if so, it is kept
  abbrev pub KeptIn : Bool → Option File → Type 0
  KeptIn there None = there ≡ false
  KeptIn there (Some f) = (there ≡ true) × IsKept contents place f

  pub set_kept : (there : Bool) (fs : List File) (i at : ℕ) (f g : File) → slice_get fs i ≡ Some f
      → (i ≡ at → Kept f → Kept g) → KeptIn there (slice_get fs at) → KeptIn there (slice_get (slice_set fs i g) at)
  set_kept there [] i at f g e own k = absurd (none-some f e)
  set_kept there (x ∷ fs) zero zero f g e own k =
      (k.0, own refl (subst (λ (y : File). Kept y) (same_Some x f e) k.1))
  set_kept there (x ∷ fs) zero (suc at) f g e own k = k
  set_kept there (x ∷ fs) (suc i) zero f g e own k = k
  set_kept there (x ∷ fs) (suc i) (suc at) f g e own k = set_kept there fs i at f g e (λ same. own (ap suc same)) k
