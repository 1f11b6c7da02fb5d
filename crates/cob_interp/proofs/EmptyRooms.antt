-- A kept file whose bytes were taken out, and that got none.
use Rattle.std.proofs.Common.{◌≡◌, ℕ, List, [], Option, Some, None, refl, sym, ap, ◌∙◌}
use Rattle.std.specs.Prelude.{slice_get, slice_set}
use Rattle.cob_runs.specs.Files.{File, file, Mode, closed, reading, writing}
use Rattle.cob_runs.specs.State.{World, with_files}
use Rattle.cob_world.specs.Calling.{refilled, refilled_on, replaced, replaced_on}
use Rattle.cob_interp.specs.Doing.{IsFresh}
use Rattle.cob_interp.specs.Readying.{IsWrittenAt, emptied_in, emptied_file, emptied_on, emptied}
use Rattle.cob_interp.proofs.OpenLemmas.{get_set}
use Rattle.cob_interp.proofs.Purposes.{set_same}

idle_file : (m : Mode) (f : File) → (m ≡ writing → ⊥) → emptied_in m f ≡ f
idle_file closed f idle = refl
idle_file (reading ended) f idle = refl
idle_file writing f idle = absurd (idle refl)

idle_on : (place : ℕ) (fs : List File) (o : Option File) → slice_get fs place ≡ o → IsWrittenAt o None
    → emptied_on place fs o ≡ fs
idle_on place fs None has idle = refl
idle_on place fs (Some f) has idle =
    ap (slice_set fs place) (idle_file f.mode f idle) ∙ set_same fs place f has

-- of a file that isn't written nothing waits
pub idle_emptied : (place : ℕ) (w : World) → IsWrittenAt (slice_get w.files place) None → w ≡ emptied place w
idle_emptied place w idle =
    sym (ap (with_files w) (idle_on place w.files (slice_get w.files place) refl idle))

once_in : (f : File) (at : ℕ) → f.mode ≡ writing → f.place ≡ at → file (Some []) f.mode at ≡ emptied_file f
once_in f at mode_ place_ =
    ap (λ (m : Mode). file (Some []) m at) mode_ ∙ sym (ap (λ (n : ℕ). file (Some []) writing n) place_)
    ∙ sym (ap (λ (m : Mode). emptied_in m f) mode_)

once_on : (place at : ℕ) (fs : List File) (o : Option File) → IsWrittenAt o (Some at)
    → replaced_on place (Some []) at fs o ≡ emptied_on place fs o
once_on place at fs None is = absurd is
once_on place at fs (Some f) is = ap (slice_set fs place) (once_in f at is.0 is.1)

pub emptied_once : (place at : ℕ) (w : World) → IsWrittenAt (slice_get w.files place) (Some at)
    → with_files w (replaced place (Some []) at w.files) ≡ emptied place w
emptied_once place at w is = ap (with_files w) (once_on place at w.files (slice_get w.files place) is)

twice_on : (place : ℕ) (fs : List File) (o : Option File) (at : ℕ) → slice_get fs place ≡ o → IsWrittenAt o (Some at)
    → refilled place (Some []) (emptied_on place fs o) ≡ emptied_on place fs o
twice_on place fs None at has is = absurd is
twice_on place fs (Some f) at has is =
    let there = get_set fs place f (emptied_file f) has in
    let whole : file (Some []) (emptied_file f).mode (emptied_file f).place ≡ emptied_file f =
    ap (λ (m : Mode). file (Some []) (emptied_in m f).mode (emptied_in m f).place) is.0
    ∙ sym (ap (λ (m : Mode). emptied_in m f) is.0) in
    ap (refilled_on place (Some []) (slice_set fs place (emptied_file f))) there
    ∙ ap (slice_set (slice_set fs place (emptied_file f)) place) whole
    ∙ set_same (slice_set fs place (emptied_file f)) place (emptied_file f) there

pub emptied_twice : (place at : ℕ) (w v : World) → IsWrittenAt (slice_get w.files place) (Some at)
    → v ≡ emptied place w → with_files v (refilled place (Some []) v.files) ≡ emptied place w
emptied_twice place at w v is e =
    ap (λ (u : World). with_files u (refilled place (Some []) u.files)) e
    ∙ ap (with_files w) (twice_on place w.files (slice_get w.files place) at refl is)

-- ---- the same bytes

fresh_on : (place : ℕ) (fs : List File) (o : Option File) → slice_get fs place ≡ o → IsFresh o
    → refilled_on place (Some []) fs o ≡ fs
fresh_on place fs None has fresh = refl
fresh_on place fs (Some f) has fresh =
    ap (slice_set fs place) (sym (ap (λ (c : Option (List ℕ)). file c f.mode f.place) fresh)) ∙ set_same fs place f has

pub fresh_filled : (place : ℕ) (w : World) → IsFresh (slice_get w.files place)
    → with_files w (refilled place (Some []) w.files) ≡ w
fresh_filled place w fresh = ap (with_files w) (fresh_on place w.files (slice_get w.files place) refl fresh)
