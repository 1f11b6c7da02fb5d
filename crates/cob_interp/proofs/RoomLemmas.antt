-- Room for one more record of a file that is written.
use Rattle.std.proofs.Common.{◌≡◌, ◌≤◌, ℕ, ◌+◌, Bool, true, false, not, Result, Ok, Err, [], inl, inr, Option, Some, None, length, refl, sym, subst}
use Rattle.std.specs.Prelude.{slice_get, IfOk}
use Rattle.cob_data.specs.declared.layout.FileDecl.{FileDecl}
use Rattle.cob_program.specs.Act.{Act}
use Rattle.cob_runs.specs.Acts.{decl_at}
use Rattle.cob_runs.specs.Files.{File, writing, bytes_in}
use Rattle.cob_runs.specs.State.{World}
use Rattle.cob_interp.specs.declared.ends.RunEnd.{RunEnd}
use Rattle.cob_interp.specs.declared.setting.Setting.{Setting}
use Rattle.cob_interp.specs.Readying.{emptied}
use Rattle.cob_interp.specs.Rooms.{HasRoom, HasRoomAt, HasRoomFor, written_by}
use Rattle.cob_interp.proofs.Emptying.{emptied_here}

pub no_decl : (d : Option FileDecl) (o : Option File) → ((decl : FileDecl) × (d ≡ Some decl) → ⊥) → HasRoom d o
no_decl None o none = tt
no_decl (Some d) o none = absurd (none (d, refl))

pub no_file : (d : Option FileDecl) (o : Option File) → o ≡ None → HasRoom d o
no_file None o none = tt
no_file (Some d) None none = tt
no_file (Some d) (Some f) none = cc

pub room_by : (d : Option FileDecl) (o : Option File) (decl : FileDecl) (f : File) (size : ℕ) → d ≡ Some decl
    → decl.length ≡ size → o ≡ Some f → length (bytes_in f) + size ≤ 65536 → HasRoom d o
room_by d o decl f size declared sized has within =
    subst (λ (x : Option FileDecl). HasRoom x o) (sym declared)
    (subst (λ (x : Option File). HasRoom (Some decl) x) (sym has)
    (inl (subst (λ (n : ℕ). length (bytes_in f) + n ≤ 65536) (sym sized) within)))

pub no_write : (s : Setting) (w : World) (a : Act) → written_by s.program.now.layout a ≡ None → HasRoomFor s w a
no_write s w a none = subst (λ (o : Option ℕ). HasRoomAt s.program.now.layout w o) (sym none) tt

pub room_at : (s : Setting) (w : World) (a : Act) (place : ℕ) → written_by s.program.now.layout a ≡ Some place
    → HasRoom (decl_at s.program.now.layout place) (slice_get w.files place) → HasRoomFor s w a
room_at s w a place is room = subst (λ (o : Option ℕ). HasRoomAt s.program.now.layout w o) (sym is) room

none_waits : (d : Option FileDecl) (o : Option File)
    → ((f : File) → o ≡ Some f → f.mode ≡ writing → bytes_in f ≡ []) → HasRoom d o
none_waits None o none = tt
none_waits (Some d) None none = tt
none_waits (Some d) (Some f) none = inr (λ mode_. none f refl mode_)

-- behind what went out
pub room_behind : (s : Setting) (w v : World) (a : Act) (place : ℕ) → written_by s.program.now.layout a ≡ Some place
    → v ≡ emptied place w → HasRoomFor s v a
room_behind s w v a place is gone =
    room_at s v a place is
    (subst (λ (u : World). HasRoom (decl_at s.program.now.layout place) (slice_get u.files place)) (sym gone)
    (none_waits (decl_at s.program.now.layout place) (slice_get (emptied place w).files place) (emptied_here w place)))

pub room_out : (s : Setting) (w v : World) (a : Act) (place : ℕ) (result : Result (Unit {0}) RunEnd)
    → written_by s.program.now.layout a ≡ Some place → IfOk result (λ _. v ≡ emptied place w)
    → IfOk result (λ _. HasRoomFor s v a)
room_out s w v a place (Ok u) is gone = room_behind s w v a place is gone
room_out s w v a place (Err e) is gone = tt

pub not_true : (b : Bool) → not b ≡ true → b ≡ false
not_true true e = cc
not_true false e = refl
