-- What a call on a file does to it as the run sees it.
use Rattle.std.proofs.Common.{◌≡◌, ℕ, ◌+◌, ◌<◌, ◌≤◌, ◌⊎◌, Bool, true, false, List, [], ◌++◌, length, take, drop, length-append, length-drop, take_at, take_all, append_assoc, Option, Some, None, inl, inr, refl, sym, ap, ◌∙◌, arith}
use Rattle.std.specs.Prelude.{nat_le, nat_lt, is_some, unwrap_or, ◌==◌, ◌&&◌}
use Rattle.std.proofs.lemmas.Bool.Decides.{nat_tests}
use Rattle.std.specs.FinMap.{get}
use Rattle.batch_io.specs.FilesState.{Contents, bytes_at}
use Rattle.cob_runs.specs.Contents.{area}
use Rattle.cob_runs.specs.Files.{File, file, Mode, closed, reading, writing, opened, opened_new, after_close, Taken, after_read, taken_from, record_at, record_from, after_write, bytes_in}
use Rattle.cob_interp.specs.Readying.{settled_file}
use Rattle.cob_interp.specs.Told.{seen_file, IsSyncedIn, IsSynced, IsReadyToOpenIn, IsOutIn, IsReadyToOpen, IsOut}

-- a call's outcome on the file as it is seen, beside that on the file as it is kept
pub record FileFollows (now : Contents) (path : List ℕ) (kept seen_ : File × ℕ) : Type 0 where
  pub status : seen_.1 ≡ kept.1
  pub file : seen_.0 ≡ seen_file now path kept.0
  pub synced : IsSynced now path kept.0

pub record ReadFollows (told : Contents) (path : List ℕ) (kept seen_ : Taken) : Type 0 where
  pub status : seen_.status ≡ kept.status
  pub found : seen_.found ≡ kept.found
  pub file : seen_.file ≡ seen_file told path kept.file
  pub synced : IsSynced told path kept.file

-- a READ of the next record, beside one of the file as it is seen, of which so many bytes were read before
pub record WindowFollows (told : Contents) (path : List ℕ) (before : ℕ) (kept sees : Taken) : Type 0 where
  pub status : sees.status ≡ kept.status
  pub found : sees.found ≡ kept.found
  pub file : sees.file ≡ seen_file told path (settled_file before kept.file)
  pub synced : IsSynced told path (settled_file before kept.file)

-- ---- READ and WRITE

-- the record that is taken
pub takes : (size : ℕ) (f : File) (r : Option (List ℕ)) → f.mode ≡ reading false → record_at size f ≡ r
    → after_read size f ≡ taken_from size f r
takes size f r mode_ is = rw mode_ (ap (taken_from size f) is)

-- there is none where the file's end is near
pub from_end : (size place : ℕ) (bytes : List ℕ) → nat_le (place + size) (length bytes) ≡ false
    → record_from size place bytes ≡ None
from_end size place bytes e = rw e refl

pub from_place : (size place : ℕ) (bytes r : List ℕ) → nat_le (place + size) (length bytes) ≡ true
    → area bytes place size ≡ r → record_from size place bytes ≡ Some r
from_place size place bytes r e is = rw e (ap Some is)

module _ (told : Contents) (path : List ℕ) (size : ℕ) (f : File) (all window left : List ℕ)
    (mode_ : f.mode ≡ reading false) (is : get told path ≡ Some all) (within : f.place ≤ length all)
    (split : drop f.place all ≡ window ++ left) where
  abbrev kept_file : File
  kept_file = file (Some window) (reading false) 0

  abbrev sees_file : File
  sees_file = file (Some all) (reading false) f.place

  sees_is : seen_file told path f ≡ sees_file
  sees_is = rw (mode_, is) refl

  count : length all ≡ f.place + (length window + length left)
  count = let e = length-drop f.place all in
      let g = ap (λ (l : List ℕ). length l) split in
      let h = length-append window left in
      omega (arith, e, g, h)

  front : length window ≡ size → area all f.place size ≡ window
  front e = ap (take size) split ∙ take_at window left size e

  window_whole : length window ≡ size
      → WindowFollows told path f.place (after_read size kept_file) (after_read size sees_file)
  window_whole e =
      let g = count in
      let k : record_at size kept_file ≡ Some window =
      from_place size 0 window window (grind (arith, nat_tests)) (take_all size window (omega arith)) in
      let s : record_at size sees_file ≡ Some window =
      from_place size f.place all window (grind (arith, nat_tests)) (front e) in
      let p : f.place + size ≡ f.place + (0 + size) = omega arith in
      rw (takes size kept_file (Some window) refl k, takes size sees_file (Some window) refl s)
      (record {
        status = refl;
        found = refl;
        file = λ i. file (sym is i) (reading false) (p i);
        synced = (all, is, omega arith);
      })

  window_end : window ≡ [] → 0 < size → left ≡ []
      → WindowFollows told path f.place (after_read size kept_file) (after_read size sees_file)
  window_end e some f_ =
      let g = count in
      let h : length window ≡ 0 = ap (λ (l : List ℕ). length l) e in
      let k_ : length left ≡ 0 = ap (λ (l : List ℕ). length l) f_ in
      let k : record_at size kept_file ≡ None = from_end size 0 window (grind (arith, nat_tests)) in
      let s : record_at size sees_file ≡ None = from_end size f.place all (grind (arith, nat_tests)) in
      let p : f.place ≡ f.place + 0 = omega arith in
      rw (takes size kept_file None refl k, takes size sees_file None refl s)
      (record {
        status = refl;
        found = refl;
        file = λ i. file (sym is i) (reading true) (p i);
        synced = (all, is, omega arith);
      })

  and_false : (a b : Bool) → b ≡ false → (a && b) ≡ false
  and_false true b e = e
  and_false false b e = refl

  uncut_whole : length window ≡ size
      → ((after_read size sees_file).status == 10 && nat_lt f.place (length all)) ≡ false
  uncut_whole e =
      let g = count in
      let s : record_at size sees_file ≡ Some window =
      from_place size f.place all window (grind (arith, nat_tests)) (front e) in
      rw (takes size sees_file (Some window) refl s) refl

  uncut_end : window ≡ [] → left ≡ []
      → ((after_read size sees_file).status == 10 && nat_lt f.place (length all)) ≡ false
  uncut_end e f_ =
      let g = count in
      let h : length window ≡ 0 = ap (λ (l : List ℕ). length l) e in
      let k : length left ≡ 0 = ap (λ (l : List ℕ). length l) f_ in
      let t : nat_lt f.place (length all) ≡ false = grind (arith, nat_tests) in
      and_false ((after_read size sees_file).status == 10) (nat_lt f.place (length all)) t

  -- neither is cut
  pub window_uncut : (length window ≡ size) ⊎ ((window ≡ []) × (0 < size) × (left ≡ []))
      → ((after_read size (seen_file told path f)).status == 10
      && nat_lt (seen_file told path f).place (length (bytes_in (seen_file told path f)))) ≡ false
  window_uncut (inl e) = rw sees_is (uncut_whole e)
  window_uncut (inr e) = rw sees_is (uncut_end e.0 e.2)

  -- a rest that is no record is
  pub rest_cut : 0 < length window → length window < size → left ≡ []
      → ((after_read size (seen_file told path f)).status == 10
      && nat_lt (seen_file told path f).place (length (bytes_in (seen_file told path f)))) ≡ true
  rest_cut some few e =
      let g = count in
      let k : length left ≡ 0 = ap (λ (l : List ℕ). length l) e in
      let s : record_at size sees_file ≡ None = from_end size f.place all (grind (arith, nat_tests)) in
      let t : nat_lt f.place (length all) ≡ true = grind (arith, nat_tests) in
      rw (sees_is, takes size sees_file None refl s, t) refl

  pub rest_length : left ≡ [] → length (bytes_in (seen_file told path f)) ≡ f.place + length window
  rest_length e =
      let g = count in
      let k : length left ≡ 0 = ap (λ (l : List ℕ). length l) e in
      rw sees_is (omega arith)

  -- a READ with a whole record, or with nothing at the end
  pub window_follows : (length window ≡ size) ⊎ ((window ≡ []) × (0 < size) × (left ≡ []))
      → WindowFollows told path f.place (after_read size kept_file) (after_read size (seen_file told path f))
  window_follows (inl e) = rw sees_is (window_whole e)
  window_follows (inr e) = rw sees_is (window_end e.0 e.1 e.2)

module _ (told : Contents) (path : List ℕ) where
  read_by_mode : (size : ℕ) (content : Option (List ℕ)) (m : Mode) (place : ℕ) → (m ≡ reading false → ⊥)
      → IsSyncedIn told m path content place
      → ReadFollows told path (after_read size (file content m place))
      (after_read size (seen_file told path (file content m place)))
  read_by_mode size content closed place idle s = record { status = refl; found = refl; file = refl; synced = s }
  read_by_mode size content (reading true) place idle s = record { status = refl; found = refl; file = refl; synced = s }
  read_by_mode size content (reading false) place idle s = absurd (idle refl)
  read_by_mode size content writing place idle s = record { status = refl; found = refl; file = refl; synced = s }

  -- of a file that isn't read, or whose end was met
  pub read_follows : (size : ℕ) (f : File) → (f.mode ≡ reading false → ⊥) → IsSynced told path f
      → ReadFollows told path (after_read size f) (after_read size (seen_file told path f))
  read_follows size f idle s = read_by_mode size f.content f.mode f.place idle s

  write_by_mode : (r : List ℕ) (content : Option (List ℕ)) (m : Mode) (place : ℕ) → IsSyncedIn told m path content place
      → FileFollows told path (after_write r (file content m place))
      (after_write r (seen_file told path (file content m place)))
  write_by_mode r content closed place s = record { status = refl; file = refl; synced = s }
  write_by_mode r content (reading ended) place s = record { status = refl; file = refl; synced = s }
  write_by_mode r content writing place s =
      record {
        status = refl;
        file = ap (λ (b : List ℕ). file (Some b) writing place)
            (append_assoc (bytes_at told path) (bytes_in (file content writing place)) r);
        synced = s;
      }

  pub write_follows : (r : List ℕ) (f : File) → IsSynced told path f
      → FileFollows told path (after_write r f) (after_write r (seen_file told path f))
  write_follows r f s = write_by_mode r f.content f.mode f.place s

-- ---- OPEN and CLOSE, for which the outside's file is made ready first

module _ (told now : Contents) (path : List ℕ) where
  open_content : (content other : Option (List ℕ)) → is_some content ≡ is_some other → get now path ≡ other
      → FileFollows now path (opened_new false content) (opened_new false other)
  open_content None None e f =
      record { status = refl; file = ap (λ (c : Option (List ℕ)). file c closed 0) (sym f); synced = tt }
  open_content None (Some bytes) e f = cc
  open_content (Some bytes) None e f = cc
  open_content (Some bytes) (Some bytes_) e f = record {
    status = refl;
    file = ap (λ (c : Option (List ℕ)). file c (reading false) 0) (sym f);
    synced = (bytes_, f, omega arith);
  }

  open_by_mode : (output : Bool) (content : Option (List ℕ)) (m : Mode) (place : ℕ)
      → IsReadyToOpenIn told now path output m content
      → IsSyncedIn told m path content place
      → FileFollows now path (opened output (file content m place))
      (opened output (seen_file told path (file content m place)))
  open_by_mode true content closed place ready s = record {
    status = refl;
    file = sym (ap (λ (c : Option (List ℕ)). file (Some (unwrap_or c [] ++ [])) writing 0) ready);
    synced = ([], ready);
  }
  open_by_mode false content closed place ready s =
      open_content content (get told path) ready.1 ready.0
  open_by_mode output content (reading ended) place ready s = record {
    status = refl;
    file = ap (λ (c : Option (List ℕ)). file c (reading ended) place) (sym ready);
    synced = (s.0, ready ∙ s.1, s.2);
  }
  open_by_mode output content writing place ready s = record {
    status = refl;
    file = ap (λ (c : Option (List ℕ)). file (Some (unwrap_or c [] ++ bytes_in (file content writing place))) writing place)
        (sym ready);
    synced = (s.0, ready ∙ s.1);
  }

  pub open_follows : (output : Bool) (f : File) → IsReadyToOpen told now path output f → IsSynced told path f
      → FileFollows now path (opened output f) (opened output (seen_file told path f))
  open_follows output f ready s = open_by_mode output f.content f.mode f.place ready s

  close_by_mode : (content : Option (List ℕ)) (m : Mode) (place : ℕ) → IsOutIn told now path m (file content m place)
      → IsSyncedIn told m path content place
      → FileFollows now path (after_close (file content m place))
      (after_close (seen_file told path (file content m place)))
  close_by_mode content closed place ready s =
      record { status = refl; file = ap (λ (c : Option (List ℕ)). file c closed place) (sym ready); synced = tt }
  close_by_mode content (reading ended) place ready s =
      record { status = refl; file = ap (λ (c : Option (List ℕ)). file c closed 0) (sym ready); synced = tt }
  close_by_mode content writing place ready s = record {
    status = refl;
    file = ap (λ (c : Option (List ℕ)). file c closed 0)
        (ap (λ (c : Option (List ℕ)). Some (unwrap_or c [] ++ bytes_in (file content writing place))) s.1
        ∙ sym (ready s.0 s.1));
    synced = tt;
  }

  pub close_follows : (f : File) → IsOut told now path f → IsSynced told path f
      → FileFollows now path (after_close f) (after_close (seen_file told path f))
  close_follows f ready s = close_by_mode f.content f.mode f.place ready s
