-- How bytes are put to the end of a file, piece after piece.
use Rattle.std.proofs.Common.{◌≡◌, ◌≢◌, ℕ, ◌+◌, ◌-◌, ◌<◌, ◌≤◌, cond, List, [], ◌∷◌, ◌++◌, None, Some, Option, IsSome, Result, Ok, Err, inr, refl, sym, ap, ◌∙◌, append_assoc, append-nil, length, take, drop, length-take, length-drop, subst, arith}
use Rattle.std.specs.Prelude.{◌⊎◌, unwrap_or, option_map, OnErr}
use Rattle.std.specs.Cmp.Lexicographic.{slice_cmp}
use Rattle.std.specs.Ordering.{nat_cmp, eq_by_cmp}
use Rattle.std.specs.FinMap.{get, insert, get-insert}
use Rattle.std.proofs.lemmas.Cmp.{nat_list_cmp_total}
use Rattle.std.proofs.lemmas.Bool.{false_from_ne_true}
use Rattle.std.proofs.lemmas.List.{take_rest}
use Rattle.std.proofs.lemmas.Result.{on_ok_weaker}
use Rattle.std.proofs.Math.Seq.{take-add}
use Rattle.batch_io.specs.declared.ends.MakeEnd.{MakeEnd}
use Rattle.batch_io.specs.FilesState.{Contents, FilesState, Told, Handle, Writing, KeepsIds, bytes_at, known_bytes}
use Rattle.batch_io.specs.FilesCalls.{Creates, Writes, with_piece}
use Rattle.batch_io.specs.Wholes.{Grows, Holds, PutsToClose, PutsFile, with_bytes}
use Rattle.batch_io.proofs.EntriesLemmas.{is_same, same_contents, same_name, shadowed}
use Rattle.batch_io.proofs.WholeLemmas.{piece_fits}

module _ (m : Contents) (name : List ℕ) where
  -- of two insertions at one name the later counts
  insert-twice : (v w : List ℕ) → insert (insert m name v) name w ≡ insert m name w
  insert-twice v w = same_contents _ _ (λ q.
      get-insert nat_list_cmp_total (insert m name v) name w q
      ∙ ap (cond (eq_by_cmp (slice_cmp nat_cmp) q name) (Some w)) (get-insert nat_list_cmp_total m name v q)
      ∙ sym (shadowed (eq_by_cmp (slice_cmp nat_cmp) q name) (Some w) (Some v) (get m q))
      ∙ sym (get-insert nat_list_cmp_total m name w q))

  bytes-insert : (v : List ℕ) → bytes_at (insert m name v) name ≡ v
  bytes-insert v = ap (λ o. unwrap_or o [])
      (get-insert nat_list_cmp_total m name v name ∙ ap (λ b. cond b (Some v) (get m name)) (is_same name name refl))

  get-insert_other : (v q : List ℕ) → q ≢ name → get (insert m name v) q ≡ get m q
  get-insert_other v q apart =
      get-insert nat_list_cmp_total m name v q
      ∙ ap (λ b. cond b (Some v) (get m q)) (false_from_ne_true _ (λ same. apart (same_name q name same)))

  -- two pieces are one
  insert-more : (xs ys : List ℕ) → let once = insert m name (bytes_at m name ++ xs) in
      insert once name (bytes_at once name ++ ys) ≡ insert m name (bytes_at m name ++ (xs ++ ys))
  insert-more xs ys =
      insert-twice (bytes_at m name ++ xs) _
      ∙ ap (λ bytes. insert m name (bytes ++ ys)) (bytes-insert (bytes_at m name ++ xs))
      ∙ ap (insert m name) (append_assoc (bytes_at m name) xs ys)

module _ (told : Told) (id : ℕ) where
  -- bytes that are there stand as one piece
  pub with_bytes-piece : (bytes : List ℕ) → 0 < length bytes → with_bytes id bytes told ≡ with_piece id bytes told
  with_bytes-piece [] some = absurd (omega arith)
  with_bytes-piece (byte ∷ bytes) some = refl

  -- the id's file has the bytes at its end
  pub with_bytes-own : (bytes : List ℕ) → let name = (told.handle id).name in
      bytes_at (with_bytes id bytes told) name ≡ bytes_at told.bytes name ++ bytes
  with_bytes-own [] = sym (append-nil (bytes_at told.bytes (told.handle id).name))
  with_bytes-own (byte ∷ bytes) = bytes-insert told.bytes (told.handle id).name _

  -- every other name is as it was
  pub with_bytes-other : (bytes other : List ℕ) → other ≢ (told.handle id).name
      → get (with_bytes id bytes told) other ≡ get told.bytes other
  with_bytes-other [] other apart = refl
  with_bytes-other (byte ∷ bytes) other apart = get-insert_other told.bytes (told.handle id).name _ other apart

  -- a piece behind what was put before
  with_bytes-more : (mid : Told) (front piece : List ℕ) → 0 < length piece
      → mid.bytes ≡ with_bytes id front told → mid.handle id ≡ told.handle id
      → with_piece id piece mid ≡ with_bytes id (front ++ piece) told
  with_bytes-more mid [] piece some bytes handle =
      ap (λ h. insert mid.bytes h.name (bytes_at mid.bytes h.name ++ piece)) handle
      ∙ ap (λ m. insert m (told.handle id).name (bytes_at m (told.handle id).name ++ piece)) bytes
      ∙ sym (with_bytes-piece piece some)
  with_bytes-more mid (byte ∷ front) piece some bytes handle =
      ap (λ h. insert mid.bytes h.name (bytes_at mid.bytes h.name ++ piece)) handle
      ∙ ap (λ m. insert m (told.handle id).name (bytes_at m (told.handle id).name ++ piece)) bytes
      ∙ insert-more told.bytes (told.handle id).name (byte ∷ front) piece

known-more : (old mid : Option Told) (id : ℕ) (front piece : List ℕ) → 0 < length piece
    → option_map (λ told. told.bytes) mid ≡ option_map (with_bytes id front) old
    → option_map (λ told. told.handle id) mid ≡ option_map (λ told. told.handle id) old
    → option_map (with_piece id piece) mid ≡ option_map (with_bytes id (front ++ piece)) old
known-more None None id front piece some bytes handle = refl
known-more None (Some mid) id front piece some bytes handle = absurd (cc bytes)
known-more (Some old) None id front piece some bytes handle = absurd (cc bytes)
known-more (Some old) (Some mid) id front piece some bytes handle =
    ap (λ m. Some m) (with_bytes-more old id mid front piece some (cc bytes) (cc handle))

pub KeepsIds-more : (a b c : FilesState) → KeepsIds a b → KeepsIds b c → KeepsIds a c
KeepsIds-more a b c first second = record {
  purpose = λ id. second.purpose id ∙ first.purpose id;
  handle = λ id is_open.
      second.handle id (subst (λ purpose. IsSome purpose) (sym (first.purpose id)) is_open) ∙ first.handle id is_open;
}

-- the first `done` of the bytes stand at the end of the id's file, and no call failed
pub record PutSoFar (old new : FilesState) (id : ℕ) (bytes : List ℕ) (done : ℕ) : Type 0 where
  pub within : done ≤ length bytes
  pub grown : Grows old new id (take done bytes)
  pub reading : new.reading ≡ old.reading
  pub writing : new.writing ≡ old.writing
  pub ids : KeepsIds old new

-- a write of what is left puts more of the bytes
pub put_more : (a b c : FilesState) (id : ℕ) (bytes : List ℕ) (done count : ℕ) (result : Result ℕ MakeEnd)
    → Writes b c id (take (length bytes - done) (drop done bytes)) result → result ≡ Ok count
    → PutSoFar a b id bytes done → a.purpose id ≡ Some Writing → done < length bytes
    → PutSoFar a c id bytes (done + count)
put_more a b c id bytes done count result written is_ok before created left =
    let rest = take (length bytes - done) (drop done bytes) in
    let call : Writes b c id rest (Ok count) = subst (λ r. Writes b c id rest r) is_ok written in
    let fits = piece_fits bytes done count before.within call.count in
    let some : 0 < count = call.progress (simp (length-take, length-drop) (omega arith)) in
    let size : length (take count (drop done bytes)) ≡ count = simp (length-take, length-drop) (omega arith) in
    let handle = before.ids.handle id (subst (λ purpose. IsSome purpose) (sym created) refl) in
    record {
      within = fits;
      grown = call.appended
          ∙ ap (λ front. option_map (with_piece id (take count front)) b.told) (take_rest bytes done)
          ∙ known-more a.told b.told id (take done bytes) (take count (drop done bytes)) (omega (arith, size)) before.grown handle
          ∙ ap (λ front. option_map (with_bytes id front) a.told) (sym (take-add done count bytes));
      reading = call.reading ∙ before.reading;
      writing = call.writing.kept refl ∙ before.writing;
      ids = KeepsIds-more a b c before.ids call.ids;
    }

-- ---- a file that is made anew

abbrev at_start : List ℕ → Handle
at_start name = record { name = name; place = 0 }

module _ (id : ℕ) (name bytes : List ℕ) where
  -- what is put into an empty file is all that it holds
  with_bytes-empty : (old : Contents) (mid : Told) → mid.bytes ≡ insert old name [] → (mid.handle id).name ≡ name
      → with_bytes id bytes mid ≡ insert old name bytes
  with_bytes-empty old mid emptied named = elim bytes as (λ put. with_bytes id put mid ≡ insert old name put) [
    | [] ↦ emptied
    | byte ∷ more ↦
        ap (λ at. insert mid.bytes at (bytes_at mid.bytes at ++ (byte ∷ more))) named
        ∙ ap (λ m. insert m name (bytes_at m name ++ (byte ∷ more))) emptied
        ∙ insert-twice old name [] _
        ∙ ap (λ held. insert old name (held ++ (byte ∷ more))) (bytes-insert old name [])
  ]

  known-put : (old mid : Option Told)
      → option_map (λ told. told.bytes) mid ≡ option_map (λ contents. insert contents name []) (option_map (λ told. told.bytes) old)
      → option_map (λ told. told.handle id) mid ≡ option_map (λ _. at_start name) old
      → option_map (with_bytes id bytes) mid ≡ option_map (λ contents. insert contents name bytes) (option_map (λ told. told.bytes) old)
  known-put None None emptied handle = refl
  known-put None (Some mid) emptied handle = absurd (cc emptied)
  known-put (Some old) None emptied handle = absurd (cc emptied)
  known-put (Some old) (Some mid) emptied handle =
      let begins : mid.handle id ≡ at_start name = cc handle in
      ap (λ m. Some m) (with_bytes-empty old.bytes mid (cc emptied) (ap (λ (h : Handle). h.name) begins))

module _ (old mid new : FilesState) (id : ℕ) (name bytes : List ℕ) (created : Creates old mid name (Ok id)) where
  holds : (put : List ℕ) → Grows mid new id put → Holds old new name put
  holds put grown = grown ∙ known-put id name put old.told mid.told created.emptied created.ids.handle

  refused_holds : (result : Result Unit MakeEnd)
      → OnErr result ((n : ℕ) × (n ≤ length bytes) × Grows mid new id (take n bytes))
      → OnErr result ((known_bytes new ≡ known_bytes old) ⊎ ((n : ℕ) × (n ≤ length bytes) × Holds old new name (take n bytes)))
  refused_holds (Ok done) front = tt
  refused_holds (Err end) (n, within, grown) = inr (n, within, holds (take n bytes) grown)

  -- a file that was created, filled and closed
  pub puts_file : (result : Result Unit MakeEnd) → PutsToClose mid new id bytes result → PutsFile old new name bytes result
  puts_file result put = record {
    writing = search arith;
    reading = put.reading ∙ created.reading;
    ok = on_ok_weaker result (holds bytes) put.ok;
    err = refused_holds result put.err;
    ids = search arith;
  }
