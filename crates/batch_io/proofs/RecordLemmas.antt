-- The next bytes of a file, read piece after piece into one buffer.
use Rattle.std.proofs.Common.{◌≡◌, ℕ, ◌+◌, ◌≤◌, List, ◌++◌, Ok, refl, sym, ap, subst, ◌∙◌, length, take, drop, length-take-le, length-drop, take-take, take-add, take_at, drop_at, arith}
use Rattle.std.proofs.lemmas.Slice.{take-put_mid}
use borrow.Rule.Slice.PartMut.{put_mid, same_len_mid}
use Rattle.batch_io.specs.FilesState.{FilesState, Gives}
use Rattle.batch_io.specs.FilesCalls.{Reads}
use Rattle.batch_io.proofs.GivesLemmas.{Gives-more}

module _ (buf piece : List ℕ) (done k count : ℕ) (within : done ≤ length buf) (fits : count ≤ length piece) where
  pub front_grown : take (done + count) (put_mid done k buf piece) ≡ take done buf ++ take count piece
  front_grown =
      let front = length-take-le done buf within in
      sym (take-take (done + count) (done + length piece) (put_mid done k buf piece) (omega arith))
      ∙ ap (take (done + count)) (take-put_mid done k buf piece (done + length piece) refl within)
      ∙ take-add done count (take done buf ++ piece)
      ∙ (λ i. take_at (take done buf) piece done front i ++ take count (drop_at (take done buf) piece done front i))

-- a further piece was read
pub gives_on : (a b c : FilesState) (id : ℕ) (buf piece : List ℕ) (done k count : ℕ) → done ≤ length buf
    → Gives a b id (take done buf) → Reads b c id piece (Ok count)
    → Gives a c id (take (done + count) (put_mid done k buf piece))
gives_on a b c id buf piece done k count within before call =
    subst (Gives a c id) (sym (front_grown buf piece done k count within call.count))
    (Gives-more a b c id (take done buf) (take count piece) before call.given)

pub room_kept : (buf piece : List ℕ) (done k : ℕ) → done + k ≤ length buf → length piece ≡ k
    → length (put_mid done k buf piece) ≡ length buf
room_kept buf piece done k within long =
    same_len_mid done k buf piece (omega (arith, length-take-le k (drop done buf) (omega (arith, length-drop done buf))))
