-- Bytes put before or behind known bytes, piece after piece.
use Rattle.std.proofs.Common.{◌≡◌, ℕ, List, [], ◌++◌, None, Some, Option, refl, sym, ap, append_assoc, append-nil}
use Rattle.std.specs.Io.KnownBytes.{prepend_known, append_known}

pub prepend_known-nil : (o : Option (List ℕ)) → o ≡ prepend_known [] o
prepend_known-nil None = refl
prepend_known-nil (Some xs) = refl

pub prepend_known-append : (xs ys : List ℕ) (o : Option (List ℕ)) → prepend_known xs (prepend_known ys o) ≡ prepend_known (xs ++ ys) o
prepend_known-append xs ys None = refl
prepend_known-append xs ys (Some zs) = ap (λ l. Some l) (sym (append_assoc xs ys zs))

pub append_known-nil : (o : Option (List ℕ)) → o ≡ append_known o []
append_known-nil None = refl
append_known-nil (Some xs) = ap (λ l. Some l) (sym (append-nil xs))

pub append_known-append : (o : Option (List ℕ)) (xs ys : List ℕ) → append_known (append_known o xs) ys ≡ append_known o (xs ++ ys)
append_known-append None xs ys = refl
append_known-append (Some zs) xs ys = ap (λ l. Some l) (append_assoc zs xs ys)
