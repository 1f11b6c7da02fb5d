-- Results of readers, one after the other.
use Rattle.std.proofs.Common.{◌≡◌, ◌≤◌, ◌⊎◌, inl, inr, ⊎_elim, List, [], ◌∷◌, ◌++◌, length, length-append, Result, Ok, Err, refl, sym, ap, ◌∙◌, append_assoc, arith}
use Rattle.reading.specs.Readers.{Fault, ◌>>=◌}

pub bind_ok : {A B : Type 0} (r : Result A Fault) (f : A → Result B Fault) (y : B) → (r >>= f) ≡ Ok y → (x : A) × (r ≡ Ok x) × (f x ≡ Ok y)
bind_ok (Ok x) f y e = (x, refl, e)
bind_ok (Err d) f y e = absurd cc

pub bind_err : {A B : Type 0} (r : Result A Fault) (f : A → Result B Fault) (d : Fault) → (r >>= f) ≡ Err d → (r ≡ Err d) ⊎ ((x : A) × (r ≡ Ok x) × (f x ≡ Err d))
bind_err (Ok x) f d e = inr (x, refl, e)
bind_err (Err d') f d e = inl cc

abbrev pub done : {A : Type 0} → A → Result A Fault
done x = Ok x

pub ok_is : {A : Type 0} (x y : A) → done x ≡ done y → x ≡ y
ok_is x y e = cc

abbrev pub faulty : {A : Type 0} → Fault → Result A Fault
faulty d = Err d

pub fault_is : {A : Type 0} (d d' : Fault) → faulty {A = A} d ≡ faulty d' → d ≡ d'
fault_is d d' e = cc

pub ok_fails : {A P : Type 0} (x : A) (d : Fault) → done x ≡ faulty d → P
ok_fails x d e = absurd cc

-- where a value is only changed, the fault is the first reader's
pub fault_before : {A B : Type 0} (r : Result A Fault) (f : A → B) (d : Fault) → (r >>= λ x. Ok (f x)) ≡ Err d → r ≡ Err d
fault_before r f d e = ⊎_elim (λ at. at) (λ w. ok_fails (f w.0) d w.2) (bind_err r (λ x. Ok (f x)) d e)

module _ {T : Type 0} where
  -- the end of a list, cut where r begins
  pub cut_at : (q r u v : List T) → q ++ r ≡ u ++ v → length r ≤ length v → (m : List T) × (v ≡ m ++ r) × (q ≡ u ++ m)
  cut_at q r [] v e le = (q, sym e, refl)
  cut_at [] r (x ∷ u) v e le = absurd (omega (arith, ap length e, length-append u v))
  cut_at (y ∷ q) r (x ∷ u) v e le =
      let same : y ≡ x = cc in
      let rest : q ++ r ≡ u ++ v = cc in
      let found = cut_at q r u v rest le in
      (found.0, found.1, ap (λ (z : List T). y ∷ z) found.2 ∙ ap (λ (z : T). z ∷ (u ++ found.0)) same)

  -- where two lists go on alike up to t: what stands there behind a front of u
  pub behind_front : (u v more read left : List T) (t : T) → u ++ t ∷ v ≡ read ++ left → length read ≤ length u → (t' : T) × (after z : List T) × (left ≡ t' ∷ after) × (u ++ t ∷ more ≡ read ++ t' ∷ z)
  behind_front u v more read left t parts short = let cut = cut_at u (t ∷ v) read left parts (omega (arith, ap length parts, length-append u (t ∷ v), length-append read left)) in go cut.0 cut.1 cut.2
    where
      go : (m : List T) → left ≡ m ++ t ∷ v → u ≡ read ++ m → (t' : T) × (after z : List T) × (left ≡ t' ∷ after) × (u ++ t ∷ more ≡ read ++ t' ∷ z)
      go [] el eu = (t, v, more, el, ap (λ (y : List T). y ++ t ∷ more) eu ∙ append_assoc read [] (t ∷ more))
      go (m0 ∷ m) el eu = (m0, m ++ t ∷ v, m ++ t ∷ more, el, ap (λ (y : List T). y ++ t ∷ more) eu ∙ append_assoc read (m0 ∷ m) (t ∷ more))
