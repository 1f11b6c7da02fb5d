-- What searches find.
use Rattle.std.proofs.Common.{◌≡◌, ℕ, zero, suc, ℤ, pos, negsuc, ◌+ℤ◌, ◌-ℤ◌, ◌≤ℤ◌, Bool, true, false, Option, Some, None, refl, ap, arith}
use Rattle.std.specs.Prelude.{is_some, if◌then◌else◌}
use Rattle.std.proofs.lemmas.Int.{ints, by_lt_z}
use Rattle.interval_domain.specs.declared.bounds.Interval.{Interval}
use Rattle.interval_domain.specs.Bounds.{Holds}
use Rattle.interval_domain.specs.Corners.{interval}
use Rattle.cob_program.specs.Values.{◌>>=◌}
use Rattle.transfer_ranges.specs.Kept.{IsLeastIfAny, count_of, size_of, first_up, first_down, is_met, kept}

-- how many numbers an interval has
pub size_is : (i : Interval) → i.low ≤ℤ i.high → pos (size_of i) ≡ i.high -ℤ i.low +ℤ pos 1
size_is i h = go (i.high -ℤ i.low +ℤ pos 1) (omega (arith, ints))
  where
    go : (z : ℤ) → pos 1 ≤ℤ z → pos (count_of z) ≡ z
    go (pos n) h = refl
    go (negsuc n) h = absurd (omega (arith, ints))

-- an interval in which a number is found isn't empty
some_room : (z a x : ℤ) → a ≤ℤ x → (x +ℤ pos 1) ≤ℤ (a +ℤ pos (count_of z)) → pos 1 ≤ℤ z
some_room (pos n) a x h k = omega (arith, ints)
some_room (negsuc n) a x h k = absurd (omega (arith, ints))

module _ (test : ℤ → Bool) where
  -- the first of n numbers from z upwards, or none
  abbrev pub Up : ℕ → ℤ → Option ℤ → Type 0
  Up n z None = (x : ℤ) → z ≤ℤ x → (x +ℤ pos 1) ≤ℤ (z +ℤ pos n) → test x ≡ true → ⊥
  Up n z (Some w) = (test w ≡ true) × (z ≤ℤ w) × ((w +ℤ pos 1) ≤ℤ (z +ℤ pos n)) × ((x : ℤ) → z ≤ℤ x → test x ≡ true → w ≤ℤ x)

  pub up : (n : ℕ) (z : ℤ) → Up n z (first_up test n z)
  up zero z = λ x h k t. omega (arith, ints)
  up (suc n) z = go (test z) refl (first_up test n (z +ℤ pos 1)) (up n (z +ℤ pos 1))
    where
      past : (x : ℤ) → test z ≡ false → test x ≡ true → z ≤ℤ x → (z +ℤ pos 1) ≤ℤ x
      past x e t h = by_lt_z z x (λ l. omega (arith, ints, l)) (λ l. absurd (differ (same x (omega (arith, ints)))))
        where
          same : (x : ℤ) → z ≡ x → test z ≡ test x
          same x e = ap test e

          differ : test z ≡ test x → ⊥
          differ f = absurd cc

      go : (b : Bool) → test z ≡ b → (o : Option ℤ) → Up n (z +ℤ pos 1) o → Up (suc n) z (if b then Some z else o)
      go true e o u = (e, omega (arith, ints), omega (arith, ints), λ x h t. h)
      go false e None u = λ x h k t. u x (past x e t h) (omega (arith, ints)) t
      go false e (Some w) u = (u.0, omega (arith, ints, u.1), omega (arith, ints, u.2), λ x h t. u.3 x (past x e t h) t)

  abbrev pub Down : ℕ → ℤ → Option ℤ → Type 0
  Down n z None = (x : ℤ) → x ≤ℤ z → (z +ℤ pos 1) ≤ℤ (x +ℤ pos n) → test x ≡ true → ⊥
  Down n z (Some w) = (test w ≡ true) × (w ≤ℤ z) × ((z +ℤ pos 1) ≤ℤ (w +ℤ pos n)) × ((x : ℤ) → x ≤ℤ z → test x ≡ true → x ≤ℤ w)

  pub down : (n : ℕ) (z : ℤ) → Down n z (first_down test n z)
  down zero z = λ x h k t. omega (arith, ints)
  down (suc n) z = go (test z) refl (first_down test n (z -ℤ pos 1)) (down n (z -ℤ pos 1))
    where
      past : (x : ℤ) → test z ≡ false → test x ≡ true → x ≤ℤ z → x ≤ℤ (z -ℤ pos 1)
      past x e t h = by_lt_z x z (λ l. omega (arith, ints, l)) (λ l. absurd (differ (same x (omega (arith, ints)))))
        where
          same : (x : ℤ) → z ≡ x → test z ≡ test x
          same x e = ap test e

          differ : test z ≡ test x → ⊥
          differ f = absurd cc

      go : (b : Bool) → test z ≡ b → (o : Option ℤ) → Down n (z -ℤ pos 1) o → Down (suc n) z (if b then Some z else o)
      go true e o u = (e, omega (arith, ints), omega (arith, ints), λ x h t. h)
      go false e None u = λ x h k t. u x (past x e t h) (omega (arith, ints)) t
      go false e (Some w) u = (u.0, omega (arith, ints, u.1), omega (arith, ints, u.2), λ x h t. u.3 x (past x e t h) t)

  -- the numbers of an interval of which the test is true
  abbrev pub Passes : Interval → ℤ → Type 0
  Passes i z = Holds i z × (test z ≡ true)

  pub kept_is : (i : Interval) → IsLeastIfAny (Passes i) (kept test i)
  kept_is i = from (first_up test (size_of i) i.low) (first_down test (size_of i) i.high) (up (size_of i) i.low) (down (size_of i) i.high)
    where
      room : (z : ℤ) → Holds i z → i.low ≤ℤ i.high
      room z h = omega (arith, ints, h.0, h.1)

      from : (u d : Option ℤ) → Up (size_of i) i.low u → Down (size_of i) i.high d → IsLeastIfAny (Passes i) (u >>= λ low. d >>= λ high. Some (interval low high))
      from None d u v = λ z p. u z p.0.0 (omega (arith, ints, size_is i (room z p.0), p.0.1)) p.1
      from (Some low) None u v = λ z p. v z p.0.1 (omega (arith, ints, size_is i (room z p.0), p.0.0)) p.1
      from (Some low) (Some high) u v =
          let some = some_room (i.high -ℤ i.low +ℤ pos 1) i.low low u.1 u.2 in
          let size = size_is i (omega (arith, ints, some)) in
          record {
            holds = λ z p. (u.3 z p.0.0 p.1, v.3 z p.0.1 p.1);
            low_is_one = ((u.1, omega (arith, ints, size, u.2)), u.0);
            high_is_one = ((omega (arith, ints, size, v.2), v.1), v.0);
          }

  -- whether it is true of some number
  pub met_of_number : (i : Interval) (z : ℤ) → Holds i z → test z ≡ true → is_met test i ≡ true
  met_of_number i z h t = go (first_up test (size_of i) i.low) (up (size_of i) i.low)
    where
      go : (o : Option ℤ) → Up (size_of i) i.low o → is_some o ≡ true
      go None u = absurd (u z h.0 (omega (arith, ints, size_is i (omega (arith, ints, h.0, h.1)), h.1)) t)
      go (Some w) u = refl

  pub number_of_met : (i : Interval) → is_met test i ≡ true → (z : ℤ) × Holds i z × (test z ≡ true)
  number_of_met i e = go (first_up test (size_of i) i.low) (up (size_of i) i.low) e
    where
      go : (o : Option ℤ) → Up (size_of i) i.low o → is_some o ≡ true → (z : ℤ) × Holds i z × (test z ≡ true)
      go None u e = absurd cc
      go (Some w) u e =
          let some = some_room (i.high -ℤ i.low +ℤ pos 1) i.low w u.1 u.2 in
          let size = size_is i (omega (arith, ints, some)) in
          (w, (u.1, omega (arith, ints, size, u.2)), u.0)
