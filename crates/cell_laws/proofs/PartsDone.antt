-- What the parts that are done have shown.
use Rattle.std.proofs.Common.{◌≡◌, ℕ, zero, suc, Bool, true, false, ◌&&◌, ◌||◌, if◌then◌else◌, ◌⊎◌, inl, inr, List, [], ◌∷◌, ◌++◌, Option, Some, None, is_some, refl, sym, ap, subst, ◌∙◌, arith}
use Rattle.std.specs.List.{list_all, list_any, Contains}
use Rattle.dec_num.specs.declared.types.Mode.{Mode}
use Rattle.dec_num.specs.declared.types.Scaled.{Scaled}
use Rattle.cob_data.specs.declared.layout.Layout.{Layout}
use Rattle.cob_program.specs.Sum.{Atom}
use Rattle.cob_runs.specs.Contents.{number_at}
use Rattle.cob_runs.specs.Computing.{are_numeric, worth}
use Rattle.cob_edge_parts.specs.Parts.{Amount, Part, read, unread, subscript, index, divide, store, bytes_in, guard, read_count, set_count, count_down, guard_count, item_reads, divides}
use Rattle.cob_edge_parts.specs.Meaning.{Moment, with_own, divided_by_zero, divides_by, is_left_alone, skipped, stored_bytes, stored_or_kept, ReadsAt, Divides, Stores, Passes}
use Rattle.cob_edge_parts.specs.Counters.{PassesPart, PassesParts}
use Rattle.cob_edge_parts.proofs.Subscripts.{subscript_leaves, index_leaves}
use Rattle.cell_steps.specs.Agreeing.{writes, is_store}

-- ---- tests

pub both_true : (b c : Bool) → (b && c) ≡ true → (b ≡ true) × (c ≡ true)
both_true true c e = (refl, e)
both_true false c e = absurd cc

pub and_true : (b c : Bool) → b ≡ true → c ≡ true → (b && c) ≡ true
and_true true c e f = f
and_true false c e f = absurd cc

pub any_front : {A : Type 0} (f : A → Bool) (xs ys : List A) → list_any f (xs ++ ys) ≡ false → list_any f xs ≡ false
any_front f [] ys e = refl
any_front f (x ∷ xs) ys e = go (f x) e (λ g. any_front f xs ys g)
  where
    go : (b : Bool) → (b || list_any f (xs ++ ys)) ≡ false → (list_any f (xs ++ ys) ≡ false → list_any f xs ≡ false) → (b || list_any f xs) ≡ false
    go true g rest = absurd cc
    go false g rest = rest g

pub any_last : {A : Type 0} (f : A → Bool) (xs : List A) (y : A) → list_any f (xs ++ y ∷ []) ≡ true → (list_any f xs ≡ true) ⊎ (f y ≡ true)
any_last f [] y e = inr (alone (f y) e)
  where
    alone : (b : Bool) → (b || false) ≡ true → b ≡ true
    alone true g = refl
    alone false g = absurd cc
any_last f (x ∷ xs) y e = go (f x) e (λ g. any_last f xs y g)
  where
    go : (b : Bool) → (b || list_any f (xs ++ y ∷ [])) ≡ true → (list_any f (xs ++ y ∷ []) ≡ true → (list_any f xs ≡ true) ⊎ (f y ≡ true)) → ((b || list_any f xs) ≡ true) ⊎ (f y ≡ true)
    go true g rest = inl refl
    go false g rest = rest g

-- reads and divisions write nothing
pub none_written : (places : List ℕ) (atoms : List Atom) → (list_any writes (item_reads places ++ divides atoms) ≡ false) × (list_any is_store (item_reads places ++ divides atoms) ≡ false)
none_written [] [] = (refl, refl)
none_written [] (d ∷ atoms) = none_written [] atoms
none_written (place ∷ places) atoms = none_written places atoms

module _ (l : Layout) (handled : Bool) where
  -- ---- one part more

  pub passes_snoc : (xs : List Part) (y : Part) (m k n : Moment) → PassesParts l handled xs m k → PassesPart l handled y k n → PassesParts l handled (xs ++ y ∷ []) m n
  passes_snoc [] y m k n e h = (n, subst (λ (j : Moment). PassesPart l handled y j n) e h, refl)
  passes_snoc (x ∷ xs) y m k n (next, h, hs) g = (next, h, passes_snoc xs y next k n hs g)

  -- ---- divisors that were 0

  pub read_zero : (b : Bool) (place : ℕ) (m n : Moment) → ReadsAt l b place m n → n.by_zero ≡ m.by_zero
  read_zero true place m n e = ap (λ (k : Moment). k.by_zero) e
  read_zero false place m n (v, f, e) = ap (λ (k : Moment). k.by_zero) e

  kept_zero : (m : Moment) (place : ℕ) (o : Option (List ℕ)) → (stored_or_kept l m place o).by_zero ≡ m.by_zero
  kept_zero m place None = refl
  kept_zero m place (Some bytes) = refl

  pub store_zero : (h : Bool) (place : ℕ) (mode : Mode) (y : Amount) (m n : Moment) → Stores l h place mode y m n → n.by_zero ≡ m.by_zero
  store_zero true place mode y m n e = ap (λ (k : Moment). k.by_zero) e ∙ go (is_left_alone m y)
    where
      go : (b : Bool) → (if b then m else stored_or_kept l m place (stored_bytes l m place mode y)).by_zero ≡ m.by_zero
      go true = refl
      go false = kept_zero m place (stored_bytes l m place mode y)
  store_zero false place mode y m n (held, f, e) = ap (λ (k : Moment). k.by_zero) e

  divide_zero : (h : Bool) (d : Atom) (m n : Moment) → Divides l h d m n → n.by_zero ≡ false → m.by_zero ≡ false
  divide_zero true d m n e f = go (divides_by (worth l m.first) d) (sym (ap (λ (k : Moment). k.by_zero) e) ∙ f)
    where
      go : (b : Bool) → (if b then m else divided_by_zero m).by_zero ≡ false → m.by_zero ≡ false
      go true g = g
      go false g = absurd cc
  divide_zero false d m n (ok, e) f = sym (ap (λ (k : Moment). k.by_zero) e) ∙ f

  same_before : (m n : Moment) → n.by_zero ≡ m.by_zero → n.by_zero ≡ false → m.by_zero ≡ false
  same_before m n e f = sym e ∙ f

  pub zero_before : (y : Part) (m n : Moment) → Passes l handled y m n → n.by_zero ≡ false → m.by_zero ≡ false
  zero_before (read place) m n h f = same_before m n (read_zero m.by_zero place m n h) f
  zero_before unread m n h f = absurd h
  zero_before (subscript last k) m n h f = same_before m n (ap (λ (j : Moment). j.by_zero) (subscript_leaves l (skipped last m) k m n h)) f
  zero_before (index last k count) m n h f = same_before m n (ap (λ (j : Moment). j.by_zero) (index_leaves l (skipped last m) k count m n h)) f
  zero_before (divide d) m n h f = divide_zero handled d m n h f
  zero_before (store place mode y) m n h f = same_before m n (store_zero handled place mode y m n h) f
  zero_before (bytes_in offset count) m n h f = same_before m n (ap (λ (k : Moment). k.by_zero) h.1) f
  zero_before (guard t wanted) m n h f = same_before m n (ap (λ (k : Moment). k.by_zero) h.1) f
  zero_before (read_count s) m n h f = same_before m n (ap (λ (k : Moment). k.by_zero) h.2) f
  zero_before (set_count s y) m n h f = same_before m n (ap (λ (k : Moment). k.by_zero) h.2) f
  zero_before (count_down s) m n h f = same_before m n (ap (λ (k : Moment). k.by_zero) h) f
  zero_before (guard_count s wanted) m n h f = same_before m n (ap (λ (k : Moment). k.by_zero) h.3) f

  pub zero_before_all : (ys : List Part) (m n : Moment) → PassesParts l handled ys m n → n.by_zero ≡ false → m.by_zero ≡ false
  zero_before_all [] m n e f = sym (ap (λ (k : Moment). k.by_zero) e) ∙ f
  zero_before_all (y ∷ ys) m n (next, h, hs) f = zero_before y m next h.0 (zero_before_all ys next n hs f)

  -- ---- items that were read

  pub record ReadFirst (places : List ℕ) (rest : List Part) (m n : Moment) : Type 0 where
    pub numeric : are_numeric l m.storage places ≡ true
    pub next : Moment
    pub passes : PassesParts l handled rest next n
    pub storage : next.storage ≡ m.storage
    pub first : next.first ≡ m.first
    pub zero : next.by_zero ≡ false

  pub read_first : (places : List ℕ) (rest : List Part) (m n : Moment) → m.by_zero ≡ false → PassesParts l handled (item_reads places ++ rest) m n → ReadFirst places rest m n
  read_first [] rest m n z h = record { numeric = refl; next = m; passes = h; storage = refl; first = refl; zero = z }
  read_first (place ∷ places) rest m n z (k, h, hs) =
      let one = one_read (subst (λ (b : Bool). ReadsAt l b place m k) z h.0) in
      let e = one.2 in
      let others = read_first places rest k n (ap (λ (j : Moment). j.by_zero) e ∙ z) hs in
      record {
        numeric = and_true (is_some (number_at l m.storage place)) (are_numeric l m.storage places) (rw one.1 refl)
            (subst (λ (bytes : List ℕ). are_numeric l bytes places ≡ true) (ap (λ (j : Moment). j.storage) e) others.numeric);
        next = others.next;
        passes = others.passes;
        storage = others.storage ∙ ap (λ (j : Moment). j.storage) e;
        first = others.first ∙ ap (λ (j : Moment). j.first) e;
        zero = others.zero;
      }
    where
      one_read : ReadsAt l false place m k → (v : Scaled) × (number_at l m.storage place ≡ Some v) × (k ≡ with_own m v)
      one_read h = h

  -- ---- divisors that counted

  divides_true : (h : Bool) (d : Atom) (m n : Moment) → Divides l h d m n → n.by_zero ≡ false → (divides_by (worth l m.first) d ≡ true) × (n ≡ m)
  divides_true true d m n e f = go (divides_by (worth l m.first) d) refl e
    where
      go : (b : Bool) → divides_by (worth l m.first) d ≡ b → n ≡ (if b then m else divided_by_zero m) → (divides_by (worth l m.first) d ≡ true) × (n ≡ m)
      go true g k = (g, k)
      go false g k = absurd (let one : n.by_zero ≡ true = ap (λ (j : Moment). j.by_zero) k in cc)
  divides_true false d m n (ok, e) f = (ok, e)

  pub divisors_count : (atoms : List Atom) (rest : List Part) (m n : Moment) → PassesParts l handled (divides atoms ++ rest) m n → n.by_zero ≡ false → list_all (divides_by (worth l m.first)) atoms ≡ true
  divisors_count [] rest m n h z = refl
  divisors_count (d ∷ atoms) rest m n (k, h, hs) z =
      let one = divides_true handled d m k h.0 (zero_before_all (divides atoms ++ rest) k n hs z) in
      and_true (divides_by (worth l m.first) d) (list_all (divides_by (worth l m.first)) atoms) one.0
      (subst (λ (j : Moment). list_all (divides_by (worth l j.first)) atoms ≡ true) one.1 (divisors_count atoms rest k n hs z))

-- ---- all of these items

pub all_contained : (l : Layout) (bytes : List ℕ) (places : List ℕ) (place : ℕ) → are_numeric l bytes places ≡ true → Contains places place → is_some (number_at l bytes place) ≡ true
all_contained l bytes [] place e (k, h, f) = absurd (omega (arith, h))
all_contained l bytes (q ∷ places) place e (zero, h, f) = subst (λ (r : ℕ). is_some (number_at l bytes r) ≡ true) f (both_true (is_some (number_at l bytes q)) (are_numeric l bytes places) e).0
all_contained l bytes (q ∷ places) place e (suc k, h, f) = all_contained l bytes places place (both_true (is_some (number_at l bytes q)) (are_numeric l bytes places) e).1 (k, omega (arith, h), f)

pub contained_all : (l : Layout) (bytes : List ℕ) (places : List ℕ) → ((place : ℕ) → Contains places place → is_some (number_at l bytes place) ≡ true) → are_numeric l bytes places ≡ true
contained_all l bytes [] h = refl
contained_all l bytes (q ∷ places) h =
    and_true (is_some (number_at l bytes q)) (are_numeric l bytes places) (h q (0, omega (arith), refl))
    (contained_all l bytes places (λ place c. h place (suc c.0, omega (arith, c.1), c.2)))
