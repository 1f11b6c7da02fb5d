-- What begins with one of some marks.
use Rattle.std.proofs.Common.{◌≡◌, ℕ, suc, ◌≤◌, Bool, true, false, List, [], ◌∷◌, ◌++◌, length, Option, Some, Ok, Err, refl, sym, ap, ◌∙◌, append_assoc, arith}
use Rattle.reading.specs.Readers.{left_of, Fault, Reader, ◌>>=◌, branch, seen}
use Rattle.reading.specs.Printing.{Front, Here, Ahead, Alphabet, Matches, ahead, peek_on, on_mark, begins}
use Rattle.reading.specs.Law.{Syntax, Law}
use Rattle.reading.proofs.Results.{fault_before}
use Rattle.reading.proofs.Texts.{matches_split, peek_two}
use Rattle.reading.proofs.Consequences.{within}
use Rattle.reading.proofs.Seen.{View}

-- Each text of the syntax does.
abbrev pub Begins : {T I M A : Type 0} → Alphabet T I M → (M → Bool) → Syntax I M A → Type 0
Begins {T} {I} {M} {A} G set s = (x : A) (text rest : List T) → s.Good x → Matches G (s.print x) text → begins G set (text ++ rest) ≡ true

-- And where its reader stops, the tokens before and the next have decided it.
pub record Starts {T I M A : Type 0} (G : Alphabet T I M) (set : M → Bool) (r : Reader T A) (s : Syntax I M A) : Type 0 where
  pub starts : Begins G set s
  pub decided : (c r' z : List T) (t : T) (d : Fault) → begins G set (c ++ t ∷ r') ≡ true → r (c ++ t ∷ r') ≡ Err d → left_of d ≡ suc (length r') → begins G set (c ++ t ∷ z) ≡ true

module _ {T I M : Type 0} (G : Alphabet T I M) (set : M → Bool) where
  -- no mark of the set hangs on a second token
  abbrev pub OneToken : Type 0
  OneToken = (t : T) (mark : T → Option M) → G.front t ≡ Ahead mark → (u : T) → on_mark G set (mark u) ≡ false

  -- all marks of the set hang on a second token
  abbrev pub TwoTokens : Type 0
  TwoTokens = (t : T) (mark : Option M) → G.front t ≡ Here mark → on_mark G set mark ≡ false

  pub one_decides : OneToken → (t : T) (y z : List T) → begins G set (t ∷ y) ≡ begins G set (t ∷ z)
  one_decides one t y z = go (G.front t) (one t)
    where
      second : (mark : T → Option M) (ts : List T) → ((u : T) → on_mark G set (mark u) ≡ false) → on_mark G set (ahead G mark ts) ≡ false
      second mark [] e = refl
      second mark (u ∷ us) e = e u

      go : (o : Front T M) → ((mark : T → Option M) → o ≡ Ahead mark → (u : T) → on_mark G set (mark u) ≡ false) → on_mark G set (peek_on G o y) ≡ on_mark G set (peek_on G o z)
      go (Here mark) e = refl
      go (Ahead mark) e = second mark y (e mark refl) ∙ sym (second mark z (e mark refl))

  pub two_there : TwoTokens → (t : T) → begins G set (t ∷ []) ≡ false
  two_there two t = go (G.front t) (two t)
    where
      go : (o : Front T M) → ((mark : Option M) → o ≡ Here mark → on_mark G set mark ≡ false) → on_mark G set (peek_on G o []) ≡ false
      go (Here mark) e = e mark refl
      go (Ahead mark) e = refl

  module _ {A : Type 0} {r : Reader T A} {s : Syntax I M A} (all : Begins G set s) where
    pub starts_by_one : OneToken → Starts G set r s
    starts_by_one one = record { starts = all; decided = decided }
      where
        decided : (c r' z : List T) (t : T) (d : Fault) → begins G set (c ++ t ∷ r') ≡ true → r (c ++ t ∷ r') ≡ Err d → left_of d ≡ suc (length r') → begins G set (c ++ t ∷ z) ≡ true
        decided [] r' z t d b e at = one_decides one t z r' ∙ b
        decided (u ∷ c) r' z t d b e at = one_decides one u (c ++ t ∷ z) (c ++ t ∷ r') ∙ b

    -- a reader that begun never stops at its first two tokens
    pub starts_by_two : TwoTokens → ((t u : T) (ts : List T) (d : Fault) → begins G set (t ∷ u ∷ ts) ≡ true → r (t ∷ u ∷ ts) ≡ Err d → left_of d ≤ length ts) → Starts G set r s
    starts_by_two two enters = record { starts = all; decided = decided }
      where
        decided : (c r' z : List T) (t : T) (d : Fault) → begins G set (c ++ t ∷ r') ≡ true → r (c ++ t ∷ r') ≡ Err d → left_of d ≡ suc (length r') → begins G set (c ++ t ∷ z) ≡ true
        decided [] [] z t d b e at = let never : true ≡ false = sym b ∙ two_there two t in absurd cc
        decided [] (u ∷ r') z t d b e at = absurd (omega (arith, at, enters t u r' d b e))
        decided (v ∷ []) r' z t d b e at = absurd (omega (arith, at, enters v t r' d b e))
        decided (v ∷ u ∷ c) r' z t d b e at = ap (on_mark G set) (peek_two G v u (c ++ t ∷ z) (c ++ t ∷ r')) ∙ b

  -- what is read first begins the whole
  pub begins_first : {A B : Type 0} (a : Syntax I M A) (b : A → Syntax I M B) (c : Syntax I M (A × B)) → ((x : A × B) → c.Good x → a.Good x.0) → ((x : A × B) → c.print x ≡ a.print x.0 ++ (b x.0).print x.1) → Begins G set a → Begins G set c
  begins_first a b c first print all x text rest good spells =
      let w = matches_split G (a.print x.0) ((b x.0).print x.1) text (rw⁻¹ (print x) spells) in
      ap (begins G set) (ap (λ (z : List T). z ++ rest) w.2 ∙ append_assoc w.0 w.1 rest) ∙ all x.0 w.0 (w.1 ++ rest) (first x good) w.3

  -- a view begins as what is viewed
  pub starts_seen : {A B : Type 0} {r : Reader T A} {a : Syntax I M A} {b : Syntax I M B} {view : A → B} {parts : B → A} → View a b view parts → Starts G set r a → Starts G set (seen view r) b
  starts_seen {A} {B} {r} {a} {b} {view} {parts} V St = record { starts = starts; decided = λ c r' z t d here e at. St.decided c r' z t d here (fault_before (r (c ++ t ∷ r')) (λ x. (view x.0, x.1)) d e) at }
    where
      starts : Begins G set b
      starts y text rest good spells = St.starts (parts y) text rest (V.good_back y good) (rw⁻¹ (ap b.print (sym (V.back y good)) ∙ V.print (parts y) (V.good_back y good)) spells)

begun : {T K B : Type 0} (class : T → Option K) (S : K → Reader T B) (t : T) (ts : List T) (x : K) → class t ≡ Some x → branch class S (t ∷ ts) ≡ (S x ts >>= λ y. Ok ((x, y.0), y.1))
begun class S t ts x e = rw e refl

-- behind its first token, a branch stops behind it
pub enters : {T I M K B : Type 0} {G : Alphabet T I M} {b : Syntax I M B} {top : ℕ} (class : T → Option K) (S : K → Reader T B) (t : T) (ts : List T) (x : K) (d : Fault) → Law G (S x) b top → class t ≡ Some x → branch class S (t ∷ ts) ≡ Err d → (S x ts ≡ Err d) × (left_of d ≤ length ts)
enters class S t ts x d L ex e =
    let stop = fault_before (S x ts) (λ y. ((x, y.0), y.1)) d (sym (begun class S t ts x ex) ∙ e) in
    (stop, within L ts d stop)
