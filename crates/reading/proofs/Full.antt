-- Where no more may open.
use Rattle.std.proofs.Common.{◌≡◌, ℕ, Bool, true, false, List, [], ◌∷◌, length, Ok, Err, refl, sym, subst, ◌∙◌, arith}
use Rattle.reading.specs.Readers.{Fault, Stop, Deep, full_on, full}
use Rattle.reading.specs.Printing.{Alphabet, Below}
use Rattle.reading.specs.Law.{Syntax, Fails, Law}
use Rattle.reading.proofs.Results.{fault_is}

-- Every tree opens one at its first token, and so does some tree at each token that the test finds.
pub record NoRoom {T I M A : Type 0} (G : Alphabet T I M) (s : Syntax I M A) (top : ℕ) (opens : List T → Bool) : Type 0 where
  pub first : (x : A) → s.Good x → (i : I) × (more : List I) × (s.print x ≡ i ∷ more) × (G.depth i ≡ top)
  pub some : (x : A) × s.Good x
  pub at_end : opens [] ≡ false
  pub deep : (t : T) (ts : List T) → opens (t ∷ ts) ≡ true → (x : A) × (i : I) × (more : List I) × s.Good x × (s.print x ≡ i ∷ more) × G.Fits i t × (G.depth i ≡ top)

module _ {T I M A : Type 0} {G : Alphabet T I M} {s : Syntax I M A} {top : ℕ} {opens : List T → Bool} (O : NoRoom G s top opens) where
  none : (x : A) → s.Good x → Below G top (s.print x) → ⊥
  none x good below =
      let w = O.first x good in
      let low : Below G top (w.0 ∷ w.1) = subst (Below G top) w.2 below in
      omega (arith, low.0, w.3)

  reads_none : (c : Bool) (ts : List T) (x : A × List T) → full_on c ts ≡ Ok x → ⊥
  reads_none true ts x e = cc
  reads_none false ts x e = cc

  at_stop : (ts : List T) → Fails G s top ts (Stop (length ts))
  at_stop ts = record { read = []; left = ts; parts = refl; tree = O.some.0; good = O.some.1; before = []; after = s.print O.some.0; text = refl; spells = tt; below = tt; at = refl }

  at_deep : (ts : List T) → opens ts ≡ true → Fails G s top ts (Deep (length ts))
  at_deep [] e = let never : true ≡ false = sym e ∙ O.at_end in absurd cc
  at_deep (t ∷ ts) e = let w = O.deep t ts e in record { read = []; left = t ∷ ts; parts = refl; tree = w.0; good = w.3; before = []; after = w.1 ∷ w.2; text = w.4; spells = tt; below = tt; at = (refl, (w.5, w.6)) }

  fails : (c : Bool) (ts : List T) (d : Fault) → opens ts ≡ c → full_on {A = A} c ts ≡ Err d → Fails G s top ts d
  fails true ts d o e = subst (Fails G s top ts) (fault_is {A = A × List T} (Deep (length ts)) d e) (at_deep ts o)
  fails false ts d o e = subst (Fails G s top ts) (fault_is {A = A × List T} (Stop (length ts)) d e) (at_stop ts)

  pub full_law : Law G (full opens) s top
  full_law = record {
    sound = λ ts x e. absurd (reads_none (opens ts) ts x e);
    complete = λ x text rest spells good below next. absurd (none x good below);
    fails = λ ts d e. fails (opens ts) ts d refl e;
    firm = λ q r z text rest t x e spells good below next same. none x good below;
  }
