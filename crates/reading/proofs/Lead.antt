-- Nothing, one token of a class, and what such a token says.
use Rattle.std.proofs.Common.{◌≡◌, ℕ, suc, ◌<◌, List, [], ◌∷◌, ◌++◌, length, length-append, Option, Some, None, Ok, Err, refl, sym, ap, subst, ◌∙◌, arith}
use Rattle.reading.specs.Readers.{Fault, Stop, Reader, nothing, lead_as, lead, branch}
use Rattle.reading.specs.Printing.{Alphabet, Matches}
use Rattle.reading.specs.Law.{Syntax, Read, Fails, Law}
use Rattle.reading.proofs.Results.{ok_is, ok_fails, fault_is}
use Rattle.reading.proofs.Texts.{takes_nothing, Always, matches_nothing, next_none}
use Rattle.reading.proofs.Dependent.{dependent_syntax, dependent_law}

abbrev pub nothing_syntax : {I M : Type 0} → Syntax I M (Unit {0})
nothing_syntax = record { Good = Always; print = λ a. []; takes = takes_nothing }

pub nothing_law : {T I M : Type 0} (G : Alphabet T I M) (top : ℕ) → Law G nothing nothing_syntax top
nothing_law {T} {I} {M} G top = record {
  sound = λ ts x e. subst (λ (y : Unit {0} × List T). Read G nothing_syntax top ts y.0 y.1) (ok_is (tt, ts) x e) (record { text = []; parts = refl; spells = tt; good = tt; below = tt; next = next_none G ts });
  complete = λ a text rest s good below next. ap (λ (z : List T). nothing (z ++ rest)) (matches_nothing G text s);
  fails = λ ts d e. ok_fails (tt, ts) d e;
  firm = λ q r z text rest t a e s good below next same. ok_fails (tt, q ++ t ∷ r) (Stop (suc (length r))) e;
}

-- The tokens of a class are those that fit the items of allowed values.
pub record Class {T I M K : Type 0} (G : Alphabet T I M) (class : T → Option K) (Allowed : K → Type 0) (item : K → I) : Type 0 where
  pub reads : (x : K) (t : T) → Allowed x → G.Fits (item x) t → class t ≡ Some x
  pub only : (t : T) (x : K) → class t ≡ Some x → Allowed x × G.Fits (item x) t

abbrev pub lead_syntax : {I M K : Type 0} → (K → Type 0) → (K → I) → Syntax I M K
lead_syntax Allowed item = record { Good = Allowed; print = λ x. item x ∷ []; takes = takes_nothing }

module _ {T I M K : Type 0} {G : Alphabet T I M} {class : T → Option K} {Allowed : K → Type 0} {item : K → I} (C : Class G class Allowed item) (top : ℕ) (low : (x : K) → Allowed x → G.depth (item x) < top) (some : K) (allowed : Allowed some) where
  abbrev syntax : Syntax I M K
  syntax = lead_syntax Allowed item

  sound : (ts : List T) (x : K × List T) → lead class ts ≡ Ok x → Read G syntax top ts x.0 x.1
  sound [] x e = absurd cc
  sound (t ∷ ts) x e = go (class t) refl e
    where
      go : (o : Option K) → class t ≡ o → lead_as o t ts ≡ Ok x → Read G syntax top (t ∷ ts) x.0 x.1
      go None eo e0 = absurd cc
      go (Some y) eo e0 =
          let fit = C.only t y eo in
          subst (λ (z : K × List T). Read G syntax top (t ∷ ts) z.0 z.1) (ok_is (y, ts) x e0) (record { text = t ∷ []; parts = refl; spells = (fit.1, tt); good = fit.0; below = (low y fit.0, tt); next = next_none G ts })

  complete : (x : K) (text rest : List T) → Matches G (item x ∷ []) text → Allowed x → lead class (text ++ rest) ≡ Ok (x, rest)
  complete x [] rest s good = absurd s
  complete x (t ∷ []) rest s good = rw (C.reads x t good s.0) refl
  complete x (t ∷ u ∷ text) rest s good = absurd s.1

  pub stops : (ts : List T) (d : Fault) → lead class ts ≡ Err d → d ≡ Stop (length ts)
  stops [] d e = fault_is {A = K × List T} d (Stop 0) (sym e)
  stops (t ∷ ts) d e = go (class t) e
    where
      go : (o : Option K) → lead_as o t ts ≡ Err d → d ≡ Stop (length (t ∷ ts))
      go None e0 = fault_is {A = K × List T} d (Stop (suc (length ts))) (sym e0)
      go (Some y) e0 = ok_fails (y, ts) d e0

  fails : (ts : List T) (d : Fault) → lead class ts ≡ Err d → Fails G syntax top ts d
  fails ts d e = subst (Fails G syntax top ts) (sym (stops ts d e))
      (record { read = []; left = ts; parts = refl; tree = some; good = allowed; before = []; after = item some ∷ []; text = refl; spells = tt; below = tt; at = refl })

  firm : (q r z text rest : List T) (t : T) (x : K) → lead class (q ++ t ∷ r) ≡ Err (Stop (suc (length r))) → Matches G (item x ∷ []) text → Allowed x → text ++ rest ≡ q ++ t ∷ z → ⊥
  firm q r z [] rest t x e s good same = absurd s
  firm q r z (u ∷ v ∷ text) rest t x e s good same = absurd s.1
  firm [] r z (u ∷ []) rest t x e s good same =
      let head : u ≡ t = cc in
      let read : lead class (t ∷ r) ≡ Ok (x, r) = complete x (t ∷ []) r (subst (λ (y : T). Matches G (item x ∷ []) (y ∷ [])) head s) good in
      ok_fails (x, r) (Stop (suc (length r))) (sym read ∙ e)
  firm (t0 ∷ q) r z (u ∷ []) rest t x e s good same =
      let there : Stop (suc (length r)) ≡ Stop (length (t0 ∷ (q ++ t ∷ r))) = stops (t0 ∷ (q ++ t ∷ r)) (Stop (suc (length r))) e in
      let count : suc (length r) ≡ length (t0 ∷ (q ++ t ∷ r)) = cc in
      omega (arith, length-append q (t ∷ r))

  pub lead_law : Law G (lead class) syntax top
  lead_law = record {
    sound = sound;
    complete = λ x text rest s good below next. complete x text rest s good;
    fails = fails;
    firm = λ q r z text rest t x e s good below next same. firm q r z text rest t x e s good same;
  }

  -- one token, which says what is read behind it
  pub branch_law : {B : Type 0} (S : K → Reader T B) (b : K → Syntax I M B) → ((x : K) → Allowed x → Law G (S x) (b x) top) → Law G (branch class S) (dependent_syntax (lead_syntax Allowed item) b) top
  branch_law S b LB = dependent_law lead_law (λ x p good. refl) S b LB
