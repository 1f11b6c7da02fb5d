-- A token of a class, where one stands.
use Rattle.std.proofs.Common.{◌≡◌, ℕ, ◌<◌, Bool, true, List, [], ◌∷◌, ◌++◌, Option, Some, None, is_some, Err, refl, sym, ap, subst, ◌∙◌}
use Rattle.reading.specs.Readers.{Deep, Reader, split_on, maybe_on, maybe, lead, here_on, here_if, optional_on, optional, stands}
use Rattle.reading.specs.Printing.{Alphabet, begins}
use Rattle.reading.specs.Law.{Syntax, Law, Deepens}
use Rattle.reading.proofs.Lead.{Class, lead_syntax, lead_law}
use Rattle.reading.proofs.Starts.{Starts}
use Rattle.reading.proofs.Optional.{optional_syntax}
use Rattle.reading.proofs.Tail.{Tail}
use Rattle.reading.proofs.Opt.{opener_here, optional_tail}
use Rattle.reading.proofs.Must.{closed_all}
use Rattle.reading.proofs.Deeper.{deepens_never}

abbrev pub maybe_syntax : {I M K : Type 0} → (M → Bool) → (K → Type 0) → (K → I) → Syntax I M (Option K)
maybe_syntax set Allowed item = optional_syntax set [] (lead_syntax Allowed item)

module _ {T I M K : Type 0} {G : Alphabet T I M} {class : T → Option K} {Allowed : K → Type 0} {item : K → I} (C : Class G class Allowed item) (top : ℕ) (low : (x : K) → Allowed x → G.depth (item x) < top) (some : K) (allowed : Allowed some) (set : M → Bool) (tells : (ts : List T) → begins G set ts ≡ stands class ts) where
  starts : Starts G set (lead class) (lead_syntax Allowed item)
  starts = record { starts = λ x text rest good spells. tells (text ++ rest) ∙ closed_all C x text rest good spells; decided = λ c r z t d here e at. moved c r z t here }
    where
      moved : (c r z : List T) (t : T) → begins G set (c ++ t ∷ r) ≡ true → begins G set (c ++ t ∷ z) ≡ true
      moved [] r z t here = tells (t ∷ z) ∙ (sym (tells (t ∷ r)) ∙ here)
      moved (u ∷ c) r z t here = tells (u ∷ (c ++ t ∷ z)) ∙ (sym (tells (u ∷ (c ++ t ∷ r))) ∙ here)

  -- the same as what may be left out, where a mark tells it
  same : (ts : List T) → optional (here_if (begins G set)) (lead class) ts ≡ maybe class ts
  same [] = ap (λ (b : Bool). optional_on (here_on b []) (lead class) []) (tells [])
  same (t ∷ ts) = ap (λ (b : Bool). optional_on (here_on b (t ∷ ts)) (lead class) (t ∷ ts)) (tells (t ∷ ts)) ∙ go (class t) refl
    where
      go : (o : Option K) → class t ≡ o → optional_on (here_on (is_some o) (t ∷ ts)) (lead class) (t ∷ ts) ≡ maybe_on (split_on o ts) (t ∷ ts)
      go None e = refl
      go (Some x) e = rw e refl

  pub maybe_tail : Tail G set is_some (maybe class) (maybe_syntax set Allowed item) top
  maybe_tail = subst (λ (r : Reader T (Option K)). Tail G set is_some r (maybe_syntax set Allowed item) top) (λ i ts. same ts i) (optional_tail (opener_here starts true (λ y good. refl) top) (λ ts rest e. lead_law C top low some allowed))

  pub maybe_law : Law G (maybe class) (maybe_syntax set Allowed item) top
  maybe_law = maybe_tail.law

  pub deepens_maybe : (wide : ℕ) → Deepens G (maybe class) (maybe_syntax set Allowed item) top wide
  deepens_maybe wide = deepens_never never
    where
      never : (ts : List T) (n : ℕ) → maybe class ts ≡ Err (Deep n) → ⊥
      never [] n e = cc
      never (t ∷ ts) n e = go (class t) e
        where
          go : (o : Option K) → maybe_on (split_on o ts) (t ∷ ts) ≡ Err (Deep n) → ⊥
          go None e0 = cc
          go (Some x) e0 = cc
