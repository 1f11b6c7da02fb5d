-- Bounds that are added word by word.
use Rattle.std.proofs.Common.{◌≡◌, ℕ, zero, suc, ◌+◌, List, [], ◌∷◌, ◌++◌, append-nil, append_assoc, refl, sym, ap, ◌∙◌, arith}
use Rattle.std.specs.List.{flat_map, range_with_len}
use Rattle.cert_text.specs.declared.cert.Bound.{Bound}

-- what two calls add, one behind the other
pub both_added : (old mid new first second all : List Bound) → mid ≡ old ++ first → all ≡ first ++ second → new ≡ mid ++ second → new ≡ old ++ all
both_added old mid new first second all grown cut more =
    more ∙ ap (λ xs. xs ++ second) grown ∙ append_assoc old first second ∙ ap (λ xs. old ++ xs) (sym cut)

module _ (f : ℕ → List Bound) where
  range_more : (a n j : ℕ) → a + n ≡ j → flat_map f (range_with_len a (suc n)) ≡ flat_map f (range_with_len a n) ++ f j
  range_more a zero j e = append-nil (f a) ∙ ap f (let same : a ≡ j = omega (arith, e) in same)
  range_more a (suc n) j e =
      ap (λ xs. f a ++ xs) (range_more (a + 1) n j (omega (arith, e))) ∙ sym (append_assoc (f a) (flat_map f (range_with_len (a + 1) n)) (f j))

  -- what one place more adds
  pub one_more : (at next : ℕ) (first old new : List Bound) → next ≡ suc at → old ≡ first ++ flat_map f (range_with_len 0 at) → new ≡ old ++ f at
      → new ≡ first ++ flat_map f (range_with_len 0 next)
  one_more at next first old new e rest added =
      added ∙ ap (λ xs. xs ++ f at) rest ∙ append_assoc first (flat_map f (range_with_len 0 at)) (f at)
      ∙ ap (λ xs. first ++ xs) (sym (range_more 0 at at (omega arith))) ∙ ap (λ n. first ++ flat_map f (range_with_len 0 n)) (sym e)
