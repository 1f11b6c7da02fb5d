-- From single parts to whole edges.
use Rattle.std.proofs.Common.{◌≡◌, ◌⊎◌, inl, inr, ℕ, List, [], ◌∷◌, ◌++◌, Option, Some, None, refl, sym, subst, ◌∙◌, ap}
use Rattle.std.proofs.lemmas.List.{append_assoc, append-nil}
use Rattle.cob_tree.specs.declared.fault.Kind.{Kind}
use Rattle.dom_laws.specs.Walking.{Walking, BelowIf, IsSeen, IfSeen, ◌>>=◌, walk, PassesAll, Meets, ClearsAll, IsWalking, IsSound, EdgesAreSound}

module _ (w : Walking) where
  then_rises : (f : w.Seen → Option w.Seen) (a b : Option w.Seen) → BelowIf w a b → ((c d : w.Seen) → w.Below c d → BelowIf w (f c) (f d)) → BelowIf w (◌>>=◌ w a f) (◌>>=◌ w b f)
  then_rises f None b h more = tt
  then_rises f (Some a) None h more = absurd h
  then_rises f (Some a) (Some b) h more = more a b h

  if_falls : (P : w.Seen → Type 0) (a b : Option w.Seen) → BelowIf w a b → IfSeen w b P → ((c d : w.Seen) → w.Below c d → P d → P c) → IfSeen w a P
  if_falls P None b h p more = tt
  if_falls P (Some a) None h p more = absurd h
  if_falls P (Some a) (Some b) h p more = more a b h p

  then_seen : (f : w.Seen → Option w.Seen) (P Q : w.Seen → Type 0) (a : Option w.Seen) → IsSeen w a P → ((s : w.Seen) → P s → IsSeen w (f s) Q) → IsSeen w (◌>>=◌ w a f) Q
  then_seen f P Q None p more = absurd p
  then_seen f P Q (Some a) p more = more a p

  both_seen : (P Q : w.Seen → Type 0) (a : Option w.Seen) → IsSeen w a P → IfSeen w a Q → ((s : w.Seen) → P s → Q s → ⊥) → ⊥
  both_seen P Q None p q more = p
  both_seen P Q (Some a) p q more = more a p q

module _ (w : Walking) (ps : List w.Part) (laws : IsWalking w ps) where
  rising : (xs : List w.Part) (a b : w.Seen) → w.Below a b → BelowIf w (walk w xs a) (walk w xs b)
  rising [] a b h = h
  rising (x ∷ xs) a b h = then_rises w (λ s. walk w xs s) (w.step x a) (w.step x b) (laws.rises x a b h) (λ c d k. rising xs c d k)

  clearing : (xs : List w.Part) (a b : w.Seen) (kind : Kind) → w.Below a b → ClearsAll w xs b kind → ClearsAll w xs a kind
  clearing [] a b kind h c = tt
  clearing (x ∷ xs) a b kind h (c, cs) = (
    laws.clears_below x a b kind h c,
    if_falls w (λ s. ClearsAll w xs s kind) (w.step x a) (w.step x b) (laws.rises x a b h) cs (λ c d k held. clearing xs c d kind k held),
  )

  -- one more part is done
  moved : (done xs : List w.Part) (x : w.Part) → done ++ x ∷ xs ≡ ps → (done ++ x ∷ []) ++ xs ≡ ps
  moved done xs x e = append_assoc done (x ∷ []) xs ∙ e

  keeping : (done xs : List w.Part) (a : w.Seen) (m n : w.Moment) → done ++ xs ≡ ps → w.Agrees done a m → PassesAll w xs m n → IsSeen w (walk w xs a) (λ b. w.Agrees ps b n)
  keeping done [] a m n e agrees same = subst (λ k. w.Agrees ps a k) (sym same) (subst (λ d. w.Agrees d a m) (sym (append-nil done) ∙ e) agrees)
  keeping done (x ∷ xs) a m n e agrees (next, passes, others) =
      then_seen w (λ s. walk w xs s) (λ s. w.Agrees (done ++ x ∷ []) s next) (λ s. w.Agrees ps s n) (w.step x a)
      (laws.keeps done xs x a m next e agrees passes)
      (λ s held. keeping (done ++ x ∷ []) xs s next n (moved done xs x e) held others)

  clear : (done xs : List w.Part) (a : w.Seen) (m : w.Moment) (kind : Kind) → done ++ xs ≡ ps → w.Agrees done a m → ClearsAll w xs a kind → ¬ Meets w xs m kind
  clear done [] a m kind e agrees c meets = meets
  clear done (x ∷ xs) a m kind e agrees (c, cs) (inl faults) = laws.cleared done xs x a m kind e agrees c faults
  clear done (x ∷ xs) a m kind e agrees (c, cs) (inr (next, passes, meets)) =
      both_seen w (λ s. w.Agrees (done ++ x ∷ []) s next) (λ s. ClearsAll w xs s kind) (w.step x a)
      (laws.keeps done xs x a m next e agrees passes) cs
      (λ s held clears. clear (done ++ x ∷ []) xs s next kind (moved done xs x e) held clears meets)

  pub sound : IsSound w ps
  sound = record {
    monotone = rising ps;
    clears_below = clearing ps;
    kept = λ a m n agrees passes. keeping [] ps a m n refl agrees passes;
    cleared = λ a m kind agrees c. clear [] ps a m kind refl agrees c;
  }

pub edges_are_sound : EdgesAreSound
edges_are_sound w ps laws = sound w ps laws
