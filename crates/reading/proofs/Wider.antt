-- Readers with less and with more room agree, unless the first answers that there is too little.
use Rattle.std.proofs.Common.{◌≡◌, ℕ, zero, suc, inl, inr, Bool, true, false, List, [], ◌∷◌, length, Option, Some, None, Result, Ok, Err, refl, sym, subst, ◌∙◌}
use Rattle.reading.specs.Readers.{Fault, Stop, Deep, Reader, ◌>>=◌, lead, follow, seq, branch, seen, choose_on, choose, optional_on, optional, opt, with_phrase, many_on, many_at, many_from, no_step, many, plus, chain, need_on, need, must, closed, fresh, stands, with_kind, clauses, full_on, full}
use Rattle.reading.specs.Law.{Agree, Agrees}
use Rattle.reading.proofs.Results.{faulty}

module _ {A B : Type 0} where
  agree_then : (r : Result A Fault) (f f' : A → Result B Fault) → ((x : A) → Agree (f x) (f' x)) → Agree (r >>= f) (r >>= f')
  agree_then (Ok x) f f' g = g x
  agree_then (Err d) f f' g = inr refl

  pub agree_bind : (r r' : Result A Fault) (f f' : A → Result B Fault) → Agree r r' → ((x : A) → Agree (f x) (f' x)) → Agree (r >>= f) (r' >>= f')
  agree_bind r r' f f' (inl d) g = inl (d.0, rw d.1 refl)
  agree_bind r r' f f' (inr e) g = subst (λ (x : Result A Fault). Agree (r >>= f) (x >>= f')) e (agree_then r f f' g)

  pub agree_map : (r r' : Result A Fault) (f : A → Result B Fault) → Agree r r' → Agree (r >>= f) (r' >>= f)
  agree_map r r' f same = agree_bind r r' f f same (λ x. inr refl)

-- what was read, and where reading stopped, stays so with more room
module _ {T A : Type 0} (r r' : Reader T A) (same : Agrees r r') (ts : List T) where
  pub reads_on : (x : A × List T) → r ts ≡ Ok x → r' ts ≡ Ok x
  reads_on x e = go (same ts)
    where
      go : Agree (r ts) (r' ts) → r' ts ≡ Ok x
      go (inl d) = let never : Ok x ≡ Err (Deep d.0) = sym e ∙ d.1 in absurd cc
      go (inr s) = sym s ∙ e

  pub stops_on : (n : ℕ) → r ts ≡ Err (Stop n) → r' ts ≡ Err (Stop n)
  stops_on n e = go (same ts)
    where
      go : Agree (r ts) (r' ts) → r' ts ≡ Err (Stop n)
      go (inl d) = let never : faulty (Stop n) ≡ faulty (Deep d.0) = sym e ∙ d.1 in absurd cc
      go (inr s) = sym s ∙ e

pub agree_same : {T A : Type 0} (r : Reader T A) → Agrees r r
agree_same r ts = inr refl

module _ {T A B : Type 0} where
  pub agree_seen : (f : A → B) (r r' : Reader T A) → Agrees r r' → Agrees (seen f r) (seen f r')
  agree_seen f r r' same ts = agree_map (r ts) (r' ts) (λ x. Ok (f x.0, x.1)) (same ts)

  pub agree_follow : (r r' : Reader T A) (s s' : A → Reader T B) → Agrees r r' → ((x : A) → Agrees (s x) (s' x)) → Agrees (follow r s) (follow r' s')
  agree_follow r r' s s' same same' ts = agree_bind (r ts) (r' ts) (λ x. s x.0 x.1 >>= λ y. Ok ((x.0, y.0), y.1)) (λ x. s' x.0 x.1 >>= λ y. Ok ((x.0, y.0), y.1)) (same ts) (λ x. agree_map (s x.0 x.1) (s' x.0 x.1) (λ y. Ok ((x.0, y.0), y.1)) (same' x.0 x.1))

  pub agree_seq : (r r' : Reader T A) (s s' : Reader T B) → Agrees r r' → Agrees s s' → Agrees (seq r s) (seq r' s')
  agree_seq r r' s s' same same' = agree_follow r r' (λ x. s) (λ x. s') same (λ x. same')

  pub agree_branch : (class : T → Option A) (s s' : A → Reader T B) → ((x : A) → Agrees (s x) (s' x)) → Agrees (branch class s) (branch class s')
  agree_branch class s s' same = agree_follow (lead class) (lead class) s s' (agree_same (lead class)) same

  pub agree_choose : (test : List T → Bool) (r r' : Reader T A) (s s' : Reader T B) → Agrees r r' → Agrees s s' → Agrees (choose test r s) (choose test r' s')
  agree_choose test r r' s s' same same' ts = go (test ts)
    where
      go : (c : Bool) → Agree (choose_on c r s ts) (choose_on c r' s' ts)
      go true = agree_map (r ts) (r' ts) (λ x. Ok (inl x.0, x.1)) (same ts)
      go false = agree_map (s ts) (s' ts) (λ y. Ok (inr y.0, y.1)) (same' ts)

module _ {T B : Type 0} where
  pub agree_optional : (cut : List T → Option (List T)) (s s' : Reader T B) → Agrees s s' → Agrees (optional cut s) (optional cut s')
  agree_optional cut s s' same ts = go (cut ts)
    where
      go : (c : Option (List T)) → Agree (optional_on c s ts) (optional_on c s' ts)
      go None = inr refl
      go (Some rest) = agree_map (s rest) (s' rest) (λ y. Ok (Some y.0, y.1)) (same rest)

  pub agree_need : (test : List T → Bool) (s s' : Reader T B) (goes : T → Bool) → Agrees s s' → Agrees (need test s goes) (need test s' goes)
  agree_need test s s' goes same ts = go (test ts)
    where
      go : (c : Bool) → Agree (need_on c s goes ts) (need_on c s' goes ts)
      go true = same ts
      go false = inr refl

  -- where there is no room, and the other answers the same wherever none opens
  pub agree_full : (opens : List T → Bool) (r : Reader T B) → ((ts : List T) → opens ts ≡ false → r ts ≡ Err (Stop (length ts))) → Agrees (full opens) r
  agree_full opens r same ts = go (opens ts) refl
    where
      go : (c : Bool) → opens ts ≡ c → Agree (full_on c ts) (r ts)
      go true e = inl (length ts, refl)
      go false e = inr (sym (same ts e))

module _ {T A State : Type 0} (begins : State → List T → Bool) (r r' : State → Reader T A) (step : State → A → State) (same : (state : State) → Agrees (r state) (r' state)) where
  agree_many_at : (n : ℕ) (state : State) → Agrees (many_at begins r step n state) (many_at begins r' step n state)
  agree_many_at zero state ts = inr refl
  agree_many_at (suc n) state ts = go (begins state ts) (λ x us. agree_many_at n (step state x) us)
    where
      go : (c : Bool) → ((x : A) → Agrees (many_at begins r step n (step state x)) (many_at begins r' step n (step state x)))
          → Agree (many_on c (r state) (λ x. many_at begins r step n (step state x)) ts) (many_on c (r' state) (λ x. many_at begins r' step n (step state x)) ts)
      go false more = inr refl
      go true more = agree_bind (r state ts) (r' state ts) _ _ (same state ts) (λ x. agree_map (many_at begins r step n (step state x.0) x.1) (many_at begins r' step n (step state x.0) x.1) (λ xs. Ok (x.0 ∷ xs.0, xs.1)) (more x.0 x.1))

  pub agree_many_from : (state : State) → Agrees (many_from begins r step state) (many_from begins r' step state)
  agree_many_from state ts = agree_many_at (length ts) state ts

module _ {T A : Type 0} (begins : List T → Bool) (r r' : Reader T A) (same : Agrees r r') where
  pub agree_many : Agrees (many begins r) (many begins r')
  agree_many = agree_many_from (λ (state : Unit {0}). begins) (λ state. r) (λ state. r') no_step (λ state. same) tt

  pub agree_plus : Agrees (plus begins r) (plus begins r')
  agree_plus = agree_follow r r' (λ x. many begins r) (λ x. many begins r') same (λ x. agree_many)

pub agree_chain : {T K A : Type 0} (begins : List T → Bool) (class : T → Option K) (r r' : Reader T A) → Agrees r r' → Agrees (chain begins class r) (chain begins class r')
agree_chain begins class r r' same = agree_follow r r' (λ x. many begins (branch class (λ k. r))) (λ x. many begins (branch class (λ k. r'))) same (λ x. agree_many begins (branch class (λ k. r)) (branch class (λ k. r')) (agree_branch class (λ k. r) (λ k. r') (λ k. same)))

module _ {T A B : Type 0} (r r' : Reader T A) (s s' : Reader T B) (same : Agrees r r') (same' : Agrees s s') where
  pub agree_opt : (test : A → List T → Bool) → Agrees (opt r test s) (opt r' test s')
  agree_opt test = agree_follow r r' _ _ same (λ x. agree_optional _ s s' same')

  pub agree_phrase : (cut : List T → Option (List T)) → Agrees (with_phrase r cut s) (with_phrase r' cut s')
  agree_phrase cut = agree_follow r r' _ _ same (λ x. agree_optional cut s s' same')

  pub agree_must : (goes : A → T → Bool) (test : List T → Bool) → Agrees (must r goes test s) (must r' goes test s')
  agree_must goes test = agree_follow r r' _ _ same (λ x. agree_need test s s' (goes x) same')

pub agree_closed : {T A K : Type 0} (r r' : Reader T A) (class : T → Option K) (goes : A → T → Bool) → Agrees r r' → Agrees (closed r class goes) (closed r' class goes)
agree_closed r r' class goes same = agree_must r r' (lead class) (lead class) same (agree_same (lead class)) goes (stands class)

pub agree_clauses : {T K C : Type 0} (alike : K → K → Bool) (class : T → Option K) (clause clause' : K → Reader T C) → ((k : K) → Agrees (clause k) (clause' k)) → Agrees (clauses alike class clause) (clauses alike class clause')
agree_clauses alike class clause clause' same = agree_many_from _ _ _ with_kind (λ kinds. agree_branch (fresh alike class kinds) clause clause' same) []
