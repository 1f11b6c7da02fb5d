-- Readers: what is read from the front of a list of tokens, and what is left behind it.
use Rattle.std.specs.Prelude.{ℕ, zero, suc, Bool, true, false, List, [], ◌∷◌, length, Option, Some, None, is_some, Result, Ok, Err, ◌⊎◌, ◌||◌}
use Rattle.std.proofs.Common.{inl, inr}

-- Where reading ends: at a token that nothing goes on with, or at one that opens too deep. The number is how many
-- tokens are left, that one among them.
pub data Fault : Type 0 where
  Stop : ℕ → Fault
  Deep : ℕ → Fault

abbrev pub left_of : Fault → ℕ
left_of (Stop n) = n
left_of (Deep n) = n

infixl 10 ◌>>=◌
abbrev pub ◌>>=◌ : {A B : Type 0} → Result A Fault → (A → Result B Fault) → Result B Fault
(Ok x) >>= next = next x
(Err fault) >>= next = Err fault

abbrev pub Reader : Type 0 → Type 0 → Type 0
Reader T A = List T → Result (A × List T) Fault

-- nothing is read
abbrev pub nothing : {T : Type 0} → Reader T (Unit {0})
nothing ts = Ok (tt, ts)

-- one token of a class
abbrev pub lead_as : {T K : Type 0} → Option K → T → Reader T K
lead_as None t ts = Err (Stop (length (t ∷ ts)))
lead_as (Some x) t ts = Ok (x, ts)

abbrev pub lead : {T K : Type 0} → (T → Option K) → Reader T K
lead class [] = Err (Stop 0)
lead class (t ∷ ts) = lead_as (class t) t ts

-- One after the other; what is read first says what is read behind it.
abbrev pub follow : {T A B : Type 0} → Reader T A → (A → Reader T B) → Reader T (A × B)
follow r s ts = r ts >>= λ a. s a.0 a.1 >>= λ b. Ok ((a.0, b.0), b.1)

abbrev pub seq : {T A B : Type 0} → Reader T A → Reader T B → Reader T (A × B)
seq r s = follow r (λ a. s)

-- a token, which says what is read behind it
abbrev pub branch : {T K B : Type 0} → (T → Option K) → (K → Reader T B) → Reader T (K × B)
branch class s = follow (lead class) s

-- A reader's value, seen as another one.
abbrev pub seen : {T A B : Type 0} → (A → B) → Reader T A → Reader T B
seen view r ts = r ts >>= λ a. Ok (view a.0, a.1)

-- one of two, by what stands first
abbrev pub choose_on : {T A B : Type 0} → Bool → Reader T A → Reader T B → Reader T (A ⊎ B)
choose_on true r s ts = r ts >>= λ a. Ok (inl a.0, a.1)
choose_on false r s ts = s ts >>= λ b. Ok (inr b.0, b.1)

abbrev pub choose : {T A B : Type 0} → (List T → Bool) → Reader T A → Reader T B → Reader T (A ⊎ B)
choose test r s ts = choose_on (test ts) r s ts

-- What may be left out: cut gives the tokens behind those that open it, where these stand.
abbrev pub optional_on : {T B : Type 0} → Option (List T) → Reader T B → Reader T (Option B)
optional_on None s ts = Ok (None, ts)
optional_on (Some rest) s ts = s rest >>= λ b. Ok (Some b.0, b.1)

abbrev pub optional : {T B : Type 0} → (List T → Option (List T)) → Reader T B → Reader T (Option B)
optional cut s ts = optional_on (cut ts) s ts

-- what begins here, where the test says so
abbrev pub here_on : {T : Type 0} → Bool → List T → Option (List T)
here_on true ts = Some ts
here_on false ts = None

abbrev pub here_if : {T : Type 0} → (List T → Bool) → List T → Option (List T)
here_if test ts = here_on (test ts) ts

-- the value of the first token, if it is of the class, and what is behind it
abbrev pub split_on : {T K : Type 0} → Option K → List T → Option (K × List T)
split_on None ts = None
split_on (Some x) ts = Some (x, ts)

abbrev pub split : {T K : Type 0} → (T → Option K) → List T → Option (K × List T)
split class [] = None
split class (t ∷ ts) = split_on (class t) ts

-- such a token, where one stands
abbrev pub maybe_on : {T K : Type 0} → Option (K × List T) → List T → Result (Option K × List T) Fault
maybe_on None ts = Ok (None, ts)
maybe_on (Some x) ts = Ok (Some x.0, x.1)

abbrev pub maybe : {T K : Type 0} → (T → Option K) → Reader T (Option K)
maybe class ts = maybe_on (split class ts) ts

-- what is behind a token of the class
abbrev pub behind_on : {T K : Type 0} → Option K → List T → Option (List T)
behind_on None ts = None
behind_on (Some x) ts = Some ts

abbrev pub behind : {T K : Type 0} → (T → Option K) → List T → Option (List T)
behind class [] = None
behind class (t ∷ ts) = behind_on (class t) ts

-- what is behind a token of the first class and one of the second
abbrev pub both_behind_on : {T K K' : Type 0} → Option K → (T → Option K') → List T → Option (List T)
both_behind_on None class ts = None
both_behind_on (Some x) class ts = behind class ts

abbrev pub both_behind : {T K K' : Type 0} → (T → Option K) → (T → Option K') → List T → Option (List T)
both_behind first second [] = None
both_behind first second (t ∷ ts) = both_behind_on (first t) second ts

-- What may stand behind what was read, which says whether it may.
abbrev pub opt : {T A B : Type 0} → Reader T A → (A → List T → Bool) → Reader T B → Reader T (A × Option B)
opt r test s = follow r (λ a. optional (here_if (test a)) s)

-- a phrase behind what was read: the tokens that open it, and what is behind them
abbrev pub with_phrase : {T A B : Type 0} → Reader T A → (List T → Option (List T)) → Reader T B → Reader T (A × Option B)
with_phrase r cut s = follow r (λ a. optional cut s)

-- Any number, as long as one begins; what was read before says what begins, and how it is read. At most n of them.
abbrev pub many_on : {T A : Type 0} → Bool → Reader T A → (A → Reader T (List A)) → Reader T (List A)
many_on false r more ts = Ok ([], ts)
many_on true r more ts = r ts >>= λ a. more a.0 a.1 >>= λ xs. Ok (a.0 ∷ xs.0, xs.1)

abbrev pub many_at : {T A State : Type 0} → (State → List T → Bool) → (State → Reader T A) → (State → A → State) → ℕ → State → Reader T (List A)
many_at begins r step zero state ts = Ok ([], ts)
many_at begins r step (suc n) state ts = many_on (begins state ts) (r state) (λ a. many_at begins r step n (step state a)) ts

abbrev pub many_from : {T A State : Type 0} → (State → List T → Bool) → (State → Reader T A) → (State → A → State) → State → Reader T (List A)
many_from begins r step state ts = many_at begins r step (length ts) state ts

abbrev pub no_step : {A : Type 0} → Unit {0} → A → Unit {0}
no_step state a = tt

abbrev pub many : {T A : Type 0} → (List T → Bool) → Reader T A → Reader T (List A)
many begins r = many_from (λ state. begins) (λ state. r) no_step tt

-- One or more.
abbrev pub plus : {T A : Type 0} → (List T → Bool) → Reader T A → Reader T (A × List A)
plus begins r = follow r (λ a. many begins r)

-- one, and any number of others behind tokens of a class
abbrev pub chain : {T K A : Type 0} → (List T → Bool) → (T → Option K) → Reader T A → Reader T (A × List (K × A))
chain begins class r = follow r (λ a. many begins (branch class (λ x. r)))

-- What has to stand behind what was read. Where it doesn't begin, reading stops there, or one token later where what
-- was read might have gone on with the token that stands there.
abbrev pub left_on : {T : Type 0} → Bool → List T → ℕ
left_on true ts = length ts
left_on false ts = suc (length ts)

abbrev pub missing : {T B : Type 0} → (T → Bool) → Reader T B
missing goes [] = Err (Stop 0)
missing goes (t ∷ ts) = Err (Stop (left_on (goes t) ts))

abbrev pub need_on : {T B : Type 0} → Bool → Reader T B → (T → Bool) → Reader T B
need_on true s goes ts = s ts
need_on false s goes ts = missing goes ts

abbrev pub need : {T B : Type 0} → (List T → Bool) → Reader T B → (T → Bool) → Reader T B
need test s goes ts = need_on (test ts) s goes ts

abbrev pub must : {T A B : Type 0} → Reader T A → (A → T → Bool) → (List T → Bool) → Reader T B → Reader T (A × B)
must r goes test s = follow r (λ a. need test s (goes a))

-- whether a token of the class stands first
abbrev pub stands : {T K : Type 0} → (T → Option K) → List T → Bool
stands class [] = false
stands class (t ∷ ts) = is_some (class t)

-- a token that has to stand behind what was read
abbrev pub closed : {T A K : Type 0} → Reader T A → (T → Option K) → (A → T → Bool) → Reader T (A × K)
closed r class goes = must r goes (stands class) (lead class)

-- Clauses in any order, each kind at most once: a class gives the kind of the clause that its token begins.
abbrev pub among : {K : Type 0} → (K → K → Bool) → K → List K → Bool
among same k [] = false
among same k (j ∷ js) = same k j || among same k js

abbrev pub unless_on : {K : Type 0} → Bool → K → Option K
unless_on true k = None
unless_on false k = Some k

abbrev pub fresh_on : {K : Type 0} → (K → K → Bool) → List K → Option K → Option K
fresh_on same kinds None = None
fresh_on same kinds (Some k) = unless_on (among same k kinds) k

-- the class of what begins a clause of a kind that wasn't read yet
abbrev pub fresh : {T K : Type 0} → (K → K → Bool) → (T → Option K) → List K → T → Option K
fresh same class kinds t = fresh_on same kinds (class t)

abbrev pub with_kind : {K C : Type 0} → List K → K × C → List K
with_kind kinds clause = clause.0 ∷ kinds

abbrev pub clauses : {T K C : Type 0} → (K → K → Bool) → (T → Option K) → (K → Reader T C) → Reader T (List (K × C))
clauses same class clause = many_from (λ kinds. stands (fresh same class kinds)) (λ kinds. branch (fresh same class kinds) clause) with_kind []

-- A reader where no more may open.
abbrev pub full_on : {T A : Type 0} → Bool → Reader T A
full_on true ts = Err (Deep (length ts))
full_on false ts = Err (Stop (length ts))

abbrev pub full : {T A : Type 0} → (List T → Bool) → Reader T A
full opens ts = full_on (opens ts) ts

-- all tokens
abbrev pub ended : {T A : Type 0} → A → List T → Result A Fault
ended a [] = Ok a
ended a (t ∷ ts) = Err (Stop (length (t ∷ ts)))

abbrev pub whole : {T A : Type 0} → Reader T A → List T → Result A Fault
whole r ts = r ts >>= λ a. ended a.0 a.1
