-- Clauses read one after the other, as a loop does that asks the clauses before for their kinds.
use Rattle.std.proofs.Common.{◌≡◌, ◌<◌, ◌≤◌, Bool, true, false, ◌||◌, List, [], ◌∷◌, ◌++◌, length, Option, Some, None, Result, Ok, Err, refl, sym, ap, subst, ◌∙◌, map, arith}
use Rattle.cob_tree.specs.Symbols.{Sign}
use Rattle.cob_parse_expr.specs.declared.lexeme.Lexeme.{Lexeme}
use Rattle.cob_parse_expr.specs.declared.halt.Halt.{Halt}
use Rattle.cob_parse_expr.specs.Steps.{signs, Fails, Leads, Lacks}
use Rattle.reading.specs.Readers.{Fault, Reader, ◌>>=◌, lead, branch, seen, stands, among, unless_on, fresh_on, fresh, with_kind, clauses}
use Rattle.reading.proofs.Turns.{Turns, turns_start, turns_on, turns_end, turns_fail}
use Rattle.cob_parse_data.specs.Reading.{untagged}
use Rattle.cob_parse_data.proofs.ListLoop.{fails_whole, signs_length}

module _ {K C : Type 0} (same : K → K → Bool) (class : Sign → Option K) (body : K → Reader Sign C) (head : C → K) where
  -- the kinds of clauses that were read, the last first
  abbrev kinds_behind : List C → List K → List K
  kinds_behind [] ks = ks
  kinds_behind (c ∷ cs) ks = kinds_behind cs (head c ∷ ks)

  last_kind : (cs : List C) (c : C) (ks : List K) → kinds_behind (cs ++ c ∷ []) ks ≡ head c ∷ kinds_behind cs ks
  last_kind [] c ks = refl
  last_kind (x ∷ cs) c ks = last_kind cs c (head x ∷ ks)

  swap : (a b c : Bool) → (a || (b || c)) ≡ ((b || a) || c)
  swap true true c = refl
  swap true false c = refl
  swap false true c = refl
  swap false false c = refl

  among_behind : (k : K) (cs : List C) (ks : List K) → among same k (kinds_behind cs ks) ≡ (among same k (map head cs) || among same k ks)
  among_behind k [] ks = refl
  among_behind k (c ∷ cs) ks = among_behind k cs (head c ∷ ks) ∙ swap (among same k (map head cs)) (same k (head c)) (among same k ks)

  or_none : (b : Bool) → (b || false) ≡ b
  or_none true = refl
  or_none false = refl

  -- in whatever order
  same_fresh : (cs : List C) → fresh same class (kinds_behind cs []) ≡ fresh same class (map head cs)
  same_fresh cs = λ i t. at (class t) i
    where
      at : (o : Option K) → fresh_on same (kinds_behind cs []) o ≡ fresh_on same (map head cs) o
      at None = refl
      at (Some k) = ap (λ (b : Bool). unless_on b k) (among_behind k cs [] ∙ or_none (among same k (map head cs)))

  abbrev tagged : List C → List (K × C)
  tagged = map (λ c. (head c, c))

  tagged_more : (cs : List C) (c : C) → tagged (cs ++ c ∷ []) ≡ tagged cs ++ (head c, c) ∷ []
  tagged_more [] c = refl
  tagged_more (x ∷ cs) c = ap (λ (z : List (K × C)). (head x, x) ∷ z) (tagged_more cs c)

  untag_tag : (cs : List C) → untagged (tagged cs) ≡ cs
  untag_tag [] = refl
  untag_tag (c ∷ cs) = ap (λ (z : List C). c ∷ z) (untag_tag cs)

  abbrev begins_at : List K → List Sign → Bool
  begins_at kinds = stands (fresh same class kinds)

  abbrev reads_at : List K → Reader Sign (K × C)
  reads_at kinds = branch (fresh same class kinds) body

  abbrev whole : List Sign → Result (List (K × C) × List Sign) Fault
  whole ts = clauses same class body ts

  -- what the loop keeps
  abbrev pub Kept : List C → List Lexeme → List Lexeme → Type 0
  Kept cs left all = Turns begins_at reads_at with_kind (kinds_behind cs []) (tagged cs) (signs left) (whole (signs all))

  pub kept_start : (all : List Lexeme) → Kept [] all all
  kept_start all = turns_start begins_at reads_at with_kind [] (signs all)

  module _ (cs : List C) (left all : List Lexeme) (kept : Kept cs left all) where
    stands_so : (b : Bool) → stands (fresh same class (map head cs)) (signs left) ≡ b → begins_at (kinds_behind cs []) (signs left) ≡ b
    stands_so b e = ap (λ (f : Sign → Option K). stands f (signs left)) (same_fresh cs) ∙ e

    read_so : (k : K) (rest : List Sign) → lead (fresh same class (map head cs)) (signs left) ≡ Ok (k, rest) → reads_at (kinds_behind cs []) (signs left) ≡ (body k rest >>= λ y. Ok ((k, y.0), y.1))
    read_so k rest e = rw (ap (λ (f : Sign → Option K). lead f (signs left)) (same_fresh cs) ∙ e) refl

    some_left : (ts : List Sign) (f : Sign → Option K) → stands f ts ≡ true → 1 ≤ length ts
    some_left [] f e = absurd cc
    some_left (t ∷ ts) f e = omega arith

    pub kept_on : (k : K) (c : C) (rest after : List Lexeme) → Leads (fresh same class (map head cs)) k (signs left) (signs rest) → body k (signs rest) ≡ Ok (c, signs after) → head c ≡ k → length after < length left → Kept (cs ++ c ∷ []) after all
    kept_on k c rest after leads read headed less =
        let there = stands_so true leads.stands in
        let first : reads_at (kinds_behind cs []) (signs left) ≡ Ok ((k, c), signs after) = read_so k (signs rest) leads.reads ∙ rw read refl in
        let turned = turns_on begins_at reads_at with_kind (kinds_behind cs []) (tagged cs) (signs left) (whole (signs all)) kept (k, c) (signs after) there first (omega (arith, less, signs_length left, signs_length after)) in
        subst (λ (ks : List K). Turns begins_at reads_at with_kind ks (tagged (cs ++ c ∷ [])) (signs after) (whole (signs all))) (ap (λ (j : K). j ∷ kinds_behind cs []) (sym headed) ∙ sym (last_kind cs c []))
        (subst (λ (xs : List (K × C)). Turns begins_at reads_at with_kind (k ∷ kinds_behind cs []) xs (signs after) (whole (signs all))) (ap (λ (j : K). tagged cs ++ (j, c) ∷ []) (sym headed) ∙ sym (tagged_more cs c)) turned)

    pub kept_end : Lacks (fresh same class (map head cs)) (signs left) → seen untagged (clauses same class body) (signs all) ≡ Ok (cs, signs left)
    kept_end lacks =
        let end : whole (signs all) ≡ Ok (tagged cs, signs left) = turns_end begins_at reads_at with_kind (kinds_behind cs []) (tagged cs) (signs left) (whole (signs all)) kept (stands_so false lacks.stands) in
        rw end (ap (λ (z : List C). Ok (z, signs left)) (untag_tag cs))

    pub kept_fail : (k : K) (rest : List Lexeme) (h : Halt) → Leads (fresh same class (map head cs)) k (signs left) (signs rest) → Fails h (body k (signs rest)) → Fails h (seen untagged (clauses same class body) (signs all))
    kept_fail k rest h leads f = fails_whole h (body k (signs rest)) (seen untagged (clauses same class body) (signs all)) whole_fails f
      where
        whole_fails : (d : Fault) → body k (signs rest) ≡ Err d → seen untagged (clauses same class body) (signs all) ≡ Err d
        whole_fails d e =
            let first : reads_at (kinds_behind cs []) (signs left) ≡ Err d = read_so k (signs rest) leads.reads ∙ rw e refl in
            let stop : whole (signs all) ≡ Err d = turns_fail begins_at reads_at with_kind (kinds_behind cs []) (tagged cs) (signs left) (whole (signs all)) kept d (stands_so true leads.stands) first (some_left (signs left) (fresh same class (map head cs)) leads.stands) in
            rw stop refl
