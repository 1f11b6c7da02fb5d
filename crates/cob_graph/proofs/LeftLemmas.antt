-- Counters that are left, in lists that are put together.
use Rattle.std.proofs.Common.{◌≡◌, ◌≤◌, ℕ, ◌+◌, ◌-◌, Bool, true, false, if◌then◌else◌, List, [], ◌∷◌, ◌++◌, length, Some, None, refl, sym, ap, ◌∙◌, append_assoc, arith}
use Rattle.std.specs.declared.ops.ControlFlow.{ControlFlow}
use Rattle.std.specs.declared.ops.ControlFlow.TheVariants.{Continue, Break}
use Rattle.cob_program.specs.Act.{Stmt}
use Rattle.cob_graph.specs.declared.homes.Home.{Home}
use Rattle.cob_graph.specs.declared.homes.Home.TheVariants.{Count as of_count}
use Rattle.cob_graph.specs.Homes.{is_home, stmt_homes, count_homes}
use Rattle.cob_graph.specs.Numbers.{place_from, left_at}

pub homes_append : (xs ys : List Stmt) → count_homes (xs ++ ys) ≡ count_homes xs ++ count_homes ys
homes_append [] ys = refl
homes_append (x ∷ xs) ys = ap (λ hs. stmt_homes x ++ hs) (homes_append xs ys)
    ∙ sym (append_assoc (stmt_homes x) (count_homes xs) (count_homes ys))

module _ (statement : ℕ) where
  pub found_first : (xs ys : List Home) (left m : ℕ) → Break m ≡ left_at statement xs left →
      Break m ≡ left_at statement (xs ++ ys) left
  found_first [] ys left m e = absurd cc
  found_first (x ∷ xs) ys left m e = go (is_home x (of_count statement)) (found_first xs ys (left - 1) m) e
    where
      go : (here : Bool) → (Break m ≡ left_at statement xs (left - 1) → Break m ≡ left_at statement (xs ++ ys) (left - 1)) →
          Break m ≡ (if here then Break left else left_at statement xs (left - 1)) →
          Break m ≡ (if here then Break left else left_at statement (xs ++ ys) (left - 1))
      go true rest h = h
      go false rest h = rest h

  pub left_behind : (xs ys : List Home) (left m : ℕ) (r : ControlFlow ℕ ℕ) → Continue m ≡ left_at statement xs left →
      r ≡ left_at statement ys m → r ≡ left_at statement (xs ++ ys) left
  left_behind [] ys left m r e h = let same : m ≡ left = cc in h ∙ ap (left_at statement ys) same
  left_behind (x ∷ xs) ys left m r e h = go (is_home x (of_count statement)) (λ b. left_behind xs ys (left - 1) m r b h) e
    where
      go : (here : Bool) → (Continue m ≡ left_at statement xs (left - 1) → r ≡ left_at statement (xs ++ ys) (left - 1)) →
          Continue m ≡ (if here then Break left else left_at statement xs (left - 1)) →
          r ≡ (if here then Break left else left_at statement (xs ++ ys) (left - 1))
      go true rest b = absurd cc
      go false rest b = rest b

  -- ---- what is left tells the place

  pub left_most : (hs : List Home) (left m : ℕ) → Break m ≡ left_at statement hs left → m ≤ left
  left_most [] left m e = absurd cc
  left_most (h ∷ hs) left m e = go (is_home h (of_count statement)) (left_most hs (left - 1) m) e
    where
      go : (here : Bool) → (Break m ≡ left_at statement hs (left - 1) → m ≤ left - 1) →
          Break m ≡ (if here then Break left else left_at statement hs (left - 1)) → m ≤ left
      go true rest b = let same : m ≡ left = cc in omega arith
      go false rest b = let less : m ≤ left - 1 = rest b in omega arith

  pub found_place : (hs : List Home) (n left m : ℕ) → length hs ≤ left → Break m ≡ left_at statement hs left →
      place_from n (of_count statement) hs ≡ Some (n + (left - m))
  found_place [] n left m few e = absurd cc
  found_place (h ∷ hs) n left m few e =
      go (is_home h (of_count statement)) (found_place hs (n + 1) (left - 1) m (omega arith)) (omega arith) e
    where
      go : (here : Bool) → (Break m ≡ left_at statement hs (left - 1) →
          place_from (n + 1) (of_count statement) hs ≡ Some (n + 1 + (left - 1 - m))) → 1 ≤ left →
          Break m ≡ (if here then Break left else left_at statement hs (left - 1)) →
          (if here then Some n else place_from (n + 1) (of_count statement) hs) ≡ Some (n + (left - m))
      go true rest some b = let same : m ≡ left = cc in ap Some (omega arith)
      go false rest some b =
          let less : m ≤ left - 1 = left_most hs (left - 1) m b in
          rest b ∙ ap Some (omega arith)

  pub no_place : (hs : List Home) (n left m : ℕ) → Continue m ≡ left_at statement hs left →
      place_from n (of_count statement) hs ≡ None
  no_place [] n left m e = refl
  no_place (h ∷ hs) n left m e = go (is_home h (of_count statement)) (no_place hs (n + 1) (left - 1) m) e
    where
      go : (here : Bool) → (Continue m ≡ left_at statement hs (left - 1) → place_from (n + 1) (of_count statement) hs ≡ None) →
          Continue m ≡ (if here then Break left else left_at statement hs (left - 1)) →
          (if here then Some n else place_from (n + 1) (of_count statement) hs) ≡ None
      go true rest b = absurd cc
      go false rest b = rest b

  -- ---- steps of loops

  pub found_here : (all left_ here rest : List Home) (k m n : ℕ) → left_ ≡ here ++ rest →
      left_at statement left_ m ≡ left_at statement all k → Break n ≡ left_at statement here m →
      Break n ≡ left_at statement all k
  found_here all left_ here rest k m n cut same e =
      found_first here rest m n e ∙ (sym (ap (λ hs. left_at statement hs m) cut) ∙ same)

  pub goes_on : (all left_ here rest : List Home) (k m n : ℕ) → left_ ≡ here ++ rest →
      left_at statement left_ m ≡ left_at statement all k → Continue n ≡ left_at statement here m →
      left_at statement rest n ≡ left_at statement all k
  goes_on all left_ here rest k m n cut same e =
      left_behind here rest m n (left_at statement rest n) e refl ∙ (sym (ap (λ hs. left_at statement hs m) cut) ∙ same)

  pub found_in_rest : (all here rest : List Home) (k m : ℕ) (r : ControlFlow ℕ ℕ) → all ≡ here ++ rest →
      Continue m ≡ left_at statement here k → r ≡ left_at statement rest m → r ≡ left_at statement all k
  found_in_rest all here rest k m r cut e h =
      left_behind here rest k m r e h ∙ sym (ap (λ hs. left_at statement hs k) cut)
