-- What is reached by way of all calls is what the relation says, and so the places that the tests find are those that break the rules.
use Rattle.std.proofs.Common.{◌≡◌, ℕ, ◌<◌, ◌≤◌, zero, suc, min, Bool, true, false, ◌&&◌, ◌⊎◌, inl, inr, ⊎_elim, List, length, Option, Some, None, refl, sym, ap, ◌∙◌, subst, arith}
use Rattle.std.specs.Prelude.{nat_lt}
use Rattle.std.specs.List.{Contains}
use Rattle.std.proofs.lemmas.List.{get_or_default}
use Rattle.std.proofs.lemmas.List.Elements.{Contains-get_or}
use Rattle.std.proofs.lemmas.Bool.{cases_lt}
use Rattle.rule_order.specs.Order.{lesser}
use Rattle.cob_graph.specs.Nesting.{Span, Call, Jump, Reaches, directly, onward, IsIn, IsPerformed, BreaksCycles, BreaksNests, BreaksJumps, BreaksOrder}
use Rattle.cob_graph.specs.Reaching.{blank, call_at, through}
use Rattle.cob_graph.specs.Broken.{IsLeast, least_below, line_where, blank_jump, jump_at, is_crossing, is_leaving, cycle_at, crossing_at, crossings, leaving_at, leavings, reversed_at}
use Rattle.cob_graph.proofs.BoolLemmas.{and_true, true_and, or_true, true_or_left, true_or_right, in_is, is_in_from, lt_is, is_lt, crossing_is, is_crossing_from, leaving_is, is_leaving_from}

-- ---- the least line

line_is : (b : Bool) (line l : ℕ) → line_where b line ≡ Some l → (b ≡ true) × (line ≡ l)
line_is true line l e = (refl, cc)
line_is false line l e = absurd (cc)

line_from : (b : Bool) (line : ℕ) → b ≡ true → line_where b line ≡ Some line
line_from true line e = refl
line_from false line e = absurd (cc)

abbrev Stands : (ℕ → Option ℕ) → ℕ → ℕ → Type 0
Stands at n l = (i : ℕ) × (i < n) × (at i ≡ Some l)

lesser_is : (a b : Option ℕ) (l : ℕ) → lesser a b ≡ Some l → (a ≡ Some l) ⊎ (b ≡ Some l)
lesser_is None b l e = inr e
lesser_is (Some x) None l e = inl e
lesser_is (Some x) (Some y) l e =
    let least : min x y ≡ l = cc in
    ⊎_elim (λ (h : x < y). inl (ap Some (omega (arith, h, least)))) (λ (h : y ≤ x). inr (ap Some (omega (arith, h, least)))) (cases_lt x y)

abbrev AtMost : Option ℕ → ℕ → Type 0
AtMost o m = (l : ℕ) × (o ≡ Some l) × (l ≤ m)

lesser_left : (a b : Option ℕ) (m : ℕ) → AtMost a m → AtMost (lesser a b) m
lesser_left None b m (l, e, h) = absurd (cc)
lesser_left (Some x) None m (l, e, h) = (l, e, h)
lesser_left (Some x) (Some y) m (l, e, h) = let same : x ≡ l = cc in (min x y, refl, omega (arith, same, h))

lesser_right : (a b : Option ℕ) (m : ℕ) → AtMost b m → AtMost (lesser a b) m
lesser_right None b m h = h
lesser_right (Some x) None m (l, e, h) = absurd (cc)
lesser_right (Some x) (Some y) m (l, e, h) = let same : y ≡ l = cc in (min x y, refl, omega (arith, same, h))

below_some : (at : ℕ → Option ℕ) (n l : ℕ) → least_below at n ≡ Some l → Stands at n l
below_some at zero l e = absurd (cc)
below_some at (suc n) l e =
    ⊎_elim (λ (h : least_below at n ≡ Some l). let s = below_some at n l h in (s.0, omega (arith, s.1), s.2))
    (λ (h : at n ≡ Some l). (n, omega arith, h)) (lesser_is (least_below at n) (at n) l e)

below_least : (at : ℕ → Option ℕ) (n i m : ℕ) → i < n → at i ≡ Some m → AtMost (least_below at n) m
below_least at zero i m h e = absurd (omega (arith, h))
below_least at (suc n) i m h e =
    ⊎_elim (λ (g : i < n). lesser_left (least_below at n) (at n) m (below_least at n i m g e))
    (λ (g : n ≤ i). let same : i ≡ n = omega (arith, g, h) in lesser_right (least_below at n) (at n) m (m, sym (ap at same) ∙ e, omega arith)) (cases_lt i n)

-- each line that stands somewhere is broken, and what is broken has no lesser line than one that stands
least_of : (Broken : ℕ → Type 0) (at : ℕ → Option ℕ) (n : ℕ) → ((l : ℕ) → Stands at n l → Broken l) →
    ((l : ℕ) → Broken l → (m : ℕ) × Stands at n m × (m ≤ l)) → IsLeast Broken (least_below at n)
least_of Broken at n sound complete = record {
  none =
      λ e other b. let found = complete other b in let most = below_least at n found.1.0 found.0 found.1.1 found.1.2 in cc;
  broken = λ l e. sound l (below_some at n l e);
  first = λ l e other b.
      let found = complete other b in
      let most = below_least at n found.1.0 found.0 found.1.1 found.1.2 in
      let same : l ≡ most.0 = cc in
      omega (arith, same, most.2, found.2);
}

-- ---- what is reached

jump_place : (js : List Jump) (j : Jump) → Contains js j → (i : ℕ) × (i < length js) × (jump_at js i ≡ j)
jump_place js j (i, within, is) = (i, within, get_or_default js i blank_jump j within ∙ is)

module _ (cs : List Call) where
  abbrev n : ℕ
  n = length cs

  abbrev span : ℕ → Span
  span i = (call_at cs i).span

  place : (c : Call) → Contains cs c → (i : ℕ) × (i < n) × (call_at cs i ≡ c)
  place c (i, within, is) = (i, within, get_or_default cs i blank c within ∙ is)

  stands_at : (i : ℕ) → i < n → Contains cs (call_at cs i)
  stands_at i h = Contains-get_or cs i blank h

  performed_at : (i : ℕ) → i < n → IsPerformed cs (span i)
  performed_at i h = record { call = call_at cs i; stands = stands_at i h; it = refl }

  abbrev Goes : ℕ → ℕ → ℕ → Type 0
  Goes k i j = through cs k i j ≡ true

  pub goes_cases : (k i j : ℕ) → Goes (suc k) i j → Goes k i j ⊎ (Goes k i k × Goes k k j)
  goes_cases k i j e =
      ⊎_elim (λ (h : Goes k i j). inl h) (λ (h : (through cs k i k && through cs k k j) ≡ true). inr (and_true (through cs k i k) (through cs k k j) h))
      (or_true (through cs k i j) (through cs k i k && through cs k k j) e)

  goes_more : (k i j : ℕ) → Goes k i j → Goes (suc k) i j
  goes_more k i j e = true_or_left (through cs k i j) (through cs k i k && through cs k k j) e

  goes_by : (k i j : ℕ) → Goes k i k → Goes k k j → Goes (suc k) i j
  goes_by k i j a b =
      true_or_right (through cs k i j) (through cs k i k && through cs k k j) (true_and (through cs k i k) (through cs k k j) a b)

  pub goes_directly : (k i j : ℕ) → IsIn (call_at cs j).para (span i) → Goes k i j
  goes_directly zero i j h = is_in_from (call_at cs j).para (span i) h
  goes_directly (suc k) i j h = goes_more k i j (goes_directly k i j h)

  pub goes_onward : (k m i j : ℕ) → m < k → Goes k i m → Goes k m j → Goes k i j
  goes_onward zero m i j below a b = absurd (omega (arith, below))
  goes_onward (suc k) m i j below a b =
      ⊎_elim
      (λ (h : m < k).
      ⊎_elim
      (λ (p : Goes k i m).
      ⊎_elim (λ (q : Goes k m j). goes_more k i j (goes_onward k m i j h p q))
      (λ (q : Goes k m k × Goes k k j). goes_by k i j (goes_onward k m i k h p q.0) q.1) (goes_cases k m j b))
      (λ (p : Goes k i k × Goes k k m).
      ⊎_elim (λ (q : Goes k m j). goes_by k i j p.0 (goes_onward k m k j h p.1 q))
      (λ (q : Goes k m k × Goes k k j). goes_by k i j p.0 q.1) (goes_cases k m j b))
      (goes_cases k i m a))
      (λ (h : k ≤ m).
      let same : m ≡ k = omega (arith, h, below) in
      goes_by k i j
      (⊎_elim (λ (p : Goes k i k). p) (λ (p : Goes k i k × Goes k k k). p.0) (goes_cases k i k (subst (λ x. Goes (suc k) i x) same a)))
      (⊎_elim (λ (p : Goes k k j). p) (λ (p : Goes k k k × Goes k k j). p.1) (goes_cases k k j (subst (λ x. Goes (suc k) x j) same b))))
      (cases_lt m k)

  goes_reaches : (k i j : ℕ) → k ≤ n → i < n → j < n → Goes k i j → Reaches cs (span i) (span j)
  goes_reaches zero i j le h g e = directly (call_at cs j) (stands_at j g) (in_is (call_at cs j).para (span i) e)
  goes_reaches (suc k) i j le h g e =
      ⊎_elim (λ (p : Goes k i j). goes_reaches k i j (omega (arith, le)) h g p)
      (λ (p : Goes k i k × Goes k k j). onward (goes_reaches k i k (omega (arith, le)) h (omega (arith, le)) p.0) (goes_reaches k k j (omega (arith, le)) (omega (arith, le)) g p.1))
      (goes_cases k i j e)

  -- by way of a last range, which has the call
  abbrev Lastly : ℕ → ℕ → Type 0
  Lastly i j = IsIn (call_at cs j).para (span i) ⊎ ((m : ℕ) × (m < n) × Reaches cs (span i) (span m) × IsIn (call_at cs j).para (span m))

  goes_lastly : (k i j : ℕ) → k ≤ n → i < n → j < n → Goes k i j → Lastly i j
  goes_lastly zero i j le h g e = inl (in_is (call_at cs j).para (span i) e)
  goes_lastly (suc k) i j le h g e =
      ⊎_elim (λ (p : Goes k i j). goes_lastly k i j (omega (arith, le)) h g p)
      (λ (p : Goes k i k × Goes k k j).
      let first = goes_reaches k i k (omega (arith, le)) h (omega (arith, le)) p.0 in
      ⊎_elim (λ (q : IsIn (call_at cs j).para (span k)). inr (k, omega (arith, le), first, q))
      (λ (q : (m : ℕ) × (m < n) × Reaches cs (span k) (span m) × IsIn (call_at cs j).para (span m)). inr (q.0, q.1, onward first q.2, q.3))
      (goes_lastly k k j (omega (arith, le)) (omega (arith, le)) g p.1))
      (goes_cases k i j e)

  -- a range that is reached is that of a call, which is reached
  abbrev Arrives : ℕ → Span → Type 0
  Arrives i t = (j : ℕ) × (j < n) × (span j ≡ t) × Goes n i j

  reaches_goes : {s t : Span} → Reaches cs s t → (i : ℕ) → i < n → span i ≡ s → Arrives i t
  reaches_goes {s} {t} (directly c stands inside) i h e =
      let at = place c stands in
      let there = subst (λ (x : Call). IsIn x.para (span i)) (sym at.2) (subst (IsIn c.para) (sym e) inside) in
      (at.0, at.1, ap (λ (x : Call). x.span) at.2, goes_directly n i at.0 there)
  reaches_goes {s} {t} (onward first second) i h e =
      let one = reaches_goes first i h e in
      let two = reaches_goes second one.0 one.1 one.2 in
      (two.0, two.1, two.2, goes_onward n one.0 i two.0 one.1 one.3 two.3)

  -- into a range that is that of j
  goes_into : (i j : ℕ) (c : Call) (t : Span) → call_at cs i ≡ c → span j ≡ t → IsIn c.para t → Goes n j i
  goes_into i j c t at e inside =
      goes_directly n j i (subst (λ (x : Call). IsIn x.para (span j)) (sym at) (subst (IsIn c.para) (sym e) inside))

  -- ---- the rules

  pub cycles : IsLeast (BreaksCycles cs) (least_below (cycle_at cs) n)
  cycles = least_of (BreaksCycles cs) (cycle_at cs) n sound complete
    where
      sound : (l : ℕ) → Stands (cycle_at cs) n l → BreaksCycles cs l
      sound l (i, h, e) =
          let is = line_is (through cs n i i) (call_at cs i).line l e in
          ⊎_elim (λ (p : IsIn (call_at cs i).para (span i)).
          record { call = call_at cs i; stands = stands_at i h; outer = span i; performed = performed_at i h; inside = p; back = directly (call_at cs i) (stands_at i h) p; here = sym is.1 })
          (λ (q : (m : ℕ) × (m < n) × Reaches cs (span i) (span m) × IsIn (call_at cs i).para (span m)).
          record { call = call_at cs i; stands = stands_at i h; outer = span q.0; performed = performed_at q.0 q.1; inside = q.3; back = q.2; here = sym is.1 })
          (goes_lastly n i i (omega arith) h h is.0)

      complete : (l : ℕ) → BreaksCycles cs l → (m : ℕ) × Stands (cycle_at cs) n m × (m ≤ l)
      complete l b =
          let at = place b.call b.stands in
          let i = at.0 in
          let back = reaches_goes b.back i at.1 (ap (λ (x : Call). x.span) at.2) in
          let round = goes_onward n back.0 i i back.1 back.3 (goes_into i back.0 b.call b.outer at.2 back.2 b.inside) in
          let line : (call_at cs i).line ≡ l = ap (λ (x : Call). x.line) at.2 ∙ sym b.here in
          ((call_at cs i).line, (i, at.1, line_from (through cs n i i) (call_at cs i).line round), omega (arith, line))

  pub nests : IsLeast (BreaksNests cs) (least_below (crossings cs) n)
  nests = least_of (BreaksNests cs) (crossings cs) n sound complete
    where
      sound : (l : ℕ) → Stands (crossings cs) n l → BreaksNests cs l
      sound l (o, g, found) =
          let here = below_some (crossing_at cs o) n l found in
          let i = here.0 in
          let is = line_is (through cs n o i && is_crossing (span i) (span o)) (call_at cs i).line l here.2 in
          let both = and_true (through cs n o i) (is_crossing (span i) (span o)) is.0 in
          let crossing = crossing_is (span i) (span o) both.1 in
          let reached : IsIn (call_at cs i).para (span o) ⊎ ((between : Span) × Reaches cs (span o) between × IsIn (call_at cs i).para between) =
          ⊎_elim (λ (p : IsIn (call_at cs i).para (span o)). inl p)
          (λ (q : (m : ℕ) × (m < n) × Reaches cs (span o) (span m) × IsIn (call_at cs i).para (span m)). inr (span q.0, q.2, q.3)) (goes_lastly n o i (omega arith) g here.1 both.0) in
          record { call = call_at cs i; stands = stands_at i here.1; outer = span o; performed = performed_at o g; reached = reached; not_apart = crossing.0; not_within = crossing.1; here = sym is.1 }

      complete : (l : ℕ) → BreaksNests cs l → (m : ℕ) × Stands (crossings cs) n m × (m ≤ l)
      complete l b =
          let at = place b.call b.stands in
          let i = at.0 in
          let by = place b.performed.call b.performed.stands in
          let o = by.0 in
          let outer : span o ≡ b.outer = ap (λ (x : Call). x.span) by.2 ∙ b.performed.it in
          let inner : span i ≡ b.call.span = ap (λ (x : Call). x.span) at.2 in
          let goes : Goes n o i =
          ⊎_elim (λ (p : IsIn b.call.para b.outer). goes_into i o b.call b.outer at.2 outer p)
          (λ (q : (between : Span) × Reaches cs b.outer between × IsIn b.call.para between).
          let way = reaches_goes q.1 o by.1 outer in
          goes_onward n way.0 o i way.1 way.3 (goes_into i way.0 b.call q.0 at.2 way.2 q.2)) b.reached in
          let crosses : is_crossing (span i) (span o) ≡ true =
          subst (λ (s : Span). is_crossing s (span o) ≡ true) (sym inner) (subst (λ (t : Span). is_crossing b.call.span t ≡ true) (sym outer) (is_crossing_from b.call.span b.outer b.not_apart b.not_within)) in
          let line : (call_at cs i).line ≡ l = ap (λ (x : Call). x.line) at.2 ∙ sym b.here in
          let stands =
          line_from (through cs n o i && is_crossing (span i) (span o)) (call_at cs i).line (true_and (through cs n o i) (is_crossing (span i) (span o)) goes crosses) in
          let most = below_least (crossing_at cs o) n i (call_at cs i).line at.1 stands in
          (most.0, (o, by.1, most.1), omega (arith, most.2, line))

  pub jumps : (js : List Jump) → IsLeast (BreaksJumps cs js) (least_below (leavings cs js) n)
  jumps js = least_of (BreaksJumps cs js) (leavings cs js) n sound complete
    where
      sound : (l : ℕ) → Stands (leavings cs js) n l → BreaksJumps cs js l
      sound l (o, g, found) =
          let here = below_some (leaving_at cs js o) (length js) l found in
          let i = here.0 in
          let is = line_is (is_leaving (jump_at js i) (span o)) (jump_at js i).line l here.2 in
          let leaves = leaving_is (jump_at js i) (span o) is.0 in
          record { jump = jump_at js i; stands = Contains-get_or js i blank_jump here.1; outer = span o; performed = performed_at o g; inside = leaves.0; outside = leaves.1; here = sym is.1 }

      complete : (l : ℕ) → BreaksJumps cs js l → (m : ℕ) × Stands (leavings cs js) n m × (m ≤ l)
      complete l b =
          let at = jump_place js b.jump b.stands in
          let i = at.0 in
          let by = place b.performed.call b.performed.stands in
          let o = by.0 in
          let outer : span o ≡ b.outer = ap (λ (x : Call). x.span) by.2 ∙ b.performed.it in
          let leaves : is_leaving (jump_at js i) (span o) ≡ true =
          subst (λ (j : Jump). is_leaving j (span o) ≡ true) (sym at.2) (subst (λ (t : Span). is_leaving b.jump t ≡ true) (sym outer) (is_leaving_from b.jump b.outer b.inside b.outside)) in
          let line : (jump_at js i).line ≡ l = ap (λ (x : Jump). x.line) at.2 ∙ sym b.here in
          let most =
          below_least (leaving_at cs js o) (length js) i (jump_at js i).line at.1 (line_from (is_leaving (jump_at js i) (span o)) (jump_at js i).line leaves) in
          (most.0, (o, by.1, most.1), omega (arith, most.2, line))

  pub orders : IsLeast (BreaksOrder cs) (least_below (reversed_at cs) n)
  orders = least_of (BreaksOrder cs) (reversed_at cs) n sound complete
    where
      sound : (l : ℕ) → Stands (reversed_at cs) n l → BreaksOrder cs l
      sound l (i, h, e) =
          let is = line_is (nat_lt (span i).last (span i).first) (call_at cs i).line l e in
          record { call = call_at cs i; stands = stands_at i h; reversed = lt_is (span i).last (span i).first is.0; here = sym is.1 }

      complete : (l : ℕ) → BreaksOrder cs l → (m : ℕ) × Stands (reversed_at cs) n m × (m ≤ l)
      complete l b =
          let at = place b.call b.stands in
          let i = at.0 in
          let reversed : (span i).last < (span i).first =
          subst (λ (x : Call). x.span.last < x.span.first) (sym at.2) b.reversed in
          let line : (call_at cs i).line ≡ l = ap (λ (x : Call). x.line) at.2 ∙ sym b.here in
          ((call_at cs i).line, (i, at.1, line_from (nat_lt (span i).last (span i).first) (call_at cs i).line (is_lt _ _ reversed)), omega (arith, line))
