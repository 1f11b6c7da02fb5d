-- Fewer calls that tell as much break the same rules, first at the same lines.
use Rattle.std.proofs.Common.{◌≡◌, ℕ, ◌+◌, ◌<◌, ◌≤◌, inl, inr, ⊎_elim, List, [], ◌∷◌, ◌++◌, length, get_or, take, map, Option, refl, sym, ap, ◌∙◌, subst, arith}
use Rattle.std.specs.List.{Contains}
use Rattle.std.proofs.lemmas.List.{map_push, map_more}
use Rattle.std.proofs.lemmas.List.Elements.{Contains-append_left, Contains-push, Contains-push_cases}
use Rattle.cob_graph.specs.declared.calls.Call as declared_call
use Rattle.cob_graph.specs.Listing.{plain_call}
use Rattle.cob_graph.specs.Nesting.{Span, Call, Jump, Reaches, directly, onward, IsIn, IsPerformed, ShareNone, IsWithin, BreaksCycles, BreaksNests, BreaksJumps, BreaksOrder}
use Rattle.cob_graph.specs.Broken.{IsLeast}
use Rattle.cob_graph.specs.Covering.{IsLike, HasLike, Covers, IsAdded}

-- ---- a call more

like_itself : (c : Call) → IsLike c c
like_itself c = record { para = refl; span = refl; line = omega arith }

pub added_none : (ds : List Call) (c : Call) → HasLike ds c → IsAdded ds c ds
added_none ds c like = record { kept = λ d h. h; added = λ d h. inl h; like = like }

pub added_one : (old new : List declared_call.Call) (c : declared_call.Call) → new ≡ old ++ c ∷ [] →
    IsAdded (map plain_call old) (plain_call c) (map plain_call new)
added_one old new c made =
    let seen : map plain_call new ≡ map plain_call old ++ plain_call c ∷ [] =
    ap (map plain_call) made ∙ map_push plain_call old c in
    subst (IsAdded (map plain_call old) (plain_call c)) (sym seen) (record {
      kept = λ d h. Contains-append_left (map plain_call old) (plain_call c ∷ []) d h;
      added = λ d h. Contains-push_cases (map plain_call old) (plain_call c) d h;
      like = (plain_call c, Contains-push (map plain_call old) (plain_call c), like_itself (plain_call c));
    })

pub covers_more : (cs : List declared_call.Call) (i : ℕ) (d : declared_call.Call) (ds es : List Call) → i < length cs →
    Covers (map plain_call (take i cs)) ds → IsAdded ds (plain_call (get_or cs i d)) es → Covers (map plain_call (take (i + 1) cs)) es
covers_more cs i d ds es within covers added =
    let front = map plain_call (take i cs) in
    let c = plain_call (get_or cs i d) in
    let seen : map plain_call (take (i + 1) cs) ≡ front ++ c ∷ [] = map_more plain_call cs i d within in
    subst (λ xs. Covers xs es) (sym seen) (record {
      stands = λ d h.
          ⊎_elim (λ (old : Contains ds d). Contains-append_left front (c ∷ []) d (covers.stands d old))
          (λ (new : c ≡ d). subst (Contains (front ++ c ∷ [])) new (Contains-push front c)) (added.added d h);
      like = λ x h.
          ⊎_elim (λ (old : Contains front x). let l = covers.like x old in (l.0, added.kept l.0 l.1, l.2))
          (λ (new : c ≡ x). subst (HasLike es) new added.like) (Contains-push_cases front c x h);
    })

-- ---- the rules

least_over : (A B : ℕ → Type 0) (o : Option ℕ) → ((l : ℕ) → A l → B l) → ((l : ℕ) → B l → (m : ℕ) × A m × (m ≤ l)) →
    IsLeast A o → IsLeast B o
least_over A B o to from is = record {
  none = λ e other b. let a = from other b in is.none e a.0 a.1;
  broken = λ l e. to l (is.broken l e);
  first = λ l e other b. let a = from other b in omega (arith, is.first l e a.0 a.1, a.2);
}

module _ (cs ds : List Call) (covers : Covers cs ds) where
  reaches_more : {s t : Span} → Reaches ds s t → Reaches cs s t
  reaches_more {s} {t} (directly c stands inside) = directly c (covers.stands c stands) inside
  reaches_more {s} {t} (onward first second) = onward (reaches_more first) (reaches_more second)

  reaches_less : {s t : Span} → Reaches cs s t → Reaches ds s t
  reaches_less {s} {t} (directly c stands inside) =
      let l = covers.like c stands in
      subst (Reaches ds s) l.2.span (directly l.0 l.1 (subst (λ n. IsIn n s) (sym l.2.para) inside))
  reaches_less {s} {t} (onward first second) = onward (reaches_less first) (reaches_less second)

  performed_more : (s : Span) → IsPerformed ds s → IsPerformed cs s
  performed_more s p = record { call = p.call; stands = covers.stands p.call p.stands; it = p.it }

  performed_less : (s : Span) → IsPerformed cs s → IsPerformed ds s
  performed_less s p = let l = covers.like p.call p.stands in record { call = l.0; stands = l.1; it = l.2.span ∙ p.it }

  pub cycles_over : (o : Option ℕ) → IsLeast (BreaksCycles ds) o → IsLeast (BreaksCycles cs) o
  cycles_over o =
      least_over (BreaksCycles ds) (BreaksCycles cs) o
      (λ l b. record {
        call =
            b.call;
        stands = covers.stands b.call b.stands;
        outer = b.outer;
        performed = performed_more b.outer b.performed;
        inside = b.inside;
        back = reaches_more b.back;
        here = b.here;
      })
      (λ l b.
      let like = covers.like b.call b.stands in (
        like.0.line,
        record {
          call = like.0;
          stands = like.1;
          outer = b.outer;
          performed = performed_less b.outer b.performed;
          inside = subst (λ n. IsIn n b.outer) (sym like.2.para) b.inside;
          back = subst (λ s. Reaches ds s b.outer) (sym like.2.span) (reaches_less b.back);
          here = refl;
        },
        omega (arith, like.2.line, b.here),
      ))

  pub nests_over : (o : Option ℕ) → IsLeast (BreaksNests ds) o → IsLeast (BreaksNests cs) o
  nests_over o =
      least_over (BreaksNests ds) (BreaksNests cs) o
      (λ l b. record {
        call =
            b.call;
        stands = covers.stands b.call b.stands;
        outer = b.outer;
        performed = performed_more b.outer b.performed;
        reached = ⊎_elim (λ (p : IsIn b.call.para b.outer). inl p)
            (λ (q : (between : Span) × Reaches ds b.outer between × IsIn b.call.para between). inr (q.0, reaches_more q.1, q.2)) b.reached;
        not_apart = b.not_apart;
        not_within = b.not_within;
        here = b.here;
      })
      (λ l b.
      let like = covers.like b.call b.stands in
      let put = λ (s : Span) (inside : IsIn b.call.para s). subst (λ n. IsIn n s) (sym like.2.para) inside in (
        like.0.line,
        record {
          call = like.0;
          stands = like.1;
          outer = b.outer;
          performed = performed_less b.outer b.performed;
          reached = ⊎_elim (λ (p : IsIn b.call.para b.outer). inl (put b.outer p))
              (λ (q : (between : Span) × Reaches cs b.outer between × IsIn b.call.para between). inr (q.0, reaches_less q.1, put q.0 q.2)) b.reached;
          not_apart = subst (λ s. ShareNone s b.outer → ⊥) (sym like.2.span) b.not_apart;
          not_within = subst (λ s. IsWithin s b.outer → ⊥) (sym like.2.span) b.not_within;
          here = refl;
        },
        omega (arith, like.2.line, b.here),
      ))

  pub jumps_over : (js : List Jump) (o : Option ℕ) → IsLeast (BreaksJumps ds js) o → IsLeast (BreaksJumps cs js) o
  jumps_over js o =
      least_over (BreaksJumps ds js) (BreaksJumps cs js) o
      (λ l b. record { jump = b.jump; stands = b.stands; outer = b.outer; performed = performed_more b.outer b.performed; inside = b.inside; outside = b.outside; here = b.here })
      (λ l b. (l, record { jump = b.jump; stands = b.stands; outer = b.outer; performed = performed_less b.outer b.performed; inside = b.inside; outside = b.outside; here = b.here }, omega arith))

  pub orders_over : (o : Option ℕ) → IsLeast (BreaksOrder ds) o → IsLeast (BreaksOrder cs) o
  orders_over o =
      least_over (BreaksOrder ds) (BreaksOrder cs) o
      (λ l b. record { call = b.call; stands = covers.stands b.call b.stands; reversed = b.reversed; here = b.here })
      (λ l b.
      let like = covers.like b.call b.stands in (
        like.0.line,
        record { call = like.0; stands = like.1; reversed = subst (λ s. s.last < s.first) (sym like.2.span) b.reversed; here = refl },
        omega (arith, like.2.line, b.here),
      ))
