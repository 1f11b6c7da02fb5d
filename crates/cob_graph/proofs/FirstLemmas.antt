-- The first broken rule, from the least line of each.
use Rattle.std.proofs.Common.{◌≡◌, ℕ, ◌≤◌, zero, suc, ◌⊎◌, inl, List, [], ◌∷◌, length, map, Option, Some, None, Result, Err, refl, sym, ap, ◌∙◌, subst, arith}
use Rattle.std.specs.Result.{IfOk}
use Rattle.std.specs.List.{Contains}
use Rattle.cob_data.specs.declared.end.Rule.{Rule}
use Rattle.cob_data.specs.declared.end.Rule.TheVariants.{N1, N2, N3, N4}
use Rattle.cob_data.specs.declared.end.Which.{Which}
use Rattle.cob_program.specs.Act.{Program}
use Rattle.cob_graph.specs.declared.end.FlowEnd.{FlowEnd}
use Rattle.cob_graph.specs.declared.end.FlowEnd.TheVariants.{Outside, Limit, Memory}
use Rattle.cob_graph.specs.Nesting.{Call, Found, found_all, BreaksCycles, BreaksNests, BreaksJumps, BreaksOrder, IsBrokenBy, IsNested, IsOutside, before}
use Rattle.cob_graph.specs.Broken.{IsLeast, least_below, cycle_at, crossings, leavings, reversed_at, IsFirstOf, IsFirst, told, answer_of}
use Rattle.cob_graph.specs.Covering.{Covers}
use Rattle.cob_graph.specs.Listing.{plain_call, plain_jump, plain_found}
use Rattle.cob_graph.specs.declared.calls.Call as declared_call
use Rattle.cob_graph.specs.declared.calls.Jump as declared_jump
use Rattle.cob_graph.specs.declared.calls.Found as declared_found
use Rattle.cob_graph.proofs.ListingLemmas.{listed_is}
use Rattle.cob_graph.proofs.CoverLemmas.{cycles_over, nests_over, jumps_over, orders_over}
use Rattle.cob_graph.proofs.NestLemmas.{cycles, nests, jumps, orders}

none_is : (P : ℕ → Type 0) (o : Option ℕ) → IsLeast P o → ((l : ℕ) → P l → ⊥) → o ≡ None
none_is P None is not_broken = refl
none_is P (Some l) is not_broken = absurd (not_broken l (is.broken l refl))

some_is : (P : ℕ → Type 0) (o : Option ℕ) (line : ℕ) → IsLeast P o → P line → ((l : ℕ) → P l → line ≤ l) → o ≡ Some line
some_is P None line is broken first = absurd (is.none refl line broken)
some_is P (Some l) line is broken first = ap Some (omega (arith, is.first l refl line broken, first l (is.broken l refl)))

-- a rule with its least line, behind rules that are kept
first_of : (f : Found) (rule : Rule) (o : Option ℕ) (l : ℕ) → IsLeast (IsBrokenBy f rule) o → o ≡ Some l →
    ((other : Rule) (m : ℕ) → Contains (before rule) other → IsBrokenBy f other m → ⊥) → IsFirstOf f rule l
first_of f rule o l is e kept = record { broken = is.broken l e; first_line = is.first l e; first_rule = kept }

among_none : (r : Rule) → Contains [] r → ⊥
among_none r (k, within, is) = omega (arith, within)

among_more : (f : Found) (r : Rule) (rs : List Rule) → ((l : ℕ) → IsBrokenBy f r l → ⊥) →
    ((other : Rule) (l : ℕ) → Contains rs other → IsBrokenBy f other l → ⊥) →
    (other : Rule) (l : ℕ) → Contains (r ∷ rs) other → IsBrokenBy f other l → ⊥
among_more f r rs here rest other l (zero, within, is) b = here l (subst (λ x. IsBrokenBy f x l) (sym is) b)
among_more f r rs here rest other l (suc k, within, is) b = rest other l (k, omega (arith, within), is) b

module _ (f : Found) where
  abbrev Least : Rule → Option ℕ → Type 0
  Least rule o = IsLeast (IsBrokenBy f rule) o

  abbrev Kept : List Rule → Type 0
  Kept rules = (other : Rule) (l : ℕ) → Contains rules other → IsBrokenBy f other l → ⊥

  kept_none : Kept []
  kept_none other l among b = among_none other among

  first_is_at : (a b c d : Option ℕ) → Least N1 a → Least N2 b → Least N3 c → Least N4 d → (rule : Rule) (line : ℕ) →
      told a b c d ≡ Some (rule, line) → IsFirstOf f rule line
  first_is_at (Some l) b c d p q r s rule line e =
      let same : (N1, l) ≡ (rule, line) = cc in
      subst (λ (x : Rule × ℕ). IsFirstOf f x.0 x.1) same (first_of f N1 (Some l) l p refl kept_none)
  first_is_at None (Some l) c d p q r s rule line e =
      let same : (N2, l) ≡ (rule, line) = cc in
      subst (λ (x : Rule × ℕ). IsFirstOf f x.0 x.1) same (first_of f N2 (Some l) l q refl (among_more f N1 [] (p.none refl) kept_none))
  first_is_at None None (Some l) d p q r s rule line e =
      let same : (N3, l) ≡ (rule, line) = cc in
      subst (λ (x : Rule × ℕ). IsFirstOf f x.0 x.1) same (first_of f N3 (Some l) l r refl (among_more f N1 (N2 ∷ []) (p.none refl) (among_more f N2 [] (q.none refl) kept_none)))
  first_is_at None None None (Some l) p q r s rule line e =
      let same : (N4, l) ≡ (rule, line) = cc in
      subst (λ (x : Rule × ℕ). IsFirstOf f x.0 x.1) same
      (first_of f N4 (Some l) l s refl (among_more f N1 (N2 ∷ N3 ∷ []) (p.none refl) (among_more f N2 (N3 ∷ []) (q.none refl) (among_more f N3 [] (r.none refl) kept_none))))
  first_is_at None None None None p q r s rule line e = absurd (cc)

  kept_at : (a b c d : Option ℕ) → Least N1 a → Least N2 b → Least N3 c → Least N4 d → told a b c d ≡ None →
      (a ≡ None) × (b ≡ None) × (c ≡ None) × (d ≡ None)
  kept_at (Some l) b c d p q r s e = absurd (cc)
  kept_at None (Some l) c d p q r s e = absurd (cc)
  kept_at None None (Some l) d p q r s e = absurd (cc)
  kept_at None None None (Some l) p q r s e = absurd (cc)
  kept_at None None None None p q r s e = (refl, refl, refl, refl)

  each_kept : (rule : Rule) (line : ℕ) → ((l : ℕ) → IsBrokenBy f N1 l → ⊥) → ((l : ℕ) → IsBrokenBy f N2 l → ⊥) →
      ((l : ℕ) → IsBrokenBy f N3 l → ⊥) → ((l : ℕ) → IsBrokenBy f N4 l → ⊥) → IsBrokenBy f rule line → ⊥
  each_kept N1 line p q r s b = p line b
  each_kept N2 line p q r s b = q line b
  each_kept N3 line p q r s b = r line b
  each_kept N4 line p q r s b = s line b
  each_kept _ line p q r s b = b

  exact_at : (rule : Rule) (line : ℕ) (a b c d : Option ℕ) → Least N1 a → Least N2 b → Least N3 c → Least N4 d →
      IsFirstOf f rule line → told a b c d ≡ Some (rule, line)
  exact_at N1 line a b c d p q r s is =
      ap (λ x. told x b c d) (some_is (IsBrokenBy f N1) a line p is.broken is.first_line)
  exact_at N2 line a b c d p q r s is =
      ap (λ x. told x b c d) (none_is (IsBrokenBy f N1) a p (λ l. is.first_rule N1 l (0, omega arith, refl)))
      ∙ ap (λ x. told None x c d) (some_is (IsBrokenBy f N2) b line q is.broken is.first_line)
  exact_at N3 line a b c d p q r s is =
      ap (λ x. told x b c d) (none_is (IsBrokenBy f N1) a p (λ l. is.first_rule N1 l (0, omega arith, refl)))
      ∙ ap (λ x. told None x c d) (none_is (IsBrokenBy f N2) b q (λ l. is.first_rule N2 l (1, omega arith, refl)))
      ∙ ap (λ x. told None None x d) (some_is (IsBrokenBy f N3) c line r is.broken is.first_line)
  exact_at N4 line a b c d p q r s is =
      ap (λ x. told x b c d) (none_is (IsBrokenBy f N1) a p (λ l. is.first_rule N1 l (0, omega arith, refl)))
      ∙ ap (λ x. told None x c d) (none_is (IsBrokenBy f N2) b q (λ l. is.first_rule N2 l (1, omega arith, refl)))
      ∙ ap (λ x. told None None x d) (none_is (IsBrokenBy f N3) c r (λ l. is.first_rule N3 l (2, omega arith, refl)))
      ∙ ap (λ x. told None None None x) (some_is (IsBrokenBy f N4) d line s is.broken is.first_line)
  exact_at _ line a b c d p q r s is = absurd is.broken

  -- where the four lines are the least that break each rule
  pub first_is : (ds : List Call) (n : ℕ) (a b c d : Option ℕ) (o : Option (Rule × ℕ)) → Covers f.calls ds →
      n ≡ length ds → a ≡ least_below (cycle_at ds) n →
      b ≡ least_below (crossings ds) n → c ≡ least_below (leavings ds f.jumps) n → d ≡ least_below (reversed_at ds) n → o ≡ told a b c d → IsFirst f o
  first_is ds n a b c d o covers same a_is b_is c_is d_is made =
      let p =
      cycles_over f.calls ds covers a (subst (IsLeast (BreaksCycles ds)) (sym (a_is ∙ ap (least_below (cycle_at ds)) same)) (cycles ds)) in
      let q =
      nests_over f.calls ds covers b (subst (IsLeast (BreaksNests ds)) (sym (b_is ∙ ap (least_below (crossings ds)) same)) (nests ds)) in
      let r =
      jumps_over f.calls ds covers f.jumps c (subst (IsLeast (BreaksJumps ds f.jumps)) (sym (c_is ∙ ap (least_below (leavings ds f.jumps)) same)) (jumps ds f.jumps)) in
      let s =
      orders_over f.calls ds covers d (subst (IsLeast (BreaksOrder ds)) (sym (d_is ∙ ap (least_below (reversed_at ds)) same)) (orders ds)) in record {
        kept = λ e rule line.
            let none = kept_at a b c d p q r s (sym made ∙ e) in
            each_kept rule line (p.none none.0) (q.none none.1) (r.none none.2) (s.none none.3);
        outside = λ rule line e. first_is_at a b c d p q r s rule line (sym made ∙ e);
        exact = λ rule line is. made ∙ exact_at rule line a b c d p q r s is;
      }

-- ---- the answer

pub record Answers (p : Program) (result : Result (Unit {0}) FlowEnd) : Type 0 where
  pub kept : IfOk result (λ x. IsNested p)
  pub outside : (rule : Rule) (line : ℕ) → result ≡ Err (Outside rule line) → IsOutside p rule line
  pub limit : (which : Which) (count : ℕ) → result ≡ Err (Limit which count) → ⊥
  pub exact : (rule : Rule) (line : ℕ) → IsOutside p rule line →
      (result ≡ Err (Outside rule line)) ⊎ (result ≡ Err Memory)

answers_at : (p : Program) (o : Option (Rule × ℕ)) → IsFirst (found_all p) o → Answers p (answer_of o)
answers_at p None is = record {
  kept = record { kept = is.kept refl };
  outside = λ rule line e. absurd (cc);
  limit = λ which count e. cc;
  exact = λ rule line out.
      let other =
      is.exact rule line (record { broken = out.broken; first_line = out.first_line; first_rule = out.first_rule }) in
      absurd (cc);
}
answers_at p (Some (r, l)) is = record {
  kept = tt;
  outside = λ rule line e.
      let same : (r, l) ≡ (rule, line) = cc in
      let first = is.outside rule line (ap Some same) in
      record { broken = first.broken; first_line = first.first_line; first_rule = first.first_rule };
  limit = λ which count e. cc;
  exact = λ rule line out.
      let same =
      is.exact rule line (record { broken = out.broken; first_line = out.first_line; first_rule = out.first_rule }) in
      inl (ap answer_of same);
}

pub answers : (p : Program) (f : declared_found.Found) (calls kept told_by : List declared_call.Call) (js : List declared_jump.Jump) (o : Option (Rule × ℕ)) (result : Result (Unit {0}) FlowEnd) →
    plain_found f ≡ found_all p → calls ≡ f.calls.items → js ≡ f.jumps.items → told_by ≡ kept → Covers (map plain_call calls) (map plain_call kept) →
    ((all : List Call) → Covers all (map plain_call told_by) → IsFirst (record { calls = all; jumps = map plain_jump js }) o) → result ≡ answer_of o → Answers p result
answers p f calls kept told_by js o result found same_calls same_jumps same covers is told =
    let by = subst (λ ks. Covers (map plain_call calls) (map plain_call ks)) (sym same) covers in
    let first =
    subst (λ x. IsFirst x o) (listed_is f calls js (found_all p) same_calls same_jumps found) (is (map plain_call calls) by) in
    subst (Answers p) (sym told) (answers_at p o first)
