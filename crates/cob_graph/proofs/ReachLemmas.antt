-- A search finds what is reached, and nothing else.
use Rattle.std.proofs.Common.{◌≡◌, ◌≢◌, ℕ, ◌+◌, ◌-◌, ◌<◌, ◌≤◌, zero, suc, min, Bool, true, false, ◌||◌, ◌⊎◌, inl, inr, ⊎_elim, List, [], ◌∷◌, ◌++◌, length, set, replicate, get_or, map, take, if◌then◌else◌, Option, Some, None, refl, sym, ap, ◌∙◌, subst, arith}
use Rattle.std.proofs.lemmas.List.{length-set, length-append, length-map, length-replicate, get_or-set_same, get_or-set_other, get_or_append_left, get_or-append_right, get_or-replicate, set-get_or}
use Rattle.std.proofs.lemmas.List.Sums.{sum_by-set}
use Rattle.std.proofs.lemmas.List.Folds.{sum_by-replicate}
use Rattle.std.proofs.lemmas.Bool.{cases_order, cases_lt}
use Rattle.std.specs.List.{sum_by}
use Rattle.cob_graph.specs.declared.calls.Call as declared_call
use Rattle.cob_graph.specs.declared.reach.Hull.{Hull}
use Rattle.cob_graph.specs.Listing.{plain_call, plain_span}
use Rattle.cob_graph.specs.Nesting.{Span, Call}
use Rattle.cob_graph.specs.Reaching.{is_in, call_at, has_within, has_call, through, is_marked, unmarked, is_part, IsRow, IsHull, AreHulls, IsNoted, IsSearch, IsReached, IsListed, IsLooked, IsLookedAt, IsClosed, IsSearchTo, AreRows, AreTaken, IsFollowed}
use Rattle.std.specs.Prelude.{nat_le}
use Rattle.cob_graph.proofs.BoolLemmas.{and_true, le_is, in_is, is_in_from}
use Rattle.cob_graph.proofs.LeastLemmas.{call_read}
use Rattle.cob_graph.proofs.NestLemmas.{goes_cases, goes_directly, goes_onward}

-- whether a range has the call at a place, as contracts see it
pub has_read : (cs : List declared_call.Call) (s : Span) (i : ℕ) (d : declared_call.Call) → i < length cs →
    is_in (get_or cs i d).para s ≡ has_within (map plain_call cs) s i
has_read cs s i d within = ap (λ (x : Call). is_in x.para s) (call_read cs i d within)

-- ---- where the calls of a range stand

-- what is known of the hull behind the first calls
pub record IsHullTo (cs : List Call) (s : Span) (at from end : ℕ) : Type 0 where
  pub within : end ≤ at
  pub has : (j : ℕ) → j < at → has_within cs s j ≡ true → (from ≤ j) × (j < end)

pub hull_none : (cs : List Call) (s : Span) (from : ℕ) → IsHullTo cs s 0 from 0
hull_none cs s from = record { within = omega arith; has = λ j h e. absurd (omega (arith, h)) }

pub hull_in : (cs : List Call) (s : Span) (at from end next_from next_end : ℕ) → next_from ≡ min from at → next_end ≡ at + 1 →
    IsHullTo cs s at from end → IsHullTo cs s (at + 1) next_from next_end
hull_in cs s at from end next_from next_end f e is = record {
  within = omega (arith, e);
  has = λ j h has.
      ⊎_elim (λ (g : j < at). let old = is.has j g has in (omega (arith, f, old.0), omega (arith, e, g)))
      (λ (g : at ≤ j). (omega (arith, f, g), omega (arith, e, h))) (cases_lt j at);
}

pub hull_out : (cs : List Call) (s : Span) (at from end next_from next_end : ℕ) → has_within cs s at ≡ false → next_from ≡ from →
    next_end ≡ end → IsHullTo cs s at from end → IsHullTo cs s (at + 1) next_from next_end
hull_out cs s at from end next_from next_end out f e is = record {
  within = omega (arith, e, is.within);
  has = λ j h has.
      ⊎_elim (λ (g : j < at). let old = is.has j g has in (omega (arith, f, old.0), omega (arith, e, old.1)))
      (λ (g : at ≤ j). let same : j ≡ at = omega (arith, g, h) in let both : has_within cs s at ≡ true = subst (λ n. has_within cs s n ≡ true) same has in absurd (cc))
      (cases_lt j at);
}

pub hull_all : (cs : List Call) (s : Span) (hull : Hull) → IsHullTo cs s (length cs) hull.from hull.end → IsHull cs s hull
hull_all cs s hull is = record { within = is.within; has = is.has }

-- the hulls of the first ranges
pub record AreHullsTo (cs : List Call) (at : ℕ) (hulls : List Hull) : Type 0 where
  pub count : length hulls ≡ at
  pub each : (i : ℕ) (d : Hull) → i < at → IsHull cs (call_at cs i).span (get_or hulls i d)

pub hulls_none : (cs : List Call) (hulls : List Hull) → hulls ≡ [] → AreHullsTo cs 0 hulls
hulls_none cs hulls e = record { count = ap length e; each = λ i d h. absurd (omega (arith, h)) }

pub hulls_more : (cs : List Call) (at : ℕ) (hulls more : List Hull) (hull : Hull) → AreHullsTo cs at hulls →
    IsHull cs (call_at cs at).span hull → more ≡ hulls ++ hull ∷ [] → AreHullsTo cs (at + 1) more
hulls_more cs at hulls more hull are is made = record {
  count = ap length made ∙ length-append hulls (hull ∷ []) ∙ ap (λ n. n + 1) are.count;
  each = λ i d h.
      let read = ap (λ hs. get_or hs i d) made in
      ⊎_elim
      (λ (g : i < at).
      subst (IsHull cs (call_at cs i).span) (sym (read ∙ get_or_append_left hulls (hull ∷ []) d i (omega (arith, g, are.count)))) (are.each i d g))
      (λ (g : at ≤ i).
      let same : i ≡ at = omega (arith, g, h) in
      let none : i - at ≡ 0 = omega arith in
      let last : get_or more i d ≡ hull =
      read ∙ get_or-append_right hulls (hull ∷ []) at i d are.count g ∙ ap (λ n. get_or (hull ∷ []) n d) none in
      subst (λ n. IsHull cs (call_at cs n).span (get_or more i d)) (sym same) (subst (IsHull cs (call_at cs at).span) (sym last) is))
      (cases_lt i at);
}

-- the hull of the range of a call, as contracts see it
pub hull_read : (calls : List declared_call.Call) (i : ℕ) (d : declared_call.Call) (hull : Hull) → i < length calls →
    IsHull (map plain_call calls) (plain_span (get_or calls i d).span) hull →
    IsHull (map plain_call calls) (call_at (map plain_call calls) i).span hull
hull_read calls i d hull within is =
    subst (λ s. IsHull (map plain_call calls) s hull) (ap (λ (x : Call). x.span) (call_read calls i d within)) is

-- ---- one call more

same_or_not : (i j : ℕ) → (i ≡ j) ⊎ (i ≢ j)
same_or_not i j =
    ⊎_elim (λ (e : i ≡ j). inl e)
    (λ (h : (i < j) ⊎ (j < i)). inr (λ e. ⊎_elim (λ (g : i < j). omega (arith, g, e)) (λ (g : j < i). omega (arith, g, e)) h)) (cases_order i j)

last_of : (found : List ℕ) (place : ℕ) → get_or (found ++ place ∷ []) (length found) 0 ≡ place
last_of found place =
    let none : length found - length found ≡ 0 = omega arith in
    get_or-append_right found (place ∷ []) (length found) (length found) 0 refl (omega arith)
    ∙ ap (λ n. get_or (place ∷ []) n 0) none

set_keeps : (marks : List Bool) (place j : ℕ) → place < length marks → is_marked marks j ≡ true → is_marked (set marks place true) j ≡ true
set_keeps marks place j within e =
    ⊎_elim (λ (h : j ≡ place). ap (λ n. is_marked (set marks place true) n) h ∙ get_or-set_same marks place true false within)
    (λ (h : j ≢ place). get_or-set_other marks place j true false h ∙ e) (same_or_not j place)

set_says : (marks : List Bool) (place j : ℕ) → is_marked (set marks place true) j ≡ true → (j ≡ place) ⊎ (is_marked marks j ≡ true)
set_says marks place j e =
    ⊎_elim (λ (h : j ≡ place). inl h) (λ (h : j ≢ place). inr (sym (get_or-set_other marks place j true false h) ∙ e)) (same_or_not j place)

module _ (cs : List Call) (start : ℕ) where
  search_more : (marks : List Bool) (found : List ℕ) (place : ℕ) → place < length cs → through cs (length cs) start place ≡ true →
      is_marked marks place ≡ false → IsSearch cs start marks found → IsSearch cs start (set marks place true) found
  search_more marks found place within goes fresh is =
      let inside : place < length marks = omega (arith, within, is.wide) in record {
        wide = length-set marks place true ∙ is.wide;
        reached = λ j h e.
            ⊎_elim (λ (g : j ≡ place). subst (λ n. through cs (length cs) start n ≡ true) (sym g) goes)
            (λ (g : is_marked marks j ≡ true). is.reached j h g) (set_says marks place j e);
        marked = λ i h.
            let old = is.marked i h in (old.0, set_keeps marks place (get_or found i 0) inside old.1);
        room =
            let sums = sum_by-set unmarked marks place true false inside in
            let was : unmarked (get_or marks place false) ≡ 1 = ap unmarked fresh in
            omega (arith, sums, was, is.room);
      }

  search_listed : (marks : List Bool) (found : List ℕ) (place : ℕ) → place < length cs → through cs (length cs) start place ≡ true →
      is_marked marks place ≡ false → IsSearch cs start marks found → IsSearch cs start (set marks place true) (found ++ place ∷ [])
  search_listed marks found place within goes fresh is =
      let more = search_more marks found place within goes fresh is in
      let inside : place < length marks = omega (arith, within, is.wide) in
      let longer : length (found ++ place ∷ []) ≡ length found + 1 = length-append found (place ∷ []) in record {
        wide = more.wide;
        reached = more.reached;
        marked = λ i h.
            ⊎_elim
            (λ (g : i < length found).
            let old = more.marked i g in
            let same = get_or_append_left found (place ∷ []) 0 i g in (
              subst (λ n. n < length cs) (sym same) old.0,
              subst (λ n. is_marked (set marks place true) n ≡ true) (sym same) old.1,
            ))
            (λ (g : length found ≤ i).
            let here : i ≡ length found = omega (arith, g, h, longer) in
            let same : get_or (found ++ place ∷ []) i 0 ≡ place = ap (λ n. get_or (found ++ place ∷ []) n 0) here ∙ last_of found place in (
              subst (λ n. n < length cs) (sym same) within,
              subst (λ n. is_marked (set marks place true) n ≡ true) (sym same) (get_or-set_same marks place true false inside),
            ))
            (cases_lt i (length found));
        room =
            let sums = sum_by-set unmarked marks place true false inside in
            let was : unmarked (get_or marks place false) ≡ 1 = ap unmarked fresh in
            omega (arith, sums, was, longer, is.room);
      }

-- what is noted, by cases on the mark
module _ (marks : List Bool) (found : List ℕ) (place : ℕ) (is_done : Bool) where
  noted_cases : (P : List Bool → List ℕ → Type 0) (b d : Bool) → (b ≡ true → P marks found) →
      (b ≡ false → d ≡ true → P (set marks place true) found) →
      (b ≡ false → d ≡ false → P (set marks place true) (found ++ place ∷ [])) →
      P (if b then marks else set marks place true) (if b then found else if d then found else found ++ place ∷ [])
  noted_cases P true d old done new = old refl
  noted_cases P false true old done new = done refl refl
  noted_cases P false false old done new = new refl refl

  pub noted : (P : List Bool → List ℕ → Type 0) (more : List Bool) (all : List ℕ) → IsNoted place is_done marks found more all →
      (is_marked marks place ≡ true → P marks found) →
      (is_marked marks place ≡ false → is_done ≡ true → P (set marks place true) found) →
      (is_marked marks place ≡ false → is_done ≡ false → P (set marks place true) (found ++ place ∷ [])) → P more all
  noted P more all is old done new =
      subst (λ ms. P ms all) (sym is.marks_are) (subst (λ xs. P (if is_marked marks place then marks else set marks place true) xs) (sym is.found_are)
      (noted_cases P (is_marked marks place) is_done old done new))

-- ---- a range

module _ (cs : List Call) (s : Span) (from : ℕ) (marks : List Bool) (found : List ℕ) where
  pub looked_none : (end : ℕ) → end ≤ from → IsLooked cs s from end marks found marks found
  looked_none end h = record {
    wide = refl;
    search = λ start r is. is;
    kept = λ j e. e;
    longer = omega arith;
    order = λ i g. refl;
    met = λ j g k e. absurd (omega (arith, g, k, h));
    listed = λ j e. inl e;
  }

  pub looked_out : (at : ℕ) (more : List Bool) (all : List ℕ) → has_within cs s at ≡ false → IsLooked cs s from at marks found more all →
      IsLooked cs s from (at + 1) marks found more all
  looked_out at more all out is = record {
    wide = is.wide;
    search = is.search;
    kept = is.kept;
    longer = is.longer;
    order = is.order;
    met = λ j g k e.
        ⊎_elim (λ (h : j < at). is.met j g h e)
        (λ (h : at ≤ j). let same : j ≡ at = omega (arith, h, k) in let both : has_within cs s at ≡ true = subst (λ n. has_within cs s n ≡ true) same e in absurd (cc))
        (cases_lt j at);
    listed = is.listed;
  }

  pub looked_less : (at end : ℕ) (more : List Bool) (all : List ℕ) → end ≤ at → IsLooked cs s from at marks found more all →
      IsLooked cs s from end marks found more all
  looked_less at end more all h is = record {
    wide = is.wide;
    search = is.search;
    kept = is.kept;
    longer = is.longer;
    order = is.order;
    met = λ j g k e. is.met j g (omega (arith, k, h)) e;
    listed = is.listed;
  }

  -- where values have other names
  pub looked_so : (end : ℕ) (old new : List Bool) (one two : List ℕ) → new ≡ old → two ≡ one → IsLooked cs s from end marks found old one →
      IsLooked cs s from end marks found new two
  looked_so end old new one two e f is =
      subst (λ ms. IsLooked cs s from end marks found ms two) (sym e) (subst (λ xs. IsLooked cs s from end marks found old xs) (sym f) is)

  looked_old : (at : ℕ) (more : List Bool) (all : List ℕ) → is_marked more at ≡ true → IsLooked cs s from at marks found more all →
      IsLooked cs s from (at + 1) marks found more all
  looked_old at more all e is = record {
    wide = is.wide;
    search = is.search;
    kept = is.kept;
    longer = is.longer;
    order = is.order;
    met = λ j g k has.
        ⊎_elim (λ (h : j < at). is.met j g h has)
        (λ (h : at ≤ j). let same : j ≡ at = omega (arith, h, k) in subst (λ n. is_marked more n ≡ true) (sym same) e)
        (cases_lt j at);
    listed = is.listed;
  }

  -- the call at a place is marked, with what is to be looked at then
  looked_new : (at : ℕ) (more : List Bool) (all later : List ℕ) → at < length more → is_marked more at ≡ false →
      length all ≤ length later → ((i : ℕ) → i < length all → get_or later i 0 ≡ get_or all i 0) →
      (IsListed later at ⊎ (is_part (call_at cs at).span s ≡ true)) →
      ((start : ℕ) → IsReached cs start s → IsSearch cs start more all → IsSearch cs start (set more at true) later) →
      IsLooked cs s from at marks found more all → IsLooked cs s from (at + 1) marks found (set more at true) later
  looked_new at more all later inside fresh longer same listed search is = record {
    wide = length-set more at true ∙ is.wide;
    search = λ start r old. search start r (is.search start r old);
    kept = λ j e. set_keeps more at j inside (is.kept j e);
    longer = omega (arith, is.longer, longer);
    order = λ i h. same i (omega (arith, h, is.longer)) ∙ is.order i h;
    met = λ j g k e.
        ⊎_elim (λ (h : j < at). set_keeps more at j inside (is.met j g h e))
        (λ (h : at ≤ j). let here : j ≡ at = omega (arith, h, k) in ap (λ n. is_marked (set more at true) n) here ∙ get_or-set_same more at true false inside)
        (cases_lt j at);
    listed = λ j e.
        ⊎_elim
        (λ (g : j ≡ at).
        ⊎_elim (λ (l : IsListed later at). inr (inl (l.0, l.1, l.2 ∙ sym g)))
        (λ (p : is_part (call_at cs at).span s ≡ true). inr (inr (subst (λ n. is_part (call_at cs n).span s ≡ true) (sym g) p))) listed)
        (λ (g : is_marked more j ≡ true).
        ⊎_elim (λ (o : is_marked marks j ≡ true). inl o)
        (λ (n : IsListed all j ⊎ (is_part (call_at cs j).span s ≡ true)).
        inr (⊎_elim (λ (l : IsListed all j). inl (l.0, omega (arith, l.1, longer), same l.0 l.1 ∙ l.2)) (λ (p : is_part (call_at cs j).span s ≡ true). inr p) n))
        (is.listed j g))
        (set_says more at j e);
  }

  pub looked_in : (at : ℕ) (is_done : Bool) (more next : List Bool) (all later : List ℕ) → at < length cs → length marks ≡ length cs → has_within cs s at ≡ true →
      is_done ≡ is_part (call_at cs at).span s → IsNoted at is_done more all next later →
      IsLooked cs s from at marks found more all → IsLooked cs s from (at + 1) marks found next later
  looked_in at is_done more next all later within wide has part is old =
      let inside : at < length more = omega (arith, within, wide, old.wide) in
      let longer : length (all ++ at ∷ []) ≡ length all + 1 = length-append all (at ∷ []) in
      noted more all at is_done (λ ms xs. IsLooked cs s from (at + 1) marks found ms xs) next later is (λ e. looked_old at more all e old)
      (λ fresh done.
      looked_new at more all all inside fresh (omega arith) (λ i h. refl) (inr (sym part ∙ done))
      (λ start r before. search_more cs start more all at within (r.calls at within has) fresh before) old)
      (λ fresh not_done.
      looked_new at more all (all ++ at ∷ []) inside fresh (omega (arith, longer)) (λ i h. get_or_append_left all (at ∷ []) 0 i h)
      (inl (length all, omega (arith, longer), last_of all at))
      (λ start r before. search_listed cs start more all at within (r.calls at within has) fresh before) old)

  -- a range that is part of it has no calls that it hasn't
  part_has : (j k : ℕ) → is_part (call_at cs j).span s ≡ true → has_call cs j k ≡ true → has_within cs s k ≡ true
  part_has j k part has =
      let p = and_true (nat_le s.first (call_at cs j).span.first) (nat_le (call_at cs j).span.last s.last) part in
      let h = in_is (call_at cs k).para (call_at cs j).span has in
      is_in_from (call_at cs k).para s (record { from = omega (arith, le_is _ _ p.0, h.from); to = omega (arith, le_is _ _ p.1, h.to) })

  -- what is marked then was so before, or is listed, or its range has no other calls
  pub looked_listed : (hull : Hull) (more : List Bool) (all : List ℕ) → IsHull cs s hull → IsLooked cs s hull.from hull.end marks found more all →
      (j : ℕ) → is_marked more j ≡ true → (is_marked marks j ≡ true) ⊎ (IsListed all j ⊎ IsClosed cs more j)
  looked_listed hull more all hulls is j e =
      ⊎_elim (λ (o : is_marked marks j ≡ true). inl o)
      (λ (n : IsListed all j ⊎ (is_part (call_at cs j).span s ≡ true)).
      inr (⊎_elim (λ (l : IsListed all j). inl l)
      (λ (p : is_part (call_at cs j).span s ≡ true).
      inr (λ k g has. let within = part_has j k p has in let at = hulls.has k g within in is.met k at.0 at.1 within)) n))
      (is.listed j e)

-- ---- the range of a call

pub hull_ends : (calls : List declared_call.Call) (hulls : List Hull) (place : ℕ) (d : Hull) → AreHulls (map plain_call calls) hulls →
    place < length calls → (get_or hulls place d).end ≤ length calls
hull_ends calls hulls place d are within =
    let n = length-map calls plain_call in
    let is = are.each place d (omega (arith, n, within)) in
    omega (arith, n, is.within)

pub looked_at : (calls : List declared_call.Call) (hulls : List Hull) (place : ℕ) (c : declared_call.Call) (d : Hull)
    (marks more : List Bool) (found all : List ℕ) → AreHulls (map plain_call calls) hulls → place < length calls →
    IsLooked (map plain_call calls) (plain_span (get_or calls place c).span) (get_or hulls place d).from (get_or hulls place d).end marks found more all →
    IsLookedAt (map plain_call calls) place marks found more all
looked_at calls hulls place c d marks more found all are within looked =
    let hull = get_or hulls place d in
    let span = ap (λ (x : Call). x.span) (call_read calls place c within) in (
      hull,
      are.each place d (omega (arith, length-map calls plain_call, within)),
      subst (λ s. IsLooked (map plain_call calls) s hull.from hull.end marks found more all) span looked,
    )

-- ---- a row that is known

module _ (row : List Bool) (at : ℕ) (marks more : List Bool) (within : at < length more) (is : AreTaken row at marks more) where
  taken_set : (is_marked more at ≡ true) ⊎ (is_marked row at ≡ true) → AreTaken row (at + 1) marks (set more at true)
  taken_set from = record {
    wide = length-set more at true ∙ is.wide;
    fewer = let sums = sum_by-set unmarked more at true false within in omega (arith, sums, is.fewer);
    kept = λ j e. set_keeps more at j within (is.kept j e);
    met = λ j h e.
        ⊎_elim (λ (g : j < at). set_keeps more at j within (is.met j g e))
        (λ (g : at ≤ j). let here : j ≡ at = omega (arith, g, h) in ap (λ n. is_marked (set more at true) n) here ∙ get_or-set_same more at true false within)
        (cases_lt j at);
    said = λ j e.
        ⊎_elim
        (λ (g : j ≡ at).
        ⊎_elim (λ (m : is_marked more at ≡ true). is.said j (ap (is_marked more) g ∙ m)) (λ (r : is_marked row at ≡ true). inr (ap (is_marked row) g ∙ r)) from)
        (λ (g : is_marked more j ≡ true). is.said j g) (set_says more at j e);
  }

  taken_same : is_marked row at ≡ false → AreTaken row (at + 1) marks more
  taken_same out = record {
    wide = is.wide;
    fewer = is.fewer;
    kept = is.kept;
    met = λ j h e.
        ⊎_elim (λ (g : j < at). is.met j g e)
        (λ (g : at ≤ j). let here : j ≡ at = omega (arith, g, h) in let both : is_marked row at ≡ true = ap (is_marked row) (sym here) ∙ e in absurd (cc))
        (cases_lt j at);
    said = is.said;
  }

  taken_by : (m r : Bool) → is_marked more at ≡ m → is_marked row at ≡ r → AreTaken row (at + 1) marks (set more at (m || r))
  taken_by true r e f = taken_set (inl e)
  taken_by false true e f = taken_set (inr f)
  taken_by false false e f =
      let same : set more at false ≡ more = ap (set more at) (sym e) ∙ set-get_or more at false in
      subst (λ ms. AreTaken row (at + 1) marks ms) (sym same) (taken_same f)

  pub taken_one : (value : Bool) → value ≡ (is_marked more at || is_marked row at) → AreTaken row (at + 1) marks (set more at value)
  taken_one value e =
      subst (λ v. AreTaken row (at + 1) marks (set more at v)) (sym e) (taken_by (is_marked more at) (is_marked row at) refl refl)

pub taken_none : (row marks : List Bool) → AreTaken row 0 marks marks
taken_none row marks = record {
  wide = refl;
  fewer = omega arith;
  kept = λ j e. e;
  met = λ j h e. absurd (omega (arith, h));
  said = λ j e. inl e;
}

module _ (cs : List Call) (place : ℕ) (within : place < length cs) (marks : List Bool) (found : List ℕ) (more : List Bool) where
  pub followed_row : (row : List Bool) → length marks ≡ length cs → IsRow cs place row → AreTaken row (length marks) marks more →
      IsFollowed cs place marks found more found
  followed_row row wide is taken =
      let has : (j k : ℕ) → j < length cs → k < length cs → through cs (length cs) place j ≡ true → has_call cs j k ≡ true → is_marked more k ≡ true =
      λ j k h g goes e.
      taken.met k (omega (arith, g, wide))
      (is.marks k g
      ∙ goes_onward cs (length cs) j place k h goes (goes_directly cs (length cs) j k (in_is (call_at cs k).para (call_at cs j).span e))) in record {
        search = λ start goes old. record {
          wide = taken.wide ∙ old.wide;
          reached = λ j h e.
              ⊎_elim (λ (o : is_marked marks j ≡ true). old.reached j h o)
              (λ (r : is_marked row j ≡ true). goes_onward cs (length cs) place start j within goes (sym (is.marks j h) ∙ r)) (taken.said j e);
          marked = λ i h. let known = old.marked i h in (known.0, taken.kept (get_or found i 0) known.1);
          room = omega (arith, taken.fewer, old.room);
        };
        kept = taken.kept;
        longer = omega arith;
        order = λ i h. refl;
        closed = λ j h e.
            taken.met j (omega (arith, h, wide))
            (is.marks j h ∙ goes_directly cs (length cs) place j (in_is (call_at cs j).para (call_at cs place).span e));
        listed = λ j h e.
            ⊎_elim (λ (o : is_marked marks j ≡ true). inl o)
            (λ (r : is_marked row j ≡ true). inr (inr (λ k g e_k. has j k h g (sym (is.marks j h) ∙ r) e_k))) (taken.said j e);
      }

  pub followed_looked : (all : List ℕ) → IsLookedAt cs place marks found more all → IsFollowed cs place marks found more all
  followed_looked all at =
      let hull = at.0 in
      let is = at.1 in
      let looked = at.2 in record {
        search = λ start goes old.
            looked.search start
            (record {
              calls = λ j h e.
                  goes_onward cs (length cs) place start j within goes
                  (goes_directly cs (length cs) place j (in_is (call_at cs j).para (call_at cs place).span e));
            })
            old;
        kept = looked.kept;
        longer = looked.longer;
        order = looked.order;
        closed = λ j h e. let in_hull = is.has j h e in looked.met j in_hull.0 in_hull.1 e;
        listed = λ j h e. looked_listed cs (call_at cs place).span hull.from marks found hull more all is looked j e;
      }

-- the rows of the first calls
pub record AreRowsTo (cs : List Call) (at : ℕ) (all : List (Option (List Bool))) : Type 0 where
  pub count : length all ≡ at
  pub rows : AreRows cs all

pub rows_none : (cs : List Call) (rows : List (Option (List Bool))) → rows ≡ [] → AreRowsTo cs 0 rows
rows_none cs rows e = record { count = ap length e; rows = λ i row is. let none = ap (λ rs. get_or rs i None) e in absurd (cc) }

last_row : (new : Option (List Bool)) (k : ℕ) (row : List Bool) → get_or (new ∷ []) k None ≡ Some row → (k ≡ 0) × (new ≡ Some row)
last_row new zero row e = (refl, e)
last_row new (suc k) row e = absurd (cc)

pub rows_more : (cs : List Call) (at : ℕ) (rows more : List (Option (List Bool))) (new : Option (List Bool)) → AreRowsTo cs at rows →
    ((row : List Bool) → new ≡ Some row → IsRow cs at row) → more ≡ rows ++ new ∷ [] → AreRowsTo cs (at + 1) more
rows_more cs at rows more new are is made = record {
  count = ap length made ∙ length-append rows (new ∷ []) ∙ ap (λ n. n + 1) are.count;
  rows = λ i row e.
      let read = ap (λ rs. get_or rs i None) made in
      ⊎_elim (λ (g : i < at). are.rows i row (sym (read ∙ get_or_append_left rows (new ∷ []) None i (omega (arith, g, are.count))) ∙ e))
      (λ (g : at ≤ i).
      let last = last_row new (i - at) row (sym (read ∙ get_or-append_right rows (new ∷ []) at i None are.count g) ∙ e) in
      let same : i ≡ at = omega (arith, g, last.0) in
      subst (λ n. IsRow cs n row) (sym same) (is row last.1))
      (cases_lt i at);
}

-- ---- the search

module _ (cs : List Call) (start : ℕ) where
  pub search_none : (marks : List Bool) → marks ≡ replicate (length cs) false → IsSearch cs start marks []
  search_none marks made =
      let none : (j : ℕ) → j < length cs → is_marked marks j ≡ true → ⊥ =
      λ j h e. let un = ap (λ ms. is_marked ms j) made ∙ get_or-replicate (length cs) j false false h in absurd (cc) in record {
        wide =
            ap length made ∙ length-replicate (length cs) false;
        reached = λ j h e. absurd (none j h e);
        marked = λ i h. absurd (omega (arith, h));
        room = let sum = ap (sum_by unmarked) made ∙ sum_by-replicate unmarked (length cs) false in omega (arith, sum);
      }

  reached_first : IsReached cs start (call_at cs start).span
  reached_first = record { calls = λ j h e. goes_directly cs (length cs) start j (in_is (call_at cs j).para (call_at cs start).span e) }

  pub search_first : (marks more : List Bool) (found all : List ℕ) → found ≡ [] → marks ≡ replicate (length cs) false →
      IsLookedAt cs start marks found more all → IsSearchTo cs start 0 more all
  search_first marks more found all empty made at =
      let hull = at.0 in
      let is = at.1 in
      let looked =
      subst (λ xs. IsLooked cs (call_at cs start).span hull.from hull.end marks xs more all) empty at.2 in record {
        search = looked.search start reached_first (search_none marks made);
        first = λ j h e. let in_hull = is.has j h e in looked.met j in_hull.0 in_hull.1 e;
        later = λ i below h j g e. absurd (omega (arith, below));
        listed = λ j h e.
            ⊎_elim
            (λ (o : is_marked marks j ≡ true). let un = ap (λ ms. is_marked ms j) made ∙ get_or-replicate (length cs) j false false h in absurd (cc))
            (λ (n : IsListed all j ⊎ IsClosed cs more j). n)
            (looked_listed cs (call_at cs start).span hull.from marks [] hull more all is looked j e);
      }

  pub search_next : (next place : ℕ) (marks more : List Bool) (found all : List ℕ) → next < length found → place ≡ get_or found next 0 →
      IsFollowed cs place marks found more all → IsSearchTo cs start next marks found → IsSearchTo cs start (next + 1) more all
  search_next next place marks more found all within read is old =
      let known = old.search.marked next within in
      let inside : place < length cs = subst (λ n. n < length cs) (sym read) known.0 in
      let goes = old.search.reached place inside (subst (λ n. is_marked marks n ≡ true) (sym read) known.1) in record {
        search = is.search start goes old.search;
        first = λ j h e. is.kept j (old.first j h e);
        later = λ i below h j g e.
            ⊎_elim
            (λ (k : i < next).
            let same = is.order i (omega (arith, k, within)) in
            is.kept j (old.later i k (omega (arith, k, within)) j g (subst (λ n. has_call cs n j ≡ true) same e)))
            (λ (k : next ≤ i).
            let here : i ≡ next = omega (arith, k, below) in
            let same : get_or all i 0 ≡ place = ap (λ n. get_or all n 0) here ∙ is.order next within ∙ sym read in
            is.closed j g (subst (λ n. has_call cs n j ≡ true) same e))
            (cases_lt i next);
        listed = λ j h e.
            ⊎_elim
            (λ (o : is_marked marks j ≡ true).
            ⊎_elim (λ (l : IsListed found j). inl (l.0, omega (arith, l.1, is.longer), is.order l.0 l.1 ∙ l.2))
            (λ (c : IsClosed cs marks j). inr (λ k g has. is.kept k (c k g has))) (old.listed j h o))
            (λ (n : IsListed all j ⊎ IsClosed cs more j). n) (is.listed j h e);
      }

  -- what is reached is marked in the end
  module _ (marks : List Bool) (found : List ℕ) (next : ℕ) (to : IsSearchTo cs start next marks found) (past : length found ≤ next) where
    marked_direct : (i j : ℕ) → i < length cs → j < length cs → (i ≡ start) ⊎ (is_marked marks i ≡ true) → has_call cs i j ≡ true → is_marked marks j ≡ true
    marked_direct i j h g from e =
        ⊎_elim (λ (k : i ≡ start). to.first j g (subst (λ n. has_call cs n j ≡ true) k e))
        (λ (k : is_marked marks i ≡ true).
        ⊎_elim
        (λ (at : IsListed found i).
        to.later at.0 (omega (arith, at.1, past)) at.1 j g (subst (λ n. has_call cs n j ≡ true) (sym at.2) e))
        (λ (c : IsClosed cs marks i). c j g e) (to.listed i h k)) from

    marked_through : (k i j : ℕ) → k ≤ length cs → i < length cs → j < length cs → (i ≡ start) ⊎ (is_marked marks i ≡ true) →
        through cs k i j ≡ true → is_marked marks j ≡ true
    marked_through zero i j le h g from e = marked_direct i j h g from e
    marked_through (suc k) i j le h g from e =
        ⊎_elim (λ (p : through cs k i j ≡ true). marked_through k i j (omega (arith, le)) h g from p)
        (λ (p : (through cs k i k ≡ true) × (through cs k k j ≡ true)).
        marked_through k k j (omega (arith, le)) (omega (arith, le)) g
        (inr (marked_through k i k (omega (arith, le)) h (omega (arith, le)) from p.0)) p.1)
        (goes_cases cs k i j e)

    pub search_row : start < length cs → IsRow cs start marks
    search_row within = record {
      wide = to.search.wide;
      marks = λ j h. both_true (is_marked marks j) (through cs (length cs) start j) (to.search.reached j h) (marked_through (length cs) start j (omega arith) within h (inl refl));
    }
      where
        both_true : (a b : Bool) → (a ≡ true → b ≡ true) → (b ≡ true → a ≡ true) → a ≡ b
        both_true true b to_ from_ = sym (to_ refl)
        both_true false true to_ from_ = from_ refl
        both_true false false to_ from_ = refl
