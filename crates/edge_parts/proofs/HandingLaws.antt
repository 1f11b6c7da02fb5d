-- Laws of what is handed over.
use Rattle.std.proofs.Common.{◌≡◌, ℕ, ◌+◌, ◌-◌, ◌<◌, ◌==◌, Bool, true, false, List, [], ◌∷◌, ◌++◌, if◌then◌else◌, map, length, Vec, Result, Ok, Err, IfOk, Option, Some, None, refl, sym, ◌∙◌, ap, append_assoc, arith}
use Rattle.std.specs.Prelude.{slice_get}
use Rattle.std.specs.Option.{option_map}
use Rattle.std.specs.ControlFlow.{break_value}
use Rattle.std.specs.declared.alloc.Global.{Global}
use Rattle.std.specs.declared.alloc.AllocError.{AllocError}
use Rattle.std.specs.declared.ops.ControlFlow.{ControlFlow}
use Rattle.std.specs.declared.ops.ControlFlow.TheVariants.{Continue, Break}
use Rattle.std.proofs.lemmas.List.{append-nil, map-append}
use Rattle.std.proofs.lemmas.Bool.Decides.{nat_tests}
use Rattle.edge_parts.specs.declared.taker.Search.{Search}
use Rattle.edge_parts.specs.declared.taker.Taker.{Taker}
use Rattle.edge_parts.specs.declared.taker.Taker.TheVariants as taker
use Rattle.edge_parts.specs.Handing.{sought, Takes, Gets, ListGets, SearchGets, come_to, items_in, found_in, left_in}
use Rattle.edge_parts.proofs.SoughtLemmas.{found_in_front, sought_behind, at_place, length_before, within}

-- ---- one is handed over

module _ {X : Type 0} where
  pub list_got : (a b : List X) (x : X) → b ≡ a ++ x ∷ [] → ListGets a x true b
  list_got a b x is = λ on. is

  pub list_stopped : (a b : List X) (x : X) → ListGets a x false b
  list_stopped a b x = λ on. absurd cc

  pub search_found : (a b : Search X) (x : X) → a.left ≡ 0 → b.found ≡ Some x → SearchGets a x false b
  search_found a b x at is = rw is (rw at refl)

  -- the last is handed over behind the place
  passed : (k m : ℕ) (x : X) (first : Bool) → (k == 0) ≡ first → 0 < k → m + 1 ≡ k →
      Some (Continue m) ≡ Some (if first then Break x else Continue (k - 1))
  passed k m x true at some is = absurd (grind (arith, nat_tests))
  passed k m x false at some is = let same : m ≡ k - 1 = omega (arith, is) in ap (λ n. Some (Continue n)) same

  pub search_went : (a b : Search X) (x : X) → 0 < a.left → b.left + 1 ≡ a.left → SearchGets a x true b
  search_went a b x some is = passed a.left b.left x (a.left == 0) refl some is

module _ {X P : Type 0} (view : X → P) where
  one_in_list : (a b : List X) (x : X) (on : Bool) → ListGets a x on b → on ≡ true → map view b ≡ map view a ++ view x ∷ []
  one_in_list a b x on got is = ap (map view) (got is) ∙ map-append view a (x ∷ [])

  abbrev seen_by : ControlFlow X ℕ → ControlFlow P ℕ
  seen_by (Break x) = Break (view x)
  seen_by (Continue k) = Continue k

  abbrev seen : Option (ControlFlow X ℕ) → Option (ControlFlow P ℕ)
  seen o = option_map seen_by o

  come_seen : (b : Search X) (on : Bool) → come_to view b on ≡ seen (come_to (λ y. y) b on)
  come_seen b true = refl
  come_seen b false = found_seen b.found
    where
      found_seen : (o : Option X) → option_map (λ y. Break (view y)) o ≡ seen (option_map (λ y. Break y) o)
      found_seen None = refl
      found_seen (Some y) = refl

  one_seen : (k : ℕ) (x : X) (first : Bool) → seen (Some (if first then Break x else Continue (k - 1)))
      ≡ Some (if first then Break (view x) else Continue (k - 1))
  one_seen k x true = refl
  one_seen k x false = refl

  one_in_search : (k : ℕ) (b : Search X) (x : X) (on : Bool) → come_to (λ y. y) b on ≡ Some (sought (x ∷ []) k) →
      come_to view b on ≡ Some (sought (view x ∷ []) k)
  one_in_search k b x on got = come_seen b on ∙ ap seen got ∙ one_seen k x (k == 0)

  pub takes_one : (a b : Taker X) (x : X) (on : Bool) → Gets a x on b → Takes view a (view x ∷ []) on b
  unfolding Takes
  takes_one (taker.List a) (taker.List b) x on got = one_in_list a.items b.items x on got
  takes_one (taker.Search a) (taker.Search b) x on got = one_in_search a.left b x on got
  takes_one (taker.List a) (taker.Search b) x on got = absurd got
  takes_one (taker.Search a) (taker.List b) x on got = absurd got

  -- ---- laws

  none_taken : (a : Taker X) → Takes view a [] true a
  unfolding Takes
  none_taken (taker.List a) = λ on. sym (append-nil (map view a.items))
  none_taken (taker.Search s) = refl

  pub takes_none : (a : Taker X) (ps : List P) → ps ≡ [] → Takes view a ps true a
  takes_none a ps none = rw none (none_taken a)

  behind_search : (ps qs : List P) (k m : ℕ) (o : Option (ControlFlow P ℕ)) → Some (Continue m) ≡ Some (sought ps k) →
      o ≡ Some (sought qs m) → o ≡ Some (sought (ps ++ qs) k)
  behind_search ps qs k m o e h =
      let here : Continue m ≡ sought ps k = cc in
      let all : sought qs m ≡ sought (ps ++ qs) k = sought_behind ps qs k m (sought qs m) here refl in
      h ∙ ap (λ (r : ControlFlow P ℕ). Some r) all

  pub takes_both : (a b c : Taker X) (ps qs : List P) (on : Bool) → Takes view a ps true b → Takes view b qs on c →
      Takes view a (ps ++ qs) on c
  unfolding Takes
  takes_both (taker.List a) (taker.List b) (taker.List c) ps qs on first second =
      λ is. second is ∙ ap (λ xs. xs ++ qs) (first (refl {a = true})) ∙ append_assoc (map view a.items) ps qs
  takes_both (taker.Search a) (taker.Search b) (taker.Search c) ps qs on first second =
      behind_search ps qs a.left b.left (come_to view c on) first second
  takes_both (taker.List a) (taker.Search b) c ps qs on first second = absurd first
  takes_both (taker.Search a) (taker.List b) c ps qs on first second = absurd first
  takes_both (taker.List a) (taker.List b) (taker.Search c) ps qs on first second = absurd second
  takes_both (taker.Search a) (taker.Search b) (taker.List c) ps qs on first second = absurd second

  found_first : (o : Option X) (ps qs : List P) (k : ℕ) →
      option_map (λ x. Break (view x)) o ≡ Some (sought ps k) →
      option_map (λ x. Break (view x)) o ≡ Some (sought (ps ++ qs) k)
  found_first None ps qs k e = absurd cc
  found_first (Some x) ps qs k e = ap Some (found_in_front ps qs k (view x) cc)

  pub stops : (a b : Taker X) (ps qs : List P) → Takes view a ps false b → Takes view a (ps ++ qs) false b
  unfolding Takes
  stops (taker.List a) (taker.List b) ps qs first = λ is. absurd cc
  stops (taker.Search a) (taker.Search b) ps qs first = found_first b.found ps qs a.left first
  stops (taker.List a) (taker.Search b) ps qs first = absurd first
  stops (taker.Search a) (taker.List b) ps qs first = absurd first

  -- ---- lists that are cut in two by a lemma

  pub both_of : (a b c : Taker X) (all ps qs : List P) (on : Bool) → all ≡ ps ++ qs →
      Takes view a ps true b → Takes view b qs on c → Takes view a all on c
  both_of a b c all ps qs on cut first second =
      rw cut (takes_both a b c ps qs on first second)

  pub stops_of : (a b : Taker X) (all ps qs : List P) → all ≡ ps ++ qs → Takes view a ps false b → Takes view a all false b
  stops_of a b all ps qs cut first = rw cut (stops a b ps qs first)

  pub takes_same : (a b : Taker X) (ps qs : List P) (on : Bool) → qs ≡ ps → Takes view a ps on b → Takes view a qs on b
  takes_same a b ps qs on same first = rw same first

  -- ---- loops over lists whose elements have parts each

  -- what is left makes of the taker what all makes of the first one
  pub Leads : Taker X → List P → Taker X → List P → Type 0
  Leads now rest first all = (on : Bool) (end : Taker X) → Takes view now rest on end → Takes view first all on end

  pub leads : (a : Taker X) (ps qs : List P) → ps ≡ qs → Leads a ps a qs
  unfolding Leads
  leads a ps qs same = λ on end took. rw (sym same) took

  pub leads_on : (all left here rest : List P) (first a b : Taker X) → left ≡ here ++ rest →
      Leads a left first all → Takes view a here true b → Leads b rest first all
  unfolding Leads
  leads_on all left here rest first a b cut on took = λ more end behind. on more end (both_of a b end left here rest more cut took behind)

  pub leads_out : (all left here rest : List P) (first a b : Taker X) → left ≡ here ++ rest →
      Leads a left first all → Takes view a here false b → Takes view first all false b
  unfolding Leads
  leads_out all left here rest first a b cut on took = on false b (stops_of a b left here rest cut took)

  pub leads_past : (all left : List P) (first a : Taker X) → left ≡ [] → Leads a left first all → Takes view first all true a
  unfolding Leads
  leads_past all left first a none on = on true a (takes_none a left none)

  -- ---- what comes of it

  pub list_is : (list : Vec X Global) (ps : List P) (t : Taker X) → list.items ≡ [] → Takes view (taker.List list) ps true t →
      map view (items_in t) ≡ ps
  unfolding Takes
  list_is list ps (taker.List other) none took = took (refl {a = true}) ∙ ap (λ xs. map view xs ++ ps) none
  list_is list ps (taker.Search s) none took = absurd took

  pub list_of : (r : Result (Vec X Global) AllocError) (list : Vec X Global) (ps : List P) (t : Taker X) →
      IfOk r (λ v. v.items ≡ items_in t) → list.items ≡ [] → Takes view (taker.List list) ps true t →
      IfOk r (λ v. map view v.items ≡ ps)
  list_of (Ok v) list ps t is none took = ap (map view) is ∙ list_is list ps t none took
  list_of (Err e) list ps t is none took = tt

  -- the same, where what is handed over is known by a premise
  pub list_if : (r : Result (Vec X Global) AllocError) (list : Vec X Global) (ps : List P) (t : Taker X) (E : Type 0) →
      IfOk r (λ v. v.items ≡ items_in t) → list.items ≡ [] → (E → Takes view (taker.List list) ps true t) →
      IfOk r (λ v. E → map view v.items ≡ ps)
  list_if (Ok v) list ps t E is none took = λ e. ap (map view) is ∙ list_is list ps t none (took e)
  list_if (Err x) list ps t E is none took = tt

  found_there : (o : Option X) (ps : List P) (k : ℕ) → option_map (λ x. Break (view x)) o ≡ Some (sought ps k) →
      option_map view o ≡ slice_get ps k
  found_there None ps k e = absurd cc
  found_there (Some x) ps k e = let is : Break (view x) ≡ sought ps k = cc in ap break_value is ∙ at_place ps k

  pub found_is : (s : Search X) (ps : List P) (t : Taker X) → Takes view (taker.Search s) ps false t →
      option_map view (found_in t) ≡ slice_get ps s.left
  unfolding Takes
  found_is s ps (taker.Search other) took = found_there other.found ps s.left took
  found_is s ps (taker.List list) took = absurd took

  pub none_is : (s : Search X) (ps : List P) (t : Taker X) → Takes view (taker.Search s) ps true t → None ≡ slice_get ps s.left
  unfolding Takes
  none_is s ps (taker.Search other) took =
      let is : Continue other.left ≡ sought ps s.left = cc in ap break_value is ∙ at_place ps s.left
  none_is s ps (taker.List list) took = absurd took

  pub more_than : (s : Search X) (ps : List P) (t : Taker X) → Takes view (taker.Search s) ps false t → s.left < length ps
  unfolding Takes
  more_than s ps (taker.Search other) took = among other.found took
    where
      among : (o : Option X) → option_map (λ x. Break (view x)) o ≡ Some (sought ps s.left) → s.left < length ps
      among None e = absurd cc
      among (Some x) e = let is : Break (view x) ≡ sought ps s.left = cc in within ps s.left (view x) is
  more_than s ps (taker.List list) took = absurd took

  pub as_many : (s : Search X) (ps : List P) (t : Taker X) → Takes view (taker.Search s) ps true t → length ps + left_in t ≡ s.left
  unfolding Takes
  as_many s ps (taker.Search other) took =
      let is : Continue other.left ≡ sought ps s.left = cc in length_before ps s.left other.left is
  as_many s ps (taker.List list) took = absurd took

-- what functions of one or two pieces take
pub ruleset handing = (takes_none, takes_both, stops, leads)

pub ruleset getting = (list_got, list_stopped, search_went, search_found)
