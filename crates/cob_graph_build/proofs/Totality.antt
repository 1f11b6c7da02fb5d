-- A program whose PERFORMs nest has a main copy: each range's copy is made of copies of ranges that reach fewer calls.
use Rattle.std.proofs.Common.{◌≡◌, ℕ, zero, suc, ◌+◌, ◌-◌, ◌<◌, ◌≤◌, ◌==◌, ◌&&◌, ◌||◌, Bool, true, false, ⊎_elim, List, [], ◌∷◌, length, Option, Some, None, refl, sym, ap, ◌∙◌, subst, arith, min}
use Rattle.std.specs.Prelude.{slice_get, nat_le, nat_lt}
use Rattle.std.specs.Option.{option_map_or}
use Rattle.std.specs.List.{Contains}
use Rattle.std.proofs.lemmas.Bool.{cases_lt, eqb-true, eq-eqb}
use Rattle.std.proofs.lemmas.List.{get_or_default}
use Rattle.std.proofs.lemmas.List.Elements.{Contains-get_or, Contains-append_left, Contains-append_right}
use Rattle.rule_order.specs.Order.{lesser}
use Rattle.cob_data.specs.declared.end.Rule.TheVariants.{N1, N3}
use Rattle.cob_program.specs.Act.{Stmt, MkStmt, Stmts, no_stmts, Act, perform, go, range, inline, Para, Program}
use Rattle.cob_program.specs.Statements.{list_statements}
use Rattle.cob_runs.specs.Steps.{body_at}
use Rattle.cob_graph.specs.Laid.{LaidParas, no_laid_paras}
use Rattle.cob_graph.specs.Copies.{AreLaidParas}
use Rattle.cob_graph.specs.Nesting.{Call, Jump, Found, ◌&◌, found_act, found_at, found, found_among, found_all, IsIn, IsNested}
use Rattle.cob_graph.specs.Graphs.{last_para, final_of, IsMainCopy}
use Rattle.cob_graph.specs.Reaching.{blank, call_at, through}
use Rattle.cob_graph.specs.Broken.{least_below, line_where, cycle_at}
use Rattle.cob_graph.proofs.BoolLemmas.{and_true, true_and, or_true, true_or_left, true_or_right, is_le, lt_is, is_lt}
use Rattle.cob_graph.proofs.NestLemmas.{goes_directly, goes_onward, cycles}
use Rattle.cob_graph_build.specs.Sizes.{act_fits, stmt_fits, all_fit, range_fits}
use Rattle.cob_graph_build.specs.Tables.{lay_paras}
use Rattle.cob_graph_build.specs.MainCopies.{HasTargets, NestedProgramsHaveMainCopies, NestedProgramsHaveNodes}
use Rattle.cob_graph_build.proofs.Counts.{count_below, count_most, count_less}
use Rattle.cob_graph_build.proofs.SizeLemmas.{laid_paras}

is_false : (b : Bool) → (b ≡ true → ⊥) → b ≡ false
is_false true h = absurd (h refl)
is_false false h = refl

is_true : (b : Bool) → (b ≡ false → ⊥) → b ≡ true
is_true true h = refl
is_true false h = absurd (h refl)

-- ---- what is found in a part is found in the whole

record Among (part all : Found) : Type 0 where
  pub calls : (c : Call) → Contains part.calls c → Contains all.calls c
  pub jumps : (j : Jump) → Contains part.jumps j → Contains all.jumps j

itself : (f : Found) → Among f f
itself f = record { calls = λ c h. h; jumps = λ j h. h }

in_front : (a b all : Found) → Among (a & b) all → Among a all
in_front a b all among = record {
  calls = λ c h. among.calls c (Contains-append_left a.calls b.calls c h);
  jumps = λ j h. among.jumps j (Contains-append_left a.jumps b.jumps j h);
}

in_rest : (a b all : Found) → Among (a & b) all → Among b all
in_rest a b all among = record {
  calls = λ c h. among.calls c (Contains-append_right a.calls b.calls c h);
  jumps = λ j h. among.jumps j (Contains-append_right a.jumps b.jumps j h);
}

abbrev body_in : List Para → ℕ → Stmts
body_in xs n = option_map_or (λ (x : Para). x.body) (slice_get xs n) no_stmts

-- of the paragraph with so many before it
found_in : (xs : List Para) (at n place : ℕ) (all : Found) → place ≡ at + n → Among (found_among at xs) all →
    Among (found place (list_statements (body_in xs n))) all
found_in [] at n place all is among = record { calls = λ c h. among.calls c h; jumps = λ j h. among.jumps j h }
found_in (x ∷ xs) at zero place all is among =
    let same : at ≡ place = omega (arith, is) in
    subst (λ m. Among (found m (list_statements x.body)) all) same
    (in_front (found at (list_statements x.body)) (found_among (at + 1) xs) all among)
found_in (x ∷ xs) at (suc n) place all is among =
    found_in xs (at + 1) n place all (omega (arith, is))
    (in_rest (found at (list_statements x.body)) (found_among (at + 1) xs) all among)

-- ---- what fits

module _ (known : ℕ → ℕ → Bool) (lo hi place : ℕ) (all : Found) where
  abbrev Performs : Type 0
  Performs = (c : Call) → Contains all.calls c → c.para ≡ place → known c.span.first c.span.last ≡ true

  abbrev Goes : Type 0
  Goes = (j : Jump) → Contains all.jumps j → j.para ≡ place → (nat_le lo j.to && nat_le j.to hi) ≡ true

  module _ (performs : Performs) (goes : Goes) where
    act_fit : (line : ℕ) (a : Act) → Among (found_act place line a) all → act_fits known lo hi a ≡ true
    act_fit line (perform (range first last) turns) among =
        let c : Call = record { line = line; para = place; span = record { first = first; last = last } } in
        performs c (among.calls c (0, omega arith, refl)) refl
    act_fit line (perform (inline ss) turns) among = refl
    act_fit line (go to) among =
        let j : Jump = record { line = line; para = place; to = to } in
        goes j (among.jumps j (0, omega arith, refl)) refl
    act_fit line _ among = refl

    stmt_fit : (s : Stmt) → Among (found_at place s) all → stmt_fits known lo hi s ≡ true
    stmt_fit (MkStmt number line a) among = act_fit line a among

    stmts_fit : (ss : List Stmt) → Among (found place ss) all → all_fit known lo hi ss ≡ true
    stmts_fit [] among = refl
    stmts_fit (s ∷ ss) among =
        true_and (stmt_fits known lo hi s) (all_fit known lo hi ss)
        (stmt_fit s (in_front (found_at place s) (found place ss) all among))
        (stmts_fit ss (in_rest (found_at place s) (found place ss) all among))

module _ (p : Program) (known : ℕ → ℕ → Bool) (lo hi : ℕ) where
  paras_fit : (n from : ℕ) →
      ((place : ℕ) → from ≤ place → place < from + n → Performs known lo hi place (found_all p)) →
      ((place : ℕ) → from ≤ place → place < from + n → Goes known lo hi place (found_all p)) →
      range_fits known lo hi p from n ≡ true
  paras_fit zero from performs goes = refl
  paras_fit (suc n) from performs goes =
      true_and (all_fit known lo hi (list_statements (body_at p from))) (range_fits known lo hi p (suc from) n)
      (stmts_fit known lo hi from (found_all p) (performs from (omega arith) (omega arith))
      (goes from (omega arith) (omega arith)) (list_statements (body_at p from))
      (found_in p.paras 0 from from (found_all p) (omega arith) (itself (found_all p))))
      (paras_fit n (suc from) (λ place g h. performs place (omega (arith, g)) (omega (arith, h)))
      (λ place g h. goes place (omega (arith, g)) (omega (arith, h))))

-- ---- how many calls a range reaches

lesser_some : (a b : Option ℕ) (l : ℕ) → a ≡ Some l → (m : ℕ) × (lesser a b ≡ Some m)
lesser_some None b l e = absurd (cc)
lesser_some (Some x) None l e = (x, refl)
lesser_some (Some x) (Some y) l e = (min x y, refl)

lesser_other : (a b : Option ℕ) (l : ℕ) → b ≡ Some l → (m : ℕ) × (lesser a b ≡ Some m)
lesser_other None b l e = (l, e)
lesser_other (Some x) None l e = absurd (cc)
lesser_other (Some x) (Some y) l e = (min x y, refl)

some_below : (at : ℕ → Option ℕ) (n i l : ℕ) → i < n → at i ≡ Some l → (m : ℕ) × (least_below at n ≡ Some m)
some_below at zero i l below e = absurd (omega (arith, below))
some_below at (suc n) i l below e =
    ⊎_elim (λ (h : i < n). let m = some_below at n i l h e in lesser_some (least_below at n) (at n) m.0 m.1)
    (λ (h : n ≤ i).
    let same : i ≡ n = omega (arith, h, below) in
    lesser_other (least_below at n) (at n) l (subst (λ k. at k ≡ Some l) same e))
    (cases_lt i n)

line_of : (b : Bool) (line : ℕ) → b ≡ true → line_where b line ≡ Some line
line_of true line e = refl
line_of false line e = absurd (cc)

module _ (cs : List Call) where
  abbrev rank : ℕ → ℕ
  rank i = count_below (through cs (length cs) i) (length cs)

  -- whether a range is that of one of the first calls, which reaches fewer than so many
  abbrev is_known : ℕ → ℕ → ℕ → ℕ → Bool
  is_known k zero first last = false
  is_known k (suc n) first last =
      (((call_at cs n).span.first == first) && (((call_at cs n).span.last == last) && nat_lt (rank n) k))
      || is_known k n first last

  record Known (k n first last : ℕ) : Type 0 where
    pub place : ℕ
    pub below : place < n
    pub first_is : (call_at cs place).span.first ≡ first
    pub last_is : (call_at cs place).span.last ≡ last
    pub fewer : rank place < k

  known_is : (k n first last : ℕ) → is_known k n first last ≡ true → Known k n first last
  known_is k zero first last e = absurd (cc)
  known_is k (suc n) first last e =
      let firsts = (call_at cs n).span.first == first in
      let lasts = (call_at cs n).span.last == last in
      ⊎_elim
      (λ (h : (firsts && (lasts && nat_lt (rank n) k)) ≡ true).
      let one = and_true firsts (lasts && nat_lt (rank n) k) h in
      let two = and_true lasts (nat_lt (rank n) k) one.1 in
      record {
        place = n;
        below = omega arith;
        first_is = eqb-true (call_at cs n).span.first first one.0;
        last_is = eqb-true (call_at cs n).span.last last two.0;
        fewer = lt_is (rank n) k two.1;
      })
      (λ (h : is_known k n first last ≡ true).
      let old = known_is k n first last h in
      record {
        place = old.place;
        below = omega (arith, old.below);
        first_is = old.first_is;
        last_is = old.last_is;
        fewer = old.fewer;
      })
      (or_true (firsts && (lasts && nat_lt (rank n) k)) (is_known k n first last) e)

  is_known_from : (k n i : ℕ) → i < n → rank i < k →
      is_known k n (call_at cs i).span.first (call_at cs i).span.last ≡ true
  is_known_from k zero i below fewer = absurd (omega (arith, below))
  is_known_from k (suc n) i below fewer =
      let s = (call_at cs i).span in
      ⊎_elim
      (λ (h : i < n).
      true_or_right (((call_at cs n).span.first == s.first) && (((call_at cs n).span.last == s.last) && nat_lt (rank n) k))
      (is_known k n s.first s.last) (is_known_from k n i h fewer))
      (λ (h : n ≤ i).
      let same : n ≡ i = omega (arith, h, below) in
      true_or_left (((call_at cs n).span.first == s.first) && (((call_at cs n).span.last == s.last) && nat_lt (rank n) k))
      (is_known k n s.first s.last)
      (true_and ((call_at cs n).span.first == s.first) (((call_at cs n).span.last == s.last) && nat_lt (rank n) k)
      (eq-eqb (call_at cs n).span.first s.first (ap (λ j. (call_at cs j).span.first) same))
      (true_and ((call_at cs n).span.last == s.last) (nat_lt (rank n) k)
      (eq-eqb (call_at cs n).span.last s.last (ap (λ j. (call_at cs j).span.last) same))
      (is_lt (rank n) k (subst (λ j. rank j < k) (sym same) fewer)))))
      (cases_lt i n)

  -- the range of a call that stands among them
  call_known : (k : ℕ) (c : Call) → Contains cs c → ((i : ℕ) → i < length cs → call_at cs i ≡ c → rank i < k) →
      is_known k (length cs) c.span.first c.span.last ≡ true
  call_known k c (i, within, is) fewer =
      let at : call_at cs i ≡ c = get_or_default cs i blank c within ∙ is in
      subst (λ (d : Call). is_known k (length cs) d.span.first d.span.last ≡ true) at
      (is_known_from k (length cs) i within (fewer i within at))

-- ---- copies

-- copies of ranges, within which others are copied at most so deep
abbrev copies_to : Program → ℕ → ℕ → ℕ → LaidParas
copies_to p zero first last = no_laid_paras
copies_to p (suc k) first last = lay_paras p (copies_to p k) first (suc last - first)

module _ (p : Program) (nested : IsNested p) where
  abbrev cs : List Call
  cs = (found_all p).calls

  -- no range reaches its own call
  apart : (i : ℕ) → i < length cs → through cs (length cs) i i ≡ false
  apart i below =
      is_false (through cs (length cs) i i)
      (λ e.
      let least = some_below (cycle_at cs) (length cs) i (call_at cs i).line below
      (line_of (through cs (length cs) i i) (call_at cs i).line e) in
      nested.kept N1 least.0 ((cycles cs).broken least.0 least.1))

  -- a range reaches more than one that it performs
  ranks_fall : (i j : ℕ) → i < length cs → j < length cs → IsIn (call_at cs j).para (call_at cs i).span →
      rank cs j < rank cs i
  ranks_fall i j h g inside =
      let direct = goes_directly cs (length cs) i j inside in
      count_less (through cs (length cs) j) (through cs (length cs) i) (length cs) j
      (λ m l e. goes_onward cs (length cs) j i m g direct e) g (apart j g) direct

  jumps_stay : (i : ℕ) → i < length cs → (j : Jump) → Contains (found_all p).jumps j →
      IsIn j.para (call_at cs i).span →
      (nat_le (call_at cs i).span.first j.to && nat_le j.to (call_at cs i).span.last) ≡ true
  jumps_stay i h j stands inside =
      let s = (call_at cs i).span in
      is_true (nat_le s.first j.to && nat_le j.to s.last)
      (λ e.
      nested.kept N3 j.line (record {
        jump = j;
        stands = stands;
        outer = s;
        performed = record { call = call_at cs i; stands = Contains-get_or cs i blank h; it = refl };
        inside = inside;
        outside = λ there.
            let both = true_and (nat_le s.first j.to) (nat_le j.to s.last) (is_le s.first j.to there.from)
            (is_le j.to s.last there.to) in
            cc;
        here = refl;
      }))

  copies_are : (k first last : ℕ) → is_known cs k (length cs) first last ≡ true →
      AreLaidParas p first last first (suc last - first) (copies_to p k first last)
  copies_are zero first last e = let it = known_is cs 0 (length cs) first last e in absurd (omega (arith, it.fewer))
  copies_are (suc k) first last e =
      let it = known_is cs (suc k) (length cs) first last e in
      let i = it.place in
      let inside : (place : ℕ) → first ≤ place → place < first + (suc last - first) → IsIn place (call_at cs i).span =
      λ place g h. record { from = omega (arith, g, it.first_is); to = omega (arith, g, h, it.last_is) } in
      laid_paras p (is_known cs k (length cs)) (copies_to p k) (copies_are k) first last (suc last - first) first
      (paras_fit p (is_known cs k (length cs)) first last (suc last - first) first
      (λ place g h c stands at.
      call_known cs k c stands (λ j below is.
      let here : (call_at cs j).para ≡ place = ap (λ (d : Call). d.para) is ∙ at in
      let falls = ranks_fall i j it.below below
      (subst (λ x. IsIn x (call_at cs i).span) (sym here) (inside place g h)) in
      omega (arith, falls, it.fewer)))
      (λ place g h j stands at.
      let stays = jumps_stay i it.below j stands
      (subst (λ x. IsIn x (call_at cs i).span) (sym at) (inside place g h)) in
      subst (λ x. (nat_le x j.to && nat_le j.to last) ≡ true) it.first_is
      (subst (λ x. (nat_le (call_at cs i).span.first j.to && nat_le j.to x) ≡ true) it.last_is stays)))

  module _ (targets : HasTargets p) where
    abbrev most : ℕ
    most = suc (length cs)

    abbrev main : LaidParas
    main = lay_paras p (copies_to p most) 0 (length p.paras)

    main_is : IsMainCopy p main
    main_is =
        laid_paras p (is_known cs most (length cs)) (copies_to p most) (copies_are most) 0 (last_para p)
        (length p.paras) 0
        (paras_fit p (is_known cs most (length cs)) 0 (last_para p) (length p.paras) 0
        (λ place g h c stands at.
        call_known cs most c stands (λ j below is.
        let most_are = count_most (through cs (length cs) j) (length cs) in
        let few : rank cs j < suc (length cs) = omega (arith, most_are) in
        few))
        (λ place g h j stands at.
        let there = targets.within j stands in
        let to_last : j.to ≤ length p.paras - 1 = omega (arith, there) in
        true_and (nat_le 0 j.to) (nat_le j.to (last_para p)) (is_le 0 j.to (omega arith))
        (is_le j.to (last_para p) to_last)))

pub main_copies : NestedProgramsHaveMainCopies
main_copies p nested targets = (main p nested targets, main_is p nested targets)

pub nodes_counted : NestedProgramsHaveNodes
nodes_counted p nested targets = (
  final_of (main p nested targets),
  record {
    copies = main p nested targets;
    laid = main_is p nested targets;
    counted = refl;
  },
)
