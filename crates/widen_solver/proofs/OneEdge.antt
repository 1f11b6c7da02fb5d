-- One edge's step.
use Rattle.std.proofs.Common.{◌≡◌, ℕ, ◌-◌, ◌<◌, ◌≤◌, List, ℤ, Bool, true, false, length, get_or, slice_set, inl, inr, refl, ap, sym, ◌∙◌, subst, length-set, arith}
use Rattle.std.proofs.lemmas.Bool.{cases_Bool, cases_eq}
use Rattle.dom_laws.specs.Lattice.{Lattice, IsElement, IsLattice}
use Rattle.dom_laws.specs.Flow.{Flow, IsNode, IsEdge, IsHead, IsFlow, IsDominated, goes_back_to}
use Rattle.widen_solver.specs.Stored.{row_at}
use Rattle.widen_solver.specs.Solving.{Arrives, IsUnderWay, IsSettled, head_ranks, TakesEdge}
use Rattle.std.specs.Prelude.{IsSome, Some, None}
use Rattle.block_store.specs.BlocksLends.{words_at}
use Rattle.widen_solver.specs.RowsHeld.{RowsHeld, row_shown, shown_rows, with_own, with_transfer, IsReady, ArrivesAt}
use Rattle.widen_solver.specs.RowLends.{own_rewritten}
use Rattle.widen_solver.proofs.ShownRows.{shown_count, shown_at, own_set, reached_same, rewritten_own, own_is_some, some_of}
use Rattle.widen_solver.proofs.RowAt.{row_at-set_same, row_at-set_other, each_row}
use Rattle.widen_solver.proofs.HeadRanks.{head_or_not, test_finds_head, head_passes_test, NoneHigher, ranks_no_higher, ranks_fall}

-- ---- one row

pub new_element : (l : Lattice) (f : Flow) → IsLattice l → (node : ℕ) (old more new : List ℤ) (grew : Bool) → IsElement l old → IsElement l more → Arrives l f node old more new grew → IsElement l new
new_element l f laws node old more new grew e k arrives = elim (head_or_not f node) [
  | inl head ↦ subst (λ row. IsElement l row) (sym (arrives.widened head)) (laws.widen_element old more e k)
  | inr free ↦ subst (λ row. IsElement l row) (sym (arrives.joined free)) (laws.join_element old more e k)
]

above_old : (l : Lattice) (f : Flow) → IsLattice l → (node : ℕ) (old more new : List ℤ) (grew : Bool) → IsElement l old → IsElement l more → Arrives l f node old more new grew → l.Below old new
above_old l f laws node old more new grew e k arrives = elim (head_or_not f node) [
  | inl head ↦ subst (λ row. l.Below old row) (sym (arrives.widened head)) (laws.widen_left old more e k)
  | inr free ↦ subst (λ row. l.Below old row) (sym (arrives.joined free)) (laws.join_left old more e k)
]

above_more : (l : Lattice) (f : Flow) → IsLattice l → (node : ℕ) (old more new : List ℤ) (grew : Bool) → IsElement l old → IsElement l more → Arrives l f node old more new grew → l.Below more new
above_more l f laws node old more new grew e k arrives = elim (head_or_not f node) [
  | inl head ↦ subst (λ row. l.Below more row) (sym (arrives.widened head)) (laws.widen_right old more e k)
  | inr free ↦ subst (λ row. l.Below more row) (sym (arrives.joined free)) (laws.join_right old more e k)
]

-- no more than it must
below_bound : (l : Lattice) (f : Flow) → IsLattice l → (node : ℕ) (old more new bound : List ℤ) (grew : Bool) → IsElement l old → IsElement l more → IsElement l bound → Arrives l f node old more new grew → l.Below old bound → l.Below more bound → (IsHead f node → l.Below (l.widen old more) bound) → l.Below new bound
below_bound l f laws node old more new bound grew e k b arrives left right fixed = elim (head_or_not f node) [
  | inl head ↦ subst (λ row. l.Below row bound) (sym (arrives.widened head)) (fixed head)
  | inr free ↦ subst (λ row. l.Below row bound) (sym (arrives.joined free)) (laws.join_least old more bound e k b left right)
]

-- a head that didn't grow is as it was
head_kept : (l : Lattice) (f : Flow) → IsLattice l → (node : ℕ) (old more new : List ℤ) (grew : Bool) → IsElement l old → IsElement l more → Arrives l f node old more new grew → IsHead f node → grew ≡ false → new ≡ old
head_kept l f laws node old more new grew e k arrives head same = subst (λ row. row ≡ old) (sym (arrives.widened head)) (laws.widen_keeps old more e k ((arrives.kept head).0 same))

-- one that grew has fallen in rank
head_falls : (l : Lattice) (f : Flow) → IsLattice l → (node : ℕ) (old more new : List ℤ) (grew : Bool) → IsElement l old → IsElement l more → Arrives l f node old more new grew → IsHead f node → grew ≡ true → l.rank new < l.rank old
head_falls l f laws node old more new grew e k arrives head grows =
    let above : ¬ l.Below more old = (λ below. let same : grew ≡ false = (arrives.kept head).1 below in cc) in
    subst (λ row. l.rank row < l.rank old) (sym (arrives.widened head)) (laws.widen_falls old more e k above)

head_no_higher : (l : Lattice) (f : Flow) → IsLattice l → (node : ℕ) (old more new : List ℤ) (grew : Bool) → IsElement l old → IsElement l more → Arrives l f node old more new grew → IsHead f node → l.rank new ≤ l.rank old
head_no_higher l f laws node old more new grew e k arrives head = elim (cases_Bool grew) [
  | inl grows ↦ let less : l.rank new < l.rank old = head_falls l f laws node old more new grew e k arrives head grows in omega (arith, less)
  | inr same ↦ subst (λ row. l.rank row ≤ l.rank old) (sym (head_kept l f laws node old more new grew e k arrives head same)) (omega arith)
]

-- ---- the rows

pub record Step (l : Lattice) (f : Flow) (edge : ℕ) (old : List (List ℤ)) (row : List ℤ) (grew again : Bool) : Type 0 where
  pub laws : IsLattice l
  pub flows : IsFlow l f
  pub is : IsEdge f edge
  pub before : IsUnderWay l f old
  pub arrives : Arrives l f (f.target edge) (row_at old (f.target edge)) (f.post edge (row_at old (f.source edge))) row grew
  pub told : again ≡ true → (grew ≡ true) × (f.target edge ≤ f.source edge)
  pub untold : again ≡ false → f.target edge ≤ f.source edge → grew ≡ false

abbrev pub written : Flow → ℕ → List (List ℤ) → List ℤ → List (List ℤ)
written f edge old row = slice_set old (f.target edge - 1) row

abbrev pub transferred : Flow → ℕ → List (List ℤ) → List ℤ
transferred f edge old = f.post edge (row_at old (f.source edge))

target_is : (l : Lattice) (f : Flow) (edge : ℕ) (old : List (List ℤ)) (row : List ℤ) (grew again : Bool) → Step l f edge old row grew again → IsNode f (f.target edge)
target_is l f edge old row grew again s = s.flows.target_node edge s.is

target_has_row : (l : Lattice) (f : Flow) (edge : ℕ) (old : List (List ℤ)) (row : List ℤ) (grew again : Bool) → Step l f edge old row grew again → f.target edge ≤ length old
target_has_row l f edge old row grew again s = let node = target_is l f edge old row grew again s in omega (arith, s.before.nodes, node.last)

at_target : (l : Lattice) (f : Flow) (edge : ℕ) (old : List (List ℤ)) (row : List ℤ) (grew again : Bool) → Step l f edge old row grew again → IsElement l (row_at old (f.target edge))
at_target l f edge old row grew again s = s.before.elements (f.target edge) (target_is l f edge old row grew again s)

is_transferred : (l : Lattice) (f : Flow) (edge : ℕ) (old : List (List ℤ)) (row : List ℤ) (grew again : Bool) → Step l f edge old row grew again → IsElement l (transferred f edge old)
is_transferred l f edge old row grew again s = s.flows.post_element edge (row_at old (f.source edge)) s.is (s.before.elements (f.source edge) (s.flows.source_node edge s.is))

new_elements : (l : Lattice) (f : Flow) (edge : ℕ) (old : List (List ℤ)) (row : List ℤ) (grew again : Bool) → Step l f edge old row grew again → (node : ℕ) → IsNode f node → IsElement l (row_at (written f edge old row) node)
new_elements l f edge old row grew again s node is =
    let target = target_is l f edge old row grew again s in
    each_row (λ n r. n ≤ f.nodes → IsElement l r) old (f.target edge) row target.first (target_has_row l f edge old row grew again s)
    (λ last. new_element l f s.laws (f.target edge) (row_at old (f.target edge)) (transferred f edge old) row grew (at_target l f edge old row grew again s) (is_transferred l f edge old row grew again s) s.arrives)
    (λ other first last. s.before.elements other (record { first = first; last = last }))
    node is.first is.last

-- no row sinks
grows : (l : Lattice) (f : Flow) (edge : ℕ) (old : List (List ℤ)) (row : List ℤ) (grew again : Bool) → Step l f edge old row grew again → (node : ℕ) → IsNode f node → l.Below (row_at old node) (row_at (written f edge old row) node)
grows l f edge old row grew again s node is =
    let target = target_is l f edge old row grew again s in
    each_row (λ n r. n ≤ f.nodes → l.Below (row_at old n) r) old (f.target edge) row target.first (target_has_row l f edge old row grew again s)
    (λ last. above_old l f s.laws (f.target edge) (row_at old (f.target edge)) (transferred f edge old) row grew (at_target l f edge old row grew again s) (is_transferred l f edge old row grew again s) s.arrives)
    (λ other first last. s.laws.reflexive (row_at old other) (s.before.elements other (record { first = first; last = last })))
    node is.first is.last

stays_dominated : (l : Lattice) (f : Flow) (edge : ℕ) (old : List (List ℤ)) (row : List ℤ) (grew again : Bool) → Step l f edge old row grew again → IsDominated l f (row_at (written f edge old row))
stays_dominated l f edge old row grew again s others inductive fixed node is =
    let target = target_is l f edge old row grew again s in
    let source = s.flows.source_node edge s.is in
    let below = s.before.dominated others inductive fixed in
    let bound = inductive.elements (f.target edge) target in
    let old_is = at_target l f edge old row grew again s in
    let more_is = is_transferred l f edge old row grew again s in
    let under = s.laws.transitive (transferred f edge old) (f.post edge (others (f.source edge))) (others (f.target edge)) more_is (s.flows.post_element edge (others (f.source edge)) s.is (inductive.elements (f.source edge) source)) bound
    (s.flows.post_monotone edge (row_at old (f.source edge)) (others (f.source edge)) s.is (s.before.elements (f.source edge) source) (inductive.elements (f.source edge) source) (below (f.source edge) source))
    (inductive.edges edge s.is) in
    each_row (λ n r. n ≤ f.nodes → l.Below r (others n)) old (f.target edge) row target.first (target_has_row l f edge old row grew again s)
    (λ last. below_bound l f s.laws (f.target edge) (row_at old (f.target edge)) (transferred f edge old) row (others (f.target edge)) grew old_is more_is bound s.arrives (below (f.target edge) target) under
    (λ head. fixed (f.target edge) head (row_at old (f.target edge)) (transferred f edge old) old_is more_is (below (f.target edge) target) under))
    (λ other first last. below other (record { first = first; last = last }))
    node is.first is.last

stays_under_way : (l : Lattice) (f : Flow) (edge : ℕ) (old : List (List ℤ)) (row : List ℤ) (grew again : Bool) → Step l f edge old row grew again → IsUnderWay l f (written f edge old row)
stays_under_way l f edge old row grew again s =
    let one : IsNode f 1 = record { first = omega arith; last = s.flows.has_node } in
    let elements = new_elements l f edge old row grew again s in
    record {
      nodes = length-set old (f.target edge - 1) row ∙ s.before.nodes;
      elements = elements;
      entry = s.laws.transitive f.entry (row_at old 1) (row_at (written f edge old row) 1) s.flows.entry_element (s.before.elements 1 one) (elements 1 one) s.before.entry (grows l f edge old row grew again s 1 one);
      dominated = stays_dominated l f edge old row grew again s;
    }

is_head : (l : Lattice) (f : Flow) (edge : ℕ) (old : List (List ℤ)) (row : List ℤ) (grew again : Bool) → Step l f edge old row grew again → f.target edge ≤ f.source edge → IsHead f (f.target edge)
is_head l f edge old row grew again s back = (edge, s.is, back, refl)

-- where nothing is told, the rows up to the source stay
unmoved : (l : Lattice) (f : Flow) (edge : ℕ) (old : List (List ℤ)) (row : List ℤ) (grew again : Bool) → Step l f edge old row grew again → again ≡ false → (node : ℕ) → 1 ≤ node → node ≤ f.source edge → row_at (written f edge old row) node ≡ row_at old node
unmoved l f edge old row grew again s quiet node first upto =
    let target = target_is l f edge old row grew again s in
    elim (cases_eq node (f.target edge)) [
      | inl at ↦ let back : f.target edge ≤ f.source edge = omega arith in
          let kept : row ≡ row_at old (f.target edge) = head_kept l f s.laws (f.target edge) (row_at old (f.target edge)) (transferred f edge old) row grew (at_target l f edge old row grew again s) (is_transferred l f edge old row grew again s) s.arrives (is_head l f edge old row grew again s back) (s.untold quiet back) in
          subst (λ n. row_at (written f edge old row) n ≡ row_at old n) (sym at) (row_at-set_same old (f.target edge) row target.first (target_has_row l f edge old row grew again s) ∙ kept)
      | inr off ↦ row_at-set_other old (f.target edge) node row target.first first off
    ]

settles : (l : Lattice) (f : Flow) (edge : ℕ) (old : List (List ℤ)) (row : List ℤ) (grew again : Bool) → Step l f edge old row grew again → again ≡ false → IsSettled l f (written f edge old row) edge
settles l f edge old row grew again s quiet =
    let target = target_is l f edge old row grew again s in
    let same = unmoved l f edge old row grew again s quiet (f.source edge) (s.flows.source_node edge s.is).first (omega arith) in
    let more = above_more l f s.laws (f.target edge) (row_at old (f.target edge)) (transferred f edge old) row grew (at_target l f edge old row grew again s) (is_transferred l f edge old row grew again s) s.arrives in
    subst (λ r. l.Below (f.post edge r) (row_at (written f edge old row) (f.target edge))) (sym same)
    (subst (λ r. l.Below (transferred f edge old) r) (sym (row_at-set_same old (f.target edge) row target.first (target_has_row l f edge old row grew again s))) more)

-- an edge stays settled where the row at its source stays
kept_settled : (l : Lattice) (f : Flow) (edge : ℕ) (old : List (List ℤ)) (row : List ℤ) (grew again : Bool) → Step l f edge old row grew again → (other : ℕ) → IsEdge f other → row_at (written f edge old row) (f.source other) ≡ row_at old (f.source other) → IsSettled l f old other → IsSettled l f (written f edge old row) other
kept_settled l f edge old row grew again s other is same settled =
    let target = s.flows.target_node other is in
    let source = s.flows.source_node other is in
    subst (λ r. l.Below (f.post other r) (row_at (written f edge old row) (f.target other))) (sym same)
    (s.laws.transitive (transferred f other old) (row_at old (f.target other)) (row_at (written f edge old row) (f.target other))
    (s.flows.post_element other (row_at old (f.source other)) is (s.before.elements (f.source other) source))
    (s.before.elements (f.target other) target) (new_elements l f edge old row grew again s (f.target other) target) settled (grows l f edge old row grew again s (f.target other) target))

stays_settled : (l : Lattice) (f : Flow) (edge : ℕ) (old : List (List ℤ)) (row : List ℤ) (grew again : Bool) → Step l f edge old row grew again → again ≡ false → (other : ℕ) → IsEdge f other → f.source other ≤ f.source edge → IsSettled l f old other → IsSettled l f (written f edge old row) other
stays_settled l f edge old row grew again s quiet other is upto = kept_settled l f edge old row grew again s other is (unmoved l f edge old row grew again s quiet (f.source other) (s.flows.source_node other is).first upto)

stays_settled_before : (l : Lattice) (f : Flow) (edge : ℕ) (old : List (List ℤ)) (row : List ℤ) (grew again : Bool) → Step l f edge old row grew again → (other : ℕ) → IsEdge f other → f.source other < f.target edge → IsSettled l f old other → IsSettled l f (written f edge old row) other
stays_settled_before l f edge old row grew again s other is less = kept_settled l f edge old row grew again s other is (row_at-set_other old (f.target edge) (f.source other) row (target_is l f edge old row grew again s).first (s.flows.source_node other is).first (λ same. absurd (omega (arith, same, less))))

none_higher : (l : Lattice) (f : Flow) (edge : ℕ) (old : List (List ℤ)) (row : List ℤ) (grew again : Bool) → Step l f edge old row grew again → NoneHigher l f old (written f edge old row) f.nodes
none_higher l f edge old row grew again s node first last =
    let target = target_is l f edge old row grew again s in
    each_row (λ n r. goes_back_to f n f.edges ≡ true → l.rank r ≤ l.rank (row_at old n)) old (f.target edge) row target.first (target_has_row l f edge old row grew again s)
    (λ passes. head_no_higher l f s.laws (f.target edge) (row_at old (f.target edge)) (transferred f edge old) row grew (at_target l f edge old row grew again s) (is_transferred l f edge old row grew again s) s.arrives (test_finds_head f (f.target edge) passes))
    (λ other also passes. omega arith)
    node first

falls_back : (l : Lattice) (f : Flow) (edge : ℕ) (old : List (List ℤ)) (row : List ℤ) (grew again : Bool) → Step l f edge old row grew again → again ≡ true → head_ranks l f (written f edge old row) < head_ranks l f old
falls_back l f edge old row grew again s tells =
    let target = target_is l f edge old row grew again s in
    let head = is_head l f edge old row grew again s (s.told tells).1 in
    let less = head_falls l f s.laws (f.target edge) (row_at old (f.target edge)) (transferred f edge old) row grew (at_target l f edge old row grew again s) (is_transferred l f edge old row grew again s) s.arrives head (s.told tells).0 in
    ranks_fall l f old (written f edge old row) f.nodes (f.target edge) (none_higher l f edge old row grew again s) target.first target.last (head_passes_test f (f.target edge) head)
    (subst (λ r. l.rank r < l.rank (row_at old (f.target edge))) (sym (row_at-set_same old (f.target edge) row target.first (target_has_row l f edge old row grew again s))) less)

pub takes_edge : (l : Lattice) (f : Flow) (edge : ℕ) (old : List (List ℤ)) (row : List ℤ) (grew again : Bool) → Step l f edge old row grew again → TakesEdge l f edge old (written f edge old row) again
takes_edge l f edge old row grew again s = record {
  under_way = stays_under_way l f edge old row grew again s;
  here = settles l f edge old row grew again s;
  keeps = stays_settled l f edge old row grew again s;
  keeps_before = stays_settled_before l f edge old row grew again s;
  no_higher = ranks_no_higher l f old (written f edge old row) f.nodes (none_higher l f edge old row grew again s);
  falls = falls_back l f edge old row grew again s;
}

-- the same of the rows as they are held
pub record Taken (l : Lattice) (f : Flow) (edge : ℕ) (old new : RowsHeld) (again : Bool) : Type 0 where
  pub taken : TakesEdge l f edge (shown_rows old) (shown_rows new) again
  pub ready : IsReady l new

pub takes_edge_held : (l : Lattice) (f : Flow) → IsLattice l → IsFlow l f → (edge to : ℕ) → IsEdge f edge → to ≡ f.target edge → (old posted new : RowsHeld) → IsUnderWay l f (shown_rows old) → IsReady l old → posted ≡ with_transfer old (Some (transferred f edge (shown_rows old))) → (grew again : Bool) → ArrivesAt l f to posted new grew → (again ≡ true → (grew ≡ true) × (to ≤ f.source edge)) → (again ≡ false → to ≤ f.source edge → grew ≡ false) → Taken l f edge old new again
takes_edge_held l f laws flows edge to is to_is old posted new before ready posted_is grew again at told untold =
    let rows_same : shown_rows posted ≡ shown_rows old = ap shown_rows posted_is in
    let more_is : words_at posted.transfer ≡ transferred f edge (shown_rows old) = ap (λ (h : RowsHeld). words_at h.transfer) posted_is in
    let step : Step l f edge (shown_rows old) at.row grew again = record {
      laws = laws;
      flows = flows;
      is = is;
      before = before;
      arrives = subst (λ node. Arrives l f node (row_at (shown_rows old) node) (transferred f edge (shown_rows old)) at.row grew) to_is
          (subst (λ rows. Arrives l f to (row_at rows to) (transferred f edge (shown_rows old)) at.row grew) rows_same
          (subst (λ more. Arrives l f to (row_at (shown_rows posted) to) more at.row grew) more_is at.arrives));
      told = λ tells. let both = told tells in (both.0, omega (arith, both.1, to_is));
      untold = λ quiet back. untold quiet (omega (arith, back, to_is));
    } in
    let rows_are : shown_rows new ≡ written f edge (shown_rows old) at.row = at.rows ∙ ap (λ rows. slice_set rows (to - 1) at.row) rows_same ∙ ap (λ node. slice_set (shown_rows old) (node - 1) at.row) to_is in
    record {
      taken = subst (λ rows. TakesEdge l f edge (shown_rows old) rows again) (sym rows_are) (takes_edge l f edge (shown_rows old) at.row grew again step);
      ready = record {
        words = at.words ∙ ap (λ (h : RowsHeld). h.words) posted_is ∙ ready.words;
        transfer = subst (λ b. IsSome b) (sym (at.transfer ∙ ap (λ (h : RowsHeld). h.transfer) posted_is)) (some_of (Some (transferred f edge (shown_rows old))) (transferred f edge (shown_rows old)) refl);
      };
    }

-- the row at the source, and what the edge makes of it
pub source_row : (l : Lattice) (f : Flow) → IsFlow l f → (edge from : ℕ) → IsEdge f edge → from ≡ f.source edge → (old : RowsHeld) → IsUnderWay l f (shown_rows old) → row_shown old (from - 1) ≡ row_at (shown_rows old) (f.source edge)
source_row l f flows edge from is from_is old before =
    let source = flows.source_node edge is in
    shown_at old (f.source edge) from from_is source.first (omega (arith, source.last, before.nodes, shown_count old))

pub transferred_element : (l : Lattice) (f : Flow) → IsFlow l f → (edge : ℕ) → IsEdge f edge → (old : RowsHeld) → IsUnderWay l f (shown_rows old) → IsElement l (transferred f edge (shown_rows old))
transferred_element l f flows edge is old before = flows.post_element edge (row_at (shown_rows old) (f.source edge)) is (before.elements (f.source edge) (flows.source_node edge is))

-- what comes to a node that has a row of its own by now
pub arrives_at : (l : Lattice) (f : Flow) → IsLattice l → (node : ℕ) → IsNode f node → (old reached : RowsHeld) → IsUnderWay l f (shown_rows old) → IsReady l old → IsElement l (words_at old.transfer) → reached ≡ with_own old (node - 1) (Some (row_shown old (node - 1))) → (row more new : List ℤ) (grew : Bool) → get_or reached.rows (node - 1) None ≡ Some row → reached.transfer ≡ Some more → Arrives l f node row more new grew → ArrivesAt l f node old (with_own reached (node - 1) (Some (own_rewritten reached (node - 1) new))) grew
arrives_at l f laws node is old reached before ready element reached_is row more new grew row_there more_there arrives =
    let within : node - 1 < length old.rows = omega (arith, is.first, is.last, before.nodes, shown_count old) in
    let row_is : row ≡ row_at (shown_rows old) node = ap words_at (sym row_there ∙ own_is_some old reached (node - 1) (row_shown old (node - 1)) reached_is within) ∙ shown_at old node node refl is.first (omega (arith, is.last, before.nodes, shown_count old)) in
    let more_is : more ≡ words_at old.transfer = ap words_at (sym more_there) ∙ ap (λ (h : RowsHeld). words_at h.transfer) reached_is in
    let now : Arrives l f node (row_at (shown_rows old) node) (words_at old.transfer) new grew =
    subst (λ m. Arrives l f node (row_at (shown_rows old) node) m new grew) more_is (subst (λ r. Arrives l f node r more new grew) row_is arrives) in
    let words : reached.words ≡ old.words = ap (λ (h : RowsHeld). h.words) reached_is in
    let wide : length new ≡ reached.words = (new_element l f laws node (row_at (shown_rows old) node) (words_at old.transfer) new grew (before.elements node is) element now).width ∙ sym (words ∙ ready.words) in
    let same = rewritten_own reached (node - 1) new wide in
    record {
      row = new;
      arrives = now;
      rows = own_set reached (node - 1) (own_rewritten reached (node - 1) new)
          ∙ ap (λ r. slice_set (shown_rows reached) (node - 1) r) same
          ∙ ap (λ rows. slice_set rows (node - 1) new) (ap shown_rows reached_is ∙ reached_same old (node - 1) within);
      words = words;
      transfer = ap (λ (h : RowsHeld). h.transfer) reached_is;
    }
