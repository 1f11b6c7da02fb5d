-- The rows before the first edge.
use Rattle.std.proofs.Common.{◌≡◌, ℕ, ◌+◌, ◌-◌, ◌<◌, ◌≤◌, List, [], ℤ, length, get_or, slice_set, Some, None, refl, ap, sym, ◌∙◌, subst, length-set, arith, inl, inr, get_or-set_other, get_or-set_same}
use Rattle.std.proofs.lemmas.Bool.{cases_eq}
use Rattle.dom_laws.specs.Lattice.{Lattice, IsElement, IsLattice}
use Rattle.dom_laws.specs.Flow.{Flow, IsFlow}
use Rattle.widen_solver.specs.Stored.{row_at}
use Rattle.widen_solver.specs.Solving.{IsUnderWay}
use Rattle.widen_solver.specs.RowsHeld.{RowsHeld, row_shown, shown, shown_rows, with_bottom, with_own}
use Rattle.widen_solver.specs.RowLends.{own_rewritten}
use Rattle.widen_solver.proofs.RowAt.{each_row}
use Rattle.widen_solver.proofs.ShownRows.{shown_count, shown_get, own_set, reached_same, rewritten_own}

-- the first nodes have no rows of their own
pub record ClearedTo (start now : RowsHeld) (least : List ℤ) (count index : ℕ) : Type 0 where
  pub words : now.words ≡ start.words
  pub transfer : now.transfer ≡ start.transfer
  pub bottom : now.bottom ≡ least
  pub count_is : length now.rows ≡ count
  pub cleared : (k : ℕ) → k < index → get_or now.rows k None ≡ None

pub cleared_none : (start now : RowsHeld) (least : List ℤ) (count : ℕ) → now ≡ with_bottom start least → length start.rows ≡ count → ClearedTo start now least count 0
cleared_none start now least count is size = subst (λ h. ClearedTo start h least count 0) (sym is) (record {
  words = refl;
  transfer = refl;
  bottom = refl;
  count_is = size;
  cleared = λ k less. absurd (omega arith);
})

pub cleared_more : (start old now : RowsHeld) (least : List ℤ) (count index : ℕ) → index < count → now ≡ with_own old index None → ClearedTo start old least count index → ClearedTo start now least count (index + 1)
cleared_more start old now least count index within is cleared = subst (λ h. ClearedTo start h least count (index + 1)) (sym is) (record {
  words = cleared.words;
  transfer = cleared.transfer;
  bottom = cleared.bottom;
  count_is = length-set old.rows index None ∙ cleared.count_is;
  cleared = λ k less. elim (cases_eq k index) [
    | inl at ↦ ap (λ n. get_or (slice_set old.rows index None) n None) at ∙ get_or-set_same old.rows index None None (omega (arith, within, cleared.count_is))
    | inr off ↦ get_or-set_other old.rows index k None None off ∙ cleared.cleared k (omega arith)
  ];
})

-- the least rows with the entry in its place
starts : (l : Lattice) (f : Flow) → IsLattice l → IsFlow l f → (rows : List (List ℤ)) (row : List ℤ) → length rows ≡ f.nodes → row ≡ f.entry → ((k : ℕ) → k < length rows → get_or rows k [] ≡ l.least) → IsUnderWay l f (slice_set rows 0 row)
starts l f laws flows rows row nodes entry cleared =
    let has : 1 ≤ length rows = omega (arith, nodes, flows.has_node) in
    let is_entry : row_at (slice_set rows 0 row) 1 ≡ f.entry = get_or-set_same rows 0 row [] (omega (arith, has)) ∙ entry in
    let least : (node : ℕ) → 1 ≤ node → node ≤ f.nodes → row_at rows node ≡ l.least = (λ node first last. cleared (node - 1) (omega (arith, first, last, nodes))) in
    record {
      nodes = length-set rows 0 row ∙ nodes;
      elements = λ node is. each_row (λ n r. n ≤ f.nodes → IsElement l r) rows 1 row (omega arith) has
          (λ last. subst (λ r. IsElement l r) (sym entry) flows.entry_element)
          (λ other first last. subst (λ r. IsElement l r) (sym (least other first last)) laws.least_element)
          node is.first is.last;
      entry = subst (λ r. l.Below f.entry r) (sym is_entry) (laws.reflexive f.entry flows.entry_element);
      dominated = λ others inductive fixed node is. each_row (λ n r. n ≤ f.nodes → l.Below r (others n)) rows 1 row (omega arith) has
          (λ last. subst (λ r. l.Below r (others 1)) (sym entry) inductive.entry)
          (λ other first last. subst (λ r. l.Below r (others other)) (sym (least other first last)) (laws.least_below (others other) (inductive.elements other (record { first = first; last = last }))))
          node is.first is.last;
    }

pub record Started (l : Lattice) (f : Flow) (start now : RowsHeld) : Type 0 where
  pub under_way : IsUnderWay l f (shown_rows now)
  pub words : now.words ≡ start.words
  pub transfer : now.transfer ≡ start.transfer

pub started : (l : Lattice) (f : Flow) → IsLattice l → IsFlow l f → (start old reached : RowsHeld) (index : ℕ) (out : List ℤ) → ClearedTo start old l.least f.nodes index → f.nodes ≤ index → reached ≡ with_own old 0 (Some (row_shown old 0)) → out ≡ f.entry → start.words ≡ l.width → Started l f start (with_own reached 0 (Some (own_rewritten reached 0 out)))
started l f laws flows start old reached index out cleared all is entry wide =
    let has : 0 < length old.rows = omega (arith, cleared.count_is, flows.has_node) in
    let words : reached.words ≡ start.words = ap (λ (h : RowsHeld). h.words) is ∙ cleared.words in
    let row_is : own_rewritten reached 0 out ≡ out = rewritten_own reached 0 out (ap length entry ∙ flows.entry_element.width ∙ sym (words ∙ wide)) in
    let rows_are : shown_rows (with_own reached 0 (Some (own_rewritten reached 0 out))) ≡ slice_set (shown_rows old) 0 (own_rewritten reached 0 out) =
    own_set reached 0 (own_rewritten reached 0 out) ∙ ap (λ rows. slice_set rows 0 (own_rewritten reached 0 out)) (ap shown_rows is ∙ reached_same old 0 has) in
    record {
      under_way = subst (λ rows. IsUnderWay l f rows) (sym rows_are)
          (starts l f laws flows (shown_rows old) (own_rewritten reached 0 out) (shown_count old ∙ cleared.count_is) (row_is ∙ entry)
          (λ k less. let within : k < length old.rows = omega (arith, less, shown_count old) in
          shown_get old k within ∙ ap (shown old.bottom) (cleared.cleared k (omega (arith, within, all, cleared.count_is))) ∙ cleared.bottom));
      words = words;
      transfer = ap (λ (h : RowsHeld). h.transfer) is ∙ cleared.transfer;
    }
