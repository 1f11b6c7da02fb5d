-- Works that edges share.
use Rattle.std.proofs.Common.{◌≡◌, ◌≤◌, ◌<◌, ℕ, zero, suc, ◌+◌, Bool, true, false, if◌then◌else◌, List, [], ◌∷◌, ◌++◌, length, Option, Some, None, inl, inr, refl, sym, ap, subst, ◌∙◌, arith}
use Rattle.std.specs.Prelude.{◌⊎◌, slice_get, slice_index_or, option_copied, Contains}
use Rattle.std.specs.Slice.{IsItemAt}
use Rattle.std.specs.Borrow.{Bor}
use Rattle.std.specs.List.{All, AllByRecursion}
use Rattle.std.proofs.Math.Logic.{∥∥₁_elim, ∥∥₁_prop}
use Rattle.std.proofs.lemmas.Bool.{cases_lt}
use Rattle.std.proofs.lemmas.List.{get_or_append_left, length-append}
use Rattle.std.proofs.lemmas.List.Elements.{All-get_or, All-push}
use Rattle.std.proofs.lemmas.Option.{slice_get_past, slice_get_read, slice_get_within, get_or_from_slice_get}
use Rattle.std.proofs.Math.Seq.{get_or-append_seam}
use Rattle.cob_program.specs.Act.{Stmt, MkStmt, Program}
use Rattle.cob_program.specs.Statements.{program_statements}
use Rattle.cob_program.specs.Values.{◌>>=◌}
use Rattle.cob_runs.specs.Effects.{act_at}
use Rattle.cob_graph.specs.declared.graph.Edge.{Edge}
use Rattle.cob_graph.specs.declared.graph.Graph.{Graph}
use Rattle.edge_parts.specs.declared.statement_tests.StatementTests.{StatementTests}
use Rattle.edge_parts.specs.declared.work.EdgeWork.{EdgeWork}
use Rattle.graph_runs.specs.Places.{no_edge}
use Rattle.graph_runs.specs.Sources.{IsSourceGraph}
use Rattle.data_laws.specs.Statements.{IsFound}
use Rattle.data_laws.proofs.Listed.{listed_is_found}
use Rattle.cell_laws.specs.Layer.{left}
use Rattle.cell_layer.specs.NumberedStatements.{number_in, act_in}
use Rattle.cell_layer.specs.Statements.{stated, stated_in}
use Rattle.cell_layer.specs.Works.{program_of, statement_of, IsWorkOf, StandsAt, IsPlaceOf, AreFirstPlaces, ArePlaces, IsOfProgram, HasMore}
use Rattle.cell_layer.proofs.Finding.{found_at, is_left_none}

-- ---- works of the program's statements

found_by : (p : Program) (y : Stmt) → IsFound p y → act_at p (number_in y) ≡ Some (act_in y)
found_by p (MkStmt n line a) found = found

one_more_found : (p : Program) (works : List EdgeWork) (w : EdgeWork) → ∥ All (IsOfProgram p) works ∥₁ → ∥ IsOfProgram p w ∥₁ →
    ∥ All (IsOfProgram p) (works ++ w ∷ []) ∥₁
one_more_found p works w all here = ∥∥₁_elim all ∥∥₁_prop (λ each. ∥∥₁_elim here ∥∥₁_prop (λ of. ∣ All-push (IsOfProgram p) works w each of ∣₁))

pub found_if : (p : Program) (works : List EdgeWork) (w : EdgeWork) (b : Bool) → ∥ All (IsOfProgram p) works ∥₁ → ∥ IsOfProgram p w ∥₁ →
    ∥ All (IsOfProgram p) (if b then works ++ w ∷ [] else works) ∥₁
found_if p works w true all here = one_more_found p works w all here
found_if p works w false all here = all

module _ (p : Program) (g : Graph) (source : ∥ IsSourceGraph p g ∥₁) (ss : List StatementTests)
    (listed : ∥ stated_in ss ≡ program_statements p ∥₁) where
  pub of_program : (w : EdgeWork) (s : StatementTests) → Contains ss s → program_of w ≡ p → statement_of w ≡ stated s → ∥ IsOfProgram p w ∥₁
  of_program w s contained same is =
      ∥∥₁_elim source ∥∥₁_prop (λ h. ∥∥₁_elim listed ∥∥₁_prop (λ l.
      let found =
      found_at (IsFound p) ss contained.0 s (subst (AllByRecursion (IsFound p)) (sym l) (listed_is_found p h.whole)) contained.1 contained.2 in
      ∣ record { program = same; found = subst (λ y. act_at p (number_in y) ≡ Some (act_in y)) (sym is) (found_by p (stated s) found) } ∣₁))

  -- ---- places of an edge

  pub no_place : (works : List EdgeWork) (x : Edge) → All (λ s. ¬ number_in (stated s) ≡ left g x) ss → ∥ IsPlaceOf p g works x None ∥₁
  no_place works x none =
      ∥∥₁_elim source ∥∥₁_prop (λ h. ∥∥₁_elim listed ∥∥₁_prop (λ l.
      ∣ record { within = tt; work = record { left = is_left_none p g x ss h.whole l none; program = tt; action = tt } } ∣₁))

module _ (p : Program) (g : Graph) (works : List EdgeWork) (x : Edge) where
  work_here : (w : EdgeWork) → IsOfProgram p w → number_in (statement_of w) ≡ left g x → w.action ≡ x.action → IsWorkOf p g x (Some w)
  work_here w of number action = record {
    left = record { act = ap (act_at p) (sym number) ∙ of.found; number = number };
    program = of.program;
    action = action;
  }

  pub place_here : (k : ℕ) → StandsAt works (left g x) x.action k → ∥ All (IsOfProgram p) works ∥₁ → ∥ IsPlaceOf p g works x (Some k) ∥₁
  place_here k is all =
      let within = slice_get_within works k is.work is.at in
      ∥∥₁_elim all ∥∥₁_prop (λ each.
      let of = subst (IsOfProgram p) (get_or_from_slice_get works k is.work is.work is.at) (All-get_or (IsOfProgram p) works k is.work within each) in
      ∣ record { within = within; work = subst (IsWorkOf p g x) (sym is.at) (work_here is.work of is.of_statement is.by_action) } ∣₁)

-- ---- more works

at_front : (works more : List EdgeWork) (k : ℕ) → k < length works → slice_get (works ++ more) k ≡ slice_get works k
at_front [] more k within = absurd (omega (arith, within))
at_front (w ∷ works) more zero within = refl
at_front (w ∷ works) more (suc k) within = at_front works more k (omega (arith, within))

pub at_end : (works : List EdgeWork) (w : EdgeWork) → slice_get (works ++ w ∷ []) (length works) ≡ Some w
at_end [] w = refl
at_end (v ∷ works) w = at_end works w

module _ (p : Program) (g : Graph) (old new : List EdgeWork) (grown : HasMore old new) where
  place_stays : (x : Edge) (place : Option ℕ) → IsPlaceOf p g old x place → IsPlaceOf p g new x place
  place_stays x None is = record { within = tt; work = is.work }
  place_stays x (Some k) is =
      let many = length-append old grown.0 in
      record {
        within = subst (λ (ws : List EdgeWork). k < length ws) (sym grown.1) (omega (arith, is.within, many));
        work = subst (IsWorkOf p g x) (sym (ap (λ (ws : List EdgeWork). slice_get ws k) grown.1 ∙ at_front old grown.0 k is.within)) is.work;
      }

  -- behind the place of one edge more
  pub one_more_place : (many : ℕ) (places : List (Option ℕ)) (place : Option ℕ) (x : Edge) → x ≡ slice_index_or g.edges many no_edge →
      ∥ IsPlaceOf p g new x place ∥₁ → AreFirstPlaces p g old many places → AreFirstPlaces p g new (many + 1) (places ++ place ∷ [])
  one_more_place many places place x is here are = record {
    count = let more = length-append places (place ∷ []) in omega (arith, more, are.count);
    each = λ k within. by_place k within (cases_lt k many);
  }
    where
      by_place : (k : ℕ) → k < many + 1 → (k < many) ⊎ (many ≤ k) → ∥ IsPlaceOf p g new (slice_index_or g.edges k no_edge) (slice_index_or (places ++ place ∷ []) k None) ∥₁
      by_place k within (inl front) =
          let at = get_or_append_left places (place ∷ []) None k (omega (arith, front, are.count)) in
          ∥∥₁_elim (are.each k front) ∥∥₁_prop
          (λ old_place. ∣ subst (IsPlaceOf p g new (slice_index_or g.edges k no_edge)) (sym at) (place_stays (slice_index_or g.edges k no_edge) (slice_index_or places k None) old_place) ∣₁)
      by_place k within (inr past) =
          let last : k ≡ length places = omega (arith, within, past, are.count) in
          let same : k ≡ many = omega (arith, within, past) in
          let at = ap (λ n. slice_index_or (places ++ place ∷ []) n None) last ∙ get_or-append_seam places place [] None in
          ∥∥₁_elim here ∥∥₁_prop
          (λ new_place. ∣ subst (λ (y : Edge). IsPlaceOf p g new y (slice_index_or (places ++ place ∷ []) k None)) (is ∙ ap (λ n. slice_index_or g.edges n no_edge) (sym same))
          (subst (IsPlaceOf p g new x) (sym at) new_place) ∣₁)

-- ---- the work of an edge

-- what is lent at a place
pub got : (works : List EdgeWork) (i : ℕ) (r : Option (Bor EdgeWork)) → IsItemAt works i r → slice_get works i ≡ option_copied r
got works i None lookup = slice_get_past works i lookup.3
got works i (Some w) lookup = slice_get_read works (length works) i w.now refl lookup.3.0 lookup.1

pub work_at : (p : Program) (g : Graph) (works : List EdgeWork) (places : List (Option ℕ)) (k : ℕ) → ∥ ArePlaces p g works places ∥₁ → k < length g.edges →
    ∥ IsWorkOf p g (slice_index_or g.edges k no_edge) (slice_index_or places k None >>= slice_get works) ∥₁
work_at p g works places k are within =
    ∥∥₁_elim are ∥∥₁_prop (λ a. ∥∥₁_elim (a.each k within) ∥∥₁_prop (λ is. ∣ is.work ∣₁))
