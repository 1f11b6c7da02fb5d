-- Claims of cells as rows, and each fault of a statement is open or cleared.
use Rattle.std.proofs.Common.{◌≡◌, ℕ, ◌≤◌, ◌==◌, List, [], ◌∷◌, length, Bool, true, false, Option, ℤ, if◌then◌else◌, refl, sym, ap, ◌∙◌, subst, inl, inr, ◌⊎◌, arith}
use Rattle.std.specs.Prelude.{◌||◌, not}
use Rattle.std.specs.List.{Contains}
use Rattle.std.specs.Option.{option_map_or}
use Rattle.std.proofs.lemmas.Bool.{eq-eqb}
use Rattle.std.proofs.lemmas.List.Elements.{Contains-append_left, Contains-append_right}
use Rattle.cob_tree.specs.declared.fault.Kind.{Kind}
use Rattle.cob_tree.specs.declared.fault.Kind.TheVariants as kind
use Rattle.cob_tree.specs.declared.fault.Open.{Open}
use Rattle.cob_program.specs.Act.{Program}
use Rattle.cob_graph.specs.declared.graph.Graph.{Graph}
use Rattle.cob_graph.specs.declared.graph.Node.{Node}
use Rattle.cert_text.specs.View.{Certificate}
use Rattle.interval_domain.specs.declared.bounds.Interval.{Interval}
use Rattle.dom_laws.specs.Lattice.{Lattice, IsElement}
use Rattle.dom_laws.specs.Flow.{Flow}
use Rattle.dom_laws.specs.Meaning.{Meaning}
use Rattle.interval_domain.specs.Elements.{Element, ElementFits}
use Rattle.interval_domain.specs.Rows.{row_from, width_of, element_of, cells_lattice}
use Rattle.interval_domain.proofs.Rows.{element_back, row_width}
use Rattle.cert_text.specs.Claims.{place_at}
use Rattle.graph_runs.specs.Places.{IsOf}
use Rattle.graph_runs.specs.Clearing.{IsClearAt}
use Rattle.cell_steps.specs.OwnRanges.{owns}
use Rattle.cell_laws.specs.Layer.{statement_at}
use Rattle.cell_ranges.proofs.Claims.{claims_fit}
use Rattle.cert_check.specs.OpenPairs.{open_at, node_clears_by, is_cleared_by, open_by, opens_by, pairs_by}
use Rattle.cert_check.specs.Claims.{claims_at, row_at}
use Rattle.cert_check.specs.Clearing.{TestsTell}
use Rattle.cert_check.proofs.Lists.{there_for, each_holds}

-- ---- claims as rows

module _ (p : Program) (g : Graph) (c : Certificate) (thresholds : List (List ℤ)) where
  abbrev ranges : List Interval
  ranges = owns p

  abbrev lattice : Lattice
  lattice = cells_lattice ranges thresholds

  row_is : (e : Element) → ElementFits ranges e → IsElement lattice (row_from (width_of ranges) e)
  row_is e fits = record {
    width = row_width ranges e fits;
    formed = record {
      said = ap (row_from (width_of ranges)) (sym (element_back ranges e fits));
      fits = subst (ElementFits ranges) (sym (element_back ranges e fits)) fits;
    };
  }

  pub claimed : (node : ℕ) → IsElement lattice (row_at p g c node)
  claimed node = row_is (claims_at p g c node) (claims_fit ranges (place_at c node))

  pub claimed_back : (node : ℕ) → element_of (row_at p g c node) ≡ claims_at p g c node
  claimed_back node = element_back ranges (claims_at p g c node) (claims_fit ranges (place_at c node))

-- ---- open faults

module _ (g : Graph) (clears : ℕ → Kind → Bool) where
  abbrev opens : ℕ → Kind → List Open
  opens statement fault = open_by g clears statement fault

  statement_is : (node statement : ℕ) → IsOf g node statement → statement_at g node ≡ statement
  statement_is node statement of = ap (λ (o : Option Node). option_map_or (λ n. n.statement) o 0) of.stands ∙ of.number

  clears_there : (node statement : ℕ) (fault : Kind) → IsOf g node statement → node_clears_by g clears statement fault node ≡ true →
      clears node fault ≡ true
  clears_there node statement fault of e =
      let same : (statement_at g node == statement) ≡ true = eq-eqb (statement_at g node) statement (statement_is node statement of) in
      subst (λ b. (not b || clears node fault) ≡ true) same e

  -- where each node of the statement clears the fault, its row does
  pub cleared_at : (f : Flow) (m : Meaning) (rows : ℕ → List ℤ) → f.nodes ≡ length g.nodes → TestsTell f m rows clears →
      (statement : ℕ) (fault : Kind) → is_cleared_by g clears statement fault ≡ true → IsClearAt f m rows g fault statement
  cleared_at f m rows nodes_are tell statement fault e node is of =
      (tell node fault is).1
      (clears_there node statement fault of
      (each_holds (node_clears_by g clears statement fault) 1 (length g.nodes) node e is.first
      (let last = is.last in omega (arith, last, nodes_are))))

  open_there : (statement : ℕ) (fault : Kind) → is_cleared_by g clears statement fault ≡ false →
      Contains (open_by g clears statement fault) (open_at statement fault)
  open_there statement fault e =
      subst (λ b. Contains (if b then [] else open_at statement fault ∷ []) (open_at statement fault)) (sym e) (0, omega arith, refl)

  -- an open pair of a kind is among those of its statement
  kind_there : (statement : ℕ) (fault : Kind) → Contains (open_by g clears statement fault) (open_at statement fault) →
      Contains (opens_by g clears statement) (open_at statement fault)
  kind_there statement kind.Size h = Contains-append_left (opens statement kind.Size) _ _ h
  kind_there statement kind.Truncation h =
      Contains-append_right (opens statement kind.Size) _ _ (Contains-append_left (opens statement kind.Truncation) _ _ h)
  kind_there statement kind.Zero h =
      Contains-append_right (opens statement kind.Size) _ _
      (Contains-append_right (opens statement kind.Truncation) _ _ (Contains-append_left (opens statement kind.Zero) _ _ h))
  kind_there statement kind.Class h =
      Contains-append_right (opens statement kind.Size) _ _
      (Contains-append_right (opens statement kind.Truncation) _ _
      (Contains-append_right (opens statement kind.Zero) _ _ (Contains-append_left (opens statement kind.Class) _ _ h)))
  kind_there statement kind.Subscript h =
      Contains-append_right (opens statement kind.Size) _ _
      (Contains-append_right (opens statement kind.Truncation) _ _
      (Contains-append_right (opens statement kind.Zero) _ _
      (Contains-append_right (opens statement kind.Class) _ _ (Contains-append_left (opens statement kind.Subscript) [] _ h))))

  pub open_or_cleared : (statements statement : ℕ) (fault : Kind) → 1 ≤ statement → statement ≤ statements →
      Contains (pairs_by g clears statements) (open_at statement fault) ⊎ (is_cleared_by g clears statement fault ≡ true)
  open_or_cleared statements statement fault l h = by_test (is_cleared_by g clears statement fault) refl
    where
      by_test : (b : Bool) → is_cleared_by g clears statement fault ≡ b →
          Contains (pairs_by g clears statements) (open_at statement fault) ⊎ (is_cleared_by g clears statement fault ≡ true)
      by_test true e = inr e
      by_test false e =
          inl (there_for (opens_by g clears) 1 statements statement (open_at statement fault) l (omega (arith, h))
          (kind_there statement fault (open_there statement fault e)))
