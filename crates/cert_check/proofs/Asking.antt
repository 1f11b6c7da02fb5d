-- What the calls on rows and on certificates need and say.
use Rattle.std.proofs.Common.{◌≡◌, ◌↔◌, ℕ, zero, suc, ◌-◌, ◌<◌, ◌≤◌, List, [], ◌∷◌, map, length, slice_index_or, get_or, Bool, true, false, Some, None, ℤ, refl, sym, ap, ◌∙◌, subst, arith}
use Rattle.std.specs.Prelude.{IfSome, IsTrue}
use Rattle.std.specs.List.{All, AllByRecursion}
use Rattle.std.proofs.lemmas.Bool.{and_parts, ltb-true}
use Rattle.std.proofs.lemmas.Int.{ints}
use Rattle.std.proofs.lemmas.List.{length-map}
use Rattle.std.proofs.lemmas.List.Elements.{recursion_from_All}
use Rattle.cob_program.specs.Act.{Program}
use Rattle.cob_graph.specs.declared.graph.Graph.{Graph}
use Rattle.cert_text.specs.declared.cert.Claim.{Claim}
use Rattle.cert_text.specs.declared.cert.Cert.{Cert}
use Rattle.cert_text.specs.declared.cert.Element as text
use Rattle.cert_text.specs.View.{Certificate, Place, NotReached, Holds, place_of, view}
use Rattle.cert_text.specs.Allowed.{IsAllowed, claim_fits, claims_fit, place_fits, places_all_fit}
use Rattle.interval_domain.specs.declared.bounds.Interval.{Interval}
use Rattle.dom_laws.specs.Lattice.{Lattice, IsElement}
use Rattle.dom_laws.specs.Flow.{Flow, IsInductive}
use Rattle.interval_domain.specs.Known.{Known, KnownFits}
use Rattle.interval_domain.specs.Elements.{Element, CellsFit, ElementFits}
use Rattle.interval_domain.specs.Rows.{element_of, row_from, cells_lattice, IsSaid}
use Rattle.cert_text.specs.Claims.{claimed_row, place_at}
use Rattle.cert_text.specs.Gaps.{IsSmall, AreSmall, AreSmallClaims, HasSmallClaims}
use Rattle.cell_steps.specs.OwnRanges.{owns}
use Rattle.cert_check.specs.Claims.{claims_at, row_at}
use Rattle.dom_laws.specs.Leaks.{IsFirstLeak}
use Rattle.cert_check.specs.Along.{arrives}
use Rattle.cert_check.proofs.Accepting.{claimed, claimed_back}

-- ---- rows of the program's own ranges

module _ (p : Program) (g : Graph) (c : Certificate) (ranges : List Interval) (same : ranges ≡ owns p) where
  pub claimed_element : (thresholds : List (List ℤ)) (node : ℕ) → IsElement (cells_lattice (owns p) thresholds) (claimed_row ranges (place_at c node))
  claimed_element thresholds node =
      subst (λ os. IsElement (cells_lattice (owns p) thresholds) (claimed_row os (place_at c node))) (sym same) (claimed p g c thresholds node)

  pub claimed_means : (node : ℕ) → element_of (claimed_row ranges (place_at c node)) ≡ claims_at p g c node
  claimed_means node = ap (λ os. element_of (claimed_row os (place_at c node))) same ∙ claimed_back p g c [] node

  pub inductive_there : (l : Lattice) (f : Flow) → IsInductive l f (λ node. claimed_row ranges (place_at c node)) →
      IsInductive l f (row_at p g c)
  inductive_there l f h = subst (λ os. IsInductive l f (λ node. claimed_row os (place_at c node))) same h

  pub inductive_back : (l : Lattice) (f : Flow) → IsInductive l f (row_at p g c) → IsInductive l f (λ node. claimed_row ranges (place_at c node))
  inductive_back l f h = subst (λ os. IsInductive l f (λ node. claimed_row os (place_at c node))) (sym same) h

  pub leak_there : (l : Lattice) (f : Flow) (e : ℕ) → IsFirstLeak l f (λ node. claimed_row ranges (place_at c node)) e →
      IsFirstLeak l f (row_at p g c) e
  leak_there l f e h = subst (λ os. IsFirstLeak l f (λ node. claimed_row os (place_at c node)) e) same h

  pub arrives_there : (f : Flow) (e : ℕ) (row : List ℤ) → row ≡ arrives f (λ node. claimed_row ranges (place_at c node)) e →
      row ≡ arrives f (row_at p g c) e
  arrives_there f e row h = subst (λ os. row ≡ arrives f (λ node. claimed_row os (place_at c node)) e) same h

same_answer : (a b : Bool) → IsTrue a ↔ (b ≡ true) → a ≡ b
same_answer true b h = sym (h.0 refl)
same_answer false true h = absurd (cc (h.1 refl))
same_answer false false h = refl

-- an answer about the row that is shown, and what a test tells of the row that is meant
pub clears_tell : (answer b : Bool) (Clears : List ℤ → Type 0) (row its : List ℤ) → row ≡ its → IsTrue answer ↔ Clears row →
    Clears its ↔ (b ≡ true) → answer ≡ b
clears_tell answer b Clears row its e h tell =
    same_answer answer b (λ is. tell.0 (subst Clears e (h.0 is)), λ is. h.1 (subst Clears (sym e) (tell.1 is)))

-- ---- small numbers

known_small : (own : Interval) (c : Known) → IsSmall own → KnownFits own c → IfSome c IsSmall
known_small own None small fits = tt
known_small own (Some i) small (low, order, high) =
    let a = small.low in let b = small.high in
    record { low = omega (arith, ints, a, b, low, order, high); high = omega (arith, ints, a, b, low, order, high) }

cells_small : (ranges : List Interval) (cs : List Known) → AllByRecursion IsSmall ranges → CellsFit ranges cs → AreSmall cs
cells_small [] [] small fits = tt
cells_small [] (c ∷ cs) small fits = absurd fits
cells_small (own ∷ ranges) [] small fits = tt
cells_small (own ∷ ranges) (c ∷ cs) small fits =
    (known_small own c small.0 fits.0, cells_small ranges cs small.1 fits.1)

element_small : (ranges : List Interval) (x : Element) → All IsSmall ranges → ElementFits ranges x → IfSome x AreSmall
element_small ranges None small fits = tt
element_small ranges (Some cs) small fits = cells_small ranges cs (recursion_from_All IsSmall ranges small) fits

-- what a row needs before it is compared
module _ (ranges : List Interval) (thresholds : List (List ℤ)) (row : List ℤ) (is : IsElement (cells_lattice ranges thresholds) row) where
  pub is_said : IsSaid row
  is_said = is.formed.said ∙ ap (λ n. row_from n (element_of row)) (sym is.width)

  pub is_small : All IsSmall ranges → IfSome (element_of row) AreSmall
  is_small small = element_small ranges (element_of row) small is.formed.fits

-- ---- claims

claims_small : (cells last : ℕ) (claims : List Claim) → claims_fit cells last claims ≡ true → AreSmallClaims claims
claims_small cells last [] e = tt
claims_small cells last (c ∷ claims) e =
    let parts = and_parts (claim_fits cells last c) (claims_fit cells c.cell claims) e in
    let ends = (and_parts _ _ (and_parts _ _ parts.0).1).1 in
    let both = and_parts _ _ ends in
    (record { low = ltb-true _ _ both.0; high = ltb-true _ _ both.1 }, claims_small cells c.cell claims parts.1)

place_small : (cells : ℕ) (packs : List (List ℕ)) (place : Place) → place_fits cells packs place ≡ true → HasSmallClaims place
place_small cells packs NotReached e = tt
place_small cells packs (Holds claims bounds) e = claims_small cells 0 claims (and_parts _ _ e).0

pub places_small : (cells : ℕ) (packs : List (List ℕ)) (places : List Place) (k : ℕ) → places_all_fit cells packs places ≡ true →
    HasSmallClaims (slice_index_or places k NotReached)
places_small cells packs [] k e = tt
places_small cells packs (place ∷ places) zero e = place_small cells packs place (and_parts _ _ e).0
places_small cells packs (place ∷ places) (suc k) e = places_small cells packs places k (and_parts _ _ e).1

pub place_is : (places : List text.Element) (k : ℕ) (d : text.Element) → k < length places →
    place_of (get_or places k d) ≡ slice_index_or (map place_of places) k NotReached
place_is [] k d l = absurd (omega (arith, l))
place_is (x ∷ places) zero d l = refl
place_is (x ∷ places) (suc k) d l = place_is places k d (omega (arith, l))

-- the place of a node in a certificate
pub place_there : (c : Cert) (nodes node : ℕ) (x d : text.Element) → x ≡ slice_index_or c.nodes.items (node - 1) d → 1 ≤ node → node ≤ nodes →
    length (view c).nodes ≡ nodes → (node - 1 < length c.nodes.items) × (place_of x ≡ place_at (view c) node)
place_there c nodes node x d e first last count =
    let whole : length c.nodes.items ≡ nodes = sym (length-map c.nodes.items place_of) ∙ count in
    let within : node - 1 < length c.nodes.items = omega (arith, first, last, whole) in
    (within, ap place_of e ∙ place_is c.nodes.items (node - 1) d within)

pub claims_there : (c : Cert) (nodes node : ℕ) (x d : text.Element) → x ≡ slice_index_or c.nodes.items (node - 1) d → 1 ≤ node →
    node ≤ nodes → length (view c).nodes ≡ nodes → IsAllowed (view c) → HasSmallClaims (place_of x)
claims_there c nodes node x d e first last count allowed =
    subst HasSmallClaims (sym (place_there c nodes node x d e first last count).1)
    (places_small (view c).cells (view c).packs (view c).nodes (node - 1) allowed.each_node)
