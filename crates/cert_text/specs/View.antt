-- Certificates as plain data, with lists for vectors.
use Rattle.std.specs.Prelude.{ℕ, List, map}
use Rattle.cert_text.specs.declared.cert.Claim.{Claim}
use Rattle.cert_text.specs.declared.cert.Bound.{Bound}
use Rattle.cert_text.specs.declared.cert.Element.{Element}
use Rattle.cert_text.specs.declared.cert.Element.TheVariants as elements
use Rattle.cert_text.specs.declared.cert.Cert.{Cert}

-- what is claimed of a node: that it is not reached, or ranges and bounds
pub data Place : Type 0 where
  NotReached : Place
  Holds : List Claim → List Bound → Place

pub record Certificate : Type 0 where
  pub cells : ℕ
  pub packs : List (List ℕ)
  pub nodes : List Place

abbrev pub place_of : Element → Place
place_of elements.Unreached = NotReached
place_of (elements.At cells bounds) = Holds cells.items bounds.items

abbrev pub view : Cert → Certificate
view c = record { cells = c.cells; packs = map (λ p. p.cells.items) c.packs.items; nodes = map place_of c.nodes.items }
