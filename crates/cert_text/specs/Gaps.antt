-- The places at which what is reached doesn't lie in what is claimed. Claimed ends are compared as they are written.
use Rattle.std.specs.Prelude.{◌≡◌, ◌↔◌, ◌<◌, ◌^◌, ℕ, suc, List, [], ◌∷◌, ◌++◌, IfSome, length, Some, None, int_lt, unsigned_abs, if◌then◌else◌}
use Rattle.interval_domain.specs.declared.bounds.Interval.{Interval}
use Rattle.interval_domain.specs.Known.{Known}
use Rattle.interval_domain.specs.Elements.{Element, ElementFits, ElementBelow}
use Rattle.interval_domain.specs.Corners.{interval}
use Rattle.cert_text.specs.declared.cert.Claim.{Claim}
use Rattle.cert_text.specs.View.{Place, NotReached, Holds}
use Rattle.cert_text.specs.declared.gap.Gap.{Gap}
use Rattle.cert_text.specs.declared.gap.Gap.TheVariants.{Reach, Class, Low, High}
use Rattle.cert_text.specs.Claims.{written_element, claimed_element}

-- a low end comes before the high end
abbrev pub end_gaps : ℕ → Interval → Interval → List Gap
end_gaps cell reached claimed =
    (if int_lt reached.low claimed.low then Low cell reached.low claimed.low ∷ [] else [])
    ++ (if int_lt claimed.high reached.high then High cell reached.high claimed.high ∷ [] else [])

abbrev pub cell_gaps : ℕ → Known → Known → List Gap
cell_gaps cell reached None = []
cell_gaps cell None (Some claimed) = Class cell ∷ []
cell_gaps cell (Some reached) (Some claimed) = end_gaps cell reached claimed

-- the gaps of each cell in turn, from this one on
abbrev pub gaps_from : ℕ → List Known → List Known → List Gap
gaps_from cell (r ∷ reached) (c ∷ claimed) = cell_gaps cell r c ++ gaps_from (suc cell) reached claimed
gaps_from cell _ _ = []

-- what isn't reached has no gap
abbrev pub element_gaps : Element → Element → List Gap
element_gaps None claimed = []
element_gaps (Some reached) None = Reach ∷ []
element_gaps (Some reached) (Some claimed) = gaps_from 1 reached claimed

-- all gaps of what is reached in the claims of a node
abbrev pub gaps : ℕ → Element → Place → List Gap
gaps cells reached place = element_gaps reached (written_element cells place)

-- ---- the law

-- There are no gaps exactly where what is reached lies below what the claims mean.
abbrev pub GapsTellTheOrder : Type 0
GapsTellTheOrder =
    (owns : List Interval) (reached : Element) (place : Place) → ElementFits owns reached
    → (gaps (length owns) reached place ≡ []) ↔ ElementBelow reached (claimed_element owns place)

-- ---- what the call needs

-- ends have at most 18 digits
pub record IsSmall (i : Interval) : Type 0 where
  pub low : unsigned_abs i.low < 10 ^ 18
  pub high : unsigned_abs i.high < 10 ^ 18

abbrev pub AreSmall : List Known → Type 0
AreSmall [] = Unit {0}
AreSmall (c ∷ cs) = IfSome c IsSmall × AreSmall cs

abbrev pub AreSmallClaims : List Claim → Type 0
AreSmallClaims [] = Unit {0}
AreSmallClaims (c ∷ claims) = IsSmall (interval c.low c.high) × AreSmallClaims claims

abbrev pub HasSmallClaims : Place → Type 0
HasSmallClaims NotReached = Unit {0}
HasSmallClaims (Holds claims bounds) = AreSmallClaims claims
