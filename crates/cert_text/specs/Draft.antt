-- What the lines so far make, and what one more line does.
use Rattle.std.specs.Prelude.{◌≡◌, ℕ, ◌+◌, ◌^◌, Bool, true, false, ◌&&◌, ◌||◌, nat_lt, nat_le, ◌==◌, if◌then◌else◌, List, [], ◌∷◌, ◌++◌, map, length, Option, Some, None, ℤ, pos, negsuc, unsigned_abs}
use Rattle.cert_text.specs.declared.word.Word.{Word}
use Rattle.cert_text.specs.declared.word.Word.TheVariants as words
use Rattle.cert_text.specs.declared.cert.Claim.{Claim}
use Rattle.cert_text.specs.declared.cert.Bound.{Bound}
use Rattle.cert_text.specs.declared.draft.Key.{Key}
use Rattle.cert_text.specs.declared.draft.Stage.{Stage}
use Rattle.cert_text.specs.declared.draft.Stage.TheVariants as stages
use Rattle.cert_text.specs.declared.draft.Draft.{Draft}
use Rattle.cert_text.specs.View.{Place, NotReached, Holds, Certificate, place_of}
use Rattle.cert_text.specs.Allowed.{claim_fits, bound_fits, key_of, no_key}
use Rattle.cert_text.specs.Reading.{◌▷◌, numbers_at, word_at}

-- the parts read so far; while a node is open, its claims and bounds are the last ones
pub record Parts : Type 0 where
  pub stage : Stage
  pub cells : ℕ
  pub node_count : ℕ
  pub pack_count : ℕ
  pub packs : List (List ℕ)
  pub nodes : List Place
  pub open_node : Bool
  pub claims : List Claim
  pub bounds : List Bound
  pub cell : ℕ
  pub key : Key

abbrev pub parts_of : Draft → Parts
parts_of d = record {
  stage = d.stage;
  cells = d.cells;
  node_count = d.node_count;
  pack_count = d.pack_count;
  packs = map (λ p. p.cells.items) d.packs.items;
  nodes = map place_of d.nodes.items;
  open_node = d.open_node;
  claims = d.claims.items;
  bounds = d.bounds.items;
  cell = d.cell;
  key = d.key;
}

abbrev pub nothing_read : Parts
nothing_read = record { stage = stages.Title; cells = 0; node_count = 0; pack_count = 0; packs = []; nodes = []; open_node = false; claims = []; bounds = []; cell = 0; key = no_key }

abbrev pub ordinal : Stage → ℕ
ordinal stages.Title = 0
ordinal stages.Cells = 1
ordinal stages.Nodes = 2
ordinal stages.Packs = 3
ordinal stages.Body = 4
ordinal stages.Ended = 5

abbrev pub is_at : Stage → Stage → Bool
is_at a b = ordinal a == ordinal b

-- the open node among the others
abbrev pub closed : Parts → List Place
closed d = if d.open_node then d.nodes ++ Holds d.claims d.bounds ∷ [] else d.nodes

abbrev pub node_closed : Parts → Parts
node_closed d = record d { nodes = closed d; open_node = false; claims = []; bounds = [] }

-- ---- the numbers of a line

-- the cell that a number tells behind the last one
abbrev pub next_cell : ℕ → ℕ → ℤ → Option ℕ
next_cell cells last (pos c) = if nat_lt last c && nat_le c cells then Some c else None
next_cell cells last (negsuc n) = None

-- the cells of a pack, after the last one
abbrev pub cells_among : ℕ → ℕ → List ℤ → Option (List ℕ)
cells_among cells last [] = Some []
cells_among cells last (pos c ∷ zs) = if nat_lt last c && nat_le c cells then cells_among cells c zs ▷ (λ cs. Some (c ∷ cs)) else None
cells_among cells last (negsuc n ∷ zs) = None

abbrev pub pack_among : ℕ → List ℤ → Option (List ℕ)
pack_among cells zs = if nat_le 2 (length zs) && nat_le (length zs) 8 then cells_among cells 0 zs else None

abbrev pub small_natural : ℤ → Option ℕ
small_natural (pos n) = if nat_lt n (2 ^ 32) then Some n else None
small_natural (negsuc n) = None

-- a single number below 2 ^ 32
abbrev pub one_number : List ℤ → Option ℕ
one_number (z ∷ []) = small_natural z
one_number _ = None

-- a number below 10 ^ 18 in absolute value
abbrev pub small_integer : ℤ → Option ℤ
small_integer z = if nat_lt (unsigned_abs z) (10 ^ 18) then Some z else None

abbrev pub claim_among : List ℤ → Option Claim
claim_among (cell ∷ low ∷ high ∷ []) =
    small_natural cell ▷ (λ c. small_integer low ▷ (λ l. small_integer high ▷ (λ h. Some (record { cell = c; low = l; high = h }))))
claim_among _ = None

abbrev pub bound_among : List ℤ → Option Bound
bound_among (pack ∷ row ∷ column ∷ most ∷ []) =
    small_natural pack ▷ (λ p. small_natural row ▷ (λ r. small_natural column ▷ (λ c. Some (record { pack = p; row = r; column = c; most = most }))))
bound_among _ = None

-- ---- one more line

abbrev pub title_read : Parts → ℕ → Option Parts
title_read d n = if is_at d.stage stages.Title && (n == 1) then Some (record d { stage = stages.Cells }) else None

abbrev pub cells_read : Parts → ℕ → Option Parts
cells_read d n = if is_at d.stage stages.Cells then Some (record d { stage = stages.Nodes; cells = n }) else None

abbrev pub nodes_read : Parts → ℕ → Option Parts
nodes_read d n = if is_at d.stage stages.Nodes then Some (record d { stage = stages.Packs; node_count = n }) else None

-- packs need two cells
abbrev pub packs_read : Parts → ℕ → Option Parts
packs_read d n =
    if is_at d.stage stages.Packs && (nat_le n 32 && ((n == 0) || nat_le 2 d.cells))
    then Some (record d { stage = stages.Body; pack_count = n })
    else None

abbrev pub pack_read : Parts → List ℤ → Option Parts
pack_read d zs =
    if is_at d.stage stages.Body && nat_lt (length d.packs) d.pack_count
    then pack_among d.cells zs ▷ (λ p. Some (record d { packs = d.packs ++ p ∷ [] }))
    else None

-- may node i come now
abbrev pub is_next : Parts → ℕ → Bool
is_next d i =
    (is_at d.stage stages.Body && (length d.packs == d.pack_count))
    && (nat_lt (length (closed d)) d.node_count && (i == length (closed d) + 1))

abbrev pub never_read : Parts → ℕ → Option Parts
never_read d i =
    if is_next d i
    then Some (record (node_closed d) { nodes = closed d ++ NotReached ∷ [] })
    else None

abbrev pub node_read : Parts → ℕ → Option Parts
node_read d i =
    if is_next d i
    then Some (record (node_closed d) { open_node = true; cell = 0; key = no_key })
    else None

abbrev pub claim_read : Parts → Claim → Option Parts
claim_read d c =
    if (is_at d.stage stages.Body && d.open_node) && ((length d.bounds == 0) && claim_fits d.cells d.cell c)
    then Some (record d { claims = d.claims ++ c ∷ []; cell = c.cell })
    else None

abbrev pub bound_read : Parts → Bound → Option Parts
bound_read d b =
    if (is_at d.stage stages.Body && d.open_node) && bound_fits d.packs d.key b
    then Some (record d { bounds = d.bounds ++ b ∷ []; key = key_of b })
    else None

abbrev pub end_read : Parts → List ℤ → Option Parts
end_read d zs =
    if (is_at d.stage stages.Body && (length d.packs == d.pack_count)) && ((length (closed d) == d.node_count) && (length zs == 0))
    then Some (record (node_closed d) { stage = stages.Ended })
    else None

-- The step of a word that one number follows.
abbrev pub one_step : Parts → Word → ℕ → Option Parts
one_step d words.Title n = title_read d n
one_step d words.Cells n = cells_read d n
one_step d words.Nodes n = nodes_read d n
one_step d words.Packs n = packs_read d n
one_step d words.Never n = never_read d n
one_step d words.Node n = node_read d n
one_step d words.Pack n = None
one_step d words.Claim n = None
one_step d words.Bound n = None
one_step d words.End n = None

abbrev pub step : Parts → Word → List ℤ → Option Parts
step d words.Title zs = one_number zs ▷ one_step d words.Title
step d words.Cells zs = one_number zs ▷ one_step d words.Cells
step d words.Nodes zs = one_number zs ▷ one_step d words.Nodes
step d words.Packs zs = one_number zs ▷ one_step d words.Packs
step d words.Never zs = one_number zs ▷ one_step d words.Never
step d words.Node zs = one_number zs ▷ one_step d words.Node
step d words.Pack zs = pack_read d zs
step d words.Claim zs = claim_among zs ▷ claim_read d
step d words.Bound zs = bound_among zs ▷ bound_read d
step d words.End zs = end_read d zs

-- what the parts are with one more line of bytes, where it may stand there
unfoldable pub line_read : Parts → List ℕ → Option Parts
line_read d line = word_at line ▷ (λ w. numbers_at 8 w.1 ▷ (λ zs. step d w.0 zs))

-- what an ended certificate is
abbrev pub certificate_of : Parts → Certificate
certificate_of d = record { cells = d.cells; packs = d.packs; nodes = d.nodes }

-- What a step left: the new parts where it went on.
abbrev pub Stepped : Bool → Parts → Option Parts → Type 0
Stepped true new read = read ≡ Some new
Stepped false new read = read ≡ None
