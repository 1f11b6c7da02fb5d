-- How PERFORMs of ranges may nest, and where GO TO may go (ISO 1989:1985, "The PERFORM statement").
use Rattle.std.specs.Prelude.{◌≡◌, ◌≢◌, ◌≤◌, ◌<◌, ◌⊎◌, ◌+◌, ℕ, List, [], ◌∷◌, ◌++◌, Contains}
use Rattle.cob_data.specs.declared.end.Rule.{Rule}
use Rattle.cob_data.specs.declared.end.Rule.TheVariants.{N1, N2, N3, N4}
use Rattle.cob_program.specs.Act.{Stmt, MkStmt, Act, perform, go, Body, range, inline, Para, Program}
use Rattle.cob_program.specs.Statements.{para_statements}

-- paragraphs from one to another
pub record Span : Type 0 where
  pub first : ℕ
  pub last : ℕ

-- a PERFORM of a range: its line, its paragraph, its range
pub record Call : Type 0 where
  pub line : ℕ
  pub para : ℕ
  pub span : Span

-- a GO TO: its line, its paragraph, and where it goes
pub record Jump : Type 0 where
  pub line : ℕ
  pub para : ℕ
  pub to : ℕ

pub record Found : Type 0 where
  pub calls : List Call
  pub jumps : List Jump

abbrev pub nothing_found : Found
nothing_found = record { calls = []; jumps = [] }

abbrev pub a_call : ℕ → ℕ → ℕ → ℕ → Found
a_call line para first last = record { calls = record { line = line; para = para; span = record { first = first; last = last } } ∷ []; jumps = [] }

abbrev pub a_jump : ℕ → ℕ → ℕ → Found
a_jump line para to = record { calls = []; jumps = record { line = line; para = para; to = to } ∷ [] }

infixr 5 ◌&◌
abbrev pub ◌&◌ : Found → Found → Found
a & b = record { calls = a.calls ++ b.calls; jumps = a.jumps ++ b.jumps }

-- A statement's own calls and jumps, without those of the statements of its lists.
abbrev pub found_body : ℕ → ℕ → Body → Found
found_body para line (range first last) = a_call line para first last
found_body para line (inline ss) = nothing_found

abbrev pub found_act : ℕ → ℕ → Act → Found
found_act para line (perform body turns) = found_body para line body
found_act para line (go to) = a_jump line para to
found_act para line _ = nothing_found

abbrev pub found_at : ℕ → Stmt → Found
found_at para (MkStmt number line a) = found_act para line a

abbrev pub found : ℕ → List Stmt → Found
found para [] = nothing_found
found para (s ∷ ss) = found_at para s & found para ss

abbrev pub found_among : ℕ → List Para → Found
found_among para [] = nothing_found
found_among para (x ∷ xs) = found para (para_statements x) & found_among (para + 1) xs

abbrev pub found_all : Program → Found
found_all p = found_among 0 p.paras

-- ---- what the rules speak of

pub record IsIn (para : ℕ) (s : Span) : Type 0 where
  pub from : s.first ≤ para
  pub to : para ≤ s.last

-- a PERFORM in the range performs the other, or a range that performs it, and so on
pub data Reaches (cs : List Call) : Span → Span → Type 0 where
  directly : {s : Span} (c : Call) → Contains cs c → IsIn c.para s → Reaches cs s c.span
  onward : {s t u : Span} → Reaches cs s t → Reaches cs t u → Reaches cs s u

-- some PERFORM performs the range
pub record IsPerformed (cs : List Call) (s : Span) : Type 0 where
  pub call : Call
  pub stands : Contains cs call
  pub it : call.span ≡ s

abbrev pub ShareNone : Span → Span → Type 0
ShareNone s t = (n : ℕ) → IsIn n s → IsIn n t → ⊥

-- within the other, and with another exit
pub record IsWithin (s t : Span) : Type 0 where
  pub all : (n : ℕ) → IsIn n s → IsIn n t
  pub exit : s.last ≢ t.last

-- ---- the rules, each with the line of what breaks it

module _ (cs : List Call) where
  -- no range performs itself, through others or directly
  pub record BreaksCycles (line : ℕ) : Type 0 where
    pub call : Call
    pub stands : Contains cs call
    pub outer : Span
    pub performed : IsPerformed cs outer
    pub inside : IsIn call.para outer
    pub back : Reaches cs call.span outer
    pub here : line ≡ call.line

  -- a performed range shares nothing with each performed range that reaches it, or lies within it with another exit
  pub record BreaksNests (line : ℕ) : Type 0 where
    pub call : Call
    pub stands : Contains cs call
    pub outer : Span
    pub performed : IsPerformed cs outer
    pub reached : IsIn call.para outer ⊎ ((between : Span) × Reaches cs outer between × IsIn call.para between)
    pub not_apart : ShareNone call.span outer → ⊥
    pub not_within : IsWithin call.span outer → ⊥
    pub here : line ≡ call.line

  -- a GO TO in a performed range goes to a paragraph of it
  pub record BreaksJumps (js : List Jump) (line : ℕ) : Type 0 where
    pub jump : Jump
    pub stands : Contains js jump
    pub outer : Span
    pub performed : IsPerformed cs outer
    pub inside : IsIn jump.para outer
    pub outside : IsIn jump.to outer → ⊥
    pub here : line ≡ jump.line

  -- a range's last paragraph isn't before its first
  pub record BreaksOrder (line : ℕ) : Type 0 where
    pub call : Call
    pub stands : Contains cs call
    pub reversed : call.span.last < call.span.first
    pub here : line ≡ call.line

abbrev pub IsBrokenBy : Found → Rule → ℕ → Type 0
IsBrokenBy f N1 line = BreaksCycles f.calls line
IsBrokenBy f N2 line = BreaksNests f.calls line
IsBrokenBy f N3 line = BreaksJumps f.calls f.jumps line
IsBrokenBy f N4 line = BreaksOrder f.calls line
IsBrokenBy f _ line = ⊥

abbrev pub IsBroken : Program → Rule → ℕ → Type 0
IsBroken p rule line = IsBrokenBy (found_all p) rule line

pub record IsNested (p : Program) : Type 0 where
  pub kept : (rule : Rule) (line : ℕ) → IsBroken p rule line → ⊥

-- the rules before another one
abbrev pub before : Rule → List Rule
before N2 = N1 ∷ []
before N3 = N1 ∷ N2 ∷ []
before N4 = N1 ∷ N2 ∷ N3 ∷ []
before _ = []

-- the first broken rule, and its first line
pub record IsOutside (p : Program) (rule : Rule) (line : ℕ) : Type 0 where
  pub broken : IsBroken p rule line
  pub first_line : (other : ℕ) → IsBroken p rule other → line ≤ other
  pub first_rule : (other : Rule) (l : ℕ) → Contains (before rule) other → IsBroken p other l → ⊥
