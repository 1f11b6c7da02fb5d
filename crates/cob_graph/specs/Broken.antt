-- The least line at which something is broken, and the tests of the rules on calls and jumps at their places.
use Rattle.std.specs.Prelude.{◌≡◌, ◌≤◌, ℕ, zero, suc, max, min, Bool, ◌&&◌, not, nat_le, nat_lt, List, length, slice_index_or, Option, Some, None, Result, Ok, Err}
use Rattle.rule_order.specs.Order.{lesser, noted}
use Rattle.cob_data.specs.declared.end.Rule.{Rule}
use Rattle.cob_data.specs.declared.end.Rule.TheVariants.{N1, N2, N3, N4}
use Rattle.cob_graph.specs.declared.end.FlowEnd.{FlowEnd}
use Rattle.cob_graph.specs.declared.end.FlowEnd.TheVariants.{Outside}
use Rattle.cob_graph.specs.Nesting.{Span, Call, Jump, Found, IsBrokenBy, before}
use Rattle.cob_graph.specs.Reaching.{is_in, call_at, through}
use Rattle.std.specs.List.{Contains}

-- the least of the lines that are broken, or none where none is
pub record IsLeast (Broken : ℕ → Type 0) (line : Option ℕ) : Type 0 where
  pub none : line ≡ None → (other : ℕ) → Broken other → ⊥
  pub broken : (l : ℕ) → line ≡ Some l → Broken l
  pub first : (l : ℕ) → line ≡ Some l → (other : ℕ) → Broken other → l ≤ other

-- the least of what stands at the places below n
abbrev pub least_below : (ℕ → Option ℕ) → ℕ → Option ℕ
least_below at zero = None
least_below at (suc n) = lesser (least_below at n) (at n)

abbrev pub line_where : Bool → ℕ → Option ℕ
line_where broken line = noted None broken line

abbrev pub blank_jump : Jump
blank_jump = record { line = 0; para = 0; to = 0 }

abbrev pub jump_at : List Jump → ℕ → Jump
jump_at js i = slice_index_or js i blank_jump

-- ---- tests

-- they share a paragraph, and the first isn't within the second with another exit
abbrev pub is_crossing : Span → Span → Bool
is_crossing s t =
    nat_le (max s.first t.first) (min s.last t.last) && not (nat_le t.first s.first && nat_lt s.last t.last)

abbrev pub is_leaving : Jump → Span → Bool
is_leaving j s = is_in j.para s && not (is_in j.to s)

module _ (cs : List Call) where
  -- whether the call at a place reaches itself
  abbrev pub cycle_at : ℕ → Option ℕ
  cycle_at i = line_where (through cs (length cs) i i) (call_at cs i).line

  -- whether a range reaches the call at a place, and crosses its range
  abbrev pub crossing_at : ℕ → ℕ → Option ℕ
  crossing_at outer i =
      line_where (through cs (length cs) outer i && is_crossing (call_at cs i).span (call_at cs outer).span) (call_at cs i).line

  abbrev pub crossings : ℕ → Option ℕ
  crossings outer = least_below (crossing_at outer) (length cs)

  abbrev pub leaving_at : List Jump → ℕ → ℕ → Option ℕ
  leaving_at js outer i = line_where (is_leaving (jump_at js i) (call_at cs outer).span) (jump_at js i).line

  abbrev pub leavings : List Jump → ℕ → Option ℕ
  leavings js outer = least_below (leaving_at js outer) (length js)

  abbrev pub reversed_at : ℕ → Option ℕ
  reversed_at i = line_where (nat_lt (call_at cs i).span.last (call_at cs i).span.first) (call_at cs i).line

-- ---- the first broken rule

pub record IsFirstOf (f : Found) (rule : Rule) (line : ℕ) : Type 0 where
  pub broken : IsBrokenBy f rule line
  pub first_line : (other : ℕ) → IsBrokenBy f rule other → line ≤ other
  pub first_rule : (other : Rule) (l : ℕ) → Contains (before rule) other → IsBrokenBy f other l → ⊥

-- the first broken rule with its first line, where there is any
pub record IsFirst (f : Found) (told : Option (Rule × ℕ)) : Type 0 where
  pub kept : told ≡ None → (rule : Rule) (line : ℕ) → IsBrokenBy f rule line → ⊥
  pub outside : (rule : Rule) (line : ℕ) → told ≡ Some (rule, line) → IsFirstOf f rule line
  pub exact : (rule : Rule) (line : ℕ) → IsFirstOf f rule line → told ≡ Some (rule, line)

abbrev pub told : Option ℕ → Option ℕ → Option ℕ → Option ℕ → Option (Rule × ℕ)
told (Some line) crossing leaving reversed = Some (N1, line)
told None (Some line) leaving reversed = Some (N2, line)
told None None (Some line) reversed = Some (N3, line)
told None None None (Some line) = Some (N4, line)
told None None None None = None

-- the answer, where memory doesn't run out
abbrev pub answer_of : Option (Rule × ℕ) → Result (Unit {0}) FlowEnd
answer_of None = Ok tt
answer_of (Some (rule, line)) = Err (Outside rule line)
