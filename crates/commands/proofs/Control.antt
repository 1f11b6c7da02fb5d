-- A program has at most one cause for which it has no graph within the limits.
use Rattle.std.proofs.Common.{◌≡◌, ℕ, ◌≤◌, min, refl, sym, ap, ◌∙◌, subst, arith}
use Rattle.cob_data.specs.declared.end.Rule.{Rule}
use Rattle.cob_data.specs.declared.end.Rule.TheVariants as rule
use Rattle.cob_data.specs.declared.end.Which.{Which}
use Rattle.cob_data.specs.declared.end.Which.TheVariants as which
use Rattle.cob_program.specs.Act.{Program}
use Rattle.cob_graph.specs.Nesting.{IsBroken, IsOutside}
use Rattle.cob_graph.specs.Graphs.{IsOver}
use Rattle.cob_graph.specs.Limits.{most_told}
use Rattle.cob_graph.proofs.OneCopy.{one_count}
use Rattle.cob_front.specs.declared.refusal.Refusal.{Refusal}
use Rattle.cob_front.specs.declared.refusal.Refusal.TheVariants as end
use Rattle.cob_front.specs.Control.{IsControlCause}

-- ---- the first broken rule

-- the rules on PERFORM and GO TO, in their order
pub data Turn : Type 0 where
  first : Turn
  second : Turn
  third : Turn
  fourth : Turn

abbrev pub rule_of : Turn → Rule
rule_of first = rule.N1
rule_of second = rule.N2
rule_of third = rule.N3
rule_of fourth = rule.N4

pub turn_of : (p : Program) (r : Rule) (line : ℕ) → IsBroken p r line → (t : Turn) × (r ≡ rule_of t)
turn_of p rule.N1 line h = (first, refl)
turn_of p rule.N2 line h = (second, refl)
turn_of p rule.N3 line h = (third, refl)
turn_of p rule.N4 line h = (fourth, refl)
turn_of p rule.L1 line h = absurd h
turn_of p rule.L2 line h = absurd h
turn_of p rule.L3 line h = absurd h
turn_of p rule.L4 line h = absurd h
turn_of p rule.L5 line h = absurd h
turn_of p rule.L6 line h = absurd h
turn_of p rule.L7 line h = absurd h
turn_of p rule.L8 line h = absurd h
turn_of p rule.L9 line h = absurd h
turn_of p rule.L10 line h = absurd h
turn_of p rule.L11 line h = absurd h
turn_of p rule.L12 line h = absurd h
turn_of p rule.Q1 line h = absurd h
turn_of p rule.Q2 line h = absurd h
turn_of p rule.Q3 line h = absurd h
turn_of p rule.Q4 line h = absurd h
turn_of p rule.Q5 line h = absurd h
turn_of p rule.Q6 line h = absurd h
turn_of p rule.Q7 line h = absurd h
turn_of p rule.Q8 line h = absurd h
turn_of p rule.Q9 line h = absurd h
turn_of p rule.Q10 line h = absurd h
turn_of p rule.Q11 line h = absurd h
turn_of p rule.N5 line h = absurd h

-- two first lines of one rule
one_line : (p : Program) (r : Rule) (m n : ℕ) → IsOutside p r m → IsOutside p r n → m ≡ n
one_line p r m n h k =
    let low : m ≤ n = h.first_line n k.broken in
    let high : n ≤ m = k.first_line m h.broken in
    omega arith

-- no rule is broken that stands before the first
not_before : (p : Program) (t u : Turn) (m n : ℕ) → IsOutside p (rule_of t) m → IsOutside p (rule_of u) n → t ≡ u
not_before p first first m n h k = refl
not_before p second second m n h k = refl
not_before p third third m n h k = refl
not_before p fourth fourth m n h k = refl
not_before p first second m n h k = absurd (k.first_rule rule.N1 m (0, omega arith, refl) h.broken)
not_before p first third m n h k = absurd (k.first_rule rule.N1 m (0, omega arith, refl) h.broken)
not_before p first fourth m n h k = absurd (k.first_rule rule.N1 m (0, omega arith, refl) h.broken)
not_before p second first m n h k = absurd (h.first_rule rule.N1 n (0, omega arith, refl) k.broken)
not_before p second third m n h k = absurd (k.first_rule rule.N2 m (1, omega arith, refl) h.broken)
not_before p second fourth m n h k = absurd (k.first_rule rule.N2 m (1, omega arith, refl) h.broken)
not_before p third first m n h k = absurd (h.first_rule rule.N1 n (0, omega arith, refl) k.broken)
not_before p third second m n h k = absurd (h.first_rule rule.N2 n (1, omega arith, refl) k.broken)
not_before p third fourth m n h k = absurd (k.first_rule rule.N3 m (2, omega arith, refl) h.broken)
not_before p fourth first m n h k = absurd (h.first_rule rule.N1 n (0, omega arith, refl) k.broken)
not_before p fourth second m n h k = absurd (h.first_rule rule.N2 n (1, omega arith, refl) k.broken)
not_before p fourth third m n h k = absurd (h.first_rule rule.N3 n (2, omega arith, refl) k.broken)

one_outside : (p : Program) (r s : Rule) (m n : ℕ) → IsOutside p r m → IsOutside p s n
    → end.Outside r m ≡ end.Outside s n
one_outside p r s m n h k =
    let t = turn_of p r m h.broken in
    let u = turn_of p s n k.broken in
    let here = subst (λ (x : Rule). IsOutside p x m) t.1 h in
    let there = subst (λ (x : Rule). IsOutside p x n) u.1 k in
    let same : r ≡ s = t.1 ∙ ap rule_of (not_before p t.0 u.0 m n here there) ∙ sym u.1 in
    let line : m ≡ n = one_line p s m n (subst (λ (x : Rule). IsOutside p x m) same h) k in
    ap (λ (x : Rule). end.Outside x m) same ∙ ap (λ (x : ℕ). end.Outside s x) line

-- ---- the limits

one_over : (p : Program) (v w : Which) (m n : ℕ) → IsOver p v m → IsOver p w n → end.Limit v m ≡ end.Limit w n
one_over p which.Cells which.Cells m n h k = ap (end.Limit which.Cells) (h.counted ∙ sym k.counted)
one_over p which.Nodes which.Nodes m n h k =
    let same = one_count p h.nodes k.nodes h.counted k.counted in
    ap (end.Limit which.Nodes) (h.told ∙ ap (λ (x : ℕ). min x most_told) same ∙ sym k.told)
one_over p which.Cells which.Nodes m n h k = absurd (omega (arith, h.counted, h.over, k.cells))
one_over p which.Nodes which.Cells m n h k = absurd (omega (arith, k.counted, k.over, h.cells))
one_over p which.Nesting w m n h k = absurd h
one_over p which.Items w m n h k = absurd h
one_over p which.Storage w m n h k = absurd h
one_over p which.Files w m n h k = absurd h
one_over p which.Cells which.Nesting m n h k = absurd k
one_over p which.Cells which.Items m n h k = absurd k
one_over p which.Cells which.Storage m n h k = absurd k
one_over p which.Cells which.Files m n h k = absurd k
one_over p which.Nodes which.Nesting m n h k = absurd k
one_over p which.Nodes which.Items m n h k = absurd k
one_over p which.Nodes which.Storage m n h k = absurd k
one_over p which.Nodes which.Files m n h k = absurd k

pub one_control_cause : (p : Program) (d e : Refusal) → IsControlCause p d → IsControlCause p e → d ≡ e
one_control_cause p (end.Outside r m) (end.Outside s n) h k = one_outside p r s m n h k
one_control_cause p (end.Limit v m) (end.Limit w n) h k = one_over p v w m n h.1 k.1
one_control_cause p (end.Outside r m) (end.Limit w n) h k = absurd (k.0.kept r m h.broken)
one_control_cause p (end.Limit v m) (end.Outside s n) h k = absurd (h.0.kept s n k.broken)
one_control_cause p end.TooLong e h k = absurd h
one_control_cause p (end.BadLine a b) e h k = absurd h
one_control_cause p (end.BadToken a b) e h k = absurd h
one_control_cause p (end.Syntax a) e h k = absurd h
one_control_cause p (end.Nesting a) e h k = absurd h
one_control_cause p end.Memory e h k = absurd h
one_control_cause p (end.Outside r m) end.TooLong h k = absurd k
one_control_cause p (end.Outside r m) (end.BadLine a b) h k = absurd k
one_control_cause p (end.Outside r m) (end.BadToken a b) h k = absurd k
one_control_cause p (end.Outside r m) (end.Syntax a) h k = absurd k
one_control_cause p (end.Outside r m) (end.Nesting a) h k = absurd k
one_control_cause p (end.Outside r m) end.Memory h k = absurd k
one_control_cause p (end.Limit v m) end.TooLong h k = absurd k
one_control_cause p (end.Limit v m) (end.BadLine a b) h k = absurd k
one_control_cause p (end.Limit v m) (end.BadToken a b) h k = absurd k
one_control_cause p (end.Limit v m) (end.Syntax a) h k = absurd k
one_control_cause p (end.Limit v m) (end.Nesting a) h k = absurd k
one_control_cause p (end.Limit v m) end.Memory h k = absurd k
