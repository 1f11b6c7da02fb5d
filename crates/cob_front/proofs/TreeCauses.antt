-- A tree has a program, or one cause for which it has none.
use Rattle.std.proofs.Common.{◌≡◌, ◌⊎◌, ⊎_elim, ℕ, List, Option, Some, None, refl, sym, ap, ◌∙◌, subst, inl, inr, arith}
use Rattle.std.proofs.lemmas.Bool.{cases_lt}
use Rattle.std.proofs.lemmas.Option.{same_Some}
use Rattle.rule_order.specs.Order.{AreKept, IsFirstBroken, first_broken}
use Rattle.rule_order.proofs.OrderLemmas.{first_is, kept_is, is_kept, is_first}
use Rattle.cob_tree.specs.declared.tree.Tree as declared_tree
use Rattle.cob_tree.specs.Stmt.{Tree}
use Rattle.cob_tree.specs.StmtView.{plain_tree}
use Rattle.cob_data.specs.declared.end.Rule.{Rule}
use Rattle.cob_data.specs.declared.end.Which.{Which}
use Rattle.cob_data.specs.declared.end.Which.TheVariants as which
use Rattle.cob_data.specs.Rules.{data_rules, broken_lines, facts_of, count_of, limit_of, IsWithin, IsExceeded, IsFirstExceeded, IsWithinLimits}
use Rattle.cob_data.specs.Layouts.{HasLayout, layout}
use Rattle.cob_data.specs.declared.layout.Layout.{Layout}
use Rattle.cob_program.specs.declared.program.Program as declared_program
use Rattle.cob_program.specs.ActView.{plain_program}
use Rattle.cob_typed.specs.Typing.{IsTyped, IsOutside, typed, lines_of, typing_rules}
use Rattle.cob_front.specs.declared.refusal.Refusal.{Refusal}
use Rattle.cob_front.specs.declared.refusal.Refusal.TheVariants as end
use Rattle.cob_front.specs.Source.{IsTypedTree, IsTreeCause, IsProgramOf, data_of}

-- ---- the first broken rule

broken_once : {R : Type 0} (lines : R → List ℕ) (table : List R) (r s : R) (m n : ℕ) → IsFirstBroken lines table r m → IsFirstBroken lines table s n → ◌≡◌ {A = R × ℕ} (r, m) (s, n)
broken_once lines table r s m n h k = same_Some (r, m) (s, n) (sym (is_first lines table r m h) ∙ is_first lines table s n k)

kept_or_broken : {R : Type 0} (lines : R → List ℕ) (table : List R) (r : R) (n : ℕ) → AreKept lines table → IsFirstBroken lines table r n → ⊥
kept_or_broken lines table r n kept broken = let none_is = sym (is_kept lines table kept) ∙ is_first lines table r n broken in cc

outside_once : (r s : Rule) (m n : ℕ) → ◌≡◌ {A = Rule × ℕ} (r, m) (s, n) → end.Outside r m ≡ end.Outside s n
outside_once r s m n e = ap (λ (x : Rule × ℕ). end.Outside x.0 x.1) e

-- ---- the first limit that is exceeded

within_or_exceeded : (t : declared_tree.Tree) (w : Which) → IsWithinLimits t → IsFirstExceeded t w → ⊥
within_or_exceeded t which.Items h k = omega (arith, h.items, k)
within_or_exceeded t which.Storage h k = omega (arith, h.storage, k.1)
within_or_exceeded t which.Files h k = omega (arith, h.files, k.2)
within_or_exceeded t which.Nesting h k = k
within_or_exceeded t which.Cells h k = k
within_or_exceeded t which.Nodes h k = k

exceeded_once : (t : declared_tree.Tree) (v w : Which) → IsFirstExceeded t v → IsFirstExceeded t w → v ≡ w
exceeded_once t which.Items which.Items h k = refl
exceeded_once t which.Items which.Storage h k = absurd (omega (arith, h, k.0))
exceeded_once t which.Items which.Files h k = absurd (omega (arith, h, k.0))
exceeded_once t which.Storage which.Items h k = absurd (omega (arith, h.0, k))
exceeded_once t which.Storage which.Storage h k = refl
exceeded_once t which.Storage which.Files h k = absurd (omega (arith, h.1, k.1))
exceeded_once t which.Files which.Items h k = absurd (omega (arith, h.0, k))
exceeded_once t which.Files which.Storage h k = absurd (omega (arith, h.1, k.1))
exceeded_once t which.Files which.Files h k = refl
exceeded_once t which.Nesting w h k = absurd h
exceeded_once t which.Cells w h k = absurd h
exceeded_once t which.Nodes w h k = absurd h
exceeded_once t which.Items which.Nesting h k = absurd k
exceeded_once t which.Items which.Cells h k = absurd k
exceeded_once t which.Items which.Nodes h k = absurd k
exceeded_once t which.Storage which.Nesting h k = absurd k
exceeded_once t which.Storage which.Cells h k = absurd k
exceeded_once t which.Storage which.Nodes h k = absurd k
exceeded_once t which.Files which.Nesting h k = absurd k
exceeded_once t which.Files which.Cells h k = absurd k
exceeded_once t which.Files which.Nodes h k = absurd k

-- ---- causes

pub typed_or_cause : (t : Tree) (e : Refusal) → IsTypedTree t → IsTreeCause t e → ⊥
typed_or_cause t (end.Outside rule line) h (inl k) = kept_or_broken (broken_lines (data_of t)) data_rules rule line h.has_layout.kept k
typed_or_cause t (end.Outside rule line) h (inr k) = kept_or_broken (lines_of (layout (data_of t)) t) typing_rules rule line h.rules k.1
typed_or_cause t (end.Limit w count) h k = within_or_exceeded (data_of t) w h.has_layout.within k.1
typed_or_cause t end.TooLong h k = k
typed_or_cause t (end.BadLine line column) h k = k
typed_or_cause t (end.BadToken line column) h k = k
typed_or_cause t (end.Syntax line) h k = k
typed_or_cause t (end.Nesting count) h k = k
typed_or_cause t end.Memory h k = k

outside_limit : (t : Tree) (rule : Rule) (line : ℕ) (w : Which) (count : ℕ) → IsTreeCause t (end.Outside rule line) → IsTreeCause t (end.Limit w count) → ⊥
outside_limit t rule line w count (inl h) k = kept_or_broken (broken_lines (data_of t)) data_rules rule line k.0 h
outside_limit t rule line w count (inr h) k = within_or_exceeded (data_of t) w h.0.within k.1

outside_cause_once : (t : Tree) (r s : Rule) (m n : ℕ) → IsTreeCause t (end.Outside r m) → IsTreeCause t (end.Outside s n) → end.Outside r m ≡ end.Outside s n
outside_cause_once t r s m n (inl h) (inl k) = outside_once r s m n (broken_once (broken_lines (data_of t)) data_rules r s m n h k)
outside_cause_once t r s m n (inl h) (inr k) = absurd (kept_or_broken (broken_lines (data_of t)) data_rules r m k.0.kept h)
outside_cause_once t r s m n (inr h) (inl k) = absurd (kept_or_broken (broken_lines (data_of t)) data_rules s n h.0.kept k)
outside_cause_once t r s m n (inr h) (inr k) =
    outside_once r s m n (broken_once (lines_of (layout (data_of t)) t) typing_rules r s m n h.1 k.1)

limit_cause_once : (t : Tree) (v w : Which) (m n : ℕ) → IsTreeCause t (end.Limit v m) → IsTreeCause t (end.Limit w n) → end.Limit v m ≡ end.Limit w n
limit_cause_once t v w m n h k =
    let one = exceeded_once (data_of t) v w h.1 k.1 in
    ap (end.Limit v) (h.2) ∙ ap (λ x. end.Limit x (count_of (facts_of (data_of t)) x)) one ∙ ap (end.Limit w) (sym k.2)

abbrev IsTreeEnd : Refusal → Type 0
IsTreeEnd (end.Outside rule line) = Unit {0}
IsTreeEnd (end.Limit which count) = Unit {0}
IsTreeEnd _ = ⊥

pub is_tree_end : (t : Tree) (e : Refusal) → IsTreeCause t e → IsTreeEnd e
is_tree_end t (end.Outside rule line) h = tt
is_tree_end t (end.Limit which count) h = tt
is_tree_end t end.TooLong h = h
is_tree_end t (end.BadLine line column) h = h
is_tree_end t (end.BadToken line column) h = h
is_tree_end t (end.Syntax line) h = h
is_tree_end t (end.Nesting count) h = h
is_tree_end t end.Memory h = h

cause_once_at : (t : Tree) (d e : Refusal) → IsTreeEnd d → IsTreeEnd e → IsTreeCause t d → IsTreeCause t e → d ≡ e
cause_once_at t (end.Outside r m) (end.Outside s n) x y h k = outside_cause_once t r s m n h k
cause_once_at t (end.Outside r m) (end.Limit w n) x y h k = absurd (outside_limit t r m w n h k)
cause_once_at t (end.Limit v m) (end.Outside s n) x y h k = absurd (outside_limit t s n v m k h)
cause_once_at t (end.Limit v m) (end.Limit w n) x y h k = limit_cause_once t v w m n h k
cause_once_at t d end.TooLong x y h k = absurd y
cause_once_at t d (end.BadLine line column) x y h k = absurd y
cause_once_at t d (end.BadToken line column) x y h k = absurd y
cause_once_at t d (end.Syntax line) x y h k = absurd y
cause_once_at t d (end.Nesting count) x y h k = absurd y
cause_once_at t d end.Memory x y h k = absurd y
cause_once_at t end.TooLong e x y h k = absurd x
cause_once_at t (end.BadLine line column) e x y h k = absurd x
cause_once_at t (end.BadToken line column) e x y h k = absurd x
cause_once_at t (end.Syntax line) e x y h k = absurd x
cause_once_at t (end.Nesting count) e x y h k = absurd x
cause_once_at t end.Memory e x y h k = absurd x

pub cause_once : (t : Tree) (d e : Refusal) → IsTreeCause t d → IsTreeCause t e → d ≡ e
cause_once t d e h k = cause_once_at t d e (is_tree_end t d h) (is_tree_end t e k) h k

-- ---- what is said of a tree of the code is said of its data

pub data_has_layout : (t : declared_tree.Tree) → HasLayout t → HasLayout (data_of (plain_tree t))
data_has_layout t h = record { kept = h.kept; within = record { items = h.within.items; storage = h.within.storage; files = h.within.files } }

pub rule_of_tree : (t : declared_tree.Tree) (l : Layout) (r : Rule) (line : ℕ) → HasLayout t → l ≡ layout t → IsOutside l (plain_tree t) r line → IsTreeCause (plain_tree t) (end.Outside r line)
rule_of_tree t l r line h is broken = inr (data_has_layout t h, subst (λ (l : Layout). IsOutside l (plain_tree t) r line) is broken)

pub program_of_tree : (t : declared_tree.Tree) (l : Layout) (p : declared_program.Program) → HasLayout t → l ≡ layout t → IsTyped l (plain_tree t) × (plain_program p ≡ typed l (plain_tree t)) → IsProgramOf (plain_tree t) p
program_of_tree t l p h is answer =
    let there = subst (λ (l : Layout). IsTyped l (plain_tree t) × (plain_program p ≡ typed l (plain_tree t))) is answer in
    (record { has_layout = data_has_layout t h; rules = there.0 }, there.1)

-- ---- a tree has a program, or a cause

within_or : (t : declared_tree.Tree) (w : Which) → IsWithin t w ⊎ IsExceeded t w
within_or t w = ⊎_elim (λ h. inr h) (λ h. inl h) (cases_lt (limit_of w) (count_of (facts_of t) w))

limits_end : (t : declared_tree.Tree) → IsWithin t which.Items ⊎ IsExceeded t which.Items → IsWithin t which.Storage ⊎ IsExceeded t which.Storage →
    IsWithin t which.Files ⊎ IsExceeded t which.Files → IsWithinLimits t ⊎ ((w : Which) × IsFirstExceeded t w)
limits_end t (inr items) storage files = inr (which.Items, items)
limits_end t (inl items) (inr storage) files = inr (which.Storage, (items, storage))
limits_end t (inl items) (inl storage) (inr files) = inr (which.Files, (items, storage, files))
limits_end t (inl items) (inl storage) (inl files) = inl record { items = items; storage = storage; files = files }

abbrev Ends : Tree → Type 0
Ends t = IsTypedTree t ⊎ ((e : Refusal) × IsTreeCause t e)

statements_end : (t : Tree) → HasLayout (data_of t) → (o : Option (Rule × ℕ)) → first_broken (lines_of (layout (data_of t)) t) typing_rules ≡ o → Ends t
statements_end t h None e = inl record { has_layout = h; rules = kept_is (lines_of (layout (data_of t)) t) typing_rules e }
statements_end t h (Some (rule, line)) e = inr (end.Outside rule line, inr (h, first_is (lines_of (layout (data_of t)) t) typing_rules rule line e))

layout_ends : (t : Tree) → AreKept (broken_lines (data_of t)) data_rules → IsWithinLimits (data_of t) ⊎ ((w : Which) × IsFirstExceeded (data_of t) w) → Ends t
layout_ends t kept (inl within) = statements_end t (record { kept = kept; within = within }) (first_broken (lines_of (layout (data_of t)) t) typing_rules) refl
layout_ends t kept (inr (w, exceeded)) = inr (end.Limit w (count_of (facts_of (data_of t)) w), (kept, exceeded, refl))

data_ends : (t : Tree) (o : Option (Rule × ℕ)) → first_broken (broken_lines (data_of t)) data_rules ≡ o → Ends t
data_ends t None e =
    layout_ends t (kept_is (broken_lines (data_of t)) data_rules e)
    (limits_end (data_of t) (within_or (data_of t) which.Items) (within_or (data_of t) which.Storage) (within_or (data_of t) which.Files))
data_ends t (Some (rule, line)) e = inr (end.Outside rule line, inl (first_is (broken_lines (data_of t)) data_rules rule line e))

pub tree_ends : (t : Tree) → IsTypedTree t ⊎ ((e : Refusal) × IsTreeCause t e)
tree_ends t = data_ends t (first_broken (broken_lines (data_of t)) data_rules) refl
