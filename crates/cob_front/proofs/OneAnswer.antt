-- Each source has one answer.
use Rattle.std.proofs.Common.{◌≡◌, ◌≤◌, ◌<◌, ◌⊎◌, ℕ, List, length, map, refl, sym, ap, ◌∙◌, subst, inl, inr, arith}
use Rattle.cob_tree.specs.declared.token.Token.{Token}
use Rattle.cob_tree.specs.Stmt.{Tree}
use Rattle.cob_tree.specs.Symbols.{Sign, seen}
use Rattle.cob_lex.specs.Scan.{Scan, BadLineAt, BadTokenAt, Tokens, Scans}
use Rattle.cob_lex.proofs.Scans.{one_scan}
use Rattle.cob_parse_expr.specs.Places.{line_at}
use Rattle.cob_parse_proc.specs.Parsing.{IsTree, IsWrong, IsDeep}
use Rattle.cob_parse_proc.proofs.OneAnswer as parsed
use Rattle.cob_program.specs.Act.{Program}
use Rattle.cob_front.specs.declared.refusal.Refusal.{Refusal}
use Rattle.cob_front.specs.declared.refusal.Refusal.TheVariants as end
use Rattle.cob_front.specs.Source.{StandsFor, IsTypedTree, IsTreeCause, IsSource, IsCause, program_of}
use Rattle.cob_front.specs.Laws.{OneAnswer}
use Rattle.cob_front.proofs.TreeCauses.{typed_or_cause, cause_once}
use Rattle.cob_lex.specs.Text.{source_limit}

-- a program, or a cause
data Ending : Type 0 where
  made : Program → Ending
  refused : Refusal → Ending

abbrev Ends : List ℕ → Ending → Type 0
Ends bytes (made p) = IsSource bytes p
Ends bytes (refused e) = IsCause bytes e

-- ---- where trees, tokens and texts lead

abbrev TreeLeads : Tree → Ending → Type 0
TreeLeads t x = (IsTypedTree t × (x ≡ made (program_of t))) ⊎ ((e : Refusal) × IsTreeCause t e × (x ≡ refused e))

data Leads (ts : List Token) (x : Ending) : Type 0 where
  wrong : (line : ℕ) → IsWrong ts line → x ≡ refused (end.Syntax line) → Leads ts x
  deep : IsDeep (map seen ts) → x ≡ refused (end.Nesting 65) → Leads ts x
  a_tree : (t : Tree) → IsTree (map seen ts) t → TreeLeads t x → Leads ts x

abbrev ScanLeads : Scan → Ending → Type 0
ScanLeads (BadLineAt line column) x = x ≡ refused (end.BadLine line column)
ScanLeads (BadTokenAt line column) x = x ≡ refused (end.BadToken line column)
ScanLeads (Tokens ts) x = Leads ts x

record ScannedTo (bytes : List ℕ) (x : Ending) : Type 0 where
  scan : Scan
  is : Scans bytes scan
  leads : ScanLeads scan x

abbrev BytesLead : List ℕ → Ending → Type 0
BytesLead bytes x = ((source_limit < length bytes) × (x ≡ refused end.TooLong)) ⊎ ((length bytes ≤ source_limit) × ScannedTo bytes x)

scanned : (bytes : List ℕ) (x : Ending) (s : Scan) → length bytes ≤ source_limit → Scans bytes s → ScanLeads s x → BytesLead bytes x
scanned bytes x s fits is leads = inr (fits, record { scan = s; is = is; leads = leads })

stood : (bytes : List ℕ) (x : Ending) (t : Tree) → StandsFor bytes t → TreeLeads t x → BytesLead bytes x
stood bytes x t h leads = scanned bytes x (Tokens h.tokens) h.has.fits h.has.scanned (a_tree t h.parsed leads)

leads_to : (bytes : List ℕ) (x : Ending) → Ends bytes x → BytesLead bytes x
leads_to bytes (made p) h = stood bytes (made p) h.tree h.stands (inl (h.keeps, ap made h.program))
leads_to bytes (refused end.TooLong) h = inl (h, refl)
leads_to bytes (refused (end.BadLine line column)) h = scanned bytes _ (BadLineAt line column) h.0 h.1 refl
leads_to bytes (refused (end.BadToken line column)) h = scanned bytes _ (BadTokenAt line column) h.0 h.1 refl
leads_to bytes (refused (end.Syntax line)) (ts, has, is) = scanned bytes _ (Tokens ts) has.fits has.scanned (wrong line is refl)
leads_to bytes (refused (end.Nesting count)) (ts, has, is, counted) =
    scanned bytes _ (Tokens ts) has.fits has.scanned (deep is (ap (λ n. refused (end.Nesting n)) counted))
leads_to bytes (refused (end.Outside rule line)) h = stood bytes _ h.tree h.stands (inr (end.Outside rule line, h.cause, refl))
leads_to bytes (refused (end.Limit which count)) h = stood bytes _ h.tree h.stands (inr (end.Limit which count, h.cause, refl))
leads_to bytes (refused end.Memory) h = absurd h

-- ---- each leads to one end

tree_once : (t : Tree) (x y : Ending) → TreeLeads t x → TreeLeads t y → x ≡ y
tree_once t x y (inl (h, e)) (inl (k, f)) = e ∙ sym f
tree_once t x y (inl (h, e)) (inr (c, k, f)) = absurd (typed_or_cause t c h k)
tree_once t x y (inr (c, h, e)) (inl (k, f)) = absurd (typed_or_cause t c k h)
tree_once t x y (inr (c, h, e)) (inr (d, k, f)) = e ∙ ap refused (cause_once t c d h k) ∙ sym f

line_once : (ts : List Token) (m n : ℕ) (h : IsWrong ts m) (k : IsWrong ts n) → m ≡ n
line_once ts m n h k =
    let same = (parsed.one_answer (map seen ts)).wrong_once h.left k.left h.stops k.stops in
    h.line_is ∙ ap (λ (u : List Sign). line_at ts (length u)) same ∙ sym k.line_is

tokens_once : (ts : List Token) (x y : Ending) → Leads ts x → Leads ts y → x ≡ y
tokens_once ts x y (wrong m h e) (wrong n k f) = e ∙ ap (λ line. refused (end.Syntax line)) (line_once ts m n h k) ∙ sym f
tokens_once ts x y (wrong m h e) (deep k f) = absurd ((parsed.one_answer (map seen ts)).wrong_or_deep h.left h.stops k)
tokens_once ts x y (wrong m h e) (a_tree t k f) = absurd ((parsed.one_answer (map seen ts)).read_or_wrong t h.left k h.stops)
tokens_once ts x y (deep h e) (wrong n k f) = absurd ((parsed.one_answer (map seen ts)).wrong_or_deep k.left k.stops h)
tokens_once ts x y (deep h e) (deep k f) = e ∙ sym f
tokens_once ts x y (deep h e) (a_tree t k f) = absurd ((parsed.one_answer (map seen ts)).read_or_deep t k h)
tokens_once ts x y (a_tree t h e) (wrong n k f) = absurd ((parsed.one_answer (map seen ts)).read_or_wrong t k.left h k.stops)
tokens_once ts x y (a_tree t h e) (deep k f) = absurd ((parsed.one_answer (map seen ts)).read_or_deep t h k)
tokens_once ts x y (a_tree t h e) (a_tree u k f) =
    tree_once u x y (subst (λ (t : Tree). TreeLeads t x) ((parsed.one_answer (map seen ts)).read_once t u h k) e) f

scan_once : (s : Scan) (x y : Ending) → ScanLeads s x → ScanLeads s y → x ≡ y
scan_once (BadLineAt line column) x y h k = h ∙ sym k
scan_once (BadTokenAt line column) x y h k = h ∙ sym k
scan_once (Tokens ts) x y h k = tokens_once ts x y h k

bytes_once : (bytes : List ℕ) (x y : Ending) → BytesLead bytes x → BytesLead bytes y → x ≡ y
bytes_once bytes x y (inl (long, e)) (inl (long', f)) = e ∙ sym f
bytes_once bytes x y (inl (long, e)) (inr (fits, f)) = absurd (omega (arith, long, fits))
bytes_once bytes x y (inr (fits, e)) (inl (long, f)) = absurd (omega (arith, long, fits))
bytes_once bytes x y (inr (fits, e)) (inr (fits', f)) =
    scan_once f.scan x y (subst (λ s. ScanLeads s x) (one_scan bytes e.scan f.scan e.is f.is) e.leads) f.leads

once : (bytes : List ℕ) (x y : Ending) → Ends bytes x → Ends bytes y → x ≡ y
once bytes x y h k = bytes_once bytes x y (leads_to bytes x h) (leads_to bytes y k)

same_made : (p q : Program) → made p ≡ made q → p ≡ q
same_made p q e = cc

same_refused : (d e : Refusal) → refused d ≡ refused e → d ≡ e
same_refused d e same = cc

made_or_refused : (p : Program) (e : Refusal) → made p ≡ refused e → ⊥
made_or_refused p e same = cc

pub one_answer : (bytes : List ℕ) → OneAnswer bytes
one_answer bytes = record {
  one_program = λ p q h k. same_made p q (once bytes (made p) (made q) h k);
  one_cause = λ d e h k. same_refused d e (once bytes (refused d) (refused e) h k);
  not_both = λ p e h k. made_or_refused p e (once bytes (made p) (refused e) h k);
}
