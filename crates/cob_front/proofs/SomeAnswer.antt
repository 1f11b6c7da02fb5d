-- Bytes have an answer.
use Rattle.std.proofs.Common.{◌≡◌, ◌≤◌, ◌⊎◌, ⊎_elim, ℕ, List, length, map, Result, Ok, Err, refl, inl, inr}
use Rattle.std.proofs.lemmas.Bool.{cases_lt}
use Rattle.reading.specs.Readers.{Fault, Stop, Deep, whole}
use Rattle.cob_tree.specs.declared.token.Token.{Token}
use Rattle.cob_tree.specs.Stmt.{Tree}
use Rattle.cob_tree.specs.Symbols.{seen}
use Rattle.cob_parse_expr.specs.Places.{line_at}
use Rattle.cob_lex.specs.Text.{source_limit}
use Rattle.cob_lex.specs.Scan.{Scan, BadLineAt, BadTokenAt, Tokens, Scans}
use Rattle.cob_lex.proofs.Scans.{some_scan}
use Rattle.cob_parse_proc.specs.Program.{limit, tree_at}
use Rattle.cob_parse_proc.proofs.ProgramAnswers.{tree_read, tree_stops, tree_deep}
use Rattle.cob_front.specs.declared.refusal.Refusal.{Refusal}
use Rattle.cob_front.specs.declared.refusal.Refusal.TheVariants as end
use Rattle.cob_front.specs.Source.{HasTokens, StandsFor, IsTypedTree, IsTreeCause, program_of}
use Rattle.cob_front.specs.Laws.{SomeAnswer}
use Rattle.cob_front.proofs.TreeCauses.{tree_ends}
use Rattle.cob_front.proofs.Answering.{cause_of_source}

of_tree : (bytes : List ℕ) (t : Tree) → StandsFor bytes t → IsTypedTree t ⊎ ((e : Refusal) × IsTreeCause t e) → SomeAnswer bytes
of_tree bytes t stands (inl keeps) = inl (program_of t, record { tree = t; stands = stands; keeps = keeps; program = refl })
of_tree bytes t stands (inr (e, cause)) = inr (e, cause_of_source bytes t e stands cause)

of_tokens : (bytes : List ℕ) (ts : List Token) → HasTokens bytes ts → (r : Result Tree Fault) → whole (tree_at limit) (map seen ts) ≡ r → SomeAnswer bytes
of_tokens bytes ts has (Ok t) e = of_tree bytes t (record { tokens = ts; has = has; parsed = tree_read ts t e }) (tree_ends t)
of_tokens bytes ts has (Err (Stop n)) e =
    let stop = tree_stops (map seen ts) n e in
    inr (end.Syntax (line_at ts (length stop.0)), (ts, has, record { left = stop.0; stops = stop.2; line_is = refl }))
of_tokens bytes ts has (Err (Deep n)) e = inr (end.Nesting 65, (ts, has, tree_deep (map seen ts) n e, refl))

of_scan : (bytes : List ℕ) → length bytes ≤ source_limit → (s : Scan) → Scans bytes s → SomeAnswer bytes
of_scan bytes fits (BadLineAt line column) e = inr (end.BadLine line column, (fits, e))
of_scan bytes fits (BadTokenAt line column) e = inr (end.BadToken line column, (fits, e))
of_scan bytes fits (Tokens ts) e = of_tokens bytes ts (record { fits = fits; scanned = e }) (whole (tree_at limit) (map seen ts)) refl

pub some_answer : (bytes : List ℕ) → SomeAnswer bytes
some_answer bytes = ⊎_elim (λ long. inr (end.TooLong, long)) (λ fits. let found = some_scan bytes in of_scan bytes fits found.0 found.1) (cases_lt source_limit (length bytes))
