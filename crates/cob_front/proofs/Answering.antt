-- What a phase answers is the answer to the source, and each cause is answered.
use Rattle.std.proofs.Common.{◌≡◌, ◌≤◌, ℕ, List, length, Result, Ok, Err, sym, ap, ◌∙◌, subst, inl, inr}
use Rattle.cob_tree.specs.declared.token.Token.{Token}
use Rattle.cob_tree.specs.Stmt.{Tree}
use Rattle.cob_lex.specs.Text.{source_limit}
use Rattle.cob_lex.specs.Scan.{Tokens, Scans}
use Rattle.cob_parse_expr.specs.declared.end.ParseEnd.{ParseEnd}
use Rattle.cob_parse_expr.specs.declared.end.ParseEnd.TheVariants as parse
use Rattle.cob_parse_proc.specs.Parsing.{IsWrong}
use Rattle.cob_program.specs.declared.program.Program as declared_program
use Rattle.cob_program.specs.Act.{Program}
use Rattle.cob_program.specs.ActView.{plain_program}
use Rattle.cob_front.specs.declared.refusal.Refusal.{Refusal}
use Rattle.cob_front.specs.declared.refusal.Refusal.TheVariants as end
use Rattle.cob_front.specs.Source.{StandsFor, IsTreeCause, IsSource, IsCause, IsProgram, IsProgramOf, Answers, IsRefused, IsAccepted}
use Rattle.cob_front.proofs.OneAnswer.{one_answer}

abbrev Given : Type 0
Given = Result declared_program.Program Refusal

-- ---- wrong tokens are a cause

pub cause_of_tokens : {T : Type 0} (bytes : List ℕ) (ts us : List Token) (told : Result T ParseEnd) (ending : ParseEnd) (line : ℕ) →
    length bytes ≤ source_limit → Scans bytes (Tokens us) → ts ≡ us → ((l : ℕ) → told ≡ Err (parse.Syntax l) → IsWrong ts l) →
    told ≡ Err ending → ending ≡ parse.Syntax line → IsCause bytes (end.Syntax line)
cause_of_tokens bytes ts us told ending line fits scanned same wrong is it =
    (ts, record { fits = fits; scanned = subst (λ us. Scans bytes (Tokens us)) (sym same) scanned }, wrong line (is ∙ ap Err it))

-- ---- a tree's answer is its source's

pub cause_of_source : (bytes : List ℕ) (t : Tree) (e : Refusal) → StandsFor bytes t → IsTreeCause t e → IsCause bytes e
cause_of_source bytes t (end.Outside rule line) stands is = record { tree = t; stands = stands; cause = is }
cause_of_source bytes t (end.Limit which count) stands is = record { tree = t; stands = stands; cause = is }
cause_of_source bytes t end.TooLong stands is = absurd is
cause_of_source bytes t (end.BadLine line column) stands is = absurd is
cause_of_source bytes t (end.BadToken line column) stands is = absurd is
cause_of_source bytes t (end.Syntax line) stands is = absurd is
cause_of_source bytes t (end.Nesting count) stands is = absurd is
cause_of_source bytes t end.Memory stands is = absurd is

pub answer_of_source : (bytes : List ℕ) (t : Tree) (r : Given) → StandsFor bytes t → Answers (IsProgramOf t) (IsTreeCause t) r → Answers (IsProgram bytes) (IsCause bytes) r
answer_of_source bytes t (Ok p) stands is = record { tree = t; stands = stands; keeps = is.0; program = is.1 }
answer_of_source bytes t (Err e) stands (inl is) = inl (cause_of_source bytes t e stands is)
answer_of_source bytes t (Err e) stands (inr is) = inr is

-- ---- each cause, and each program, is answered

pub refused_for : (bytes : List ℕ) (r : Given) (e : Refusal) → Answers (IsProgram bytes) (IsCause bytes) r → IsCause bytes e → IsRefused r e
refused_for bytes (Ok p) e is cause = (one_answer bytes).not_both (plain_program p) e is cause
refused_for bytes (Err d) e (inl is) cause = inl ((one_answer bytes).one_cause d e is cause)
refused_for bytes (Err d) e (inr is) cause = inr is

pub accepted_as : (bytes : List ℕ) (r : Given) (p : Program) → Answers (IsProgram bytes) (IsCause bytes) r → IsSource bytes p → IsAccepted r
accepted_as bytes (Ok q) p is source = tt
accepted_as bytes (Err d) p (inl is) source = absurd ((one_answer bytes).not_both p d source is)
accepted_as bytes (Err d) p (inr is) source = is
