-- A tree as a program of the profile, and what is answered where it is none.
use Rattle.std.specs.Prelude.{◌≡◌, ℕ, ◌-◌, ◌==◌, if◌then◌else◌, Bool, true, false, List, [], ◌∷◌, ◌++◌, map, Some, None}
use Rattle.std.specs.Str.{bytes_eq}
use Rattle.cob_tree.specs.Stmt as tree
use Rattle.cob_data.specs.declared.end.Rule.{Rule}
use Rattle.cob_data.specs.declared.end.Rule.TheVariants.{L1, L2, L3, L4, L5, L6, L7, L8, L9, L10, L11, L12, Q1, Q2, Q3, Q4, Q5, Q6, Q7, Q8, Q9, Q10, Q11, N5, N1, N2, N3, N4}
use Rattle.cob_data.specs.declared.layout.Layout.{Layout}
use Rattle.rule_order.specs.Order.{IsFirstBroken, AreKept, line_if}
use Rattle.cob_program.specs.Act.{Stmts, no_stmts, more_stmts, Para, Program}
use Rattle.cob_typed_exprs.specs.Scope.{Scope}
use Rattle.cob_typed.specs.Statements.{Numbered, numbered, ◌>>>◌, typed_stmts}

abbrev pub scope_of : Layout → tree.Tree → Scope
scope_of l t = record { layout = l; paras = map (λ p. p.name) t.paragraphs }

abbrev pub joined : Stmts → Stmts → Stmts
joined no_stmts ys = ys
joined (more_stmts x xs) ys = more_stmts x (joined xs ys)

-- sentences are one list
abbrev pub typed_sentences : Scope → ℕ → List tree.Stmts → Numbered Stmts
typed_sentences s n [] = numbered no_stmts n
typed_sentences s n (ss ∷ more) = typed_stmts s n ss >>> λ xs m. typed_sentences s m more >>> λ ys k. numbered (joined xs ys) k

abbrev pub typed_paras : Scope → ℕ → List tree.Paragraph → Numbered (List Para)
typed_paras s n [] = numbered [] n
typed_paras s n (p ∷ ps) =
    typed_sentences s n p.sentences >>> λ xs m. typed_paras s m ps >>> λ others k.
    numbered (record { name = Some p.name; line = p.line; body = xs } ∷ others) k

abbrev pub first_para : Stmts → Para
first_para xs = record { name = None; line = 0; body = xs }

abbrev pub typed_all : Layout → tree.Tree → Numbered (List Para)
typed_all l t =
    typed_sentences (scope_of l t) 1 t.sentences >>> λ xs m. typed_paras (scope_of l t) m t.paragraphs >>> λ others k.
    numbered (first_para xs ∷ others) k

abbrev pub typed : Layout → tree.Tree → Program
typed l t = record { layout = l; paras = (typed_all l t).value; statements = (typed_all l t).next - 1 }

-- ---- the lines at which a rule is broken

-- each rule has a number of its own, those on statements the first ones
abbrev pub rule_number : Rule → ℕ
rule_number Q1 = 1
rule_number Q2 = 2
rule_number Q3 = 3
rule_number Q4 = 4
rule_number Q5 = 5
rule_number Q6 = 6
rule_number Q7 = 7
rule_number Q8 = 8
rule_number Q9 = 9
rule_number Q10 = 10
rule_number Q11 = 11
rule_number N5 = 12
rule_number L1 = 13
rule_number L2 = 14
rule_number L3 = 15
rule_number L4 = 16
rule_number L5 = 17
rule_number L6 = 18
rule_number L7 = 19
rule_number L8 = 20
rule_number L9 = 21
rule_number L10 = 22
rule_number L11 = 23
rule_number L12 = 24
rule_number N1 = 25
rule_number N2 = 26
rule_number N3 = 27
rule_number N4 = 28

-- so rules are told apart by their numbers
abbrev pub RulesAreToldApart : Type 0
RulesAreToldApart = (a b : Rule) → rule_number a ≡ rule_number b → a ≡ b

abbrev pub lines_among : Rule → List (Rule × ℕ) → List ℕ
lines_among rule [] = []
lines_among rule (x ∷ xs) = line_if (rule_number x.0 == rule_number rule) x.1 (lines_among rule xs)

-- paragraphs named like one before
abbrev pub is_known : List ℕ → List (List ℕ) → Bool
is_known text [] = false
is_known text (name ∷ names) = if bytes_eq text name then true else is_known text names

abbrev pub clashes : List (List ℕ) → List tree.Paragraph → List (Rule × ℕ)
clashes before [] = []
clashes before (p ∷ ps) = (if is_known p.name before then (Q11, p.line) ∷ [] else []) ++ clashes (p.name ∷ before) ps

abbrev pub lines_of : Layout → tree.Tree → Rule → List ℕ
lines_of l t rule = lines_among rule ((typed_all l t).found ++ clashes [] t.paragraphs)

-- the rules on statements, in their order
abbrev pub typing_rules : List Rule
typing_rules = Q1 ∷ Q2 ∷ Q3 ∷ Q4 ∷ Q5 ∷ Q6 ∷ Q7 ∷ Q8 ∷ Q9 ∷ Q10 ∷ Q11 ∷ N5 ∷ []

-- the program keeps all rules on statements
abbrev pub IsTyped : Layout → tree.Tree → Type 0
IsTyped l t = AreKept (lines_of l t) typing_rules

-- the first rule on statements that is broken, with its first line
abbrev pub IsOutside : Layout → tree.Tree → Rule → ℕ → Type 0
IsOutside l t rule line = IsFirstBroken (lines_of l t) typing_rules rule line
