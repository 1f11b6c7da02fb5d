-- How many tokens a source may have.
use Rattle.std.specs.Prelude.{ℕ, ◌≤◌, List, length}
use Rattle.cob_tree.specs.declared.token.Token.{Token}
use Rattle.cob_lex.specs.Scan.{Tokens, Scans}
use Rattle.cob_tree.specs.Limits.{token_limit}
use Rattle.cob_lex.specs.Text.{source_limit}

-- a source of at most 1,048,576 bytes has at most 2^27 tokens
abbrev pub HasFewTokens : Type 0
HasFewTokens =
    (bytes : List ℕ) (tokens : List Token) → length bytes ≤ source_limit → Scans bytes (Tokens tokens)
    → length tokens ≤ token_limit
