-- How much there can be of what is read.
use Rattle.std.specs.Prelude.{ℕ, ◌^◌}

-- More tokens than a source within its limit of 1,048,576 bytes has: each of its lines takes a byte at least, a line gives at
-- most 66 characters, and a character at most one token. Whatever is counted by tokens thus has a number of 32 bits.
abbrev pub token_limit : ℕ
token_limit = 2 ^ 27
