-- What serves for what, by the shape of a rule:
--   a token of a class: Lead; one that may be left out: Maybe
--   A B: Dependent where A never goes on, Apart where it does but not with B, Must where a token such as NOT may go either way
--   a token that closes: Must (closed); a token that says what follows: Lead (branch); one of two: Choose
--   [B] behind A: Opt (under a condition, by a mark alone, or by the tokens that open a phrase)
--   {A}: Many; {A}+ and A {token A}: Plus; clauses in any order: Clauses; nothing opens any more: Full
--   the tree's own shape: Seen; any other pair: Follow; anything that may stand behind something open: Tail
-- Beside the law of each stand its growth (Grows, for Must), its agreement with more room (Wider), and its place of too
-- little room (Deeper). From these: Exact and Whole.
pub mod Results
pub mod Texts
pub mod Consequences
pub mod Opens
pub mod Follow
pub mod Dependent
pub mod Lead
pub mod Seen
pub mod Starts
pub mod Apart
pub mod Optional
pub mod Tail
pub mod Many
pub mod Opt
pub mod Plus
pub mod Choose
pub mod Grows
pub mod Must
pub mod Full
pub mod Wider
pub mod Deeper
pub mod Clauses
pub mod Maybe
pub mod Exact
pub mod Whole
pub mod Turns
pub mod BracketsLaw
