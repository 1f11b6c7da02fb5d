-- Where control goes: the first node of what follows, by the number at which it begins and what follows that.
use Rattle.std.specs.Prelude.{ℕ, ◌+◌, zero, suc, Bool, true, false, List}
use Rattle.cob_program.specs.Logic.{Logic, all_of, any_of, not_, test, Logics, no_logics, more_logics, logics_of}
use Rattle.cob_program.specs.Act.{Turns, once, times, until, varying}
use Rattle.cob_graph.specs.Laid.{LaidList, no_laid, more_laid, LaidPhrase, LaidWhens, no_laid_whens, more_laid_whens, LaidBody, own_list, copy, LaidParas, no_laid_paras, more_laid_paras, tests_in, tests_among, one_if, list_size, phrase_size, whens_size, body_size}

-- an empty list's first node is what follows
abbrev pub first_of_list : LaidList → ℕ → ℕ → ℕ
first_of_list no_laid at next = next
first_of_list (more_laid x xs) at next = at

abbrev pub first_of_paras : LaidParas → ℕ → ℕ → ℕ
first_of_paras no_laid_paras at next = next
first_of_paras (more_laid_paras xs ps) at next = first_of_list xs at (first_of_paras ps (at + list_size xs) next)

-- the first node of the paragraph with so many before it in a copy
abbrev pub first_of_para : ℕ → LaidParas → ℕ → ℕ → ℕ
first_of_para zero ps at next = first_of_paras ps at next
first_of_para (suc n) no_laid_paras at next = next
first_of_para (suc n) (more_laid_paras xs ps) at next = first_of_para n ps (at + list_size xs) next

abbrev pub first_of_body : LaidBody → ℕ → ℕ → ℕ
first_of_body (own_list xs) at next = first_of_list xs at next
first_of_body (copy first ps) at next = first_of_paras ps at next

abbrev mutual
  -- the node at which a condition begins, where it goes on at one node if it holds and at another if it doesn't
  pub first_of_logic : Logic → ℕ → ℕ → ℕ → ℕ
  first_of_logic (all_of ls) at true_ false_ = first_of_all ls at true_ false_
  first_of_logic (any_of ls) at true_ false_ = first_of_any ls at true_ false_
  first_of_logic (not_ x) at true_ false_ = first_of_logic x at false_ true_
  first_of_logic (test t) at true_ false_ = at

  pub first_of_all : Logics → ℕ → ℕ → ℕ → ℕ
  first_of_all no_logics at true_ false_ = true_
  first_of_all (more_logics x xs) at true_ false_ = first_of_logic x at (first_of_all xs (at + tests_in x) true_ false_) false_

  pub first_of_any : Logics → ℕ → ℕ → ℕ → ℕ
  first_of_any no_logics at true_ false_ = false_
  first_of_any (more_logics x xs) at true_ false_ = first_of_logic x at true_ (first_of_any xs (at + tests_in x) true_ false_)

-- ---- statements with lists: blocks one behind the other, and where each of them begins

-- arithmetic: its own node, the list of ON SIZE ERROR, that of NOT ON SIZE ERROR
abbrev pub size_at : ℕ → ℕ
size_at at = at + 1

abbrev pub fine_at : LaidPhrase → ℕ → ℕ
fine_at a at = size_at at + phrase_size a

-- IF: its tests, the list where it holds, the other
abbrev pub held_at : Logic → ℕ → ℕ
held_at t at = at + tests_in t

abbrev pub else_at : Logic → LaidList → ℕ → ℕ
else_at t a at = held_at t at + list_size a

-- a WHEN: its tests, its list, and then the next WHEN
abbrev pub chosen_at : List Logic → ℕ → ℕ
chosen_at ts at = at + tests_among (logics_of ts)

abbrev pub next_when_at : List Logic → LaidList → ℕ → ℕ
next_when_at ts xs at = chosen_at ts at + list_size xs

-- EVALUATE: its own node, its WHENs, the list of WHEN OTHER
abbrev pub whens_at : ℕ → ℕ
whens_at at = at + 1

abbrev pub other_at : LaidWhens → ℕ → ℕ
other_at ws at = whens_at at + whens_size ws

-- READ: its own node, with INTO that of its move, the list of AT END, that of NOT AT END
abbrev pub end_at : Bool → ℕ → ℕ
end_at into at = at + 1 + one_if into

abbrev pub found_at : Bool → LaidPhrase → ℕ → ℕ
found_at into a at = end_at into at + phrase_size a

abbrev pub first_of_whens : LaidWhens → ℕ → ℕ → ℕ → ℕ
first_of_whens no_laid_whens at other next = other
first_of_whens (more_laid_whens ts xs ws) at other next =
    first_of_any (logics_of ts) at (first_of_list xs (chosen_at ts at) next)
    (first_of_whens ws (next_when_at ts xs at) other next)

-- ---- loops: where the parts of one that begins at a node stand

abbrev pub body_at : Turns → ℕ → ℕ
body_at once at = at + 1
body_at (times x) at = at + 2
body_at (until false t) at = at + 1 + tests_in t
body_at (until true t) at = at + 1
body_at (varying false item start by t) at = at + 1 + tests_in t
body_at (varying true item start by t) at = at + 1

-- its first test node
abbrev pub tests_at : Turns → ℕ → LaidBody → ℕ
tests_at once at body = at
tests_at (times x) at body = at + 1
tests_at (until false t) at body = at + 1
tests_at (until true t) at body = at + 1 + body_size body
tests_at (varying false item start by t) at body = at + 1
tests_at (varying true item start by t) at body = at + 1 + body_size body

-- the node that augments, or counts down
abbrev pub augment_at : Turns → ℕ → LaidBody → ℕ
augment_at once at body = at
augment_at (times x) at body = at + 2 + body_size body
augment_at (until after t) at body = at
augment_at (varying false item start by t) at body = at + 1 + tests_in t + body_size body
augment_at (varying true item start by t) at body = at + 1 + body_size body + tests_in t

-- The node at which a loop goes on behind its body; a test begins with its first node, since a condition has one at least.
abbrev pub body_next : Turns → ℕ → LaidBody → ℕ → ℕ
body_next once at body next = next
body_next (times x) at body next = augment_at (times x) at body
body_next (until after t) at body next = tests_at (until after t) at body
body_next (varying false item start by t) at body next = augment_at (varying false item start by t) at body
body_next (varying true item start by t) at body next = tests_at (varying true item start by t) at body

-- the first node of its body, with what the loop goes on with behind it
abbrev pub first_in_loop : Turns → LaidBody → ℕ → ℕ → ℕ
first_in_loop turns body at next = first_of_body body (body_at turns at) (body_next turns at body next)
