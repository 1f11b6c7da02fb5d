-- One more line in front of the text that the definitions give.
use Rattle.std.proofs.Common.{◌≡◌, ℕ, zero, suc, ◌+◌, ◌-◌, ◌<◌, ◌≤◌, true, false, not, cond, List, [], ◌∷◌, ◌++◌, map, length, take, get_or, reverse, Option, None, Result, Ok, Err, refl, sym, ◌∙◌, ap, subst, arith}
use Rattle.std.proofs.lemmas.List.{append_assoc, take_all, length-take-le, get_or-reverse, length-reverse}
use Rattle.std.proofs.lemmas.List.FromFn.{map-range_with_len_more}
use Rattle.std.proofs.lemmas.List.Sums.{suffix_len-take_no, prefix_len_stops}
use Rattle.std.specs.List.{suffix_len, range_with_len, enumerate_from}
use Rattle.std.specs.Str.Lines.{lines}
use Rattle.cob_lex.specs.declared.text.Mark.{Mark}
use Rattle.cob_lex.specs.declared.text.TextEnd.{TextEnd}
use Rattle.cob_lex.specs.declared.text.TextEnd.TheVariants.{BadLine, Memory}
use Rattle.cob_lex.specs.declared.refusal.Place.{Place}
use Rattle.cob_lex.specs.declared.join.Joining.{Joining}
use Rattle.cob_lex.specs.Columns.{byte_at, bad_column, is_dropped}
use Rattle.cob_lex.specs.Literal.{quote_of, open_literal}
use Rattle.cob_lex.specs.Text.{kept, closed, mark_at, is_space, with_line, with_kept, onward, joined, bad_or, first_bad, numbered_lines, refused_first, source_text, Gives}
use Rattle.cob_lex.specs.Run.{IsRun, Steps, text}

pub first_bad_more : (n : ℕ) (bs line : List ℕ) (rest : List (List ℕ)) → lines bs ≡ line ∷ rest → first_bad (enumerate_from n (lines bs)) ≡ bad_or n (bad_column line) (first_bad (enumerate_from (n + 1) rest))
unfolding first_bad
first_bad_more n bs line rest e = ap (λ (ls : List (List ℕ)). first_bad (enumerate_from n ls)) e

pub first_bad_none : (n : ℕ) (bs : List ℕ) → length bs ≡ 0 → first_bad (enumerate_from n (lines bs)) ≡ None
unfolding first_bad
first_bad_none n [] e = refl
first_bad_none n (b ∷ bs) e = absurd (omega arith)

pub joined_more : (t : List Mark) (n : ℕ) (bs line : List ℕ) (rest : List (List ℕ)) → lines bs ≡ line ∷ rest → joined t (kept (enumerate_from n (lines bs))) ≡ onward (with_kept t n line) (λ longer. joined longer (kept (enumerate_from (n + 1) rest)))
unfolding joined
joined_more t n bs line rest e =
    let others = kept (enumerate_from (n + 1) rest) in
    ap (λ (ls : List (List ℕ)). joined t (kept (enumerate_from n ls))) e
    ∙ elim (is_dropped line) as (λ b. joined t (cond (not b) ((n, line) ∷ others) others) ≡ onward (cond b (Ok t) (with_line t n line)) (λ longer. joined longer others)) [ true ↦ refl | false ↦ refl ]

-- a refused step refuses the whole
pub refused_gives : (wanted all : Result (List Mark) Place) (next : List Mark → Result (List Mark) Place) (end : TextEnd) (j : Joining) → Steps wanted (Err end) j → onward wanted next ≡ all → Gives all (Err end)
refused_gives wanted all next (BadLine line column) j h e = sym e ∙ ap (λ (w : Result (List Mark) Place). onward w next) h
refused_gives wanted all next Memory j h e = tt

pub marks_more : (number : ℕ) (line : List ℕ) (from column : ℕ) → from ≤ column → map (mark_at number line) (range_with_len from (column + 1 - from)) ≡ map (mark_at number line) (range_with_len from (column - from)) ++ mark_at number line column ∷ []
marks_more number line from column h =
    let e : column + 1 - from ≡ column - from + 1 = omega arith in
    ap (λ (n : ℕ). map (mark_at number line) (range_with_len from n)) e
    ∙ map-range_with_len_more (mark_at number line) from (column - from) column (omega arith)

-- nothing is left to trim of what was trimmed
pub trimmed_stays : (xs : List Mark) (n : ℕ) → n + suffix_len is_space xs ≡ length xs → suffix_len is_space (take n xs) ≡ 0
trimmed_stays xs zero h = refl
trimmed_stays [] (suc n) h = absurd (omega arith)
trimmed_stays (x ∷ xs) (suc n) h =
    let all = x ∷ xs in
    let s = suffix_len is_space all in
    let short : s < length (reverse all) = omega (arith, length-reverse all) in
    let stops : is_space (get_or (reverse all) s x) ≡ false = prefix_len_stops is_space (reverse all) x short in
    let place : length all - 1 - s ≡ n = omega arith in
    let at : get_or (reverse all) s x ≡ get_or all n x = subst (λ (k : ℕ). get_or (reverse all) s x ≡ get_or all k x) place (get_or-reverse all s x (omega arith)) in
    let last : is_space (get_or all n x) ≡ false = ap is_space (sym at) ∙ stops in
    let index : n ≡ suc n - 1 = omega arith in
    suffix_len-take_no is_space all (suc n) x (omega arith) (omega arith) (subst (λ (k : ℕ). is_space (get_or all k x) ≡ false) index last)

pub trimmed_run : (j k : Joining) → IsRun j → text k ≡ take j.solid (text j) → k.quote ≡ j.settled → k.solid ≡ j.solid → k.settled ≡ j.settled → IsRun k
trimmed_run j k run items quote solid settled =
    let short : j.solid ≤ length (text j) = omega (arith, run.solid) in
    let none : suffix_len is_space (text k) ≡ 0 = ap (suffix_len is_space) items ∙ trimmed_stays (text j) j.solid run.solid in
    let long : length (text k) ≡ j.solid = ap length items ∙ length-take-le j.solid (text j) short in
    let whole : take k.solid (text k) ≡ text k = take_all k.solid (text k) (omega arith) in
    let now : j.settled ≡ quote_of (text k) = run.settled ∙ ap quote_of (sym items) in
    record {
      quote = quote ∙ now;
      solid = omega arith;
      settled = settled ∙ now ∙ ap quote_of (sym whole);
    }

-- the step of the loop over the columns
pub push_more : (start now next : List Mark) (number : ℕ) (line : List ℕ) (from column ch : ℕ) → from ≤ column → now ≡ start ++ map (mark_at number line) (range_with_len from (column - from)) → ch ≡ byte_at line column → next ≡ now ++ (record { ch = ch; line = number; column = column }) ∷ [] → next ≡ start ++ map (mark_at number line) (range_with_len from (column + 1 - from))
push_more start now next number line from column ch h so_far byte pushed =
    let done = map (mark_at number line) (range_with_len from (column - from)) in
    let mark : ℕ → Mark = λ b. record { ch = b; line = number; column = column } in
    pushed
    ∙ ap (λ t. t ++ mark ch ∷ []) so_far
    ∙ append_assoc start done (mark ch ∷ [])
    ∙ ap (λ b. start ++ (done ++ mark b ∷ [])) byte
    ∙ ap (λ t. start ++ t) (sym (marks_more number line from column h))

pub text_is : (bytes : List ℕ) (bad : Option Place) (all : Result (List Mark) Place) → bad ≡ first_bad (numbered_lines bytes) → joined [] (kept (numbered_lines bytes)) ≡ all → source_text bytes ≡ refused_first bad all
unfolding source_text
text_is bytes bad all e f = ap (λ b. refused_first b (joined [] (kept (numbered_lines bytes)))) (sym e) ∙ ap (refused_first bad) f

pub joined_end : (t : List Mark) (n : ℕ) (bs : List ℕ) → length bs ≡ 0 → joined t (kept (enumerate_from n (lines bs))) ≡ closed (open_literal t) t
unfolding joined
joined_end t n [] e = refl
joined_end t n (b ∷ bs) e = absurd (omega arith)
