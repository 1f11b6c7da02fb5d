-- Statements and WHENs read one after the other, as a loop does.
use Rattle.std.proofs.Common.{◌≡◌, ℕ, suc, ◌≤◌, Bool, true, false, List, [], ◌∷◌, ◌++◌, length, map, Option, Some, None, is_some, Result, Ok, Err, refl, sym, ap, subst, ◌∙◌, arith, inl, inr}
use Rattle.cob_tree.specs.declared.keyword.Keyword.TheVariants as word
use Rattle.cob_tree.specs.Symbols.{Sign}
use Rattle.cob_tree.specs.Cues.{Cue, is, Starts, Whens}
use Rattle.cob_tree.specs.Stmt.{Stmt, Stmts, stmts_of, Phrase, left_out, given, more_whens, whens_of, When}
use Rattle.cob_tree.specs.Stmt as stmt
use Rattle.reading.specs.Readers.{Fault, Stop, Deep, Reader, lead_as, lead, seen, behind_on, behind, both_behind_on, both_behind, many, no_step, plus, follow}
use Rattle.reading.specs.Printing.{begins}
use Rattle.reading.proofs.Texts.{next_none}
use Rattle.reading.proofs.Turns.{Turns, turns_start, turns_on, turns_end, turns_fail}
use Rattle.cob_parse_expr.specs.declared.halt.Halt.{Halt}
use Rattle.cob_parse_expr.specs.declared.halt.Halt.TheVariants as halt
use Rattle.cob_parse_expr.specs.Steps.{Fails}
use Rattle.cob_parse_verb.specs.Procedure.{procedure}
use Rattle.cob_parse_proc.specs.Reading.{here, one_word, last, Case, case_with, is_other, more_cases, cases_with, whens_with, whens_in, other_in, when_with, other_with, other_stands, make_stmts}
use Rattle.cob_parse_proc.specs.StmtSteps.{make_chosen}

-- a fault that is the whole's
fails_whole : {A B : Type 0} (h : Halt) (read : Result A Fault) (all : Result B Fault) → ((d : Fault) → read ≡ Err d → all ≡ Err d) → Fails h read → Fails h all
fails_whole halt.Memory read all same f = tt
fails_whole (halt.Stop n) read all same f = same (Stop n) f
fails_whole (halt.Deep n) read all same f = same (Deep n) f

some_left : (c : Cue → Bool) (ts : List Sign) → begins procedure c ts ≡ true → 1 ≤ length ts
some_left c [] e = absurd cc
some_left c (t ∷ ts) e = omega arith

-- ---- statements

module _ (r : Reader Sign Stmt) where
  abbrev starts_here : Unit {0} → List Sign → Bool
  starts_here state = here Starts

  abbrev always : Unit {0} → Reader Sign Stmt
  always state = r

  abbrev pub listed : Reader Sign Stmts
  listed = seen make_stmts (plus (here Starts) r)

  -- what the loop keeps
  pub record Listed (items : List Stmt) (left all : List Sign) : Type 0 where
    pub first : Stmt
    pub others : List Stmt
    pub next : List Sign
    pub parts : items ≡ first ∷ others
    pub begun : r all ≡ Ok (first, next)
    pub kept : Turns starts_here always no_step tt others left (many (here Starts) r next)

  pub listed_wrong : (all : List Sign) (h : Halt) → Fails h (r all) → Fails h (listed all)
  listed_wrong all h f = fails_whole h (r all) (listed all) (λ d e. rw e refl) f

  pub listed_first : (all left : List Sign) (s : Stmt) → r all ≡ Ok (s, left) → Listed (s ∷ []) left all
  listed_first all left s e = record { first = s; others = []; next = left; parts = refl; begun = e; kept = turns_start starts_here always no_step tt left }

  pub listed_on : (items : List Stmt) (left all after : List Sign) (s : Stmt) → Listed items left all → here Starts left ≡ true → r left ≡ Ok (s, after) → suc (length after) ≤ length left → Listed (items ++ s ∷ []) after all
  listed_on items left all after s l there read less = record {
    first = l.first;
    others = l.others ++ s ∷ [];
    next = l.next;
    parts = ap (λ (x : List Stmt). x ++ s ∷ []) l.parts;
    begun = l.begun;
    kept = turns_on starts_here always no_step tt l.others left (many (here Starts) r l.next) l.kept s after there read less;
  }

  pub listed_end : (items : List Stmt) (left all : List Sign) → Listed items left all → here Starts left ≡ false → listed all ≡ Ok (stmts_of items, left)
  listed_end items left all l none =
      rw (l.begun, turns_end starts_here always no_step tt l.others left (many (here Starts) r l.next) l.kept none) (ap (λ (x : List Stmt). Ok (stmts_of x, left)) (sym l.parts))

  pub listed_fail : (items : List Stmt) (left all : List Sign) (h : Halt) → Listed items left all → here Starts left ≡ true → Fails h (r left) → Fails h (listed all)
  listed_fail items left all h l there f = fails_whole h (r left) (listed all) wrong f
    where
      wrong : (d : Fault) → r left ≡ Err d → listed all ≡ Err d
      wrong d e = rw (l.begun, turns_fail starts_here always no_step tt l.others left (many (here Starts) r l.next) l.kept d there e (some_left (is Starts) left there)) refl

-- ---- WHEN OTHER

behind_leads : (f : Sign → Option (Unit {0})) (ts us : List Sign) → behind f ts ≡ Some us → lead f ts ≡ Ok (tt, us)
behind_leads f [] us e = absurd cc
behind_leads f (t ∷ ts) us e = go (f t) e
  where
    go : (o : Option (Unit {0})) → behind_on o ts ≡ Some us → lead_as o t ts ≡ Ok (tt, us)
    go None b = absurd cc
    go (Some x) b = let same : ts ≡ us = cc in ap (λ (z : List Sign). Ok (x, z)) same

both_lead : (f s : Sign → Option (Unit {0})) (ts us : List Sign) → both_behind f s ts ≡ Some us → (mid : List Sign) × (lead f ts ≡ Ok (tt, mid)) × (lead s mid ≡ Ok (tt, us))
both_lead f s [] us e = absurd cc
both_lead f s (t ∷ ts) us e = let w = go (f t) e in (ts, w.0, w.1)
  where
    go : (o : Option (Unit {0})) → both_behind_on o s ts ≡ Some us → (lead_as o t ts ≡ Ok (tt, ts)) × (lead s ts ≡ Ok (tt, us))
    go None b = absurd cc
    go (Some x) b = (refl, behind_leads s ts us b)

one : Unit {0}
one = tt

module _ (inner : Reader Sign Stmts) (ts : List Sign) where
  abbrev last_of : Result (Stmts × List Sign) Fault → Result (Stmts × List Sign) Fault
  last_of r = seen last (follow (λ vs. Ok (one, vs)) (λ x. seen last (follow (λ vs. Ok (one, vs)) (λ y vs. r)))) ts

  same_last : (r : Result (Stmts × List Sign) Fault) → last_of r ≡ r
  same_last (Err d) = refl
  same_last (Ok x) = refl

  pub other_is : (us : List Sign) → both_behind (one_word word.When) (one_word word.Other) ts ≡ Some us → other_with inner ts ≡ inner us
  other_is us e =
      let w = both_lead (one_word word.When) (one_word word.Other) ts us e in
      rw w.1 (rw w.2 (same_last (inner us)))

-- ---- WHENs

abbrev a_when : When → Case
a_when w = inr w

whens_only : (ws : List When) → whens_in (map a_when ws) ≡ whens_of ws
whens_only [] = refl
whens_only (w ∷ ws) = ap (more_whens w) (whens_only ws)

no_other : (ws : List When) → other_in (map a_when ws) ≡ left_out
no_other [] = refl
no_other (w ∷ ws) = no_other ws

whens_before : (ws : List When) (ss : Stmts) → whens_in (map a_when ws ++ inl ss ∷ []) ≡ whens_of ws
whens_before [] ss = refl
whens_before (w ∷ ws) ss = ap (more_whens w) (whens_before ws ss)

other_behind : (ws : List When) (ss : Stmts) → other_in (map a_when ws ++ inl ss ∷ []) ≡ given ss
other_behind [] ss = refl
other_behind (w ∷ ws) ss = other_behind ws ss

map_more : (ws : List When) (w : When) → map a_when (ws ++ w ∷ []) ≡ map a_when ws ++ a_when w ∷ []
map_more [] w = refl
map_more (v ∷ ws) w = ap (λ (x : List Case). a_when v ∷ x) (map_more ws w)

module _ (inner : Reader Sign Stmts) (room : ℕ) where
  abbrev case_begins : Bool → List Sign → Bool
  case_begins ended = begins procedure (more_cases ended)

  abbrev one_case : Bool → Reader Sign Case
  one_case ended = case_with inner room

  abbrev pub chosen : Reader Sign (stmt.Whens × Phrase)
  chosen = seen make_chosen (whens_with inner room)

  -- what the loop keeps
  pub record Chosen (items : List When) (left all : List Sign) : Type 0 where
    pub first : When
    pub others : List When
    pub next : List Sign
    pub parts : items ≡ first ∷ others
    pub begun : when_with inner room all ≡ Ok (first, next)
    pub kept : Turns case_begins one_case is_other false (map a_when others) left (cases_with inner room next)

  pub chosen_wrong : (all : List Sign) (h : Halt) → Fails h (when_with inner room all) → Fails h (chosen all)
  chosen_wrong all h f = fails_whole h (when_with inner room all) (chosen all) (λ d e. rw e refl) f

  pub chosen_first : (all left : List Sign) (w : When) → when_with inner room all ≡ Ok (w, left) → Chosen (w ∷ []) left all
  chosen_first all left w e = record { first = w; others = []; next = left; parts = refl; begun = e; kept = turns_start case_begins one_case is_other false left }

  module _ (items : List When) (left all : List Sign) (c : Chosen items left all) where
    abbrev rest_of : Result (List Case × List Sign) Fault
    rest_of = cases_with inner room c.next

    pub chosen_end : here Whens left ≡ false → chosen all ≡ Ok ((whens_of items, left_out), left)
    chosen_end none =
        rw (c.begun, turns_end case_begins one_case is_other false (map a_when c.others) left rest_of c.kept none, whens_only c.others, no_other c.others, c.parts) refl

    module _ (there : here Whens left ≡ true) where
      case_wrong : (h : Halt) → Fails h (case_with inner room left) → Fails h (chosen all)
      case_wrong h f = fails_whole h (case_with inner room left) (chosen all) wrong f
        where
          wrong : (d : Fault) → case_with inner room left ≡ Err d → chosen all ≡ Err d
          wrong d e = rw (c.begun, turns_fail case_begins one_case is_other false (map a_when c.others) left rest_of c.kept d there e (some_left (is Whens) left there)) refl

      module _ (is_when : other_stands left ≡ false) where
        pub when_on : (w : When) (after : List Sign) → when_with inner room left ≡ Ok (w, after) → suc (length after) ≤ length left → Chosen (items ++ w ∷ []) after all
        when_on w after read less = record {
          first = c.first;
          others = c.others ++ w ∷ [];
          next = c.next;
          parts = ap (λ (x : List When). x ++ w ∷ []) c.parts;
          begun = c.begun;
          kept = subst (λ (x : List Case). Turns case_begins one_case is_other false x after rest_of) (sym (map_more c.others w))
              (turns_on case_begins one_case is_other false (map a_when c.others) left rest_of c.kept (a_when w) after there (rw (is_when, read) refl) less);
        }

        pub when_fail : (h : Halt) → Fails h (when_with inner room left) → Fails h (chosen all)
        when_fail h f = case_wrong h (fails_whole h (when_with inner room left) (case_with inner room left) (λ d e. rw (is_when, e) refl) f)

      module _ (us : List Sign) (opened : both_behind (one_word word.When) (one_word word.Other) left ≡ Some us) where
        stand : other_stands left ≡ true
        stand = ap is_some opened

        pub other_end : (ss : Stmts) (after : List Sign) → inner us ≡ Ok (ss, after) → suc (length after) ≤ length left → chosen all ≡ Ok ((whens_of items, given ss), after)
        other_end ss after read less =
            let on = turns_on case_begins one_case is_other false (map a_when c.others) left rest_of c.kept (inl ss) after there (rw (stand, other_is inner left us opened ∙ read) refl) less in
            rw (c.begun, turns_end case_begins one_case is_other true (map a_when c.others ++ inl ss ∷ []) after rest_of on (next_none procedure after), whens_before c.others ss, other_behind c.others ss, c.parts) refl

        pub other_fail : (h : Halt) → Fails h (inner us) → Fails h (chosen all)
        other_fail h f = case_wrong h (fails_whole h (inner us) (case_with inner room left) (λ d e. rw (stand, other_is inner left us opened ∙ e) refl) f)
