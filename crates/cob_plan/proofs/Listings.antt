-- A statement that is found by its number stands among those of a plan.
use Rattle.std.proofs.Common.{◌≡◌, ◌⊎◌, inl, inr, ℕ, suc, Bool, true, false, cond, eqb, List, [], ◌∷◌, ◌++◌, map, Option, Some, None, refl, sym, subst}
use Rattle.std.proofs.lemmas.Bool.{eqb-true}
use Rattle.cob_program.specs.Act.{Stmt, MkStmt, Stmts, no_stmts, more_stmts, Phrase, left_out, given, Act, move, arith as arithmetic, if_, evaluate, perform, go, nothing, stop, open_files, close_files, read, write, show, Whens, no_whens, more_whens, MkWhen, Body, range, inline, Para, Program}
use Rattle.cob_program.specs.Statements.{list_statements, phrase_statements, inner_statements, whens_statements, body_statements, paras_statements, program_statements}
use Rattle.cob_runs.specs.Effects.{or_else, act_among, act_in_phrase, act_below, act_in_whens, act_in_body, act_in_paras, act_at}
use Rattle.cob_plan.specs.declared.statement.Statement.{Statement}
use Rattle.cob_plan.specs.Listing.{Listed, plain_statements, listed_at, listed}
use Rattle.cob_plan.specs.Stepping.{IsListed}

module _ (n : ℕ) (a : Act) where
  -- one of the statements has the number
  abbrev Has : List Stmt → Type 0
  Has [] = ⊥
  Has (MkStmt m line b ∷ ss) = (m ≡ n) ⊎ Has ss

  in_left : (xs ys : List Stmt) → Has xs → Has (xs ++ ys)
  in_left [] ys is = absurd is
  in_left (MkStmt m line b ∷ xs) ys (inl here) = inl here
  in_left (MkStmt m line b ∷ xs) ys (inr later) = inr (in_left xs ys later)

  in_right : (xs ys : List Stmt) → Has ys → Has (xs ++ ys)
  in_right [] ys is = is
  in_right (MkStmt m line b ∷ xs) ys is = inr (in_right xs ys is)

  either : (x y : Option Act) (xs ys : List Stmt) → or_else x y ≡ Some a → (x ≡ Some a → Has xs) →
      (y ≡ Some a → Has ys) → Has (xs ++ ys)
  either None y xs ys e first second = in_right xs ys (second e)
  either (Some b) y xs ys e first second = in_left xs ys (first e)

  here_or_later : (x : Bool) (m line : ℕ) (b : Act) (other : Option Act) (later : List Stmt) → eqb n m ≡ x →
      cond x (Some b) other ≡ Some a → (other ≡ Some a → Has later) → Has (MkStmt m line b ∷ later)
  here_or_later true m line b other later same e rest = inl (sym (eqb-true n m same))
  here_or_later false m line b other later same e rest = inr (rest e)

  mutual
    in_list : (ss : Stmts) → act_among n ss ≡ Some a → Has (list_statements ss)
    in_list no_stmts e = absurd (cc)
    in_list (more_stmts (MkStmt m line b) ss) e =
        here_or_later (eqb n m) m line b (or_else (act_below n b) (act_among n ss)) (inner_statements b ++ list_statements ss)
        refl e
        (λ f. either (act_below n b) (act_among n ss) (inner_statements b) (list_statements ss) f (in_act b) (in_list ss))

    in_phrase : (x : Phrase) → act_in_phrase n x ≡ Some a → Has (phrase_statements x)
    in_phrase left_out e = absurd (cc)
    in_phrase (given ss) e = in_list ss e

    in_act : (b : Act) → act_below n b ≡ Some a → Has (inner_statements b)
    in_act (arithmetic s targets remainder size fine) e =
        either (act_in_phrase n size) (act_among n fine) (phrase_statements size) (list_statements fine) e (in_phrase size)
        (in_list fine)
    in_act (if_ t held other) e =
        either (act_among n held) (act_among n other) (list_statements held) (list_statements other) e (in_list held)
        (in_list other)
    in_act (evaluate ws other) e =
        either (act_in_whens n ws) (act_among n other) (whens_statements ws) (list_statements other) e (in_whens ws)
        (in_list other)
    in_act (perform body turns) e = in_body body e
    in_act (read f into end_ fine) e =
        either (act_in_phrase n end_) (act_among n fine) (phrase_statements end_) (list_statements fine) e (in_phrase end_)
        (in_list fine)
    in_act (open_files os) e = absurd (cc)
    in_act (close_files fs) e = absurd (cc)
    in_act (write r from) e = absurd (cc)
    in_act (move x places) e = absurd (cc)
    in_act (go place) e = absurd (cc)
    in_act nothing e = absurd (cc)
    in_act stop e = absurd (cc)
    in_act (show xs) e = absurd (cc)

    in_whens : (ws : Whens) → act_in_whens n ws ≡ Some a → Has (whens_statements ws)
    in_whens no_whens e = absurd (cc)
    in_whens (more_whens (MkWhen tests ss) ws) e =
        either (act_among n ss) (act_in_whens n ws) (list_statements ss) (whens_statements ws) e (in_list ss) (in_whens ws)

    in_body : (b : Body) → act_in_body n b ≡ Some a → Has (body_statements b)
    in_body (range first last) e = absurd (cc)
    in_body (inline ss) e = in_list ss e

  in_paras : (xs : List Para) → act_in_paras n xs ≡ Some a → Has (paras_statements xs)
  in_paras [] e = absurd (cc)
  in_paras (x ∷ xs) e =
      either (act_among n x.body) (act_in_paras n xs) (list_statements x.body) (paras_statements xs) e (in_list x.body)
      (in_paras xs)

  -- ---- as a plan has them

  abbrev HasListed : List Listed → Type 0
  HasListed [] = ⊥
  HasListed (x ∷ xs) = (x.number ≡ n) ⊎ HasListed xs

  as_listed : (ss : List Stmt) → Has ss → HasListed (map listed_at ss)
  as_listed [] h = absurd h
  as_listed (MkStmt m line b ∷ ss) (inl here) = inl here
  as_listed (MkStmt m line b ∷ ss) (inr later) = inr (as_listed ss later)

  one_more : (s : Statement) (ss : List Statement) → IsListed ss n → IsListed (s ∷ ss) n
  one_more s ss h = record { place = suc h.place; statement = h.statement; stands = h.stands; its = h.its }

  in_plan : (ss : List Statement) → HasListed (plain_statements ss) → IsListed ss n
  in_plan [] h = absurd h
  in_plan (s ∷ ss) (inl here) = record { place = 0; statement = s; stands = refl; its = here }
  in_plan (s ∷ ss) (inr later) = one_more s ss (in_plan ss later)

pub is_listed : (p : Program) (statements : List Statement) (n : ℕ) (a : Act) → plain_statements statements ≡ listed p →
    act_at p n ≡ Some a → IsListed statements n
is_listed p statements n a is found_ =
    in_plan n a statements (subst (HasListed n a) (sym is)
    (as_listed n a (program_statements p) (in_paras n a p.paras found_)))
