-- What is found by its number stands in the list of the program's statements, and what stands there is found.
use Rattle.std.proofs.Common.{◌≡◌, inl, inr, ℕ, Bool, true, false, cond, eqb, List, [], ◌∷◌, ◌++◌, Option, Some, None, refl}
use Rattle.std.specs.List.{AllByRecursion}
use Rattle.std.proofs.lemmas.Bool.{eqb-true}
use Rattle.std.proofs.lemmas.Option.{same_Some}
use Rattle.cob_program.specs.Act.{Stmt, MkStmt, Stmts, no_stmts, more_stmts, Phrase, left_out, given, Act, move, arith as arith_, if_, evaluate, perform, go, nothing, stop, open_files, close_files, read, write, show, Whens, no_whens, more_whens, MkWhen, Body, range, inline, Para, Program}
use Rattle.cob_program.specs.Statements.{list_statements, phrase_statements, inner_statements, whens_statements, body_statements, paras_statements}
use Rattle.cob_runs.specs.Effects.{or_else, act_among, act_in_phrase, act_below, act_in_whens, act_in_body, act_in_paras}
use Rattle.cob_graph.specs.WellFormed.{AreWellFormed, IsWellFormedPhrase, IsWellFormedAct, AreWellFormedWhens, IsWellFormedBody, AreWellFormedParas}
use Rattle.data_laws.specs.Statements.{IsIn, IsFound, FoundIsListed, ListedIsFound}

-- ---- what is found is listed

module _ (n : ℕ) (a : Act) where
  abbrev In : List Stmt → Type 0
  In ss = IsIn n a ss

  in_left : (xs ys : List Stmt) → In xs → In (xs ++ ys)
  in_left [] ys is = absurd is
  in_left (MkStmt m line b ∷ xs) ys (inl here) = inl here
  in_left (MkStmt m line b ∷ xs) ys (inr later) = inr (in_left xs ys later)

  in_right : (xs ys : List Stmt) → In ys → In (xs ++ ys)
  in_right [] ys is = is
  in_right (MkStmt m line b ∷ xs) ys is = inr (in_right xs ys is)

  either : (x y : Option Act) (xs ys : List Stmt) → or_else x y ≡ Some a → (x ≡ Some a → In xs) → (y ≡ Some a → In ys) → In (xs ++ ys)
  either None y xs ys e first second = in_right xs ys (second e)
  either (Some b) y xs ys e first second = in_left xs ys (first e)

  here_or_later : (x : Bool) (m line : ℕ) (b : Act) (other : Option Act) (later : List Stmt) → eqb n m ≡ x → cond x (Some b) other ≡ Some a →
      (other ≡ Some a → In later) → In (MkStmt m line b ∷ later)
  here_or_later true m line b other later same e rest = inl (eqb-true n m same, same_Some _ _ e)
  here_or_later false m line b other later same e rest = inr (rest e)

  mutual
    in_list : (ss : Stmts) → act_among n ss ≡ Some a → In (list_statements ss)
    in_list no_stmts e = absurd (cc)
    in_list (more_stmts (MkStmt m line b) ss) e =
        here_or_later (eqb n m) m line b (or_else (act_below n b) (act_among n ss)) (inner_statements b ++ list_statements ss) refl e
        (λ f. either (act_below n b) (act_among n ss) (inner_statements b) (list_statements ss) f (in_act b) (in_list ss))

    in_phrase : (x : Phrase) → act_in_phrase n x ≡ Some a → In (phrase_statements x)
    in_phrase left_out e = absurd (cc)
    in_phrase (given ss) e = in_list ss e

    in_act : (b : Act) → act_below n b ≡ Some a → In (inner_statements b)
    in_act (arith_ s targets remainder size fine) e =
        either (act_in_phrase n size) (act_among n fine) (phrase_statements size) (list_statements fine) e (in_phrase size) (in_list fine)
    in_act (if_ t held other) e = either (act_among n held) (act_among n other) (list_statements held) (list_statements other) e (in_list held) (in_list other)
    in_act (evaluate ws other) e =
        either (act_in_whens n ws) (act_among n other) (whens_statements ws) (list_statements other) e (in_whens ws) (in_list other)
    in_act (perform body turns) e = in_body body e
    in_act (read f into end fine) e =
        either (act_in_phrase n end) (act_among n fine) (phrase_statements end) (list_statements fine) e (in_phrase end) (in_list fine)
    in_act (open_files os) e = absurd (cc)
    in_act (close_files fs) e = absurd (cc)
    in_act (write r from) e = absurd (cc)
    in_act (move x places) e = absurd (cc)
    in_act (go place) e = absurd (cc)
    in_act nothing e = absurd (cc)
    in_act stop e = absurd (cc)
    in_act (show xs) e = absurd (cc)

    in_whens : (ws : Whens) → act_in_whens n ws ≡ Some a → In (whens_statements ws)
    in_whens no_whens e = absurd (cc)
    in_whens (more_whens (MkWhen tests ss) ws) e =
        either (act_among n ss) (act_in_whens n ws) (list_statements ss) (whens_statements ws) e (in_list ss) (in_whens ws)

    in_body : (b : Body) → act_in_body n b ≡ Some a → In (body_statements b)
    in_body (range first last) e = absurd (cc)
    in_body (inline ss) e = in_list ss e

  in_paras : (xs : List Para) → act_in_paras n xs ≡ Some a → In (paras_statements xs)
  in_paras [] e = absurd (cc)
  in_paras (x ∷ xs) e =
      either (act_among n x.body) (act_in_paras n xs) (list_statements x.body) (paras_statements xs) e (in_list x.body) (in_paras xs)

pub found_is_listed : FoundIsListed
found_is_listed p n a e = in_paras n a p.paras e

-- ---- what is listed is found

module _ (p : Program) where
  abbrev AreFound : List Stmt → Type 0
  AreFound ss = AllByRecursion (IsFound p) ss

  two : (xs ys : List Stmt) → AreFound xs → AreFound ys → AreFound (xs ++ ys)
  two [] ys first second = second
  two (x ∷ xs) ys first second = (first.0, two xs ys first.1 second)

  mutual
    found_list : (ss : Stmts) → AreWellFormed p ss → AreFound (list_statements ss)
    found_list no_stmts whole = tt
    found_list (more_stmts (MkStmt n line a) ss) whole =
        (whole.0, two (inner_statements a) (list_statements ss) (found_act a whole.1) (found_list ss whole.2))

    found_given : (x : Phrase) → IsWellFormedPhrase p x → AreFound (phrase_statements x)
    found_given left_out whole = tt
    found_given (given ss) whole = found_list ss whole

    found_act : (a : Act) → IsWellFormedAct p a → AreFound (inner_statements a)
    found_act (arith_ s targets remainder size fine) whole =
        two (phrase_statements size) (list_statements fine) (found_given size whole.0) (found_list fine whole.1)
    found_act (if_ t held other) whole = two (list_statements held) (list_statements other) (found_list held whole.1) (found_list other whole.2)
    found_act (evaluate ws other) whole = two (whens_statements ws) (list_statements other) (found_when ws whole.0) (found_list other whole.1)
    found_act (perform body turns) whole = found_inline body whole.1
    found_act (read f into end fine) whole =
        two (phrase_statements end) (list_statements fine) (found_given end whole.0) (found_list fine whole.1)
    found_act (open_files os) whole = tt
    found_act (close_files fs) whole = tt
    found_act (write r from) whole = tt
    found_act (move x places) whole = tt
    found_act (go place) whole = tt
    found_act nothing whole = tt
    found_act stop whole = tt
    found_act (show xs) whole = tt

    found_when : (ws : Whens) → AreWellFormedWhens p ws → AreFound (whens_statements ws)
    found_when no_whens whole = tt
    found_when (more_whens (MkWhen tests ss) ws) whole =
        two (list_statements ss) (whens_statements ws) (found_list ss whole.0) (found_when ws whole.1)

    found_inline : (b : Body) → IsWellFormedBody p b → AreFound (body_statements b)
    found_inline (range first last) whole = tt
    found_inline (inline ss) whole = found_list ss whole

  found_paras : (xs : List Para) → AreWellFormedParas p xs → AreFound (paras_statements xs)
  found_paras [] whole = tt
  found_paras (x ∷ xs) whole = two (list_statements x.body) (paras_statements xs) (found_list x.body whole.0) (found_paras xs whole.1)

pub listed_is_found : ListedIsFound
listed_is_found p whole = found_paras p p.paras whole
