-- The first node of what is laid stands in the loop only where what is laid does.
use Rattle.std.proofs.Common.{◌≡◌, ◌≤◌, ℕ, zero, suc, ◌+◌, ◌-◌, Bool, true, false, List, [], ◌∷◌, length, refl, sym, ap, subst, ◌∙◌, arith}
use Rattle.cob_program.specs.Logic.{Logic, all_of, any_of, not_, test, Logics, no_logics, more_logics}
use Rattle.cob_program.specs.Act.{Turns, once, times, until, varying, MkStmt, Stmts, no_stmts, more_stmts, Act, move, arith as arithmetic, if_, evaluate, perform, go, nothing, stop, open_files, close_files, read, write, show, Body, range, inline}
use Rattle.cob_runs.specs.Steps.{body_at}
use Rattle.cob_graph.specs.Laid.{MkLaid, LaidList, no_laid, more_laid, LaidPhrase, LaidAct, moving, showing, skipping, going, ending, opening, closing, writing, computing, deciding, choosing, performing, reading, LaidWhens, LaidBody, own_list, copy, LaidParas, no_laid_paras, more_laid_paras, tests_in, tests_among, one_if, how_many, loop_nodes, list_size, phrase_size, act_size, whens_size, body_size, paras_size}
use Rattle.cob_graph.specs.Places.{first_of_list, first_of_paras, first_of_para, first_of_body}
use Rattle.cob_graph.specs.Copies.{AreLaid, IsLaidAct, IsLaidBody, AreLaidParas, file_of}
use Rattle.cob_graph.specs.WellFormed.{Begins, FirstBegins, AreWellFormed, IsWellFormedAct, IsWellFormedBody, IsWellFormed}
use Rattle.cob_graph_laws.proofs.Settling.{whole_in}
use Rattle.std.specs.Prelude.{is_some}
use Rattle.graph_runs.proofs.Inside.{parted, parted_low, nodes_before, in_turns, in_list, in_phrase, in_act, in_whens, in_body, in_paras, Follows, first_place, low, high}
use Rattle.graph_runs.proofs.Entering.{Setting, Below, at_node}

mutual
  pub some_tests : (t : Logic) → Begins t → 1 ≤ tests_in t
  some_tests (all_of ls) h = tests_first ls h
  some_tests (any_of ls) h = tests_first ls h
  some_tests (not_ x) h = some_tests x h
  some_tests (test t) h = omega arith

  tests_first : (ls : Logics) → FirstBegins ls → 1 ≤ tests_among ls
  tests_first no_logics h = absurd h
  tests_first (more_logics x xs) h = omega (arith, some_tests x h)

as_many : {A : Type 0} (xs : List A) → how_many xs ≡ length xs
as_many [] = refl
as_many (x ∷ xs) = ap suc (as_many xs)

-- A statement has a node, and its first one stands where the statement does.
pub record HasFirst (f : ℕ → Bool) (size : ℕ) (b : Bool) : Type 0 where
  pub some : 1 ≤ size
  pub first : f 0 ≡ b

module _ (s : Setting) (b : Bool) (number : ℕ) where
  abbrev First : LaidAct → Type 0
  First x = HasFirst (λ i. in_act s.loop b number x i) (act_size x) b

  as_laid : (x y : LaidAct) → x ≡ y → First y → First x
  as_laid x y e h = subst (λ (z : LaidAct). First z) (sym e) h

  one_node : (size : ℕ) → 1 ≤ size → HasFirst (λ i. b) size b
  one_node size l = record { some = l; first = refl }

  turns_some : (turns : Turns) → (1 ≤ nodes_before turns) × (1 ≤ loop_nodes turns)
  turns_some once = (omega arith, omega arith)
  turns_some (times v) = (omega arith, omega arith)
  turns_some (until false t) = (omega arith, omega arith)
  turns_some (until true t) = (omega arith, omega arith)
  turns_some (varying false i from by t) = (omega arith, omega arith)
  turns_some (varying true i from by t) = (omega arith, omega arith)

  turns_first : (turns : Turns) (x : LaidBody) → First (performing x turns)
  turns_first turns x =
      let inner = in_turns s.loop b number turns in
      record {
        some = omega (arith, (turns_some turns).1);
        first = parted_low (nodes_before turns) (λ j. b)
            (λ j. parted (body_size x) (λ k. in_body s.loop inner x k) (λ k. inner) j) 0
            (omega (arith, (turns_some turns).0));
      }

  act_first : (lo hi : ℕ) (a : Act) (x : LaidAct) → IsWellFormedAct s.p a → IsLaidAct s.p lo hi a x → First x
  act_first lo hi (move v places) x whole laid = as_laid x moving laid (one_node 1 (omega arith))
  act_first lo hi (show vs) x whole laid = as_laid x showing laid (one_node 1 (omega arith))
  act_first lo hi nothing x whole laid = as_laid x skipping laid (one_node 1 (omega arith))
  act_first lo hi (go t) x whole laid = as_laid x (going t) laid.0 (one_node 1 (omega arith))
  act_first lo hi stop x whole laid = as_laid x ending laid (one_node 1 (omega arith))
  act_first lo hi (open_files os) x whole laid =
      as_laid x (opening os) laid (one_node (how_many os) (omega (arith, as_many os, whole)))
  act_first lo hi (close_files fs) x whole laid =
      as_laid x (closing fs) laid (one_node (how_many fs) (omega (arith, as_many fs, whole)))
  act_first lo hi (write r from) x whole laid =
      as_laid x (writing (file_of s.p r) (is_some from)) laid (one_node (1 + one_if (is_some from)) (omega arith))
  act_first lo hi (arithmetic sum targets remainder size fine) (computing x xs) whole laid =
      record { some = omega arith; first = refl }
  act_first lo hi (if_ t held other) (deciding u xs ys) whole laid =
      let some = some_tests u (subst Begins laid.0 whole.0) in
      record {
        some = omega (arith, some);
        first = parted_low (tests_in u) (λ j. b)
            (λ j. parted (list_size xs) (λ k. in_list s.loop b xs k) (λ k. in_list s.loop b ys k) j) 0
            (omega (arith, some));
      }
  act_first lo hi (evaluate ws other) (choosing us xs) whole laid = record { some = omega arith; first = refl }
  act_first lo hi (perform body turns) (performing x t) whole laid = turns_first t x
  act_first lo hi (read f into end fine) (reading g i x xs) whole laid = reading_first i g x xs
    where
      reading_first : (i : Bool) (g : ℕ) (x : LaidPhrase) (xs : LaidList) → First (reading g i x xs)
      reading_first true g x xs = record { some = omega arith; first = refl }
      reading_first false g x xs = record { some = omega arith; first = refl }
  act_first lo hi (arithmetic sum targets remainder size fine) x whole laid = absurd laid
  act_first lo hi (if_ t held other) x whole laid = absurd laid
  act_first lo hi (evaluate ws other) x whole laid = absurd laid
  act_first lo hi (perform body turns) x whole laid = absurd laid
  act_first lo hi (read f into end fine) x whole laid = absurd laid

module _ (s : Setting) (b : Bool) where
  abbrev pub ListAt : ℕ → LaidList → Type 0
  ListAt at xs = Follows s.inside at (list_size xs) (λ i. in_list s.loop b xs i)

  abbrev pub ActAt : ℕ → ℕ → LaidAct → Type 0
  ActAt at number x = Follows s.inside at (act_size x) (λ i. in_act s.loop b number x i)

  abbrev pub PhraseAt : ℕ → LaidPhrase → Type 0
  PhraseAt at x = Follows s.inside at (phrase_size x) (λ i. in_phrase s.loop b x i)

  abbrev pub WhensAt : ℕ → LaidWhens → Type 0
  WhensAt at ws = Follows s.inside at (whens_size ws) (λ i. in_whens s.loop b ws i)

  abbrev pub BodyAt : ℕ → LaidBody → Type 0
  BodyAt at x = Follows s.inside at (body_size x) (λ i. in_body s.loop b x i)

  abbrev pub ParasAt : ℕ → LaidParas → Type 0
  ParasAt at ps = Follows s.inside at (paras_size ps) (λ i. in_paras s.loop b ps i)

  -- ---- parts of lists

  pub head_of : (at number : ℕ) (x : LaidAct) (xs : LaidList) → ListAt at (more_laid (MkLaid number x) xs) →
      ActAt at number x
  head_of at number x xs h =
      low s.inside at (act_size x + list_size xs) (act_size x) (λ j. in_act s.loop b number x j)
      (λ j. in_list s.loop b xs j) h (omega arith)

  pub tail_of : (at number : ℕ) (x : LaidAct) (xs : LaidList) → ListAt at (more_laid (MkLaid number x) xs) →
      ListAt (at + act_size x) xs
  tail_of at number x xs h =
      high s.inside at (act_size x + list_size xs) (act_size x) (λ j. in_act s.loop b number x j)
      (λ j. in_list s.loop b xs j) h (list_size xs) (omega arith)

  pub para_of : (at : ℕ) (xs : LaidList) (ps : LaidParas) → ParasAt at (more_laid_paras xs ps) → ListAt at xs
  para_of at xs ps h =
      low s.inside at (list_size xs + paras_size ps) (list_size xs) (λ j. in_list s.loop b xs j)
      (λ j. in_paras s.loop b ps j) h (omega arith)

  pub paras_of : (at : ℕ) (xs : LaidList) (ps : LaidParas) → ParasAt at (more_laid_paras xs ps) →
      ParasAt (at + list_size xs) ps
  paras_of at xs ps h =
      high s.inside at (list_size xs + paras_size ps) (list_size xs) (λ j. in_list s.loop b xs j)
      (λ j. in_paras s.loop b ps j) h (paras_size ps) (omega arith)

  -- ---- first nodes

  module _ (lo hi : ℕ) where
    pub first_list : (ss : Stmts) (xs : LaidList) (at next : ℕ) → AreWellFormed s.p ss → AreLaid s.p lo hi ss xs →
        ListAt at xs → Below s b next → Below s b (first_of_list xs at next)
    first_list ss no_laid at next whole laid h k = k
    first_list no_stmts (more_laid x xs) at next whole laid h k = absurd laid
    first_list (more_stmts (MkStmt number line a) ss) (more_laid (MkLaid n x) xs) at next whole laid h k =
        let f = act_first s b n lo hi a x whole.1 laid.0.1 in
        at_node s at b
        (first_place s.inside at (act_size x) (λ i. in_act s.loop b n x i) (head_of at n x xs h) f.some ∙ f.first)

    pub first_paras : (whole : IsWellFormed s.p) (from count : ℕ) (ps : LaidParas) (at next : ℕ) →
        AreLaidParas s.p lo hi from count ps → ParasAt at ps → Below s b next → Below s b (first_of_paras ps at next)
    first_paras whole from count no_laid_paras at next laid h k = k
    first_paras whole from zero (more_laid_paras xs ps) at next laid h k = absurd laid
    first_paras whole from (suc count) (more_laid_paras xs ps) at next laid h k =
        first_list (body_at s.p from) xs at (first_of_paras ps (at + list_size xs) next)
        (whole_in s.p s.p.paras from whole) laid.0 (para_of at xs ps h)
        (first_paras whole (suc from) count ps (at + list_size xs) next laid.1 (paras_of at xs ps h) k)

    pub first_para : (whole : IsWellFormed s.p) (n from count : ℕ) (ps : LaidParas) (at next : ℕ) →
        AreLaidParas s.p lo hi from count ps → ParasAt at ps → Below s b next → Below s b (first_of_para n ps at next)
    first_para whole zero from count ps at next laid h k = first_paras whole from count ps at next laid h k
    first_para whole (suc n) from count no_laid_paras at next laid h k = k
    first_para whole (suc n) from zero (more_laid_paras xs ps) at next laid h k = absurd laid
    first_para whole (suc n) from (suc count) (more_laid_paras xs ps) at next laid h k =
        first_para whole n (suc from) count ps (at + list_size xs) next laid.1 (paras_of at xs ps h) k

  pub first_body : (whole : IsWellFormed s.p) (lo hi : ℕ) (body : Body) (x : LaidBody) (at next : ℕ) →
      IsWellFormedBody s.p body → IsLaidBody s.p lo hi body x → BodyAt at x → Below s b next →
      Below s b (first_of_body x at next)
  first_body whole lo hi (inline ss) (own_list xs) at next own laid h k = first_list lo hi ss xs at next own laid h k
  first_body whole lo hi (range first last) (copy n ps) at next own laid h k =
      first_paras first last whole first (suc last - first) ps at next laid.1 h k
  first_body whole lo hi (inline ss) (copy n ps) at next own laid h k = absurd laid
  first_body whole lo hi (range first last) (own_list xs) at next own laid h k = absurd laid
