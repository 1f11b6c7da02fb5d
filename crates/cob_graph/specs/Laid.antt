-- A program with the copies that its PERFORMs lay written into it.
use Rattle.std.specs.Prelude.{ℕ, ◌+◌, suc, Bool, true, false, List, [], ◌∷◌}
use Rattle.cob_program.specs.declared.act.Opening.{Opening}
use Rattle.cob_program.specs.Logic.{Logic, all_of, any_of, not_, test, Logics, no_logics, more_logics, logics_of}
use Rattle.cob_program.specs.Act.{Turns, once, times, until, varying}

mutual
  -- its number, and what it does
  pub data Laid : Type 0 where
    MkLaid : ℕ → LaidAct → Laid

  pub data LaidList : Type 0 where
    no_laid : LaidList
    more_laid : Laid → LaidList → LaidList

  pub data LaidPhrase : Type 0 where
    no_phrase : LaidPhrase
    a_phrase : LaidList → LaidPhrase

  pub data LaidAct : Type 0 where
    -- one node, and one way on
    moving : LaidAct
    showing : LaidAct
    skipping : LaidAct
    going : ℕ → LaidAct
    ending : LaidAct
    -- the lists of SIZE ERROR and NOT SIZE ERROR
    computing : LaidPhrase → LaidList → LaidAct
    deciding : Logic → LaidList → LaidList → LaidAct
    choosing : LaidWhens → LaidList → LaidAct
    performing : LaidBody → Turns → LaidAct
    opening : List Opening → LaidAct
    closing : List ℕ → LaidAct
    -- the file, whether INTO stands, the lists of AT END and NOT AT END
    reading : ℕ → Bool → LaidPhrase → LaidList → LaidAct
    -- the file, and whether FROM stands
    writing : ℕ → Bool → LaidAct

  pub data LaidWhens : Type 0 where
    no_laid_whens : LaidWhens
    more_laid_whens : List Logic → LaidList → LaidWhens → LaidWhens

  -- a list of its own, or a copy of paragraphs from one on
  pub data LaidBody : Type 0 where
    own_list : LaidList → LaidBody
    copy : ℕ → LaidParas → LaidBody

  pub data LaidParas : Type 0 where
    no_laid_paras : LaidParas
    more_laid_paras : LaidList → LaidParas → LaidParas

-- ---- how many nodes each has

abbrev mutual
  pub tests_in : Logic → ℕ
  tests_in (all_of ls) = tests_among ls
  tests_in (any_of ls) = tests_among ls
  tests_in (not_ x) = tests_in x
  tests_in (test t) = 1

  pub tests_among : Logics → ℕ
  tests_among no_logics = 0
  tests_among (more_logics x xs) = tests_in x + tests_among xs

abbrev pub one_if : Bool → ℕ
one_if true = 1
one_if false = 0

abbrev pub how_many : {A : Type 0} → List A → ℕ
how_many [] = 0
how_many (x ∷ xs) = suc (how_many xs)

-- the nodes of a loop beside those of its body
abbrev pub loop_nodes : Turns → ℕ
loop_nodes once = 1
loop_nodes (times x) = 3
loop_nodes (until after t) = 1 + tests_in t
loop_nodes (varying after item start by t) = 2 + tests_in t

abbrev mutual
  pub size : Laid → ℕ
  size (MkLaid number a) = act_size a

  pub list_size : LaidList → ℕ
  list_size no_laid = 0
  list_size (more_laid x xs) = size x + list_size xs

  pub phrase_size : LaidPhrase → ℕ
  phrase_size no_phrase = 0
  phrase_size (a_phrase xs) = list_size xs

  pub act_size : LaidAct → ℕ
  act_size moving = 1
  act_size showing = 1
  act_size skipping = 1
  act_size (going p) = 1
  act_size ending = 1
  act_size (computing a b) = 1 + phrase_size a + list_size b
  act_size (deciding t a b) = tests_in t + list_size a + list_size b
  act_size (choosing ws b) = 1 + whens_size ws + list_size b
  act_size (performing body turns) = loop_nodes turns + body_size body
  act_size (opening os) = how_many os
  act_size (closing fs) = how_many fs
  act_size (reading f into a b) = 1 + one_if into + phrase_size a + list_size b
  act_size (writing f from) = 1 + one_if from

  pub whens_size : LaidWhens → ℕ
  whens_size no_laid_whens = 0
  whens_size (more_laid_whens ts xs ws) = tests_among (logics_of ts) + list_size xs + whens_size ws

  pub body_size : LaidBody → ℕ
  body_size (own_list xs) = list_size xs
  body_size (copy first ps) = paras_size ps

  pub paras_size : LaidParas → ℕ
  paras_size no_laid_paras = 0
  paras_size (more_laid_paras xs ps) = list_size xs + paras_size ps
