-- Which nodes stand in a loop: those of the body of the TIMES with a number, and those that count it down.
use Rattle.std.proofs.Common.{◌≡◌, ◌<◌, ◌≤◌, ℕ, ◌+◌, ◌-◌, ◌==◌, ◌||◌, Bool, true, false, ap, ◌∙◌, arith}
use Rattle.std.specs.Prelude.{if◌then◌else◌, nat_lt}
use Rattle.std.proofs.lemmas.Bool.{lt-ltb, le-ltb}
use Rattle.cob_program.specs.Logic.{logics_of}
use Rattle.cob_program.specs.Act.{Turns, once, times, until, varying}
use Rattle.cob_graph.specs.Laid.{LaidList, MkLaid, no_laid, more_laid, LaidPhrase, no_phrase, a_phrase, LaidAct, computing, deciding, choosing, performing, reading, LaidWhens, no_laid_whens, more_laid_whens, LaidBody, own_list, copy, LaidParas, no_laid_paras, more_laid_paras, tests_in, tests_among, one_if, list_size, phrase_size, act_size, whens_size, body_size, paras_size}

-- the first so many places as the one says, those behind them as the other
abbrev pub parted : ℕ → (ℕ → Bool) → (ℕ → Bool) → ℕ → Bool
parted n f g i = if nat_lt i n then f i else g (i - n)

-- the nodes of a PERFORM before those of its body
abbrev pub nodes_before : Turns → ℕ
nodes_before once = 1
nodes_before (times x) = 2
nodes_before (until false t) = 1 + tests_in t
nodes_before (until true t) = 1
nodes_before (varying false item start by t) = 1 + tests_in t
nodes_before (varying true item start by t) = 1

-- By the place among the nodes of what is laid, and by whether that stands in the loop.
module _ (loop : ℕ) where
  -- whether the body of a PERFORM stands in it
  abbrev pub in_turns : Bool → ℕ → Turns → Bool
  in_turns b number (times x) = b || number == loop
  in_turns b number _ = b

  abbrev mutual
    pub in_list : Bool → LaidList → ℕ → Bool
    in_list b no_laid i = b
    in_list b (more_laid (MkLaid number x) xs) i =
        parted (act_size x) (λ j. in_act b number x j) (λ j. in_list b xs j) i

    pub in_phrase : Bool → LaidPhrase → ℕ → Bool
    in_phrase b no_phrase i = b
    in_phrase b (a_phrase xs) i = in_list b xs i

    pub in_act : Bool → ℕ → LaidAct → ℕ → Bool
    in_act b number (computing x xs) i =
        parted 1 (λ j. b) (λ j. parted (phrase_size x) (λ k. in_phrase b x k) (λ k. in_list b xs k) j) i
    in_act b number (deciding t xs ys) i =
        parted (tests_in t) (λ j. b) (λ j. parted (list_size xs) (λ k. in_list b xs k) (λ k. in_list b ys k) j) i
    in_act b number (choosing ws xs) i =
        parted 1 (λ j. b) (λ j. parted (whens_size ws) (λ k. in_whens b ws k) (λ k. in_list b xs k) j) i
    in_act b number (performing x turns) i =
        parted (nodes_before turns) (λ j. b)
        (λ j. parted (body_size x) (λ k. in_body (in_turns b number turns) x k) (λ k. in_turns b number turns) j) i
    in_act b number (reading file into x xs) i =
        parted (1 + one_if into) (λ j. b)
        (λ j. parted (phrase_size x) (λ k. in_phrase b x k) (λ k. in_list b xs k) j) i
    in_act b number _ i = b

    pub in_whens : Bool → LaidWhens → ℕ → Bool
    in_whens b no_laid_whens i = b
    in_whens b (more_laid_whens ts xs ws) i =
        parted (tests_among (logics_of ts)) (λ j. b)
        (λ j. parted (list_size xs) (λ k. in_list b xs k) (λ k. in_whens b ws k) j) i

    pub in_body : Bool → LaidBody → ℕ → Bool
    in_body b (own_list xs) i = in_list b xs i
    in_body b (copy first ps) i = in_paras b ps i

    pub in_paras : Bool → LaidParas → ℕ → Bool
    in_paras b no_laid_paras i = b
    in_paras b (more_laid_paras xs ps) i = parted (list_size xs) (λ j. in_list b xs j) (λ j. in_paras b ps j) i

  -- by the number of a node of the main copy, in which the final node stands last
  abbrev pub is_inside : LaidParas → ℕ → Bool
  is_inside ps n = parted (paras_size ps) (λ i. in_paras false ps i) (λ i. false) (n - 1)

-- ---- places of a run of nodes

-- the nodes from one on, so many, stand inside as the function says
abbrev pub Follows : (ℕ → Bool) → ℕ → ℕ → (ℕ → Bool) → Type 0
Follows inside at size f = (i : ℕ) → i < size → inside (at + i) ≡ f i

pub parted_low : (n : ℕ) (f g : ℕ → Bool) (i : ℕ) → i < n → parted n f g i ≡ f i
parted_low n f g i l = ap (λ b. if b then f i else g (i - n)) (lt-ltb i n l)

parted_high : (n : ℕ) (f g : ℕ → Bool) (i : ℕ) → parted n f g (n + i) ≡ g i
parted_high n f g i =
    let same : n + i - n ≡ i = omega arith in
    ap (λ b. if b then f (n + i) else g (n + i - n)) (le-ltb (n + i) n (omega arith)) ∙ ap g same

module _ (inside : ℕ → Bool) (at size n : ℕ) (f g : ℕ → Bool) (h : Follows inside at size (λ i. parted n f g i)) where
  pub low : n ≤ size → Follows inside at n f
  low l i k = h i (omega (arith, l, k)) ∙ parted_low n f g i k

  pub high : (m : ℕ) → n + m ≤ size → Follows inside (at + n) m g
  high m l i k =
      let same : at + n + i ≡ at + (n + i) = omega arith in
      ap inside same ∙ h (n + i) (omega (arith, l, k)) ∙ parted_high n f g i

pub first_place : (inside : ℕ → Bool) (at size : ℕ) (f : ℕ → Bool) → Follows inside at size f → 1 ≤ size →
    inside at ≡ f 0
first_place inside at size f h l =
    let same : at ≡ at + 0 = omega arith in
    ap inside same ∙ h 0 (omega (arith, l))

module _ (inside : ℕ → Bool) (b : Bool) where
  -- nodes alike
  abbrev pub Alike : ℕ → ℕ → Type 0
  Alike at n = Follows inside at n (λ i. b)

  pub first_alike : (at size : ℕ) → 1 ≤ size → Alike at size → inside at ≡ b
  first_alike at size l h = first_place inside at size (λ i. b) h l

  pub alike_front : (at size n : ℕ) → n ≤ size → Alike at size → Alike at n
  alike_front at size n l h i k = h i (omega (arith, l, k))

  pub alike_back : (at size n m : ℕ) → n + m ≤ size → Alike at size → Alike (at + n) m
  alike_back at size n m l h i k =
      let same : at + n + i ≡ at + (n + i) = omega arith in
      ap inside same ∙ h (n + i) (omega (arith, l, k))
