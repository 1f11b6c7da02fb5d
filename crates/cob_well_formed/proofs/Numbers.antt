-- Statements whose numbers go up from one on are found by these.
use Rattle.std.proofs.Common.{◌≡◌, ◌==◌, ℕ, ◌<◌, ◌≤◌, suc, Bool, true, false, eqb, List, [], ◌∷◌, length, Option, Some, None, is_some, refl, subst, ◌∙◌, arith}
use Rattle.std.specs.Prelude.{if◌then◌else◌}
use Rattle.std.proofs.lemmas.Bool.{ne_eqb, eq-eqb}
use Rattle.std.proofs.lemmas.Option.{none-some, same_Some}
use Rattle.cob_data.specs.declared.layout.Layout.{Layout}
use Rattle.cob_program.specs.Act.{MkStmt, Stmts, no_stmts, more_stmts, Phrase, left_out, given, Act, move, arith as arith_, if_, evaluate, perform, go, nothing, stop, open_files, close_files, read, write, show, Whens, no_whens, more_whens, MkWhen, Body, range, inline, Para, Program}
use Rattle.cob_runs.specs.Acts.{file_from}
use Rattle.cob_runs.specs.Effects.{or_else, act_among, act_in_phrase, act_below, act_in_whens, act_in_body, act_in_paras, act_at}
use Rattle.cob_graph.specs.WellFormed.{Begins, IsWellFormedTurns, AreWellFormed, IsWellFormedPhrase, IsWellFormedAct, AreWellFormedWhens, IsWellFormedBody, AreWellFormedParas, IsWellFormed}
use Rattle.cob_interp.specs.Able.{NamesFiles, HasItsFiles}

-- ---- what is well-formed and names files of the layout, with numbers from lo on to before hi

module _ (l : Layout) where
  abbrev mutual
    pub Good : ℕ → ℕ → Stmts → Type 0
    Good lo hi no_stmts = lo ≡ hi
    Good lo hi (more_stmts (MkStmt n line a) ss) =
        (mid : ℕ) × (n ≡ lo) × GoodAct (suc lo) mid a × Good mid hi ss × NamesFiles l a

    pub GoodPhrase : ℕ → ℕ → Phrase → Type 0
    GoodPhrase lo hi left_out = lo ≡ hi
    GoodPhrase lo hi (given ss) = Good lo hi ss

    pub GoodAct : ℕ → ℕ → Act → Type 0
    GoodAct lo hi (arith_ s targets remainder size fine) = (mid : ℕ) × GoodPhrase lo mid size × Good mid hi fine
    GoodAct lo hi (if_ t held other) = (mid : ℕ) × Begins t × Good lo mid held × Good mid hi other
    GoodAct lo hi (evaluate ws other) = (mid : ℕ) × GoodWhens lo mid ws × Good mid hi other
    GoodAct lo hi (perform body turns) = IsWellFormedTurns turns × GoodBody lo hi body
    GoodAct lo hi (open_files os) = (1 ≤ length os) × (lo ≡ hi)
    GoodAct lo hi (close_files fs) = (1 ≤ length fs) × (lo ≡ hi)
    GoodAct lo hi (read f into end fine) = (mid : ℕ) × GoodPhrase lo mid end × Good mid hi fine
    GoodAct lo hi (write r from) = (is_some (file_from l 0 l.files r) ≡ true) × (lo ≡ hi)
    GoodAct lo hi _ = lo ≡ hi

    pub GoodWhens : ℕ → ℕ → Whens → Type 0
    GoodWhens lo hi no_whens = lo ≡ hi
    GoodWhens lo hi (more_whens (MkWhen tests ss) ws) = (mid : ℕ) × Good lo mid ss × GoodWhens mid hi ws

    pub GoodBody : ℕ → ℕ → Body → Type 0
    GoodBody lo hi (range first last) = lo ≡ hi
    GoodBody lo hi (inline ss) = Good lo hi ss

  abbrev pub GoodParas : ℕ → ℕ → List Para → Type 0
  GoodParas lo hi [] = lo ≡ hi
  GoodParas lo hi (x ∷ xs) = (mid : ℕ) × Good lo mid x.body × GoodParas mid hi xs

  -- ---- numbers go up

  mutual
    low : (lo hi : ℕ) (ss : Stmts) → Good lo hi ss → lo ≤ hi
    low lo hi no_stmts g = omega (arith, g)
    low lo hi (more_stmts (MkStmt n line a) ss) g = omega (arith, low_act (suc lo) g.0 a g.2, low g.0 hi ss g.3)

    low_phrase : (lo hi : ℕ) (x : Phrase) → GoodPhrase lo hi x → lo ≤ hi
    low_phrase lo hi left_out g = omega (arith, g)
    low_phrase lo hi (given ss) g = low lo hi ss g

    low_act : (lo hi : ℕ) (a : Act) → GoodAct lo hi a → lo ≤ hi
    low_act lo hi (arith_ s targets remainder size fine) g = omega (arith, low_phrase lo g.0 size g.1, low g.0 hi fine g.2)
    low_act lo hi (if_ t held other) g = omega (arith, low lo g.0 held g.2, low g.0 hi other g.3)
    low_act lo hi (evaluate ws other) g = omega (arith, low_whens lo g.0 ws g.1, low g.0 hi other g.2)
    low_act lo hi (perform body turns) g = low_body lo hi body g.1
    low_act lo hi (open_files os) g = omega (arith, g.1)
    low_act lo hi (close_files fs) g = omega (arith, g.1)
    low_act lo hi (read f into end fine) g = omega (arith, low_phrase lo g.0 end g.1, low g.0 hi fine g.2)
    low_act lo hi (write r from) g = omega (arith, g.1)
    low_act lo hi (move x places) g = omega (arith, g)
    low_act lo hi (go place) g = omega (arith, g)
    low_act lo hi nothing g = omega (arith, g)
    low_act lo hi stop g = omega (arith, g)
    low_act lo hi (show xs) g = omega (arith, g)

    low_whens : (lo hi : ℕ) (ws : Whens) → GoodWhens lo hi ws → lo ≤ hi
    low_whens lo hi no_whens g = omega (arith, g)
    low_whens lo hi (more_whens (MkWhen tests ss) ws) g = omega (arith, low lo g.0 ss g.1, low_whens g.0 hi ws g.2)

    low_body : (lo hi : ℕ) (b : Body) → GoodBody lo hi b → lo ≤ hi
    low_body lo hi (range first last) g = omega (arith, g)
    low_body lo hi (inline ss) g = low lo hi ss g

  low_paras : (lo hi : ℕ) (xs : List Para) → GoodParas lo hi xs → lo ≤ hi
  low_paras lo hi [] g = omega (arith, g)
  low_paras lo hi (x ∷ xs) g = omega (arith, low lo g.0 x.body g.1, low_paras g.0 hi xs g.2)

  -- ---- a number outside is not found

  or_second : (x y : Option Act) → x ≡ None → or_else x y ≡ y
  or_second None y e = refl
  or_second (Some a) y e = absurd (cc)

  or_first : (x y : Option Act) → y ≡ None → or_else x y ≡ x
  or_first None y e = e
  or_first (Some a) y e = refl

  neither : (x y : Option Act) → x ≡ None → y ≡ None → or_else x y ≡ None
  neither x y e f = or_second x y e ∙ f

  abbrev IsOut : ℕ → ℕ → ℕ → Type 0
  IsOut m lo hi = lo ≤ m → m < hi → ⊥

  mutual
    absent : (m lo hi : ℕ) (ss : Stmts) → Good lo hi ss → IsOut m lo hi → act_among m ss ≡ None
    absent m lo hi no_stmts g out = refl
    absent m lo hi (more_stmts (MkStmt n line a) ss) g out =
        let here = low_act (suc lo) g.0 a g.2 in
        let later = low g.0 hi ss g.3 in
        let other : eqb m n ≡ false = ne_eqb m n (λ e. out (omega (arith, e, g.1)) (omega (arith, e, g.1, here, later))) in
        rw other
        (neither (act_below m a) (act_among m ss)
        (absent_act m (suc lo) g.0 a g.2 (λ x y. out (omega (arith, x)) (omega (arith, y, later))))
        (absent m g.0 hi ss g.3 (λ x y. out (omega (arith, x, here)) y)))

    absent_phrase : (m lo hi : ℕ) (x : Phrase) → GoodPhrase lo hi x → IsOut m lo hi → act_in_phrase m x ≡ None
    absent_phrase m lo hi left_out g out = refl
    absent_phrase m lo hi (given ss) g out = absent m lo hi ss g out

    absent_act : (m lo hi : ℕ) (a : Act) → GoodAct lo hi a → IsOut m lo hi → act_below m a ≡ None
    absent_act m lo hi (arith_ s targets remainder size fine) g out =
        let here = low_phrase lo g.0 size g.1 in
        let later = low g.0 hi fine g.2 in
        neither (act_in_phrase m size) (act_among m fine)
        (absent_phrase m lo g.0 size g.1 (λ x y. out x (omega (arith, y, later))))
        (absent m g.0 hi fine g.2 (λ x y. out (omega (arith, x, here)) y))
    absent_act m lo hi (if_ t held other) g out =
        let here = low lo g.0 held g.2 in
        let later = low g.0 hi other g.3 in
        neither (act_among m held) (act_among m other)
        (absent m lo g.0 held g.2 (λ x y. out x (omega (arith, y, later))))
        (absent m g.0 hi other g.3 (λ x y. out (omega (arith, x, here)) y))
    absent_act m lo hi (evaluate ws other) g out =
        let here = low_whens lo g.0 ws g.1 in
        let later = low g.0 hi other g.2 in
        neither (act_in_whens m ws) (act_among m other)
        (absent_whens m lo g.0 ws g.1 (λ x y. out x (omega (arith, y, later))))
        (absent m g.0 hi other g.2 (λ x y. out (omega (arith, x, here)) y))
    absent_act m lo hi (perform body turns) g out = absent_body m lo hi body g.1 out
    absent_act m lo hi (open_files os) g out = refl
    absent_act m lo hi (close_files fs) g out = refl
    absent_act m lo hi (read f into end fine) g out =
        let here = low_phrase lo g.0 end g.1 in
        let later = low g.0 hi fine g.2 in
        neither (act_in_phrase m end) (act_among m fine)
        (absent_phrase m lo g.0 end g.1 (λ x y. out x (omega (arith, y, later))))
        (absent m g.0 hi fine g.2 (λ x y. out (omega (arith, x, here)) y))
    absent_act m lo hi (write r from) g out = refl
    absent_act m lo hi (move x places) g out = refl
    absent_act m lo hi (go place) g out = refl
    absent_act m lo hi nothing g out = refl
    absent_act m lo hi stop g out = refl
    absent_act m lo hi (show xs) g out = refl

    absent_whens : (m lo hi : ℕ) (ws : Whens) → GoodWhens lo hi ws → IsOut m lo hi → act_in_whens m ws ≡ None
    absent_whens m lo hi no_whens g out = refl
    absent_whens m lo hi (more_whens (MkWhen tests ss) ws) g out =
        let here = low lo g.0 ss g.1 in
        let later = low_whens g.0 hi ws g.2 in
        neither (act_among m ss) (act_in_whens m ws)
        (absent m lo g.0 ss g.1 (λ x y. out x (omega (arith, y, later))))
        (absent_whens m g.0 hi ws g.2 (λ x y. out (omega (arith, x, here)) y))

    absent_body : (m lo hi : ℕ) (b : Body) → GoodBody lo hi b → IsOut m lo hi → act_in_body m b ≡ None
    absent_body m lo hi (range first last) g out = refl
    absent_body m lo hi (inline ss) g out = absent m lo hi ss g out

  absent_paras : (m lo hi : ℕ) (xs : List Para) → GoodParas lo hi xs → IsOut m lo hi → act_in_paras m xs ≡ None
  absent_paras m lo hi [] g out = refl
  absent_paras m lo hi (x ∷ xs) g out =
      let here = low lo g.0 x.body g.1 in
      let later = low_paras g.0 hi xs g.2 in
      neither (act_among m x.body) (act_in_paras m xs)
      (absent m lo g.0 x.body g.1 (λ a b. out a (omega (arith, b, later))))
      (absent_paras m g.0 hi xs g.2 (λ a b. out (omega (arith, a, here)) b))

  -- a number before the middle is out of what stands behind it
  before : (m mid hi : ℕ) → m < mid → IsOut m mid hi
  before m mid hi h x y = omega (arith, h, x)

  behind : (m lo mid : ℕ) → mid ≤ m → IsOut m lo mid
  behind m lo mid h x y = omega (arith, h, y)

-- ---- each is found by its number

module _ (p : Program) where
  -- the program finds the numbers between these as this does
  abbrev Finds : ℕ → ℕ → (ℕ → Option Act) → Type 0
  Finds lo hi f = (m : ℕ) → lo ≤ m → m < hi → act_at p m ≡ f m

  first_part : (lo mid hi : ℕ) (f g : ℕ → Option Act) → mid ≤ hi → Finds lo hi (λ m. or_else (f m) (g m)) → ((m : ℕ) → m < mid → g m ≡ None) → Finds lo mid f
  first_part lo mid hi f g within finds none m x y = finds m x (omega (arith, y, within)) ∙ or_first p.layout (f m) (g m) (none m y)

  second_part : (lo mid hi : ℕ) (f g : ℕ → Option Act) → lo ≤ mid → Finds lo hi (λ m. or_else (f m) (g m)) → ((m : ℕ) → mid ≤ m → f m ≡ None) → Finds mid hi g
  second_part lo mid hi f g within finds none m x y = finds m (omega (arith, x, within)) y ∙ or_second p.layout (f m) (g m) (none m x)

  other_number : (m n lo : ℕ) → n ≡ lo → suc lo ≤ m → eqb m n ≡ false
  other_number m n lo e h = ne_eqb m n (λ same. omega (arith, e, h, same))

  mutual
    whole : (lo hi : ℕ) (ss : Stmts) → Good p.layout lo hi ss → Finds lo hi (λ m. act_among m ss) → AreWellFormed p ss
    whole lo hi no_stmts g finds = tt
    whole lo hi (more_stmts (MkStmt n line a) ss) g finds =
        let here = low_act p.layout (suc lo) g.0 a g.2 in
        let later = low p.layout g.0 hi ss g.3 in
        let own : eqb n n ≡ true = eq-eqb n n refl in
        let behind_it : Finds (suc lo) hi (λ m. or_else (act_below m a) (act_among m ss)) =
        λ m x y. finds m (omega (arith, x)) y ∙ rw (other_number m n lo g.1 x) refl in (
          finds n (omega (arith, g.1)) (omega (arith, g.1, here, later)) ∙ rw own refl,
          whole_act (suc lo) g.0 a g.2
              (first_part (suc lo) g.0 hi (λ m. act_below m a) (λ m. act_among m ss) later behind_it
              (λ m h. absent p.layout m g.0 hi ss g.3 (before p.layout m g.0 hi h))),
          whole g.0 hi ss g.3
              (second_part (suc lo) g.0 hi (λ m. act_below m a) (λ m. act_among m ss) here behind_it
              (λ m h. absent_act p.layout m (suc lo) g.0 a g.2 (behind p.layout m (suc lo) g.0 h))),
        )

    whole_phrase : (lo hi : ℕ) (x : Phrase) → GoodPhrase p.layout lo hi x → Finds lo hi (λ m. act_in_phrase m x) → IsWellFormedPhrase p x
    whole_phrase lo hi left_out g finds = tt
    whole_phrase lo hi (given ss) g finds = whole lo hi ss g finds

    whole_act : (lo hi : ℕ) (a : Act) → GoodAct p.layout lo hi a → Finds lo hi (λ m. act_below m a) → IsWellFormedAct p a
    whole_act lo hi (arith_ s targets remainder size fine) g finds = (
      whole_phrase lo g.0 size g.1
          (first_part lo g.0 hi (λ m. act_in_phrase m size) (λ m. act_among m fine) (low p.layout g.0 hi fine g.2) finds
          (λ m h. absent p.layout m g.0 hi fine g.2 (before p.layout m g.0 hi h))),
      whole g.0 hi fine g.2
          (second_part lo g.0 hi (λ m. act_in_phrase m size) (λ m. act_among m fine) (low_phrase p.layout lo g.0 size g.1) finds
          (λ m h. absent_phrase p.layout m lo g.0 size g.1 (behind p.layout m lo g.0 h))),
    )
    whole_act lo hi (if_ t held other) g finds = (
      g.1,
      whole lo g.0 held g.2
          (first_part lo g.0 hi (λ m. act_among m held) (λ m. act_among m other) (low p.layout g.0 hi other g.3) finds
          (λ m h. absent p.layout m g.0 hi other g.3 (before p.layout m g.0 hi h))),
      whole g.0 hi other g.3
          (second_part lo g.0 hi (λ m. act_among m held) (λ m. act_among m other) (low p.layout lo g.0 held g.2) finds
          (λ m h. absent p.layout m lo g.0 held g.2 (behind p.layout m lo g.0 h))),
    )
    whole_act lo hi (evaluate ws other) g finds = (
      whole_whens lo g.0 ws g.1
          (first_part lo g.0 hi (λ m. act_in_whens m ws) (λ m. act_among m other) (low p.layout g.0 hi other g.2) finds
          (λ m h. absent p.layout m g.0 hi other g.2 (before p.layout m g.0 hi h))),
      whole g.0 hi other g.2
          (second_part lo g.0 hi (λ m. act_in_whens m ws) (λ m. act_among m other) (low_whens p.layout lo g.0 ws g.1) finds
          (λ m h. absent_whens p.layout m lo g.0 ws g.1 (behind p.layout m lo g.0 h))),
    )
    whole_act lo hi (perform body turns) g finds = (g.0, whole_body lo hi body g.1 finds)
    whole_act lo hi (open_files os) g finds = g.0
    whole_act lo hi (close_files fs) g finds = g.0
    whole_act lo hi (read f into end fine) g finds = (
      whole_phrase lo g.0 end g.1
          (first_part lo g.0 hi (λ m. act_in_phrase m end) (λ m. act_among m fine) (low p.layout g.0 hi fine g.2) finds
          (λ m h. absent p.layout m g.0 hi fine g.2 (before p.layout m g.0 hi h))),
      whole g.0 hi fine g.2
          (second_part lo g.0 hi (λ m. act_in_phrase m end) (λ m. act_among m fine) (low_phrase p.layout lo g.0 end g.1) finds
          (λ m h. absent_phrase p.layout m lo g.0 end g.1 (behind p.layout m lo g.0 h))),
    )
    whole_act lo hi (write r from) g finds = g.0
    whole_act lo hi (move x places) g finds = tt
    whole_act lo hi (go place) g finds = tt
    whole_act lo hi nothing g finds = tt
    whole_act lo hi stop g finds = tt
    whole_act lo hi (show xs) g finds = tt

    whole_whens : (lo hi : ℕ) (ws : Whens) → GoodWhens p.layout lo hi ws → Finds lo hi (λ m. act_in_whens m ws) → AreWellFormedWhens p ws
    whole_whens lo hi no_whens g finds = tt
    whole_whens lo hi (more_whens (MkWhen tests ss) ws) g finds = (
      whole lo g.0 ss g.1
          (first_part lo g.0 hi (λ m. act_among m ss) (λ m. act_in_whens m ws) (low_whens p.layout g.0 hi ws g.2) finds
          (λ m h. absent_whens p.layout m g.0 hi ws g.2 (before p.layout m g.0 hi h))),
      whole_whens g.0 hi ws g.2
          (second_part lo g.0 hi (λ m. act_among m ss) (λ m. act_in_whens m ws) (low p.layout lo g.0 ss g.1) finds
          (λ m h. absent p.layout m lo g.0 ss g.1 (behind p.layout m lo g.0 h))),
    )

    whole_body : (lo hi : ℕ) (b : Body) → GoodBody p.layout lo hi b → Finds lo hi (λ m. act_in_body m b) → IsWellFormedBody p b
    whole_body lo hi (range first last) g finds = tt
    whole_body lo hi (inline ss) g finds = whole lo hi ss g finds

  whole_paras : (lo hi : ℕ) (xs : List Para) → GoodParas p.layout lo hi xs → Finds lo hi (λ m. act_in_paras m xs) → AreWellFormedParas p xs
  whole_paras lo hi [] g finds = tt
  whole_paras lo hi (x ∷ xs) g finds = (
    whole lo g.0 x.body g.1
        (first_part lo g.0 hi (λ m. act_among m x.body) (λ m. act_in_paras m xs) (low_paras p.layout g.0 hi xs g.2) finds
        (λ m h. absent_paras p.layout m g.0 hi xs g.2 (before p.layout m g.0 hi h))),
    whole_paras g.0 hi xs g.2
        (second_part lo g.0 hi (λ m. act_among m x.body) (λ m. act_in_paras m xs) (low p.layout lo g.0 x.body g.1) finds
        (λ m h. absent p.layout m lo g.0 x.body g.1 (behind p.layout m lo g.0 h))),
  )

  pub is_well_formed : (lo hi : ℕ) → GoodParas p.layout lo hi p.paras → IsWellFormed p
  is_well_formed lo hi g = whole_paras lo hi p.paras g (λ m x y. refl)

-- ---- what is found names files of the layout

module _ (l : Layout) (n : ℕ) (a : Act) where
  either : (x y : Option Act) → or_else x y ≡ Some a → (x ≡ Some a → NamesFiles l a) → (y ≡ Some a → NamesFiles l a)
      → NamesFiles l a
  either None y e first second = second e
  either (Some b) y e first second = first e

  here_or : (b : Act) (same : Bool) (other : Option Act) → NamesFiles l b → (if same then Some b else other) ≡ Some a
      → (other ≡ Some a → NamesFiles l a) → NamesFiles l a
  here_or b true other named e later = subst (NamesFiles l) (same_Some _ _ e) named
  here_or b false other named e later = later e

  mutual
    in_list : (lo hi : ℕ) (ss : Stmts) → Good l lo hi ss → act_among n ss ≡ Some a → NamesFiles l a
    in_list lo hi no_stmts g e = absurd (none-some a e)
    in_list lo hi (more_stmts (MkStmt m line b) ss) g e =
        here_or b (n == m) (or_else (act_below n b) (act_among n ss)) g.4 e
        (λ f. either (act_below n b) (act_among n ss) f (in_act (suc lo) g.0 b g.2) (in_list g.0 hi ss g.3))

    in_phrase : (lo hi : ℕ) (x : Phrase) → GoodPhrase l lo hi x → act_in_phrase n x ≡ Some a → NamesFiles l a
    in_phrase lo hi left_out g e = absurd (none-some a e)
    in_phrase lo hi (given ss) g e = in_list lo hi ss g e

    in_act : (lo hi : ℕ) (b : Act) → GoodAct l lo hi b → act_below n b ≡ Some a → NamesFiles l a
    in_act lo hi (arith_ s targets remainder size fine) g e =
        either (act_in_phrase n size) (act_among n fine) e (in_phrase lo g.0 size g.1) (in_list g.0 hi fine g.2)
    in_act lo hi (if_ t held other) g e =
        either (act_among n held) (act_among n other) e (in_list lo g.0 held g.2) (in_list g.0 hi other g.3)
    in_act lo hi (evaluate ws other) g e =
        either (act_in_whens n ws) (act_among n other) e (in_whens lo g.0 ws g.1) (in_list g.0 hi other g.2)
    in_act lo hi (perform body turns) g e = in_body lo hi body g.1 e
    in_act lo hi (read f into end fine) g e =
        either (act_in_phrase n end) (act_among n fine) e (in_phrase lo g.0 end g.1) (in_list g.0 hi fine g.2)
    in_act lo hi b g e = absurd (none-some a e)

    in_whens : (lo hi : ℕ) (ws : Whens) → GoodWhens l lo hi ws → act_in_whens n ws ≡ Some a → NamesFiles l a
    in_whens lo hi no_whens g e = absurd (none-some a e)
    in_whens lo hi (more_whens (MkWhen tests ss) ws) g e =
        either (act_among n ss) (act_in_whens n ws) e (in_list lo g.0 ss g.1) (in_whens g.0 hi ws g.2)

    in_body : (lo hi : ℕ) (b : Body) → GoodBody l lo hi b → act_in_body n b ≡ Some a → NamesFiles l a
    in_body lo hi (range first last) g e = absurd (none-some a e)
    in_body lo hi (inline ss) g e = in_list lo hi ss g e

  in_paras : (lo hi : ℕ) (xs : List Para) → GoodParas l lo hi xs → act_in_paras n xs ≡ Some a → NamesFiles l a
  in_paras lo hi [] g e = absurd (none-some a e)
  in_paras lo hi (x ∷ xs) g e =
      either (act_among n x.body) (act_in_paras n xs) e (in_list lo g.0 x.body g.1) (in_paras g.0 hi xs g.2)

pub has_its_files : (p : Program) (lo hi : ℕ) → GoodParas p.layout lo hi p.paras → HasItsFiles p
has_its_files p lo hi g = record { named = λ number a e. in_paras p.layout number a lo hi p.paras g e }
