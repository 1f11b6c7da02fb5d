-- Rows of packs, a matrix at a time.
use Rattle.std.proofs.Common.{◌≡◌, ◌≤◌, ℕ, ◌-◌, List, [], ◌∷◌, ◌++◌, length, length-append, take, drop, map, get_or, ℤ, Bool, true, false, ◌||◌, if◌then◌else◌, Option, Some, None, refl, sym, ap, subst, ◌∙◌, take_all, take_at, drop_at, take-append-drop, arith}
use Rattle.cob_program.specs.Values.{◌>>=◌}
use Rattle.cob_program.specs.Act.{Program}
use Rattle.diff_bounds.specs.Matrix.{IsMatrix}
use Rattle.interval_domain.specs.Known.{Known}
use Rattle.cob_graph.specs.Homes.{homes_of}
use Rattle.diff_steps.specs.Matrices.{put_closed}
use Rattle.diff_steps.specs.Steps.{each_pack, all_closed}
use Rattle.diff_steps.specs.Clearing.{some_pack}
use Rattle.diff_steps.specs.Packs.{Pack, size_of}
use Rattle.pack_laws.specs.Agreeing.{AreMatrices}
use Rattle.diff_bounds.specs.PackRows.{words_of, width_of}
use Rattle.diff_layer.specs.declared.pack.plans.PackPlan.{PackPlan}
use Rattle.diff_layer.specs.Closed.{IsClosedBy, AreClosedBy, IsClosedRow}
use Rattle.diff_layer.specs.Plans.{plain_plan, plain_plans, matrices_for, IsRowFor}

-- a list that isn't empty is its first element and those behind it
pub split_is : {X : Type 0} (xs : List X) (d : X) → 1 ≤ length xs → xs ≡ get_or xs 0 d ∷ take (length xs - 1) (drop 1 xs)
split_is [] d some = absurd (omega (arith, some))
split_is (x ∷ xs) d some = ap (λ ys. x ∷ ys) (sym (take_all (length (x ∷ xs) - 1) xs (omega arith)))

-- a slice's first element, which a pattern names, and those behind it
pub named : {X : Type 0} (xs : List X) (x : X) → 1 ≤ length xs → x ≡ get_or xs 0 x → xs ≡ x ∷ take (length xs - 1) (drop 1 xs)
named xs x some is = split_is xs x some ∙ ap (λ y. y ∷ take (length xs - 1) (drop 1 xs)) (sym is)

module _ (plan : PackPlan) (plans : List PackPlan) where
  abbrev pub n : ℕ
  n = words_of (size_of (plain_plan plan))

  -- ---- a row's first matrix, and the rest

  pub first_matrix : (row : List ℤ) → IsRowFor (plan ∷ plans) row → IsMatrix (size_of (plain_plan plan)) (take n row)
  first_matrix row is = is.matrices.0.1

  pub rest_row : (row : List ℤ) → IsRowFor (plan ∷ plans) row → IsRowFor plans (drop n row)
  rest_row row is = record { width = width; matrices = is.matrices.1 }
    where
      width : length (drop n row) ≡ width_of (map size_of (plain_plans plans))
      width =
          let whole : length (take n row ++ drop n row) ≡ length row = ap (λ (r : List ℤ). length r) (take-append-drop n row) in
          let e = is.width in
          let first = is.matrices.0.1.width in
          let both = length-append (take n row) (drop n row) in
          omega (arith, whole, both, e, first)

  -- ---- put together again

  pub matrices_together : (first rest : List ℤ) → length first ≡ n → matrices_for (plan ∷ plans) (first ++ rest) ≡ first ∷ matrices_for plans rest
  matrices_together first rest e = λ i. take_at first rest n e i ∷ matrices_for plans (drop_at first rest n e i)

  pub row_together : (first rest : List ℤ) → size_of (plain_plan plan) ≤ 8 → IsMatrix (size_of (plain_plan plan)) first → IsRowFor plans rest → IsRowFor (plan ∷ plans) (first ++ rest)
  row_together first rest few is rests = record {
    width = let e = is.width in let f = rests.width in let both = length-append first rest in omega (arith, both, e, f);
    matrices = subst (AreMatrices (plain_plans (plan ∷ plans))) (sym (matrices_together first rest is.width)) ((few, is), rests.matrices);
  }

  -- ---- closed

  module _ (p : Program) (known : List Known) (k : List ℤ) (ks : List (List ℤ)) (m out : List ℤ) where
    abbrev closed_first : Option (List ℤ)
    closed_first = put_closed p.layout (homes_of p) known (plain_plan plan) k

    pub closed_both : (b c : Bool) → closed_first ≡ (if b then Some m else None) → b ≡ true
        → all_closed p known (plain_plans plans) ks ≡ (if c then Some (matrices_for plans out) else None) → length m ≡ n
        → all_closed p known (plain_plans (plan ∷ plans)) (k ∷ ks) ≡ (if c then Some (matrices_for (plan ∷ plans) (m ++ out)) else None)
    closed_both b c e is f wide =
        ap (λ o. o >>= λ d. all_closed p known (plain_plans plans) ks >>= λ ds. Some (d ∷ ds)) (e ∙ ap (λ (d : Bool). if d then Some m else None) is)
        ∙ (ap (λ o. o >>= λ ds. Some (m ∷ ds)) f ∙ go c)
      where
        go : (c : Bool) → ((if c then Some (matrices_for plans out) else None) >>= λ ds. Some (m ∷ ds)) ≡ (if c then Some (matrices_for (plan ∷ plans) (m ++ out)) else None)
        go true = ap Some (sym (matrices_together m out wide))
        go false = refl

    pub closed_neither : (b : Bool) (ms : List (List ℤ)) → closed_first ≡ (if b then Some m else None) → b ≡ false
        → all_closed p known (plain_plans (plan ∷ plans)) (k ∷ ks) ≡ (if b then Some ms else None)
    closed_neither b ms e is =
        ap (λ o. o >>= λ d. all_closed p known (plain_plans plans) ks >>= λ ds. Some (d ∷ ds)) (e ∙ ap (λ (d : Bool). if d then Some m else None) is)
        ∙ sym (ap (λ (d : Bool). if d then Some ms else None) is)

-- ---- where a pattern parts the plans, and a call the row

module _ (plans : List PackPlan) (plan : PackPlan) (some : 1 ≤ length plans) (is : plan ≡ get_or plans 0 plan) (row front back : List ℤ) (of_plans : IsRowFor plans row)
    (first : front ≡ take (words_of (size_of (plain_plan plan))) row) (second : back ≡ drop (words_of (size_of (plain_plan plan))) row) where
  abbrev pub others : List PackPlan
  others = take (length plans - 1) (drop 1 plans)

  are : plans ≡ plan ∷ others
  are = named plans plan some is

  its_row : IsRowFor (plan ∷ others) row
  its_row = subst (λ (ps : List PackPlan). IsRowFor ps row) are of_plans

  front_wide : length front ≡ words_of (size_of (plain_plan plan))
  front_wide = ap (λ (r : List ℤ). length r) first ∙ (first_matrix plan others row its_row).width

  pub its_matrix : IsMatrix (size_of (plain_plan plan)) front
  its_matrix = subst (IsMatrix (size_of (plain_plan plan))) (sym first) (first_matrix plan others row its_row)

  pub other_rows : IsRowFor others back
  other_rows = subst (IsRowFor others) (sym second) (rest_row plan others row its_row)

  module _ (p : Program) (known : List Known) (closes : AreClosedBy p known (plain_plans plans) (matrices_for plans row)) where
    closed_parts : AreClosedBy p known (plain_plans (plan ∷ others)) (matrices_for (plan ∷ others) row)
    closed_parts = subst (λ (ps : List PackPlan). AreClosedBy p known (plain_plans ps) (matrices_for ps row)) are closes

    pub closed_matrix : IsClosedBy p known (plain_plan plan) front
    closed_matrix = subst (IsClosedBy p known (plain_plan plan)) (sym first) closed_parts.0

    pub closed_others : IsClosedRow p known others back
    closed_others = record {
      matrices = other_rows;
      closed = subst (λ (r : List ℤ). AreClosedBy p known (plain_plans others) (matrices_for others r)) (sym second) closed_parts.1;
    }

  -- ---- shown by some pack

  shown_split : (f : Pack → List ℤ → Bool) → (f (plain_plan plan) front || some_pack f (plain_plans others) (matrices_for others back)) ≡ some_pack f (plain_plans plans) (matrices_for plans row)
  shown_split f =
      (λ i. f (plain_plan plan) (first i) || some_pack f (plain_plans others) (matrices_for others (second i)))
      ∙ ap (λ (ps : List PackPlan). some_pack f (plain_plans ps) (matrices_for ps row)) (sym are)

  pub shown_first : (f : Pack → List ℤ → Bool) (b : Bool) → b ≡ f (plain_plan plan) front → b ≡ true → b ≡ some_pack f (plain_plans plans) (matrices_for plans row)
  shown_first f b e so =
      so ∙ (ap (λ c. c || some_pack f (plain_plans others) (matrices_for others back)) (sym so ∙ e) ∙ shown_split f)

  pub shown_later : (f : Pack → List ℤ → Bool) (b c : Bool) → b ≡ f (plain_plan plan) front → b ≡ false → c ≡ some_pack f (plain_plans others) (matrices_for others back)
      → c ≡ some_pack f (plain_plans plans) (matrices_for plans row)
  shown_later f b c e so g =
      g ∙ (ap (λ d. d || some_pack f (plain_plans others) (matrices_for others back)) (sym so ∙ e) ∙ shown_split f)

  module _ (m out : List ℤ) (wide : length m ≡ length front) where
    pub rows_together : IsMatrix (size_of (plain_plan plan)) m → IsRowFor others out → IsRowFor plans (m ++ out)
    rows_together matrix rests = subst (λ (ps : List PackPlan). IsRowFor ps (m ++ out)) (sym are) (row_together plan others m out its_row.matrices.0.0 matrix rests)

    module _ (p : Program) (known : List Known) where
      abbrev closed_front : List ℤ → Option (List ℤ)
      closed_front k = put_closed p.layout (homes_of p) known (plain_plan plan) k

      pub closed_together : (b c : Bool) → closed_front front ≡ (if b then Some m else None) → b ≡ true
          → all_closed p known (plain_plans others) (matrices_for others back) ≡ (if c then Some (matrices_for others out) else None)
          → all_closed p known (plain_plans plans) (matrices_for plans row) ≡ (if c then Some (matrices_for plans (m ++ out)) else None)
      closed_together b c e so f =
          subst (λ (ps : List PackPlan). all_closed p known (plain_plans ps) (matrices_for ps row) ≡ (if c then Some (matrices_for ps (m ++ out)) else None)) (sym are)
          (closed_both plan others p known (take (words_of (size_of (plain_plan plan))) row) (matrices_for others (drop (words_of (size_of (plain_plan plan))) row)) m out b c
          (ap closed_front (sym first) ∙ e) so (ap (λ r. all_closed p known (plain_plans others) (matrices_for others r)) (sym second) ∙ f) (wide ∙ front_wide))

      pub not_closed : (b : Bool) (ms : List (List ℤ)) → closed_front front ≡ (if b then Some m else None) → b ≡ false
          → all_closed p known (plain_plans plans) (matrices_for plans row) ≡ (if b then Some ms else None)
      not_closed b ms e so =
          subst (λ (ps : List PackPlan). all_closed p known (plain_plans ps) (matrices_for ps row) ≡ (if b then Some ms else None)) (sym are)
          (closed_neither plan others p known (take (words_of (size_of (plain_plan plan))) row) (matrices_for others (drop (words_of (size_of (plain_plan plan))) row)) m out b ms
          (ap closed_front (sym first) ∙ e) so)

      pub closed_rows_together : IsMatrix (size_of (plain_plan plan)) m → IsClosedBy p known (plain_plan plan) m → IsClosedRow p known others out → IsClosedRow p known plans (m ++ out)
      closed_rows_together matrix closes rest = record {
        matrices = rows_together matrix rest.matrices;
        closed =
            subst (λ (ps : List PackPlan). AreClosedBy p known (plain_plans ps) (matrices_for ps (m ++ out))) (sym are)
            (subst (AreClosedBy p known (plain_plans (plan ∷ others))) (sym (matrices_together plan others m out (wide ∙ front_wide))) (closes, rest.closed));
      }

      -- ---- changed before

      module _ (f : Pack → List ℤ → List ℤ) where
        pub passed_together : (b c : Bool) → closed_front (f (plain_plan plan) front) ≡ (if b then Some m else None) → b ≡ true
            → all_closed p known (plain_plans others) (each_pack f (plain_plans others) (matrices_for others back)) ≡ (if c then Some (matrices_for others out) else None)
            → all_closed p known (plain_plans plans) (each_pack f (plain_plans plans) (matrices_for plans row)) ≡ (if c then Some (matrices_for plans (m ++ out)) else None)
        passed_together b c e so g =
            subst (λ (ps : List PackPlan). all_closed p known (plain_plans ps) (each_pack f (plain_plans ps) (matrices_for ps row)) ≡ (if c then Some (matrices_for ps (m ++ out)) else None)) (sym are)
            (closed_both plan others p known (f (plain_plan plan) (take (words_of (size_of (plain_plan plan))) row))
            (each_pack f (plain_plans others) (matrices_for others (drop (words_of (size_of (plain_plan plan))) row))) m out b c (ap (λ r. closed_front (f (plain_plan plan) r)) (sym first) ∙ e) so
            (ap (λ r. all_closed p known (plain_plans others) (each_pack f (plain_plans others) (matrices_for others r))) (sym second) ∙ g) (wide ∙ front_wide))

        pub not_passed : (b : Bool) (ms : List (List ℤ)) → closed_front (f (plain_plan plan) front) ≡ (if b then Some m else None) → b ≡ false
            → all_closed p known (plain_plans plans) (each_pack f (plain_plans plans) (matrices_for plans row)) ≡ (if b then Some ms else None)
        not_passed b ms e so =
            subst (λ (ps : List PackPlan). all_closed p known (plain_plans ps) (each_pack f (plain_plans ps) (matrices_for ps row)) ≡ (if b then Some ms else None)) (sym are)
            (closed_neither plan others p known (f (plain_plan plan) (take (words_of (size_of (plain_plan plan))) row))
            (each_pack f (plain_plans others) (matrices_for others (drop (words_of (size_of (plain_plan plan))) row))) m out b ms (ap (λ r. closed_front (f (plain_plan plan) r)) (sym first) ∙ e) so)
