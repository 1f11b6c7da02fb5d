-- What is left outside of a file that is put, and of all files.
use Rattle.std.proofs.Common.{◌≡◌, ◌≢◌, ℕ, zero, suc, Bool, true, false, ◌||◌, ◌&&◌, ◌==◌, List, [], ◌∷◌, Option, Some, ◌⊎◌, inl, inr, refl, sym, ap, subst, ◌∙◌}
use Rattle.std.specs.Prelude.{Contains, slice_get, take, Result}
use Rattle.std.specs.List.{list_any}
use Rattle.std.specs.FinMap.{get}
use Rattle.std.proofs.lemmas.Bool.{false≢true, eq-eqb}
use Rattle.batch_io.specs.FilesState.{Contents, FilesState, known_bytes}
use Rattle.cob_program.specs.declared.act.Opening.{Opening}
use Rattle.cob_program.specs.Act.{Act, open_files}
use Rattle.cob_interp.specs.declared.ends.RunEnd.{RunEnd}
use Rattle.cob_interp.specs.Meeting.{IsMetBy}
use Rattle.cob_interp.specs.Reached.{last_opened, up_to, last_of, Reaches}
use Rattle.cob_runs.specs.Files.{File, Mode, closed, writing}
use Rattle.cob_runs.specs.State.{World}
use Rattle.cob_interp.specs.Told.{seen_in, seen_file, IsSynced, AreDistinct, AgreeBut}
use Rattle.cob_interp.specs.Readying.{CreatesPart}
use Rattle.cob_interp.specs.Touching.{IsEmptied, IsPartOf, makes_in, makes_by, makes_none, IsShort, LosesOne, Loses, TouchesOne, Touches, Makes, ClosesOnly, OpensOnly}
use Rattle.cob_interp.proofs.SeenFiles.{contains_at}
use Rattle.cob_interp.proofs.Waiting.{part_held}
use Rattle.cob_interp.proofs.CallsLead.{others_keep}

-- ---- one file of all

part_of_any : (makes : Bool) (f : File) (whole now : Option (List ℕ)) → IsPartOf false f whole now
    → IsPartOf makes f whole now
part_of_any makes f whole now (inl same) = inl same
part_of_any makes f whole now (inr (inl front)) = inr (inl front)
part_of_any makes f whole now (inr (inr empty)) = let e = empty.0 in cc

pub apart_or_same : (paths : List (List ℕ)) (i j : ℕ) (path q : List ℕ) → AreDistinct paths → slice_get paths i ≡ Some path
    → slice_get paths j ≡ Some q → (i ≡ j) ⊎ (q ≢ path)
apart_or_same [] i j path q apart at there = cc
apart_or_same (x ∷ xs) zero zero path q apart at there = inl refl
apart_or_same (x ∷ xs) zero (suc j) path q apart at there =
    inr (λ same. let e : q ≡ x = cc in apart.0 (subst (λ (y : List ℕ). Contains xs y) e (contains_at xs j q there)))
apart_or_same (x ∷ xs) (suc i) zero path q apart at there =
    inr (λ same. let e : path ≡ x = cc in apart.0 (subst (λ (y : List ℕ). Contains xs y) e (contains_at xs i path at)))
apart_or_same (x ∷ xs) (suc i) (suc j) path q apart at there = elim (apart_or_same xs i j path q apart.1 at there) [
  | inl same ↦ inl (ap suc same)
  | inr differ ↦ inr differ
]

-- what holds of the one name that may have changed, and of what stays, holds of all
module _ (Is : ℕ → File → Option (List ℕ) → Option (List ℕ) → Type 0)
    (stays : (p : ℕ) (g : File) (a : Option (List ℕ)) → Is p g a a) (paths : List (List ℕ)) (fs : List File)
    (place : ℕ) (path : List ℕ) (f : File) (apart : AreDistinct paths) (at : slice_get paths place ≡ Some path)
    (has : slice_get fs place ≡ Some f) (told now : Contents) (but : AgreeBut told now path)
    (own : Is place f (get told path) (get now path)) where
  all_by_one : (p : ℕ) (q : List ℕ) (g : File) → slice_get paths p ≡ Some q → slice_get fs p ≡ Some g
      → Is p g (get told q) (get now q)
  all_by_one p q g at_ has_ = elim (apart_or_same paths place p path q apart at at_) [
    | inl here ↦
        let at_here : slice_get paths p ≡ Some path = subst (λ (n : ℕ). slice_get paths n ≡ Some path) here at in
        let has_here : slice_get fs p ≡ Some f = subst (λ (n : ℕ). slice_get fs n ≡ Some f) here has in
        let same_path : path ≡ q = cc in
        let same_file : f ≡ g = cc in
        subst (λ (n : ℕ). Is n g (get told q) (get now q)) here
        (subst (λ (x : List ℕ). Is place g (get told x) (get now x)) same_path
        (subst (λ (x : File). Is place x (get told path) (get now path)) same_file own))
    | inr differ ↦ subst (λ (c : Option (List ℕ)). Is p g (get told q) c) (sym (but q differ)) (stays p g (get told q))
  ]

module _ (paths : List (List ℕ)) (makes : ℕ → Bool) (w : World) (old new : FilesState) (place : ℕ) (path : List ℕ)
    (f : File) (apart : AreDistinct paths) (at : slice_get paths place ≡ Some path)
    (has : slice_get w.files place ≡ Some f) where
  pub touches_by_one : TouchesOne old new path f → Touches paths makes w old new
  touches_by_one one = record {
    known = λ told is.
        let k = one.known told is in
        record {
          now = k.now;
          is = k.is;
          touches = record {
            its = λ p q g at_ has_ s. elim (apart_or_same paths place p path q apart at at_) [
              | inl here ↦
                  let at_here : slice_get paths p ≡ Some path = subst (λ (n : ℕ). slice_get paths n ≡ Some path) here at in
                  let has_here : slice_get w.files p ≡ Some f =
                  subst (λ (n : ℕ). slice_get w.files n ≡ Some f) here has in
                  let same_path : path ≡ q = cc in
                  let same_file : f ≡ g = cc in
                  part_of_any (makes p) (seen_file told q g) (seen_file told q g).content (get k.now q)
                  (subst (λ (x : List ℕ). IsSynced told x g
                  → IsPartOf false (seen_file told x g) (seen_file told x g).content (get k.now x)) same_path
                  (subst (λ (x : File). IsSynced told path x
                  → IsPartOf false (seen_file told path x) (seen_file told path x).content (get k.now path)) same_file
                  k.it) s)
              | inr differ ↦
                  subst (λ (c : Option (List ℕ)). IsPartOf (makes p) (seen_file told q g) (seen_file told q g).content c)
                  (sym (k.others q differ)) (part_held told q (makes p) g s)
            ];
            others = others_keep told told k.now paths place path at k.others (λ name none. refl);
          };
        };
  }

  pub loses_by_one : LosesOne old new path f → Loses paths w old new
  loses_by_one one = record {
    known = λ told is.
        let k = one.known told is in
        record {
          now = k.now;
          is = k.is;
          place = place;
          path = path;
          at = at;
          it = λ g has_ s.
              let same : f ≡ g = cc in
              subst (λ (x : File). IsSynced told path x → IsShort (seen_file told path x) (get k.now path)) same k.it s;
        };
  }

  -- a closed file that is opened for output is made empty
  pub makes_by_create : f.mode ≡ closed → makes place ≡ true → CreatesPart old new path → Makes paths makes w old new
  makes_by_create mode_ made p = record {
    known = λ told is.
        let k = p.known told is in
        record {
          now = k.now;
          is = k.is;
          its = all_by_one (λ (p : ℕ) (g : File) (a b : Option (List ℕ)). (b ≡ a) ⊎ IsEmptied (makes p) g b)
              (λ p g a. inl refl)
              paths w.files place path f apart at has told k.now k.others
              (elim k.it [
                | inl same ↦ inl same
                | inr empty ↦ inr (made, (mode_, empty))
              ]);
          others = others_keep told told k.now paths place path at k.others (λ name none. refl);
        };
  }

-- ---- where the contents stay

module _ (paths : List (List ℕ)) (makes : ℕ → Bool) (w : World) where
  pub makes_same : (old new : FilesState) → known_bytes new ≡ known_bytes old
      → Makes paths makes w old new
  makes_same old new same = record {
    known = λ told is. record {
      now = told;
      is = same ∙ is;
      its = λ place path f at has. inl refl;
      others = λ name none. refl;
    };
  }

  pub makes_stay : (a : FilesState) → Makes paths makes w a a
  makes_stay a = makes_same a a refl

  pub touches_stay : (a : FilesState) → Touches paths makes w a a
  touches_stay a = record {
    known = λ told is. record {
      now = told;
      is = is;
      touches = record {
        its = λ place path f at has s. part_held told path (makes place) f s;
        others = λ name none. refl;
      };
    };
  }

  closed_seen : (told : Contents) (path : List ℕ) (f : File) → f.mode ≡ closed → (seen_file told path f).mode ≡ closed
  closed_seen told path f e = ap (λ (m : Mode). (seen_in told m path f).mode) e

  made_part : (told now : Contents) (make : Bool) (path : List ℕ) (f : File) → IsSynced told path f
      → (get now path ≡ get told path) ⊎ IsEmptied make f (get now path)
      → IsPartOf make (seen_file told path f) (seen_file told path f).content (get now path)
  made_part told now make path f s (inl same) =
      subst (λ (c : Option (List ℕ)). IsPartOf make (seen_file told path f) (seen_file told path f).content c) (sym same)
      (part_held told path make f s)
  made_part told now make path f s (inr emptied) =
      inr (inr (emptied.0, (closed_seen told path f emptied.1.0, emptied.1.1)))

  pub makes_touch : (old new : FilesState) → Makes paths makes w old new → Touches paths makes w old new
  makes_touch old new m = record {
    known = λ told is.
        let k = m.known told is in
        record {
          now = k.now;
          is = k.is;
          touches = record {
            its = λ place path f at has s. made_part told k.now (makes place) path f s (k.its place path f at has);
            others = k.others;
          };
        };
  }

-- ---- where more is made

module _ (paths : List (List ℕ)) (makes more : ℕ → Bool) (w : World)
    (under : (place : ℕ) → makes place ≡ true → more place ≡ true) (old new : FilesState) where
  more_part : (place : ℕ) (f : File) (a b : Option (List ℕ)) → IsPartOf (makes place) f a b
      → IsPartOf (more place) f a b
  more_part place f a b (inl same) = inl same
  more_part place f a b (inr (inl front)) = inr (inl front)
  more_part place f a b (inr (inr emptied)) = inr (inr (under place emptied.0, emptied.1))

  pub touches_more : Touches paths makes w old new → Touches paths more w old new
  touches_more t = record {
    known = λ told is.
        let k = t.known told is in
        record {
          now = k.now;
          is = k.is;
          touches = record {
            its = λ place path f at has s.
                more_part place (seen_file told path f) (seen_file told path f).content (get k.now path)
                (k.touches.its place path f at has s);
            others = k.touches.others;
          };
        };
  }

  more_made : (place : ℕ) (f : File) (a b : Option (List ℕ)) → (b ≡ a) ⊎ IsEmptied (makes place) f b
      → (b ≡ a) ⊎ IsEmptied (more place) f b
  more_made place f a b (inl same) = inl same
  more_made place f a b (inr emptied) = inr (under place emptied.0, emptied.1)

  pub makes_more : Makes paths makes w old new → Makes paths more w old new
  makes_more m = record {
    known = λ told is.
        let k = m.known told is in
        record {
          now = k.now;
          is = k.is;
          its = λ place path f at has. more_made place f (get told path) (get k.now path) (k.its place path f at has);
          others = k.others;
        };
  }

pub under_none : (more : ℕ → Bool) (place : ℕ) → makes_none place ≡ true → more place ≡ true
under_none more place e = absurd (false≢true e)

-- ---- the files that an OPEN makes anew

or_left : (a b : Bool) → a ≡ true → (a || b) ≡ true
or_left true b e = refl
or_left false b e = absurd (false≢true e)

or_right : (a b : Bool) → b ≡ true → (a || b) ≡ true
or_right true b e = refl
or_right false b e = e

or_false : (a : Bool) → (a || false) ≡ true → a ≡ true
or_false true e = refl
or_false false e = e

pub any_at : (test : Opening → Bool) (os : List Opening) (k : ℕ) (o : Opening) → slice_get os k ≡ Some o → test o ≡ true
    → list_any test os ≡ true
any_at test [] k o at e = cc
any_at test (x ∷ os) zero o at e =
    let same : x ≡ o = cc in
    or_left (test x) (list_any test os) (ap test same ∙ e)
any_at test (x ∷ os) (suc k) o at e = or_right (test x) (list_any test os) (any_at test os k o at e)

-- one of its files is
pub makes_one : (os : List Opening) (k : ℕ) (o : Opening) → slice_get os k ≡ Some o → (place : ℕ)
    → makes_in (o ∷ []) place ≡ true
    → makes_in os place ≡ true
makes_one os k o at place e =
    any_at (λ x. x.output && (x.file == place)) os k o at (or_false (o.output && (o.file == place)) e)

-- ---- so many of the files of an OPEN

or_up : (a b c : Bool) → (b ≡ true → c ≡ true) → (a || b) ≡ true → (a || c) ≡ true
or_up true b c h e = refl
or_up false b c h e = h e

-- what one of the first files meets, one of all does
pub any_up : (test : Opening → Bool) (n : ℕ) (os : List Opening) → list_any test (take n os) ≡ true
    → list_any test os ≡ true
any_up test zero os e = absurd (false≢true e)
any_up test (suc n) [] e = e
any_up test (suc n) (x ∷ os) e = or_up (test x) (list_any test (take n os)) (list_any test os) (any_up test n os) e

any_more : (test : Opening → Bool) (n : ℕ) (os : List Opening) → list_any test (take n os) ≡ true
    → list_any test (take (suc n) os) ≡ true
any_more test zero os e = absurd (false≢true e)
any_more test (suc n) [] e = e
any_more test (suc n) (x ∷ os) e =
    or_up (test x) (list_any test (take n os)) (list_any test (take (suc n) os)) (any_more test n os) e

pub makes_later : (os : List Opening) (n place : ℕ) → makes_in (take n os) place ≡ true
    → makes_in (take (suc n) os) place ≡ true
makes_later os n place = any_more (λ o. o.output && (o.file == place)) n os

pub makes_turn : (paths : List (List ℕ)) (os : List Opening) (w : World) (old new : FilesState) (n m : ℕ) → suc n ≡ m
    → Makes paths (makes_in (take (suc n) os)) w old new → Makes paths (makes_in (take m os)) w old new
makes_turn paths os w old new n m e = subst (λ (k : ℕ). Makes paths (makes_in (take k os)) w old new) e

up_there : (os : List Opening) (k : ℕ) (o : Opening) → slice_get os k ≡ Some o → slice_get (take (suc k) os) k ≡ Some o
up_there [] k o e = cc
up_there (x ∷ os) zero o e = e
up_there (x ∷ os) (suc k) o e = up_there os k o e

-- the last of so many is
pub makes_last : (os : List Opening) (k : ℕ) (o : Opening) → slice_get os k ≡ Some o → (place : ℕ)
    → makes_in (o ∷ []) place ≡ true → makes_in (take (suc k) os) place ≡ true
makes_last os k o at = makes_one (take (suc k) os) k o (up_there os k o at)

pub makes_own : (o : Opening) → o.output ≡ true → makes_in (o ∷ []) o.file ≡ true
makes_own o output = rw (output, eq-eqb o.file o.file refl) refl

-- ---- one call after another

module _ (paths : List (List ℕ)) (w v : World) (a b c : FilesState) where
  closed_writing : (m : Mode) → m ≡ closed → m ≡ writing → ⊥
  closed_writing m shut open_ = let e : closed ≡ writing = sym shut ∙ open_ in cc

  shut_content : (mid : Contents) (path : List ℕ) (g : File) → g.mode ≡ closed
      → ((seen_file mid path g).content ≡ get mid path) × ((seen_file mid path g).mode ≡ closed)
  shut_content mid path g e = (
    ap (λ (m : Mode). (seen_in mid m path g).content) e,
    ap (λ (m : Mode). (seen_in mid m path g).mode) e,
  )

  part_on : (f g : File) (mid z : Option (List ℕ)) → (g ≡ f) ⊎ ((g.content ≡ mid) × (g.mode ≡ closed))
      → IsPartOf false f f.content mid → IsPartOf false g g.content z → IsPartOf false f f.content z
  part_on f g mid z (inl is) first part = subst (λ (h : File). IsPartOf false h h.content z) is part
  part_on f g mid z (inr shut) first (inl same) =
      subst (λ (o : Option (List ℕ)). IsPartOf false f f.content o) (sym (same ∙ shut.0)) first
  part_on f g mid z (inr shut) first (inr (inl front)) = absurd (closed_writing g.mode shut.1 front.0)
  part_on f g mid z how first (inr (inr emptied)) = absurd (false≢true emptied.0)

  -- in a CLOSE
  pub touches_on : Touches paths makes_none w a b → ClosesOnly paths a b w v → Touches paths makes_none v b c
      → Touches paths makes_none w a c
  touches_on t only u = record {
    known = λ told is.
        let h = t.known told is in
        let o = only.known told is in
        let same : o.now ≡ h.now = let x = o.is in let y = h.is in cc in
        let k = u.known h.now h.is in
        record {
          now = k.now;
          is = k.is;
          touches = record {
            its = λ place path f at has s.
                let g = o.each place path f at has s in
                let synced : IsSynced h.now path g.0 = subst (λ (m : Contents). IsSynced m path g.0) same g.2 in
                let how : (seen_file h.now path g.0 ≡ seen_file told path f) ⊎ (g.0.mode ≡ closed) =
                subst (λ (m : Contents). (seen_file m path g.0 ≡ seen_file told path f) ⊎ (g.0.mode ≡ closed)) same g.3 in
                part_on (seen_file told path f) (seen_file h.now path g.0) (get h.now path) (get k.now path)
                (elim how [
                  | inl sees ↦ inl sees
                  | inr shut ↦ inr (shut_content h.now path g.0 shut)
                ])
                (h.touches.its place path f at has s)
                (k.touches.its place path g.0 at g.1 synced);
            others = λ name none. k.touches.others name none ∙ h.touches.others name none;
          };
        };
  }

  made_on : (make : Bool) (f g : File) (x y z : Option (List ℕ)) → (g.mode ≡ closed → f.mode ≡ closed)
      → (y ≡ x) ⊎ IsEmptied make f y
      → (z ≡ y) ⊎ IsEmptied make g z → (z ≡ x) ⊎ IsEmptied make f z
  made_on make f g x y z still (inl same) (inl same_) = inl (same_ ∙ same)
  made_on make f g x y z still (inr emptied) (inl same_) = inr (emptied.0, (emptied.1.0, same_ ∙ emptied.1.1))
  made_on make f g x y z still first (inr emptied) = inr (emptied.0, (still emptied.1.0, emptied.1.1))

  -- in an OPEN
  pub makes_on : (makes : ℕ → Bool) → Makes paths makes w a b → OpensOnly w v → Makes paths makes v b c
      → Makes paths makes w a c
  makes_on makes m only n = record {
    known = λ told is.
        let h = m.known told is in
        let k = n.known h.now h.is in
        record {
          now = k.now;
          is = k.is;
          its = λ place path f at has.
              let g = only.each place f has in
              made_on (makes place) f g.0 (get told path) (get h.now path) (get k.now path) g.2
              (h.its place path f at has)
              (k.its place path g.0 at g.1);
          others = λ name none. k.others name none ∙ h.others name none;
        };
  }

-- ---- a step

-- where no file is made anew
pub none_touches : (paths : List (List ℕ)) (makes : ℕ → Bool) (w : World) (old new : FilesState)
    → Touches paths makes_none w old new
    → Touches paths makes w old new
none_touches paths makes w old new t = touches_more paths makes_none makes w (under_none makes) old new t

-- ---- how far it has got

-- an OPEN to one of its files
pub reaches_file : (paths : List (List ℕ)) (w : World) (old new : FilesState) (os : List Opening) (k : ℕ)
    (r : Result ℕ RunEnd) → Makes paths (makes_in (take (suc k) os)) w old new
    → IsMetBy (open_files (last_opened (suc k) os)) r → Reaches paths (open_files os) w old new r
reaches_file paths w old new os k r m met = record {
  reached = suc k;
  touches = makes_touch paths (makes_in (take (suc k) os)) w old new m;
  met = met;
}

-- where no file is made anew
pub reaches_none : (paths : List (List ℕ)) (a : Act) (w : World) (old new : FilesState) (r : Result ℕ RunEnd)
    → Touches paths makes_none w old new → IsMetBy (last_of 0 a) r → Reaches paths a w old new r
reaches_none paths a w old new r t met = record {
  reached = 0;
  touches = none_touches paths (makes_by (up_to 0 a)) w old new t;
  met = met;
}
