-- Names that stand twice, and names among others, at a place of a list.
use Rattle.std.proofs.Common.{◌≡◌, ℕ, ◌+◌, ◌<◌, ◌≤◌, zero, suc, Bool, true, false, not, cond, ◌||◌, ◌&&◌, eqb, List, [], ◌∷◌, ◌++◌, append_assoc, append-nil, map, length, get_or, take, drop, drop-cons, take-suc, count_by, Option, Some, None, is_none, unwrap_or, take_all, bytes_eq, refl, sym, ap, subst, ◌∙◌, arith}
use Rattle.std.proofs.lemmas.Bool.Decides.{nat_tests}
use Rattle.std.proofs.lemmas.List.Folds.{list_any-append}
use Rattle.std.proofs.lemmas.List.Sums.{sum_by-append}
use Rattle.std.specs.List.{list_any}
use Rattle.std.specs.Cmp.Lexicographic.{bytes_decides, nat_list_eq_equiv}
use Rattle.std.specs.Str.{str_to_ascii_lowercase}
use Rattle.std.specs.HashMap.{HashMap, get_by, UpdatesBy}
use Rattle.std.specs.Map.{KeepsOthers, IsKeyTest, AreApart, lookup}
use Rattle.indexmap.specs.IndexSet.{insert_key}
use Rattle.cob_tree.specs.declared.front.Select.{Select}
use Rattle.cob_tree.specs.declared.front.Fd.{Fd}
use Rattle.cob_data.specs.declared.description.Description.{Description}
use Rattle.cob_data.specs.declared.names.Names.{Names}
use Rattle.cob_data.specs.Files.{selects_name, describes_name, breaks_select_match, breaks_fd_match, breaks_externals, breaks_status, external_text, is_named, is_record_of, is_status_holder, may_hold_status, is_status_item}
use Rattle.cob_data.specs.Names.{stands_in, repeats, HasNames}
use Rattle.cob_data.specs.Rules.{Facts}

-- ---- names in a set

same_bytes : (a b : List ℕ) → bytes_eq a b ≡ bytes_eq b a
same_bytes a b = nat_list_eq_equiv.symm a b

-- what is known already may be added again
known_again : (x y : Bool) → (y ≡ true → x ≡ true) → x ≡ (x || (y || false))
known_again true y h = refl
known_again false true h = h refl
known_again false false h = refl

module _ {K : Type 0} (text : K → List ℕ) where
  abbrev pub same_text : K → K → Bool
  same_text x y = bytes_eq (text x) (text y)

  abbrev pub AreKeys : List K → List (List ℕ) → Type 0
  AreKeys keys names = (q : List ℕ) → list_any (λ k. bytes_eq q (text k)) keys ≡ stands_in names q

  inserted_at : (keys : List K) (key : K) (names : List (List ℕ)) (b : Bool) → list_any (same_text key) keys ≡ b → AreKeys keys names →
      AreKeys (cond b keys (keys ++ key ∷ [])) (names ++ text key ∷ [])
  inserted_at keys key names true there are q =
      let again : stands_in names q ≡ (stands_in names q || (bytes_eq (text key) q || false)) = known_again (stands_in names q) (bytes_eq (text key) q) (λ e. subst (λ n. stands_in names n ≡ true) ((bytes_decides (text key) q).0 e) (sym (are (text key)) ∙ there)) in
      are q ∙ again ∙ sym (list_any-append (λ n. bytes_eq n q) names (text key ∷ []))
  inserted_at keys key names false new are q =
      list_any-append (λ k. bytes_eq q (text k)) keys (key ∷ [])
      ∙ ap (λ b. b || (bytes_eq q (text key) || false)) (are q)
      ∙ ap (λ b. stands_in names q || (b || false)) (same_bytes q (text key))
      ∙ sym (list_any-append (λ n. bytes_eq n q) names (text key ∷ []))

  -- one name more
  pub inserted : (keys more : List K) (key : K) (names : List (List ℕ)) (i : ℕ) (n : List ℕ) → i < length names → n ≡ get_or names i n → text key ≡ n →
      more ≡ insert_key same_text keys key → AreKeys keys (take i names) → AreKeys more (take (i + 1) names)
  inserted keys more key names i n within is spelled put are =
      let one : i + 1 ≡ suc i = omega arith in
      let split : take (i + 1) names ≡ take i names ++ text key ∷ [] = rw (one, spelled) (take-suc names i n within ∙ ap (λ m. take i names ++ m ∷ []) (sym is)) in
      rw (split, put) (inserted_at keys key (take i names) (list_any (same_text key) keys) refl are)

-- ---- flags of a list

pub repeats_step : (names : List (List ℕ)) (i : ℕ) (n : List ℕ) (flags more all : List Bool) (b : Bool) → i < length names → n ≡ get_or names i n → b ≡ stands_in (take i names) n → more ≡ flags ++ b ∷ [] →
    flags ++ repeats (take i names) (drop i names) ≡ all → more ++ repeats (take (i + 1) names) (drop (i + 1) names) ≡ all
repeats_step names i n flags more all b within is stands pushed so_far =
    let one : i + 1 ≡ suc i = omega arith in
    let split : take (suc i) names ≡ take i names ++ n ∷ [] = take-suc names i n within ∙ ap (λ m. take i names ++ m ∷ []) (sym is) in
    let first : drop i names ≡ n ∷ drop (suc i) names = drop-cons names i n within ∙ ap (λ m. m ∷ drop (suc i) names) (sym is) in
    rw (one, split, pushed, stands) (append_assoc flags (stands_in (take i names) n ∷ []) (repeats (take i names ++ n ∷ []) (drop (suc i) names)) ∙ rw first at so_far)

any_map : {A : Type 0} (f : A → List ℕ) (name : List ℕ) (xs : List A) → stands_in (map f xs) name ≡ list_any (λ x. bytes_eq (f x) name) xs
any_map f name [] = refl
any_map f name (x ∷ xs) = ap (λ b. bytes_eq (f x) name || b) (any_map f name xs)

map_push : {A : Type 0} (f : A → List ℕ) (xs : List A) (x : A) → map f (xs ++ x ∷ []) ≡ map f xs ++ f x ∷ []
map_push f [] x = refl
map_push f (y ∷ ys) x = ap (λ t. f y ∷ t) (map_push f ys x)

-- whether the name at a place stands before it, in a list behind another
repeated_behind : {A : Type 0} (f : A → List ℕ) (before xs : List A) (i : ℕ) (x : A) → i < length xs → x ≡ get_or xs i x →
    get_or (repeats (map f before) (map f xs)) i false ≡ list_any (λ y. bytes_eq (f y) (f x)) (before ++ take i xs)
repeated_behind f before [] i x within is = absurd (omega arith)
repeated_behind f before (y ∷ ys) zero x within is =
    let same : x ≡ y = is in
    rw (same, append-nil before) (any_map f (f y) before)
repeated_behind f before (y ∷ ys) (suc i) x within is =
    let inside : i < length ys = omega (arith, within) in
    let further = repeated_behind f (before ++ y ∷ []) ys i x inside is in
    rw (← append_assoc before (y ∷ []) (take i ys), ← map_push f before y) further

repeated_is : {A : Type 0} (f : A → List ℕ) (xs : List A) (i : ℕ) (x : A) → i < length xs → x ≡ get_or xs i x →
    get_or (repeats [] (map f xs)) i false ≡ list_any (λ y. bytes_eq (f y) (f x)) (take i xs)
repeated_is f xs i x within is = repeated_behind f [] xs i x within is

flag_is : {A : Type 0} (p : A → Bool) (xs : List A) (i : ℕ) (x : A) → i < length xs → x ≡ get_or xs i x → get_or (map p xs) i false ≡ p x
flag_is p [] i x within is = absurd (omega arith)
flag_is p (y ∷ ys) zero x within is = ap p (sym is)
flag_is p (y ∷ ys) (suc i) x within is = flag_is p ys i x (omega (arith, within)) is

among_is : {A B : Type 0} (f : A → List ℕ) (g : B → List ℕ) (xs : List A) (ys : List B) (i : ℕ) (x : A) → i < length xs → x ≡ get_or xs i x →
    get_or (map (stands_in (map g ys)) (map f xs)) i false ≡ list_any (λ y. bytes_eq (g y) (f x)) ys
among_is f g [] ys i x within is = absurd (omega arith)
among_is f g (z ∷ zs) ys zero x within is = let same : x ≡ z = is in rw same (any_map g (f z) ys)
among_is f g (z ∷ zs) ys (suc i) x within is = among_is f g zs ys i x (omega (arith, within)) is

-- ---- the rules on names

pub select_match_is : (n : Names) (f : Facts) (i : ℕ) (r : Bool) → HasNames n f → i < length f.selects →
    r ≡ (get_or n.repeated_selects.items i false || not (get_or n.described.items i false)) →
    (s : Select) → s ≡ get_or f.selects i s → r ≡ breaks_select_match (take i f.selects) f.fds s
select_match_is n f i r names within e s is =
    rw (e, names.repeated_selects, names.described, repeated_is (λ (x : Select). x.name) f.selects i s within is, among_is (λ (x : Select). x.name) (λ (x : Fd). x.name) f.selects f.fds i s within is) refl

pub externals_is : (n : Names) (f : Facts) (i : ℕ) (r : Bool) → HasNames n f → i < length f.selects → r ≡ get_or n.repeated_externals.items i false →
    (s : Select) → s ≡ get_or f.selects i s → r ≡ breaks_externals (take i f.selects) s
externals_is n f i r names within e s is =
    rw (e, names.repeated_externals) (repeated_is (λ (x : Select). str_to_ascii_lowercase (external_text x.external)) f.selects i s within is)

pub status_is : (n : Names) (f : Facts) (i : ℕ) (r : Bool) → HasNames n f → i < length f.selects → r ≡ get_or n.wrong_statuses.items i false →
    (s : Select) → s ≡ get_or f.selects i s → r ≡ breaks_status f.items s
status_is n f i r names within e s is = rw (e, names.wrong_statuses) (flag_is (breaks_status f.items) f.selects i s within is)

pub lacks_select_is : (n : Names) (f : Facts) (i : ℕ) (r : Bool) → HasNames n f → i < length f.fds →
    r ≡ (get_or n.repeated_fds.items i false || not (get_or n.selected.items i false)) →
    (d : Fd) → d ≡ get_or f.fds i d → r ≡ (describes_name d.name (take i f.fds) || not (selects_name d.name f.selects))
lacks_select_is n f i r names within e d is =
    rw (e, names.repeated_fds, names.selected, repeated_is (λ (x : Fd). x.name) f.fds i d within is, among_is (λ (x : Fd). x.name) (λ (x : Select). x.name) f.fds f.selects i d within is) refl

-- ---- names in a map

module _ {K : Type 0} (eq : K → K → Bool) (test : K → Bool) where
  other_entries : {X : Type 0} (old new : List (K × X)) → KeepsOthers eq test old new → (other : K → Bool) → IsKeyTest eq other → AreApart test other → lookup other new ≡ lookup other old
  unfolding KeepsOthers
  other_entries old new h = h

apart : (a b k : List ℕ) → bytes_eq a b ≡ false → bytes_eq a k ≡ true → bytes_eq b k ≡ false
apart a b k differ same = same_bytes b k ∙ sym (nat_list_eq_equiv.congr a k b same) ∙ differ

module _ {K X S : Type 0} (text : K → List ℕ) (old new : HashMap K X S) (key : K) (w : Option X) where
  updated_at : UpdatesBy (same_text text) (same_text text key) old new w → (q : List ℕ) (b : Bool) → bytes_eq (text key) q ≡ b → get_by (λ k. bytes_eq q (text k)) new ≡ cond b w (get_by (λ k. bytes_eq q (text k)) old)
  updated_at updates q true e = subst (λ n. get_by (λ k. bytes_eq n (text k)) new ≡ w) ((bytes_decides (text key) q).0 e) updates.1
  updated_at updates q false e = other_entries (same_text text) (same_text text key) old.entries new.entries updates.3 (λ k. bytes_eq q (text k)) (λ x y. nat_list_eq_equiv.congr q (text x) (text y)) (λ k. apart (text key) q (text k) e)

  pub updated : UpdatesBy (same_text text) (same_text text key) old new w → (q : List ℕ) → get_by (λ k. bytes_eq q (text k)) new ≡ cond (bytes_eq (text key) q) w (get_by (λ k. bytes_eq q (text k)) old)
  updated updates q = updated_at updates q (bytes_eq (text key) q) refl

-- what is noted of a name: nothing, or whether it names one item, which may hold a status
abbrev pub noted : List ℕ → List Description → Option Bool
noted q ds = cond (eqb (count_by (is_named q) ds) 0) None (Some (is_status_item q ds))

module _ {K S : Type 0} (text : K → List ℕ) (old new : HashMap K Bool S) (key : K) (single may : Bool) where
  noted_at : UpdatesBy (same_text text) (same_text text key) old new (Some single) → single ≡ (is_none (get_by (λ k. bytes_eq (text key) (text k)) old) && may) →
      (q : List ℕ) (b : Bool) → bytes_eq (text key) q ≡ b →
      get_by (λ k. bytes_eq q (text k)) new ≡ cond b (Some (is_none (get_by (λ k. bytes_eq q (text k)) old) && may)) (get_by (λ k. bytes_eq q (text k)) old)
  noted_at updates is q true e = subst (λ n. get_by (λ k. bytes_eq n (text k)) new ≡ Some (is_none (get_by (λ k. bytes_eq n (text k)) old) && may)) ((bytes_decides (text key) q).0 e) (updates.1 ∙ ap Some is)
  noted_at updates is q false e = updated_at text old new key (Some single) updates q false e

  -- one name more
  pub noted_name : (name : List ℕ) → UpdatesBy (same_text text) (same_text text key) old new (Some single) → text key ≡ name → single ≡ (is_none (get_by (λ k. bytes_eq name (text k)) old) && may) →
      (q : List ℕ) → get_by (λ k. bytes_eq q (text k)) new ≡ cond (bytes_eq name q) (Some (is_none (get_by (λ k. bytes_eq q (text k)) old) && may)) (get_by (λ k. bytes_eq q (text k)) old)
  noted_name name updates spelled is q =
      subst (λ n. get_by (λ k. bytes_eq q (text k)) new ≡ cond (bytes_eq n q) (Some (is_none (get_by (λ k. bytes_eq q (text k)) old) && may)) (get_by (λ k. bytes_eq q (text k)) old)) spelled
      (noted_at updates (subst (λ n. single ≡ (is_none (get_by (λ k. bytes_eq n (text k)) old) && may)) (sym spelled) is) q (bytes_eq (text key) q) refl)

count_first : (p : Description → Bool) (d : Description) (ds : List Description) → count_by p (d ∷ ds) ≡ cond (p d) 1 0 + count_by p ds
count_first p d ds = omega (arith, sum_by-append (λ x. cond (p x) 1 0) (d ∷ []) ds)

count_last : (p : Description → Bool) (ds : List Description) (d : Description) → count_by p (ds ++ d ∷ []) ≡ count_by p ds + cond (p d) 1 0
count_last p ds d = omega (arith, sum_by-append (λ x. cond (p x) 1 0) ds (d ∷ []))

none_holds_at : (x r : Bool) (n : ℕ) (any : Bool) → (n ≡ 0 → any ≡ false) → cond x 1 0 + n ≡ 0 → ((x && r) || any) ≡ false
none_holds_at true r n any h e = absurd (omega (arith, e))
none_holds_at false r n any h e = h (omega (arith, e))

none_holds : (q : List ℕ) (ds : List Description) → count_by (is_named q) ds ≡ 0 → list_any (may_hold_status q) ds ≡ false
none_holds q [] e = refl
none_holds q (d ∷ ds) e = none_holds_at (is_named q d) (is_status_holder d) (count_by (is_named q) ds) (list_any (may_hold_status q) ds) (none_holds q ds) (sym (count_first (is_named q) d ds) ∙ e)

or_false : (x : Bool) → (x || false) ≡ x
or_false true = refl
or_false false = refl

abbrev noted_as : ℕ → Bool → Option Bool
noted_as n any = cond (eqb n 0) None (Some (eqb n 1 && any))

noted_last_at : (x h any : Bool) (n : ℕ) → (n ≡ 0 → any ≡ false) →
    noted_as (n + cond x 1 0) (any || ((x && h) || false)) ≡ cond x (Some (is_none (noted_as n any) && h)) (noted_as n any)
noted_last_at true h any zero none = rw (none refl) (ap Some (or_false h))
noted_last_at true h any (suc n) none =
    let some : eqb (suc n + 1) 0 ≡ false = grind (arith, nat_tests) in
    let more : eqb (suc n + 1) 1 ≡ false = grind (arith, nat_tests) in
    let had : eqb (suc n) 0 ≡ false = grind (arith, nat_tests) in
    rw (some, more, had) refl
noted_last_at false h any n none =
    let same : n + 0 ≡ n = omega arith in
    rw (same, or_false any) refl

noted_last : (q : List ℕ) (ds : List Description) (d : Description) → noted q (ds ++ d ∷ []) ≡ cond (is_named q d) (Some (is_none (noted q ds) && is_status_holder d)) (noted q ds)
noted_last q ds d =
    rw (count_last (is_named q) ds d, list_any-append (may_hold_status q) ds (d ∷ [])) (noted_last_at (is_named q d) (is_status_holder d) (list_any (may_hold_status q) ds) (count_by (is_named q) ds) (none_holds q ds))

pub noted_step : (q : List ℕ) (ds : List Description) (i : ℕ) (d : Description) (got more : Option Bool) → i < length ds → d ≡ get_or ds i d → got ≡ noted q (take i ds) →
    more ≡ cond (is_named q d) (Some (is_none got && is_status_holder d)) got → more ≡ noted q (take (i + 1) ds)
noted_step q ds i d got more within is so_far put =
    let one : i + 1 ≡ suc i = omega arith in
    let split : take (i + 1) ds ≡ take i ds ++ d ∷ [] = rw one (take-suc ds i d within ∙ ap (λ m. take i ds ++ m ∷ []) (sym is)) in
    rw (put, so_far, split) (sym (noted_last q (take i ds) d))

-- a name that nothing is noted of names nothing
single_at : (n : ℕ) (any : Bool) → unwrap_or (noted_as n any) false ≡ (eqb n 1 && any)
single_at zero any = refl
single_at (suc n) any =
    let had : eqb (suc n) 0 ≡ false = grind (arith, nat_tests) in
    rw had refl

pub single_is : (q : List ℕ) (ds : List Description) (i : ℕ) (got : Option Bool) → length ds ≤ i → got ≡ noted q (take i ds) → unwrap_or got false ≡ is_status_item q ds
single_is q ds i got all e =
    let whole : take i ds ≡ ds = take_all i ds all in
    rw (e, whole) (single_at (count_by (is_named q) ds) (list_any (may_hold_status q) ds))

-- ---- flags that a loop pushes

pub was_there : (x y z : Bool) → x ≡ not y → y ≡ z → not x ≡ z
was_there x true z is same = rw (is, ← same) refl
was_there x false z is same = rw (is, ← same) refl

pub same_flags : {A : Type 0} (p r : A → Bool) (xs : List A) → ((x : A) → p x ≡ r x) → map p xs ≡ map r xs
same_flags p r [] are = refl
same_flags p r (x ∷ xs) are = rw (are x) (ap (λ t. r x ∷ t) (same_flags p r xs are))

-- ---- the rule on FDs

or_true : (a b c l : Bool) → l ≡ (a || b) → l ≡ true → l ≡ (a || b || c)
or_true true b c l e t = e
or_true false true c l e t = e
or_true false false c l e t = absurd (cc)

or_other : (a b c l : Bool) → l ≡ (a || b) → l ≡ false → c ≡ (a || b || c)
or_other true b c l e f = absurd (cc)
or_other false true c l e f = absurd (cc)
or_other false false c l e f = refl

pub fd_match_then : (f : Facts) (i : ℕ) (l : Bool) (d : Fd) → l ≡ (describes_name d.name (take i f.fds) || not (selects_name d.name f.selects)) → l ≡ true →
    l ≡ breaks_fd_match (take i f.fds) f.selects f.items i d
fd_match_then f i l d e t = or_true (describes_name d.name (take i f.fds)) (not (selects_name d.name f.selects)) (not (list_any (is_record_of i) f.items)) l e t

pub fd_match_else : (f : Facts) (i : ℕ) (l has : Bool) (d : Fd) → l ≡ (describes_name d.name (take i f.fds) || not (selects_name d.name f.selects)) → l ≡ false → has ≡ list_any (is_record_of i) f.items →
    not has ≡ breaks_fd_match (take i f.fds) f.selects f.items i d
fd_match_else f i l has d e t is = ap not is ∙ or_other (describes_name d.name (take i f.fds)) (not (selects_name d.name f.selects)) (not (list_any (is_record_of i) f.items)) l e t
