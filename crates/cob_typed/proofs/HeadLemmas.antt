-- A verb is what is judged before its lists, and its lists.
use Rattle.std.proofs.Common.{◌≡◌, ℕ, suc, ◌+◌, List, [], ◌++◌, append-nil, Result, Ok, Err, OnOk, is_ok, true≢false, refl, sym, ap, ◌∙◌, arith}
use Rattle.cob_tree.specs.Stmt as tree
use Rattle.cob_program.specs.Act.{Act, MkStmt}
use Rattle.cob_data.specs.declared.end.Rule.{Rule}
use Rattle.cob_typed_exprs.specs.declared.finding.Finding.{Finding}
use Rattle.cob_typed_exprs.specs.Judged.{Broken, Judged, noted}
use Rattle.cob_typed_exprs.specs.Scope.{Scope}
use Rattle.cob_typed_conds.specs.declared.selections.Looked.{Looked}
use Rattle.cob_typed_conds.specs.declared.selections.Looked.TheVariants.{Truth}
use Rattle.cob_typed_conds.specs.Conditions.{walk_cond}
use Rattle.cob_typed_conds.specs.Selections.{looked_at}
use Rattle.cob_typed_verbs.specs.Arithmetic.{Worked, add_to, add_giving, subtract_from, subtract_giving, multiply_by, multiply_giving, divide_into, divide_giving, compute}
use Rattle.cob_typed_verbs.specs.Verbs.{read_parts, move_act, set_act, show_act, open_act, close_act, write_act}
use Rattle.cob_typed.specs.Lists.{found_behind}
use Rattle.cob_typed.specs.Statements.{Numbered, found_on, turns_of, range_act, go_act, typed_arith, typed_stmts, typed_phrase, typed_stmt, typed_verb}
use Rattle.cob_typed.specs.Heads.{Head, worked, Lists, TypedLists, tail_lists, lists_of, looked_in, act_of, head, typed_lists}
use Rattle.cob_typed.proofs.FoundLemmas.{found_append, found_noted}

-- a verb, with what it breaks, by its parts
abbrev by_parts : Scope → ℕ → ℕ → tree.Verb → List (Rule × ℕ) → Numbered Act
by_parts s line n v found = record {
  value = act_of (head s v).value (typed_lists s line n (looked_in (head s v).value) (lists_of v)).value;
  next = (typed_lists s line n (looked_in (head s v).value) (lists_of v)).next;
  found = found;
}

module _ (s : Scope) (line n : ℕ) where
  work_is : (j : Judged Worked) (t : tree.Tail) → typed_arith s line n j t ≡ record {
    value = act_of (worked j.value) (typed_lists s line n Truth (tail_lists t)).value;
    next = (typed_lists s line n Truth (tail_lists t)).next;
    found = (typed_arith s line n j t).found;
  }
  work_is j (tree.MkTail size fine ended) = refl

  verb_is : (v : tree.Verb) → typed_verb s line n v ≡ by_parts s line n v (typed_verb s line n v).found
  verb_is (tree.move from to) = refl
  verb_is (tree.set text) = refl
  verb_is (tree.display operands) = refl
  verb_is (tree.perform_range first thru turns) = refl
  verb_is (tree.go text) = refl
  verb_is (tree.open_ files) = refl
  verb_is (tree.close names) = refl
  verb_is (tree.write rec_ from ended) = refl
  verb_is (tree.add_to addends to tail) = work_is (add_to s addends to) tail
  verb_is (tree.add_giving addends to giving tail) = work_is (add_giving s addends to giving) tail
  verb_is (tree.subtract_from less from tail) = work_is (subtract_from s less from) tail
  verb_is (tree.subtract_giving less from giving tail) = work_is (subtract_giving s less from giving) tail
  verb_is (tree.multiply_by factor by tail) = work_is (multiply_by s factor by) tail
  verb_is (tree.multiply_giving factor by giving tail) = work_is (multiply_giving s factor by giving) tail
  verb_is (tree.divide_into divisor into tail) = work_is (divide_into s divisor into) tail
  verb_is (tree.divide_giving first way second giving remainder tail) = work_is (divide_giving s first way second giving remainder) tail
  verb_is (tree.compute to value tail) = work_is (compute s to value) tail
  verb_is (tree.if_ test ss other ended) = refl
  verb_is (tree.evaluate subject whens other ended) = refl
  verb_is (tree.perform_inline turns body) = refl
  verb_is (tree.read file into end not_end ended) = refl
  verb_is tree.exit = refl
  verb_is tree.continue = refl
  verb_is tree.stop_run = refl

  pub verb_value : (v : tree.Verb) → (typed_verb s line n v).value ≡ act_of (head s v).value (typed_lists s line n (looked_in (head s v).value) (lists_of v)).value
  verb_value v = ap (λ (x : Numbered Act). x.value) (verb_is v)

  pub verb_next : (v : tree.Verb) → (typed_verb s line n v).next ≡ (typed_lists s line n (looked_in (head s v).value) (lists_of v)).next
  verb_next v = ap (λ (x : Numbered Act). x.next) (verb_is v)

  -- what is broken before the lists, and then in them
  then_found : (old : List Finding) (b : Broken) (xs : List (Rule × ℕ)) → found_behind old (found_on line b ++ xs) ≡ found_behind (noted line old b) xs
  then_found old b xs = found_append old (found_on line b) xs ∙ ap (λ fs. found_behind fs xs) (found_noted line old b)

  work_found : (old : List Finding) (j : Judged Worked) (t : tree.Tail) → found_behind old (typed_arith s line n j t).found ≡ found_behind (noted line old j.broken) (typed_lists s line n Truth (tail_lists t)).found
  work_found old j (tree.MkTail size fine ended) = then_found old j.broken (typed_lists s line n Truth (tail_lists (tree.MkTail size fine ended))).found

  pub verb_found : (old : List Finding) (v : tree.Verb) → found_behind old (typed_verb s line n v).found ≡ found_behind (noted line old (head s v).broken) (typed_lists s line n (looked_in (head s v).value) (lists_of v)).found
  verb_found old (tree.move from to) = found_noted line old (move_act s from to).broken
  verb_found old (tree.set text) = found_noted line old (set_act s text).broken
  verb_found old (tree.display operands) = found_noted line old (show_act s operands).broken
  verb_found old (tree.perform_range first thru turns) = found_noted line old (range_act s first thru turns).broken
  verb_found old (tree.go text) = found_noted line old (go_act s text).broken
  verb_found old (tree.open_ files) = found_noted line old (open_act s files).broken
  verb_found old (tree.close names) = found_noted line old (close_act s names).broken
  verb_found old (tree.write rec_ from ended) = found_noted line old (write_act s rec_ from).broken
  verb_found old (tree.add_to addends to tail) = work_found old (add_to s addends to) tail
  verb_found old (tree.add_giving addends to giving tail) = work_found old (add_giving s addends to giving) tail
  verb_found old (tree.subtract_from less from tail) = work_found old (subtract_from s less from) tail
  verb_found old (tree.subtract_giving less from giving tail) = work_found old (subtract_giving s less from giving) tail
  verb_found old (tree.multiply_by factor by tail) = work_found old (multiply_by s factor by) tail
  verb_found old (tree.multiply_giving factor by giving tail) = work_found old (multiply_giving s factor by giving) tail
  verb_found old (tree.divide_into divisor into tail) = work_found old (divide_into s divisor into) tail
  verb_found old (tree.divide_giving first way second giving remainder tail) = work_found old (divide_giving s first way second giving remainder) tail
  verb_found old (tree.compute to value tail) = work_found old (compute s to value) tail
  verb_found old (tree.if_ test ss other ended) =
      let xs = (typed_stmts s n ss).found in
      let ys = (typed_phrase s (typed_stmts s n ss).next other).found in
      then_found old (walk_cond s test).broken (xs ++ (ys ++ [])) ∙ ap (λ zs. found_behind (noted line old (walk_cond s test).broken) (zs ++ (ys ++ []))) (sym (append-nil xs))
  verb_found old (tree.evaluate subject whens other ended) =
      then_found old (looked_at s subject).broken (typed_lists s line n (looked_in (head s (tree.evaluate subject whens other ended)).value) (lists_of (tree.evaluate subject whens other ended))).found
  verb_found old (tree.perform_inline turns body) =
      let xs = (typed_stmts s n body).found in
      then_found old (turns_of s turns).broken (xs ++ []) ∙ ap (found_behind (noted line old (turns_of s turns).broken)) (sym (append-nil (xs ++ [])))
  verb_found old (tree.read file into end not_end ended) =
      then_found old (read_parts s file into).broken (typed_lists s line n (looked_in (head s (tree.read file into end not_end ended)).value) (lists_of (tree.read file into end not_end ended))).found
  verb_found old tree.exit = refl
  verb_found old tree.continue = refl
  verb_found old tree.stop_run = refl

-- a statement by the parts of its verb
module _ (s : Scope) (n m line : ℕ) (t : tree.Stmt) (v : tree.Verb) (h : Head) (x : Looked) (lists : Lists) where
  typed_are : m ≡ n + 1 → h ≡ (head s v).value → x ≡ looked_in h → lists ≡ lists_of v → typed_lists s line m x lists ≡ typed_lists s line (suc n) (looked_in (head s v).value) (lists_of v)
  typed_are m_is h_is x_is lists_are =
      let next : m ≡ suc n = omega (arith, m_is) in
      ap (λ k. typed_lists s line k x lists) next ∙ ap (λ y. typed_lists s line (suc n) y lists) (x_is ∙ ap looked_in h_is)
      ∙ ap (typed_lists s line (suc n) (looked_in (head s v).value)) lists_are

  pub made_is : (k : ℕ) → k ≡ n → t ≡ tree.MkStmt line v → m ≡ n + 1 → h ≡ (head s v).value → x ≡ looked_in h → lists ≡ lists_of v → MkStmt k line (act_of h (typed_lists s line m x lists).value) ≡ (typed_stmt s n t).value
  made_is k k_is t_is m_is h_is x_is lists_are =
      ap (λ j. MkStmt j line (act_of h (typed_lists s line m x lists).value)) k_is
      ∙ ap (λ g. MkStmt n line (act_of g (typed_lists s line m x lists).value)) h_is
      ∙ ap (λ (y : Numbered TypedLists). MkStmt n line (act_of (head s v).value y.value)) (typed_are m_is h_is x_is lists_are)
      ∙ ap (MkStmt n line) (sym (verb_value s line (suc n) v)) ∙ sym (ap (λ y. (typed_stmt s n y).value) t_is)

  pub next_is : t ≡ tree.MkStmt line v → m ≡ n + 1 → h ≡ (head s v).value → x ≡ looked_in h → lists ≡ lists_of v → (typed_lists s line m x lists).next ≡ (typed_stmt s n t).next
  next_is t_is m_is h_is x_is lists_are =
      ap (λ (y : Numbered TypedLists). y.next) (typed_are m_is h_is x_is lists_are) ∙ sym (verb_next s line (suc n) v) ∙ sym (ap (λ y. (typed_stmt s n y).next) t_is)

  pub found_is : (old mid : List Finding) → mid ≡ noted line old (head s v).broken → t ≡ tree.MkStmt line v → m ≡ n + 1 → h ≡ (head s v).value → x ≡ looked_in h → lists ≡ lists_of v →
      found_behind mid (typed_lists s line m x lists).found ≡ found_behind old (typed_stmt s n t).found
  found_is old mid mid_is t_is m_is h_is x_is lists_are =
      ap (λ (y : Numbered TypedLists). found_behind mid y.found) (typed_are m_is h_is x_is lists_are)
      ∙ ap (λ fs. found_behind fs (typed_lists s line (suc n) (looked_in (head s v).value) (lists_of v)).found) mid_is
      ∙ sym (verb_found s line (suc n) old v) ∙ ap (found_behind old) (sym (append-nil (typed_verb s line (suc n) v).found))
      ∙ sym (ap (λ y. found_behind old (typed_stmt s n y).found) t_is)

-- what holds where one result is Ok holds where another one is that is Ok with it
pub on_ok_alike : {A B E : Type 0} (r : Result A E) (q : Result B E) (P : Type 0) → is_ok r ≡ is_ok q → OnOk q P → OnOk r P
on_ok_alike (Ok x) (Ok y) P alike holds = holds
on_ok_alike (Ok x) (Err y) P alike holds = absurd (true≢false alike)
on_ok_alike (Err x) q P alike holds = tt
