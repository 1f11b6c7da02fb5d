-- Each GO TO of a source's program goes to a paragraph of it.
use Rattle.std.proofs.Common.{◌≡◌, ℕ, ◌+◌, ◌<◌, ◌≤◌, zero, suc, Bool, true, false, List, [], ◌∷◌, ◌++◌, length, Option, Some, None, refl, sym, ap, subst, arith}
use Rattle.std.proofs.lemmas.List.{length-map}
use Rattle.std.specs.Prelude.{Contains, slice_get}
use Rattle.std.specs.List.{AllByRecursion}
use Rattle.std.specs.Str.{bytes_eq}
use Rattle.cob_tree.specs.Stmt as tree
use Rattle.cob_data.specs.declared.layout.Flag.{Flag}
use Rattle.cob_data.specs.declared.layout.Layout.{Layout}
use Rattle.cob_program.specs.Act.{Stmt, MkStmt, Stmts, Phrase, left_out, given, Act, perform, go, range, inline, Para}
use Rattle.cob_program.specs.Statements.{list_statements, phrase_statements, with_inner_statements, inner_statements, whens_statements, para_statements}
use Rattle.cob_graph.specs.Nesting.{Jump, found_act, found, found_among, found_all}
use Rattle.cob_graph_build.specs.MainCopies.{HasTargets}
use Rattle.cob_typed_exprs.specs.Judged.{Judged}
use Rattle.cob_typed_exprs.specs.Scope.{Scope, place_if, found_in, paras_from, exactly_one, the_para}
use Rattle.cob_typed_conds.specs.declared.selections.Looked.{Looked}
use Rattle.cob_typed_conds.specs.Selections.{looked_at}
use Rattle.cob_typed_verbs.specs.Verbs.{set_flag, set_if}
use Rattle.cob_typed_verbs.specs.Arithmetic.{Worked, add_to, add_giving, subtract_from, subtract_giving, multiply_by, multiply_giving, divide_into, divide_giving, compute}
use Rattle.cob_typed.specs.Statements.{stmts_if, typed_stmts, typed_stmt, typed_phrase, typed_arith, typed_whens, typed_verb}
use Rattle.cob_typed.specs.Typing.{scope_of, joined, typed_sentences, typed_paras, typed}
use Rattle.source_facts.proofs.Joined.{joined_list}

-- ---- statements whose GO TOs go to one of the first so many paragraphs

abbrev ActGoes : ℕ → Act → Type 0
ActGoes limit (go to) = to < limit
ActGoes limit _ = Unit {0}

abbrev StmtGoes : ℕ → Stmt → Type 0
StmtGoes limit (MkStmt number line a) = ActGoes limit a

abbrev AreWithin : ℕ → List Stmt → Type 0
AreWithin limit ss = AllByRecursion (StmtGoes limit) ss

two : (limit : ℕ) (xs ys : List Stmt) → AreWithin limit xs → AreWithin limit ys → AreWithin limit (xs ++ ys)
two limit [] ys first second = second
two limit (x ∷ xs) ys first second = (first.0, two limit xs ys first.1 second)

if_given : (limit : ℕ) (x : Phrase) → AreWithin limit (phrase_statements x) → AreWithin limit (list_statements (stmts_if x))
if_given limit left_out all = all
if_given limit (given ss) all = all

flag_goes : (limit : ℕ) (o : Option Flag) → ActGoes limit (set_flag o) × AreWithin limit (inner_statements (set_flag o))
flag_goes limit None = (tt, tt)
flag_goes limit (Some f) = (tt, tt)

-- ---- where a name leads

abbrev AreBelow : ℕ → List ℕ → Type 0
AreBelow limit places = AllByRecursion (λ place. place < limit) places

if_below : (limit : ℕ) (b : Bool) (n : ℕ) (others : List ℕ) → n < limit → AreBelow limit others → AreBelow limit (place_if b n others)
if_below limit true n others here all = (here, all)
if_below limit false n others here all = all

paras_below : (limit n : ℕ) (text : List ℕ) (names : List (List ℕ)) → n + length names ≤ limit → AreBelow limit (paras_from n text names)
paras_below limit n text [] few = tt
paras_below limit n text (name ∷ names) few =
    if_below limit (bytes_eq text name) n (paras_from (suc n) text names) (omega (arith, few))
    (paras_below limit (suc n) text names (omega (arith, few)))

one_below : (limit : ℕ) (places : List ℕ) → 0 < limit → AreBelow limit places → (exactly_one (found_in places)).value < limit
one_below limit [] some all = some
one_below limit (place ∷ []) some all = all.0
one_below limit (first ∷ second ∷ others) some all = some

-- ---- what typing gives

module _ (s : Scope) (limit : ℕ) (few : length s.paras < limit) where
  to_within : (text : List ℕ) → (the_para s text).value < limit
  to_within text = one_below limit (paras_from 1 text s.paras) (omega (arith, few)) (paras_below limit 1 text s.paras (omega (arith, few)))

  set_goes : (o : Option ℕ) → ActGoes limit (set_if s o) × AreWithin limit (inner_statements (set_if s o))
  set_goes None = (tt, tt)
  set_goes (Some place) = flag_goes limit (slice_get s.layout.flags place)

  arith_goes : (line n : ℕ) (w : Judged Worked) (x : tree.Tail) → ActGoes limit (typed_arith s line n w x).value
  arith_goes line n w (tree.MkTail size not_size ended) = tt

  act_goes : (line n : ℕ) (v : tree.Verb) → ActGoes limit (typed_verb s line n v).value
  act_goes line n (tree.move from to) = tt
  act_goes line n (tree.set text) = (set_goes _).0
  act_goes line n (tree.display operands) = tt
  act_goes line n (tree.add_to addends to tail) = arith_goes line n (add_to s addends to) tail
  act_goes line n (tree.add_giving addends to giving tail) = arith_goes line n (add_giving s addends to giving) tail
  act_goes line n (tree.subtract_from less from tail) = arith_goes line n (subtract_from s less from) tail
  act_goes line n (tree.subtract_giving less from giving tail) = arith_goes line n (subtract_giving s less from giving) tail
  act_goes line n (tree.multiply_by factor by tail) = arith_goes line n (multiply_by s factor by) tail
  act_goes line n (tree.multiply_giving factor by giving tail) = arith_goes line n (multiply_giving s factor by giving) tail
  act_goes line n (tree.divide_into divisor into tail) = arith_goes line n (divide_into s divisor into) tail
  act_goes line n (tree.divide_giving first way second giving remainder tail) =
      arith_goes line n (divide_giving s first way second giving remainder) tail
  act_goes line n (tree.compute to value tail) = arith_goes line n (compute s to value) tail
  act_goes line n (tree.if_ test ss other ended) = tt
  act_goes line n (tree.evaluate subject whens other ended) = tt
  act_goes line n (tree.perform_range first thru turns) = tt
  act_goes line n (tree.perform_inline turns body) = tt
  act_goes line n (tree.go text) = to_within text
  act_goes line n tree.exit = tt
  act_goes line n tree.continue = tt
  act_goes line n tree.stop_run = tt
  act_goes line n (tree.open_ files) = tt
  act_goes line n (tree.close names) = tt
  act_goes line n (tree.read file into end not_end ended) = tt
  act_goes line n (tree.write rec_ from ended) = tt

  mutual
    stmts_go : (n : ℕ) (ss : tree.Stmts) → AreWithin limit (list_statements (typed_stmts s n ss).value)
    stmts_go n tree.no_stmts = tt
    stmts_go n (tree.more_stmts x xs) =
        let y = typed_stmt s n x in
        two limit (with_inner_statements y.value) (list_statements (typed_stmts s y.next xs).value) (stmt_goes n x) (stmts_go y.next xs)

    stmt_goes : (n : ℕ) (x : tree.Stmt) → AreWithin limit (with_inner_statements (typed_stmt s n x).value)
    stmt_goes n (tree.MkStmt line v) = (act_goes line (suc n) v, inner_go line (suc n) v)

    phrase_goes : (n : ℕ) (x : tree.Phrase) → AreWithin limit (phrase_statements (typed_phrase s n x).value)
    phrase_goes n tree.left_out = tt
    phrase_goes n (tree.given ss) = stmts_go n ss

    tail_goes : (line n : ℕ) (w : Judged Worked) (x : tree.Tail) → AreWithin limit (inner_statements (typed_arith s line n w x).value)
    tail_goes line n w (tree.MkTail size not_size ended) =
        let a = typed_phrase s n size in
        let b = typed_phrase s a.next not_size in
        two limit (phrase_statements a.value) (list_statements (stmts_if b.value)) (phrase_goes n size)
        (if_given limit b.value (phrase_goes a.next not_size))

    whens_go : (line n : ℕ) (subject : Looked) (ws : tree.Whens) → AreWithin limit (whens_statements (typed_whens s line n subject ws).value)
    whens_go line n subject tree.no_whens = tt
    whens_go line n subject (tree.more_whens (tree.MkWhen choices body) ws) =
        let x = typed_stmts s n body in
        two limit (list_statements x.value) (whens_statements (typed_whens s line x.next subject ws).value) (stmts_go n body)
        (whens_go line x.next subject ws)

    inner_go : (line n : ℕ) (v : tree.Verb) → AreWithin limit (inner_statements (typed_verb s line n v).value)
    inner_go line n (tree.move from to) = tt
    inner_go line n (tree.set text) = (set_goes _).1
    inner_go line n (tree.display operands) = tt
    inner_go line n (tree.add_to addends to tail) = tail_goes line n (add_to s addends to) tail
    inner_go line n (tree.add_giving addends to giving tail) = tail_goes line n (add_giving s addends to giving) tail
    inner_go line n (tree.subtract_from less from tail) = tail_goes line n (subtract_from s less from) tail
    inner_go line n (tree.subtract_giving less from giving tail) = tail_goes line n (subtract_giving s less from giving) tail
    inner_go line n (tree.multiply_by factor by tail) = tail_goes line n (multiply_by s factor by) tail
    inner_go line n (tree.multiply_giving factor by giving tail) = tail_goes line n (multiply_giving s factor by giving) tail
    inner_go line n (tree.divide_into divisor into tail) = tail_goes line n (divide_into s divisor into) tail
    inner_go line n (tree.divide_giving first way second giving remainder tail) =
        tail_goes line n (divide_giving s first way second giving remainder) tail
    inner_go line n (tree.compute to value tail) = tail_goes line n (compute s to value) tail
    inner_go line n (tree.if_ test ss other ended) =
        let x = typed_stmts s n ss in
        let y = typed_phrase s x.next other in
        two limit (list_statements x.value) (list_statements (stmts_if y.value)) (stmts_go n ss)
        (if_given limit y.value (phrase_goes x.next other))
    inner_go line n (tree.evaluate subject whens other ended) =
        let looked = looked_at s subject in
        let x = typed_whens s line n looked.value whens in
        let y = typed_phrase s x.next other in
        two limit (whens_statements x.value) (list_statements (stmts_if y.value)) (whens_go line n looked.value whens)
        (if_given limit y.value (phrase_goes x.next other))
    inner_go line n (tree.perform_range first thru turns) = tt
    inner_go line n (tree.perform_inline turns body) = stmts_go n body
    inner_go line n (tree.go text) = tt
    inner_go line n tree.exit = tt
    inner_go line n tree.continue = tt
    inner_go line n tree.stop_run = tt
    inner_go line n (tree.open_ files) = tt
    inner_go line n (tree.close names) = tt
    inner_go line n (tree.read file into end not_end ended) =
        let a = typed_phrase s n end in
        let b = typed_phrase s a.next not_end in
        two limit (phrase_statements a.value) (list_statements (stmts_if b.value)) (phrase_goes n end)
        (if_given limit b.value (phrase_goes a.next not_end))
    inner_go line n (tree.write rec_ from ended) = tt

  -- ---- sentences and paragraphs

  joined_go : (xs ys : Stmts) → AreWithin limit (list_statements xs) → AreWithin limit (list_statements ys) → AreWithin limit (list_statements (joined xs ys))
  joined_go xs ys first second = subst (AreWithin limit) (sym (joined_list xs ys)) (two limit (list_statements xs) (list_statements ys) first second)

  sentences_go : (n : ℕ) (ss : List tree.Stmts) → AreWithin limit (list_statements (typed_sentences s n ss).value)
  sentences_go n [] = tt
  sentences_go n (ss ∷ more) =
      let x = typed_stmts s n ss in
      joined_go x.value (typed_sentences s x.next more).value (stmts_go n ss) (sentences_go x.next more)

  abbrev ParasGo : List Para → Type 0
  ParasGo xs = AllByRecursion (λ x. AreWithin limit (para_statements x)) xs

  paras_go : (n : ℕ) (ps : List tree.Paragraph) → ParasGo (typed_paras s n ps).value
  paras_go n [] = tt
  paras_go n (p ∷ ps) = (sentences_go n p.sentences, paras_go (typed_sentences s n p.sentences).next ps)

paras_count : (s : Scope) (n : ℕ) (ps : List tree.Paragraph) → length (typed_paras s n ps).value ≡ length ps
paras_count s n [] = refl
paras_count s n (p ∷ ps) = ap suc (paras_count s (typed_sentences s n p.sentences).next ps)

-- ---- the jumps that are found

abbrev JumpsGo : ℕ → List Jump → Type 0
JumpsGo limit js = AllByRecursion (λ j. j.to < limit) js

act_jumps : (limit para line : ℕ) (a : Act) (rest : List Jump) → ActGoes limit a → JumpsGo limit rest → JumpsGo limit ((found_act para line a).jumps ++ rest)
act_jumps limit para line (go to) rest goes all = (goes, all)
act_jumps limit para line (perform (range first last) turns) rest goes all = all
act_jumps limit para line (perform (inline ss) turns) rest goes all = all
act_jumps limit para line _ rest goes all = all

list_jumps : (limit para : ℕ) (ss : List Stmt) → AreWithin limit ss → JumpsGo limit (found para ss).jumps
list_jumps limit para [] all = tt
list_jumps limit para (MkStmt number line a ∷ ss) all = act_jumps limit para line a (found para ss).jumps all.0 (list_jumps limit para ss all.1)

jumps_two : (limit : ℕ) (xs ys : List Jump) → JumpsGo limit xs → JumpsGo limit ys → JumpsGo limit (xs ++ ys)
jumps_two limit [] ys first second = second
jumps_two limit (x ∷ xs) ys first second = (first.0, jumps_two limit xs ys first.1 second)

paras_jumps : (limit para : ℕ) (xs : List Para) → AllByRecursion (λ x. AreWithin limit (para_statements x)) xs → JumpsGo limit (found_among para xs).jumps
paras_jumps limit para [] all = tt
paras_jumps limit para (x ∷ xs) all =
    jumps_two limit (found para (para_statements x)).jumps (found_among (para + 1) xs).jumps (list_jumps limit para (para_statements x) all.0)
    (paras_jumps limit (para + 1) xs all.1)

each_jump : (limit : ℕ) (js : List Jump) (j : Jump) → JumpsGo limit js → Contains js j → j.to < limit
each_jump limit [] j all (k, within, is) = absurd (omega (arith, within))
each_jump limit (x ∷ js) j all (zero, within, is) = let same : x ≡ j = is in subst (λ (i : Jump). i.to < limit) same all.0
each_jump limit (x ∷ js) j all (suc k, within, is) = each_jump limit js j all.1 (k, omega (arith, within), is)

few_names : (l : Layout) (t : tree.Tree) → length (scope_of l t).paras < length (typed l t).paras
few_names l t =
    let s = scope_of l t in
    let names : length s.paras ≡ length t.paragraphs = length-map t.paragraphs (λ p. p.name) in
    let paras : length (typed l t).paras ≡ suc (length t.paragraphs) =
    ap suc (paras_count s (typed_sentences s 1 t.sentences).next t.paragraphs) in
    omega (arith, names, paras)

pub has_targets : (l : Layout) (t : tree.Tree) → HasTargets (typed l t)
has_targets l t =
    let s = scope_of l t in
    let limit = length (typed l t).paras in
    let few = few_names l t in
    let all =
    paras_jumps limit 0 (typed l t).paras
    (sentences_go s limit few 1 t.sentences, paras_go s limit few (typed_sentences s 1 t.sentences).next t.paragraphs) in
    record { within = λ j stands. each_jump limit (found_all (typed l t)).jumps j all stands }
