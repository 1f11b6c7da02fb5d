-- Settling keeps where things stand; so do GO TO and the beginning of a body.
use Rattle.std.proofs.Common.{◌≡◌, ℕ, zero, suc, ◌+◌, ◌-◌, ◌≤◌, ◌<◌, List, [], ◌∷◌, refl, sym, subst, ◌∙◌, arith}
use Rattle.std.specs.Prelude.{slice_get}
use Rattle.std.specs.Option.{option_map_or}
use Rattle.cob_program.specs.Act.{Stmts, no_stmts, more_stmts, Body, range, inline, Para, Program}
use Rattle.cob_runs.specs.State.{Doing, rest, paras, testing, augmenting}
use Rattle.cob_runs.specs.Steps.{body_at, begun, entered, settled, gone_to, body_of}
use Rattle.cob_graph.specs.Laid.{LaidList, no_laid, more_laid, LaidBody, own_list, copy, LaidParas, no_laid_paras, more_laid_paras, list_size}
use Rattle.cob_graph.specs.Places.{first_of_list, first_of_paras, first_of_para, first_of_body}
use Rattle.cob_graph.specs.Nodes.{Copied, list_nodes, paras_nodes, body_nodes, copied_in}
use Rattle.cob_graph.specs.Copies.{AreLaid, AreLaidParas, IsLaidBody}
use Rattle.cob_graph.specs.Graphs.{all_nodes}
use Rattle.cob_graph.specs.WellFormed.{AreWellFormed, AreWellFormedParas, IsWellFormedBody}
use Rattle.cob_graph.specs.Lookup.{node_at}
use Rattle.cob_graph_laws.proofs.Fronts.{front, back}
use Rattle.cob_graph.proofs.Lengths.{length-list}
use Rattle.cob_graph_laws.proofs.Relation.{Setting, Stand, ParasAt, Here, RestAt, Stands, Standing}

pub whole_in : (p : Program) (xs : List Para) (n : ℕ) → AreWellFormedParas p xs →
    AreWellFormed p (option_map_or (λ x. x.body) (slice_get xs n) no_stmts)
whole_in p [] n h = tt
whole_in p (x ∷ xs) zero h = h.0
whole_in p (x ∷ xs) (suc n) h = whole_in p xs n h.1

-- the front of a settled list is something to do
abbrev pub IsReady : List Doing → Type 0
IsReady [] = Unit {0}
IsReady (rest no_stmts ∷ ds) = ⊥
IsReady (rest (more_stmts x xs) ∷ ds) = Unit {0}
IsReady (paras first q ∷ ds) = ⊥
IsReady (testing n body turns ∷ ds) = Unit {0}
IsReady (augmenting n body turns ∷ ds) = Unit {0}

begun_ready : (ss : Stmts) (ds behind : List Doing) → IsReady behind → IsReady (begun ss ds behind)
begun_ready no_stmts ds behind h = h
begun_ready (more_stmts x xs) ds behind h = tt

entered_ready : (p : Program) (count first q : ℕ) (ds behind : List Doing) → IsReady behind →
    IsReady (entered p count first q ds behind)
entered_ready p zero first q ds behind h = h
entered_ready p (suc count) first q ds behind h =
    begun_ready (body_at p first) (paras (suc first) q ∷ ds) (entered p count (suc first) q ds behind)
    (entered_ready p count (suc first) q ds behind h)

pub settled_ready : (p : Program) (ds : List Doing) → IsReady (settled p ds)
settled_ready p [] = tt
settled_ready p (rest ss ∷ ds) = begun_ready ss ds (settled p ds) (settled_ready p ds)
settled_ready p (paras first q ∷ ds) = entered_ready p (suc q - first) first q ds (settled p ds) (settled_ready p ds)
settled_ready p (testing n body turns ∷ ds) = tt
settled_ready p (augmenting n body turns ∷ ds) = tt

module _ (s : Setting) where
  empty_list : (lo hi : ℕ) (xs : LaidList) (at next : ℕ) → AreLaid s.p lo hi no_stmts xs →
      first_of_list xs at next ≡ next
  empty_list lo hi no_laid at next h = refl
  empty_list lo hi (more_laid x xs) at next h = absurd h

  begun_stands : (ss : Stmts) (ds behind : List Doing) (h : Here s) (hs : List (Here s)) (n next : ℕ) →
      RestAt s h ss n next → Stands s ds (h ∷ hs) next →
      Standing s behind next → Standing s (begun ss ds behind) n
  begun_stands no_stmts ds behind h hs n next r st o =
      subst (λ (m : ℕ). Standing s behind m) (sym (r.begins ∙ empty_list h.lo h.hi r.laid r.at next r.are)) o
  begun_stands (more_stmts x xs) ds behind h hs n next r st o = record { copies = h ∷ hs; stands = (next, r, st) }

  entered_stands : (count first q : ℕ) (ds behind : List Doing) (h : Here s) (hs : List (Here s)) (n : ℕ)
      (laid : LaidParas) (at : ℕ) →
      count ≡ suc h.hi - first → AreLaidParas s.p h.lo h.hi first count laid →
      Stand s at (paras_nodes h.c laid at h.next) → n ≡ first_of_paras laid at h.next →
      q ≡ h.hi → Stands s ds hs h.next → Standing s behind h.next → Standing s (entered s.p count first q ds behind) n
  entered_stands zero first q ds behind h hs n no_laid_paras at e are stand b e2 st o = subst
      (λ (m : ℕ). Standing s behind m) (sym b) o
  entered_stands zero first q ds behind h hs n (more_laid_paras xs ps) at e are stand b e2 st o = absurd are
  entered_stands (suc count) first q ds behind h hs n no_laid_paras at e are stand b e2 st o = absurd are
  entered_stands (suc count) first q ds behind h hs n (more_laid_paras xs ps) at e are stand b e2 st o =
      let all = node_at (all_nodes s.p s.is.copies) in
      let ns = list_nodes h.c xs at (first_of_paras ps (at + list_size xs) h.next) in
      let ms = paras_nodes h.c ps (at + list_size xs) h.next in
      let later = back all at (list_size xs) ns ms
      (length-list h.c xs at (first_of_paras ps (at + list_size xs) h.next)) stand in
      begun_stands (body_at s.p first) (paras (suc first) q ∷ ds) (entered s.p count (suc first) q ds behind) h hs n
      (first_of_paras ps (at + list_size xs) h.next)
      (record {
        laid = xs;
        at = at;
        whole = whole_in s.p s.p.paras first s.whole;
        are = are.0;
        stand = front all at ns
            ms stand;
        begins = b;
      }) (
        e2,
        record {
          count = count;
          laid = ps;
          at = at + list_size xs;
          counted = omega (arith, e);
          are = are.1;
          stand =
              later;
          begins = refl;
        },
        st,
      )
      (entered_stands count (suc first) q ds behind h hs (first_of_paras ps (at + list_size xs) h.next) ps
      (at + list_size xs)
      (omega (arith, e)) are.1 later refl e2 st o)

  pub settling : (ds : List Doing) (hs : List (Here s)) (n : ℕ) → Stands s ds hs n → Standing s (settled s.p ds) n
  settling [] hs n st = record { copies = hs; stands = st }
  settling (d ∷ ds) [] n st = absurd st
  settling (rest ss ∷ ds) (h ∷ hs) n st = begun_stands ss ds (settled s.p ds) h hs n st.0 st.1 st.2
      (settling ds (h ∷ hs) st.0 st.2)
  settling (paras first q ∷ ds) (h ∷ hs) n st =
      let e : st.1.count ≡ suc q - first = omega (arith, st.0, st.1.counted) in
      subst (λ (m : ℕ). Standing s (entered s.p m first q ds (settled s.p ds)) n) e
      (entered_stands st.1.count first q ds (settled s.p ds) h hs n st.1.laid st.1.at st.1.counted st.1.are st.1.stand
      st.1.begins st.0 st.2 (settling ds hs h.next st.2))
  settling (testing number body turns ∷ ds) (h ∷ hs) n st = record { copies = h ∷ hs; stands = st }
  settling (augmenting number body turns ∷ ds) (h ∷ hs) n st = record { copies = h ∷ hs; stands = st }

  -- those from the paragraph with j before it in a copy
  pub part : (c : Copied) (lo hi next j first count : ℕ) (laid : LaidParas) (at t : ℕ) → j < count → t ≡ first + j →
      count ≡ suc hi - first →
      AreLaidParas s.p lo hi first count laid → Stand s at (paras_nodes c laid at next) →
      ParasAt s c lo hi t (first_of_para j laid at next) next
  part c lo hi next zero first count laid at t l e f are stand =
      let same : first ≡ t = omega (arith, e) in
      record {
        count = count;
        laid = laid;
        at = at;
        counted = omega (arith, e, f);
        are = subst
            (λ (m : ℕ). AreLaidParas s.p lo hi m count laid) same are;
        stand = stand;
        begins = refl;
      }
  part c lo hi next (suc j) first zero laid at t l e f are stand = absurd (omega (arith, l))
  part c lo hi next (suc j) first (suc count) no_laid_paras at t l e f are stand = absurd are
  part c lo hi next (suc j) first (suc count) (more_laid_paras xs ps) at t l e f are stand =
      part c lo hi next j (suc first) count ps (at + list_size xs) t (omega (arith, l)) (omega (arith, e))
      (omega (arith, f)) are.1
      (back (node_at (all_nodes s.p s.is.copies)) at (list_size xs)
      (list_nodes c xs at (first_of_paras ps (at + list_size xs) next)) (paras_nodes c ps (at + list_size xs) next)
      (length-list c xs at (first_of_paras ps (at + list_size xs) next)) stand)

  pub gone : (ds : List Doing) (h : Here s) (hs : List (Here s)) (n t : ℕ) → Stands s ds (h ∷ hs) n → h.lo ≤ t →
      t ≤ h.hi → Standing s (gone_to t ds) (h.c.para t)
  gone [] h hs n t st l g = absurd st
  gone (rest ss ∷ ds) h hs n t st l g = gone ds h hs st.0 t st.2 l g
  gone (paras first q ∷ ds) h hs n t st l g = record { copies = h ∷ hs; stands = (st.0, h.parts t l g, st.2) }
  gone (testing number body turns ∷ ds) h hs n t st l g = gone ds h hs st.0 t st.2 l g
  gone (augmenting number body turns ∷ ds) h hs n t st l g = gone ds h hs st.0 t st.2 l g

  abbrev copied : (h : Here s) (number first last : ℕ) (ps : LaidParas) (at next : ℕ) →
      AreLaidParas s.p first last first (suc last - first) ps →
      Stand s at (paras_nodes (copied_in h.c number first ps at next) ps at next) → Here s
  copied h number first last ps at next are stand = record {
    c = copied_in h.c number first ps at next;
    lo = first;
    hi = last;
    next = next;
    layout = h.layout;
    final = h.final;
    parts = λ t l g. part (copied_in h.c number first ps at next) first last next (t - first) first (suc last - first)
        ps at t
        (omega (arith, l, g)) (omega (arith, l)) refl are stand;
  }

  pub body_stands : (h : Here s) (hs : List (Here s)) (ds : List Doing) (number : ℕ) (body : Body) (x : LaidBody)
      (at next : ℕ) →
      IsWellFormedBody s.p body → IsLaidBody s.p h.lo h.hi body x → Stand s at (body_nodes h.c number x at next) →
      Stands s ds (h ∷ hs) next →
      Standing s (body_of body ∷ ds) (first_of_body x at next)
  body_stands h hs ds number (inline ss) (own_list xs) at next whole is stand st =
      record {
        copies = h ∷ hs;
        stands =
            (next, record { laid = xs; at = at; whole = whole; are = is; stand = stand; begins = refl }, st);
      }
  body_stands h hs ds number (range first last) (copy n ps) at next whole is stand st =
      let stand2 = subst (λ (m : ℕ). Stand s at (body_nodes h.c number (copy m ps) at next)) (sym is.0) stand in
      record {
        copies = copied h number first last ps at next is.1 stand2 ∷ h ∷ hs;
        stands = (
          refl,
          record {
            count = suc last - first;
            laid = ps;
            at = at;
            counted = refl;
            are = is.1;
            stand = stand2;
            begins = refl;
          },
          st,
        );
      }
  body_stands h hs ds number (inline ss) (copy n ps) at next whole is stand st = absurd is
  body_stands h hs ds number (range first last) (own_list xs) at next whole is stand st = absurd is
