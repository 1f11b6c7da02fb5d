-- Where READ leads.
use Rattle.std.proofs.Common.{◌≡◌, ℕ, suc, ◌+◌, Bool, true, false, not, List, [], ◌∷◌, ◌++◌, length, Option, Some, None, is_some, Ok, refl, sym, ap, subst, ◌∙◌, arith, length-append}
use Rattle.std.specs.Prelude.{◌==◌, ◌&&◌, if◌then◌else◌}
use Rattle.cob_program.specs.Act.{Stmts, Phrase, left_out, given, read}
use Rattle.cob_runs.specs.declared.action.Action.TheVariants as action
use Rattle.cob_runs.specs.declared.outcome.Outcome.TheVariants.{Going, IoStop}
use Rattle.cob_runs.specs.State.{World, Doing, rest, state, going}
use Rattle.cob_runs.specs.Acts.{has_status, is_fine, take_one, into_if, where_fine}
use Rattle.cob_runs.specs.Steps.{outcome_of, behind_read, is_given, list_of}
use Rattle.cob_runs.specs.Effects.{edge_taken, taken_if}
use Rattle.cob_graph.specs.Laid.{LaidList, LaidPhrase, no_phrase, a_phrase, reading, one_if, phrase_size}
use Rattle.cob_graph.specs.Places.{first_of_list}
use Rattle.cob_graph.specs.Nodes.{bad_to, end_to, read_nodes, phrase_nodes, list_nodes}
use Rattle.cob_graph.specs.Copies.{IsLaidPhrase}
use Rattle.cob_graph.specs.Graphs.{all_nodes}
use Rattle.cob_graph.specs.WellFormed.{IsWellFormedPhrase}
use Rattle.cob_graph.specs.Lookup.{node_at, final_in}
use Rattle.cob_graph_laws.proofs.Fronts.{front, back, moved}
use Rattle.cob_graph.proofs.Lengths.{length-read, length-phrase}
use Rattle.cob_graph_laws.proofs.Relation.{Setting, choice, Way, Stops, Stand, Here, ActAt, Stands, Comes_by}
use Rattle.cob_graph_laws.proofs.Ways.{IsNode, leaves, stops, by_act, status_by_act, bad_by_act, end_by_act}
use Rattle.cob_graph_laws.proofs.Statements.{Leads, listed}
use Rattle.cob_graph_laws.proofs.FileCalls.{bad_lands, same_status, landed}

module _ (s : Setting) (h : Here s) (hs : List (Here s)) (ds : List Doing) (number k at next : ℕ) (w : World)
    (way : Way s k at w) (st : Stands s ds (h ∷ hs) next)
    (f : ℕ) (into : Option ℕ) (end : Phrase) (fine : Stmts) (a : LaidPhrase) (b : LaidList)
    (y : ActAt s h number (read f into end fine) (reading f (is_some into) a b) at next) where
  abbrev fine_at : ℕ
  fine_at = first_of_list b (at + 1 + one_if (is_some into) + phrase_size a) next

  abbrev end_at : ℕ
  end_at = end_to h.c number a f (at + 1 + one_if (is_some into)) next

  abbrev found : World × ℕ
  found = take_one s.p.layout (choice s k) f w

  own : Stand s at (read_nodes h.c number f (is_some into) at end_at fine_at next)
  own = front (node_at (all_nodes s.p s.is.copies)) at (read_nodes h.c number f (is_some into) at end_at fine_at next)
      (phrase_nodes h.c a (at + 1 + one_if (is_some into)) next)
      (front (node_at (all_nodes s.p s.is.copies)) at
      (read_nodes h.c number f (is_some into) at end_at fine_at next ++ phrase_nodes h.c a
      (at + 1 + one_if (is_some into)) next)
      (list_nodes h.c b (at + 1 + one_if (is_some into) + phrase_size a) next) y.stand)

  end_list : Stand s (at + 1 + one_if (is_some into)) (phrase_nodes h.c a (at + 1 + one_if (is_some into)) next)
  end_list =
      let all = node_at (all_nodes s.p s.is.copies) in
      let rs = read_nodes h.c number f (is_some into) at end_at fine_at next in
      let ns = phrase_nodes h.c a (at + 1 + one_if (is_some into)) next in
      moved all (at + (1 + one_if (is_some into))) (at + 1 + one_if (is_some into)) ns (omega arith)
      (back all at (1 + one_if (is_some into)) rs ns (length-read h.c number f (is_some into) at end_at fine_at next)
      (front all at (rs ++ ns) (list_nodes h.c b (at + 1 + one_if (is_some into) + phrase_size a) next) y.stand))

  fine_list : Stand s (at + 1 + one_if (is_some into) + phrase_size a)
      (list_nodes h.c b (at + 1 + one_if (is_some into) + phrase_size a) next)
  fine_list =
      let all = node_at (all_nodes s.p s.is.copies) in
      let rs = read_nodes h.c number f (is_some into) at end_at fine_at next in
      let ns = phrase_nodes h.c a (at + 1 + one_if (is_some into)) next in
      let ms = list_nodes h.c b (at + 1 + one_if (is_some into) + phrase_size a) next in
      moved all (at + length (rs ++ ns)) (at + 1 + one_if (is_some into) + phrase_size a) ms
      (omega (
        arith,
        length-append rs ns,
        length-read h.c number f (is_some into) at end_at fine_at next,
        length-phrase
            h.c a (at + 1 + one_if (is_some into)) next,
      ))
      (back all at (length (rs ++ ns)) (rs ++ ns) ms refl y.stand)

  -- ---- a record was found

  fine_moved : (into2 : Option ℕ) → into ≡ into2 →
      Stand s at (read_nodes h.c number f (is_some into2) at end_at fine_at next) → is_fine found.1 ≡ true →
      Way s (suc k) fine_at (into_if s.p.layout f into2 found.0)
  fine_moved None same ns e =
      leaves s h.c number k true _ at action.Take refl fine_at w found.0 way ns.0 (0, omega arith, refl)
      (by_act s number (choice s k) w action.Take (read f into end fine) (edge_taken found.0) y.its
      (ap (λ c. taken_if c found.0) e))
  fine_moved (Some place) same ns e =
      leaves s h.c number k false _ (at + 1) action.Assign refl fine_at found.0
      (into_if s.p.layout f (Some place) found.0)
      (leaves s h.c number k true _ at action.Take refl (at + 1) w found.0 way ns.0 (0, omega arith, refl)
      (by_act s number (choice s k) w action.Take (read f into end fine) (edge_taken found.0) y.its
      (ap (λ c. taken_if c found.0) e)))
      ns.1.0 (0, omega arith, refl)
      (by_act s number (choice s k) found.0 action.Assign (read f into end fine)
      (edge_taken (into_if s.p.layout f (Some place) found.0)) y.its
      (ap (λ i. edge_taken (into_if s.p.layout f i found.0)) same))

  -- ---- none was found

  unhandled : (status : ℕ) → is_fine status ≡ false →
      (has_status s.p.layout f ≡ true → Way s (suc k) (bad_to h.c number f next) found.0) →
      (has_status s.p.layout f ≡ false → bad_to h.c number f next ≡ final_in s.g →
      Stops s (suc k) status number found.0) →
      Comes_by s (outcome_of number (has_status s.p.layout f) status) (suc k) found.0 ds
  unhandled status e onwards stop =
      subst (λ c. Comes_by s (if c then Going else (if has_status s.p.layout f then Going else IoStop status number))
      (suc k) found.0 ds) (sym e)
      (landed s h number k hs ds next st (if has_status s.p.layout f then Going else IoStop status number) found.0
      (bad_lands s h number k (has_status s.p.layout f) f next status found.0 (same_status s h number k f) onwards
      stop))

  at_end : (status : ℕ) → is_fine status ≡ false → (end2 : Phrase) (a2 : LaidPhrase) → IsWellFormedPhrase s.p end2 →
      IsLaidPhrase s.p h.lo h.hi end2 a2 →
      Stand s (at + 1 + one_if (is_some into)) (phrase_nodes h.c a2 (at + 1 + one_if (is_some into)) next) →
      ((if is_given end2 then true else has_status s.p.layout f) ≡ true →
      Way s (suc k) (end_to h.c number a2 f (at + 1 + one_if (is_some into)) next) found.0) →
      ((if is_given end2 then true else has_status s.p.layout f) ≡ false →
      end_to h.c number a2 f (at + 1 + one_if (is_some into)) next ≡ final_in s.g →
      Stops s (suc k) status number found.0) →
      Leads s k number w (Ok (if true && is_given end2 then going found.0 (rest (list_of end2) ∷ ds) else state found.0
      ds (outcome_of number (has_status s.p.layout f) status)))
  at_end status e left_out no_phrase whole laid ns onwards stop = unhandled status e onwards stop
  at_end status e (given ss) (a_phrase xs) whole laid ns onwards stop =
      record {
        node = first_of_list xs (at + 1 + one_if (is_some into)) next;
        way = onwards refl;
        standing = listed s h hs
            ds ss xs (at + 1 + one_if (is_some into)) next whole laid ns st;
      }
  at_end status e left_out (a_phrase xs) whole laid ns onwards stop = absurd laid
  at_end status e (given ss) no_phrase whole laid ns onwards stop = absurd laid

  first_node : (into2 : Bool) → Stand s at (read_nodes h.c number f into2 at end_at fine_at next) →
      (taken_to : ℕ) × IsNode s h.c number true
      ((action.Take, taken_to) ∷ (action.AtEnd, end_at) ∷ (action.Bad 0, bad_to h.c number f next) ∷ []) at
  first_node false ns = (fine_at, ns.0)
  first_node true ns = (at + 1, ns.0)

  none_found : (ten : Bool) → found.1 == 10 ≡ ten → is_fine found.1 ≡ false →
      Leads s k number w (Ok (if ten && is_given end then going found.0 (rest (list_of end) ∷ ds) else state found.0 ds
      (outcome_of number (has_status s.p.layout f) found.1)))
  none_found true t e =
      let n = first_node (is_some into) own in
      let does_so = by_act s number (choice s k) w action.AtEnd (read f into end fine) (edge_taken found.0) y.its
      (ap (λ c. taken_if c found.0) t) in
      let told = end_by_act s number (read f into end fine) y.its in
      at_end found.1 e end a y.whole.0 y.laid.2 end_list
      (λ handled. leaves s h.c number k true _ at action.AtEnd (told ∙ handled) end_at w found.0 way n.1
      (1, omega arith, refl) does_so)
      (λ handled. stops s h.c number k true _ at action.AtEnd (told ∙ handled) end_at w found.0 found.1 way n.1
      (1, omega arith, refl) does_so
      (status_by_act s number (choice s k) w action.AtEnd (read f into end fine) (Some found.1) y.its refl))
  none_found false t e =
      let n = first_node (is_some into) own in
      let to = bad_to h.c number f next in
      let does_so = by_act s number (choice s k) w (action.Bad 0) (read f into end fine) (edge_taken found.0) y.its
      (ap (λ c. taken_if (not c && not (found.1 == 10)) found.0) e ∙ ap (λ c. taken_if (true && not c) found.0) t) in
      let told = bad_by_act s number 0 (read f into end fine) (has_status s.p.layout f) y.its refl in
      unhandled found.1 e
      (λ has. leaves s h.c number k true _ at (action.Bad 0) (told ∙ has) to w found.0 way n.1 (2, omega arith, refl)
      does_so)
      (λ has. stops s h.c number k true _ at (action.Bad 0) (told ∙ has) to w found.0 found.1 way n.1
      (2, omega arith, refl) does_so
      (status_by_act s number (choice s k) w (action.Bad 0) (read f into end fine) (Some found.1) y.its refl))

  -- ---- both

  reads : (good : Bool) → is_fine found.1 ≡ good →
      Leads s k number w (Ok (behind_read number (has_status s.p.layout f) end fine ds
      (if good then (into_if s.p.layout f into found.0, found.1) else found)))
  reads true e =
      let v = into_if s.p.layout f into found.0 in
      subst (λ c. Leads s k number w (Ok
      (if c then going v (rest fine ∷ ds) else
      (if found.1 == 10 && is_given end then going v (rest (list_of end) ∷ ds) else state v ds
      (outcome_of number (has_status s.p.layout f) found.1))))) (sym e)
      (record {
        node = fine_at;
        way = fine_moved into refl own e;
        standing = listed s h hs ds fine b
            (at + 1 + one_if (is_some into) + phrase_size a) next y.whole.1 y.laid.3 fine_list st;
      })
  reads false e =
      subst (λ c. Leads s k number w (Ok
      (if c then going found.0 (rest fine ∷ ds) else
      (if found.1 == 10 && is_given end then going found.0 (rest (list_of end) ∷ ds) else state found.0 ds
      (outcome_of number (has_status s.p.layout f) found.1))))) (sym e)
      (none_found (found.1 == 10) refl e)

  pub read_leads : Leads s k number w
      (Ok (behind_read number (has_status s.p.layout f) end fine ds (where_fine s.p.layout f into found)))
  read_leads = reads (is_fine found.1) refl
