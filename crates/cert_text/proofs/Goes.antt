-- What was read so far goes on to the text of a certificate.
use Rattle.std.proofs.Common.{◌≡◌, ℕ, zero, suc, ◌+◌, ◌-◌, ◌^◌, ◌<◌, ◌≤◌, true, ◌&&◌, eqb, leb, List, [], ◌∷◌, ◌++◌, length, Some, None, ℤ, pos, refl, sym, ap, subst, ◌∙◌, append_assoc, ⊎_elim, arith}
use Rattle.std.proofs.lemmas.Bool.{and_from, or_cases, leb-true, eqb-true, le-leb, cond-true}
use Rattle.std.proofs.lemmas.List.{append-nil, length-append}
use Rattle.cert_text.specs.declared.draft.Stage.{Stage}
use Rattle.cert_text.specs.declared.draft.Stage.TheVariants as stages
use Rattle.cert_text.specs.declared.word.Word.{Word}
use Rattle.cert_text.specs.declared.word.Word.TheVariants as words
use Rattle.cert_text.specs.View.{NotReached, Certificate}
use Rattle.cert_text.specs.Text.{Entry, entry, entries}
use Rattle.cert_text.specs.Reading.{◌▷◌}
use Rattle.cert_text.specs.Allowed.{pack_fits, IsAllowed}
use Rattle.cert_text.specs.Draft.{Parts, is_at, closed, node_closed, is_next, one_number, one_step, step, certificate_of}
use Rattle.cert_text.proofs.Made.{one_entry, IsBody, Made, MadeAt, step_made}
use Rattle.cert_text.proofs.Complete.{pack_step, never_step, end_step, one_again, next_from}

-- some certificate's lines begin so
pub record Goes (ls : List Entry) : Type 0 where
  pub rest : List Entry
  pub certificate : Certificate
  pub allowed : IsAllowed certificate
  pub whole : ls ++ rest ≡ entries certificate

-- one line back
back : (ls : List Entry) (l : Entry) → Goes (ls ++ l ∷ []) → Goes ls
back ls l g = record { rest = l ∷ g.rest; certificate = g.certificate; allowed = g.allowed; whole = sym (append_assoc ls (l ∷ []) g.rest) ∙ g.whole }

-- a step on, and a line back
by_step : (d e : Parts) (w : Word) (zs : List ℤ) (ls : List Entry) → step d w zs ≡ Some e → Made d ls → (Made e (ls ++ entry w zs ∷ []) → Goes (ls ++ entry w zs ∷ [])) → Goes ls
by_step d e w zs ls h m on = back ls (entry w zs) (on (step_made d e w zs h ls m))

goes_ended : (d : Parts) (ls : List Entry) → MadeAt stages.Ended d ls → Goes ls
goes_ended d ls m = record { rest = []; certificate = certificate_of d; allowed = m.0; whole = append-nil ls ∙ m.1 }

-- with all packs, and so many nodes to come
goes_nodes : (n : ℕ) (d : Parts) (ls : List Entry) → d.stage ≡ stages.Body → IsBody d → Made d ls → length d.packs ≡ d.pack_count → length (closed d) + n ≡ d.node_count → Goes ls
goes_nodes zero d ls s b m full all =
    by_step d (record (node_closed d) { stage = stages.Ended }) words.End [] ls (end_step d s full (omega arith)) m (λ k. goes_ended (record (node_closed d) { stage = stages.Ended }) (ls ++ entry words.End [] ∷ []) k)
goes_nodes (suc n) d ls s b m full all =
    let count : d.node_count < 2 ^ 32 = b.count in
    let next : is_next d (length (closed d) + 1) ≡ true = next_from d (length (closed d) + 1) s full (omega arith) refl in
    let new : Parts = record (node_closed d) { nodes = closed d ++ NotReached ∷ [] } in
    by_step d new words.Never (pos (length (closed d) + 1) ∷ []) ls (never_step d (length (closed d) + 1) (omega arith) next) m
    (λ k. let body : MadeAt stages.Body new (ls ++ entry words.Never (pos (length (closed d) + 1) ∷ []) ∷ []) = subst (λ (t : Stage). MadeAt t new (ls ++ entry words.Never (pos (length (closed d) + 1) ∷ []) ∷ [])) s k in
    goes_nodes n new (ls ++ entry words.Never (pos (length (closed d) + 1) ∷ []) ∷ []) s body.0 k full (omega (arith, length-append (closed d) (NotReached ∷ []))))

first_pack : (cells : ℕ) → leb 2 cells ≡ true → pack_fits cells (1 ∷ 2 ∷ []) ≡ true
first_pack cells h =
    let le : 2 ≤ cells = leb-true _ _ h in
    and_from true (leb 1 cells && (leb 2 cells && true)) refl (and_from _ _ (le-leb _ _ (omega arith)) (and_from _ _ h refl))

-- with so many packs to come
goes_packs : (n : ℕ) (d : Parts) (ls : List Entry) → d.stage ≡ stages.Body → IsBody d → Made d ls → length d.packs + n ≡ d.pack_count → Goes ls
goes_packs zero d ls s b m all = goes_nodes (d.node_count - length (closed d)) d ls s b m (omega arith) (let le : length (closed d) ≤ d.node_count = b.nodes_in in omega arith)
goes_packs (suc n) d ls s b m all =
    let new : Parts = record d { packs = d.packs ++ (1 ∷ 2 ∷ []) ∷ [] } in
    let some : leb 2 d.cells ≡ true = ⊎_elim (λ (e : eqb d.pack_count 0 ≡ true). let z : d.pack_count ≡ 0 = eqb-true _ _ e in absurd (omega arith)) (λ h. h) (or_cases (eqb d.pack_count 0) (leb 2 d.cells) b.room) in
    by_step d new words.Pack (pos 1 ∷ pos 2 ∷ []) ls (pack_step d (1 ∷ 2 ∷ []) s (omega arith) (first_pack d.cells some)) m
    (λ k. let body : MadeAt stages.Body new (ls ++ entry words.Pack (pos 1 ∷ pos 2 ∷ []) ∷ []) = subst (λ (t : Stage). MadeAt t new (ls ++ entry words.Pack (pos 1 ∷ pos 2 ∷ []) ∷ [])) s k in
    goes_packs n new (ls ++ entry words.Pack (pos 1 ∷ pos 2 ∷ []) ∷ []) s body.0 k (omega (arith, length-append d.packs ((1 ∷ 2 ∷ []) ∷ []))))

goes_body : (d : Parts) (ls : List Entry) → d.stage ≡ stages.Body → Made d ls → Goes ls
goes_body d ls s m =
    let b : MadeAt stages.Body d ls = subst (λ (t : Stage). MadeAt t d ls) s m in
    let le : length d.packs ≤ d.pack_count = b.0.packs_in in
    goes_packs (d.pack_count - length d.packs) d ls s b.0 m (omega arith)

-- a step of the heading
by_one : (d e : Parts) (w : Word) (n : ℕ) (ls : List Entry) → n < 2 ^ 32 → one_step d w n ≡ Some e → (one_number (pos n ∷ []) ▷ one_step d w) ≡ step d w (pos n ∷ []) → Made d ls → (Made e (ls ++ one_entry w n ∷ []) → Goes (ls ++ one_entry w n ∷ [])) → Goes ls
by_one d e w n ls lt h same m on = by_step d e w (pos n ∷ []) ls (sym same ∙ one_again d w n lt ∙ h) m on

goes_packs_stage : (d : Parts) (ls : List Entry) → d.stage ≡ stages.Packs → Made d ls → Goes ls
goes_packs_stage d ls e m =
    by_one d (record d { stage = stages.Body; pack_count = 0 }) words.Packs 0 ls (omega arith)
    (cond-true (is_at d.stage stages.Packs && true) (Some (record d { stage = stages.Body; pack_count = 0 })) None (and_from _ _ (ap (λ s. is_at s stages.Packs) e) refl)) refl m
    (λ k. goes_body (record d { stage = stages.Body; pack_count = 0 }) (ls ++ one_entry words.Packs 0 ∷ []) refl k)

goes_nodes_stage : (d : Parts) (ls : List Entry) → d.stage ≡ stages.Nodes → Made d ls → Goes ls
goes_nodes_stage d ls e m =
    by_one d (record d { stage = stages.Packs; node_count = 0 }) words.Nodes 0 ls (omega arith)
    (cond-true (is_at d.stage stages.Nodes) (Some (record d { stage = stages.Packs; node_count = 0 })) None (ap (λ s. is_at s stages.Nodes) e)) refl m
    (λ k. goes_packs_stage (record d { stage = stages.Packs; node_count = 0 }) (ls ++ one_entry words.Nodes 0 ∷ []) refl k)

goes_cells_stage : (d : Parts) (ls : List Entry) → d.stage ≡ stages.Cells → Made d ls → Goes ls
goes_cells_stage d ls e m =
    by_one d (record d { stage = stages.Nodes; cells = 0 }) words.Cells 0 ls (omega arith)
    (cond-true (is_at d.stage stages.Cells) (Some (record d { stage = stages.Nodes; cells = 0 })) None (ap (λ s. is_at s stages.Cells) e)) refl m
    (λ k. goes_nodes_stage (record d { stage = stages.Nodes; cells = 0 }) (ls ++ one_entry words.Cells 0 ∷ []) refl k)

goes_title_stage : (d : Parts) (ls : List Entry) → d.stage ≡ stages.Title → Made d ls → Goes ls
goes_title_stage d ls e m =
    by_one d (record d { stage = stages.Cells }) words.Title 1 ls (omega arith)
    (cond-true (is_at d.stage stages.Title && true) (Some (record d { stage = stages.Cells })) None (and_from _ _ (ap (λ s. is_at s stages.Title) e) refl)) refl m
    (λ k. goes_cells_stage (record d { stage = stages.Cells }) (ls ++ one_entry words.Title 1 ∷ []) refl k)

goes_at : (s : Stage) (d : Parts) (ls : List Entry) → d.stage ≡ s → Made d ls → Goes ls
goes_at stages.Title d ls e m = goes_title_stage d ls e m
goes_at stages.Cells d ls e m = goes_cells_stage d ls e m
goes_at stages.Nodes d ls e m = goes_nodes_stage d ls e m
goes_at stages.Packs d ls e m = goes_packs_stage d ls e m
goes_at stages.Body d ls e m = goes_body d ls e m
goes_at stages.Ended d ls e m = goes_ended d ls (subst (λ (t : Stage). MadeAt t d ls) e m)

pub made_goes : (d : Parts) (ls : List Entry) → Made d ls → Goes ls
made_goes d ls m = goes_at d.stage d ls refl m
