-- What `run` is asked for is one thing: a source that isn't there, a refusal of it, words on files that are refused, or
-- one task.
use Rattle.std.proofs.Common.{◌≡◌, ℕ, List, Option, Some, None, refl, sym, ap, ◌∙◌, subst}
use Rattle.std.specs.FinMap.{get}
use Rattle.std.proofs.lemmas.Option.{same_Some}
use Rattle.batch_io.specs.FilesState.{Contents}
use Rattle.cob_program.specs.Act.{Program}
use Rattle.cob_graph.specs.declared.graph.Graph.{Graph}
use Rattle.cob_graph.specs.Graphs.{IsGraph, OneGraph}
use Rattle.cob_front.specs.declared.refusal.Refusal.{Refusal}
use Rattle.cob_front.specs.Source.{IsSource}
use Rattle.cob_front.specs.Laws.{OneAnswer}
use Rattle.command_words.specs.Commands.{Run}
use Rattle.commands.specs.Paths.{paths_of}
use Rattle.commands.specs.Profile.{IsOfProfile, IsProfileCause}
use Rattle.commands.specs.Answer.{Answer, Usage, Absent, Refused, CertificateLong, CertificateBad, CertificateMisfit, NotInductive, Report}
use Rattle.commands.proofs.Found.{held_bytes}
use Rattle.commands.proofs.Sources.{one_cause, none_in_profile}
use Rattle.commands.specs.Runs.{Task, task, Makes, HoldsTask, BlamesWord, AnswersRun}

-- what bytes come to
data Coming : Type 0 where
  refused : Refusal → Coming
  blamed : List ℕ → Coming
  asked : Task → Coming

module _ (r : Run) where
  abbrev ComesTo : List ℕ → Coming → Type 0
  ComesTo bytes (refused cause) = IsProfileCause bytes cause
  ComesTo bytes (blamed word) = BlamesWord bytes r.names word
  ComesTo bytes (asked t) = Makes bytes r t

  profile_of : (bytes : List ℕ) (t : Task) → Makes bytes r t → IsOfProfile bytes
  profile_of bytes t h = record { program = t.program; graph = t.graph; is_program = h.is_program }

  module _ (law : (bytes : List ℕ) → OneAnswer bytes) (graphs : OneGraph) where
    -- the words on files come to the same for each program of the bytes
    one_pathing : (bytes : List ℕ) (p q : Program) → IsSource bytes p → IsSource bytes q
        → paths_of p.layout.files r.names ≡ paths_of q.layout.files r.names
    one_pathing bytes p q h k = ap (λ (x : Program). paths_of x.layout.files r.names) ((law bytes).one_program p q h k)

    one_word : (bytes : List ℕ) (v w : List ℕ) → BlamesWord bytes r.names v → BlamesWord bytes r.names w → v ≡ w
    one_word bytes v w h k =
        let same =
        one_pathing bytes h.profile.program k.profile.program h.profile.is_program.is_source k.profile.is_program.is_source in
        let e = sym h.blamed ∙ same ∙ k.blamed in
        cc

    word_or_task : (bytes : List ℕ) (w : List ℕ) (t : Task) → BlamesWord bytes r.names w → Makes bytes r t → ⊥
    word_or_task bytes w t h k =
        let same = one_pathing bytes h.profile.program t.program h.profile.is_program.is_source k.is_program.is_source in
        let e = sym h.blamed ∙ same ∙ k.paths_are in
        cc

    one_task : (bytes : List ℕ) (t u : Task) → Makes bytes r t → Makes bytes r u → t ≡ u
    one_task bytes t u h k =
        let program : t.program ≡ u.program = (law bytes).one_program t.program u.program h.is_program.is_source k.is_program.is_source in
        let graph : t.graph ≡ u.graph =
        graphs u.program t.graph u.graph (subst (λ (p : Program). IsGraph p t.graph) program h.is_program.is_graph) k.is_program.is_graph in
        let e = sym h.paths_are ∙ one_pathing bytes t.program u.program h.is_program.is_source k.is_program.is_source ∙ k.paths_are in
        let paths : t.paths ≡ u.paths = cc in
        let steps : t.steps ≡ u.steps = h.steps_are ∙ sym k.steps_are in
        ap (λ (p : Program). task p t.graph t.paths t.steps) program
        ∙ ap (λ (g : Graph). task u.program g t.paths t.steps) graph
        ∙ ap (λ (ps : List (List ℕ)). task u.program u.graph ps t.steps) paths
        ∙ ap (task u.program u.graph u.paths) steps

    one_coming : (bytes : List ℕ) (x y : Coming) → ComesTo bytes x → ComesTo bytes y → x ≡ y
    one_coming bytes (refused d) (refused e) h k = ap refused (one_cause law bytes d e h k)
    one_coming bytes (refused d) (blamed w) h k = absurd (none_in_profile law bytes d k.profile h)
    one_coming bytes (refused d) (asked t) h k = absurd (none_in_profile law bytes d (profile_of bytes t k) h)
    one_coming bytes (blamed w) (refused d) h k = absurd (none_in_profile law bytes d h.profile k)
    one_coming bytes (blamed v) (blamed w) h k = ap blamed (one_word bytes v w h k)
    one_coming bytes (blamed w) (asked t) h k = absurd (word_or_task bytes w t h k)
    one_coming bytes (asked t) (refused d) h k = absurd (none_in_profile law bytes d (profile_of bytes t h) k)
    one_coming bytes (asked t) (blamed w) h k = absurd (word_or_task bytes w t k h)
    one_coming bytes (asked t) (asked u) h k = ap asked (one_task bytes t u h k)

    module _ (contents : Contents) where
      -- the source isn't there, or its bytes come to this
      abbrev Comes : Option Coming → Type 0
      Comes None = get contents r.source ≡ None
      Comes (Some x) = (bytes : List ℕ) × (get contents r.source ≡ Some bytes) × ComesTo bytes x

      one_comes : (x y : Option Coming) → Comes x → Comes y → x ≡ y
      one_comes None None h k = refl
      one_comes None (Some y) h k = let apart = sym h ∙ k.1 in cc
      one_comes (Some x) None h k = let apart = sym k ∙ h.1 in cc
      one_comes (Some x) (Some y) h k =
          let same : h.0 ≡ k.0 = same_Some h.0 k.0 (sym h.1 ∙ k.1) in
          ap Some (one_coming k.0 x y (subst (λ (bytes : List ℕ). ComesTo bytes x) same h.2) k.2)

      -- the answer to what bytes come to, where it isn't a task
      abbrev answered : Option Coming → Option Answer
      answered None = Some (Absent r.source)
      answered (Some (refused cause)) = Some (Refused cause)
      answered (Some (blamed word)) = Some (Usage word)
      answered (Some (asked t)) = None

      answer_comes : (answer : Answer) → AnswersRun contents r answer
          → (x : Option Coming) × Comes x × (answered x ≡ Some answer)
      answer_comes (Absent name) h = (None, h.0, ap (λ (n : List ℕ). Some (Absent n)) (sym h.1))
      answer_comes (Refused cause) h =
          let w = held_bytes (get contents r.source) (λ bytes. IsProfileCause bytes cause) h in
          (Some (refused cause), (w.0, w.1, w.2), refl)
      answer_comes (Usage word) h =
          let w = held_bytes (get contents r.source) (λ bytes. BlamesWord bytes r.names word) h in
          (Some (blamed word), (w.0, w.1, w.2), refl)
      answer_comes CertificateLong h = absurd h
      answer_comes (CertificateBad line) h = absurd h
      answer_comes (CertificateMisfit what found wanted) h = absurd h
      answer_comes (NotInductive layer edge gap) h = absurd h
      answer_comes (Report alarms) h = absurd h

      pub one_for_run : (a b : Answer) → AnswersRun contents r a → AnswersRun contents r b → a ≡ b
      one_for_run a b h k =
          let x = answer_comes a h in
          let y = answer_comes b k in
          same_Some a b (sym x.2 ∙ ap answered (one_comes x.0 y.0 x.1 y.1) ∙ y.2)

      task_comes : (t : Task) → HoldsTask (Some contents) r t → Comes (Some (asked t))
      task_comes t h = (h.bytes, h.held, h.makes)

      pub answer_or_task : (a : Answer) (t : Task) → AnswersRun contents r a → HoldsTask (Some contents) r t → ⊥
      answer_or_task a t h k =
          let x = answer_comes a h in
          let e = sym x.2 ∙ ap answered (one_comes x.0 (Some (asked t)) x.1 (task_comes t k)) in
          cc

      pub one_held_task : (t u : Task) → HoldsTask (Some contents) r t → HoldsTask (Some contents) r u → t ≡ u
      one_held_task t u h k =
          let e = one_comes (Some (asked t)) (Some (asked u)) (task_comes t h) (task_comes u k) in
          cc
