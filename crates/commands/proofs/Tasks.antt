-- The task, or what is answered in its place, follows from a source's bytes and the words on files.
use Rattle.std.proofs.Common.{◌≡◌, ◌⊎◌, ℕ, false, List, length, Result, Ok, Err, inl, inr, refl, sym, ap, ◌∙◌, subst, Vec, String, Global}
use Rattle.std.specs.Prelude.{IfErr, IfOk, IfSome, MatchResult, Option, Some, None}
use Rattle.std.specs.Borrow.{Bor}
use Rattle.std.specs.FinMap.{get}
use Rattle.batch_io.specs.FilesState.{Contents, FilesState}
use Rattle.cob_data.specs.declared.layout.FileDecl.{FileDecl}
use Rattle.cob_program.specs.ActView.{plain_program}
use Rattle.cob_well_formed.specs.Sources.{SourcesCanBeRun}
use Rattle.cob_front.specs.declared.refusal.Refusal.{Refusal}
use Rattle.cob_front.specs.declared.refusal.Refusal.TheVariants as end
use Rattle.command_words.specs.Words.{texts, lent_texts}
use Rattle.command_words.specs.Commands.{Run}
use Rattle.cob_interp.specs.Told.{AreDistinct}
use Rattle.commands.specs.Paths.{paths_of}
use Rattle.commands.specs.declared.answer.Answer as code
use Rattle.commands.specs.declared.answer.Stop.{Stop}
use Rattle.commands.specs.declared.source.Laid.{Laid}
use Rattle.commands.specs.Profile.{IsProfileCause}
use Rattle.commands.specs.Answer.{Answer, Usage, Absent, Refused, CertificateLong, CertificateBad, CertificateMisfit, NotInductive, Report}
use Rattle.commands.specs.Steps.{Reads, refused_by_fault, answer_to, IsLaid}
use Rattle.commands.specs.View.{plain_answer, plain_result}
use Rattle.commands.proofs.Found.{at_held}
use Rattle.commands.specs.declared.running.task.Task.{Task}
use Rattle.commands.specs.Runs.{BlamesWord, BlamesIfUsage, HoldsTask, AnswersRun}
use Rattle.commands.specs.RunSteps.{IsReady, IsTask, IsNoTask}
use Rattle.commands.specs.RunView.{plain_task}

-- ---- paths

module _ (bytes : List ℕ) (r : Run) (laid : Laid) (is : IsLaid bytes laid)
    (files : List FileDecl) (names : List (Bor (List ℕ)))
    (its_files : files ≡ laid.program.layout.files) (its_names : lent_texts names ≡ r.names) where
  paths_same : paths_of laid.program.layout.files r.names ≡ paths_of files (lent_texts names)
  paths_same =
      ap (λ (ns : List (List ℕ)). paths_of laid.program.layout.files ns) (sym its_names)
      ∙ ap (λ (fs : List FileDecl). paths_of fs (lent_texts names)) (sym its_files)

  pub is_task : (paths : Vec (String Global) Global) → SourcesCanBeRun
      → paths_of files (lent_texts names) ≡ Ok (texts paths.items)
      → length paths.items ≡ length files → AreDistinct (texts paths.items)
      → IsTask bytes r (record { laid = laid; paths = paths; steps = r.steps })
  is_task paths readiness are count distinct = record {
    makes = record {
      is_program = is;
      paths_are = paths_same ∙ are;
      steps_are = refl;
    };
    ready = record {
      graph = is.is_graph;
      can = readiness bytes (plain_program laid.program) is.is_source;
      count = count ∙ ap length its_files;
      distinct = distinct;
    };
  }

  pub blames_word : (word : List ℕ) → paths_of files (lent_texts names) ≡ Err word → BlamesWord bytes r.names word
  blames_word word e = record {
    profile = record {
      program = plain_program laid.program;
      graph = laid.graph;
      is_program = is;
    };
    blamed = paths_same ∙ e;
  }

-- ---- causes

pub no_task : (bytes : List ℕ) (names : List (List ℕ)) (cause : Refusal)
    → IsProfileCause bytes cause ⊎ (cause ≡ end.Memory) → IsNoTask bytes names (answer_to cause)
no_task bytes names end.TooLong (inl is) = is
no_task bytes names (end.BadLine line column) (inl is) = is
no_task bytes names (end.BadToken line column) (inl is) = is
no_task bytes names (end.Syntax line) (inl is) = is
no_task bytes names (end.Nesting count) (inl is) = is
no_task bytes names (end.Outside rule line) (inl is) = is
no_task bytes names (end.Limit which count) (inl is) = is
no_task bytes names end.Memory (inl is) = refl
no_task bytes names cause (inr memory) = rw memory refl

-- ---- what a file holds

abbrev pub Found : Type 0
Found = Result Task (Result code.Answer Stop)

-- what the bytes come to
abbrev pub ComesOf : List ℕ → Run → Found → Type 0
ComesOf bytes r found =
    MatchResult found (IsTask bytes r) (λ instead. IsNoTask bytes r.names (plain_result instead))

module _ (r : Run) (bytes : List ℕ) where
  known_answer : (known : Option Contents) → IfSome known (λ contents. get contents r.source ≡ Some bytes)
      → (answer : Answer) → IsNoTask bytes r.names (Ok answer) → IfSome known (λ contents. AnswersRun contents r answer)
  known_answer None held answer h = tt
  known_answer (Some contents) held (Refused cause) h =
      at_held (get contents r.source) bytes (λ bs. IsProfileCause bs cause) held h
  known_answer (Some contents) held (Usage word) h =
      at_held (get contents r.source) bytes (λ bs. BlamesWord bs r.names word) held h
  known_answer (Some contents) held (Absent name) h = absurd h
  known_answer (Some contents) held CertificateLong h = absurd h
  known_answer (Some contents) held (CertificateBad line) h = absurd h
  known_answer (Some contents) held (CertificateMisfit what found wanted) h = absurd h
  known_answer (Some contents) held (NotInductive layer edge gap) h = absurd h
  known_answer (Some contents) held (Report alarms) h = absurd h

  module _ (known : Option Contents) (held : IfSome known (λ contents. get contents r.source ≡ Some bytes)) where
    answer_of : (found : Found) → ComesOf bytes r found
        → IfErr found
        (λ instead. IfOk instead (λ answer. IfSome known (λ contents. AnswersRun contents r (plain_answer answer))))
    answer_of (Ok t) h = tt
    answer_of (Err (Ok answer)) h = known_answer known held (plain_answer answer) h
    answer_of (Err (Err stop)) h = tt

    task_of : (found : Found) → ComesOf bytes r found → IfOk found (λ t. HoldsTask known r (plain_task t))
    task_of (Ok t) h = record { bytes = bytes; held = held; makes = h.makes }
    task_of (Err instead) h = tt

    -- the task by the bytes as the code sees them
    module _ (seen : List ℕ) (same : seen ≡ bytes) (found : Found) (comes : ComesOf seen r found) where
      its : ComesOf bytes r found
      its = subst (λ (bs : List ℕ). ComesOf bs r found) same comes

      pub found_answer : IfErr found
          (λ instead. IfOk instead (λ answer. IfSome known (λ contents. AnswersRun contents r (plain_answer answer))))
      found_answer = answer_of found its

      pub found_task : IfOk found (λ t. HoldsTask known r (plain_task t))
      found_task = task_of found its

blames_if_usage : (bytes : List ℕ) (r : Run) (answer : Answer) → IsNoTask bytes r.names (Ok answer)
    → BlamesIfUsage r answer
blames_if_usage bytes r (Usage word) h = (bytes, h)
blames_if_usage bytes r _ h = tt

pub found_blames : (found : Found) (bytes : List ℕ) (r : Run) → ComesOf bytes r found
    → IfErr found (λ instead. IfOk instead (λ answer. BlamesIfUsage r (plain_answer answer)))
found_blames (Ok t) bytes r h = tt
found_blames (Err (Ok answer)) bytes r h = blames_if_usage bytes r (plain_answer answer) h
found_blames (Err (Err stop)) bytes r h = tt

pub found_ready : (found : Found) (bytes : List ℕ) (r : Run) → ComesOf bytes r found → IfOk found IsReady
found_ready (Ok t) bytes r h = h.ready
found_ready (Err instead) bytes r h = tt

no_fault : (found : Found) (bytes : List ℕ) (r : Run) → ComesOf bytes r found → refused_by_fault found ≡ false
no_fault (Ok t) bytes r h = refl
no_fault (Err (Ok answer)) bytes r h = refl
no_fault (Err (Err stop)) bytes r h = rw h refl

pub found_reads : (found : Found) (bytes : List ℕ) (r : Run) (old new : FilesState)
    → ComesOf bytes r found → Reads old new false
    → Reads old new (refused_by_fault found)
found_reads found bytes r old new h reads = subst (Reads old new) (sym (no_fault found bytes r h)) reads
