-- What the words of a command and the contents of the files are answered, where nothing is run: one answer.
use Rattle.std.specs.Prelude.{◌≡◌, ℕ, ◌⊎◌, false, List, [], ◌∷◌, Option, Some, None}
use Rattle.batch_io.specs.FilesState.{Contents}
use Rattle.command_words.specs.Commands.{Command, IsCommand}
use Rattle.command_words.specs.Commands as command
use Rattle.commands.specs.Answer.{Answer, Usage, AnswersSource, is_usage}
use Rattle.commands.specs.CheckAnswers.{AnswersCheck}
use Rattle.commands.specs.TrialEndings.{AnswersTrial}
use Rattle.commands.specs.Runs.{AnswersRun, BlamesIfUsage}

-- ---- the words

abbrev pub IsNoCommand : List (List ℕ) → Type 0
IsNoCommand words = (c : Command) → IsCommand words c → ⊥

abbrev pub first_word : List (List ℕ) → List ℕ
first_word [] = []
first_word (word ∷ words) = word

-- ---- the answer

-- what is so of the contents, or else where they aren't known
abbrev pub IfKnown : Option Contents → (Contents → Type 0) → Type 0 → Type 0
IfKnown (Some contents) IsSo otherwise = IsSo contents
IfKnown None IsSo otherwise = otherwise

-- The answer to a command, where nothing is run and no certificate is found; that to a trial shows in its words alone.
-- Where the files' contents aren't known, the answer isn't that of words; of a run it is only for a word on files.
abbrev pub AnswersCommand : Option Contents → Command → Answer → Type 0
AnswersCommand known (command.analyse source certificate) answer =
    IfKnown known (λ contents. AnswersSource contents source answer) (is_usage answer ≡ false)
AnswersCommand known (command.check source certificate) answer =
    IfKnown known (λ contents. AnswersCheck contents source certificate answer) (is_usage answer ≡ false)
AnswersCommand known (command.run r) answer =
    IfKnown known (λ contents. AnswersRun contents r answer) (BlamesIfUsage r answer)
AnswersCommand known (command.trial count) answer = AnswersTrial count answer

-- the answer to these words, where the files' contents may be known
abbrev pub Answers : Option Contents → List (List ℕ) → Answer → Type 0
Answers known words answer =
    (IsNoCommand words × (answer ≡ Usage (first_word words)))
    ⊎ ((c : Command) × IsCommand words c × AnswersCommand known c answer)
