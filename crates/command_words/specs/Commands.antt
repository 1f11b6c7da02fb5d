-- The commands, and the words that say each of them.
use Rattle.std.specs.Prelude.{◌≡◌, ℕ, ◌≤◌, ◌⊎◌, List, [], ◌∷◌, ◌++◌, codes, Option, None, Some, unwrap_or, MatchOption}
use Rattle.command_words.specs.declared.command.Command as declared
use Rattle.command_words.specs.declared.command.Command.TheVariants as code
use Rattle.command_words.specs.declared.command.RunWords.{RunWords}
use Rattle.command_words.specs.Words.{ArePlain, IsNumber, lent_texts}

-- ---- the commands

-- what the words of `run` say: the source, the budget of steps, and the words on files in their order
pub record Run : Type 0 where
  pub source : List ℕ
  pub steps : ℕ
  pub names : List (List ℕ)

pub data Command : Type 0 where
  -- the source, and the certificate
  analyse : List ℕ → List ℕ → Command
  check : List ℕ → List ℕ → Command
  run : Run → Command
  -- the number that tells how long the source is
  trial : ℕ → Command

-- ---- plain words, and `--steps`

-- behind this word all words are plain
abbrev pub end_of_options : List ℕ
end_of_options = codes "--"

-- what stands behind plain words: nothing, or `--` and later words
abbrev pub IsEnd : List (List ℕ) → List (List ℕ) → Type 0
IsEnd end later = ((end ≡ []) × (later ≡ [])) ⊎ (end ≡ end_of_options ∷ later)

-- Words without an option: those before the first `--` are plain, and those behind it are taken as they stand.
pub record ArePlainly (words plain : List (List ℕ)) : Type 0 where
  pub before : List (List ℕ)
  pub end : List (List ℕ)
  pub later : List (List ℕ)
  pub before_plain : ArePlain before
  pub is_end : IsEnd end later
  pub words_are : words ≡ before ++ end
  pub plain_are : plain ≡ before ++ later

-- `--steps N` or `--steps=N`, where N is 1 or more
pub record IsStepsOption (option : List (List ℕ)) (steps : ℕ) : Type 0 where
  pub count : List ℕ
  pub is_number : IsNumber count steps
  pub some : 1 ≤ steps
  pub form : (option ≡ codes "--steps" ∷ count ∷ []) ⊎ (option ≡ (codes "--steps=" ++ count) ∷ [])

-- The option stands anywhere among the plain words, before any `--`.
pub record ArePlainWithSteps (words plain : List (List ℕ)) (steps : ℕ) : Type 0 where
  pub before : List (List ℕ)
  pub option : List (List ℕ)
  pub after : List (List ℕ)
  pub plain_after : List (List ℕ)
  pub before_plain : ArePlain before
  pub is_option : IsStepsOption option steps
  pub after_plainly : ArePlainly after plain_after
  pub words_are : words ≡ before ++ (option ++ after)
  pub plain_are : plain ≡ before ++ plain_after

-- words, their plain words, and their number of steps where they have the option
abbrev pub HavePlain : List (List ℕ) → List (List ℕ) → Option ℕ → Type 0
HavePlain words plain None = ArePlainly words plain
HavePlain words plain (Some steps) = ArePlainWithSteps words plain steps

-- ---- the words of a command

-- the budget where the words give none
abbrev pub usual_steps : ℕ
usual_steps = 1000000

abbrev pub most_trial : ℕ
most_trial = 9999

-- the source's word, and the words on files
abbrev pub plain_words : Run → List (List ℕ)
plain_words r = r.source ∷ r.names

-- A source and a certificate are the plain words; there is no number of steps.
abbrev pub SayPair : List (List ℕ) → Option ℕ → List ℕ → List ℕ → Type 0
SayPair plain steps source certificate = (plain ≡ source ∷ certificate ∷ []) × (steps ≡ None)

-- A source and the words on files are the plain words.
abbrev pub SayRun : List (List ℕ) → Option ℕ → Run → Type 0
SayRun plain steps r = (plain ≡ plain_words r) × (r.steps ≡ unwrap_or steps usual_steps)

-- One plain word writes a number of 1 to 9,999; there is no number of steps.
pub record SayTrial (plain : List (List ℕ)) (steps : Option ℕ) (count : ℕ) : Type 0 where
  pub word : List ℕ
  pub plain_are : plain ≡ word ∷ []
  pub no_steps : steps ≡ None
  pub is_number : IsNumber word count
  pub some : 1 ≤ count
  pub most : count ≤ most_trial

-- plain words and a number of steps, or none, say this
abbrev pub Say : List (List ℕ) → Option ℕ → Command → Type 0
Say plain steps (analyse source certificate) = SayPair plain steps source certificate
Say plain steps (check source certificate) = SayPair plain steps source certificate
Say plain steps (run r) = SayRun plain steps r
Say plain steps (trial count) = SayTrial plain steps count

abbrev pub command_word : Command → List ℕ
command_word (analyse source certificate) = codes "analyse"
command_word (check source certificate) = codes "check"
command_word (run r) = codes "run"
command_word (trial count) = codes "trial"

-- The words say this command: its own word stands first, and those behind it say the rest.
pub record IsCommand (words : List (List ℕ)) (command : Command) : Type 0 where
  pub behind : List (List ℕ)
  pub plain : List (List ℕ)
  pub steps : Option ℕ
  pub words_are : words ≡ command_word command ∷ behind
  pub have : HavePlain behind plain steps
  pub say : Say plain steps command

-- words say one command at most
abbrev pub OneReading : Type 0
OneReading = (words : List (List ℕ)) (a b : Command) → IsCommand words a → IsCommand words b → a ≡ b

-- ---- the code's commands

abbrev pub plain_run : RunWords → Run
plain_run r = record { source = r.source.now; steps = r.steps; names = lent_texts r.names.items }

abbrev pub plain_command : declared.Command → Command
plain_command (code.Analyse source certificate) = analyse source.now certificate.now
plain_command (code.Check source certificate) = check source.now certificate.now
plain_command (code.Run r) = run (plain_run r)
plain_command (code.Trial count) = trial count

-- what is read: what this says, or nothing where there is nothing that this says
abbrev pub Answers : (Command → Type 0) → Option declared.Command → Type 0
Answers Says command = MatchOption command ((c : Command) → Says c → ⊥) (λ c. Says (plain_command c))
