-- How the words behind a command's own are taken apart.
use Rattle.std.specs.Prelude.{◌≡◌, ℕ, ◌≤◌, ◌⊎◌, List, [], ◌∷◌, ◌++◌, length, take, drop, codes, Option, String}
use Rattle.std.specs.declared.alloc.Global.{Global}
use Rattle.command_words.specs.declared.parts.Parts.{Parts}
use Rattle.command_words.specs.Words.{IsPlain, ArePlain, texts}
use Rattle.command_words.specs.Commands.{Command, Say, command_word}

-- nothing, or a first word that isn't plain
abbrev pub BeginNotPlain : List (List ℕ) → Type 0
BeginNotPlain [] = Unit {0}
BeginNotPlain (word ∷ words) = IsPlain word → ⊥

-- the first so many words are plain, and the next one isn't
pub record IsPlainCount (words : List (String Global)) (count : ℕ) : Type 0 where
  pub within : count ≤ length words
  pub before_plain : ArePlain (texts (take count words))
  pub behind : BeginNotPlain (texts (drop count words))

-- words that begin with `--steps N` or `--steps=N`, whatever N is: N, and the words behind
abbrev pub BeginWithSteps : List (List ℕ) → List ℕ → List (List ℕ) → Type 0
BeginWithSteps words count after =
    (words ≡ codes "--steps" ∷ count ∷ after) ⊎ (words ≡ (codes "--steps=" ++ count) ∷ after)

-- the plain words
abbrev pub plain_of : Parts → List (List ℕ)
plain_of p = texts p.before.now ++ (texts p.after.now ++ texts p.later.now)

-- the first word and what the others have say this
abbrev pub IsSaidBy : List ℕ → List (List ℕ) → Option ℕ → Command → Type 0
IsSaidBy first plain steps command = (first ≡ command_word command) × Say plain steps command
