-- What the first word says with the plain words and the number of steps.
use Rattle.std.proofs.Common.{◌≡◌, ℕ, List, [], ◌∷◌, sym, subst, ◌∙◌, Option, None, Some}
use Rattle.command_words.specs.declared.command.Command as declared
use Rattle.command_words.specs.Commands.{Command, HavePlain, IsCommand, Answers, plain_command, command_word}
use Rattle.command_words.specs.Parts.{IsSaidBy}
use Rattle.command_words.proofs.Readings.{none_or_some, tail_same, said_of, command_by}

pub none_said : (words : List (List ℕ)) → words ≡ [] → (c : Command) → IsCommand words c → ⊥
none_said words e c h = none_or_some (command_word c) h.behind (sym e ∙ h.words_are)

pub none_behind : (words : List (List ℕ)) (first : List ℕ) (behind : List (List ℕ)) → words ≡ first ∷ behind →
    ((plain : List (List ℕ)) (steps : Option ℕ) → HavePlain behind plain steps → ⊥) → (c : Command) → IsCommand words c → ⊥
none_behind words first behind e none c h =
    let same = tail_same (command_word c) first h.behind behind (sym h.words_are ∙ e) in
    none h.plain h.steps (subst (λ (ws : List (List ℕ)). HavePlain ws h.plain h.steps) same h.have)

pub answered : (words : List (List ℕ)) (first : List ℕ) (behind plain : List (List ℕ)) (steps : Option ℕ)
    (r : Option declared.Command) → words ≡ first ∷ behind → HavePlain behind plain steps →
    Answers (IsSaidBy first plain steps) r → Answers (IsCommand words) r
answered words first behind plain steps None e have h = λ c k.
    h c (said_of first behind plain steps c have (subst (λ (ws : List (List ℕ)). IsCommand ws c) e k))
answered words first behind plain steps (Some command) e have h =
    subst (λ (ws : List (List ℕ)). IsCommand ws (plain_command command)) (sym e)
    (command_by first behind plain steps (plain_command command) have h)
