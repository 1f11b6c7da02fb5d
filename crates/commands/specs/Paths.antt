-- The paths of files, by words `NAME=PATH`. A NAME is compared with external names without regard to capitals.
use Rattle.std.specs.Prelude.{◌≡◌, ℕ, Bool, true, false, ◌||◌, nat_lt, ◌==◌, if◌then◌else◌, List, [], ◌∷◌, ◌++◌, map, length, find, Option, None, Some, is_none, unwrap_or, Result, Ok, Err, Vec, String, string_bytes}
use Rattle.std.specs.declared.alloc.Global.{Global}
use Rattle.std.specs.List.{list_any, position_or_len, before_first, after_first}
use Rattle.std.specs.Str.{str_eq_ignore_ascii_case}
use Rattle.cob_data.specs.declared.layout.FileDecl.{FileDecl}
use Rattle.cob_data.specs.Names.{stands_in}
use Rattle.commands.specs.declared.running.paths.PathsEnd.{PathsEnd}
use Rattle.commands.specs.declared.running.paths.PathsEnd.TheVariants as end
use Rattle.command_words.specs.Words.{texts}

abbrev pub is_equals_sign : ℕ → Bool
is_equals_sign byte = byte == 61

-- the NAME and the PATH of a word: what stands before its first equals sign, and what stands behind
abbrev pub split_at_equals : List ℕ → Option (List ℕ × List ℕ)
split_at_equals word =
    if nat_lt (position_or_len is_equals_sign word) (length word) then Some
    (before_first is_equals_sign word, after_first is_equals_sign word) else None

-- ---- words on files

-- the file of this NAME
abbrev pub file_named : List ℕ → List FileDecl → Option FileDecl
file_named name files = find (λ file. str_eq_ignore_ascii_case name file.external) files

abbrev pub has_name : List ℕ → Option (List ℕ × List ℕ) → Bool
has_name name None = false
has_name name (Some parts) = str_eq_ignore_ascii_case parts.0 name

-- the word has this NAME
abbrev pub is_named_by : List ℕ → List ℕ → Bool
is_named_by name word = has_name name (split_at_equals word)

-- a word is refused that has no equals sign, whose NAME is no file's, or whose NAME an earlier word has
abbrev pub refuses_parts : List FileDecl → List (List ℕ) → Option (List ℕ × List ℕ) → Bool
refuses_parts files earlier None = true
refuses_parts files earlier (Some parts) = is_none (file_named parts.0 files) || list_any (is_named_by parts.0) earlier

abbrev pub is_refused : List FileDecl → List (List ℕ) → List ℕ → Bool
is_refused files earlier word = refuses_parts files earlier (split_at_equals word)

-- the first word that is refused, behind earlier ones
abbrev pub first_refused : List FileDecl → List (List ℕ) → List (List ℕ) → Option (List ℕ)
first_refused files earlier [] = None
first_refused files earlier (word ∷ words) =
    if is_refused files earlier word then Some word else first_refused files (earlier ++ word ∷ []) words

-- ---- paths

-- the path in a word, and else this name
abbrev pub path_in : List ℕ → Option (List ℕ × List ℕ) → List ℕ
path_in external None = external
path_in external (Some parts) = parts.1

abbrev pub given_or : List ℕ → Option (List ℕ) → List ℕ
given_or external None = external
given_or external (Some word) = path_in external (split_at_equals word)

module _ (words : List (List ℕ)) where
  -- the word that gives the file's path
  abbrev pub word_of : FileDecl → Option (List ℕ)
  word_of file = find (is_named_by file.external) words

  -- the path that a word gives, or else the external name
  abbrev pub path_of : FileDecl → List ℕ
  path_of file = given_or file.external (word_of file)

  -- what is to blame where the file's path is an earlier file's: the word that gave it, or else the external name
  abbrev pub blamed : FileDecl → List ℕ
  blamed file = unwrap_or (word_of file) file.external

  -- the first file whose path is an earlier one, behind earlier paths
  abbrev pub clash : List (List ℕ) → List FileDecl → Option FileDecl
  clash earlier [] = None
  clash earlier (file ∷ files) =
      if stands_in earlier (path_of file) then Some file else clash (earlier ++ path_of file ∷ []) files

-- the paths of all files where no file clashes
abbrev pub unless_clash : List (List ℕ) → List FileDecl → Option FileDecl → Result (List (List ℕ)) (List ℕ)
unless_clash words files None = Ok (map (path_of words) files)
unless_clash words files (Some file) = Err (blamed words file)

abbrev pub unless_refused : List (List ℕ) → List FileDecl → Option (List ℕ) → Result (List (List ℕ)) (List ℕ)
unless_refused words files None = unless_clash words files (clash words [] files)
unless_refused words files (Some word) = Err word

-- The files' paths, or what is to blame: the first word that is refused, or else the first file that has an earlier
-- one's path.
abbrev pub paths_of : List FileDecl → List (List ℕ) → Result (List (List ℕ)) (List ℕ)
paths_of files words = unless_refused words files (first_refused files [] words)

-- ---- the code's answer

abbrev pub AnswersPaths : Result (List (List ℕ)) (List ℕ) → Result (Vec (String Global) Global) PathsEnd → Type 0
AnswersPaths wanted (Ok paths) = wanted ≡ Ok (texts paths.items)
AnswersPaths wanted (Err (end.Refused word)) = wanted ≡ Err (string_bytes word)
AnswersPaths wanted (Err end.Memory) = Unit {0}

-- the refusal that blames this word, or want of memory
abbrev pub Blames : List ℕ → PathsEnd → Type 0
Blames blamed (end.Refused word) = string_bytes word ≡ blamed
Blames blamed end.Memory = Unit {0}
