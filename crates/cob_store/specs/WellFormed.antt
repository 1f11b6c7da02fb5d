-- What every layout keeps that the rules on data allow: each item lies within storage, and its bytes are those of its form.
use Rattle.std.specs.Prelude.{◌≡◌, ◌≤◌, ℕ, ◌+◌, length, List, IfSome, IsTrue}
use Rattle.std.specs.List.{All}
use Rattle.cob_tree.specs.declared.form.Form.{Form}
use Rattle.cob_tree.specs.declared.form.Form.TheVariants as form
use Rattle.cob_tree.specs.declared.form.Usage.{Usage}
use Rattle.cob_tree.specs.declared.token.Num.{Num}
use Rattle.cob_tree.specs.Pictures.{place_count}
use Rattle.cob_data.specs.declared.layout.FileDecl.{FileDecl}
use Rattle.cob_data.specs.declared.layout.Item.{Item}
use Rattle.cob_data.specs.declared.layout.Layout.{Layout}
use Rattle.cob_data.specs.declared.layout.Sender.{Sender}
use Rattle.cob_data.specs.declared.layout.Sender.TheVariants as sender
use Rattle.cob_data.specs.Extents.{IsExtent, LiesWithin}
use Rattle.cob_data.specs.Occurrences.{extent_of}
use Rattle.num_bytes.specs.Reading.{HasNumber}
use Rattle.cob_runs.specs.Contents.{form_at, length_at}
use Rattle.cob_runs.specs.Moves.{takes_number}

-- a numeric item of 1 to 18 digits with its bytes
pub record IsWellFormedNumber (digits : ℕ) (scale : ℕ) (usage : Usage) (bytes : ℕ) : Type 0 where
  pub number : HasNumber digits usage bytes
  pub decimals : scale ≤ digits

-- an edited item of 1 to 18 digits whose picture has as many places, with its bytes
pub record IsWellFormedPicture (picture : List ℕ) (digits : ℕ) (scale : ℕ) (bytes : ℕ) : Type 0 where
  pub places : place_count picture ≡ digits
  pub some_digits : 1 ≤ digits
  pub at_most_18 : digits ≤ 18
  pub decimals : scale ≤ digits
  pub whole : bytes ≡ length picture

-- the form of an item of so many bytes
abbrev pub IsWellFormedForm : Form → ℕ → Type 0
IsWellFormedForm form.Group bytes = Unit {0}
IsWellFormedForm (form.Text n) bytes = bytes ≡ n
IsWellFormedForm (form.Number digits scale signed usage) bytes = IsWellFormedNumber digits scale usage bytes
IsWellFormedForm (form.Edited picture digits scale) bytes = IsWellFormedPicture picture digits scale bytes

-- what is read as a number if it is a text has at most 18 bytes
abbrev pub IsShort : Form → Type 0
IsShort (form.Text n) = n ≤ 18
IsShort _ = Unit {0}

-- a literal of at most 18 digits
pub record IsShortLiteral (n : Num) : Type 0 where
  pub digits : length n.digits ≤ 18
  pub decimals : n.scale ≤ 18

-- ---- senders

-- what can be read as a number, where a receiver takes one
abbrev pub IsCountable : Layout → Sender → Type 0
IsCountable l (sender.Item place) = IsShort (form_at l place)
IsCountable l (sender.Number n) = IsShortLiteral n
IsCountable l (sender.Text text) = length text ≤ 18
IsCountable l (sender.Fill byte) = Unit {0}
IsCountable l sender.Zero = Unit {0}

abbrev pub CanMove : Layout → Sender → Form → Type 0
CanMove l x f = IsTrue (takes_number f) → IsCountable l x

abbrev pub IsConstant : Sender → Type 0
IsConstant (sender.Item place) = ⊥
IsConstant _ = Unit {0}

-- ---- layouts

pub record IsWellFormedItem (l : Layout) (i : Item) : Type 0 where
  -- each occurrence lies within storage, one behind the other
  pub within : LiesWithin (extent_of i) l.storage
  pub extent : IsExtent (extent_of i)
  pub one : i.stride ≡ 0 → i.times ≡ 1
  pub form : IsWellFormedForm i.form i.length
  pub value : IfSome i.value (λ x. IsConstant x × CanMove l x i.form)

-- a file's record area lies within storage, and its FILE STATUS item has two bytes
pub record IsWellFormedFile (l : Layout) (f : FileDecl) : Type 0 where
  pub within : f.offset + f.length ≤ l.storage
  pub status : IfSome f.status (λ place. length_at l place ≡ 2)

pub record HasWellFormedItems (l : Layout) : Type 0 where
  pub items : All (IsWellFormedItem l) l.items
  pub files : All (IsWellFormedFile l) l.files
