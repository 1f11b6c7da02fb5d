-- What comes of a statement's part, or the fault that it meets.
use Rattle.std.specs.Prelude.{Option, Some, None, Result, Ok, Err}
use Rattle.cob_tree.specs.declared.fault.Kind.{Kind}

infixl 10 ◌>>=◌
abbrev pub ◌>>=◌ : {A B : Type 0} → Result A Kind → (A → Result B Kind) → Result B Kind
(Ok a) >>= next = next a
(Err kind) >>= next = Err kind

-- a fault of this kind, where there is nothing
abbrev pub or_fault : {A : Type 0} → Kind → Option A → Result A Kind
or_fault kind None = Err kind
or_fault kind (Some a) = Ok a
