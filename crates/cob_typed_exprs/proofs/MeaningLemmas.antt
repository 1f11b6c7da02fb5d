-- The four kinds of names, each in its own terms.
use Rattle.std.proofs.Common.{◌≡◌, ℕ, ◌<◌, Bool, true, false, ◌&&◌, List, [], length, slice_get, Option, Some, None, refl, sym, ap, ◌∙◌, arith}
use Rattle.cob_tree.specs.declared.operand.Ref.{Ref}
use Rattle.cob_data.specs.declared.layout.Flag.{Flag}
use Rattle.cob_data.specs.declared.layout.FileDecl.{FileDecl}
use Rattle.cob_data.specs.declared.layout.Layout.{Layout}
use Rattle.cob_typed_exprs.specs.declared.found.Found.{Found}
use Rattle.cob_typed_exprs.specs.declared.found.Found.TheVariants as found
use Rattle.cob_typed_exprs.specs.declared.kind.Kind.{Kind}
use Rattle.cob_typed_exprs.specs.declared.kind.Kind.TheVariants as kind
use Rattle.cob_typed_exprs.specs.Names.{is_named, item_name, qualifies, above, is_record, IsFound, NamesItem, NamesFlag, NamesFile, NamesRecord, names_item, names_flag_at, names_file_at, names_record}
use Rattle.cob_typed_exprs.specs.Search.{name_in, fits, flag_name, file_name, flag_fits, NamesIn}
use Rattle.cob_typed_exprs.proofs.FoundLemmas.{named_within}

both : (a b : Bool) → (a && b) ≡ true → (a ≡ true) × (b ≡ true)
both true b e = (refl, e)
both false b e = absurd (cc)

from_both : (a b : Bool) → a ≡ true → b ≡ true → (a && b) ≡ true
from_both a b e h = rw (e, h) refl

found_same : (P Q : ℕ → Type 0) (f : Found) → ((place : ℕ) → P place → Q place) → ((place : ℕ) → Q place → P place) → IsFound P f → IsFound Q f
found_same P Q found.Nothing to from h = λ place q. h place (from place q)
found_same P Q (found.One p) to from h = (to p h.0, λ place q. h.1 place (from place q))
found_same P Q found.Several to from h = (h.0, h.1, h.2, to h.0 h.3, to h.1 h.4)

pub found_item : (l : Layout) (r : Ref) (f : Found) → IsFound (NamesIn l kind.Item r.name r.of) f → IsFound (NamesItem l r) f
found_item l r f = found_same (NamesIn l kind.Item r.name r.of) (NamesItem l r) f
    (λ place h. (named_within l kind.Item r.name place h.0, from_both _ _ h.0 h.1))
    (λ place h. both _ _ h.1)

pub found_record : (l : Layout) (r : Ref) (f : Found) → IsFound (NamesIn l kind.Record r.name r.of) f → IsFound (NamesRecord l r) f
found_record l r f = found_same (NamesIn l kind.Record r.name r.of) (NamesRecord l r) f
    (λ place h. let parts = both (is_record l.files place) (qualifies r.of (above l place)) h.1 in
    (named_within l kind.Record r.name place h.0, from_both _ _ parts.0 (from_both _ _ h.0 parts.1)))
    (λ place h. let outer = both (is_record l.files place) (names_item l r place) h.1 in
    let inner = both (is_named r.name (item_name (slice_get l.items place))) (qualifies r.of (above l place)) outer.1 in
    (inner.0, from_both _ _ outer.0 inner.1))

flag_to : (l : Layout) (r : Ref) (o : Option Flag) → is_named r.name (flag_name o) ≡ true → flag_fits l r.of o ≡ true → names_flag_at l r o ≡ true
flag_to l r None named fits = absurd (cc)
flag_to l r (Some f) named fits = from_both _ _ named fits

flag_from : (l : Layout) (r : Ref) (o : Option Flag) → names_flag_at l r o ≡ true → (is_named r.name (flag_name o) ≡ true) × (flag_fits l r.of o ≡ true)
flag_from l r None named = absurd (cc)
flag_from l r (Some f) named = both _ _ named

pub found_flag : (l : Layout) (r : Ref) (f : Found) → IsFound (NamesIn l kind.Flag r.name r.of) f → IsFound (NamesFlag l r) f
found_flag l r f = found_same (NamesIn l kind.Flag r.name r.of) (NamesFlag l r) f
    (λ place h. flag_to l r (slice_get l.flags place) h.0 h.1)
    (λ place h. flag_from l r (slice_get l.flags place) h)

file_is : (text : List ℕ) (o : Option FileDecl) → is_named text (file_name o) ≡ names_file_at text o
file_is text None = refl
file_is text (Some f) = refl

pub found_file : (l : Layout) (text : List ℕ) (f : Found) → IsFound (NamesIn l kind.File text []) f → IsFound (NamesFile l text) f
found_file l text f = found_same (NamesIn l kind.File text []) (NamesFile l text) f
    (λ place h. sym (file_is text (slice_get l.files place)) ∙ h.0)
    (λ place h. (file_is text (slice_get l.files place) ∙ h, refl))

-- of the three answers there is one
pub one_found : (N : ℕ → Type 0) (f g : Found) → IsFound N f → IsFound N g → f ≡ g
one_found N found.Nothing found.Nothing h k = refl
one_found N found.Nothing (found.One q) h k = absurd (h q k.0)
one_found N found.Nothing found.Several h k = absurd (h k.0 k.3)
one_found N (found.One p) found.Nothing h k = absurd (k p h.0)
one_found N (found.One p) (found.One q) h k = ap found.One (k.1 p h.0)
one_found N (found.One p) found.Several h k = absurd (omega (arith, h.1 k.0 k.3, h.1 k.1 k.4, k.2))
one_found N found.Several found.Nothing h k = absurd (k h.0 h.3)
one_found N found.Several (found.One q) h k = absurd (omega (arith, k.1 h.0 h.3, k.1 h.1 h.4, h.2))
one_found N found.Several found.Several h k = refl
