-- The files of records.
use Rattle.std.proofs.Common.{◌≡◌, ℕ, Bool, true, false, cond, nat_eq, List, [], ◌∷◌, Option, Some, None, is_some, refl, sym, ap, ◌∙◌}
use Rattle.std.specs.Borrow.{Bor}
use Rattle.std.specs.Option.{option_copied}
use Rattle.cob_data.specs.declared.layout.FileDecl.{FileDecl}
use Rattle.cob_typed_exprs.specs.Names.{is_among, file_above, is_record}
use Rattle.cob_typed_exprs.specs.Homes.{home_of, list_of}

pub file_above_is : (files : List FileDecl) (place : ℕ) → file_above files place ≡ list_of (home_of files place)
file_above_is [] place = refl
file_above_is (f ∷ fs) place = by (is_among place f.records) f place fs (file_above_is fs place) where
  by : (b : Bool) (f : FileDecl) (place : ℕ) (fs : List FileDecl) → file_above fs place ≡ list_of (home_of fs place) →
      cond b (Some f.name ∷ []) (file_above fs place) ≡ list_of (cond b (Some f.name) (home_of fs place))
  by true f place fs same = refl
  by false f place fs same = same

pub is_record_is : (files : List FileDecl) (place : ℕ) → is_record files place ≡ is_some (home_of files place)
is_record_is [] place = refl
is_record_is (f ∷ fs) place = by (is_among place f.records) f place fs (is_record_is fs place) where
  by : (b : Bool) (f : FileDecl) (place : ℕ) (fs : List FileDecl) → is_record fs place ≡ is_some (home_of fs place) →
      cond b true (is_record fs place) ≡ is_some (cond b (Some f.name) (home_of fs place))
  by true f place fs same = refl
  by false f place fs same = same

pub copied_is : (o : Option (Bor (List ℕ))) → is_some o ≡ is_some (option_copied o)
copied_is None = refl
copied_is (Some x) = refl
