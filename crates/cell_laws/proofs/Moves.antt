-- The parts of MOVE and its like, of tests, and of calls on files.
use Rattle.std.proofs.Common.{◌≡◌, ℕ, Bool, true, false, ◌||◌, if◌then◌else◌, ◌⊎◌, inl, inr, List, [], ◌∷◌, ◌++◌, length, Option, Some, None, is_some, refl, sym, ap, subst, ◌∙◌}
use Rattle.std.specs.List.{list_any}
use Rattle.std.specs.Option.{option_map_or}
use Rattle.std.proofs.lemmas.List.{append_assoc}
use Rattle.dec_num.specs.declared.types.Mode.TheVariants.{Trunc}
use Rattle.cob_tree.specs.declared.form.Form.{Form}
use Rattle.cob_tree.specs.declared.form.Form.TheVariants as form
use Rattle.cob_data.specs.declared.layout.FileDecl.{FileDecl}
use Rattle.cob_data.specs.declared.layout.Item.{Item}
use Rattle.cob_data.specs.declared.layout.Layout.{Layout}
use Rattle.cob_data.specs.declared.layout.Pair.{Pair}
use Rattle.cob_data.specs.declared.layout.Sender.{Sender}
use Rattle.cob_data.specs.declared.layout.Sender.TheVariants as sender
use Rattle.cob_program.specs.Sum.{Sum}
use Rattle.cob_program.specs.Logic.{Test, numbers, texts, member, numeric, always}
use Rattle.cob_runs.specs.Contents.{item_at, form_at, number_in}
use Rattle.cob_runs.specs.Computing.{items_in}
use Rattle.cob_runs.specs.Acts.{decl_at}
use Rattle.cob_edge_parts.specs.Parts.{moved, Part, read, unread, subscript, index, divide, store, bytes_in, guard, read_count, set_count, count_down, guard_count, item_reads, divides, divisors_in, number_reads, compare_parts, gets_value, is_read_for, is_number_item, item_bytes, receiver_parts, receivers_parts, move_parts, text_reads, end_reads, test_reads, test_parts, status_parts, file_parts, file_call_parts, into_parts}
use Rattle.cell_laws.specs.Places.{IsBehindSender, IsDivided}
use Rattle.cell_laws.proofs.Splits.{Stands, stands, not_empty, only, in_reads, InDivides, in_divides, reads_append}
use Rattle.cell_laws.proofs.Divisors.{order_append, sum_order, some_behind}

-- a part that asks for a number
abbrev pub IsRead : Part → Type 0
IsRead (read place) = Unit {0}
IsRead unread = Unit {0}
IsRead y = ⊥

pub read_is : (y : Part) (place : ℕ) → y ≡ read place → IsRead y
read_is y place e = subst (λ (z : Part). IsRead z) (sym e) tt

pub in_number_reads : (x : Sender) (done rest : List Part) (y : Part) → done ++ y ∷ rest ≡ number_reads x → IsRead y
in_number_reads (sender.Item place) done rest y e = read_is y place (only (read place) done rest y e).1
in_number_reads (sender.Number n) done rest y e = absurd (not_empty done rest y e)
in_number_reads (sender.Text text) done rest y e = go (is_some (number_in (form.Text (length text)) text)) e
  where
    go : (b : Bool) → done ++ y ∷ rest ≡ (if b then [] else unread ∷ []) → IsRead y
    go true f = absurd (not_empty done rest y f)
    go false f = subst (λ (z : Part). IsRead z) (sym (only unread done rest y f).1) tt
in_number_reads (sender.Fill byte) done rest y e = subst (λ (z : Part). IsRead z) (sym (only unread done rest y e).1) tt
in_number_reads sender.Zero done rest y e = absurd (not_empty done rest y e)

-- ---- bytes

abbrev pub IsBytes : Part → Type 0
IsBytes (bytes_in offset count) = Unit {0}
IsBytes y = ⊥

bytes_is : (y : Part) (offset count : ℕ) → y ≡ bytes_in offset count → IsBytes y
bytes_is y offset count e = subst (λ (z : Part). IsBytes z) (sym e) tt

module _ (l : Layout) where
  pub in_item_bytes : (place : ℕ) (done rest : List Part) (y : Part) → done ++ y ∷ rest ≡ item_bytes l place → IsBytes y
  in_item_bytes place done rest y e = go (item_at l place) e
    where
      go : (o : Option Item) → done ++ y ∷ rest ≡ option_map_or (λ i. bytes_in i.offset i.length ∷ []) o [] → IsBytes y
      go None f = absurd (not_empty done rest y f)
      go (Some i) f = bytes_is y i.offset i.length (only (bytes_in i.offset i.length) done rest y f).1

  in_status : (o : Option ℕ) (done rest : List Part) (y : Part) → done ++ y ∷ rest ≡ status_parts l o → IsBytes y
  in_status None done rest y e = absurd (not_empty done rest y e)
  in_status (Some place) done rest y e = go (item_at l place) e
    where
      go : (o : Option Item) → done ++ y ∷ rest ≡ option_map_or (λ i. bytes_in i.offset 2 ∷ []) o [] → IsBytes y
      go None f = absurd (not_empty done rest y f)
      go (Some i) f = bytes_is y i.offset 2 (only (bytes_in i.offset 2) done rest y f).1

  pub in_file : (area : Bool) (o : Option FileDecl) (done rest : List Part) (y : Part) → done ++ y ∷ rest ≡ file_parts l area o → IsBytes y
  in_file area None done rest y e = absurd (not_empty done rest y e)
  in_file area (Some d) done rest y e = go (stands (status_parts l d.status) (if area then bytes_in d.offset d.length ∷ [] else []) done rest y e)
    where
      last : (b : Bool) (behind : List Part) → behind ++ y ∷ rest ≡ (if b then bytes_in d.offset d.length ∷ [] else []) → IsBytes y
      last true behind f = bytes_is y d.offset d.length (only (bytes_in d.offset d.length) behind rest y f).1
      last false behind f = absurd (not_empty behind rest y f)

      go : Stands (status_parts l d.status) (if area then bytes_in d.offset d.length ∷ [] else []) done y rest → IsBytes y
      go (inl (more, f)) = in_status d.status done more y f
      go (inr (behind, f, g)) = last area behind g

  pub in_file_call : (area : Bool) (o : Option ℕ) (done rest : List Part) (y : Part) → done ++ y ∷ rest ≡ file_call_parts l area o → IsBytes y
  in_file_call area None done rest y e = absurd (not_empty done rest y e)
  in_file_call area (Some f) done rest y e = in_file area (decl_at l f) done rest y e

  pub in_into : (o : Option ℕ) (done rest : List Part) (y : Part) → done ++ y ∷ rest ≡ into_parts l o → IsBytes y
  in_into None done rest y e = absurd (not_empty done rest y e)
  in_into (Some place) done rest y e = in_item_bytes place done rest y e

  -- ---- MOVE

  -- A number that is asked for, bytes, or the sender's value, behind what is read of it.
  abbrev pub IsMoved : Sender → List Part → Part → Type 0
  IsMoved x done (read place) = Unit {0}
  IsMoved x done unread = Unit {0}
  IsMoved x done (bytes_in offset count) = Unit {0}
  IsMoved x done (store place mode (moved z)) = (z ≡ x) × IsBehindSender x done
  IsMoved x done y = ⊥

  read_moved : (x : Sender) (done : List Part) (y : Part) → IsRead y → IsMoved x done y
  read_moved x done (read place) h = tt
  read_moved x done unread h = tt
  read_moved x done (subscript last k) h = absurd h
  read_moved x done (index last k count) h = absurd h
  read_moved x done (divide d) h = absurd h
  read_moved x done (store place mode z) h = absurd h
  read_moved x done (bytes_in offset count) h = absurd h
  read_moved x done (guard t wanted) h = absurd h
  read_moved x done (read_count n) h = absurd h
  read_moved x done (set_count n z) h = absurd h
  read_moved x done (count_down n) h = absurd h
  read_moved x done (guard_count n wanted) h = absurd h

  bytes_moved : (x : Sender) (done : List Part) (y : Part) → IsBytes y → IsMoved x done y
  bytes_moved x done (bytes_in offset count) h = tt
  bytes_moved x done (read place) h = absurd h
  bytes_moved x done unread h = absurd h
  bytes_moved x done (subscript last k) h = absurd h
  bytes_moved x done (index last k count) h = absurd h
  bytes_moved x done (divide d) h = absurd h
  bytes_moved x done (store place mode z) h = absurd h
  bytes_moved x done (guard t wanted) h = absurd h
  bytes_moved x done (read_count n) h = absurd h
  bytes_moved x done (set_count n z) h = absurd h
  bytes_moved x done (count_down n) h = absurd h
  bytes_moved x done (guard_count n wanted) h = absurd h

  -- what gets a value is read for
  value_read : (f : Form) (x : Sender) → gets_value l f x ≡ true → is_read_for l f x ≡ true
  value_read form.Group x e = e
  value_read (form.Text n) x e = absurd cc
  value_read (form.Number digits scale signed kept) x e = e
  value_read (form.Edited picture digits scale) x e = e

  -- a receiver of the list: a store says that the sender is read
  abbrev IsReceived : Sender → List ℕ → Part → Type 0
  IsReceived x places y = IsBytes y ⊎ ((place : ℕ) × (y ≡ store place Trunc (moved x)) × (list_any (λ q. is_read_for l (form_at l q) x) places ≡ true))

  or_first : (b c : Bool) → b ≡ true → (b || c) ≡ true
  or_first true c e = refl
  or_first false c e = absurd cc

  or_second : (b c : Bool) → c ≡ true → (b || c) ≡ true
  or_second true c e = refl
  or_second false c e = e

  received : (x : Sender) (places : List ℕ) (done rest : List Part) (y : Part) → done ++ y ∷ rest ≡ receivers_parts l x places → IsReceived x places y
  received x [] done rest y e = absurd (not_empty done rest y e)
  received x (place ∷ places) done rest y e = go (stands (receiver_parts l x place) (receivers_parts l x places) done rest y e) (λ behind f. received x places behind rest y f)
    where
      here : (more : List Part) (b : Bool) → gets_value l (form_at l place) x ≡ b → done ++ y ∷ more ≡ (if b then store place Trunc (moved x) ∷ [] else item_bytes l place) → IsReceived x (place ∷ places) y
      here more true f g = inr (place, (only (store place Trunc (moved x)) done more y g).1, or_first (is_read_for l (form_at l place) x) (list_any (λ q. is_read_for l (form_at l q) x) places) (value_read (form_at l place) x f))
      here more false f g = inl (in_item_bytes place done more y g)

      later : IsReceived x places y → IsReceived x (place ∷ places) y
      later (inl h) = inl h
      later (inr (q, f, g)) = inr (q, f, or_second (is_read_for l (form_at l place) x) (list_any (λ k. is_read_for l (form_at l k) x) places) g)

      go : Stands (receiver_parts l x place) (receivers_parts l x places) done y rest → ((behind : List Part) → behind ++ y ∷ rest ≡ receivers_parts l x places → IsReceived x places y) → IsReceived x (place ∷ places) y
      go (inl (more, f)) others = here more (gets_value l (form_at l place) x) refl f
      go (inr (behind, f, g)) others = later (others behind g)

  pub in_move : (x : Sender) (places : List ℕ) (done rest : List Part) (y : Part) → done ++ y ∷ rest ≡ move_parts l x places → IsMoved x done y
  in_move x places done rest y e =
      go (list_any (λ place. is_read_for l (form_at l place) x) places) refl
      (stands (if list_any (λ place. is_read_for l (form_at l place) x) places then number_reads x else []) (receivers_parts l x places) done rest y e)
    where
      front : (b : Bool) (more : List Part) → done ++ y ∷ more ≡ (if b then number_reads x else []) → IsMoved x done y
      front true more f = read_moved x done y (in_number_reads x done more y f)
      front false more f = absurd (not_empty done more y f)

      behind_sender : (b : Bool) (behind : List Part) → done ≡ (if b then number_reads x else []) ++ behind → b ≡ true → IsBehindSender x done
      behind_sender true behind f g = record { behind = behind; split = f }
      behind_sender false behind f g = absurd cc

      back : (b : Bool) (behind : List Part) → list_any (λ place. is_read_for l (form_at l place) x) places ≡ b → done ≡ (if b then number_reads x else []) ++ behind → IsReceived x places y → IsMoved x done y
      back b behind f g (inl h) = bytes_moved x done y h
      back b behind f g (inr (place, same, any)) = subst (λ (z : Part). IsMoved x done z) (sym same) (refl, behind_sender b behind g (sym f ∙ any))

      go : (b : Bool) → list_any (λ place. is_read_for l (form_at l place) x) places ≡ b → Stands (if list_any (λ place. is_read_for l (form_at l place) x) places then number_reads x else []) (receivers_parts l x places) done y rest → IsMoved x done y
      go b f (inl (more, g)) = front (list_any (λ place. is_read_for l (form_at l place) x) places) more g
      go b f (inr (behind, g, h)) = back (list_any (λ place. is_read_for l (form_at l place) x) places) behind refl g (received x places behind rest y h)

  -- ---- tests

  -- a number that is asked for, a divisor at its place, or the test
  abbrev pub IsTested : List Part → Part → Type 0
  IsTested done (read place) = Unit {0}
  IsTested done unread = Unit {0}
  IsTested done (divide d) = IsDivided done d
  IsTested done (guard t wanted) = Unit {0}
  IsTested done y = ⊥

  read_tested : (done : List Part) (y : Part) → IsRead y → IsTested done y
  read_tested done (read place) h = tt
  read_tested done unread h = tt
  read_tested done (subscript last k) h = absurd h
  read_tested done (index last k count) h = absurd h
  read_tested done (divide d) h = absurd h
  read_tested done (store place mode z) h = absurd h
  read_tested done (bytes_in offset count) h = absurd h
  read_tested done (guard t wanted) h = absurd h
  read_tested done (read_count n) h = absurd h
  read_tested done (set_count n z) h = absurd h
  read_tested done (count_down n) h = absurd h
  read_tested done (guard_count n wanted) h = absurd h

  in_text_reads : (x : Sender) (done rest : List Part) (y : Part) → done ++ y ∷ rest ≡ text_reads l x → IsRead y
  in_text_reads x done rest y e = go (is_number_item l x) e
    where
      go : (b : Bool) → done ++ y ∷ rest ≡ (if b then number_reads x else []) → IsRead y
      go true f = in_number_reads x done rest y f
      go false f = absurd (not_empty done rest y f)

  in_end_reads : (ps : List Pair) (done rest : List Part) (y : Part) → done ++ y ∷ rest ≡ end_reads l ps → IsRead y
  in_end_reads [] done rest y e = absurd (not_empty done rest y e)
  in_end_reads (q ∷ ps) done rest y e = go (stands (text_reads l q.low) (text_reads l q.high ++ end_reads l ps) done rest y e) (λ behind f. in_end_reads ps behind rest y f)
    where
      more : (behind : List Part) → Stands (text_reads l q.high) (end_reads l ps) behind y rest → ((last : List Part) → last ++ y ∷ rest ≡ end_reads l ps → IsRead y) → IsRead y
      more behind (inl (k, f)) others = in_text_reads q.high behind k y f
      more behind (inr (last, f, g)) others = others last g

      go : Stands (text_reads l q.low) (text_reads l q.high ++ end_reads l ps) done y rest → ((last : List Part) → last ++ y ∷ rest ≡ end_reads l ps → IsRead y) → IsRead y
      go (inl (k, f)) others = in_text_reads q.low done k y f
      go (inr (behind, f, g)) others = more behind (stands (text_reads l q.high) (end_reads l ps) behind rest y g) others

  in_compare : (a b : Sum) (done rest : List Part) (y : Part) → done ++ y ∷ rest ≡ compare_parts a b → IsTested done y
  in_compare a b done rest y e = first (stands (item_reads (items_in a)) (item_reads (items_in b) ++ divides (divisors_in a ++ divisors_in b)) done rest y e)
    where
      reads : (q : ℕ) × (y ≡ read q) → IsTested done y
      reads (q, f) = read_tested done y (read_is y q f)

      divided : (behind last : List Part) → done ≡ item_reads (items_in a) ++ behind → behind ≡ item_reads (items_in b) ++ last → InDivides (divisors_in a ++ divisors_in b) last y → IsTested done y
      divided behind last f g k =
          let o = order_append (divisors_in a) (divisors_in b) (items_in a) (items_in b) (sum_order a) (sum_order b) k.before k.after k.atom k.split in
          subst (λ (z : Part). IsTested done z) (sym k.part)
          (record {
            places = items_in a ++ items_in b;
            atoms = k.before;
            split = f ∙ (ap (λ (xs : List Part). item_reads (items_in a) ++ xs) (g ∙ ap (λ (xs : List Part). item_reads (items_in b) ++ xs) k.done_)
                ∙ (sym (append_assoc (item_reads (items_in a)) (item_reads (items_in b)) (divides k.before)) ∙ ap (λ (xs : List Part). xs ++ divides k.before) (sym (reads_append (items_in a) (items_in b)))));
            items = o.items;
            some = λ worth h. some_behind (items_in a ++ items_in b) k.before k.atom o worth h;
          })

      second : (behind : List Part) → done ≡ item_reads (items_in a) ++ behind → Stands (item_reads (items_in b)) (divides (divisors_in a ++ divisors_in b)) behind y rest → IsTested done y
      second behind f (inl (k, g)) = reads (in_reads (items_in b) behind k y g)
      second behind f (inr (last, g, h)) = divided behind last f g (in_divides (divisors_in a ++ divisors_in b) last rest y h)

      first : Stands (item_reads (items_in a)) (item_reads (items_in b) ++ divides (divisors_in a ++ divisors_in b)) done y rest → IsTested done y
      first (inl (k, f)) = reads (in_reads (items_in a) done k y f)
      first (inr (behind, f, g)) = second behind f (stands (item_reads (items_in b)) (divides (divisors_in a ++ divisors_in b)) behind rest y g)

  in_test_reads : (t : Test) (done rest : List Part) (y : Part) → done ++ y ∷ rest ≡ test_reads l t → IsTested done y
  in_test_reads (numbers a r b) done rest y e = in_compare a b done rest y e
  in_test_reads (texts a r b) done rest y e = go (stands (text_reads l a) (text_reads l b) done rest y e)
    where
      go : Stands (text_reads l a) (text_reads l b) done y rest → IsTested done y
      go (inl (k, f)) = read_tested done y (in_text_reads a done k y f)
      go (inr (behind, f, g)) = read_tested done y (in_text_reads b behind rest y g)
  in_test_reads (member place []) done rest y e = absurd (not_empty done rest y e)
  in_test_reads (member place (q ∷ ps)) done rest y e = go (stands (text_reads l (sender.Item place)) (end_reads l (q ∷ ps)) done rest y e)
    where
      go : Stands (text_reads l (sender.Item place)) (end_reads l (q ∷ ps)) done y rest → IsTested done y
      go (inl (k, f)) = read_tested done y (in_text_reads (sender.Item place) done k y f)
      go (inr (behind, f, g)) = read_tested done y (in_end_reads (q ∷ ps) behind rest y g)
  in_test_reads (numeric place) done rest y e = absurd (not_empty done rest y e)
  in_test_reads always done rest y e = absurd (not_empty done rest y e)

  pub in_test : (wanted : Bool) (o : Option Test) (done rest : List Part) (y : Part) → done ++ y ∷ rest ≡ test_parts l wanted o → IsTested done y
  in_test wanted None done rest y e = absurd (not_empty done rest y e)
  in_test wanted (Some t) done rest y e = go (stands (test_reads l t) (guard t wanted ∷ []) done rest y e)
    where
      go : Stands (test_reads l t) (guard t wanted ∷ []) done y rest → IsTested done y
      go (inl (k, f)) = in_test_reads t done k y f
      go (inr (behind, f, g)) = subst (λ (z : Part). IsTested done z) (sym (only (guard t wanted) behind rest y g).1) tt
