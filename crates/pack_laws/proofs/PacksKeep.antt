-- What is known of differences behind a part is true where what is known before it is.
use Rattle.std.proofs.Common.{◌≡◌, ◌≤◌, ℕ, zero, suc, ◌+◌, ◌==◌, Bool, true, false, ◌||◌, if◌then◌else◌, ◌⊎◌, inl, inr, List, [], ◌∷◌, ◌++◌, Option, Some, None, ℤ, pos, ◌-ℤ◌, refl, sym, ap, subst, ◌∙◌}
use Rattle.std.specs.Prelude.{IfSome, IsSomeAnd}
use Rattle.std.specs.List.{list_any}
use Rattle.std.specs.Option.{option_map, option_map_or}
use Rattle.std.proofs.lemmas.Bool.{eqb-true, or_parts}
use Rattle.std.proofs.lemmas.List.{append_assoc, append-nil}
use Rattle.dec_num.specs.declared.types.Mode.{Mode}
use Rattle.dec_num.specs.declared.types.Scaled.{Scaled}
use Rattle.dec_num.specs.Scaled.{value_of}
use Rattle.cob_data.specs.declared.extent.Extent.{Extent}
use Rattle.cob_data.specs.declared.layout.Item.{Item}
use Rattle.cob_data.specs.declared.layout.Layout.{Layout}
use Rattle.cob_data.specs.declared.layout.Sender.{Sender}
use Rattle.cob_data.specs.declared.layout.Sender.TheVariants as sender
use Rattle.cob_data.specs.Extents.{share_extents}
use Rattle.cob_data.specs.Occurrences.{extent_of}
use Rattle.cob_program.specs.Values.{negated, numeral, whole_number, ◌>>=◌}
use Rattle.cob_program.specs.Act.{Act, Program}
use Rattle.cob_runs.specs.declared.action.Action.{Action}
use Rattle.cob_runs.specs.Contents.{item_at, form_at, scale_of, scaled_by, occurrence_number}
use Rattle.cob_runs.specs.Computing.{worth}
use Rattle.cob_runs.specs.Moves.{number_of}
use Rattle.cob_edge_parts.specs.Parts.{Amount, Part, read, unread, subscript, index, divide, store, bytes_in, guard, read_count, set_count, count_down, guard_count, parts_of}
use Rattle.cob_edge_parts.specs.Meaning.{Moment, with_failure, divided_by_zero, is_left_alone, changed_in, divides_by, stored_bytes, stored_or_kept, Divides, Stores, skipped}
use Rattle.cob_edge_parts.proofs.Subscripts.{subscript_leaves, index_leaves}
use Rattle.cob_edge_parts.specs.Ranges.{ChangesWithin}
use Rattle.cob_program.specs.Sum.{Atom}
use Rattle.dom_laws.specs.Meaning.{Storage}
use Rattle.dom_laws.specs.Walking.{IsSeen, PassesAll}
use Rattle.diff_bounds.specs.declared.form.lin.Lin.{Lin}
use Rattle.diff_bounds.specs.Matrix.{word}
use Rattle.cob_edge_parts.specs.Counters.{PassesPart}
use Rattle.diff_bounds.specs.Closed.{closed}
use Rattle.interval_domain.specs.Known.{Known}
use Rattle.cob_graph.specs.declared.homes.Home.{Home}
use Rattle.cob_graph.specs.declared.homes.Home.TheVariants.{Item as of_item, Count as of_count}
use Rattle.cob_graph.specs.Homes.{homes_of}
use Rattle.cell_steps.specs.Storages.{storage, known_of, value_at, KnownStands}
use Rattle.cell_steps.specs.Cells.{is_in_extent, bytes_from, is_beside}
use Rattle.cell_steps.specs.Seen.{Seen}
use Rattle.cell_steps.specs.Stores.{has_one_receiver, handled, keeps_receiver, with_taken}
use Rattle.cell_steps.specs.Steps.{step}
use Rattle.cell_steps.specs.Agreeing.{IsSoundEdge, FailsAt, PassesOn, Agrees, walking}
use Rattle.cell_laws.proofs.Frames.{value_stays, range_changes}
use Rattle.cell_laws.proofs.QuietParts.{SameMoment, same_moment, own_moment, read_moment}
use Rattle.cell_laws.proofs.StoresKeep.{then_holds, taken_at}
use Rattle.cell_laws.proofs.PartsKeep.{keeps, off_zero}
use Rattle.cell_laws.proofs.PartsDone.{both_true}
use Rattle.diff_steps.specs.Packs.{Pack, size_of, cell_of, pack_decimals, cells_in, PackStands, PacksStand}
use Rattle.diff_steps.specs.Matrices.{with_words, put_word}
use Rattle.diff_steps.specs.Moments.{Seen2, with_packs, item_bytes, is_written}
use Rattle.diff_steps.specs.Forms.{is_whole_sender, sender_form, set_form, lowered_form}
use Rattle.diff_steps.specs.Steps.{each_pack, all_closed, guarded_pack, changed_pack, written_by, changed, step2}
use Rattle.diff_steps.specs.Edges.{steps2}
use Rattle.pack_laws.proofs.Occurrences.{first_home}
use Rattle.pack_laws.proofs.Words.{word_at}
use Rattle.pack_laws.proofs.Known.{known_stands}
use Rattle.pack_laws.specs.Agreeing.{IsTracked, AreMatrices, IsPackOf, ArePacksOf, Agrees2}
use Rattle.pack_laws.specs.Showing.{ShowsAt}
use Rattle.cell_laws.proofs.WalkLawsHold.{cell_laws}
use Rattle.pack_laws.proofs.FormsShowMoments.{all_amounts_are_shown, all_operands_are_there, all_senders_are_shown, all_counters_are_shown, all_guards_keep}
use Rattle.pack_laws.proofs.PacksPutRise.{IsFlat, AreFlat}
use Rattle.pack_laws.proofs.PacksFit.{changed_are_flat, step2_fits}
use Rattle.pack_laws.proofs.PacksKeepClosed.{closed_stands}
use Rattle.pack_laws.proofs.PacksKeepCells.{homes_left}
use Rattle.pack_laws.proofs.PacksKeepCounters.{IsWholeShown, same_shown, counted_stands}
use Rattle.pack_laws.proofs.PacksKeepStores.{store_stands, store_changes}

-- ---- a row of matrices

put_is_flat : (l : Layout) (homes : List Home) (known : List Known) (pack : Pack) (m : List ℤ) → IsFlat (size_of pack) m → IsFlat (size_of pack) (with_words (size_of pack) (put_word l homes known pack (word (size_of pack + 1) m)))
put_is_flat l homes known pack m is = record {
  zeros = λ i h. word_at (size_of pack) (put_word l homes known pack (word (size_of pack + 1) m)) i i h h ∙ go i ∙ is.zeros i h;
}
  where
    go : (i : ℕ) → put_word l homes known pack (word (size_of pack + 1) m) i i ≡ word (size_of pack + 1) m i i
    go zero = refl
    go (suc i) = refl

-- lowered to what is known, and closed
pub all_closed_stand : (p : Program) (known : List Known) (s : Storage) → ((h : Home) → KnownStands (known_of (homes_of p) known h) (value_at p.layout s h 0))
    → (packs : List Pack) (ms : List (List ℤ)) → AreFlat packs ms → PacksStand p.layout packs ms s → IsSomeAnd (all_closed p known packs ms) (λ cs. PacksStand p.layout packs cs s)
all_closed_stand p known s is [] [] flat stand = tt
all_closed_stand p known s is [] (m ∷ ms) flat stand = absurd flat
all_closed_stand p known s is (pack ∷ packs) [] flat stand = absurd flat
all_closed_stand p known s is (pack ∷ packs) (m ∷ ms) ((few, level), others) (stands, stand) =
    then_holds (λ c. PackStands p.layout pack c s) (λ cs. PacksStand p.layout (pack ∷ packs) cs s)
    (closed (size_of pack) (with_words (size_of pack) (put_word p.layout (homes_of p) known pack (word (size_of pack + 1) m)))) (λ c. all_closed p known packs ms >>= λ cs. Some (c ∷ cs))
    (closed_stands (size_of pack) (with_words (size_of pack) (put_word p.layout (homes_of p) known pack (word (size_of pack + 1) m))) (cells_in p.layout pack s)
    (known_stands p.layout (homes_of p) known pack s is m stands) (put_is_flat p.layout (homes_of p) known pack m level))
    (λ c k. then_holds (λ cs. PacksStand p.layout packs cs s) (λ cs. PacksStand p.layout (pack ∷ packs) cs s) (all_closed p known packs ms) (λ cs. Some (c ∷ cs))
    (all_closed_stand p known s is packs ms others stand) (λ cs ks. (k, ks)))

-- each pack is changed
each_stand : (p : Program) (change : Pack → List ℤ → List ℤ) (before behind : Storage)
    → ((pack : Pack) (m : List ℤ) → IsPackOf p pack → size_of pack ≤ 8 → PackStands p.layout pack m before → PackStands p.layout pack (change pack m) behind)
    → (packs : List Pack) (ms : List (List ℤ)) → ArePacksOf p packs → AreMatrices packs ms → PacksStand p.layout packs ms before → PacksStand p.layout packs (each_pack change packs ms) behind
each_stand p change before behind one [] [] of are stand = tt
each_stand p change before behind one [] (m ∷ ms) of are stand = absurd are
each_stand p change before behind one (pack ∷ packs) [] of are stand = absurd are
each_stand p change before behind one (pack ∷ packs) (m ∷ ms) (is, of) ((few, matrix), are) (k, stand) =
    (one pack m is few k, each_stand p change before behind one packs ms of are stand)

-- ---- what a part leaves

-- a sender without decimals is a whole number
pub whole_scale : (l : Layout) (bytes : List ℕ) (y : Sender) (v : Scaled) → is_whole_sender l y ≡ true → number_of l bytes y ≡ Some v → v.scale ≡ 0
whole_scale l bytes (sender.Item place) v e f = by_scale (scale_of (form_at l place)) (eqb-true (scale_of (form_at l place)) 0 e) _ f
  where
    by_scale : (scale : ℕ) → scale ≡ 0 → (o : Option ℤ) → option_map (scaled_by scale) o ≡ Some v → v.scale ≡ 0
    by_scale scale is None f = absurd cc
    by_scale scale is (Some z) f = let same : scaled_by scale z ≡ v = cc in ap (λ (w : Scaled). w.scale) (sym same) ∙ is
whole_scale l bytes (sender.Number n) v e f = by_sign (n.sign == 45) f
  where
    by_sign : (b : Bool) → Some (negated b (record { units = pos (numeral 0 n.digits); scale = n.scale })) ≡ Some v → v.scale ≡ 0
    by_sign true f = let same : negated true (record { units = pos (numeral 0 n.digits); scale = n.scale }) ≡ v = cc in ap (λ (w : Scaled). w.scale) (sym same) ∙ eqb-true n.scale 0 e
    by_sign false f = let same : negated false (record { units = pos (numeral 0 n.digits); scale = n.scale }) ≡ v = cc in ap (λ (w : Scaled). w.scale) (sym same) ∙ eqb-true n.scale 0 e
whole_scale l bytes (sender.Text text) v e f = by_units _ f
  where
    by_units : (o : Option ℤ) → option_map (scaled_by 0) o ≡ Some v → v.scale ≡ 0
    by_units None f = absurd cc
    by_units (Some z) f = let same : scaled_by 0 z ≡ v = cc in ap (λ (w : Scaled). w.scale) (sym same)
whole_scale l bytes (sender.Fill byte) v e f = absurd cc
whole_scale l bytes sender.Zero v e f = let same : whole_number (pos 0) ≡ v = cc in ap (λ (w : Scaled). w.scale) (sym same)

-- storage and counters are as they were
record IsQuiet (m n : Moment) : Type 0 where
  storage_ : n.storage ≡ m.storage
  counts : n.counts ≡ m.counts
  first : n.first ≡ m.first

of_same : (m n : Moment) → SameMoment m n → IsQuiet m n
of_same m n same = record { storage_ = same.storage_; counts = same.counts; first = same.first }

divide_quiet : (l : Layout) (b : Bool) (d : Atom) (m n : Moment) → Divides l b d m n → IsQuiet m n
divide_quiet l false d m n (ok, e) = of_same m n (same_moment m n e)
divide_quiet l true d m n e = go (divides_by (worth l m.first) d) e
  where
    go : (b : Bool) → n ≡ (if b then m else divided_by_zero m) → IsQuiet m n
    go true e = of_same m n (same_moment m n e)
    go false e = record { storage_ = ap (λ (k : Moment). k.storage) e; counts = ap (λ (k : Moment). k.counts) e; first = ap (λ (k : Moment). k.first) e }

-- a store that fails on an edge of size errors
kept_alone : (l : Layout) (handled : Bool) (place : ℕ) (mode : Mode) (y : Amount) (m n : Moment) → handled ≡ true → FailsAt l (store place mode y) m → Stores l handled place mode y m n → IsQuiet m n
kept_alone l false place mode y m n on fails h = absurd cc
kept_alone l true place mode y m n on fails h = by_alone (is_left_alone m y) refl fails h
  where
    failure : n ≡ with_failure m → IsQuiet m n
    failure k = record { storage_ = ap (λ (j : Moment). j.storage) k; counts = ap (λ (j : Moment). j.counts) k; first = ap (λ (j : Moment). j.first) k }

    by_alone : (b : Bool) → is_left_alone m y ≡ b → (b ≡ true) ⊎ (stored_bytes l m place mode y ≡ None) → n ≡ (if b then m else stored_or_kept l m place (stored_bytes l m place mode y)) → IsQuiet m n
    by_alone true e f k = of_same m n (same_moment m n k)
    by_alone false e (inl f) k = absurd cc
    by_alone false e (inr f) k = failure (k ∙ ap (stored_or_kept l m place) f)

quiet_stands : (l : Layout) (pack : Pack) (w : List ℤ) (m n : Moment) → IsQuiet m n → PackStands l pack w (storage m.storage m.counts) → PackStands l pack w (storage n.storage n.counts)
quiet_stands l pack w m n q h =
    subst (λ (bytes : List ℕ). PackStands l pack w (storage bytes n.counts)) (sym q.storage_)
    (subst (λ (counts : List (Option ℤ)). PackStands l pack w (storage m.storage counts)) (sym q.counts) h)

quiet_tracked : (l : Layout) (wrote : List Extent) (m n : Moment) → n.storage ≡ m.storage → n.first ≡ m.first → IsTracked l wrote m → IsTracked l wrote n
quiet_tracked l wrote m n e f h = record {
  same = λ place j less k.
      ap (λ (bytes : List ℕ). occurrence_number l bytes place j) e ∙ h.same place j less k
      ∙ ap (λ (bytes : List ℕ). occurrence_number l bytes place j) (sym f);
}

-- ---- bytes that are written

written_first : (l : Layout) (b : Extent) (wrote : List Extent) (place : ℕ) → is_written l (b ∷ wrote) place ≡ false
    → (is_in_extent l b (of_item place) ≡ false) × (is_written l wrote place ≡ false)
written_first l b wrote place e = go (item_at l place) e
  where
    go : (o : Option Item) → option_map_or (λ i. share_extents b (extent_of i) || list_any (λ c. share_extents c (extent_of i)) wrote) o false ≡ false
        → (option_map_or (λ i. share_extents b (extent_of i)) o false ≡ false) × (option_map_or (λ i. list_any (λ c. share_extents c (extent_of i)) wrote) o false ≡ false)
    go None e = (refl, refl)
    go (Some i) e = or_parts (share_extents b (extent_of i)) _ e

written_item : (l : Layout) (place : ℕ) (wrote : List Extent) (other : ℕ) → is_written l (item_bytes l place ++ wrote) other ≡ false → (is_beside l place (of_item other) ≡ false) × (is_written l wrote other ≡ false)
written_item l place wrote other e = go (item_at l place) e
  where
    go : (o : Option Item) → is_written l (option_map_or (λ i. extent_of i ∷ []) o [] ++ wrote) other ≡ false
        → (option_map_or (λ i. is_in_extent l (extent_of i) (of_item other)) o false ≡ false) × (is_written l wrote other ≡ false)
    go None e = (refl, e)
    go (Some i) e = written_first l (extent_of i) wrote other e

-- ---- each part

module _ (p : Program) (packs : List Pack) (statement : ℕ) (a : Act) (x : Action) where
  not_both : (o : Option ℕ) (at : ℕ) → o ≡ Some at → o ≡ None → ⊥
  not_both None at e f = cc
  not_both (Some k) at e f = cc

  abbrev Now : List Part → Seen → Seen2 → Moment → Type 0
  Now done s r m = Agrees2 p packs statement a x done s r m

  bytes_change : (done rest : List Part) (offset count : ℕ) (s : Seen) (m : Moment) → done ++ bytes_in offset count ∷ rest ≡ parts_of p statement a x → Agrees p statement a x done s m → (change : Option (List ℕ))
      → ChangesWithin offset count m.storage (changed_in change offset count m.storage)
  bytes_change done rest offset count s m e g change = range_changes change offset count m.storage (subst (λ (j : ℕ). offset + count ≤ j) (sym g.stands.whole) (g.sound.areas done rest offset count e))

  -- a sender without decimals is shown by its form
  set_shown : (pack : Pack) (of : IsPackOf p pack) (few : size_of pack ≤ 8) (t : Seen) (wrote : List Extent) (y : Sender) (m : Moment) (v : Scaled) (sound : IsSoundEdge p statement a x) → number_of p.layout m.first y ≡ Some v
      → IfSome (sender_form p pack t wrote y) (λ form. (d : Scaled) × (value_of v ≡ value_of d) × ShowsAt p.layout pack m d form)
      → IfSome (set_form p pack t wrote y) (λ f. IsWholeShown p statement a x sound pack of few (cells_in p.layout pack (storage m.storage m.counts)) f v)
  set_shown pack of few t wrote y m v sound sent shown = by_scale (is_whole_sender p.layout y) refl
    where
      of_sender : (o : Option Lin) → v.scale ≡ 0 → IfSome o (λ form. (d : Scaled) × (value_of v ≡ value_of d) × ShowsAt p.layout pack m d form)
          → IfSome o (λ f. IsWholeShown p statement a x sound pack of few (cells_in p.layout pack (storage m.storage m.counts)) f v)
      of_sender None is h = tt
      of_sender (Some f) is (d, same, h) = record { whole = is; shown = same_shown (size_of pack) (cells_in p.layout pack (storage m.storage m.counts)) f d v (pack_decimals p.layout pack) same h }

      by_scale : (b : Bool) → is_whole_sender p.layout y ≡ b → IfSome (if b then sender_form p pack t wrote y else None) (λ f. IsWholeShown p statement a x sound pack of few (cells_in p.layout pack (storage m.storage m.counts)) f v)
      by_scale true e = of_sender (sender_form p pack t wrote y) (whole_scale p.layout m.first y v e sent) shown
      by_scale false e = tt

  lowered_shown : (pack : Pack) (of : IsPackOf p pack) (few : size_of pack ≤ 8) (m : Moment) (z : ℤ) (sound : IsSoundEdge p statement a x) (o : Option Lin)
      → IfSome o (ShowsAt p.layout pack m (whole_number z)) → IfSome o (λ f. IsWholeShown p statement a x sound pack of few (cells_in p.layout pack (storage m.storage m.counts)) f (whole_number z))
  lowered_shown pack of few m z sound None h = tt
  lowered_shown pack of few m z sound (Some f) h = record { whole = refl; shown = h }

  -- the matrix of one pack
  part_stands : (done rest : List Part) (y : Part) (s : Seen) (r : Seen2) (m n : Moment) → done ++ y ∷ rest ≡ parts_of p statement a x → Now done s r m → PassesPart p.layout (handled p a x) y m n
      → (keeps_receiver a x ≡ true → FailsAt p.layout y m) → (pack : Pack) (w : List ℤ) → IsPackOf p pack → size_of pack ≤ 8 → PackStands p.layout pack w (storage m.storage m.counts) → PackStands p.layout pack (changed_pack p a x y s r.wrote pack w) (storage n.storage n.counts)
  part_stands done rest (read place) s r m n e g h fails pack w of few k = quiet_stands p.layout pack w m n (of_same m n (read_moment p.layout m.by_zero place m n h.0)) k
  part_stands done rest unread s r m n e g h fails pack w of few k = absurd h.0
  part_stands done rest (subscript last j) s r m n e g h fails pack w of few k = quiet_stands p.layout pack w m n (of_same m n (same_moment m n (subscript_leaves p.layout (skipped last m) j m n h.0))) k
  part_stands done rest (index last j count) s r m n e g h fails pack w of few k = quiet_stands p.layout pack w m n (of_same m n (same_moment m n (index_leaves p.layout (skipped last m) j count m n h.0))) k
  part_stands done rest (divide d) s r m n e g h fails pack w of few k = quiet_stands p.layout pack w m n (divide_quiet p.layout (handled p a x) d m n h.0) k
  part_stands done rest (store place mode y) s r m n e g h fails pack w of few k =
      let q = cell_laws.places_ p statement a x done rest (store place mode y) e in
      store_stands p statement a x done place mode y (with_taken p a x s) m (taken_at p statement a x cell_laws done (store place mode y) s m refl q g.cells) q (g.cells.sound.receivers done rest place mode y e) pack of few r.wrote w k
      (λ unzero v f. all_operands_are_there p statement a x done rest place mode y e s r.wrote m g.cells g.tracked unzero v f)
      (λ unzero v f. all_amounts_are_shown p statement a x pack few done rest place mode y e s r.wrote m g.cells g.tracked unzero v f)
      n (off_zero cell_laws p statement a x done s m g.cells) fails h.0
  part_stands done rest (bytes_in offset count) s r m n e g h fails pack w of few k =
      let change = h.0.0 in
      subst (λ (j : Moment). PackStands p.layout pack (changed_pack p a x (bytes_in offset count) s r.wrote pack w) (storage j.storage j.counts)) (sym h.0.1)
      (homes_left p.layout pack (is_in_extent p.layout (bytes_from offset count)) (storage m.storage m.counts) (storage (changed_in change offset count m.storage) m.counts) w
      (λ i h is apart. value_stays p.layout offset count m.storage (changed_in change offset count m.storage) m.counts (bytes_change done rest offset count s m e g.cells change) h apart 0 (first_home p.layout g.cells.sound.items h)) k)
  part_stands done rest (guard v wanted) s r m n e g h fails pack w of few k =
      subst (λ (j : Moment). PackStands p.layout pack (guarded_pack p a x s v wanted pack w) (storage j.storage j.counts)) (sym h.0.1)
      (all_guards_keep p statement a x pack few done rest v wanted e s m g.cells h.0.0 w k)
  part_stands done rest (read_count j) s r m n e g h fails pack w of few k = quiet_stands p.layout pack w m n (of_same m n (own_moment m n (whole_number h.0.0) h.0.2)) k
  part_stands done rest (set_count j y) s r m n e g h fails pack w of few k =
      let q = cell_laws.places_ p statement a x done rest (set_count j y) e in
      subst (λ (i : Moment). PackStands p.layout pack (changed_pack p a x (set_count j y) s r.wrote pack w) (storage i.storage i.counts)) (sym h.0.2)
      (counted_stands p statement a x g.cells.sound pack of few m s.cells j h.0.0 (set_form p pack (with_taken p a x s) r.wrote y) w (subst (λ (i : ℕ). 1 ≤ i) (sym q.0) g.cells.sound.first) g.cells.stands
      (λ at f. set_shown pack of few (with_taken p a x s) r.wrote y m h.0.0 g.cells.sound h.0.1 (all_senders_are_shown p statement a x pack few done rest j y e s r.wrote m g.cells g.tracked h.0.0 h.0.1)) k)
  part_stands done rest (count_down j) s r m n e g h fails pack w of few k =
      let q = cell_laws.places_ p statement a x done rest (count_down j) e in
      subst (λ (i : Moment). PackStands p.layout pack (changed_pack p a x (count_down j) s r.wrote pack w) (storage i.storage i.counts)) (sym h.0)
      (counted_stands p statement a x g.cells.sound pack of few m s.cells j (whole_number (m.own.units -ℤ pos 1)) (lowered_form p pack s r.wrote j) w (subst (λ (i : ℕ). 1 ≤ i) (sym q.0) g.cells.sound.first) g.cells.stands
      (λ at f. lowered_shown pack of few m (m.own.units -ℤ pos 1) g.cells.sound (lowered_form p pack s r.wrote j)
      (all_counters_are_shown p statement a x pack few done rest j e s r.wrote m g.cells (λ none. absurd (not_both (cell_of pack (of_count j)) at f none)))) k)
  part_stands done rest (guard_count j wanted) s r m n e g h fails pack w of few k = quiet_stands p.layout pack w m n (of_same m n (same_moment m n h.0.3)) k

  -- storage where the edge began, for items to which it hasn't written
  part_tracked : (done rest : List Part) (y : Part) (s : Seen) (r : Seen2) (m n : Moment) → done ++ y ∷ rest ≡ parts_of p statement a x → Now done s r m → PassesPart p.layout (handled p a x) y m n
      → (keeps_receiver a x ≡ true → FailsAt p.layout y m) → IsTracked p.layout (written_by p a x y ++ r.wrote) n
  part_tracked done rest (read place) s r m n e g h fails = let q = of_same m n (read_moment p.layout m.by_zero place m n h.0) in quiet_tracked p.layout r.wrote m n q.storage_ q.first g.tracked
  part_tracked done rest unread s r m n e g h fails = absurd h.0
  part_tracked done rest (subscript last j) s r m n e g h fails =
      let q = of_same m n (same_moment m n (subscript_leaves p.layout (skipped last m) j m n h.0)) in quiet_tracked p.layout r.wrote m n q.storage_ q.first g.tracked
  part_tracked done rest (index last j count) s r m n e g h fails =
      let q = of_same m n (same_moment m n (index_leaves p.layout (skipped last m) j count m n h.0)) in quiet_tracked p.layout r.wrote m n q.storage_ q.first g.tracked
  part_tracked done rest (divide d) s r m n e g h fails = let q = divide_quiet p.layout (handled p a x) d m n h.0 in quiet_tracked p.layout r.wrote m n q.storage_ q.first g.tracked
  part_tracked done rest (store place mode y) s r m n e g h fails = by_keeping (keeps_receiver a x) refl
    where
      by_keeping : (b : Bool) → keeps_receiver a x ≡ b → IsTracked p.layout ((if b then [] else item_bytes p.layout place) ++ r.wrote) n
      by_keeping true keeps =
          let same = kept_alone p.layout (handled p a x) place mode y m n (both_true (handled p a x) (has_one_receiver a) keeps).0 (fails keeps) h.0 in
          quiet_tracked p.layout r.wrote m n same.storage_ same.first g.tracked
      by_keeping false off =
          let q = cell_laws.places_ p statement a x done rest (store place mode y) e in
          let changes = store_changes p statement a x done place mode y (with_taken p a x s) m (taken_at p statement a x cell_laws done (store place mode y) s m refl q g.cells) q (g.cells.sound.receivers done rest place mode y e) n h.0 in
          record {
            same = λ other j less k.
                let two = written_item p.layout place r.wrote other k in
                changes.others other j less two.0 ∙ g.tracked.same other j less two.1
                ∙ ap (λ (bytes : List ℕ). occurrence_number p.layout bytes other j) (sym changes.first);
          }
  part_tracked done rest (bytes_in offset count) s r m n e g h fails =
      let change = h.0.0 in
      subst (λ (j : Moment). IsTracked p.layout (written_by p a x (bytes_in offset count) ++ r.wrote) j) (sym h.0.1)
      (record {
        same = λ other j less k.
            let two = written_first p.layout (bytes_from offset count) r.wrote other k in
            ap (option_map (scaled_by (scale_of (form_at p.layout other))))
            (value_stays p.layout offset count m.storage (changed_in change offset count m.storage) m.counts
            (bytes_change done rest offset count s m e g.cells change) (of_item other) two.0 j less)
            ∙ g.tracked.same other j less two.1;
      })
  part_tracked done rest (guard v wanted) s r m n e g h fails = let q = of_same m n (same_moment m n h.0.1) in quiet_tracked p.layout r.wrote m n q.storage_ q.first g.tracked
  part_tracked done rest (read_count j) s r m n e g h fails = let q = of_same m n (own_moment m n (whole_number h.0.0) h.0.2) in quiet_tracked p.layout r.wrote m n q.storage_ q.first g.tracked
  part_tracked done rest (set_count j y) s r m n e g h fails = quiet_tracked p.layout r.wrote m n (ap (λ (k : Moment). k.storage) h.0.2) (ap (λ (k : Moment). k.first) h.0.2) g.tracked
  part_tracked done rest (count_down j) s r m n e g h fails = quiet_tracked p.layout r.wrote m n (ap (λ (k : Moment). k.storage) h.0) (ap (λ (k : Moment). k.first) h.0) g.tracked
  part_tracked done rest (guard_count j wanted) s r m n e g h fails = let q = of_same m n (same_moment m n h.0.3) in quiet_tracked p.layout r.wrote m n q.storage_ q.first g.tracked

  -- ---- all parts

  abbrev behind : Part → Seen → Seen2 → Seen → List (List ℤ) → Option (Seen × Seen2)
  behind y s r t ms = Some (t, with_packs (changed p a x packs y s r) ms)

  module _ (of : ArePacksOf p packs) where
    pub part_keeps : (done rest : List Part) (y : Part) (s : Seen) (r : Seen2) (m n : Moment) → done ++ y ∷ rest ≡ parts_of p statement a x → Now done s r m → PassesOn p statement a x y m n
        → IsSomeAnd (step2 p a x packs y s r) (λ u. Now (done ++ y ∷ []) u.0 u.1 n)
    part_keeps done rest y s r m n e g h = by_cells (step p a x y s) (keeps cell_laws p statement a x done rest y s m n e g.cells h.0 h.1) (step2_fits p a x packs y s r g.matrices)
      where
        by_row : (t : Seen) → Agrees p statement a x (done ++ y ∷ []) t n → (o : Option (List (List ℤ))) → IsSomeAnd o (λ cs. PacksStand p.layout packs cs (storage n.storage n.counts))
            → IfSome (o >>= λ ms. behind y s r t ms) (λ u. AreMatrices packs u.1.packs)
            → IsSomeAnd (o >>= λ ms. behind y s r t ms) (λ u. Now (done ++ y ∷ []) u.0 u.1 n)
        by_row t k None stand fit = absurd stand
        by_row t k (Some ms) stand fit = record { cells = k; tracked = part_tracked done rest y s r m n e g h.0 h.1; matrices = fit; stand = stand }

        by_cells : (o : Option Seen) → IsSeen (walking p statement a x) o (λ t. Agrees p statement a x (done ++ y ∷ []) t n)
            → IfSome (o >>= λ t. all_closed p t.cells packs (changed p a x packs y s r).packs >>= λ ms. behind y s r t ms) (λ u. AreMatrices packs u.1.packs)
            → IsSomeAnd (o >>= λ t. all_closed p t.cells packs (changed p a x packs y s r).packs >>= λ ms. behind y s r t ms) (λ u. Now (done ++ y ∷ []) u.0 u.1 n)
        by_cells None k fit = absurd k
        by_cells (Some t) k fit =
            by_row t k (all_closed p t.cells packs (changed p a x packs y s r).packs)
            (all_closed_stand p t.cells (storage n.storage n.counts)
            (λ h. k.stands.known h 0 (first_home p.layout k.sound.items h)) packs (changed p a x packs y s r).packs (changed_are_flat p a x packs y s r g.matrices)
            (each_stand p (changed_pack p a x y s r.wrote) (storage m.storage m.counts) (storage n.storage n.counts)
            (λ pack w is few stands. part_stands done rest y s r m n e g h.0 h.1 pack w is few stands) packs r.packs of g.matrices g.stand)) fit

    pub parts_keep : (done ys : List Part) (s : Seen) (r : Seen2) (m n : Moment) → done ++ ys ≡ parts_of p statement a x → Now done s r m → PassesAll (walking p statement a x) ys m n
        → IsSomeAnd (steps2 p packs a x ys s r) (λ u. Now (parts_of p statement a x) u.0 u.1 n)
    parts_keep done [] s r m n e g same =
        subst (λ (k : Moment). Now (parts_of p statement a x) s r k) (sym same) (subst (λ (d : List Part). Now d s r m) (sym (append-nil done) ∙ e) g)
    parts_keep done (y ∷ ys) s r m n e g (next, h, hs) =
        then_holds (λ u. Now (done ++ y ∷ []) u.0 u.1 next) (λ u. Now (parts_of p statement a x) u.0 u.1 n) (step2 p a x packs y s r) (λ u. steps2 p packs a x ys u.0 u.1)
        (part_keeps done ys y s r m next e g h)
        (λ u k. parts_keep (done ++ y ∷ []) ys u.0 u.1 next n (append_assoc done (y ∷ []) ys ∙ e) k hs)
