-- Stores: what is seen behind them is true of what a run leaves.
use Rattle.std.proofs.Common.{◌≡◌, ◌<◌, ◌≤◌, ℕ, Bool, true, false, ◌&&◌, ◌||◌, if◌then◌else◌, ◌⊎◌, inl, inr, List, [], ◌∷◌, ◌++◌, length, Option, Some, None, is_some, ℤ, pos, ◌≤ℤ◌, refl, sym, ap, subst, ◌∙◌, arith}
use Rattle.std.specs.Prelude.{IsSomeAnd, neg_ℤ, ◌-◌, ◌^◌, unsigned_abs}
use Rattle.std.specs.List.{list_all, list_any}
use Rattle.std.specs.Option.{option_map, option_map_or}
use Rattle.std.proofs.lemmas.Bool.{cases_eq}
use Rattle.std.proofs.lemmas.Int.{ints}
use Rattle.dec_num.specs.Exact.{Fraction}
use Rattle.dec_num.specs.Scaled.{value_of}
use Rattle.dec_num.proofs.Powers.{ten_positive}
use Rattle.cob_tree.specs.declared.form.Form.{Form}
use Rattle.cob_tree.specs.declared.form.Usage.{Usage}
use Rattle.cob_tree.specs.declared.form.Form.TheVariants as form
use Rattle.cob_data.specs.declared.layout.Layout.{Layout}
use Rattle.cob_data.specs.declared.layout.Item.{Item}
use Rattle.cob_data.specs.declared.layout.Sender.{Sender}
use Rattle.cob_data.specs.declared.layout.Sender.TheVariants as sender
use Rattle.cob_data.specs.Extents.{IsExtent, LiesWithin}
use Rattle.cob_data.specs.Occurrences.{extent_of}
use Rattle.interval_domain.specs.declared.bounds.Interval.{Interval}
use Rattle.interval_domain.specs.Bounds.{Holds}
use Rattle.num_bytes.specs.Reading.{contents_value}
use Rattle.cob_program.specs.declared.act.Target.{Target}
use Rattle.cob_program.specs.declared.act.How.{How}
use Rattle.cob_program.specs.declared.act.How.TheVariants as how
use Rattle.cob_program.specs.Sum.{Sum}
use Rattle.cob_program.specs.Values.{root_of, ◌>>=◌}
use Rattle.cob_program.specs.Act.{once, times, until, varying, Stmts, Phrase, Act, move, arith as arithmetic, if_, evaluate, perform, go as go_to, nothing, stop, open_files, close_files, read as reading, write, show, Program}
use Rattle.cob_runs.specs.declared.action.Action.{Action}
use Rattle.cob_runs.specs.declared.action.Action.TheVariants as action
use Rattle.cob_runs.specs.Contents.{form_at, item_at, times_at, bytes_of, digits_of, number_in, number_at, occurrence_filled}
use Rattle.cob_runs.specs.Moves.{takes_number, number_of}
use Rattle.cob_runs.specs.Computing.{items_in, are_numeric, worth}
use Rattle.cob_edge_parts.specs.Parts.{Amount, moved, computed, remaining, augmented, Part, read, unread, subscript, index, divide, store, bytes_in, guard, read_count, set_count, count_down, guard_count, divides, number_reads, divisors_of}
use Rattle.cob_edge_parts.specs.Meaning as run
use Rattle.cob_edge_parts.specs.Meaning.{Moment, with_own, divides_by, amount, ReadsAt}
use Rattle.sum_ranges.specs.Ranged.{decimal, IsIn}
use Rattle.transfer_ranges.specs.declared.amounts.Taken.{Taken}
use Rattle.transfer_ranges.specs.Amounts.{IsAmount}
use Rattle.cob_edge_parts.specs.Counters.{PassesPart, PassesParts}
use Rattle.cell_laws.specs.Places.{IsBehindOperands, EndsWithRead, IsComputed, IsBehindSender, Moves, Augments, Counts, IsStored, IsInPlace}
use Rattle.dom_laws.specs.Meaning.{Storage}
use Rattle.interval_domain.specs.Known.{Known, KnownFits, joined_known}
use Rattle.interval_domain.proofs.OneKnown.{known_join_left, known_join_right}
use Rattle.cob_graph.specs.declared.homes.Home.{Home}
use Rattle.cob_graph.specs.declared.homes.Home.TheVariants.{Item as of_item}
use Rattle.cob_graph.specs.Homes.{homes_of}
use Rattle.cell_steps.specs.OwnRanges.{picture_range, form_range}
use Rattle.cell_steps.specs.Premises.{HasSoundItems}
use Rattle.cell_steps.specs.Storages.{storage, known_of, occurrences_of, value_at, KnownStands, HomeStands, StandsIn}
use Rattle.cell_steps.specs.Cells.{is_table, forgotten, is_beside}
use Rattle.transfer_ranges.specs.EdgeOperands.{edge_amount, edge_operands, amount_of, operands_vanish}
use Rattle.cell_steps.specs.Seen.{Seen}
use Rattle.cell_steps.specs.Stores.{stored_known, receiver_known, stored_cells, range_at, handled, taking, with_taken, amount_at}
use Rattle.cell_steps.specs.Agreeing.{IsSoundEdge, OperandsHold, of_operands, writes, is_store, Agrees}
use Rattle.cell_laws.proofs.OperandsRise.{or_left}
use Rattle.cell_laws.proofs.WalkLaws.{Given}
use Rattle.cell_laws.proofs.HomesStand.{known_left, stands_above}
use Rattle.cell_laws.proofs.Frames.{filled_length, others_stay, siblings_stay, held_value}
use Rattle.cell_laws.proofs.HomesHold.{home_set, number_holds, range_is_ordered}
use Rattle.cell_laws.proofs.PartsDone.{passes_snoc, read_first, divisors_count}

-- ---- options

pub then_holds : {A B : Type 0} (P : A → Type 0) (Q : B → Type 0) (o : Option A) (next : A → Option B) → IsSomeAnd o P → ((c : A) → P c → IsSomeAnd (next c) Q) → IsSomeAnd (o >>= next) Q
then_holds P Q None next h k = h
then_holds P Q (Some c) next h k = k c h

pub then_is : {A B : Type 0} (o : Option A) (next : A → Option B) (b : B) → (o >>= next) ≡ Some b → (c : A) × (o ≡ Some c) × (next c ≡ Some b)
then_is None next b e = absurd cc
then_is (Some c) next b e = (c, refl, e)

pub is_there : {A : Type 0} (o : Option A) → is_some o ≡ true → (c : A) × (o ≡ Some c)
is_there None e = absurd cc
is_there (Some c) e = (c, refl)

module _ (p : Program) (statement : ℕ) (a : Act) (x : Action) where
  -- ---- what parts before have shown

  abbrev at_first : List ℕ → List (Option ℤ) → Moment
  at_first first counts = run.beginning first counts

  same_sum_numeric : (bytes : List ℕ) (s u : Sum) → s ≡ u → are_numeric p.layout bytes (items_in u) ≡ true → are_numeric p.layout bytes (items_in s) ≡ true
  same_sum_numeric bytes s u e h = subst (λ (k : Sum). are_numeric p.layout bytes (items_in k) ≡ true) (sym e) h

  arithmetic_sum : (s u : Sum) (ts us : List Target) (r q : Option ℕ) (size more : Phrase) (fine other : Stmts) → arithmetic s ts r size fine ≡ arithmetic u us q more other → s ≡ u
  arithmetic_sum s u ts us r q size more fine other e = cc

  behind_numeric : (done : List Part) (first : List ℕ) (counts : List (Option ℤ)) (m : Moment) (s : Sum) (ts : List Target) → IsBehindOperands s ts done → PassesParts p.layout (handled p a x) done (at_first first counts) m
      → are_numeric p.layout first (items_in s) ≡ true
  behind_numeric done first counts m s ts b passed =
      (read_first p.layout (handled p a x) (items_in s) (divides (divisors_of s ts) ++ b.behind) (at_first first counts) m refl
      (subst (λ (xs : List Part). PassesParts p.layout (handled p a x) xs (at_first first counts) m) b.split passed)).numeric

  behind_divisors : (done : List Part) (first : List ℕ) (counts : List (Option ℤ)) (m : Moment) (s : Sum) (ts : List Target) → IsBehindOperands s ts done → PassesParts p.layout (handled p a x) done (at_first first counts) m
      → m.by_zero ≡ false → list_all (divides_by (worth p.layout first)) (divisors_of s ts) ≡ true
  behind_divisors done first counts m s ts b passed z =
      let r = read_first p.layout (handled p a x) (items_in s) (divides (divisors_of s ts) ++ b.behind) (at_first first counts) m refl
      (subst (λ (xs : List Part). PassesParts p.layout (handled p a x) xs (at_first first counts) m) b.split passed) in
      subst (λ (bytes : List ℕ). list_all (divides_by (worth p.layout bytes)) (divisors_of s ts) ≡ true) r.first
      (divisors_count p.layout (handled p a x) (divisors_of s ts) b.behind r.next m r.passes z)

  -- a writer's operands were read
  numeric_operands : (done : List Part) (first : List ℕ) (counts : List (Option ℤ)) (m : Moment) (y : Part) → writes y ≡ true → IsInPlace statement a x done y → PassesParts p.layout (handled p a x) done (at_first first counts) m
      → (s : Sum) (ts : List Target) (r : Option ℕ) (size : Phrase) (fine : Stmts) → a ≡ arithmetic s ts r size fine → are_numeric p.layout first (items_in s) ≡ true
  numeric_operands done first counts m (store place mode (computed u h)) w q passed s ts r size fine e =
      let k = q.arithmetic in
      same_sum_numeric first s u (arithmetic_sum s u ts k.targets r k.remainder size k.size fine k.fine (sym e ∙ k.act)) (behind_numeric done first counts m u k.targets q.operands passed)
  numeric_operands done first counts m (store place mode (remaining u scale)) w q passed s ts r size fine e =
      let k = q.arithmetic in
      same_sum_numeric first s u (arithmetic_sum s u ts k.targets r k.remainder size k.size fine k.fine (sym e ∙ k.act)) (behind_numeric done first counts m u k.targets q.operands passed)
  numeric_operands done first counts m (store place mode (moved y)) w q passed s ts r size fine e = absurd (subst (λ (b : Act). Moves b x y) e q.0)
  numeric_operands done first counts m (store place mode (augmented y)) w q passed s ts r size fine e = absurd (subst (λ (b : Act). Augments b x y) e q.0)
  numeric_operands done first counts m (bytes_in offset count) w q passed s ts r size fine e = absurd (q s ts r size fine e)
  numeric_operands done first counts m (set_count n y) w q passed s ts r size fine e = absurd (subst (λ (b : Act). Counts b x y) e q.1)
  numeric_operands done first counts m (read place) w q passed s ts r size fine e = absurd cc
  numeric_operands done first counts m unread w q passed s ts r size fine e = absurd cc
  numeric_operands done first counts m (subscript last k) w q passed s ts r size fine e = absurd cc
  numeric_operands done first counts m (index last k count) w q passed s ts r size fine e = absurd cc
  numeric_operands done first counts m (divide d) w q passed s ts r size fine e = absurd cc
  numeric_operands done first counts m (guard v wanted) w q passed s ts r size fine e = absurd cc
  numeric_operands done first counts m (read_count n) w q passed s ts r size fine e = absurd cc
  numeric_operands done first counts m (count_down n) w q passed s ts r size fine e = absurd cc
  numeric_operands done first counts m (guard_count n wanted) w q passed s ts r size fine e = absurd cc

  -- ---- operands are taken

  pub record TakenAt (done : List Part) (t : Seen) (m : Moment) : Type 0 where
    pub sound : IsSoundEdge p statement a x
    pub counts : List (Option ℤ)
    pub passed : PassesParts p.layout (handled p a x) done (run.beginning m.first counts) m
    pub stands : StandsIn p t.cells (storage m.storage m.counts)
    pub written : t.written ≡ true
    pub took : OperandsHold p statement a x m.first t.common
    pub taken : (cells : List Known) × (t.common ≡ edge_operands (range_at p cells) a x)
    pub zero : m.by_zero ≡ true → t.may_zero ≡ true
    pub fails : m.failed ≡ true → m.by_zero ≡ false → t.any_fail ≡ true
    pub all_fail : m.by_zero ≡ true → list_any is_store done ≡ true → t.any_fail ≡ true

  pub taken_at : Given → (done : List Part) (y : Part) (s : Seen) (m : Moment) → writes y ≡ true → IsInPlace statement a x done y → Agrees p statement a x done s m → TakenAt done (with_taken p a x s) m
  taken_at given done y s m w q g = by_written s.written refl
    where
      first_stands : s.written ≡ false → StandsIn p s.cells (storage m.first m.counts)
      first_stands e = subst (λ (bytes : List ℕ). StandsIn p s.cells (storage bytes m.counts)) (g.fresh e) g.stands

      by_written : (b : Bool) → s.written ≡ b → TakenAt done (if b then s else taking p a x s) m
      by_written true e = record {
        sound = g.sound;
        counts = g.counts;
        passed = g.passed;
        stands = g.stands;
        written = e;
        took = g.took e;
        taken = g.taken e;
        zero = g.zero;
        fails = g.fails;
        all_fail = g.all_fail;
      }
      by_written false e = record {
        sound = g.sound;
        counts = g.counts;
        passed = g.passed;
        stands = g.stands;
        written = refl;
        took = given.operands_ p statement a x s.cells m.first m.counts g.sound.items (first_stands e) (numeric_operands done m.first g.counts m y w q g.passed);
        taken = (s.cells, refl);
        zero = λ f. or_left s.may_zero (handled p a x && operands_vanish (range_at p s.cells) a) (g.zero f);
        fails = g.fails;
        all_fail = g.all_fail;
      }

  -- behind a part that writes
  pub written_agrees : (done : List Part) (y : Part) (t u : Seen) (m n : Moment) → TakenAt done t m → PassesPart p.layout (handled p a x) y m n → writes y ≡ true
      → n.first ≡ m.first → n.by_zero ≡ m.by_zero → StandsIn p u.cells (storage n.storage n.counts) → u.written ≡ true → u.common ≡ t.common → (t.may_zero ≡ true → u.may_zero ≡ true)
      → (n.failed ≡ true → n.by_zero ≡ false → u.any_fail ≡ true) → (n.by_zero ≡ true → list_any is_store (done ++ y ∷ []) ≡ true → u.any_fail ≡ true)
      → Agrees p statement a x (done ++ y ∷ []) u n
  written_agrees done y t u m n g h w first z stands written common zeros fails all_fail = record {
    sound = g.sound;
    counts = g.counts;
    passed = subst (λ (bytes : List ℕ). PassesParts p.layout (handled p a x) (done ++ y ∷ []) (run.beginning bytes g.counts) n) (sym first)
        (passes_snoc p.layout (handled p a x) done y (run.beginning m.first g.counts) m n g.passed h);
    stands = stands;
    fresh = λ e. absurd cc;
    unwritten = λ e. absurd (last_isnt writes done y e w);
    took = λ e. subst (λ (bytes : List ℕ). OperandsHold p statement a x bytes u.common) (sym first) (subst (λ (c : Option Taken). OperandsHold p statement a x m.first c) (sym common) g.took);
    taken = λ e. (g.taken.0, common ∙ g.taken.1);
    zero = λ e. zeros (g.zero (sym z ∙ e));
    fails = fails;
    all_fail = all_fail;
  }
    where
      last_isnt : (f : Part → Bool) (xs : List Part) (y : Part) → list_any f (xs ++ y ∷ []) ≡ false → f y ≡ true → ⊥
      last_isnt f [] y e k = alone (f y) e k
        where
          alone : (b : Bool) → (b || false) ≡ false → b ≡ true → ⊥
          alone true e k = cc
          alone false e k = cc
      last_isnt f (z ∷ xs) y e k = last_isnt f xs y (rest (f z) e) k
        where
          rest : (b : Bool) → (b || list_any f (xs ++ y ∷ [])) ≡ false → list_any f (xs ++ y ∷ []) ≡ false
          rest true e = absurd cc
          rest false e = e

  -- ---- amounts

  -- the sender is a number
  pub sent_there : (done : List Part) (first : List ℕ) (counts : List (Option ℤ)) (m : Moment) (y : Sender) → IsBehindSender y done → PassesParts p.layout (handled p a x) done (at_first first counts) m → is_some (number_of p.layout first y) ≡ true
  sent_there done first counts m y b passed = go y (subst (λ (xs : List Part). PassesParts p.layout (handled p a x) xs (at_first first counts) m) b.split passed)
    where
      alone : (c : Bool) → (c && true) ≡ true → c ≡ true
      alone true e = refl
      alone false e = absurd cc

      text_there : (c : Bool) (rest : List Part) → PassesParts p.layout (handled p a x) ((if c then [] else unread ∷ []) ++ rest) (at_first first counts) m → c ≡ true
      text_there true rest h = refl
      text_there false rest h = absurd h.1.0

      go : (y : Sender) → PassesParts p.layout (handled p a x) (number_reads y ++ b.behind) (at_first first counts) m → is_some (number_of p.layout first y) ≡ true
      go (sender.Item place) h = alone (is_some (number_at p.layout first place)) (read_first p.layout (handled p a x) (place ∷ []) b.behind (at_first first counts) m refl h).numeric
      go (sender.Number n) h = refl
      go (sender.Text text) h = text_there (is_some (number_in (form.Text (length text)) text)) b.behind h
      go (sender.Fill byte) h = absurd h.1.0
      go sender.Zero h = refl

  mapped_there : {A B : Type 0} (f : A → B) (o : Option A) → is_some o ≡ true → is_some (option_map f o) ≡ true
  mapped_there f None e = e
  mapped_there f (Some c) e = refl

  -- an amount has a value where no divisor was 0, a remainder where it is a quotient's
  abbrev pub HasRoot : Amount → Type 0
  HasRoot (remaining s scale) = is_some (root_of s) ≡ true
  HasRoot y = Unit {0}

  pub amount_there : (done : List Part) (place : ℕ) (y : Amount) (t : Seen) (m : Moment) → TakenAt done t m → IsStored a x done place y → m.by_zero ≡ false → HasRoot y → is_some (amount p.layout m y) ≡ true
  amount_there done place (computed s h) t m g q z r = q.some (worth p.layout m.first) m.own (behind_divisors done m.first g.counts m s q.arithmetic.targets q.operands g.passed z)
  amount_there done place (remaining s scale) t m g q z r = q.some (worth p.layout m.first) scale r (behind_divisors done m.first g.counts m s q.arithmetic.targets q.operands g.passed z)
  amount_there done place (moved y) t m g q z r = mapped_there value_of (number_of p.layout m.first y) (sent_there done m.first g.counts m y q.1 g.passed)
  amount_there done place (augmented y) t m g q z r = mapped_there _ (number_of p.layout m.first y) (sent_there done m.first g.counts m y q.1 g.passed)

  -- the receiver's own number lies in its range
  own_holds : (done : List Part) (place : ℕ) (t : Seen) (m : Moment) → TakenAt done t m → EndsWithRead done place → m.by_zero ≡ false → IsIn m.own (range_at p t.cells place)
  own_holds done place t m g e z = last e.before (run.beginning m.first g.counts) (subst (λ (xs : List Part). PassesParts p.layout (handled p a x) xs (run.beginning m.first g.counts) m) e.split g.passed)
    where
      read_last : (k : Moment) (b : Bool) → k.by_zero ≡ b → ReadsAt p.layout b place k m → IsIn m.own (range_at p t.cells place)
      read_last k true f h = absurd (let zeros : m.by_zero ≡ k.by_zero = ap (λ (j : Moment). j.by_zero) h in cc)
      read_last k false f (v, number, same) =
          number_holds p g.sound.items t.cells (storage m.storage m.counts) g.stands place m.own
          (subst (λ (j : Moment). number_at p.layout j.storage place ≡ Some j.own) (sym same) number)

      last : (xs : List Part) (k : Moment) → PassesParts p.layout (handled p a x) (xs ++ read place ∷ []) k m → IsIn m.own (range_at p t.cells place)
      last [] k (next, h, same) = read_last k k.by_zero refl (subst (λ (j : Moment). ReadsAt p.layout k.by_zero place k j) (sym same) h.0)
      last (y ∷ xs) k (next, h, hs) = last xs next hs

  -- the amount of a store is one of the edge's
  pub its_amount : (done : List Part) (place : ℕ) (y : Amount) → IsStored a x done place y → edge_amount a x ≡ Some (of_operands y)
  its_amount done place (computed s h) q = ap (λ (b : Act). edge_amount b x) q.arithmetic.act
  its_amount done place (remaining s scale) q = ap (λ (b : Act). edge_amount b x) q.arithmetic.act
  its_amount done place (moved y) q = moves_amount a x y q.0
    where
      moves_amount : (a : Act) (x : Action) (y : Sender) → Moves a x y → edge_amount a x ≡ Some (moved y)
      moves_amount (move z places) x y (e, f) = ap (λ (k : Sender). Some (moved k)) e
      moves_amount (perform body (varying after item start by v)) x y (e, f) = subst (λ (k : Action). edge_amount (perform body (varying after item start by v)) k ≡ Some (moved y)) (sym f) (ap (λ (k : Sender). Some (moved k)) e)
      moves_amount (perform body once) x y k = absurd k
      moves_amount (perform body (times z)) x y k = absurd k
      moves_amount (perform body (until after v)) x y k = absurd k
      moves_amount (write r (Some z)) x y (e, f) = ap (λ (k : Sender). Some (moved k)) e
      moves_amount (write r None) x y k = absurd k
      moves_amount (arithmetic s ts r size fine) x y k = absurd k
      moves_amount (if_ v held other) x y k = absurd k
      moves_amount (evaluate ws other) x y k = absurd k
      moves_amount (go_to n) x y k = absurd k
      moves_amount nothing x y k = absurd k
      moves_amount stop x y k = absurd k
      moves_amount (open_files os) x y k = absurd k
      moves_amount (close_files fs) x y k = absurd k
      moves_amount (reading f into end fine) x y k = absurd k
      moves_amount (show xs) x y k = absurd k
  its_amount done place (augmented y) q = augments_amount a x y q.0
    where
      edge_is : (body : _) (after : _) (item : ℕ) (start by : Sender) (v : _) (x : Action) → (x ≡ action.Done) ⊎ (x ≡ action.Size) → edge_amount (perform body (varying after item start by v)) x ≡ Some (augmented by)
      edge_is body after item start by v x (inl f) = ap (edge_amount (perform body (varying after item start by v))) f
      edge_is body after item start by v x (inr f) = ap (edge_amount (perform body (varying after item start by v))) f

      augments_amount : (a : Act) (x : Action) (y : Sender) → Augments a x y → edge_amount a x ≡ Some (augmented y)
      augments_amount (perform body (varying after item start by v)) x y (e, f) = edge_is body after item start by v x f ∙ ap (λ (k : Sender). Some (augmented k)) e
      augments_amount (perform body once) x y k = absurd k
      augments_amount (perform body (times z)) x y k = absurd k
      augments_amount (perform body (until after v)) x y k = absurd k
      augments_amount (move z places) x y k = absurd k
      augments_amount (write r from) x y k = absurd k
      augments_amount (arithmetic s ts r size fine) x y k = absurd k
      augments_amount (if_ v held other) x y k = absurd k
      augments_amount (evaluate ws other) x y k = absurd k
      augments_amount (go_to n) x y k = absurd k
      augments_amount nothing x y k = absurd k
      augments_amount stop x y k = absurd k
      augments_amount (open_files os) x y k = absurd k
      augments_amount (close_files fs) x y k = absurd k
      augments_amount (reading f into end fine) x y k = absurd k
      augments_amount (show xs) x y k = absurd k

  -- so is that of a counter's setting
  pub counts_amount : (a : Act) (x : Action) (y : Sender) → Counts a x y → edge_amount a x ≡ Some (moved y)
  counts_amount (perform body (times z)) x y (e, f) = subst (λ (k : Action). edge_amount (perform body (times z)) k ≡ Some (moved y)) (sym f) (ap (λ (k : Sender). Some (moved k)) e)
  counts_amount (perform body once) x y k = absurd k
  counts_amount (perform body (until after v)) x y k = absurd k
  counts_amount (perform body (varying after item start by v)) x y k = absurd k
  counts_amount (move z places) x y k = absurd k
  counts_amount (write r from) x y k = absurd k
  counts_amount (arithmetic s ts r size fine) x y k = absurd k
  counts_amount (if_ v held other) x y k = absurd k
  counts_amount (evaluate ws other) x y k = absurd k
  counts_amount (go_to n) x y k = absurd k
  counts_amount nothing x y k = absurd k
  counts_amount stop x y k = absurd k
  counts_amount (open_files os) x y k = absurd k
  counts_amount (close_files fs) x y k = absurd k
  counts_amount (reading f into end fine) x y k = absurd k
  counts_amount (show xs) x y k = absurd k

  -- what the receiver gets is among what is known of it
  pub amount_meant : (done : List Part) (place : ℕ) (y : Amount) (t : Seen) (m : Moment) → TakenAt done t m → IsStored a x done place y → m.by_zero ≡ false → (v : Fraction) → amount p.layout m y ≡ Some v
      → IsSomeAnd (amount_at p a x t place y) (λ r. IsAmount r v)
  amount_meant done place y t m g q z v e =
      then_holds (λ (c : Taken). IsSomeAnd (amount_of y (range_at p t.cells place) c) (λ r. IsAmount r v)) (λ r. IsAmount r v) t.common (amount_of y (range_at p t.cells place)) (by_kind y q e) (λ c h. h)
    where
      -- where the receiver's own number isn't asked for
      any_own : Moment
      any_own = with_own m (decimal (range_at p t.cells place).units.low (range_at p t.cells place).scale)

      any_in : IsIn any_own.own (range_at p t.cells place)
      any_in = record { held = (omega (arith, ints), range_is_ordered p g.sound.items t.cells (storage m.storage m.counts) g.stands place); scale = refl }

      by_how : (s : Sum) (h : How) → IsComputed a x done place s h → amount p.layout m (computed s h) ≡ Some v → IsSomeAnd t.common (λ c. IsSomeAnd (amount_of (computed s h) (range_at p t.cells place) c) (λ r. IsAmount r v))
      by_how s how.Whole k f = g.took any_own (computed s how.Whole) (range_at p t.cells place) v refl (its_amount done place (computed s how.Whole) k) any_in f
      by_how s how.Plus k f = g.took m (computed s how.Plus) (range_at p t.cells place) v refl (its_amount done place (computed s how.Plus) k) (own_holds done place t m g (k.own (λ u. cc)) z) f
      by_how s how.Minus k f = g.took m (computed s how.Minus) (range_at p t.cells place) v refl (its_amount done place (computed s how.Minus) k) (own_holds done place t m g (k.own (λ u. cc)) z) f
      by_how s how.Times k f = g.took m (computed s how.Times) (range_at p t.cells place) v refl (its_amount done place (computed s how.Times) k) (own_holds done place t m g (k.own (λ u. cc)) z) f
      by_how s how.Under k f = g.took m (computed s how.Under) (range_at p t.cells place) v refl (its_amount done place (computed s how.Under) k) (own_holds done place t m g (k.own (λ u. cc)) z) f

      by_kind : (y : Amount) → IsStored a x done place y → amount p.layout m y ≡ Some v → IsSomeAnd t.common (λ c. IsSomeAnd (amount_of y (range_at p t.cells place) c) (λ r. IsAmount r v))
      by_kind (computed s h) k f = by_how s h k f
      by_kind (remaining s scale) k f = g.took any_own (remaining s scale) (range_at p t.cells place) v refl (its_amount done place (remaining s scale) k) any_in f
      by_kind (moved u) k f = g.took any_own (moved u) (range_at p t.cells place) v refl (its_amount done place (moved u) k) any_in f
      by_kind (augmented u) k f = g.took m (augmented u) (range_at p t.cells place) v refl (its_amount done place (augmented u) k) (own_holds done place t m g k.2 z) f

-- ---- bytes are stored

-- what lies in an item's own range has room in it
pub has_room : (f : Form) (i : Interval) (z : ℤ) → takes_number f ≡ true → KnownFits (form_range f) (Some i) → Holds i z → unsigned_abs z < 10 ^ digits_of f
has_room form.Group i z e k h = absurd cc
has_room (form.Text n) i z e k h = absurd cc
has_room (form.Number digits scale true kept) i z e (l, o, m) (b, c) = signed_room (10 ^ digits) i z (ten_positive digits) l m b c
  where
    signed_room : (n : ℕ) (i : Interval) (z : ℤ) → 1 ≤ n → neg_ℤ (pos (n - 1)) ≤ℤ i.low → i.high ≤ℤ pos (n - 1) → i.low ≤ℤ z → z ≤ℤ i.high → unsigned_abs z < n
    signed_room n i z one l m b c = omega (arith, ints, one, l, m, b, c)
has_room (form.Number digits scale false kept) i z e (l, o, m) (b, c) = plain_room (10 ^ digits) i z (ten_positive digits) l m b c
  where
    plain_room : (n : ℕ) (i : Interval) (z : ℤ) → 1 ≤ n → pos 0 ≤ℤ i.low → i.high ≤ℤ pos (n - 1) → i.low ≤ℤ z → z ≤ℤ i.high → unsigned_abs z < n
    plain_room n i z one l m b c = omega (arith, ints, one, l, m, b, c)
has_room (form.Edited picture digits scale) i z e (l, o, m) (b, c) = plain_room (10 ^ digits) i z (ten_positive digits) l m b c
  where
    plain_room : (n : ℕ) (i : Interval) (z : ℤ) → 1 ≤ n → pos 0 ≤ℤ i.low → i.high ≤ℤ pos (n - 1) → i.low ≤ℤ z → z ≤ℤ i.high → unsigned_abs z < n
    plain_room n i z one l m b c = omega (arith, ints, one, l, m, b, c)

-- the number that is read back lies there too
back_holds : (digits : ℕ) (signed : Bool) (i : Interval) (z : ℤ) → KnownFits (picture_range digits signed) (Some i) → Holds i z → Holds i (if signed then z else pos (unsigned_abs z))
back_holds digits true i z k h = h
back_holds digits false i z (l, o, m) (b, c) = let same : pos (unsigned_abs z) ≡ z = omega (arith, ints, l, b) in subst (λ (w : ℤ). Holds i w) (sym same) (b, c)

-- An item's occurrence holds the number, as it is read back. Its other occurrences keep theirs, and so do items that have
-- none of its bytes.
pub record IsItemFilled (l : Layout) (place n : ℕ) (z : ℤ) (before held : List ℕ) (counts : List (Option ℤ)) : Type 0 where
  pub same_length : length (occurrence_filled l before place n held) ≡ length before
  pub others : (h : Home) → is_beside l place h ≡ false → (m : ℕ) → m < occurrences_of l h
      → value_at l (storage (occurrence_filled l before place n held) counts) h m ≡ value_at l (storage before counts) h m
  pub siblings : (m : ℕ) → m < times_at l place → ¬ m ≡ n
      → value_at l (storage (occurrence_filled l before place n held) counts) (of_item place) m ≡ value_at l (storage before counts) (of_item place) m
  pub new : (digits scale : ℕ) (signed : Bool) (usage : Usage) → form_at l place ≡ form.Number digits scale signed usage
      → value_at l (storage (occurrence_filled l before place n held) counts) (of_item place) n ≡ Some (if signed then z else pos (unsigned_abs z))

pub item_is_filled : (l : Layout) (place n : ℕ) (z : ℤ) (before held : List ℕ) (counts : List (Option ℤ)) → HasSoundItems l → n < times_at l place → takes_number (form_at l place) ≡ true
    → unsigned_abs z < 10 ^ digits_of (form_at l place) → held ≡ bytes_of (form_at l place) z → length before ≡ l.storage → IsItemFilled l place n z before held counts
item_is_filled l place n z before held counts items less takes room is whole = by_item (item_at l place) refl
  where
    no_item : item_at l place ≡ None → ⊥
    no_item e = let none : form_at l place ≡ form.Group = ap (λ (o : Option Item). option_map_or (λ j. j.form) o form.Group) e in
        let f : takes_number form.Group ≡ true = subst (λ (k : Form). takes_number k ≡ true) none takes in cc

    by_item : (o : Option Item) → item_at l place ≡ o → IsItemFilled l place n z before held counts
    by_item None e = absurd (no_item e)
    by_item (Some j) e = record {
      same_length = filled_length l place j e extent n there before held counts long within;
      others = λ h apart. others_stay l place j e extent n there before held counts long within h apart;
      siblings = λ m below. siblings_stay l place j e extent n there before held counts long within m (subst (λ (k : ℕ). m < k) its_times below);
      new = λ digits scale signed usage k.
          held_value l place j e extent n there before held counts long within
          ∙ ap (contents_value (form_at l place)) is ∙ items.back place digits scale signed usage z k (subst (λ (f : Form). unsigned_abs z < 10 ^ digits_of f) k room);
    }
      where
        its_form : form_at l place ≡ j.form
        its_form = ap (λ (o : Option Item). option_map_or (λ k. k.form) o form.Group) e

        long : length held ≡ j.length
        long = ap length (is ∙ ap (λ (f : Form). bytes_of f z) its_form) ∙ items.whole place j z e (subst (λ (f : Form). takes_number f ≡ true) its_form takes) (subst (λ (f : Form). unsigned_abs z < 10 ^ digits_of f) its_form room)

        its_times : times_at l place ≡ j.times
        its_times = ap (λ (o : Option Item). option_map_or (λ k. k.times) o 1) e

        extent : IsExtent (extent_of j)
        extent = items.extent place j e

        there : n < j.times
        there = subst (λ (k : ℕ). n < k) its_times less

        within : LiesWithin (extent_of j) (length before)
        within = subst (LiesWithin (extent_of j)) (sym whole) (items.within place j e)

-- ---- a store

-- what is known of a table's item behind a store into one occurrence stands for those that stay, and for the new one
wider_stands : (old : Known) (i : Interval) (v : Option ℤ) → KnownStands old v → KnownStands (joined_known old (Some i)) v
wider_stands old i v h = stands_above old (joined_known old (Some i)) v (known_join_left old (Some i)) h

taken_stands : (old : Known) (i : Interval) (v : Option ℤ) → KnownStands (Some i) v → KnownStands (joined_known old (Some i)) v
taken_stands old i v h = stands_above (Some i) (joined_known old (Some i)) v (known_join_right old (Some i)) h

module _ (p : Program) (items : HasSoundItems p.layout) (place n : ℕ) (less : n < times_at p.layout place) (takes : takes_number (form_at p.layout place) ≡ true)
    (cells : List Known) (before : List ℕ) (counts : List (Option ℤ)) (i : Interval) (z : ℤ) (held : List ℕ) where
  abbrev behind : Storage
  behind = storage (occurrence_filled p.layout before place n held) counts

  abbrev old_known : Known
  old_known = known_of (homes_of p) cells (of_item place)

  module _ (fits : KnownFits (form_range (form_at p.layout place)) (Some i)) (holds : Holds i z) (is : held ≡ bytes_of (form_at p.layout place) z) (stands : StandsIn p cells (storage before counts)) where
    fill : IsItemFilled p.layout place n z before held counts
    fill = item_is_filled p.layout place n z before held counts items less takes (has_room (form_at p.layout place) i z takes fits holds) is stands.whole

    -- the occurrence that is new, and the others
    by_number : (c : Known) → KnownStands c (value_at p.layout behind (of_item place) n)
        → ((m : ℕ) → m < times_at p.layout place → ¬ m ≡ n → KnownStands c (value_at p.layout (storage before counts) (of_item place) m)) → HomeStands p.layout behind c (of_item place)
    by_number c own other m below = by (cases_eq m n)
      where
        by : (m ≡ n) ⊎ (m ≡ n → ⊥) → KnownStands c (value_at p.layout behind (of_item place) m)
        by (inl same) = subst (λ (k : ℕ). KnownStands c (value_at p.layout behind (of_item place) k)) (sym same) own
        by (inr differ) = subst (λ (v : Option ℤ). KnownStands c v) (sym (fill.siblings m below differ)) (other m below differ)

    number_known : (table : Bool) → is_table p.layout place ≡ table → KnownStands (Some i) (value_at p.layout behind (of_item place) n)
        → HomeStands p.layout behind (if table then joined_known old_known (Some i) else Some i) (of_item place)
    number_known true t own =
        by_number (joined_known old_known (Some i)) (taken_stands old_known i (value_at p.layout behind (of_item place) n) own)
        (λ m below differ. wider_stands old_known i (value_at p.layout (storage before counts) (of_item place) m) (stands.known (of_item place) m below))
    number_known false t own = by_number (Some i) own (λ m below differ. absurd (differ (let one = items.one place t in omega (arith, below, less, one))))

    new : (f : Form) → form_at p.layout place ≡ f → HomeStands p.layout behind (stored_known (is_table p.layout place) f old_known i) (of_item place)
    new form.Group k = λ m below. tt
    new (form.Text w) k = λ m below. tt
    new (form.Edited picture digits scale) k = λ m below. tt
    new (form.Number digits scale signed kept) k =
        number_known (is_table p.layout place) refl
        (subst (λ (v : Option ℤ). KnownStands (Some i) v) (sym (fill.new digits scale signed kept k))
        (back_holds digits signed i z (subst (λ (f : Form). KnownFits (form_range f) (Some i)) k fits) holds))

    -- storage behind a store of a number in the interval
    pub stored_stands : StandsIn p (stored_cells p place cells i) (storage (occurrence_filled p.layout before place n held) counts)
    stored_stands = record {
      whole = fill.same_length ∙ stands.whole;
      counted = stands.counted;
      known = home_set p (forgotten (is_beside p.layout place) (homes_of p) cells) behind (of_item place) (receiver_known p place cells i)
          (λ there. new (form_at p.layout place) refl)
          (λ h there d m below. known_left (λ k. KnownStands k (value_at p.layout behind h m)) tt (is_beside p.layout place) (homes_of p) cells h
          (λ apart. subst (λ (v : Option ℤ). KnownStands (known_of (homes_of p) cells h) v) (sym (fill.others h apart m below)) (stands.known h m below)));
    }
