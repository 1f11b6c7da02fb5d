-- An edge that keeps its receiver: the only store is its last part, and fails there.
use Rattle.std.proofs.Common.{◌≡◌, ℕ, Bool, true, false, ◌||◌, if◌then◌else◌, inl, inr, List, [], ◌∷◌, ◌++◌, Option, Some, None, refl, sym, ap, subst, ◌∙◌}
use Rattle.std.specs.List.{list_any}
use Rattle.std.proofs.lemmas.Bool.{or_parts}
use Rattle.std.proofs.lemmas.List.{append_assoc, append-nil}
use Rattle.cob_tree.specs.declared.fault.Kind.{Kind}
use Rattle.cob_data.specs.declared.layout.Layout.{Layout}
use Rattle.cob_program.specs.declared.act.How.{How}
use Rattle.cob_program.specs.declared.act.How.TheVariants as how
use Rattle.cob_program.specs.declared.act.Target.{Target}
use Rattle.cob_program.specs.Sum.{Sum, Atom}
use Rattle.cob_program.specs.Act.{Act, move, arith as arithmetic, if_, evaluate, perform, go as go_to, nothing, stop, open_files, close_files, read as reading, write, show, Program}
use Rattle.cob_runs.specs.declared.action.Action.{Action}
use Rattle.cob_runs.specs.declared.action.Action.TheVariants as action
use Rattle.cob_runs.specs.Computing.{items_in, worth}
use Rattle.cob_edge_parts.specs.Parts.{Amount, moved, computed, remaining, augmented, Part, read, unread, subscript, index, divide, store, bytes_in, guard, read_count, set_count, count_down, guard_count, item_reads, divides, divisors_of, own_reads, arith_parts, compute_parts, parts_of, is_handled}
use Rattle.cob_edge_parts.specs.Meaning.{Moment, divided_by_zero, divides_by, is_left_alone, skipped, stored_bytes, stored_or_kept, Divides, Passes}
use Rattle.cob_edge_parts.specs.Edges.{fault_edge}
use Rattle.cob_edge_parts.specs.Counters.{PassesParts, MeetsAmong}
use Rattle.dom_laws.specs.Walking.{PassesAll, Meets}
use Rattle.cell_steps.specs.Stores.{has_one_receiver, handled, keeps_receiver}
use Rattle.cell_steps.specs.Agreeing.{is_store, FailsAt, walking}
use Rattle.cob_edge_parts.proofs.Subscripts.{subscript_leaves, index_leaves}
use Rattle.cell_laws.proofs.PartsDone.{both_true}
use Rattle.cell_laws.proofs.QuietParts.{read_moment}

-- ---- its parts

pub record EndsInStore (ys : List Part) : Type 0 where
  pub front : List Part
  pub last : Part
  pub split : ys ≡ front ++ last ∷ []
  -- no other part is a store
  pub none : list_any is_store front ≡ false

-- what is read and divided for a receiver stores nothing
none_stored : (places : List ℕ) (atoms : List Atom) (h : How) (place : ℕ) → list_any is_store (item_reads places ++ (divides atoms ++ own_reads h place)) ≡ false
none_stored [] [] how.Whole place = refl
none_stored [] [] how.Plus place = refl
none_stored [] [] how.Minus place = refl
none_stored [] [] how.Times place = refl
none_stored [] [] how.Under place = refl
none_stored [] (d ∷ atoms) h place = none_stored [] atoms h place
none_stored (q ∷ places) atoms h place = none_stored places atoms h place

last_apart : (xs ys zs : List Part) (y : Part) → xs ++ (ys ++ (((zs ++ y ∷ []) ++ []) ++ [])) ≡ (xs ++ (ys ++ zs)) ++ y ∷ []
last_apart xs ys zs y =
    ap (λ ws. xs ++ (ys ++ ws)) (append-nil ((zs ++ y ∷ []) ++ []) ∙ append-nil (zs ++ y ∷ []))
    ∙ (ap (λ ws. xs ++ ws) (sym (append_assoc ys zs (y ∷ []))) ∙ sym (append_assoc xs (ys ++ zs) (y ∷ [])))

target_is_last : (l : Layout) (s : Sum) (t : Target) → EndsInStore (arith_parts l s (t ∷ []) None)
target_is_last l s t = record {
  front = item_reads (items_in s) ++ (divides (divisors_of s (t ∷ [])) ++ own_reads t.how t.item);
  last = store t.item t.mode (computed s t.how);
  split = last_apart (item_reads (items_in s)) (divides (divisors_of s (t ∷ []))) (own_reads t.how t.item) (store t.item t.mode (computed s t.how));
  none = none_stored (items_in s) (divisors_of s (t ∷ [])) t.how t.item;
}

module _ (p : Program) (statement : ℕ) where
  of_one : (a : Act) → has_one_receiver a ≡ true → EndsInStore (compute_parts p statement a)
  of_one (arithmetic s (t ∷ []) None size fine) e = target_is_last p.layout s t
  of_one (arithmetic s (t ∷ []) (Some r) size fine) e = absurd cc
  of_one (arithmetic s (t ∷ u ∷ us) r size fine) e = absurd cc
  of_one (arithmetic s [] r size fine) e = absurd cc
  of_one (move y places) e = absurd cc
  of_one (if_ v held other) e = absurd cc
  of_one (evaluate ws other) e = absurd cc
  of_one (perform body turns) e = absurd cc
  of_one (go_to n) e = absurd cc
  of_one nothing e = absurd cc
  of_one stop e = absurd cc
  of_one (open_files os) e = absurd cc
  of_one (close_files fs) e = absurd cc
  of_one (reading f into end fine) e = absurd cc
  of_one (write w from) e = absurd cc
  of_one (show xs) e = absurd cc

  by_edge : (a : Act) (x : Action) → is_handled a x ≡ true → has_one_receiver a ≡ true → EndsInStore (parts_of p statement a x)
  by_edge a action.Size on one = of_one a one
  by_edge a action.Skip on one = absurd cc
  by_edge a action.Assign on one = absurd cc
  by_edge a action.Done on one = absurd cc
  by_edge a (action.True k) on one = absurd cc
  by_edge a (action.False k) on one = absurd cc
  by_edge a action.SetCount on one = absurd cc
  by_edge a action.Down on one = absurd cc
  by_edge a (action.Open k) on one = absurd cc
  by_edge a (action.Close k) on one = absurd cc
  by_edge a action.Take on one = absurd cc
  by_edge a action.AtEnd on one = absurd cc
  by_edge a (action.Bad k) on one = absurd cc
  by_edge a action.Write on one = absurd cc
  by_edge a action.Show on one = absurd cc

  its_store_is_last : (a : Act) (x : Action) → keeps_receiver a x ≡ true → EndsInStore (parts_of p statement a x)
  its_store_is_last a x e =
      let two = both_true (is_handled a x) (has_one_receiver a) e in
      by_edge a x two.0 two.1

-- ---- what has failed

module _ (l : Layout) where
  -- Before the first store nothing fails but by a divisor that is 0.
  record ByZero (m : Moment) : Type 0 where
    zero : m.failed ≡ true → m.by_zero ≡ true

  same_zero : (m n : Moment) → n.failed ≡ m.failed → n.by_zero ≡ m.by_zero → ByZero m → ByZero n
  same_zero m n e f z = record { zero = λ k. f ∙ z.zero (sym e ∙ k) }

  moment_zero : (m n : Moment) → n ≡ m → ByZero m → ByZero n
  moment_zero m n e z = same_zero m n (ap (λ (k : Moment). k.failed) e) (ap (λ (k : Moment). k.by_zero) e) z

  divide_zero : (d : Atom) (m n : Moment) → Divides l true d m n → ByZero m → ByZero n
  divide_zero d m n e z = go (divides_by (worth l m.first) d) e
    where
      go : (b : Bool) → n ≡ (if b then m else divided_by_zero m) → ByZero n
      go true k = moment_zero m n k z
      go false k = record { zero = λ f. ap (λ (j : Moment). j.by_zero) k }

  zero_stays : (y : Part) (m n : Moment) → is_store y ≡ false → Passes l true y m n → ByZero m → ByZero n
  zero_stays (read place) m n e h z =
      let same = read_moment l m.by_zero place m n h in
      same_zero m n same.failed same.zero z
  zero_stays unread m n e h z = absurd h
  zero_stays (subscript last k) m n e h z = moment_zero m n (subscript_leaves l (skipped last m) k m n h) z
  zero_stays (index last k count) m n e h z = moment_zero m n (index_leaves l (skipped last m) k count m n h) z
  zero_stays (divide d) m n e h z = divide_zero d m n h z
  zero_stays (store place mode y) m n e h z = absurd cc
  zero_stays (bytes_in offset count) m n e h z = same_zero m n (ap (λ (k : Moment). k.failed) h.1) (ap (λ (k : Moment). k.by_zero) h.1) z
  zero_stays (guard t wanted) m n e h z = moment_zero m n h.1 z
  zero_stays (read_count k) m n e h z = same_zero m n (ap (λ (k : Moment). k.failed) h.2) (ap (λ (k : Moment). k.by_zero) h.2) z
  zero_stays (set_count k y) m n e h z = same_zero m n (ap (λ (k : Moment). k.failed) h.2) (ap (λ (k : Moment). k.by_zero) h.2) z
  zero_stays (count_down k) m n e h z = same_zero m n (ap (λ (k : Moment). k.failed) h) (ap (λ (k : Moment). k.by_zero) h) z
  zero_stays (guard_count k wanted) m n e h z = moment_zero m n h.3 z

  not_by_zero : (y : Amount) (m : Moment) → is_left_alone m y ≡ false → m.by_zero ≡ false
  not_by_zero (computed s k) m e = e
  not_by_zero (moved k) m e = e
  not_by_zero (augmented k) m e = e
  not_by_zero (remaining s scale) m e = front m.by_zero e
    where
      front : (b : Bool) → (b || m.failed) ≡ false → b ≡ false
      front true f = absurd cc
      front false f = refl

  -- a store behind which a receiver has failed
  last_fails : (y : Part) (m n : Moment) → ByZero m → n.failed ≡ true → Passes l true y m n → FailsAt l y m
  last_fails (store place mode y) m n z f h = by_alone (is_left_alone m y) refl h
    where
      by_bytes : m.by_zero ≡ false → (o : Option (List ℕ)) → stored_bytes l m place mode y ≡ o → n ≡ stored_or_kept l m place o → FailsAt l (store place mode y) m
      by_bytes unzero None e k = inr e
      by_bytes unzero (Some held) e k =
          let divided : m.by_zero ≡ true = z.zero (sym (ap (λ (j : Moment). j.failed) k) ∙ f) in
          absurd cc

      by_alone : (b : Bool) → is_left_alone m y ≡ b → n ≡ (if b then m else stored_or_kept l m place (stored_bytes l m place mode y)) → FailsAt l (store place mode y) m
      by_alone true e k = inl e
      by_alone false e k = by_bytes (not_by_zero y m e) (stored_bytes l m place mode y) refl k
  last_fails y m n z f h = tt

  others_fail : (y : Part) (m : Moment) → is_store y ≡ false → FailsAt l y m
  others_fail (store place mode y) m e = absurd cc
  others_fail y m e = tt

-- ---- along an edge

module _ (p : Program) (statement : ℕ) (a : Act) (x : Action) where
  -- where it keeps no receiver

  passes_freely : keeps_receiver a x ≡ false → (ys : List Part) (m n : Moment) → PassesParts p.layout (handled p a x) ys m n → PassesAll (walking p statement a x) ys m n
  passes_freely off [] m n e = e
  passes_freely off (y ∷ ys) m n (next, h, hs) = (next, (h, λ on. absurd cc), passes_freely off ys next n hs)

  meets_freely : keeps_receiver a x ≡ false → fault_edge a x ≡ x → (ys : List Part) (m : Moment) (fault : Kind) → MeetsAmong p.layout (handled p a x) ys m fault → Meets (walking p statement a x) ys m fault
  meets_freely off its [] m fault h = h
  meets_freely off its (y ∷ ys) m fault (inl f) = inl (its, f)
  meets_freely off its (y ∷ ys) m fault (inr (next, h, hs)) = inr (next, (h, λ on. absurd cc), meets_freely off its ys next fault hs)

  -- where it keeps one

  passes_to_last : handled p a x ≡ true → (front : List Part) (last : Part) (m n : Moment) → list_any is_store front ≡ false → ByZero p.layout m → n.failed ≡ true
      → PassesParts p.layout (handled p a x) (front ++ last ∷ []) m n → PassesAll (walking p statement a x) (front ++ last ∷ []) m n
  passes_to_last on [] last m n none z f (next, h, hs) =
      (next, (h, λ keeps. last_fails p.layout last m next z (sym (ap (λ (j : Moment). j.failed) hs) ∙ f) (subst (λ (b : Bool). Passes p.layout b last m next) on h.0)), hs)
  passes_to_last on (y ∷ ys) last m n none z f (next, h, hs) =
      let two = or_parts (is_store y) (list_any is_store ys) none in (
        next,
        (h, λ keeps. others_fail p.layout y m two.0),
        passes_to_last on ys last next n two.1 (zero_stays p.layout y m next two.0 (subst (λ (b : Bool). Passes p.layout b y m next) on h.0) z) f hs,
      )

  meets_to_last : fault_edge a x ≡ x → (front : List Part) (last : Part) (m : Moment) (fault : Kind) → list_any is_store front ≡ false
      → MeetsAmong p.layout (handled p a x) (front ++ last ∷ []) m fault → Meets (walking p statement a x) (front ++ last ∷ []) m fault
  meets_to_last its [] last m fault none (inl f) = inl (its, f)
  meets_to_last its [] last m fault none (inr (next, h, hs)) = absurd hs
  meets_to_last its (y ∷ ys) last m fault none (inl f) = inl (its, f)
  meets_to_last its (y ∷ ys) last m fault none (inr (next, h, hs)) =
      let two = or_parts (is_store y) (list_any is_store ys) none in
      inr (next, (h, λ keeps. others_fail p.layout y m two.0), meets_to_last its ys last next fault two.1 hs)

  -- any edge

  pub passes_walk : (m n : Moment) → m.failed ≡ false → n.failed ≡ handled p a x → PassesParts p.layout (handled p a x) (parts_of p statement a x) m n
      → PassesAll (walking p statement a x) (parts_of p statement a x) m n
  passes_walk m n unfailed failed h = by_keeping (keeps_receiver a x) refl
    where
      by_keeping : (b : Bool) → keeps_receiver a x ≡ b → PassesAll (walking p statement a x) (parts_of p statement a x) m n
      by_keeping false off = passes_freely off (parts_of p statement a x) m n h
      by_keeping true keeps =
          let on = (both_true (is_handled a x) (has_one_receiver a) keeps).0 in
          let ends = its_store_is_last p statement a x keeps in
          subst (λ (ys : List Part). PassesAll (walking p statement a x) ys m n) (sym ends.split)
          (passes_to_last on ends.front ends.last m n ends.none (record { zero = λ f. absurd cc }) (failed ∙ on)
          (subst (λ (ys : List Part). PassesParts p.layout (handled p a x) ys m n) ends.split h))

  pub meets_walk : (m : Moment) (fault : Kind) → fault_edge a x ≡ x → MeetsAmong p.layout (handled p a x) (parts_of p statement a x) m fault
      → Meets (walking p statement a x) (parts_of p statement a x) m fault
  meets_walk m fault its h = by_keeping (keeps_receiver a x) refl
    where
      by_keeping : (b : Bool) → keeps_receiver a x ≡ b → Meets (walking p statement a x) (parts_of p statement a x) m fault
      by_keeping false off = meets_freely off its (parts_of p statement a x) m fault h
      by_keeping true keeps =
          let ends = its_store_is_last p statement a x keeps in
          subst (λ (ys : List Part). Meets (walking p statement a x) ys m fault) (sym ends.split)
          (meets_to_last its ends.front ends.last m fault ends.none
          (subst (λ (ys : List Part). MeetsAmong p.layout (handled p a x) ys m fault) ends.split h))
