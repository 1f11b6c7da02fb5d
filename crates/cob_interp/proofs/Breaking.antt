-- Where a run may be broken off.
use Rattle.std.proofs.Common.{◌≡◌, ℕ, zero, suc, ◌+◌, ◌≤◌, Bool, true, false, List, [], ◌∷◌, ◌++◌, inl, inr, Option, Some, None, Result, Err, ◌⊎◌, length, take, refl, sym, ap, subst, ◌∙◌}
use Rattle.std.specs.Prelude.{slice_get}
use Rattle.std.specs.Option.{option_map_or}
use Rattle.std.specs.FinMap.{get}
use Rattle.std.specs.Io.KnownBytes.{append_known}
use Rattle.std.proofs.Math.Seq.{take-append-add}
use Rattle.batch_io.specs.Faults.{Rose}
use Rattle.batch_io.specs.FilesState.{Contents, known_bytes}
use Rattle.batch_io.specs.SinkState.{SinkState}
use Rattle.cob_program.specs.Act.{Act, Program}
use Rattle.cob_runs.specs.Files.{File}
use Rattle.cob_runs.specs.State.{World}
use Rattle.cob_runs.specs.Effects.{act_at}
use Rattle.cob_graph.specs.declared.graph.Graph.{Graph}
use Rattle.cob_graph.specs.declared.graph.Node.{Node}
use Rattle.cob_graph.specs.Lookup.{node_at}
use Rattle.cob_interp.specs.declared.ends.Ended.{Ended}
use Rattle.cob_interp.specs.declared.ends.RunEnd.{RunEnd}
use Rattle.cob_interp.specs.declared.ends.RunEnd.TheVariants as end
use Rattle.cob_interp.specs.Ends.{told_files, AreFree, state_after}
use Rattle.cob_interp.specs.Told.{seen, seen_file, seen_files, IsSynced, AreSynced, KeepsNames}
use Rattle.cob_interp.specs.Touching.{IsPartOf, IsShort, makes_by, makes_none, LosesIn, Loses, TouchesIn, Touches}
use Rattle.cob_interp.specs.Meeting.{IsMetBy, IfFailed}
use Rattle.cob_interp.specs.Reached.{up_to, last_of}
use Rattle.cob_interp.specs.Runs.{Outside, IfTold, makes_next, ShowsFront, HasShort, NoClose, IsMetNext, IsOver, BreaksOff, IsBrokenBy, IsBrokenBefore}
use Rattle.cob_interp.specs.Tracking.{purposes_of}
use Rattle.cob_interp.specs.Running.{StandsIn, Stands, RestsIn, Rests}
use Rattle.cob_interp.proofs.SeenFiles.{SeenAt, seen_at}
use Rattle.cob_interp.proofs.Passing.{append_twice}
use Rattle.cob_interp.proofs.Failing.{if_failed}
use Rattle.cob_interp.proofs.OpenLemmas.{seen_file_at}
use Rattle.cob_interp.proofs.Purposes.{seen_purposes}
use Rattle.cob_interp.proofs.OneEndLemmas as one_end

-- ---- contents that are told

pub told_on : (P Q : Contents → Contents → Type 0) (a b c : Option Contents) → IfTold P a b
    → ((first told : Contents) → b ≡ Some told → P first told → IfTold Q (Some first) c) → IfTold Q a c
told_on P Q None b c t f = tt
told_on P Q (Some first) None c t f = absurd t
told_on P Q (Some first) (Some told) c t f = f first told refl t

-- ---- a part of a file

part_of_any : (makes : Bool) (f : File) (whole now : Option (List ℕ)) → IsPartOf false f whole now
    → IsPartOf makes f whole now
part_of_any makes f whole now (inl same) = inl same
part_of_any makes f whole now (inr (inl front)) = inr (inl front)
part_of_any makes f whole now (inr (inr empty)) = let e = empty.0 in cc

-- ---- all files

module _ (paths : List (List ℕ)) (makes : ℕ → Bool) (w : World) where
  -- what the run sees of the file at a place holds a part of it
  part_at : (told now : Contents) → AreSynced told paths w.files → TouchesIn paths makes w told now
      → (place : ℕ) (path : List ℕ) (o : Option File) (g : File) → slice_get paths place ≡ Some path
      → slice_get w.files place ≡ o
      → SeenAt told paths place o (Some g) → IsPartOf (makes place) g g.content (get now path)
  part_at told now s t place path None g at has sees = cc
  part_at told now s t place path (Some f) g at has sees =
      let same : sees.0 ≡ path = cc in
      let is : g ≡ seen_file told path f = subst (λ (q : List ℕ). g ≡ seen_file told q f) same cc in
      subst (λ (x : File). IsPartOf (makes place) x x.content (get now path)) (sym is)
      (t.its place path f at has (subst (λ (q : List ℕ). IsSynced told q f) same sees.3))

  pub part_seen : (told now : Contents) → AreSynced told paths w.files → TouchesIn paths makes w told now
      → (place : ℕ) (path : List ℕ) (g : File) → slice_get paths place ≡ Some path
      → slice_get (seen_files told paths w.files) place ≡ Some g → IsPartOf (makes place) g g.content (get now path)
  part_seen told now s t place path g at has =
      part_at told now s t place path (slice_get w.files place) g at refl
      (subst (λ (o : Option File). SeenAt told paths place (slice_get w.files place) o) has
      (seen_at told paths w.files place s))

synced_at : (told : Contents) (paths : List (List ℕ)) (fs : List File) (place : ℕ) (path : List ℕ) → AreSynced told paths fs
    → slice_get paths place ≡ Some path → (f : File) × (slice_get fs place ≡ Some f) × IsSynced told path f
synced_at told [] fs place path s at = cc
synced_at told (q ∷ paths) [] place path s at = absurd s
synced_at told (q ∷ paths) (f ∷ fs) zero path s at =
    let same : q ≡ path = cc in (f, refl, subst (λ (x : List ℕ). IsSynced told x f) same s.0)
synced_at told (q ∷ paths) (f ∷ fs) (suc place) path s at = synced_at told paths fs place path s.1 at

-- one of them holds fewer bytes than the run sees
short_behind : (told now : Contents) (known : Option Contents) (paths : List (List ℕ)) (w : World) (fs : List File)
    → known ≡ Some now → AreSynced told paths w.files → fs ≡ seen_files told paths w.files → LosesIn paths w told known
    → HasShort paths fs now
short_behind told now known paths w fs is synced files k =
    let f = synced_at told paths w.files k.place k.path synced k.at in
    let both : Some k.now ≡ Some now = sym k.is ∙ is in
    let same : k.now ≡ now = cc in
    record {
      place = k.place;
      path = k.path;
      file = seen_file told k.path f.0;
      at = k.at;
      has = ap (λ (gs : List File). slice_get gs k.place) files
          ∙ seen_file_at told paths w.files k.place k.path f.0 synced k.at f.1;
      short = subst (λ (c : Contents). IsShort (seen_file told k.path f.0) (get c k.path)) same (k.it f.0 f.1 f.2);
    }

-- ---- text

-- What is shown of the text that waits where the run is broken off: all of it, or a front.
abbrev pub ShowsWaiting : SinkState → SinkState → SinkState → List ℕ → Result Ended RunEnd → Type 0
ShowsWaiting start mid now text r =
    (now.told ≡ append_known mid.told text)
    ⊎ (((r ≡ Err end.Memory) ⊎ Rose start.faults now.faults)
    × ((k : ℕ) × (now.told ≡ append_known mid.told (take k text))))

all_shown : (start mid now : SinkState) (text waits whole : List ℕ) (r : Result Ended RunEnd)
    → mid.told ≡ append_known start.told text → whole ≡ text ++ waits → ShowsWaiting start mid now waits r
    → (now.told ≡ append_known start.told whole) ⊎ ShowsFront start now r whole
all_shown start mid now text waits whole r gained is (inl all) = inl
    (all ∙ ap (λ (known : Option (List ℕ)). append_known known waits) gained ∙ append_twice start.told text waits
    ∙ ap (append_known start.told) (sym is))
all_shown start mid now text waits whole r gained is (inr (why, (k, front))) = inr (record {
  why = why;
  front = (
    length text + k,
    front ∙ ap (λ (known : Option (List ℕ)). append_known known (take k waits)) gained
        ∙ append_twice start.told text (take k waits)
        ∙ ap (append_known start.told) (sym (ap (take (length text + k)) is ∙ take-append-add text waits k)),
  );
})

-- ---- the run

module _ (p : Program) (g : Graph) (paths : List (List ℕ)) (budget : ℕ) where
  module _ (Closes : Result Ended RunEnd → List File → Type 0)
      (first told now : Contents) (w : World) (steps : ℕ) (makes : ℕ → Bool) (before after : SinkState)
      (r : Result Ended RunEnd) (reached : ℕ) where
    -- behind so many steps, or in the next one
    breaks_off : steps ≤ budget → AreFree p (told_files first paths) steps
        → (state_after p (told_files first paths) steps).world.files ≡ seen_files told paths w.files
        → AreSynced told paths w.files → KeepsNames first told paths
        → ((place : ℕ) (f : File) (whole other : Option (List ℕ)) → IsPartOf (makes place) f whole other
        → IsPartOf (makes_next p (state_after p (told_files first paths) steps) reached place) f whole other)
        → TouchesIn paths makes w told now
        → (after.told ≡ append_known before.told (state_after p (told_files first paths) steps).world.shown)
        ⊎ ShowsFront before after r (state_after p (told_files first paths) steps).world.shown
        → IfFailed r (IsOver p paths budget Closes first now steps r
        ⊎ (Rose before.faults after.faults ⊎ IsMetNext p (state_after p (told_files first paths) steps) reached r))
        → BreaksOff p paths budget Closes first now before after r
    breaks_off within free files synced others next touches shows meets = record {
      steps = steps;
      within = within;
      free = free;
      reached = reached;
      files = λ place path f at has.
          next place f f.content (get now path)
          (part_seen paths makes w told now synced touches place path f at
          (subst (λ (fs : List File). slice_get fs place ≡ Some f) files has));
      others = λ name none. touches.others name none ∙ others name none;
      shows = shows;
      meets = meets;
    }

  -- where it stands at a node at which a step begins, or is in that step
  pub broken_here : (start mid now : Outside) (w : World) (steps node : ℕ) (x : Node) (a : Act)
      (r : Result Ended RunEnd) (reached : ℕ)
      → steps ≤ budget → node_at g.nodes node ≡ Some x → x.starts ≡ true → act_at p x.statement ≡ Some a
      → Touches paths (makes_by (up_to reached a)) w mid.files now.files → ShowsWaiting start.sink mid.sink now.sink w.shown r
      → IfFailed r (Rose start.sink.faults now.sink.faults ⊎ IsMetBy (last_of reached a) r)
      → Stands p g paths start mid w steps steps node → IsBrokenBefore p paths budget start now r
  broken_here start mid now w steps node x a r reached within at starts its touches shows met s =
      told_on (λ first told. StandsIn p g paths first told s.text w steps steps node)
      (λ first told. BreaksOff p paths budget NoClose first told start.sink now.sink r)
      (known_bytes start.files) (known_bytes mid.files) (known_bytes now.files) s.told
      (λ first told e st.
      let t = touches.known told e in
      let on = st.tells.goes_on steps node (seen told paths s.text w) x st.way at starts in
      let makes : (place : ℕ)
      → makes_by (up_to reached a) place ≡ makes_next p (state_after p (told_files first paths) steps) reached place =
      λ place. sym (ap (λ (n : ℕ). option_map_or (λ b. makes_by (up_to reached b) place) (act_at p n) false) on.next
      ∙ ap (λ (o : Option Act). option_map_or (λ b. makes_by (up_to reached b) place) o false) its) in
      subst (λ (c : Option Contents). IfTold (λ f_ n. BreaksOff p paths budget NoClose f_ n start.sink now.sink r)
      (Some first) c) (sym t.is)
      (breaks_off NoClose first told t.now w steps (makes_by (up_to reached a)) start.sink now.sink r reached within st.free
      (ap (λ (u : World). u.files) on.world) st.synced st.others
      (λ place f whole other part. subst (λ (b : Bool). IsPartOf b f whole other) (makes place) part) t.touches
      (all_shown start.sink mid.sink now.sink s.text w.shown
      (state_after p (told_files first paths) steps).world.shown r s.well.gained
      (ap (λ (u : World). u.shown) on.world) shows)
      (if_failed r (Rose start.sink.faults now.sink.faults ⊎ IsMetBy (last_of reached a) r)
      (IsOver p paths budget NoClose first t.now steps r
      ⊎ (Rose start.sink.faults now.sink.faults
      ⊎ IsMetNext p (state_after p (told_files first paths) steps) reached r))
      (λ m. inr (elim m [
        | inl rose ↦ inl rose
        | inr by ↦ inr (record { act = a; next = ap (λ (n : ℕ). act_at p n) on.next ∙ its; met = by })
      ])) met)))

  -- why a fault is told in place of the run's own end: the sink refused text, or a file was closed, or a write was
  -- refused
  abbrev pub MeetsBehind : (Result Ended RunEnd → List File → Type 0) → Outside → Outside → Outside → World
      → Result Ended RunEnd → Result Ended RunEnd → Type 0
  MeetsBehind Closes start mid now w own r =
      Rose start.sink.faults now.sink.faults
      ⊎ (((fs : List File) → purposes_of fs ≡ purposes_of w.files → Closes own fs) ⊎ ((r ≡ Err end.WriteFault) × Loses paths w mid.files now.files))

  -- behind the run's own end
  pub rests_break : (Closes : Result Ended RunEnd → List File → Type 0) (start mid now : Outside) (w : World) (own r : Result Ended RunEnd)
      → Touches paths makes_none w mid.files now.files → ShowsWaiting start.sink mid.sink now.sink w.shown r
      → IfFailed r (MeetsBehind Closes start mid now w own r)
      → Rests p g paths budget start mid w own → IsBrokenBy p paths budget Closes start now r
  rests_break Closes start mid now w own r touches shows meets s =
      told_on (λ first told. RestsIn p g paths budget first told s.text w own)
      (λ first told. BreaksOff p paths budget Closes first told start.sink now.sink r)
      (known_bytes start.files) (known_bytes mid.files) (known_bytes now.files) s.told
      (λ first told e st.
      let t = touches.known told e in
      let there = one_end.stands p (told_files first paths) budget own st.steps st.answer in
      subst (λ (c : Option Contents). IfTold (λ f_ n. BreaksOff p paths budget Closes f_ n start.sink now.sink r)
      (Some first) c) (sym t.is)
      (breaks_off Closes first told t.now w st.steps makes_none start.sink now.sink r 0 there.within there.free st.files
      st.synced st.others
      (λ place f whole other part.
      part_of_any (makes_next p (state_after p (told_files first paths) st.steps) 0 place) f whole other part) t.touches
      (all_shown start.sink mid.sink now.sink s.text w.shown
      (state_after p (told_files first paths) st.steps).world.shown r s.well.gained st.shown shows)
      (if_failed r (MeetsBehind Closes start mid now w own r) (IsOver p paths budget Closes first t.now st.steps r
      ⊎ (Rose start.sink.faults now.sink.faults ⊎ IsMetNext p (state_after p (told_files first paths) st.steps) 0 r))
      (λ m. elim m [
        | inl rose ↦ inr (inl rose)
        | inr behind ↦ inl (record {
          own = own;
          ends = st.answer;
          files = λ place path f at has.
              part_seen paths makes_none w told t.now st.synced t.touches place path f at
              (subst (λ (fs : List File). slice_get fs place ≡ Some f) st.files has);
          why = elim behind [
            | inl closes ↦ inl (closes (state_after p (told_files first paths) st.steps).world.files
                (ap purposes_of st.files ∙ seen_purposes told paths w.files))
            | inr lost ↦ inr (
              lost.0,
              short_behind told t.now (known_bytes now.files) paths w
                  (state_after p (told_files first paths) st.steps).world.files t.is st.synced st.files
                  (lost.1.known told e),
            )
          ];
        })
      ]) meets)))

-- ---- more of closes is told

module _ (p : Program) (paths : List (List ℕ)) (budget : ℕ) (Closes More : Result Ended RunEnd → List File → Type 0)
    (more : (own : Result Ended RunEnd) (files : List File) → Closes own files → More own files) where
  over_more : (first told : Contents) (steps : ℕ) (r : Result Ended RunEnd)
      → IsOver p paths budget Closes first told steps r → IsOver p paths budget More first told steps r
  over_more first told steps r h = record {
    own = h.own;
    ends = h.ends;
    files = h.files;
    why = elim h.why [
      | inl closes ↦ inl (more h.own (state_after p (told_files first paths) steps).world.files closes)
      | inr lost ↦ inr lost
    ];
  }

  pub breaks_more : (first told : Contents) (before after : SinkState) (r : Result Ended RunEnd)
      → BreaksOff p paths budget Closes first told before after r → BreaksOff p paths budget More first told before after r
  breaks_more first told before after r h =
      let other = Rose before.faults after.faults
      ⊎ IsMetNext p (state_after p (told_files first paths) h.steps) h.reached r in
      record {
        steps = h.steps;
        within = h.within;
        free = h.free;
        reached = h.reached;
        files = h.files;
        others = h.others;
        shows = h.shows;
        meets = if_failed r (IsOver p paths budget Closes first told h.steps r ⊎ other)
            (IsOver p paths budget More first told h.steps r ⊎ other)
            (λ m. elim m [
              | inl over ↦ inl (over_more first told h.steps r over)
              | inr met ↦ inr met
            ]) h.meets;
      }

  abbrev ToldOff : (Result Ended RunEnd → List File → Type 0) → SinkState → SinkState → Result Ended RunEnd
      → Option Contents → Option Contents → Type 0
  ToldOff Those before after r a b = IfTold (λ first told. BreaksOff p paths budget Those first told before after r) a b

  told_more : (before after : SinkState) (r : Result Ended RunEnd) (a b : Option Contents)
      → ToldOff Closes before after r a b → ToldOff More before after r a b
  told_more before after r None b h = tt
  told_more before after r (Some first) None h = h
  told_more before after r (Some first) (Some told) h = breaks_more first told before after r h

  -- with the same sink, and contents that are the same
  pub broken_more : (start now : Outside) (a b : Option Contents) (r : Result Ended RunEnd)
      → known_bytes start.files ≡ a → known_bytes now.files ≡ b → IsBrokenBy p paths budget Closes start now r
      → IfTold (λ first told. BreaksOff p paths budget More first told start.sink now.sink r) a b
  broken_more start now a b r e f h =
      told_more start.sink now.sink r a b
      (subst (λ (k : Option Contents). ToldOff Closes start.sink now.sink r k b) e
      (subst (λ (k : Option Contents). ToldOff Closes start.sink now.sink r (known_bytes start.files) k) f h))
