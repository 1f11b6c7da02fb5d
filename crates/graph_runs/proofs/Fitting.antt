-- Where a way comes to a node, each store to a counter fits.
use Rattle.std.proofs.Common.{◌≡◌, ℕ, suc, ◌-◌, inl, inr, Bool, false, List, [], ◌∷◌, ◌++◌, Option, Some, ℤ, pos, sym, ap, subst, ◌∙◌, arith}
use Rattle.std.specs.Prelude.{Contains, ◌-ℤ◌}
use Rattle.std.proofs.lemmas.Int.{ints}
use Rattle.std.proofs.lemmas.Option.{same_Some}
use Rattle.cob_data.specs.declared.layout.Layout.{Layout}
use Rattle.cob_data.specs.declared.layout.Sender.{Sender}
use Rattle.cob_program.specs.Act.{once, times, until, varying, Body, Act, move, arith as arithmetic, if_, evaluate, perform, go, nothing, stop, open_files, close_files, read, write, show, Program}
use Rattle.cob_runs.specs.declared.action.Action.{Action}
use Rattle.cob_runs.specs.declared.action.Action.TheVariants as action
use Rattle.cob_runs.specs.Effects.{act_at}
use Rattle.cob_runs.specs.Files.{Choice}
use Rattle.cob_runs.specs.Runs.{Contents}
use Rattle.cob_runs.specs.State.{World}
use Rattle.cob_graph.specs.declared.graph.Node.{Node}
use Rattle.cob_graph.specs.declared.graph.Graph.{Graph}
use Rattle.cob_graph.specs.Lookup.{node_at, edge}
use Rattle.cob_graph_laws.specs.Ways.{Comes}
use Rattle.cob_edge_parts.specs.Parts.{is_handled, number_reads, read_count, set_count, count_down, count_parts, parts_of}
use Rattle.cob_edge_parts.specs.Meaning.{Moment, beginning}
use Rattle.cob_edge_parts.specs.Edges.{StandFor}
use Rattle.graph_runs.specs.Counts.{IsPositiveIn}
use Rattle.graph_runs.proofs.Counted.{counters_are_positive}
use Rattle.graph_runs.proofs.Sent.{sent_counts_are_short}
use Rattle.graph_runs.specs.Sources.{IsSourceGraph}
use Rattle.cob_edge_parts.specs.Counters.{IsCount}
use Rattle.graph_runs.proofs.Counting.{AreSmall}
use Rattle.graph_runs.proofs.Holding.{MisfitsAmong}
use Rattle.graph_runs.proofs.Quiet.{none_misfits, behind_none, number_reads_none, edge_none}

-- ---- counting down

one_less : (n : ℕ) → IsCount (pos (suc n)) → IsCount (pos (suc n) -ℤ pos 1)
one_less n small = omega (arith, ints)

-- from a number above 0
down_by : (n : ℕ) (v : ℤ) → v ≡ pos (suc n) → IsCount v → IsCount (v -ℤ pos 1)
down_by n v e small = subst (λ (u : ℤ). IsCount (u -ℤ pos 1)) (sym e) (one_less n (subst IsCount e small))

down_fits : (l : Layout) (handled : Bool) (statement : ℕ) (storage : List ℕ) (counters : List (Option ℤ)) →
    IsPositiveIn counters statement → AreSmall counters →
    ¬ MisfitsAmong l handled (read_count statement ∷ count_down statement ∷ []) (beginning storage counters)
down_fits l handled statement storage counters positive small (inl misfits) = misfits
down_fits l handled statement storage counters positive small (inr (next, ((v, held, is), not_), inl misfits)) =
    let own : next.own.units ≡ v = ap (λ (m : Moment). m.own.units) is in
    misfits (subst (λ (u : ℤ). IsCount (u -ℤ pos 1)) (sym own)
    (down_by positive.0 v (same_Some v (pos (suc positive.0)) (sym held ∙ positive.1)) (small (statement - 1) v held)))
down_fits l handled statement storage counters positive small (inr (next, pass, inr (last, more, misfits))) = misfits

-- ---- setting

module _ (p : Program) (g : Graph) (source : IsSourceGraph p g) (handled : Bool) (statement : ℕ) where
  sent_fits : (body : Body) (x : Sender) (m : Moment) → act_at p statement ≡ Some (perform body (times x)) →
      ¬ MisfitsAmong p.layout handled (number_reads x ++ set_count statement x ∷ []) m
  sent_fits body x m its misfits =
      alone (behind_none p.layout handled (number_reads x) (set_count statement x ∷ []) m
      (number_reads_none p.layout x) misfits)
    where
      alone : (n : Moment) × MisfitsAmong p.layout handled (set_count statement x ∷ []) n → ⊥
      alone (n, inl t) =
          t.misfits (sent_counts_are_short p source.items source.statements statement body x its n.first t.number t.sent)
      alone (n, inr (next, pass, rest)) = rest

  set_fits : (a : Act) (m : Moment) → act_at p statement ≡ Some a →
      ¬ MisfitsAmong p.layout handled (count_parts p statement a) m
  set_fits (perform body (times x)) m its misfits = sent_fits body x m its misfits
  set_fits (perform body once) m its misfits = misfits
  set_fits (perform body (until after t)) m its misfits = misfits
  set_fits (perform body (varying after place start by t)) m its misfits = misfits
  set_fits (move x places) m its misfits = misfits
  set_fits (arithmetic s targets remainder size fine) m its misfits = misfits
  set_fits (if_ t held other) m its misfits = misfits
  set_fits (evaluate ws other) m its misfits = misfits
  set_fits (go para) m its misfits = misfits
  set_fits nothing m its misfits = misfits
  set_fits stop m its misfits = misfits
  set_fits (open_files os) m its misfits = misfits
  set_fits (close_files fs) m its misfits = misfits
  set_fits (read f into end fine) m its misfits = misfits
  set_fits (write r from) m its misfits = misfits
  set_fits (show xs) m its misfits = misfits

-- ---- edges

module _ (p : Program) (g : Graph) (source : IsSourceGraph p g) (contents : Contents) (first : List ℕ)
    (choices : List Choice) where
  pub record IsAt (statement n : ℕ) (a : Act) (w : World) : Type 0 where
    pub left : ℕ
    pub way : Comes p g contents first choices left n w
    pub at : Node
    pub stands : node_at g.nodes n ≡ Some at
    pub number : at.statement ≡ statement
    pub act : act_at p statement ≡ Some a

  pub fits : (statement n m : ℕ) (a : Act) (x : Action) (w : World) (counters : List (Option ℤ)) →
      IsAt statement n a w → Contains g.edges (edge n x m) → StandFor w.counts counters → AreSmall counters →
      ¬ MisfitsAmong p.layout (is_handled a x) (parts_of p statement a x) (beginning w.storage counters)
  fits statement n m a action.Down w counters is there stand small misfits =
      down_fits p.layout false statement w.storage counters
      (counters_are_positive p g source.whole (λ i b e. (source.numbers i b e).0) source.graph contents first choices
      statement w counters
      (record { left = is.left; node = n; at = is.at; to = m; way = is.way; stands = is.stands; its = is.number; out = there })
      stand) small misfits
  fits statement n m a action.SetCount w counters is there stand small misfits =
      set_fits p g source false statement a (beginning w.storage counters) is.act misfits
  fits statement n m a action.Skip w counters is there stand small misfits = misfits
  fits statement n m a action.Assign w counters is there stand small misfits =
      none_misfits p.layout false _ (beginning w.storage counters) (edge_none p statement a action.Assign tt) misfits
  fits statement n m a action.Done w counters is there stand small misfits =
      none_misfits p.layout false _ (beginning w.storage counters) (edge_none p statement a action.Done tt) misfits
  fits statement n m a action.Size w counters is there stand small misfits =
      none_misfits p.layout (is_handled a action.Size) _ (beginning w.storage counters)
      (edge_none p statement a action.Size tt) misfits
  fits statement n m a (action.True k) w counters is there stand small misfits =
      none_misfits p.layout false _ (beginning w.storage counters) (edge_none p statement a (action.True k) tt) misfits
  fits statement n m a (action.False k) w counters is there stand small misfits =
      none_misfits p.layout false _ (beginning w.storage counters) (edge_none p statement a (action.False k) tt) misfits
  fits statement n m a (action.Open k) w counters is there stand small misfits =
      none_misfits p.layout false _ (beginning w.storage counters) (edge_none p statement a (action.Open k) tt) misfits
  fits statement n m a (action.Close k) w counters is there stand small misfits =
      none_misfits p.layout false _ (beginning w.storage counters) (edge_none p statement a (action.Close k) tt) misfits
  fits statement n m a action.Take w counters is there stand small misfits =
      none_misfits p.layout false _ (beginning w.storage counters) (edge_none p statement a action.Take tt) misfits
  fits statement n m a action.AtEnd w counters is there stand small misfits =
      none_misfits p.layout false _ (beginning w.storage counters) (edge_none p statement a action.AtEnd tt) misfits
  fits statement n m a (action.Bad k) w counters is there stand small misfits =
      none_misfits p.layout false _ (beginning w.storage counters) (edge_none p statement a (action.Bad k) tt) misfits
  fits statement n m a action.Write w counters is there stand small misfits =
      none_misfits p.layout false _ (beginning w.storage counters) (edge_none p statement a action.Write tt) misfits
  fits statement n m a action.Show w counters is there stand small misfits = misfits
