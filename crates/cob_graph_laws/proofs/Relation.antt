-- How what is still to be done stands at a node of the graph.
use Rattle.std.proofs.Common.{◌≡◌, ℕ, suc, ◌-◌, ◌≤◌, List, [], ◌∷◌, Some}
use Rattle.cob_tree.specs.declared.fault.Kind.{Kind}
use Rattle.cob_program.specs.Act.{Turns, once, times, varying, Stmts, Act, perform, Body, Program}
use Rattle.cob_runs.specs.declared.outcome.Outcome.{Outcome}
use Rattle.cob_runs.specs.declared.outcome.Outcome.TheVariants.{Going, Ended, IoStop, Fault}
use Rattle.cob_runs.specs.Files.{Choice}
use Rattle.cob_runs.specs.State.{World, Doing, rest, paras, testing, augmenting}
use Rattle.cob_runs.specs.Effects.{act_at}
use Rattle.cob_runs.specs.Runs.{Contents, choice_at}
use Rattle.cob_graph.specs.declared.graph.Graph.{Graph}
use Rattle.cob_graph.specs.Laid.{LaidList, LaidAct, performing, LaidBody, LaidParas}
use Rattle.cob_graph.specs.Places.{first_of_list, first_of_paras, tests_at, augment_at}
use Rattle.cob_graph.specs.Nodes.{Noded, Copied, list_nodes, paras_nodes, act_nodes}
use Rattle.cob_graph.specs.Copies.{AreLaid, AreLaidParas, IsLaidAct}
use Rattle.cob_graph.specs.Graphs.{all_nodes, IsGraph}
use Rattle.cob_graph.specs.WellFormed.{AreWellFormed, IsWellFormedAct, IsWellFormed}
use Rattle.cob_graph.specs.Lookup.{node_at, final_in}
use Rattle.cob_graph_laws.specs.Ways.{Comes, ComesWithin, ComesToFault, ComesByStatus}
use Rattle.cob_graph_laws.proofs.Fronts.{Runs}

-- a program with its graph, and a run of it
pub record Setting : Type 0 where
  pub p : Program
  pub g : Graph
  pub is : IsGraph p g
  pub contents : Contents
  pub first : List ℕ
  pub choices : List Choice
  pub whole : IsWellFormed p

-- a loop's parts that are steps of their own
abbrev pub HasTest : Turns → Type 0
HasTest once = ⊥
HasTest _ = Unit {0}

abbrev pub HasAugment : Turns → Type 0
HasAugment (times x) = Unit {0}
HasAugment (varying after item start by t) = Unit {0}
HasAugment _ = ⊥

module _ (s : Setting) where
  abbrev pub choice : ℕ → Choice
  choice k = choice_at s.p s.contents s.first s.choices k

  abbrev pub Way : ℕ → ℕ → World → Type 0
  Way k n w = Comes s.p s.g s.contents s.first s.choices k n w

  abbrev pub Within : ℕ → World → Type 0
  Within k w = ComesWithin s.p s.g s.contents s.first s.choices k (final_in s.g) w

  abbrev pub Meets : ℕ → Kind → ℕ → World → Type 0
  Meets k kind number w = ComesToFault s.p s.g s.contents s.first s.choices k kind number w

  abbrev pub Stops : ℕ → ℕ → ℕ → World → Type 0
  Stops k status number w = ComesByStatus s.p s.g s.contents s.first s.choices k status number w

  abbrev pub Stand : ℕ → List Noded → Type 0
  Stand at ns = Runs (node_at (all_nodes s.p s.is.copies)) at ns

  -- paragraphs from one to hi, the last of a copy of those from lo on, whose first node is n
  pub record ParasAt (c : Copied) (lo hi from n next : ℕ) : Type 0 where
    pub count : ℕ
    pub laid : LaidParas
    pub at : ℕ
    pub counted : count ≡ suc hi - from
    pub are : AreLaidParas s.p lo hi from count laid
    pub stand : Stand at (paras_nodes c laid at next)
    pub begins : n ≡ first_of_paras laid at next

  -- a copy of the paragraphs from lo to hi, and what follows it
  pub record Here : Type 0 where
    pub c : Copied
    pub lo : ℕ
    pub hi : ℕ
    pub next : ℕ
    pub layout : c.layout ≡ s.p.layout
    pub final : c.final ≡ final_in s.g
    pub parts : (t : ℕ) → lo ≤ t → t ≤ hi → ParasAt c lo hi t (c.para t) next

  pub record RestAt (h : Here) (ss : Stmts) (n next : ℕ) : Type 0 where
    pub laid : LaidList
    pub at : ℕ
    pub whole : AreWellFormed s.p ss
    pub are : AreLaid s.p h.lo h.hi ss laid
    pub stand : Stand at (list_nodes h.c laid at next)
    pub begins : n ≡ first_of_list laid at next

  -- a statement whose first node is at
  pub record ActAt (h : Here) (number : ℕ) (a : Act) (x : LaidAct) (at next : ℕ) : Type 0 where
    pub its : act_at s.p number ≡ Some a
    pub whole : IsWellFormedAct s.p a
    pub laid : IsLaidAct s.p h.lo h.hi a x
    pub stand : Stand at (act_nodes h.c number x at next)

  pub record TestAt (h : Here) (number : ℕ) (body : Body) (turns : Turns) (n next : ℕ) : Type 0 where
    pub laid : LaidBody
    pub at : ℕ
    pub loop : ActAt h number (perform body turns) (performing laid turns) at next
    pub tests : HasTest turns
    pub begins : n ≡ tests_at turns at laid

  -- it goes on at the loop's test
  pub record AugmentAt (h : Here) (number : ℕ) (body : Body) (turns : Turns) (n onto : ℕ) : Type 0 where
    pub laid : LaidBody
    pub at : ℕ
    pub next : ℕ
    pub loop : ActAt h number (perform body turns) (performing laid turns) at next
    pub augments : HasAugment turns
    pub begins : n ≡ augment_at turns at laid
    pub goes : onto ≡ tests_at turns at laid

  -- with the copies that it lies in, the innermost first, of which each of its paragraphs uses one
  abbrev pub Stands : List Doing → List Here → ℕ → Type 0
  Stands [] [] n = n ≡ final_in s.g
  Stands [] (h ∷ hs) n = ⊥
  Stands (d ∷ ds) [] n = ⊥
  Stands (rest ss ∷ ds) (h ∷ hs) n = (next : ℕ) × RestAt h ss n next × Stands ds (h ∷ hs) next
  Stands (paras from q ∷ ds) (h ∷ hs) n = (q ≡ h.hi) × ParasAt h.c h.lo h.hi from n h.next × Stands ds hs h.next
  Stands (testing number body turns ∷ ds) (h ∷ hs) n = (next : ℕ) × TestAt h number body turns n next × Stands ds
      (h ∷ hs) next
  Stands (augmenting number body turns ∷ ds) (h ∷ hs) n = (next : ℕ) × AugmentAt h number body turns n next × Stands ds
      (h ∷ hs) next

  pub record Standing (ds : List Doing) (n : ℕ) : Type 0 where
    pub copies : List Here
    pub stands : Stands ds copies n

  abbrev pub among : (h : Here) (hs : List Here) (ds : List Doing) (n : ℕ) → Stands ds (h ∷ hs) n → Standing ds n
  among h hs ds n st = record { copies = h ∷ hs; stands = st }

  -- a way on which k steps were begun stands where something is to be done
  pub record Goes (k : ℕ) (w : World) (ds : List Doing) : Type 0 where
    pub node : ℕ
    pub way : Way k node w
    pub standing : Standing ds node

  abbrev pub Comes_by : Outcome → ℕ → World → List Doing → Type 0
  Comes_by Going k w ds = Goes k w ds
  Comes_by Ended k w ds = Within k w
  Comes_by (IoStop status statement) k w ds = Stops k status statement w
  Comes_by (Fault kind statement) k w ds = Meets k kind statement w
