-- How a way goes on from a node, in a step that begins there or has begun before.
use Rattle.std.proofs.Common.{◌≡◌, ℕ, suc, ◌-◌, Bool, true, false, List, Option, Some, None, Ok, Err, refl, ap, subst, ◌∙◌, arith}
use Rattle.std.specs.Prelude.{Contains}
use Rattle.std.specs.Option.{option_map_or}
use Rattle.cob_tree.specs.declared.fault.Kind.{Kind}
use Rattle.cob_program.specs.Act.{Act}
use Rattle.cob_runs.specs.declared.action.Action.{Action}
use Rattle.cob_runs.specs.declared.action.Action.TheVariants as action
use Rattle.cob_runs.specs.Files.{Choice}
use Rattle.cob_runs.specs.State.{World}
use Rattle.cob_runs.specs.Effects.{Effect, effect, effect_of, not_taken, act_at, status, status_of, is_handled, handled_by, end_handled}
use Rattle.cob_graph.specs.declared.graph.Node.{Node}
use Rattle.cob_graph.specs.Laid.{one_if}
use Rattle.cob_graph.specs.Nodes.{Copied, node}
use Rattle.cob_graph.specs.Graphs.{all_nodes, as_node}
use Rattle.cob_graph.specs.Lookup.{node_at, final_in}
use Rattle.cob_graph_laws.specs.Ways.{passed, onward}
use Rattle.cob_graph_laws.proofs.InGraphs.{node_there, edge_there}
use Rattle.cob_graph_laws.proofs.Relation.{Setting, choice, Way, Meets, Stops}

-- the steps begun before a node, in the step behind k steps, which begins with it or not
abbrev pub so_far : ℕ → Bool → ℕ
so_far k true = k
so_far k false = suc k

passes : (k : ℕ) (b : Bool) (x : Node) → x.starts ≡ b → passed (so_far k b) x ≡ suc k
passes k true x e = let f : one_if x.starts ≡ 1 = ap one_if e in omega (arith, f)
passes k false x e = let f : one_if x.starts ≡ 0 = ap one_if e in omega (arith, f)

module _ (s : Setting) where
  same_choice : (k : ℕ) (b : Bool) (x : Node) → x.starts ≡ b → choice s (passed (so_far k b) x - 1) ≡ choice s k
  same_choice k b x e = ap (choice s) (omega (arith, passes k b x e))

  abbrev pub IsNode : Copied → ℕ → Bool → List (Action × ℕ) → ℕ → Type 0
  IsNode c number b out n = node_at (all_nodes s.p s.is.copies) n ≡ Some (node c number b out)

  pub leaves : (c : Copied) (number k : ℕ) (b : Bool) (out : List (Action × ℕ)) (n : ℕ) (a : Action) →
      is_handled s.p number a ≡ true → (m : ℕ) (w v : World) → Way s (so_far k b) n w →
      IsNode c number b out n → Contains out (a, m) → effect s.p number (choice s k) w a ≡ Ok (Some v) →
      Way s (suc k) m v
  leaves c number k b out n a on m w v way is there e =
      let x = as_node (node c number b out) in
      subst (λ (i : ℕ). Way s i m v) (passes k b x refl)
      (onward x a m way (node_there s.p s.g s.is n (node c number b out) is)
      (edge_there s.p s.g s.is n (node c number b out) a m is there)
      (ap (λ (d : Choice). effect s.p number d w a) (same_choice k b x refl) ∙ e) on)

  pub meets : (c : Copied) (number k : ℕ) (b : Bool) (out : List (Action × ℕ)) (n : ℕ) (a : Action) (m : ℕ) (w : World)
      (kind : Kind) → Way s (so_far k b) n w →
      IsNode c number b out n → Contains out (a, m) → effect s.p number (choice s k) w a ≡ Err kind →
      Meets s (suc k) kind number w
  meets c number k b out n a m w kind way is there e =
      let x = as_node (node c number b out) in
      record {
        left = so_far k b;
        node = n;
        at = x;
        action = a;
        to = m;
        way = way;
        stands = node_there s.p s.g s.is n (node c number b out) is;
        within = omega (arith, passes k b x refl);
        its = refl;
        out = edge_there s.p s.g s.is n (node c number b out) a m is there;
        meets = ap (λ (d : Choice). effect s.p number d w a) (same_choice k b x refl) ∙ e;
      }

  -- the edge of a status that nothing handles, where it goes to the final node
  pub stops : (c : Copied) (number k : ℕ) (b : Bool) (out : List (Action × ℕ)) (n : ℕ) (a : Action) →
      is_handled s.p number a ≡ false → (m : ℕ) (w v : World) (met : ℕ) → Way s (so_far k b) n w →
      IsNode c number b out n → Contains out (a, m) → effect s.p number (choice s k) w a ≡ Ok (Some v) →
      status s.p number (choice s k) w a ≡ Some met → m ≡ final_in s.g → Stops s (suc k) met number v
  stops c number k b out n a off m w v met way is there e f final =
      let x = as_node (node c number b out) in
      let same = same_choice k b x refl in
      record {
        left = so_far k b;
        node = n;
        before = w;
        at = x;
        action = a;
        way = way;
        stands = node_there s.p s.g s.is n (node c number b out) is;
        within = omega (arith, passes k b x refl);
        its = refl;
        out = edge_there s.p s.g s.is n (node c number b out) a (final_in s.g) is
            (subst (λ (i : ℕ). Contains out (a, i)) final there);
        leads = ap (λ (d : Choice). effect s.p number d w a) same ∙ e;
        meets = ap (λ (d : Choice). status s.p number d w a) same ∙ f;
        unhandled = off;
      }

  -- an edge does its part of the statement with the number
  pub by_act : (number : ℕ) (c : Choice) (w : World) (a : Action) (act : Act) (r : Effect) →
      act_at s.p number ≡ Some act → effect_of s.p number c w a act ≡ r →
      effect s.p number c w a ≡ r
  by_act number c w a act r its e = ap (λ (o : Option Act). option_map_or (effect_of s.p number c w a) o not_taken) its
      ∙ e

  -- and it has the status of its part
  pub status_by_act : (number : ℕ) (c : Choice) (w : World) (a : Action) (act : Act) (r : Option ℕ) →
      act_at s.p number ≡ Some act → status_of s.p number c w a act ≡ r → status s.p number c w a ≡ r
  status_by_act number c w a act r its e =
      ap (λ (o : Option Act). option_map_or (status_of s.p number c w a) o None) its ∙ e

  -- whether its status is handled is told by its part, too
  pub bad_by_act : (number k : ℕ) (act : Act) (r : Bool) → act_at s.p number ≡ Some act →
      handled_by s.p number k act ≡ r → is_handled s.p number (action.Bad k) ≡ r
  bad_by_act number k act r its e = ap (λ (o : Option Act). option_map_or (handled_by s.p number k) o true) its ∙ e

  pub end_by_act : (number : ℕ) (act : Act) → act_at s.p number ≡ Some act →
      is_handled s.p number action.AtEnd ≡ end_handled s.p number act
  end_by_act number act its = ap (λ (o : Option Act). option_map_or (end_handled s.p number) o true) its
