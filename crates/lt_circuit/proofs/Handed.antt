-- Nodes that have the correction of the next one, after writes.
use Rattle.std.proofs.Common.{◌≡◌, ◌≢◌, ℕ, ◌+◌, ◌-◌, ◌<◌, inl, inr, Bool, true, false, List, length, get_or, set, sym, ap, ◌∙◌, subst, arith, get_or-set_same, get_or-set_other, length-set}
use Rattle.std.proofs.lemmas.Bool.Decides.{eqb_tells}
use Rattle.lt_model.specs.declared.mark.Mark.{Mark}
use Rattle.lt_circuit.specs.declared.cells.Node.{Node}
use Rattle.lt_circuit.specs.Board.{bare_node, table}
use Rattle.lt_circuit.specs.Nodes.{AreNodes, IsHanded}
use Rattle.std.proofs.Math.ListN.{get_or-eq_default}
use Rattle.lt_net.proofs.Shape.{lt_tells}
use Rattle.lt_circuit.proofs.Opening.{get_same}

pub bare_handed : (n v : ℕ) → IsHanded (table (λ k. bare_node) n) v
bare_handed n v = ap (λ (k : Node). k.correction) (get_same bare_node n (v + 1) ∙ sym (get_same bare_node n v))

same_place : (handed : List Bool) (i : ℕ) → get_or (set handed i false) i false ≡ false
same_place handed i = elim (lt_tells i (length handed)) [
  | inl h ↦ get_or-set_same handed i false false h.1
  | inr h ↦ get_or-eq_default (set handed i false) false (omega (arith, h.1, length-set handed i false))
]

cleared : (handed : List Bool) (i v : ℕ) → get_or (set handed i false) v false ≡ true → (v ≢ i) × (get_or handed v false ≡ true)
cleared handed i v e = elim (eqb_tells v i) [
  | inl g ↦ absurd (let f : false ≡ true = sym (same_place handed i) ∙ sym (ap (λ k. get_or (set handed i false) k false) g.1) ∙ e in cc)
  | inr g ↦ (g.1, sym (get_or-set_other handed i v false false g.1) ∙ e)
]

module _ (nodes : List Node) (handed : List Bool) (h : AreNodes nodes handed) (u : ℕ) (there : u < length nodes) where
  -- the effect was written
  pub effect_put : (m : List Mark) → AreNodes (set nodes u (record (get_or nodes u bare_node) { effect = m })) handed
  effect_put m = record {
    long = h.long ∙ sym (length-set nodes u (record (get_or nodes u bare_node) { effect = m }));
    same = λ v e. as_it_was (v + 1) ∙ h.same v e ∙ sym (as_it_was v);
  }
    where
      as_it_was : (v : ℕ) → (get_or (set nodes u (record (get_or nodes u bare_node) { effect = m })) v bare_node).correction ≡ (get_or nodes v bare_node).correction
      as_it_was v = elim (eqb_tells v u) [
        | inl g ↦ ap (λ i. (get_or (set nodes u (record (get_or nodes u bare_node) { effect = m })) i bare_node).correction) g.1
            ∙ ap (λ (k : Node). k.correction) (get_or-set_same nodes u (record (get_or nodes u bare_node) { effect = m }) bare_node there)
            ∙ ap (λ i. (get_or nodes i bare_node).correction) (sym g.1)
        | inr g ↦ ap (λ (k : Node). k.correction) (get_or-set_other nodes u v (record (get_or nodes u bare_node) { effect = m }) bare_node g.1)
      ]

  -- the correction was written
  pub correction_put : (n : Node) (before : ℕ) → before ≡ u - 1 → AreNodes (set nodes u n) (set (set handed u false) before false)
  correction_put n before e = record {
    long = length-set (set handed u false) before false ∙ length-set handed u false ∙ h.long ∙ sym (length-set nodes u n);
    same = λ v f.
        let a = cleared (set handed u false) before v f in
        let b = cleared handed u v a.1 in
        let here : v ≢ u = b.0 in
        let next : v + 1 ≢ u = λ g. a.0 (omega (arith, e, g)) in
        ap (λ (k : Node). k.correction) (get_or-set_other nodes u (v + 1) n bare_node next) ∙ h.same v b.1 ∙ sym (ap (λ (k : Node). k.correction) (get_or-set_other nodes u v n bare_node here));
  }

  -- the next node has the same correction
  pub handed_set : IsHanded nodes u → AreNodes nodes (set handed u true)
  handed_set same = record {
    long = length-set handed u true ∙ h.long;
    same = λ v e. elim (eqb_tells v u) [
      | inl g ↦ subst (IsHanded nodes) (sym g.1) same
      | inr g ↦ h.same v (sym (get_or-set_other handed u v true false g.1) ∙ e)
    ];
  }
