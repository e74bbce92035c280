-- A leaf's program among those of all batches.
use Rattle.std.proofs.Common.{◌≡◌, ℕ, ◌+◌, ◌<◌, List, [], length, map, get_or, Option, None, sym, ap, subst, ◌∙◌, arith}
use Rattle.std.specs.Prelude.{◌/◌, ◌%◌}
use Rattle.std.proofs.lemmas.List.{length-map}
use Rattle.lt_model.specs.declared.normal.Stmt.{Stmt}
use Rattle.lt_base.specs.Tables.{Table}
use Rattle.lt_batch.specs.declared.leaf.LeafTally.{LeafTally}
use Rattle.lt_batch.specs.declared.spans.Span.{Span}
use Rattle.lt_batch.specs.Batch.{program_at}
use Rattle.lt_batch.specs.Early.{early_at, early_of}
use Rattle.lt_batch.specs.Spans.{no_span, parted}
use Rattle.lt_batch.specs.Work.{BatchView, IsLeaf, leaf_program}
use Rattle.lt_batch.proofs.Runs.{item_at}
use Rattle.lt_batch.proofs.SpanLists.{part_at, part_inside}

-- the place of a leaf by the spans that were read
pub place_in : {place : ℕ} {read spans : List Span} (leaf : ℕ) → place ≡ (get_or read (leaf / 256) no_span).start + leaf % 256 → read ≡ spans → place ≡ (get_or spans (leaf / 256) no_span).start + leaf % 256
place_in leaf is same = is ∙ ap (λ ss. (get_or ss (leaf / 256) no_span).start + leaf % 256) same

module _ {X : Type 0} (snapshot : List Table) (value : X → List Stmt) (items : List X) (early : List (Option LeafTally)) (spans : List Span) where
  -- the work of these programs that stand so
  abbrev pub work_of : BatchView
  work_of = record { snapshot = snapshot; programs = map value items; batches = parted spans (map value items); early = parted spans early }

  module _ (work : BatchView) (view : work_of ≡ work) (leaf : ℕ) (is_leaf : IsLeaf work leaf) where
    inside : (leaf / 256 < length spans) × (leaf % 256 < (get_or spans (leaf / 256) no_span).count) × ((get_or spans (leaf / 256) no_span).start + leaf % 256 < length (map value items))
    inside = part_inside spans (map value items) (leaf / 256) (leaf % 256) (subst (λ (w : BatchView). IsLeaf w leaf) (sym view) is_leaf).below

    pub segment_there : leaf / 256 < length spans
    segment_there = inside.0

    module _ (place : ℕ) (is : place ≡ (get_or spans (leaf / 256) no_span).start + leaf % 256) where
      pub place_below : place < length items
      place_below =
          let there = inside.2 in
          omega (arith, there, is, length-map items value)

      pub program_there : (x : X) → x ≡ get_or items place x → leaf_program work_of leaf ≡ value x
      program_there x at =
          sym (part_at spans (map value items) (leaf / 256) (leaf % 256) [] inside.1)
          ∙ ap (program_at (map value items)) (sym is)
          ∙ item_at value items place x place_below at

      pub early_there : early_of early place ≡ early_at work_of.early leaf
      early_there = ap (early_of early) is ∙ part_at spans early (leaf / 256) (leaf % 256) None inside.1
