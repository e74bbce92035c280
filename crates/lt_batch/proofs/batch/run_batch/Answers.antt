use Rattle.std.proofs.Common.{◌∙◌, List, [], ◌∷◌, ap, sym, arith}
use Rattle.lt_model.specs.declared.normal.Stmt.{Stmt}
use Rattle.lt_base.specs.Tables.{state_of}
use Rattle.lt_circuit.specs.Circuit.{state}
use Rattle.lt_net.specs.Tree.{leaf_value, then_all}
use Rattle.lt_batch.specs.Work.{BatchView}
use Rattle.lt_batch.proofs.Widths.{wide_laid}
use Rattle.lt_batch.proofs.batch.run_batch.Goals as goal

pub gathered-requires-clause-batch : goal.gathered-requires-clause-batch
gathered-requires-clause-batch g c = c.in_ok-work.ensures.batches ∙ ap (λ (ps : List (List Stmt)). ps ∷ []) (sym c.in_ok-work.ensures.programs)

pub returns-clause-circuit : goal.returns-clause-circuit
returns-clause-circuit g c = λ i below. c.in_ok-replies.ensures.leaves i (omega (arith, below, c.in_ok-work.ensures.leaves))

pub returns-clause-widths : goal.returns-clause-widths
returns-clause-widths g c =
    let of = ap (λ (work : BatchView). state_of work.snapshot) (c.deref.ensures ∙ sym c.in_ok-work.ensures.work) in
    wide_laid _ _ _ (then_all (leaf_value c.in_ok-work.circuit.board.leaves (state c.in_ok-work.circuit)) [] c.in_ok-work.circuit.board.leaves) (ap state_of c.snapshot.ensures ∙ of ∙ c.in_ok-work.ensures.snapshot) c.in_ok-db.ensures
