use Rattle.std.proofs.Common.{subst}
use Rattle.lt_circuit.specs.Line.{line_state}
use Rattle.lt_circuit.specs.Row.{sizes}
use Rattle.lt_net.specs.Line.{AreSizes}
use Rattle.lt_workers.proofs.Finals.{went_work, went_sizes, gives_went, gives_then}
use Rattle.lt_workers.proofs.line_beginning.go_on_line.Goals as goal

pub give_up_to-requires-clause-base : goal.give_up_to-requires-clause-base
give_up_to-requires-clause-base g c = λ lifetimes outlive. λ m fits. c.requires.base m (subst (λ w. g.W.LeafWork.fits w m) (went_work g.W.LeafWork.does c.args.line.now c.go_on_alone-begun.new.machine c.go_on_alone-begun.ensures.went) fits)

pub returns-in-Ok-clause-given : goal.returns-in-Ok-clause-given
returns-in-Ok-clause-given g c =
    gives_then (sizes c.args.line.now.row) (sizes c.go_on_alone-begun.new.machine.row) (line_state c.args.line.now) (line_state c.go_on_alone-begun.new.machine) (line_state c.go_on_alone-begun.new.machine)
    (g.O.OnFinal.given c.args.on.now) (g.O.OnFinal.given c.args.on.now) (g.O.OnFinal.given c.give_up_to.new.on) c.args.count.now c.args.count.now c.give_up_to.new.count
    (went_sizes g.W.LeafWork.does c.args.line.now c.go_on_alone-begun.new.machine c.go_on_alone-begun.ensures.went)
    (gives_went g.W.LeafWork.does c.args.line.now c.go_on_alone-begun.new.machine c.go_on_alone-begun.ensures.went c.journal-entries.ensures.replay (subst (λ n. AreSizes n) (went_sizes g.W.LeafWork.does c.args.line.now c.go_on_alone-begun.new.machine c.go_on_alone-begun.ensures.went) c.segment_count-segments.ensures.sizes) (g.O.OnFinal.given c.args.on.now) c.args.count.now)
    c.give_up_to.ensures.given

pub returns-in-Err-clause-given : goal.returns-in-Err-clause-given
returns-in-Err-clause-given g c =
    gives_then (sizes c.args.line.now.row) (sizes c.go_on_alone-begun.new.machine.row) (line_state c.args.line.now) (line_state c.go_on_alone-begun.new.machine) (line_state c.go_on_alone-begun.new.machine)
    (g.O.OnFinal.given c.args.on.now) (g.O.OnFinal.given c.args.on.now) (g.O.OnFinal.given c.give_up_to.new.on) c.args.count.now c.args.count.now c.give_up_to.new.count
    (went_sizes g.W.LeafWork.does c.args.line.now c.go_on_alone-begun.new.machine c.go_on_alone-begun.ensures.went)
    (gives_went g.W.LeafWork.does c.args.line.now c.go_on_alone-begun.new.machine c.go_on_alone-begun.ensures.went c.journal-entries.ensures.replay (subst (λ n. AreSizes n) (went_sizes g.W.LeafWork.does c.args.line.now c.go_on_alone-begun.new.machine c.go_on_alone-begun.ensures.went) c.segment_count-segments.ensures.sizes) (g.O.OnFinal.given c.args.on.now) c.args.count.now)
    c.give_up_to.ensures.given
