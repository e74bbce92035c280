use Rattle.std.proofs.Common.{map, sym, subst}
use Rattle.std.specs.Arc.{arc_value}
use Rattle.std.specs.List.{AllByRecursion}
use Rattle.lt_face.specs.State.{State}
use Rattle.lt_model.specs.Fits.{Fits}
use Rattle.lt_batch.proofs.Gone.{gone_alike}
use Rattle.lt_batch.proofs.fold.Fold.go_on_together.Goals as goal

pub run_ahead-requires-clause-fit : goal.run_ahead-requires-clause-fit
run_ahead-requires-clause-fit g c = λ lifetimes outlive. subst (λ (s : State). AllByRecursion (Fits s) (map arc_value c.args.progs.now)) (sym c.in_ok-index_all.ensures.alike.state) c.requires

pub go_round-requires-clause-fit : goal.go_round-requires-clause-fit
go_round-requires-clause-fit g c = subst (λ (s : State). AllByRecursion (Fits s) (map arc_value c.args.progs.now)) (sym c.in_ok-index_all.ensures.alike.state) c.requires

pub returns : goal.returns
returns g c =
    let gone = gone_alike (map arc_value c.args.progs.now) c.args.self.now c.index_all.new.self c.go_round.new.self c.in_ok-index_all.ensures.alike c.in_ok-go_round.ensures in
    record {
      replies = gone.replies;
      printed = gone.printed;
      wrote = gone.wrote;
      effects = gone.effects;
      each = gone.each;
      kept = gone.kept;
      fit = gone.fit;
      state = gone.state;
      keeps = gone.keeps;
    }
