use Rattle.std.proofs.Common.{◌∙◌, ap, length, map, sym, subst}
use Rattle.std.proofs.lemmas.List.{length-map}
use Rattle.std.specs.Arc.{arc_value}
use Rattle.std.specs.List.{AllByRecursion}
use Rattle.lt_face.specs.State.{State}
use Rattle.lt_model.specs.Fits.{Fits, IsWide}
use Rattle.lt_base.specs.Tables.{state_of}
use Rattle.lt_batch.proofs.Gone.{effects_long, whole}
use Rattle.lt_batch.proofs.fold.fold_batch.Goals as goal

pub go_all-requires-clause-fit : goal.go_all-requires-clause-fit
go_all-requires-clause-fit g c = λ lifetimes outlive. subst (λ (s : State). AllByRecursion (Fits s) (map arc_value c.args.progs.now)) (sym (ap state_of c.in_ok-fold.ensures.db)) c.requires.fit

pub returns-clause-replies : goal.returns-clause-replies
returns-clause-replies g c = (whole (map arc_value c.args.progs.now) (state_of c.args.db.now) c.args.keeps c.in_ok-fold.fold c.go_all.new.self c.in_ok-fold.ensures.replies c.in_ok-fold.ensures.effects (ap state_of c.in_ok-fold.ensures.db) c.in_ok-fold.ensures.keeps c.in_ok-go_all.ensures).are_replies

pub returns-clause-effects : goal.returns-clause-effects
returns-clause-effects g c = λ asked. (whole (map arc_value c.args.progs.now) (state_of c.args.db.now) c.args.keeps c.in_ok-fold.fold c.go_all.new.self c.in_ok-fold.ensures.replies c.in_ok-fold.ensures.effects (ap state_of c.in_ok-fold.ensures.db) c.in_ok-fold.ensures.keeps c.in_ok-go_all.ensures).are_effects asked

pub returns-clause-each : goal.returns-clause-each
returns-clause-each g c = (whole (map arc_value c.args.progs.now) (state_of c.args.db.now) c.args.keeps c.in_ok-fold.fold c.go_all.new.self c.in_ok-fold.ensures.replies c.in_ok-fold.ensures.effects (ap state_of c.in_ok-fold.ensures.db) c.in_ok-fold.ensures.keeps c.in_ok-go_all.ensures).each ∙ length-map c.args.progs.now arc_value

pub returns-clause-state : goal.returns-clause-state
returns-clause-state g c = c.age.ensures ∙ (whole (map arc_value c.args.progs.now) (state_of c.args.db.now) c.args.keeps c.in_ok-fold.fold c.go_all.new.self c.in_ok-fold.ensures.replies c.in_ok-fold.ensures.effects (ap state_of c.in_ok-fold.ensures.db) c.in_ok-fold.ensures.keeps c.in_ok-go_all.ensures).state

pub returns-clause-fit : goal.returns-clause-fit
returns-clause-fit g c = (whole (map arc_value c.args.progs.now) (state_of c.args.db.now) c.args.keeps c.in_ok-fold.fold c.go_all.new.self c.in_ok-fold.ensures.replies c.in_ok-fold.ensures.effects (ap state_of c.in_ok-fold.ensures.db) c.in_ok-fold.ensures.keeps c.in_ok-go_all.ensures).fit

pub returns-clause-widths : goal.returns-clause-widths
returns-clause-widths g c = λ relation width wide. subst (λ (s : State). IsWide s relation width) (sym c.age.ensures) ((whole (map arc_value c.args.progs.now) (state_of c.args.db.now) c.args.keeps c.in_ok-fold.fold c.go_all.new.self c.in_ok-fold.ensures.replies c.in_ok-fold.ensures.effects (ap state_of c.in_ok-fold.ensures.db) c.in_ok-fold.ensures.keeps c.in_ok-go_all.ensures).widths relation width wide)

pub returns-clause-printed : goal.returns-clause-printed
returns-clause-printed g c = (whole (map arc_value c.args.progs.now) (state_of c.args.db.now) c.args.keeps c.in_ok-fold.fold c.go_all.new.self c.in_ok-fold.ensures.replies c.in_ok-fold.ensures.effects (ap state_of c.in_ok-fold.ensures.db) c.in_ok-fold.ensures.keeps c.in_ok-go_all.ensures).printed

pub returns-then-waits-clause-each : goal.returns-then-waits-clause-each
returns-then-waits-clause-each g c = ap length c.in_ok-outcome.ensures.effects ∙ effects_long (map arc_value c.args.progs.now) (state_of c.args.db.now) ∙ length-map c.args.progs.now arc_value
