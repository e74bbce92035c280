use Rattle.std.proofs.Common.{◌≡◌, ◌≤◌, ◌+◌, ◌∙◌, ◌++◌, List, length, map, sym, ap, subst, arith}
use Rattle.std.specs.Global.{Vec}
use Rattle.std.specs.Arc.{arc_value}
use Rattle.std.specs.List.{AllByRecursion}
use Rattle.std.proofs.lemmas.List.{length-map}
use Rattle.lt_face.specs.State.{State}
use Rattle.lt_model.specs.declared.normal.Stmt.{Stmt}
use Rattle.lt_model.specs.declared.reply.Reply.{Reply}
use Rattle.lt_model.specs.Fits.{FitMarks, Fits}
use Rattle.lt_model.specs.Marks.{Marks}
use Rattle.lt_base.specs.Tables.{state_of}
use Rattle.lt_batch.specs.Line.{last_state, line_effects, line_replies, line_states, programs_of}
use Rattle.lt_program.specs.Run.{AreReplied}
use Rattle.lt_world.specs.declared.batch.Judgement.{Judgement}
use Rattle.lt_world.specs.Lines.{goods_of, HaveAnswers}
use Rattle.lt_world.proofs.Batches.{widths_of}
use Rattle.lt_world.proofs.Lined.{few_all, fit_all, goods_are, goods_checked, goods_count, have_answers, line_shown, versions_count}
use Rattle.lt_world.proofs.world.World.run_batches.Goals as goal

pub run_published-requires-clause-short : goal.run_published-requires-clause-short
run_published-requires-clause-short g c = λ lifetimes outlive.
    let judged : List (Vec Judgement) = c.in_ok-judgements.judgements.items in
    let good : programs_of c.deref-2.result.now ≡ goods_of judged = ap programs_of c.deref-2.ensures.value ∙ c.in_ok-goods.ensures ∙ ap goods_of c.deref.ensures.value in
    let all : length (programs_of c.deref-2.result.now) ≡ length (goods_of judged) = ap (λ (gss : List (List (List Stmt))). length gss) good in
    omega (arith, all, length-map c.deref-2.result.now (λ batch. map arc_value batch.items), goods_count c.args.self.now.schema c.args.batches.now judged c.in_ok-judgements.ensures.checked, c.requires.short)

pub run_published-requires-clause-few : goal.run_published-requires-clause-few
run_published-requires-clause-few g c = λ lifetimes outlive.
    let judged : List (Vec Judgement) = c.in_ok-judgements.judgements.items in
    let good : programs_of c.deref-2.result.now ≡ goods_of judged = ap programs_of c.deref-2.ensures.value ∙ c.in_ok-goods.ensures ∙ ap goods_of c.deref.ensures.value in
    subst (AllByRecursion (λ (ps : List (List Stmt)). length ps ≤ 256)) (sym (good ∙ goods_are c.args.self.now.schema c.args.batches.now judged c.in_ok-judgements.ensures.checked))
    (few_all c.args.self.now.schema c.args.batches.now c.requires.within)

pub run_published-requires-clause-fit : goal.run_published-requires-clause-fit
run_published-requires-clause-fit g c = λ lifetimes outlive.
    let judged : List (Vec Judgement) = c.in_ok-judgements.judgements.items in
    let state : State = state_of c.args.self.now.database in
    let good : programs_of c.deref-2.result.now ≡ goods_of judged = ap programs_of c.deref-2.ensures.value ∙ c.in_ok-goods.ensures ∙ ap goods_of c.deref.ensures.value in
    subst (AllByRecursion (AllByRecursion (Fits state))) (sym (good ∙ goods_checked judged))
    (fit_all state _ (c.in_ok-judgements.ensures.fit state (widths_of c.args.self.now c.requires.world.model c.requires.world.shows)))

pub overflow_sub-result : goal.overflow_sub-result
overflow_sub-result g c =
    let judged : List (Vec Judgement) = c.in_ok-judgements.judgements.items in
    let state : State = state_of c.args.self.now.database in
    let good : programs_of c.deref-2.result.now ≡ goods_of judged = ap programs_of c.deref-2.ensures.value ∙ c.in_ok-goods.ensures ∙ ap goods_of c.deref.ensures.value in
    let made : map state_of c.run_published.new.versions ≡ map state_of c.args.self.now.versions ++ line_states (goods_of judged) state =
    c.in_ok-outcome.ensures.versions ∙ ap (λ (gss : List (List (List Stmt))). map state_of c.args.self.now.versions ++ line_states gss state) good in
    omega (arith, versions_count c.args.self.now.versions c.run_published.new.versions (goods_of judged) state made, goods_count c.args.self.now.schema c.args.batches.now judged c.in_ok-judgements.ensures.checked, c.next_number-next.ensures)

pub returns-clause-ran : goal.returns-clause-ran
returns-clause-ran g c =
    let judged : List (Vec Judgement) = c.in_ok-judgements.judgements.items in
    let schema = c.args.self.now.schema in
    let state : State = state_of c.args.self.now.database in
    let checked = c.in_ok-judgements.ensures.checked in
    let out = c.in_ok-outcome.ensures in
    let good : programs_of c.deref-2.result.now ≡ goods_of judged = ap programs_of c.deref-2.ensures.value ∙ c.in_ok-goods.ensures ∙ ap goods_of c.deref.ensures.value in
    let made : map state_of c.run_published.new.versions ≡ map state_of c.args.self.now.versions ++ line_states (goods_of judged) state =
    out.versions ∙ ap (λ (gss : List (List (List Stmt))). map state_of c.args.self.now.versions ++ line_states gss state) good in
    let count : length c.run_published.new.versions ≡ length c.args.self.now.versions + length (goods_of judged) = versions_count c.args.self.now.versions c.run_published.new.versions (goods_of judged) state made in
    let many : length (goods_of judged) ≡ length c.args.batches.now = goods_count schema c.args.batches.now judged checked in
    let replied : c.in_ok-outcome.outcome.replies ≡ line_replies (goods_of judged) state = out.replies ∙ ap (λ (gss : List (List (List Stmt))). line_replies gss state) good in
    let wrote : c.in_ok-outcome.outcome.effects ≡ line_effects (goods_of judged) state = out.effects ∙ ap (λ (gss : List (List (List Stmt))). line_effects gss state) good in
    record {
      number_is = omega (arith, count, many, c.next_number-next.ensures);
      few = omega (arith, count, many, c.next_number-next.ensures);
      checks = checked;
      replies_are = replied;
      effects_are = wrote;
      answers =
          subst (λ (es : List (List Marks)). HaveAnswers schema c.args.batches.now judged c.in_ok-outcome.outcome.replies es) (sym wrote)
          (subst (λ (rs : List (List Reply)). HaveAnswers schema c.args.batches.now judged rs (line_effects (goods_of judged) state)) (sym replied)
          (have_answers schema state (widths_of c.args.self.now c.requires.world.model c.requires.world.shows) c.args.batches.now judged state checked (subst (AllByRecursion (AllByRecursion AreReplied)) replied out.printed)
          (subst (AllByRecursion (AllByRecursion (FitMarks state))) wrote out.fit)));
    }

pub returns-clause-world : goal.returns-clause-world
returns-clause-world g c = λ marks m s.
    let judged : List (Vec Judgement) = c.in_ok-judgements.judgements.items in
    let state : State = state_of c.args.self.now.database in
    let out = c.in_ok-outcome.ensures in
    let good : programs_of c.deref-2.result.now ≡ goods_of judged = ap programs_of c.deref-2.ensures.value ∙ c.in_ok-goods.ensures ∙ ap goods_of c.deref.ensures.value in
    line_shown c.args.self.now m s c.args.batches.now (goods_of judged) (goods_are c.args.self.now.schema c.args.batches.now judged c.in_ok-judgements.ensures.checked) marks
    (record { schema = c.line_judged.new.schema; database = c.in_ok-outcome.outcome.db; versions = c.run_published.new.versions; pace = c.args.self.now.pace }) c.line_judged.ensures.same
    (out.state ∙ ap (λ (gss : List (List (List Stmt))). last_state gss state) good)
    (out.versions ∙ ap (λ (gss : List (List (List Stmt))). map state_of c.args.self.now.versions ++ line_states gss state) good)
