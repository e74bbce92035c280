use Rattle.std.proofs.Common.{◌≡◌, ◌*◌, [], ◌∷◌, List, Result, Ok, length, map-id, rules, sym, ap, subst, ◌∙◌, arith}
use Rattle.std.specs.Arc.{arc_value}
use Rattle.std.proofs.lemmas.List.{length-append}
use Rattle.std.proofs.lemmas.Iterator.Consumers.{YieldsList-end, YieldsList-turn}
use Rattle.std.proofs.lemmas.Iterator.Adapters.{YieldsList-from_vec}
use Rattle.lt_face.specs.declared.memory.NoMemory.{NoMemory}
use Rattle.lt_face.proofs.RowLemmas.{each_at}
use Rattle.lt_readers.specs.declared.poster.Poster.{Poster}
use Rattle.lt_readers.specs.Boards.{posted, poster_board}
use Rattle.lt_runs.specs.declared.beside.asking.Asker.{Asker}
use Rattle.lt_runs.specs.Asking.{IsAsked}
use Rattle.lt_runs.specs.Reading.{HasAsked, IsAllPosted, IsReady}
use Rattle.lt_runs.proofs.beside.comparing.compare.Goals as goal

pub compare_one-requires-clause-asked : goal.compare_one-requires-clause-asked
compare_one-requires-clause-asked g c = λ lifetimes outlive.
    let given = YieldsList-from_vec {s = c.into_iter-one-iterator.result} c.args.all.items (search rules) (search rules) in
    let turn = YieldsList-turn given c.loop-one.yielded c.loop-one.one-iterator c.loop-one.yielded_by c.next.result c.next.new.self c.in-Some.one c.in-Some.is c.next.ensures.steps in
    let P : Result Asker NoMemory → Type 0 = IsAsked (arc_value c.args.asked.now) (poster_board c.args.poster.now) in
    let each : P c.in-Some.one = subst P (sym turn.1) (each_at P c.args.all.items (length c.loop-one.yielded) c.in-Some.one c.requires.asked turn.0) in
    let one : P (Ok c.in_ok-asker.asker) = subst P c.in_ok-asker.was each in
    subst (λ (q : Poster). HasAsked (arc_value c.args.asked.now) (poster_board q) c.in_ok-asker.asker.reader c.in_ok-asker.asker.answers.items 16) (sym c.loop-one.invariant.kept) one

pub compare_one-requires-clause-posted : goal.compare_one-requires-clause-posted
compare_one-requires-clause-posted g c = λ lifetimes outlive. subst (λ (q : Poster). IsAllPosted c.args.versions.now (posted q)) (sym c.loop-one.invariant.kept) c.requires.posted

pub compare_one-requires-clause-ready : goal.compare_one-requires-clause-ready
compare_one-requires-clause-ready g c = λ lifetimes outlive. subst (λ (q : Poster). IsReady (arc_value c.args.asked.now) (posted q)) (sym c.loop-one.invariant.kept) c.requires.ready

pub loop-one-preserved : goal.loop-one-preserved
loop-one-preserved g c =
    let n = length-append c.loop-one.yielded (c.in-Some.one ∷ []) in
    let before = c.loop-one.invariant in
    record {
      can_next = search rules;
      is_finite = search rules;
      reads = omega (arith, n, before.reads, c.in_ok-read.ensures.reads);
      equal = omega (arith, n, before.equal, c.in_ok-read.ensures.equal);
      kept = c.compare_one.ensures.kept ∙ before.kept;
    }

pub returns-clause-reads : goal.returns-clause-reads
returns-clause-reads g c =
    let given = YieldsList-from_vec {s = c.into_iter-one-iterator.result} c.args.all.items (search rules) (search rules) in
    let ended = YieldsList-end given c.loop-one.yielded c.loop-one.one-iterator c.loop-one.yielded_by c.next.result c.next.new.self c.in-None.is c.next.ensures.steps in
    let all : c.loop-one.yielded ≡ c.args.all.items = sym (map-id c.loop-one.yielded) ∙ ended.0 in
    c.loop-one.invariant.reads ∙ ap (λ (xs : List (Result Asker NoMemory)). 16 * length xs) all

pub returns-clause-equal : goal.returns-clause-equal
returns-clause-equal g c =
    let given = YieldsList-from_vec {s = c.into_iter-one-iterator.result} c.args.all.items (search rules) (search rules) in
    let ended = YieldsList-end given c.loop-one.yielded c.loop-one.one-iterator c.loop-one.yielded_by c.next.result c.next.new.self c.in-None.is c.next.ensures.steps in
    let all : c.loop-one.yielded ≡ c.args.all.items = sym (map-id c.loop-one.yielded) ∙ ended.0 in
    c.loop-one.invariant.equal ∙ ap (λ (xs : List (Result Asker NoMemory)). 16 * length xs) all
