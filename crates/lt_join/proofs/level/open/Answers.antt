use Rattle.std.proofs.Common.{length, sym, subst, refl, ◌∙◌, arith}
use Rattle.std.proofs.lemmas.Bool.{true≢false}
use Rattle.lt_leap.proofs.Meets.{on_ok}
use Rattle.lt_query.specs.declared.plans.Level.{Level}
use Rattle.lt_query.specs.Holding.{atoms_at_level}
use Rattle.lt_join.specs.declared.level.Asked.TheVariants.{One, None}
use Rattle.lt_join.specs.Lone.{IsAsked}
use Rattle.lt_join.specs.Walked.{at}
use Rattle.lt_join.proofs.MetCalls.{way_walkable, way_level, lone_yes, way_unfit, lone_none, asked_low, some_held, opens_twice}
use Rattle.lt_join.proofs.MetLevels.{gone_lone, gone_lone_lacks, gone_none}
use Rattle.lt_join.proofs.level.open.Goals as goal

pub returns-in-Any-clause-gone : goal.returns-in-Any-clause-gone
returns-in-Any-clause-gone g c =
    let way = c.args.way.now in
    on_ok c.open_joined.result c.open_joined.ensures.gone (λ met is gone level at_level.
    let here = way_level _ way c.args.keys.now c.as_slice-levels.result.now c.len.result level c.index-levels-len.result c.way.view_is c.as_slice-levels.ensures c.len.ensures c.index-levels-len.is at_level in
    gone level (lone_none c.index-levels-len.result level here c.in-Any.ensures))

pub returns-in-Any-clause-within : goal.returns-in-Any-clause-within
returns-in-Any-clause-within g c =
    let way = c.args.way.now in
    λ level at_level.
    let here = way_level _ way c.args.keys.now c.as_slice-levels.result.now c.len.result level c.index-levels-len.result c.way.view_is c.as_slice-levels.ensures c.len.ensures c.index-levels-len.is at_level in
    c.open_joined.ensures.within level (lone_none c.index-levels-len.result level here c.in-Any.ensures)

pub returns-then-key-from-clause-gone : goal.returns-then-key-from-clause-gone
returns-then-key-from-clause-gone g c =
    let way = c.args.way.now in
    let walkable = way_walkable _ way c.way.view_is c.way.invariant.0 in
    λ level at_level.
    let here = way_level _ way c.args.keys.now c.as_slice-levels.result.now c.len.result level c.index-levels-len.result c.way.view_is c.as_slice-levels.ensures c.len.ensures c.index-levels-len.is at_level in
    let one = subst (λ (lv : Level). IsAsked lv (at c.args.keys.now) (One c.in-One.key)) here c.in-One.ensures in
    gone_none way.body way.plan way.state c.args.keys.now walkable level c.args.sense.now c.args.iters.now c.args.from _ c.args.moves.now c.ended.result.key c.ended.result.turn
    (λ k le. way_unfit _ way c.args.keys.now level c.way.view_is c.way.invariant.0 at_level k (λ f. let e = one.2 k f in let under = c.if-key-from.true in omega arith)) c.requires.tight (let b = c.requires.bound in omega arith) c.ended.ensures.key c.args.iters.now refl (omega arith)

pub open_at_key-requires-clause-bound : goal.open_at_key-requires-clause-bound
open_at_key-requires-clause-bound g c =
    let way = c.args.way.now in
    let own = way_level _ way c.args.keys.now c.as_slice-levels.result.now c.len.result c.requires.usable.0 c.index-levels-len.result c.way.view_is c.as_slice-levels.ensures c.len.ensures c.index-levels-len.is c.requires.usable.1 in
    let low = asked_low way.plan.guides c.index-levels-len.result c.requires.usable.0 c.args.keys.now c.in-One.key own c.requires.usable.2 c.in-One.ensures.0 c.in-One.ensures.1 in
    low

pub returns-in_err-all-in-One-clause-within : goal.returns-in_err-all-in-One-clause-within
returns-in_err-all-in-One-clause-within g c =
    let way = c.args.way.now in
    let walkable = way_walkable _ way c.way.view_is c.way.invariant.0 in
    λ level at_level. opens_twice way.body way.plan way.state c.args.keys.now walkable (atoms_at_level way.plan.guides (length c.args.keys.now)) refl level c.args.moves.now c.open_at_key.new.moves c.open_at_key.ensures.within

pub returns-then-all-clause-gone : goal.returns-then-all-clause-gone
returns-then-all-clause-gone g c =
    let way = c.args.way.now in
    let walkable = way_walkable _ way c.way.view_is c.way.invariant.0 in
    let e = c.in_ok-all-in-One.ensures in
    let yes = c.if-all.true in
    let own = way_level _ way c.args.keys.now c.as_slice-levels.result.now c.len.result c.requires.usable.0 c.index-levels-len.result c.way.view_is c.as_slice-levels.ensures c.len.ensures c.index-levels-len.is c.requires.usable.1 in
    let low = asked_low way.plan.guides c.index-levels-len.result c.requires.usable.0 c.args.keys.now c.in-One.key own c.requires.usable.2 c.in-One.ensures.0 c.in-One.ensures.1 in
    λ level at_level.
    let here = way_level _ way c.args.keys.now c.as_slice-levels.result.now c.len.result level c.index-levels-len.result c.way.view_is c.as_slice-levels.ensures c.len.ensures c.index-levels-len.is at_level in
    let one = subst (λ (lv : Level). IsAsked lv (at c.args.keys.now) (One c.in-One.key)) here c.in-One.ensures in
    gone_lone way.body way.plan way.state c.args.keys.now walkable level (lone_yes level level refl one.0) (way_unfit _ way c.args.keys.now level c.way.view_is c.way.invariant.0 at_level) c.args.sense.now c.open_at_key.new.sense c.args.iters.now c.open_at_key.new.iters c.args.from c.in-One.key 0 c.args.moves.now c.open_at_key.new.moves
    c.requires.iters (some_held way.body way.plan way.state c.args.keys.now walkable (atoms_at_level way.plan.guides (length c.args.keys.now)) refl c.requires.usable.2.held) one.1 one.2 (let under = c.if-key-from.false in omega arith) low
    e.sensed (e.opened yes) (e.at_key yes) (e.there yes) refl (e.each yes) c.open_at_key.ensures.within

pub returns-then-all-clause-within : goal.returns-then-all-clause-within
returns-then-all-clause-within g c =
    let way = c.args.way.now in
    let walkable = way_walkable _ way c.way.view_is c.way.invariant.0 in
    λ level at_level. opens_twice way.body way.plan way.state c.args.keys.now walkable (atoms_at_level way.plan.guides (length c.args.keys.now)) refl level c.args.moves.now c.open_at_key.new.moves c.open_at_key.ensures.within

pub returns-else-all-clause-gone : goal.returns-else-all-clause-gone
returns-else-all-clause-gone g c =
    let way = c.args.way.now in
    let walkable = way_walkable _ way c.way.view_is c.way.invariant.0 in
    let e = c.in_ok-all-in-One.ensures in
    λ level at_level.
    let here = way_level _ way c.args.keys.now c.as_slice-levels.result.now c.len.result level c.index-levels-len.result c.way.view_is c.as_slice-levels.ensures c.len.ensures c.index-levels-len.is at_level in
    let one = subst (λ (lv : Level). IsAsked lv (at c.args.keys.now) (One c.in-One.key)) here c.in-One.ensures in
    gone_lone_lacks way.body way.plan way.state c.args.keys.now walkable level (lone_yes level level refl one.0) (way_unfit _ way c.args.keys.now level c.way.view_is c.way.invariant.0 at_level) c.args.sense.now c.open_at_key.new.sense c.args.iters.now c.open_at_key.new.iters c.args.from c.in-One.key c.ended-in-One.result.key c.ended-in-One.result.turn
    c.args.moves.now c.open_at_key.new.moves one.2 c.requires.bound (e.lacks (λ yes. true≢false (sym yes ∙ c.if-all.false))) c.ended-in-One.ensures.key (e.closed (λ yes. true≢false (sym yes ∙ c.if-all.false))) c.open_at_key.ensures.within

pub returns-else-all-clause-within : goal.returns-else-all-clause-within
returns-else-all-clause-within g c =
    let way = c.args.way.now in
    let walkable = way_walkable _ way c.way.view_is c.way.invariant.0 in
    λ level at_level. opens_twice way.body way.plan way.state c.args.keys.now walkable (atoms_at_level way.plan.guides (length c.args.keys.now)) refl level c.args.moves.now c.open_at_key.new.moves c.open_at_key.ensures.within

pub returns-in-None-clause-gone : goal.returns-in-None-clause-gone
returns-in-None-clause-gone g c =
    let way = c.args.way.now in
    let walkable = way_walkable _ way c.way.view_is c.way.invariant.0 in
    λ level at_level.
    let here = way_level _ way c.args.keys.now c.as_slice-levels.result.now c.len.result level c.index-levels-len.result c.way.view_is c.as_slice-levels.ensures c.len.ensures c.index-levels-len.is at_level in
    let none = subst (λ (lv : Level). IsAsked lv (at c.args.keys.now) None) here c.in-None.ensures in
    gone_none way.body way.plan way.state c.args.keys.now walkable level c.args.sense.now c.args.iters.now c.args.from _ c.args.moves.now c.ended-in-None.result.key c.ended-in-None.result.turn
    (λ k le. way_unfit _ way c.args.keys.now level c.way.view_is c.way.invariant.0 at_level k (none.1 k)) c.requires.tight (let b = c.requires.bound in omega arith) c.ended-in-None.ensures.key c.args.iters.now refl (omega arith)
