use Rattle.std.proofs.Common.{refl, subst, arith}
use Rattle.std.specs.Prelude.{nat_lt}
use Rattle.lt_sense.specs.Spans.{stills, HaveAlso, ranges_of, under}
use Rattle.lt_sense.proofs.Costs.{count_le}
use Rattle.lt_sense.proofs.Spanned.{all_of, goes_on, has_them, range_in}
use Rattle.lt_sense.proofs.Stepped.{same_chain, also_after, under_alike, ok_map, err_map}
use Rattle.lt_sense.proofs.spans.Spans.grow.Goals as goal

pub returns-then-self-lo-clause-grown : goal.returns-then-self-lo-clause-grown
returns-then-self-lo-clause-grown c =
    let s = c.args.self.now in
    subst (λ m. HaveAlso (all_of (stills s) s.relation s.columns s.at s.above.items s.lo s.hi) (all_of (stills s) s.relation s.columns s.at s.above.items s.lo c.args.hi) (range_in s.relation s.columns s.at m c.args.hi)) c.if-self-lo.true
    (goes_on (stills s) s.relation s.columns s.at s.above.items s.lo s.hi c.args.hi c.requires.sound.here (let e = c.if-self-lo.true in let f = c.requires.some in omega (arith, e, f)))

pub returns-then-hi-self-clause-grown : goal.returns-then-hi-self-clause-grown
returns-then-hi-self-clause-grown c =
    let s = c.args.self.now in
    has_them (stills s) s.relation s.columns s.at s.above.items s.lo s.hi c.args.lo c.args.hi c.if-self-lo-2.true c.if-hi-self.true

pub returns-then-self-lo-clause-few : goal.returns-then-self-lo-clause-few
returns-then-self-lo-clause-few c = (let b = count_le (nat_lt c.args.self.now.lo c.args.hi) in omega (arith, b))

pub returns-clause-grown : goal.returns-clause-grown
returns-clause-grown c =
    let s = c.args.self.now in
    let mid = c.settle.new.self in
    ok_map c.begin-2.result (also_after (ranges_of s) (ranges_of mid) (ranges_of c.begin-2.new.self) (under mid mid.at c.args.lo c.args.hi) (under s s.at c.args.lo c.args.hi) c.in_ok-settle.ensures.rows
    (under_alike s s mid s.at c.args.lo c.args.hi (record { relation = refl; columns = refl }) c.in_ok-settle.ensures.same c.in_ok-settle.ensures.at)) c.begin-2.ensures.grown

pub returns-clause-err : goal.returns-clause-err
returns-clause-err c = err_map c.begin-2.result (λ last. same_chain (ranges_of c.args.self.now) (ranges_of c.settle.new.self) (ranges_of c.begin-2.new.self) c.in_ok-settle.ensures.rows last) c.begin-2.ensures.err

pub returns-clause-few : goal.returns-clause-few
returns-clause-few c = (let a = c.in_ok-settle.ensures.few in ok_map c.begin-2.result (λ b. omega (arith, a, b)) c.begin-2.ensures.few)

pub returns-clause-left : goal.returns-clause-left
returns-clause-left c = (let a = c.in_ok-settle.ensures.few in err_map c.begin-2.result (λ b. omega (arith, a, b)) c.begin-2.ensures.left)
