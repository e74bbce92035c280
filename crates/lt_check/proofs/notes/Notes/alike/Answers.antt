use Rattle.std.proofs.Common.{[]}
use Rattle.lt_model.specs.Check.{kind_of, same_kind, term}
use Rattle.lt_check.specs.Taking.{Condition}
use Rattle.lt_check.proofs.Fronts.{IsWhole_before}
use Rattle.lt_check.proofs.Looks.{Takes_left, Takes_right, Takes_neither, two_terms}
use Rattle.lt_check.proofs.notes.Notes.alike.Goals as goal

pub returns-in-Some-clause-takes : goal.returns-in-Some-clause-takes
returns-in-Some-clause-takes c = Takes_left c.args.left.now c.args.right.now c.in-Some.kind c.args.self.now c.term.new.self c.kinded.new.self c.in-Some.ensures c.in_ok-first.ensures.takes c.in_ok-second.ensures.takes

pub returns-in-Some-clause-terms : goal.returns-in-Some-clause-terms
returns-in-Some-clause-terms c = two_terms term c.args.left.now c.args.right.now c.in_ok-first.first c.in_ok-second.second c.term.new.self c.kinded.new.self _ c.in_ok-first.ensures.term c.in_ok-second.ensures.takes c.in_ok-second.ensures.term

pub returns-in-Some-kind_of-clause-takes : goal.returns-in-Some-kind_of-clause-takes
returns-in-Some-kind_of-clause-takes c = Takes_right c.args.left.now c.args.right.now c.in-Some-kind_of.kind c.args.self.now c.kinded-in-Some-kind_of.new.self c.term-in-Some-kind_of.new.self c.in-Some-kind_of.ensures c.in_ok-first-2.ensures.takes c.in_ok-second-2.ensures.takes

pub returns-in-Some-kind_of-clause-terms : goal.returns-in-Some-kind_of-clause-terms
returns-in-Some-kind_of-clause-terms c = two_terms term c.args.left.now c.args.right.now c.in_ok-first-2.first c.in_ok-second-2.second c.kinded-in-Some-kind_of.new.self c.term-in-Some-kind_of.new.self _ c.in_ok-first-2.ensures.term c.in_ok-second-2.ensures.takes c.in_ok-second-2.ensures.term

pub returns-clause-takes : goal.returns-clause-takes
returns-clause-takes c =
    let meets : Condition = λ whole choice. same_kind (kind_of whole choice c.args.left.now) (kind_of whole choice c.args.right.now) in
    Takes_neither c.args.left.now c.args.right.now meets c.args.self.now c.term-2.new.self c.term-3.new.self c.leave_open.new.self c.in_ok-first-3.ensures.takes c.in_ok-second-3.ensures.takes (c.leave_open.ensures meets)

pub returns-clause-terms : goal.returns-clause-terms
returns-clause-terms c whole w =
    let meets : Condition = λ whole choice. same_kind (kind_of whole choice c.args.left.now) (kind_of whole choice c.args.right.now) in
    let before = IsWhole_before c.term-3.new.self.names c.leave_open.new.self.names whole [] (c.leave_open.ensures meets).names w in
    two_terms term c.args.left.now c.args.right.now c.in_ok-first-3.first c.in_ok-second-3.second c.term-2.new.self c.term-3.new.self _ c.in_ok-first-3.ensures.term c.in_ok-second-3.ensures.takes c.in_ok-second-3.ensures.term whole before
