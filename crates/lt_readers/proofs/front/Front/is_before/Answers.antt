use Rattle.std.proofs.Common.{ap, subst, List}
use mathlib.Core.List.{IsPrefix}
use Rattle.lt_readers.specs.declared.version.Version.{Version}
use Rattle.lt_readers.proofs.Beginnings.{before, less, not_less}
use Rattle.lt_readers.proofs.front.Front.is_before.Goals as goal

pub returns-clause-before : goal.returns-clause-before
returns-clause-before c = λ e.
    let both = c.learn.new.self.log in
    let mine : IsPrefix c.args.self.now.seen.log both = subst (λ (l : List Version). IsPrefix l both) (ap (λ s. s.log) c.again-both.ensures) c.learn.ensures.2 in
    before c.args.self.now.seen.log c.args.other.now.seen.log both _ _ c.args.self.now.legal c.args.other.now.legal c.args.self.now.last c.args.other.now.last mine c.learn.ensures.3 (less _ _ _ _ c.number.ensures c.number-2.ensures e)

pub returns-clause-behind : goal.returns-clause-behind
returns-clause-behind c = λ e.
    let both = c.learn.new.self.log in
    let mine : IsPrefix c.args.self.now.seen.log both = subst (λ (l : List Version). IsPrefix l both) (ap (λ s. s.log) c.again-both.ensures) c.learn.ensures.2 in
    before c.args.other.now.seen.log c.args.self.now.seen.log both _ _ c.args.other.now.legal c.args.self.now.legal c.args.other.now.last c.args.self.now.last c.learn.ensures.3 mine (not_less _ _ _ _ c.number.ensures c.number-2.ensures e)
