use Rattle.std.proofs.Common.{refl, sym, ◌∙◌}
use Rattle.lt_script.specs.Feed.{kept_of}
use Rattle.lt_script.proofs.Feeds.{dropped, not_held, pushed, same_feed, on_err}
use Rattle.lt_script.proofs.feed.Feed.push.Goals as goal

pub returns-then-closed-clause-fed : goal.returns-then-closed-clause-fed
returns-then-closed-clause-fed c = λ bytes items h. dropped c.args.self.now.fault c.args.self.now.ended c.args.self.now.line (kept_of c.args.self.now) bytes c.args.piece.now items (sym c.is_some-closed.ensures ∙ c.if-closed.true) c.requires h

pub returns-in_err-forget_answered-clause-refused : goal.returns-in_err-forget_answered-clause-refused
returns-in_err-forget_answered-clause-refused c = on_err _ _ c.forget_answered.ensures.same

pub returns-in_err-extend_from_slice-clause-refused : goal.returns-in_err-extend_from_slice-clause-refused
returns-in_err-extend_from_slice-clause-refused c = on_err _ _ (same_feed c.args.self.now c.forget_answered.new.self _ c.forget_answered.ensures.same c.in_err-extend_from_slice.ensures.items refl refl refl refl)

pub returns-clause-fed : goal.returns-clause-fed
returns-clause-fed c = λ bytes items h. pushed c.args.self.now c.forget_answered.new.self _ bytes c.args.piece.now items c.forget_answered.ensures.same c.in_ok-forget_answered.ensures.first c.in_ok-extend_from_slice.ensures.items (sym c.is_some-closed.ensures ∙ c.if-closed.false) h

pub returns-then-closed-clause-held : goal.returns-then-closed-clause-held
returns-then-closed-clause-held c = λ line code h. h

pub returns-in_err-forget_answered-clause-held : goal.returns-in_err-forget_answered-clause-held
returns-in_err-forget_answered-clause-held c = λ line code h. absurd (not_held c.args.self.now.fault h.fault (sym c.is_some-closed.ensures ∙ c.if-closed.false) h.is)

pub returns-in_err-extend_from_slice-clause-held : goal.returns-in_err-extend_from_slice-clause-held
returns-in_err-extend_from_slice-clause-held c = λ line code h. absurd (not_held c.args.self.now.fault h.fault (sym c.is_some-closed.ensures ∙ c.if-closed.false) h.is)

pub returns-clause-held : goal.returns-clause-held
returns-clause-held c = λ line code h. absurd (not_held c.args.self.now.fault h.fault (sym c.is_some-closed.ensures ∙ c.if-closed.false) h.is)
