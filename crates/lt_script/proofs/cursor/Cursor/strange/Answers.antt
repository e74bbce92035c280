use Rattle.std.proofs.Common.{◌≡◌, ℕ, ◌-◌, List, length, take, sym, ap, subst, ◌∙◌}
use Rattle.lt_model.specs.declared.syntax.Statement.{Statement}
use Rattle.lt_script.specs.Forms.{IsRead}
use Rattle.lt_script.proofs.Learned.{learned}
use Rattle.lt_script.proofs.cursor.Cursor.strange.Goals as goal

-- the text and its lines, as they were found
found_so : (text from left : List ℕ) (len lines some : ℕ) (s : Statement) → text ≡ take len from → len ≡ length from - length left → lines ≡ some → IsRead (take (length from - length left) from) some s → IsRead text lines s
found_so text from left len lines some s text_is len_is lines_is h =
    subst (λ (us : List ℕ). IsRead us lines s) (sym (text_is ∙ ap (λ (n : ℕ). take n from) len_is)) (subst (λ (n : ℕ). IsRead (take (length from - length left) from) n s) (sym lines_is) h)

pub learn-requires : goal.learn-requires
learn-requires c =
    found_so c.split_at.result.0.now c.skip_gap.new.self.rest.now c.rest-end.result.rest.now c.saturating_sub-len.result c.saturating_sub.result _ c.in_ok-statement-2.statement c.split_at.ensures.front c.saturating_sub-len.ensures c.saturating_sub.ensures
    (learned c.args.self.now c.statement-2.new.self c.in_ok-statement-2.statement c.rest-start.result.line c.skip_gap.new.self.line c.rest-end.result.line c.rest-start.result.rest.now c.skip_gap.new.self.rest.now c.rest-end.result.rest.now
    c.rest-start.ensures.whole c.skip_gap.ensures.skipped c.skip_gap.ensures.same c.rest-end.ensures.whole c.in_ok-statement-2.ensures.0 c.in_ok-statement-2.ensures.1)
