use Rattle.std.proofs.Common.{◌≡◌, List, ℕ, ap, sym, subst, ◌∙◌}
use lib.Pointwise.{bytes_decides}
use Rattle.lt_model.specs.Forms.{IsFormOf}
use Rattle.lt_model.proofs.Filled.{one_form}
use Rattle.lt_model.proofs.form.Form.is_same.Goals as goal

pub returns : goal.returns
returns c = λ same.
    let mine = c.self.inside in
    let its = c.other.inside in
    let texts : c.as_slice.result.now ≡ c.as_slice-2.result.now = (bytes_decides c.as_slice.result.now c.as_slice-2.result.now).0 (sym c.eq.ensures ∙ same) in
    let text : mine.text.items ≡ its.text.items = sym c.as_slice.ensures.value ∙ (texts ∙ c.as_slice-2.ensures.value) in
    let one = one_form its.text.items its.statement mine.statement c.other.invariant (subst (λ (t : List ℕ). IsFormOf t mine.statement) text c.self.invariant) in
    sym (ap (λ v. v.1) c.other.view_is) ∙ (one ∙ ap (λ v. v.1) c.self.view_is)
