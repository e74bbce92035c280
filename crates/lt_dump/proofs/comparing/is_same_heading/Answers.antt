use Rattle.lt_dump.proofs.Elementwise.{same_heading}
use Rattle.lt_dump.proofs.comparing.is_same_heading.Goals as goal

pub returns : goal.returns
returns c = λ e. same_heading c.args.one.now c.args.other.now (c.is_same_name.ensures c.if-not-is_same_name.false) (c.are_same_kinds.ensures c.if-not-are_same_kinds.false) (c.is_same_number.ensures c.if-not-is_same_number.false)
