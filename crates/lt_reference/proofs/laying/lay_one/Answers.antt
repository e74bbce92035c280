use Rattle.std.proofs.Common.{◌∙◌, sym, ap, subst, arith}
use Rattle.lt_face.specs.Rows.{IsAscending}
use Rattle.lt_model.specs.Marks.{write}
use Rattle.lt_reference.proofs.LaidRows.{ascending_in, bare_set, bare_past}
use Rattle.lt_reference.proofs.laying.lay_one.Goals as goal

pub write-requires : goal.write-requires
write-requires c =
    subst IsAscending (sym (c.replace-rows.ensures.value ∙ c.index_mut.ensures.value)) (ascending_in c.args.relations.now.items c.args.mark.now.relation c.index_mut.result.now c.requires (omega (arith, c.len.ensures, c.args.relations.now.ok.0)))

pub returns-in_ok-relations : goal.returns-in_ok-relations
returns-in_ok-relations c =
    bare_set c.args.relations.now.items c.args.mark.now.relation c.index_mut.result.now (write c.args.mark.now) c.replace-rows.new.dest c.in_ok-relations.field-0 (omega (arith, c.len.ensures, c.args.relations.now.ok.0))
    (c.in_ok-relations.ensures ∙ ap (write c.args.mark.now) (c.replace-rows.ensures.value ∙ c.index_mut.ensures.value))

pub returns-else-at-len : goal.returns-else-at-len
returns-else-at-len c = sym (bare_past c.args.relations.now.items c.args.mark.now.relation (write c.args.mark.now) (omega (arith, c.len.ensures, c.args.relations.now.ok.0)))
