use Rattle.std.proofs.Common.{◌∙◌, ◌++◌, ◌∷◌, List, [], map, length, ap, sym, subst, arith}
use Rattle.std.proofs.lemmas.List.{length-map}
use Rattle.std.specs.Arc.{arc_value}
use Rattle.lt_batch.specs.declared.spans.Span.{Span}
use Rattle.lt_batch.specs.Spans.{parted, AreWithin}
use Rattle.lt_batch.proofs.SpanLists.{parted_alone}
use Rattle.lt_batch.proofs.spans.laid_alone.Goals as goal

pub returns-clause-all : goal.returns-clause-all
returns-clause-all c = c.in_ok-push_all.ensures ∙ ap (λ xs. map arc_value xs ++ map arc_value c.args.batch.now) c.in_ok-all.ensures.items

pub returns-clause-parted : goal.returns-clause-parted
returns-clause-parted c =
    ap (λ (spans : List Span). parted spans (map arc_value c.push_all.new.all.items)) (c.in_ok-push.ensures.items ∙ ap (λ (spans : List Span). spans ++ record { start = 0; count = length c.args.batch.now } ∷ []) c.in_ok-spans.ensures.items)
    ∙ parted_alone (map arc_value c.push_all.new.all.items) (map arc_value c.args.batch.now) (length c.args.batch.now) (returns-clause-all c) (omega (arith, length-map c.args.batch.now arc_value))

pub returns-clause-within : goal.returns-clause-within
returns-clause-within c =
    let few = c.requires.few in
    subst (λ (spans : List Span). AreWithin spans 2048)
    (sym (c.in_ok-push.ensures.items ∙ ap (λ (spans : List Span). spans ++ record { start = 0; count = length c.args.batch.now } ∷ []) c.in_ok-spans.ensures.items))
    (omega (arith, few), tt)
