use Rattle.std.proofs.Common.{refl, subst, ap, ◌∙◌}
use Rattle.lt_script.specs.Ahead.{Source, Place}
use Rattle.lt_script.specs.Taken.{Takes, IsTaken}
use Rattle.lt_script.proofs.Reading.{read_item, read_other}
use Rattle.lt_script.proofs.reader.Reader.next_item.Goals as goal

pub returns-in-Item-clause-next : goal.returns-in-Item-clause-next
returns-in-Item-clause-next c = λ items d. read_item c.args.self.now _ items c.in-Item.item (subst (λ (p : Place). Takes p c.take_item.new.self c.in-Item.item) c.copy-ahead.ensures c.in-Item.ensures) d

pub returns-in-Item-clause-bytes : goal.returns-in-Item-clause-bytes
returns-in-Item-clause-bytes c = ap (λ (s : Source). s.bytes) c.in-Item.ensures.same ∙ ap (λ (p : Place). p.source.bytes) c.copy-ahead.ensures

pub returns : goal.returns
returns c = record {
  next = λ items d. read_other c.args.self.now c.take_item.new.self items c.take_item.result d (subst (λ (p : Place). IsTaken p c.take_item.new.self c.take_item.result) c.copy-ahead.ensures c.take_item.ensures) (λ item. c.in_default.not-Item item);
  bytes = refl;
}
