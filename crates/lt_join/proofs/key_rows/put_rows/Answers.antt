use Rattle.std.proofs.Common.{◌++◌, filter, drop, List, ap, ◌∙◌}
use Rattle.std.proofs.lemmas.List.{append_assoc}
use Rattle.lt_join.specs.Slices.{KeyRows, is_below, rows_of_key}
use Rattle.lt_join.proofs.PutRows.{put_in_place}
use Rattle.lt_join.proofs.key_rows.put_rows.Goals as goal

pub returns-clause-out : goal.returns-clause-out
returns-clause-out c =
    c.in_ok-add_key.ensures ∙ ap (λ (xs : List KeyRows). xs ++ rows_of_key c.args.key c.args.rows) c.in_ok-next.ensures.below
    ∙ append_assoc c.args.out.now.items (filter (is_below c.args.key) (drop c.args.from c.args.old.now)) (rows_of_key c.args.key c.args.rows)

pub returns-clause-put : goal.returns-clause-put
returns-clause-put c =
    put_in_place c.args.key c.args.rows c.add_key.new.all.items c.args.out.now.items (drop c.args.from c.args.old.now) (drop c.in_ok-next.next c.args.old.now) c.requires.below (returns-clause-out c) c.in_ok-next.ensures.above
