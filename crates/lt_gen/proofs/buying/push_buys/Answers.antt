use Rattle.std.proofs.Common.{◌≡◌, ◌∙◌, ◌++◌, ◌∷◌, [], List, map, refl, ap, append_assoc, arith}
use Rattle.std.specs.List.{range_with_len}
use Rattle.lt_model.specs.declared.syntax.Item.{Item}
use Rattle.lt_model.specs.declared.syntax.Item.TheVariants.{Batch}
use Rattle.lt_gen.specs.Script.{buyer, group_at, numbers}
use Rattle.lt_gen.proofs.Grouping.{groups-more, groups-all}
use Rattle.lt_gen.proofs.buying.push_buys.Goals as goal

pub groups-preserved : goal.groups-preserved
groups-preserved c =
    let buyers = map (buyer c.args.draws.now.seed c.args.items) (numbers c.args.programs) in
    let before = map Batch (map (group_at buyers) (range_with_len 0 c.groups.j)) in
    let group = c.in_ok-group.ensures.group ∙ ap (λ s. group_at (map (buyer s c.args.items) (numbers c.args.programs)) c.groups.j) c.groups.invariant.seed in
    let item = Batch c.in_ok-group.group in
    record {
      script = c.in_ok-push.ensures.ok
          ∙ ap (λ (items : List Item). items ++ item ∷ []) c.groups.invariant.script
          ∙ append_assoc c.args.script.now before (item ∷ [])
          ∙ ap (λ (items : List Item). c.args.script.now ++ items) (groups-more Batch buyers c.groups.j before item refl (ap Batch group));
      seed = c.in_ok-group.ensures.seed ∙ c.groups.invariant.seed;
      count = omega (arith, c.in_ok-group.ensures.count, c.groups-test.true, c.group_count-count.ensures);
    }

pub returns : goal.returns
returns c =
    let at_end : c.groups.j ≡ c.group_count-count.result = omega (arith, c.groups.auto.j-end, c.groups-test.false) in
    c.groups.invariant.script
    ∙ ap (λ (items : List Item). c.args.script.now ++ items) (groups-all Batch (buyer c.args.draws.now.seed c.args.items) c.args.programs c.groups.j (at_end ∙ c.group_count-count.ensures))
