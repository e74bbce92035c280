use Rattle.std.proofs.Common.{◌≡◌, ◌∙◌, map, ap, arith}
use Rattle.lt_gen.specs.Programs.{load}
use Rattle.lt_gen.specs.Script.{group_at, numbers, stock_of}
use Rattle.lt_gen.proofs.Grouping.{groups-more, groups-all}
use Rattle.lt_gen.proofs.loading.load_programs.Goals as goal

pub groups-preserved : goal.groups-preserved
groups-preserved c =
    let rows = map (stock_of c.args.draws.now.seed) (numbers c.args.items) in
    let group = c.in_ok-group.ensures.group ∙ ap (λ s. group_at (map (stock_of s) (numbers c.args.items)) c.groups.j) c.groups.invariant.seed in
    record {
      programs = c.in_ok-push.ensures.ok ∙ groups-more load rows c.groups.j c.groups.programs _ c.groups.invariant.programs (c.load.ensures ∙ ap load group);
      seed = c.in_ok-group.ensures.seed ∙ c.groups.invariant.seed;
      count = omega (arith, c.in_ok-group.ensures.count, c.groups-test.true, c.group_count-count.ensures);
    }

pub returns-clause-programs : goal.returns-clause-programs
returns-clause-programs c =
    let at_end : c.groups.j ≡ c.group_count-count.result = omega (arith, c.groups.auto.j-end, c.groups-test.false) in
    c.groups.invariant.programs ∙ groups-all load (stock_of c.args.draws.now.seed) c.args.items c.groups.j (at_end ∙ c.group_count-count.ensures)
