use Rattle.std.proofs.Common.{◌≡◌, ◌++◌, ◌∙◌, ap₂}
use Rattle.lt_query.specs.Plan.{term_at}
use Rattle.lt_join.proofs.PartLaws.{part_both, at_most_both}
use Rattle.lt_join.proofs.splitting.AnsweringRangedFound.unite.Goals as goal

pub returns-clause-found : goal.returns-clause-found
returns-clause-found g c =
    let all : c.from_vec.result ≡ c.args.one.rows ++ c.args.next.rows = c.from_vec.ensures ∙ (c.in_ok-append.ensures.items ∙ ap₂ ◌++◌ c.into_vec-rows.ensures c.into_vec-more.ensures) in
    λ terms body plan state lo mid hi le le' a b.
    part_both terms body state (term_at plan.levels 0) lo mid hi c.args.one.rows c.args.next.rows c.from_vec.result c.args.one.sense c.args.next.sense c.add_all.new.self all c.in_ok-add_all.ensures.gaps c.in_ok-add_all.ensures.hits le le' a b

pub returns-clause-paid : goal.returns-clause-paid
returns-clause-paid g c = λ m n a b. at_most_both c.args.one.sense c.args.next.sense c.add_all.new.self m n c.in_ok-add_all.ensures.gaps c.in_ok-add_all.ensures.hits a b
