use Rattle.std.proofs.Common.{List, ℕ, ◌≡◌, length, ◌∙◌, sym, subst, arith}
use Rattle.lt_script.specs.Pieces.{Leads}
use Rattle.lt_script.specs.Feed.{kept_of, Finds}
use Rattle.lt_script.proofs.Feeds.{kept_there}
use Rattle.lt_script.proofs.feed.Feed.look.Goals as goal

pub returns-clause-found : goal.returns-clause-found
returns-clause-found c = λ bytes done items lead d.
    let n : c.len.result ≡ length c.args.self.now.bytes.items = omega (arith, c.len.ensures) in
    let same : c.split_at.result.1.now ≡ kept_of c.args.self.now =
    c.split_at.ensures.back ∙ kept_there c.as_slice.result.now c.args.self.now.bytes.items c.args.self.now.from c.len.result c.min-answered.result c.as_slice.ensures.value n c.min-answered.ensures in
    subst (λ (us : List ℕ). Finds bytes done items c.args.self.now.line us c.args.self.now.ended c.read_front.result) same (c.read_front.ensures bytes done items (subst (λ (us : List ℕ). Leads 1 bytes done c.args.self.now.line us) (sym same) lead) d)
