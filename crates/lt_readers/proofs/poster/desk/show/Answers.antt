use Rattle.std.proofs.Common.{rules, ◌≡◌, ap, ◌∙◌, sym, drop, [], ◌∷◌, ◌++◌}
use Rattle.lt_readers.proofs.Moves.{shows, shown_last}
use Rattle.lt_readers.proofs.poster.desk.show.Goals as goal

pub publish_as-next-requires : goal.publish_as-next-requires
publish_as-next-requires g c = λ next is.
    let rest = c.requires.last.0 in
    let post = c.requires.last.1 in
    let same : c.loop.desk.desk.shown.value ≡ c.args.desk.desk.shown.value = search rules in
    let last : drop c.loop.desk.behind c.loop.desk.log.items ≡ rest ++ post ∷ [] = search rules in
    let seen : next.seen ≡ c.args.front.now.seen = shown_last rest _ post c.args.front.now next _ is last c.requires.last.3 in
    shows _ _ c.loop.desk.desk.shown.value next (ap (λ f. f.seen.book) same ∙ (c.requires.one_history ∙ sym (ap (λ s. s.book) seen)))
