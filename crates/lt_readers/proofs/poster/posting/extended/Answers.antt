use Rattle.std.proofs.Common.{rules, sym, ◌∙◌, ◌≡◌, ◌++◌, ◌∷◌, [], ap, subst, List}
use Rattle.lt_readers.specs.declared.version.Version.{Version}
use Rattle.lt_readers.specs.Lists.{EndsIn, IsHistory}
use Rattle.lt_readers.proofs.Adding.{adds_moves, ends_snoc, history_snoc}
use Rattle.lt_readers.proofs.poster.posting.extended.Goals as goal

pub compare_exchange-found-requires : goal.compare_exchange-found-requires
compare_exchange-found-requires c =
    let h = c.requires.head in
    let offer = c.plain-offer.ensures in
    let pen = c.no_pen-pen.ensures in
    let seen = c.again-seen.ensures in (
      ap (λ w. w.tracked) h,
      ap (λ s. s.book) seen ∙ sym (ap (λ w. w.book) h),
      pen.0 ∙ (ap (λ s. s.book) seen ∙ sym (ap (λ w. w.book) h)),
      offer.0,
      rw (ap (λ w. w.key) h, pen.1, offer.1, offer.3, ap (λ s. s.log) seen) (adds_moves c.args.front.now.seen.log c.args.version.now c.args.posts c.requires.counted c.requires.follows),
    )

pub returns-then-found-posts-clause-last : goal.returns-then-found-posts-clause-last
returns-then-found-posts-clause-last c =
    let log : c.compare_exchange-found.new.seen.log ≡ c.args.front.now.seen.log ++ c.args.version.now ∷ [] = search rules in
    subst (λ (l : List Version). EndsIn l c.args.version.now) (sym log) (ends_snoc c.args.front.now.seen.log c.args.version.now)

pub returns-then-found-posts-clause-legal : goal.returns-then-found-posts-clause-legal
returns-then-found-posts-clause-legal c =
    let log : c.compare_exchange-found.new.seen.log ≡ c.args.front.now.seen.log ++ c.args.version.now ∷ [] = search rules in
    subst IsHistory (sym log) (history_snoc c.args.front.now.seen.log c.args.version.now c.args.front.now.legal c.requires.follows)
