use Rattle.std.proofs.Common.{◌≡◌, ℕ, ◌++◌, ◌∷◌, [], List, ap, ◌∙◌, sym, subst}
use Rattle.lt_join.specs.Noted.{AreNoted, noted_gaps}
use Rattle.lt_join.proofs.NotedGaps.{more_noted, more_same, on_err, one_more, one_noted}
use Rattle.lt_join.proofs.noting.note.Goals as goal

pub returns-in_err-index-clause-err : goal.returns-in_err-index-clause-err
returns-in_err-index-clause-err c =
    on_err _ _ (more_same c.args.indexes.now.items c.number_of.new.indexes.items c.args.relation c.args.perm.now c.args.gaps.now.items c.number_of.ensures.more c.requires.noted)

pub returns-in_err-prefix-clause-noted : goal.returns-in_err-prefix-clause-noted
returns-in_err-prefix-clause-noted c =
    more_noted c.args.indexes.now.items c.number_of.new.indexes.items c.args.relation c.args.perm.now c.args.gaps.now.items c.number_of.ensures.more c.requires.narrow c.requires.noted

pub returns-in_err-prefix-clause-err : goal.returns-in_err-prefix-clause-err
returns-in_err-prefix-clause-err c =
    on_err _ _ (more_same c.args.indexes.now.items c.number_of.new.indexes.items c.args.relation c.args.perm.now c.args.gaps.now.items c.number_of.ensures.more c.requires.noted)

pub returns-in_err-push-clause-noted : goal.returns-in_err-push-clause-noted
returns-in_err-push-clause-noted c =
    subst (AreNoted c.number_of.new.indexes.items) (sym c.in_err-push.ensures.items)
    (more_noted c.args.indexes.now.items c.number_of.new.indexes.items c.args.relation c.args.perm.now c.args.gaps.now.items c.number_of.ensures.more c.requires.narrow c.requires.noted)

pub returns-in_err-push-clause-err : goal.returns-in_err-push-clause-err
returns-in_err-push-clause-err c =
    on_err _ _ (ap (noted_gaps c.number_of.new.indexes.items) c.in_err-push.ensures.items
    ∙ more_same c.args.indexes.now.items c.number_of.new.indexes.items c.args.relation c.args.perm.now c.args.gaps.now.items c.number_of.ensures.more c.requires.noted)

pub returns-clause-noted : goal.returns-clause-noted
returns-clause-noted c =
    let pushed : c.push.new.self.items ≡ c.args.gaps.now.items ++ record { index = c.in_ok-index.index; prefix = c.args.prefix.now; lo = c.args.lo; hi = c.args.hi } ∷ [] =
    c.in_ok-push.ensures.items ∙ ap (λ (p : List ℕ). c.args.gaps.now.items ++ record { index = c.in_ok-index.index; prefix = p; lo = c.args.lo; hi = c.args.hi } ∷ []) (c.from_vec.ensures ∙ c.in_ok-prefix.ensures.items) in
    one_noted c.args.indexes.now.items c.number_of.new.indexes.items c.args.relation c.in_ok-index.index c.args.lo c.args.hi c.args.perm.now c.args.prefix.now c.args.gaps.now.items c.push.new.self.items c.number_of.ensures.more c.in_ok-index.ensures.number c.requires.noted pushed c.requires.narrow c.requires.some

pub returns-clause-kept : goal.returns-clause-kept
returns-clause-kept c =
    let pushed : c.push.new.self.items ≡ c.args.gaps.now.items ++ record { index = c.in_ok-index.index; prefix = c.args.prefix.now; lo = c.args.lo; hi = c.args.hi } ∷ [] =
    c.in_ok-push.ensures.items ∙ ap (λ (p : List ℕ). c.args.gaps.now.items ++ record { index = c.in_ok-index.index; prefix = p; lo = c.args.lo; hi = c.args.hi } ∷ []) (c.from_vec.ensures ∙ c.in_ok-prefix.ensures.items) in
    one_more c.args.indexes.now.items c.number_of.new.indexes.items c.args.relation c.in_ok-index.index c.args.lo c.args.hi c.args.perm.now c.args.prefix.now c.args.gaps.now.items c.push.new.self.items c.number_of.ensures.more c.in_ok-index.ensures.number c.requires.noted pushed
