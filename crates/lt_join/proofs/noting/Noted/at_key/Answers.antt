use Rattle.std.proofs.Common.{◌++◌, List, sym, ap, ap₂, ◌∙◌, subst}
use Rattle.lt_sense.specs.declared.covering.Hit.{Hit}
use Rattle.lt_sense.specs.declared.covering.KeptGap.{KeptGap}
use Rattle.lt_sense.specs.Kept.{Sense}
use Rattle.lt_join.specs.Noted.{noted_gaps}
use Rattle.lt_join.specs.OfKey.{parts_at}
use Rattle.lt_join.specs.Sliced.{AreRootGaps}
use Rattle.lt_join.proofs.NotedGaps.{first_noted}
use Rattle.lt_join.proofs.noting.Noted.at_key.Goals as goal

pub add_parts-requires-clause-first : goal.add_parts-requires-clause-first
add_parts-requires-clause-first c = first_noted c.self.inside.indexes.items c.self.inside.gaps.items (subst AreRootGaps (sym c.self.view_is) c.requires.root)

pub returns : goal.returns
returns c =
    let gaps = c.in_ok-add_parts.ensures.gaps ∙ ap (λ (s : Sense). s.gaps ++ parts_at c.args.key (noted_gaps c.self.inside.indexes.items c.self.inside.gaps.items)) c.new-sense.ensures ∙ ap (λ (s : Sense). parts_at c.args.key s.gaps) c.self.view_is in
    let hits = c.in_ok-add_parts.ensures.hits ∙ ap (λ (s : Sense). s.hits) c.new-sense.ensures in
    let made : List KeptGap → List Hit → Sense = λ gs hs. record { gaps = gs; hits = hs } in
    ap₂ made gaps hits
