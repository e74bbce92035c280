-- Ranges of one index, none of which grows any more.
use Rattle.std.proofs.Common.{◌≡◌, ◌||◌, List, [], ◌∷◌, length, refl, sym, ap, ◌∙◌, subst, arith}
use Rattle.lt_face.specs.declared.key.Gap.{Gap}
use Rattle.lt_sense.specs.declared.covering.KeptGap.{KeptGap}
use Rattle.lt_sense.specs.declared.spans.Spans.{Spans}
use Rattle.lt_sense.specs.Sense.{gap_covers}
use Rattle.lt_sense.specs.Spans.{have, HaveSameRows, HaveAlso, growing, under, stills, ranges_of, IsSpans}
use Rattle.lt_sense.proofs.Spanned.{all_of, range_in, or_none, have_all, covers_nothing, begins_anew}

-- where the walk stands at no key, nothing grows above
pub none_above : (s : Spans) → IsSpans s → s.at ≡ [] → s.above.items ≡ []
none_above s sound at = empty s.above.items (sound.depth ∙ ap length at)
  where
    empty : (gaps : List Gap) → length gaps ≡ 0 → gaps ≡ []
    empty [] e = refl
    empty (g ∷ gs) e = absurd (omega (arith, e))

-- the last one that grows is kept, and those that are kept have all rows
pub all_kept : (s : Spans) (more old : List KeptGap) → IsSpans s → s.at ≡ [] → HaveSameRows (ranges_of s) old → HaveAlso (stills s) more (under s [] s.lo s.hi) → HaveSameRows more old
all_kept s more old sound at same also relation row below =
    also relation row below
    ∙ ap (λ p. have (stills s) relation row || gap_covers (range_in s.relation s.columns p s.lo s.hi) relation row) (sym at)
    ∙ ap (λ gaps. have (stills s) relation row || (have (growing s.relation s.columns s.at 0 gaps) relation row || gap_covers (range_in s.relation s.columns s.at s.lo s.hi) relation row)) (sym (none_above s sound at))
    ∙ sym (have_all (stills s) s.relation s.columns s.at s.above.items s.lo s.hi relation row)
    ∙ same relation row below

-- and an empty one begins
pub none_grows : (s : Spans) (more old : List KeptGap) → s.at ≡ [] → HaveSameRows (ranges_of s) old → HaveAlso (stills s) more (under s [] s.lo s.hi) → HaveSameRows (all_of more s.relation s.columns s.at s.above.items 0 0) old
none_grows s more old at same also relation row below =
    begins_anew (stills s) more s.relation s.columns s.at s.above.items s.lo s.hi 0 0 (subst (λ p. HaveAlso (stills s) more (range_in s.relation s.columns p s.lo s.hi)) (sym at) also) relation row below
    ∙ ap (λ b. have (ranges_of s) relation row || b) (covers_nothing s.relation s.columns s.at 0 0 (omega arith) relation row)
    ∙ or_none (have (ranges_of s) relation row)
    ∙ same relation row below
