-- Rows looked for among the ranges of an index, and steps one after another.
use Rattle.std.proofs.Common.{◌≡◌, ℕ, ◌&&◌, ◌||◌, List, Result, Ok, Err, OnOk, OnErr, refl, ap, ◌∙◌}
use Rattle.std.proofs.lemmas.Bool.{eq-eqb}
use Rattle.lt_face.specs.State.{Row, permuted}
use Rattle.lt_sense.specs.declared.covering.KeptGap.{KeptGap}
use Rattle.lt_sense.specs.declared.spans.Spans.{Spans}
use Rattle.lt_sense.specs.Sense.{lies_in, gap_covers}
use Rattle.lt_sense.specs.Spans.{have, HaveSameRows, HaveAlso, under, IsOfSame}
use Rattle.lt_sense.proofs.Spanned.{range_in}

pub same_relation : (n : ℕ) (columns : List ℕ) (prefix : Row) (lo hi : ℕ) (row : Row) → gap_covers (range_in n columns prefix lo hi) n row ≡ lies_in prefix lo hi (permuted columns row)
same_relation n columns prefix lo hi row = ap (λ b. b && lies_in prefix lo hi (permuted columns row)) (eq-eqb n n refl)

-- ---- one step after another

pub same_chain : (a b c : List KeptGap) → HaveSameRows b a → HaveSameRows c b → HaveSameRows c a
same_chain a b c one other relation row below = other relation row below ∙ one relation row below

pub also_after : (a b c : List KeptGap) (one other : KeptGap) → HaveSameRows b a → one ≡ other → HaveAlso b c one → HaveAlso a c other
also_after a b c one other same is also relation row below =
    also relation row below ∙ ap (λ x. x || gap_covers one relation row) (same relation row below) ∙ ap (λ range. have a relation row || gap_covers range relation row) is

pub under_alike : (s mid new : Spans) (prefix : Row) (lo hi : ℕ) → IsOfSame s mid → IsOfSame mid new → new.at ≡ prefix → under new new.at lo hi ≡ under s prefix lo hi
under_alike s mid new prefix lo hi one other at =
    ap (λ n. range_in n new.columns new.at lo hi) (other.relation ∙ one.relation) ∙ ap (λ cs. range_in s.relation cs new.at lo hi) (other.columns ∙ one.columns) ∙ ap (λ p. range_in s.relation s.columns p lo hi) at

pub ok_map : {T E P Q : Type 0} (result : Result T E) → (P → Q) → OnOk result P → OnOk result Q
ok_map (Ok value) f p = f p
ok_map (Err error) f p = tt

pub err_map : {T E P Q : Type 0} (result : Result T E) → (P → Q) → OnErr result P → OnErr result Q
err_map (Ok value) f p = tt
err_map (Err error) f p = f p
