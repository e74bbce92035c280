-- What lines and their rows are made of.
use Rattle.std.proofs.Common.{◌≡◌, ◌∙◌, ℕ, zero, suc, ◌<◌, List, [], ◌∷◌, ◌++◌, length, get_or, Some, refl, sym, ap, arith}
use Rattle.std.specs.Prelude.{codes, decimal, slice_get, slice_index_or}
use Rattle.lt_face.specs.State.{Row}
use Rattle.lt_model.specs.declared.kind.Kind.{Kind}
use Rattle.lt_model.specs.declared.mark.Mark.{Mark}
use Rattle.lt_model.specs.declared.reply.Printed.{Printed}
use Rattle.lt_model.specs.Report.{cell_texts, heading_of, line as line_of, mark_text, print_text, rows_text, sign_text}
use Rattle.lt_model.specs.Schema.{Schema}
use Rattle.lt_report.specs.Texts.{joined}
use Rattle.lt_report.proofs.Joining.{join_joined}

pub print_parts : (p : Printed) (rows : List Row) (kinds : List Kind) → rows ≡ p.rows → kinds ≡ p.kinds
    → print_text p ≡ line_of (codes "print" ∷ decimal p.statement ∷ decimal (length rows) ∷ []) ++ rows_text kinds rows
print_parts p rows kinds is same = rw (is, same) refl

pub mark_parts : (schema : Schema) (m : Mark) (heading : List ℕ × List Kind × ℕ) (kinds : List Kind) → heading ≡ heading_of schema m.relation → kinds ≡ heading.1
    → mark_text schema m ≡ joined 0 ((sign_text m.plus ∷ heading.0 ∷ []) ++ cell_texts kinds m.row) ++ 10 ∷ []
mark_parts schema m heading kinds is same =
    ap (λ (h : List ℕ × List Kind × ℕ). line_of ((sign_text m.plus ∷ h.0 ∷ []) ++ cell_texts h.1 m.row)) (sym is)
    ∙ ap (λ (ks : List Kind). line_of ((sign_text m.plus ∷ heading.0 ∷ []) ++ cell_texts ks m.row)) (sym same)
    ∙ ap (λ (s : List ℕ). s ++ 10 ∷ []) (join_joined ((sign_text m.plus ∷ heading.0 ∷ []) ++ cell_texts kinds m.row))

-- the element at a place
pub element_at : {X : Type 0} (xs : List X) (i : ℕ) (x : X) → slice_get xs i ≡ Some x → get_or xs i x ≡ x
element_at [] i x e = absurd cc
element_at (y ∷ xs) zero x e = cc
element_at (y ∷ xs) (suc i) x e = element_at xs i x e

-- the element at a place that is there, whatever stands for one that isn't
index_any : {X : Type 0} (xs : List X) (i : ℕ) (x d : X) → i < length xs → get_or xs i x ≡ slice_index_or xs i d
index_any [] i x d h = absurd (omega (arith, h))
index_any (y ∷ xs) zero x d h = refl
index_any (y ∷ xs) (suc i) x d h = let further : i < length xs = omega (arith, h) in index_any xs i x d further

pub heading_there : (schema list : Schema) (relation : ℕ) (heading : List ℕ × List Kind × ℕ) → list ≡ schema → relation < length schema → heading ≡ get_or list relation heading → heading ≡ heading_of schema relation
heading_there schema list relation heading same there at =
    at ∙ ap (λ (s : Schema). get_or s relation heading) same ∙ index_any schema relation heading ([], [], 0) there
