-- The columns of atoms, by place.
use Rattle.std.proofs.Common.{◌≡◌, ℕ, zero, suc, ◌+◌, ◌<◌, ◌==◌, ◌||◌, Bool, not, List, [], ◌∷◌, length, drop, get_or, ap, sym, ◌∙◌, arith}
use Rattle.std.specs.List.{list_any}
use Rattle.std.proofs.lemmas.List.{drop_more}
use Rattle.std.specs.Borrow.{Bor}
use Rattle.lt_model.specs.declared.kind.Kind.{Kind}
use Rattle.lt_model.specs.declared.syntax.Head.{Head}
use Rattle.lt_model.specs.Schema.{Schema, columns_of}
use Rattle.lt_model.specs.Check.{is_misfit}
use Rattle.lt_check.specs.Seen.{seen, HasColumns}

pub column_at : (schema : Schema) (atoms : List (Bor Head)) (columns : List (Bor (List Kind))) (i : ℕ) (x : Bor Head) (d : Bor (List Kind)) → i < length atoms → HasColumns schema (seen atoms) (seen columns) → x ≡ get_or atoms i x → (get_or columns i d).now ≡ columns_of schema x.now.relation
column_at schema [] columns i x d lt h e = absurd (omega arith)
column_at schema (a ∷ atoms) [] i x d lt h e = absurd cc
column_at schema (a ∷ atoms) (k ∷ columns) zero x d lt h e =
    let first : k.now ≡ columns_of schema a.now.relation = cc in
    first ∙ ap (λ (y : Bor Head). columns_of schema y.now.relation) (sym e)
column_at schema (a ∷ atoms) (k ∷ columns) (suc i) x d lt h e =
    let more : HasColumns schema (seen atoms) (seen columns) = cc in
    column_at schema atoms columns i x d (omega arith) more e

-- one atom and the others behind it
pub misfit_more : (schema : Schema) (atoms : List (Bor Head)) (columns : List (Bor (List Kind))) (i : ℕ) (x : Bor Head) (d : Bor (List Kind)) (b : Bool) → i < length atoms → HasColumns schema (seen atoms) (seen columns) → x ≡ get_or atoms i x → b ≡ not (length x.now.terms == length (get_or columns i d).now) → list_any (is_misfit schema) (seen (drop i atoms)) ≡ (b || list_any (is_misfit schema) (seen (drop (i + 1) atoms)))
misfit_more schema atoms columns i x d b lt h e f =
    let others = list_any (is_misfit schema) (seen (drop (i + 1) atoms)) in
    ap (λ (ys : List (Bor Head)). list_any (is_misfit schema) (seen ys)) (drop_more atoms i x lt)
    ∙ ap (λ (y : Bor Head). is_misfit schema y.now || others) (sym e)
    ∙ ap (λ ks. not (length x.now.terms == length ks) || others) (sym (column_at schema atoms columns i x d lt h e))
    ∙ ap (λ c. c || others) (sym f)
