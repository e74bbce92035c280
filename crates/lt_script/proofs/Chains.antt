-- Statements that were passed by their forms, one after the other.
use Rattle.std.proofs.Common.{◌≡◌, ℕ, ◌≤◌, List, [], ◌∷◌, ◌++◌, length, sym, ap, subst, ◌∙◌, append_assoc, arith}
use Rattle.std.proofs.lemmas.List.{append-nil, length-append}
use Rattle.lt_face.specs.Limits.{most_statements}
use Rattle.lt_model.specs.Tokens.{Shape}
use Rattle.lt_model.specs.declared.syntax.Statement.{Statement}
use Rattle.lt_script.specs.Forms.{IsRead, AreRead, more_statements}
use Rattle.lt_script.proofs.Room.{more_one}

pub read_none : AreRead [] []
read_none front more few = ap (λ (xs : List Statement). more_statements xs more) (sym (append-nil front))

pub read_on : (first others : List Statement) (ts us : List Shape) → AreRead first ts → AreRead others us → AreRead (first ++ others) (ts ++ us)
read_on first others ts us h k = λ front more few.
    let all : front ++ (first ++ others) ≡ (front ++ first) ++ others = sym (append_assoc front first others) in
    let n : length ((front ++ first) ++ others) ≤ most_statements = subst (λ (xs : List Statement). length xs ≤ most_statements) all few in
    ap (more_statements front) (append_assoc ts us more)
    ∙ h front (us ++ more) (omega (arith, n, length-append (front ++ first) others))
    ∙ k (front ++ first) more n
    ∙ ap (λ (xs : List Statement). more_statements xs more) (sym all)

pub read_one : (bytes : List ℕ) (lines : ℕ) (s : Statement) (r : IsRead bytes lines s) → AreRead (s ∷ []) r.tokens
read_one bytes lines s r = λ front more few. more_one front s (r.tokens ++ more) more (r.begins more) (r.reads more) (omega (arith, few, length-append front (s ∷ [])))
