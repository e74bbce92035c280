-- Bodies without atoms and without negated atoms.
use Rattle.std.specs.Prelude.{◌≡◌, Bool, true, false, ◌||◌, nat_lt, List, [], ◌∷◌, length}
use Rattle.std.proofs.Common.{refl, ap, ◌∙◌, arith}
use Rattle.std.proofs.lemmas.Bool.Decides.{nat_tests}
use Rattle.lt_model.specs.declared.normal.Atom.{Atom}
use Rattle.lt_model.specs.declared.normal.Body.{Body}
use Rattle.lt_model.specs.declared.normal.Stmt.{Stmt}
use Rattle.lt_query.specs.Needs.{body_of}
use Rattle.lt_program.specs.Run.{displacing_heads, reads_rows}

-- it names no row
abbrev pub IsBare : Body → Type 0
IsBare body = (body.atoms ≡ []) × (body.absents ≡ [])

-- its body names no row, and no row is displaced
abbrev pub IsUnread : Stmt → Type 0
IsUnread stmt = IsBare (body_of stmt) × (displacing_heads stmt ≡ [])

abbrev pub bare_of : Body → Body
bare_of body = record { atoms = []; absents = []; tests = body.tests; vars = body.vars }

pub bare_is : (body : Body) → IsBare body → body ≡ bare_of body
bare_is body e =
    ap (λ (atoms : List Atom). record { atoms = atoms; absents = body.absents; tests = body.tests; vars = body.vars }) e.0
    ∙ ap (λ (absents : List Atom). record { atoms = []; absents = absents; tests = body.tests; vars = body.vars }) e.1

pub neither : (a b : Bool) → (a || b) ≡ false → (a ≡ false) × (b ≡ false)
neither true b h = absurd (cc)
neither false b h = (refl, h)

empty : (atoms : List Atom) → nat_lt 0 (length atoms) ≡ false → atoms ≡ []
empty [] h = refl
empty (atom ∷ atoms) h = absurd (let e : nat_lt 0 (length (atom ∷ atoms)) ≡ true = grind (arith, nat_tests) in cc)

pub reads_none : (stmt : Stmt) → reads_rows stmt ≡ false → IsUnread stmt
reads_none stmt h =
    let atoms = neither (nat_lt 0 (length (body_of stmt).atoms)) (nat_lt 0 (length (body_of stmt).absents) || nat_lt 0 (length (displacing_heads stmt))) h in
    let others = neither (nat_lt 0 (length (body_of stmt).absents)) (nat_lt 0 (length (displacing_heads stmt))) atoms.1 in
    ((empty (body_of stmt).atoms atoms.0, empty (body_of stmt).absents others.0), empty (displacing_heads stmt) others.1)
