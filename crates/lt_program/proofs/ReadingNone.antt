-- A program that reads no relation does the same on every state.
use Rattle.std.proofs.Common.{◌≡◌, false, List, [], ◌∷◌, sym, subst}
use Rattle.std.specs.List.{list_any}
use Rattle.lt_face.specs.State.{State}
use Rattle.lt_model.specs.declared.normal.Body.{Body}
use Rattle.lt_model.specs.declared.normal.Stmt.{Stmt}
use Rattle.lt_model.specs.Run.{run}
use Rattle.lt_query.specs.Needs.{body_of}
use Rattle.lt_program.specs.Run.{reads_rows}
use Rattle.lt_program.proofs.Bare.{IsBare, IsUnread, neither, reads_none}
use Rattle.lt_program.proofs.Alike.{HaveSame, AreAlikeFor, AreAlikeIn, StayAlikeFor, run_alike}

-- all states are alike for a body that names no row
pub bare_alike : (s t : State) (body : Body) → IsBare body → AreAlikeFor s t body
bare_alike s t body none = (subst (HaveSame s t) (sym none.0) tt, subst (HaveSame s t) (sym none.1) tt)

pub unread_alike : (s t : State) (stmt : Stmt) → IsUnread stmt → AreAlikeIn s t stmt
unread_alike s t stmt none = (bare_alike s t (body_of stmt) none.0, subst (HaveSame s t) (sym none.1) tt)

all_alike : (program : List Stmt) (s t : State) → list_any reads_rows program ≡ false → StayAlikeFor s t program
all_alike [] s t h = tt
all_alike (stmt ∷ program) s t h =
    let both = neither (reads_rows stmt) (list_any reads_rows program) h in
    (λ marks. unread_alike _ _ stmt (reads_none stmt both.0), all_alike program s t both.1)

pub run-none : (program : List Stmt) (s t : State) → list_any reads_rows program ≡ false → run program s ≡ run program t
run-none program s t h = run_alike program s t (all_alike program s t h)
