-- Programs one after another, each on what its predecessors left.
use Rattle.std.specs.Prelude.{List, [], ◌∷◌}
use Rattle.lt_model.specs.declared.normal.Stmt.{Stmt}
use Rattle.lt_model.specs.declared.reply.Reply.{Reply}
use Rattle.lt_face.specs.State.{State}
use Rattle.lt_model.specs.Marks.{Marks, laid}
use Rattle.lt_model.specs.Run.{run}

-- the reply and the marks of each, and the last state
abbrev pub serial : List (List Stmt) → State → List (Reply × Marks) × State
serial [] state = ([], state)
serial (program ∷ programs) state =
    let done = run program state in
    let rest = serial programs (laid state done.1) in
    (done ∷ rest.0, rest.1)
