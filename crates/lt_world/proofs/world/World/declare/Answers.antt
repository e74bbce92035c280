use Rattle.std.proofs.Common.{◌≡◌, ◌<◌, ◌≤◌, ℕ, List, ◌++◌, [], ◌∷◌, None, refl, sym, ap, length, subst, ◌∙◌}
use Rattle.std.specs.Prelude.{IsSome}
use Rattle.lt_face.specs.State.{State}
use Rattle.lt_model.specs.declared.kind.Kind.{Kind}
use Rattle.lt_model.specs.Schema.{Schema, number_of}
use Rattle.lt_model.specs.Report.{bad_text}
use Rattle.lt_base.specs.Tables.{state_of}
use Rattle.lt_world.proofs.Columns.{AllByRecursion-push, IsStateOf-push, fronts-push}
use Rattle.lt_world.proofs.Folds.{declared_said, declares, full, full_said, not_found, taken, taken_said}
use Rattle.lt_world.proofs.Said.{Shows-says}
use Rattle.lt_world.proofs.world.World.declare.Goals as goal

pub returns-in_ok-self-in-Ok-clause-world : goal.returns-in_ok-self-in-Ok-clause-world
returns-in_ok-self-in-Ok-clause-world c = λ marks m s.
    let none : number_of m.schema c.args.name ≡ None = ap (λ (h : Schema). number_of h c.args.name) s.schema ∙ not_found (number_of c.args.self.now.schema c.args.name) (λ h. let bad = c.in-Ok.ensures.taken.1 h in absurd cc) in
    let room : length m.schema < 64 = rw s.schema c.in-Ok.ensures.room in
    let old : State = state_of c.args.self.now.database in
    rw (declares m c.args.name c.args.kinds c.args.keys none room) (record {
      schema = ap (λ (h : Schema). h ++ (c.args.name, c.args.kinds, c.args.keys) ∷ []) s.schema ∙ sym c.in-Ok.ensures.ok.1;
      some = AllByRecursion-push (λ (heading : List ℕ × List Kind × ℕ). 1 ≤ length heading.1) m.schema (c.args.name, c.args.kinds, c.args.keys) s.some c.requires.0;
      widths = IsStateOf-push m.schema m.state (c.args.name, c.args.kinds, c.args.keys) (record { width = length c.args.kinds; rows = [] }) s.widths refl;
      state =
          ap (λ (st : State). st ++ record { width = length c.args.kinds; rows = [] } ∷ []) s.state
          ∙ ap (λ (ks : List Kind). old ++ record { width = length ks; rows = [] } ∷ []) (sym c.as_slice-width.ensures.kinds)
          ∙ sym c.in_ok-self-in-Ok.ensures.state;
      versions = s.versions;
      older = fronts-push m.schema (c.args.name, c.args.kinds, c.args.keys) m.versions s.older;
    })

pub returns-in_ok-self-in-Ok-clause-code : goal.returns-in_ok-self-in-Ok-clause-code
returns-in_ok-self-in-Ok-clause-code c = λ marks m s.
    let none : number_of m.schema c.args.name ≡ None = ap (λ (h : Schema). number_of h c.args.name) s.schema ∙ not_found (number_of c.args.self.now.schema c.args.name) (λ h. let bad = c.in-Ok.ensures.taken.1 h in absurd cc) in
    let room : length m.schema < 64 = rw s.schema c.in-Ok.ensures.room in
    declared_said marks m c.args.name c.args.kinds c.args.keys none room

pub returns-in-Err-Taken-clause-world : goal.returns-in-Err-Taken-clause-world
returns-in-Err-Taken-clause-world c = λ marks m s.
    let there : IsSome (number_of m.schema c.args.name) = subst (λ (h : Schema). IsSome (number_of h c.args.name)) (sym s.schema) (c.declare.ensures.taken.0 cc) in
    rw (taken m c.args.name c.args.kinds c.args.keys there) (Shows-says c.args.self.now _ m (bad_text 24) c.in-Err-Taken.ensures.err refl refl s)

pub returns-in-Err-Taken-clause-code : goal.returns-in-Err-Taken-clause-code
returns-in-Err-Taken-clause-code c = λ marks m s.
    let there : IsSome (number_of m.schema c.args.name) = subst (λ (h : Schema). IsSome (number_of h c.args.name)) (sym s.schema) (c.declare.ensures.taken.0 cc) in
    taken_said marks m c.args.name c.args.kinds c.args.keys there

pub returns-in-Err-Full-clause-world : goal.returns-in-Err-Full-clause-world
returns-in-Err-Full-clause-world c = λ marks m s.
    let why = c.declare.ensures.full.0 cc in
    let none : number_of m.schema c.args.name ≡ None = ap (λ (h : Schema). number_of h c.args.name) s.schema ∙ why.0 in
    let room : length m.schema ≡ 64 = ap (λ (h : Schema). length h) s.schema ∙ why.1 in
    rw (full m c.args.name c.args.kinds c.args.keys none room) (Shows-says c.args.self.now _ m (bad_text 25) c.in-Err-Full.ensures.err refl refl s)

pub returns-in-Err-Full-clause-code : goal.returns-in-Err-Full-clause-code
returns-in-Err-Full-clause-code c = λ marks m s.
    let why = c.declare.ensures.full.0 cc in
    let none : number_of m.schema c.args.name ≡ None = ap (λ (h : Schema). number_of h c.args.name) s.schema ∙ why.0 in
    let room : length m.schema ≡ 64 = ap (λ (h : Schema). length h) s.schema ∙ why.1 in
    full_said marks m c.args.name c.args.kinds c.args.keys none room
