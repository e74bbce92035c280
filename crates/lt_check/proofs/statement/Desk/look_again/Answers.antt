use Rattle.std.proofs.Common.{◌≡◌, Bool, Some, None, refl, sym, ap, ◌∙◌}
use Rattle.std.specs.Prelude.{not, if◌then◌else◌}
use Rattle.lt_model.specs.Variables.{atoms_of}
use Rattle.lt_check.specs.Seen.{seen}
use Rattle.lt_check.specs.Taking.{IsFormed}
use Rattle.lt_check.proofs.Statements.{IsFormed_by, settles_at, code_22}
use Rattle.lt_check.proofs.statement.Desk.look_again.Goals as goal

pub returns-then-not-has_kinds-clause-bad : goal.returns-then-not-has_kinds-clause-bad
returns-then-not-has_kinds-clause-bad c =
    let schema = c.args.schema.now in
    let s = c.args.statement.now in
    let first : seen c.deref.result.now ≡ atoms_of s = ap seen c.deref.ensures.value ∙ c.in_ok-list_atoms.ensures in
    let second : seen c.deref-2.result.now ≡ atoms_of s = ap seen c.deref-2.ensures.value ∙ c.in_ok-list_atoms.ensures in
    let formed : IsFormed schema s = IsFormed_by schema s _ _ first second (sym c.in_ok-known.ensures.unknown ∙ ap not c.if-not-known.false) (sym c.if-has_misfit.ensures) in
    let none = ap (λ (b : Bool). if b then Some c.settle_kinds.new.notes.known else None) c.if-not-has_kinds.true in
    rw c.refused-then-not-has_kinds.ensures (code_22 schema s formed (settles_at schema s c.args.self.now.notes.names _ None c.requires.names none c.in_ok-has_kinds.ensures.found), refl)

pub returns-clause-formed : goal.returns-clause-formed
returns-clause-formed c =
    let schema = c.args.schema.now in
    let s = c.args.statement.now in
    let first : seen c.deref.result.now ≡ atoms_of s = ap seen c.deref.ensures.value ∙ c.in_ok-list_atoms.ensures in
    let second : seen c.deref-2.result.now ≡ atoms_of s = ap seen c.deref-2.ensures.value ∙ c.in_ok-list_atoms.ensures in
    IsFormed_by schema s _ _ first second (sym c.in_ok-known.ensures.unknown ∙ ap not c.if-not-known.false) (sym c.if-has_misfit.ensures)

pub returns-clause-kinds : goal.returns-clause-kinds
returns-clause-kinds c =
    let schema = c.args.schema.now in
    let s = c.args.statement.now in
    let some = ap (λ (b : Bool). if b then Some c.settle_kinds.new.notes.known else None) c.if-not-has_kinds.false in
    settles_at schema s c.args.self.now.notes.names _ (Some c.settle_kinds.new.notes.known) c.requires.names some c.in_ok-has_kinds.ensures.found
