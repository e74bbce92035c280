-- What was checked by a schema, and is kept for statements and programs to come.
use Rattle.std.specs.Prelude.{◌≡◌, Option, Some, None, map, ⊤}
use Rattle.std.specs.Arc.{arc_value}
use Rattle.std.specs.List.{AllByRecursion}
use Rattle.lt_model.specs.declared.syntax.Statement.{Statement}
use Rattle.lt_model.specs.Check.{Good, checked, code_of, normal}
use Rattle.lt_model.specs.Schema.{Schema}
use Rattle.lt_query.specs.Needs.{body_of}
use Rattle.lt_query.specs.Planned.{HaveWidths, route_of, routes_of}
use Rattle.lt_query.specs.Runnable.{HasWidths}
use Rattle.lt_query.specs.Stated.{stated_plan}
use Rattle.lt_world.specs.declared.checks.CheckedForm.{CheckedForm}
use Rattle.lt_world.specs.declared.checks.Old.{Old}
use Rattle.lt_world.specs.declared.checks.Table.{Table}
use Rattle.lt_world.specs.declared.making.Making.{Making}

-- the statement of a form
abbrev pub form_of : CheckedForm → Statement
form_of c = (arc_value c.form).1

-- the form has no code, and this is its normal form, with the route and the plan of its body
pub record IsChecked (schema : Schema) (c : CheckedForm) : Type 0 where
  pub good : code_of schema (form_of c) ≡ None
  pub stmt : c.stmt ≡ normal schema (form_of c)
  pub route : arc_value c.route ≡ route_of (body_of c.stmt)
  pub plan : c.plan ≡ stated_plan (body_of c.stmt)
  pub wide : HasWidths (body_of c.stmt)

-- so it is with what stands at a place, if something does
abbrev pub IsKnown : Schema → Option CheckedForm → Type 0
IsKnown schema None = ⊤
IsKnown schema (Some c) = IsChecked schema c

-- this is the program's normal form
abbrev pub IsOld : Schema → Old → Type 0
IsOld schema old = checked old.program schema ≡ Good (arc_value old.planned)

-- all that is kept was checked by this schema
pub record AreChecked (schema : Schema) (table : Table) : Type 0 where
  pub forms : AllByRecursion (IsKnown schema) table.forms.items
  pub runs : AllByRecursion (IsOld schema) table.runs.items

-- the statements that were taken have these routes, and atoms of 1 to 8 columns
pub record IsMade (m : Making) : Type 0 where
  pub routes : map arc_value m.routes ≡ routes_of m.prog
  pub widths : HaveWidths m.prog
