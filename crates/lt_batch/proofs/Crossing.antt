-- What is run ahead, and what a leaf keeps, may cross to another thread, and so may the work of a circuit or of a line, which threads may
-- read at once.
use denote.Param.Send.{IsSend, IsSync, sendable, struct_send, whole-keyless}
use denote.Param.SendFields.{as_row_send, as_row_sync, declared_send, declared_sync}
use denote.Struct.Field.{rows}
use denote.Struct.Struct.{Shape}
use denote.Struct.Values.{intos}
use Rattle.std.proofs.Crossing.{crosses}
use Rattle.lt_model.specs.contracts.normal.Stmt as Stmt
use Rattle.lt_query.specs.contracts.plans.Guides as Guides
use Rattle.lt_query.specs.contracts.plans.Level as Level
use Rattle.lt_query.specs.contracts.plans.Plan as Plan
use Rattle.lt_query.specs.contracts.plans.Route as Route
use Rattle.lt_query.specs.contracts.planned.Planned as Planned
use Rattle.lt_base.specs.contracts.database.Database as Database
use Rattle.lt_sense.specs.contracts.no_sense.NoSense as NoSense
use Rattle.lt_sense.specs.contracts.spans.Spans as Spans
use Rattle.lt_sense.specs.contracts.sense.Sense as Sense
use Rattle.lt_join.proofs.Crossing.{slices_send, slices_sync}
use Rattle.lt_program.specs.contracts.course.Course as Course
use Rattle.lt_program.specs.contracts.course.Laid as Laid
use Rattle.lt_program.specs.contracts.part.Certificate as Certificate
use Rattle.lt_program.specs.contracts.part.Found as Found
use Rattle.lt_program.specs.contracts.part.Part as Part
use Rattle.lt_program.specs.contracts.part.Part.TheInside as PartInside
use Rattle.lt_program.specs.contracts.part.SharedPart as SharedPart
use Rattle.lt_program.specs.contracts.tally.Tally as Tally
use Rattle.lt_program.specs.contracts.tally.Tally.TheInside as TallyInside
use Rattle.lt_batch.specs.contracts.ahead.Ahead as Ahead
use Rattle.lt_batch.specs.contracts.leaf.LeafTally as LeafTally
use Rattle.lt_batch.specs.contracts.work.BatchWork as BatchWork

-- ---- a sense

none_send : IsSend NoSense.the_row
none_send = search (sendable, crosses) depth 30

abbrev none_shape : Shape
none_shape = record { name = (NoSense.struct).name; args = (NoSense.struct).args; types = (NoSense.struct).types; fields = rows (NoSense.struct).parts }

none_sync : IsSync NoSense.the_row
none_sync = record { shared = λ d b o κ q. whole-keyless _ _ (λ x vs. ((struct_send none_shape tt).owned (intos (NoSense.struct).parts ((NoSense.struct).as_values x)) vs, tt)) q d b o }

spans_send : IsSend Spans.the_row
spans_send = search (sendable, crosses) depth 30

spans_sync : IsSync Spans.the_row
spans_sync = search (sendable, crosses) depth 30

sense_send : IsSend Sense.the_row
sense_send = search (sendable, crosses, none_send, spans_send) depth 30

sense_sync : IsSync Sense.the_row
sense_sync = search (sendable, crosses, none_sync, spans_sync) depth 30

-- ---- a part

found_send : IsSend Found.the_row
found_send = search (sendable, crosses) depth 60 fits 20000

found_sync : IsSync Found.the_row
found_sync = search (sendable, crosses) depth 60 fits 20000

certificate_send : IsSend Certificate.the_row
certificate_send = search (sendable, sense_send, slices_send) depth 30

certificate_sync : IsSync Certificate.the_row
certificate_sync = search (sendable, sense_sync, slices_sync) depth 30

inside_send : IsSend PartInside.the_row
inside_send = declared_send PartInside.the_type (found_send, (certificate_send, tt))

inside_sync : IsSync PartInside.the_row
inside_sync = declared_sync PartInside.the_type (found_sync, (certificate_sync, tt))

part_send : IsSend Part.the_row
part_send = search (sendable, inside_send) depth 30

part_sync : IsSync Part.the_row
part_sync = search (sendable, inside_sync) depth 30

shared_send : IsSend SharedPart.the_row
shared_send = search (sendable, crosses, part_send, part_sync) depth 30

shared_sync : IsSync SharedPart.the_row
shared_sync = search (sendable, crosses, part_send, part_sync) depth 30

-- ---- a program

stmt_send : IsSend Stmt.the_row
stmt_send = search (sendable, crosses) depth 60 fits 20000

stmt_sync : IsSync Stmt.the_row
stmt_sync = search (sendable, crosses) depth 60 fits 20000

level_send : IsSend Level.the_row
level_send = search (sendable, crosses) depth 60 fits 20000

level_sync : IsSync Level.the_row
level_sync = search (sendable, crosses) depth 60 fits 20000

guides_send : IsSend Guides.the_row
guides_send = search (sendable, crosses) depth 60 fits 20000

guides_sync : IsSync Guides.the_row
guides_sync = search (sendable, crosses) depth 60 fits 20000

plan_send : IsSend Plan.the_row
plan_send = search (sendable, crosses, level_send, guides_send) depth 30

plan_sync : IsSync Plan.the_row
plan_sync = search (sendable, crosses, level_sync, guides_sync) depth 30

route_send : IsSend Route.the_row
route_send = search (sendable, crosses, guides_send) depth 30

route_sync : IsSync Route.the_row
route_sync = search (sendable, crosses, guides_sync) depth 30

planned_send : IsSend Planned.the_row
planned_send = search (sendable, crosses, stmt_send, stmt_sync, route_send, route_sync, plan_send) depth 30

planned_sync : IsSync Planned.the_row
planned_sync = search (sendable, crosses, stmt_send, stmt_sync, route_send, route_sync, plan_sync) depth 30

-- ---- a run

base_send : IsSend Database.the_row
base_send = search (sendable, crosses) depth 60 fits 20000

base_sync : IsSync Database.the_row
base_sync = search (sendable, crosses) depth 60 fits 20000

laid_send : IsSend Laid.the_row
laid_send = search (sendable, crosses, base_send) depth 60 fits 20000

laid_sync : IsSync Laid.the_row
laid_sync = search (sendable, crosses, base_sync) depth 60 fits 20000

course_send : IsSend Course.the_row
course_send = search (sendable, crosses, shared_send, laid_send) depth 60 fits 20000

course_sync : IsSync Course.the_row
course_sync = search (sendable, crosses, shared_sync, laid_sync) depth 60 fits 20000

inner_send : IsSend TallyInside.the_row
inner_send = declared_send TallyInside.the_type (search (as_row_send, sendable, crosses, planned_send, planned_sync) depth 30, (search (as_row_send, sendable, base_send) depth 30, (course_send, tt)))

inner_sync : IsSync TallyInside.the_row
inner_sync = declared_sync TallyInside.the_type (search (as_row_sync, sendable, crosses, planned_send, planned_sync) depth 30, (search (as_row_sync, sendable, base_sync) depth 30, (course_sync, tt)))

run_send : IsSend Tally.the_row
run_send = search (sendable, inner_send) depth 60

run_sync : IsSync Tally.the_row
run_sync = search (sendable, inner_sync) depth 60

-- ---- what is run ahead, a leaf's tally, and the work

pub ahead_send : IsSend Ahead.the_row
ahead_send = search (sendable, crosses, run_send) depth 60 fits 20000

pub tally_send : IsSend LeafTally.the_row
tally_send = search (sendable, crosses, run_send) depth 60 fits 20000

pub tally_sync : IsSync LeafTally.the_row
tally_sync = search (sendable, crosses, run_sync) depth 60 fits 20000

pub work_send : IsSend BatchWork.the_row
work_send = search (sendable, crosses, tally_send, base_send, planned_send, planned_sync) depth 60 fits 20000

pub work_sync : IsSync BatchWork.the_row
work_sync = search (sendable, crosses, tally_sync, base_sync, planned_send, planned_sync) depth 60 fits 20000
