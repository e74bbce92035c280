-- What may cross to another thread, and what threads may read at once.
use denote.Param.Send.{IsSend, IsSync, sendable, struct_send, whole-keyless}
use denote.Struct.Field.{rows}
use denote.Struct.Struct.{Shape}
use denote.Struct.Values.{intos}
use Rattle.std.proofs.Crossing.{crosses}
use Rattle.lt_sense.specs.contracts.by_key.GatheringByKey as GatheringByKey
use Rattle.lt_sense.specs.contracts.by_key_rest.KeyLists as KeyLists
use Rattle.lt_sense.specs.contracts.by_key_seen.SeenByKey as SeenByKey
use Rattle.lt_sense.specs.contracts.by_key_sense.SenseByKey as SenseByKey
use Rattle.lt_sense.specs.contracts.spans.Spans as Spans
use Rattle.lt_join.specs.contracts.key_rows.KeyRows as KeyRows
use Rattle.lt_join.specs.contracts.sliced.Gathered as Gathered
use Rattle.lt_join.specs.contracts.sliced.Slices as Slices

rows_send : IsSend KeyRows.the_row
rows_send = search (sendable, crosses) depth 30

rows_sync : IsSync KeyRows.the_row
rows_sync = search (sendable, crosses) depth 30

spans_send : IsSend Spans.the_row
spans_send = search (sendable, crosses) depth 30

spans_sync : IsSync Spans.the_row
spans_sync = search (sendable, crosses) depth 30

rest_send : IsSend KeyLists.the_row
rest_send = search (sendable, crosses, spans_send, spans_sync) depth 30

rest_sync : IsSync KeyLists.the_row
rest_sync = search (sendable, crosses, spans_send, spans_sync) depth 30

seen_send : IsSend SeenByKey.the_row
seen_send = search (sendable, crosses) depth 30

abbrev seen_shape : Shape
seen_shape = record { name = (SeenByKey.struct).name; args = (SeenByKey.struct).args; types = (SeenByKey.struct).types; fields = rows (SeenByKey.struct).parts }

seen_sync : IsSync SeenByKey.the_row
seen_sync = record { shared = λ d b o κ q. whole-keyless _ _ (λ x vs. ((struct_send seen_shape tt).owned (intos (SeenByKey.struct).parts ((SeenByKey.struct).as_values x)) vs, tt)) q d b o }

gathering_send : IsSend GatheringByKey.the_row
gathering_send = search (sendable, crosses, seen_send, spans_send, rest_send) depth 30

sense_send : IsSend SenseByKey.the_row
sense_send = search (sendable, crosses, seen_send, spans_send, rest_send) depth 30

sense_sync : IsSync SenseByKey.the_row
sense_sync = search (sendable, crosses, seen_sync, spans_sync, rest_sync) depth 30

-- what was gathered by key
pub gathered_send : IsSend Gathered.the_row
gathered_send = search (sendable, crosses, gathering_send, rows_send) depth 30

-- and what is kept of it
pub slices_send : IsSend Slices.the_row
slices_send = search (sendable, crosses, sense_send, rows_send) depth 30

pub slices_sync : IsSync Slices.the_row
slices_sync = search (sendable, crosses, sense_sync, rows_sync) depth 30
