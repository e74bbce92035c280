use denote.Param.Send.{IsSync, struct_send, whole-keyless}
use denote.Struct.Field.{rows}
use denote.Struct.Struct.{Shape}
use denote.Struct.Values.{intos}
use Rattle.lt_sense.specs.contracts.by_key_seen.SeenByKey as made

abbrev shape : Shape
shape = record { name = (made.struct).name; args = (made.struct).args; types = (made.struct).types; fields = rows (made.struct).parts }

pub sync : IsSync made.the_row
sync = record { shared = λ d b o κ q. whole-keyless _ _ (λ x vs. ((struct_send shape tt).owned (intos (made.struct).parts ((made.struct).as_values x)) vs, tt)) q d b o }
