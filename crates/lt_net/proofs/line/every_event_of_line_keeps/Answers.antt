use Rattle.lt_net.specs.Line.{line_net}
use Rattle.lt_net.proofs.Kept.{reached_bare}
use Rattle.lt_net.proofs.Lines.{line_kept, first_root}
use Rattle.lt_net.proofs.line.every_event_of_line_keeps.Goals as goal

pub returns-clause-kept : goal.returns-clause-kept
returns-clause-kept c = λ effect sizes events s small h. line_kept sizes small effect events s h

pub returns-clause-bare : goal.returns-clause-bare
returns-clause-bare c = λ effect sizes events s small h. reached_bare (line_net effect sizes) events s h

pub returns-clause-root : goal.returns-clause-root
returns-clause-root c = λ effect sizes events s small h. first_root sizes small effect s (reached_bare (line_net effect sizes) events s h)
