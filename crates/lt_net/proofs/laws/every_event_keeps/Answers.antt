use Rattle.lt_net.specs.Tree.{circuit_net, tree_of}
use Rattle.lt_net.proofs.Kept.{reached_bare}
use Rattle.lt_net.proofs.Serial.{reached_kept, reached_root}
use Rattle.lt_net.proofs.laws.every_event_keeps.Goals as goal

pub returns-clause-clean : goal.returns-clause-clean
returns-clause-clean c = λ effect n events s h. (reached_kept effect n events s h).clean

pub returns-clause-current : goal.returns-clause-current
returns-clause-current c = λ effect n events s h. (reached_kept effect n events s h).current

pub returns-clause-captured : goal.returns-clause-captured
returns-clause-captured c = λ effect n events s h. (reached_kept effect n events s h).captured

pub returns-clause-held : goal.returns-clause-held
returns-clause-held c = λ effect n events s h. (reached_kept effect n events s h).held

pub returns-clause-single : goal.returns-clause-single
returns-clause-single c = λ effect n events s h. (reached_kept effect n events s h).single

pub returns-clause-holder : goal.returns-clause-holder
returns-clause-holder c = λ effect n events s h. (reached_kept effect n events s h).holder

pub returns-clause-idle : goal.returns-clause-idle
returns-clause-idle c = λ effect n events s h. (reached_kept effect n events s h).idle

pub returns-clause-bare : goal.returns-clause-bare
returns-clause-bare c = λ effect n events s h. reached_bare (circuit_net effect (tree_of n)) events s h

pub returns-clause-root : goal.returns-clause-root
returns-clause-root c = reached_root
