use Rattle.std.proofs.Common.{map}
use Rattle.std.specs.Prelude.{string_bytes}
use Rattle.lt_command.specs.Command.{command}
use Rattle.lt_session.proofs.CommandEnds as ends
use Rattle.lt_session.proofs.repair.repair_main.Goals as goal

pub returns-clause-reported : goal.returns-clause-reported
returns-clause-reported g c = ends.reported (command (map string_bytes c.args.words.now)) c.run_words.result c.code.result c.code.ensures _ _ _ _ _ _ _ _ c.run_words.ensures

pub returns-clause-faulty : goal.returns-clause-faulty
returns-clause-faulty g c = ends.faulty (command (map string_bytes c.args.words.now)) c.run_words.result c.code.result c.code.ensures _ _ _ _ _ _ _ _ c.run_words.ensures

pub returns-clause-traced : goal.returns-clause-traced
returns-clause-traced g c = ends.traced (command (map string_bytes c.args.words.now)) c.run_words.result c.code.result c.code.ensures _ _ _ _ _ _ _ _ c.run_words.ensures

pub returns-clause-traced_faulty : goal.returns-clause-traced_faulty
returns-clause-traced_faulty g c = ends.traced_faulty (command (map string_bytes c.args.words.now)) c.run_words.result c.code.result c.code.ensures _ _ _ _ _ _ _ _ c.run_words.ensures

pub returns-clause-replayed : goal.returns-clause-replayed
returns-clause-replayed g c = ends.replayed (command (map string_bytes c.args.words.now)) c.run_words.result c.code.result c.code.ensures _ _ _ _ _ _ _ _ c.run_words.ensures

pub returns-clause-fault_replayed : goal.returns-clause-fault_replayed
returns-clause-fault_replayed g c = ends.fault_replayed (command (map string_bytes c.args.words.now)) c.run_words.result c.code.result c.code.ensures _ _ _ _ _ _ _ _ c.run_words.ensures

pub returns-clause-refused : goal.returns-clause-refused
returns-clause-refused g c = ends.refused (command (map string_bytes c.args.words.now)) c.run_words.result c.code.result c.code.ensures _ _ _ _ _ _ _ _ c.run_words.ensures

pub returns-clause-replays_alone : goal.returns-clause-replays_alone
returns-clause-replays_alone g c = ends.replays_alone (command (map string_bytes c.args.words.now)) c.run_words.result c.code.result c.code.ensures _ _ _ _ _ _ _ _ c.run_words.ensures

pub returns-clause-summed : goal.returns-clause-summed
returns-clause-summed g c = ends.summed (command (map string_bytes c.args.words.now)) c.run_words.result c.code.result c.code.ensures _ _ _ _ _ _ _ _ c.run_words.ensures

pub returns-clause-unread : goal.returns-clause-unread
returns-clause-unread g c = ends.unread (command (map string_bytes c.args.words.now)) c.run_words.result c.code.result c.code.ensures _ _ _ _ _ _ _ _ c.run_words.ensures

pub returns-clause-words : goal.returns-clause-words
returns-clause-words g c = ends.words (command (map string_bytes c.args.words.now)) c.run_words.result c.code.result c.code.ensures _ _ _ _ _ _ _ _ c.run_words.ensures

pub returns-clause-not_taken : goal.returns-clause-not_taken
returns-clause-not_taken g c = ends.not_taken (command (map string_bytes c.args.words.now)) c.run_words.result c.code.result c.code.ensures _ _ _ _ _ _ _ _ c.run_words.ensures

pub returns-clause-usage : goal.returns-clause-usage
returns-clause-usage g c = ends.usage (command (map string_bytes c.args.words.now)) c.run_words.result c.code.result c.code.ensures _ _ _ _ _ _ _ _ c.run_words.ensures

pub returns-clause-read_fault : goal.returns-clause-read_fault
returns-clause-read_fault g c = ends.read_fault (command (map string_bytes c.args.words.now)) c.run_words.result c.code.result c.code.ensures _ _ _ _ _ _ _ _ c.run_words.ensures

pub returns-clause-write_fault : goal.returns-clause-write_fault
returns-clause-write_fault g c = ends.write_fault (command (map string_bytes c.args.words.now)) c.run_words.result c.code.result c.code.ensures _ _ _ _ _ _ _ _ c.run_words.ensures

pub returns-clause-too_long : goal.returns-clause-too_long
returns-clause-too_long g c = ends.too_long (command (map string_bytes c.args.words.now)) c.run_words.result c.code.result c.code.ensures _ _ _ _ _ _ _ _ c.run_words.ensures

pub returns-clause-bench_ends : goal.returns-clause-bench_ends
returns-clause-bench_ends g c = ends.bench_ended (command (map string_bytes c.args.words.now)) c.run_words.result c.code.result c.code.ensures _ _ _ _ _ _ _ _ c.run_words.ensures

pub returns-clause-known : goal.returns-clause-known
returns-clause-known g c = ends.known (command (map string_bytes c.args.words.now)) c.run_words.result c.code.result c.code.ensures _ _ _ _ _ _ _ _ c.run_words.ensures

pub returns-clause-part : goal.returns-clause-part
returns-clause-part g c = ends.part (command (map string_bytes c.args.words.now)) c.run_words.result c.code.result c.code.ensures _ _ _ _ _ _ _ _ c.run_words.ensures

pub returns-clause-long_part : goal.returns-clause-long_part
returns-clause-long_part g c = ends.long_part (command (map string_bytes c.args.words.now)) c.run_words.result c.code.result c.code.ensures _ _ _ _ _ _ _ _ c.run_words.ensures

pub returns-clause-traced_part : goal.returns-clause-traced_part
returns-clause-traced_part g c = ends.traced_stopped (command (map string_bytes c.args.words.now)) c.run_words.result c.code.result c.code.ensures _ _ _ _ _ _ _ _ c.run_words.ensures

pub returns-clause-traced_long_part : goal.returns-clause-traced_long_part
returns-clause-traced_long_part g c = ends.traced_long_part (command (map string_bytes c.args.words.now)) c.run_words.result c.code.result c.code.ensures _ _ _ _ _ _ _ _ c.run_words.ensures

pub returns-clause-replay_part : goal.returns-clause-replay_part
returns-clause-replay_part g c = ends.replay_part (command (map string_bytes c.args.words.now)) c.run_words.result c.code.result c.code.ensures _ _ _ _ _ _ _ _ c.run_words.ensures

pub returns-clause-replay_long_part : goal.returns-clause-replay_long_part
returns-clause-replay_long_part g c = ends.replay_long_part (command (map string_bytes c.args.words.now)) c.run_words.result c.code.result c.code.ensures _ _ _ _ _ _ _ _ c.run_words.ensures

pub returns-clause-bench_part : goal.returns-clause-bench_part
returns-clause-bench_part g c = ends.bench_part (command (map string_bytes c.args.words.now)) c.run_words.result c.code.result c.code.ensures _ _ _ _ _ _ _ _ c.run_words.ensures

pub returns-clause-bench_unwritten : goal.returns-clause-bench_unwritten
returns-clause-bench_unwritten g c = ends.bench_unwritten (command (map string_bytes c.args.words.now)) c.run_words.result c.code.result c.code.ensures _ _ _ _ _ _ _ _ c.run_words.ensures

pub returns-clause-usage_part : goal.returns-clause-usage_part
returns-clause-usage_part g c = ends.usage_part (command (map string_bytes c.args.words.now)) c.run_words.result c.code.result c.code.ensures _ _ _ _ _ _ _ _ c.run_words.ensures

pub returns-clause-usage_unwritten : goal.returns-clause-usage_unwritten
returns-clause-usage_unwritten g c = ends.usage_unwritten (command (map string_bytes c.args.words.now)) c.run_words.result c.code.result c.code.ensures _ _ _ _ _ _ _ _ c.run_words.ensures

pub returns-clause-complete : goal.returns-clause-complete
returns-clause-complete g c = ends.complete (command (map string_bytes c.args.words.now)) c.run_words.result c.code.result c.code.ensures _ _ _ _ _ _ _ _ c.run_words.ensures

pub returns-clause-traced_complete : goal.returns-clause-traced_complete
returns-clause-traced_complete g c = ends.traced_completed (command (map string_bytes c.args.words.now)) c.run_words.result c.code.result c.code.ensures _ _ _ _ _ _ _ _ c.run_words.ensures

pub returns-clause-replay_complete : goal.returns-clause-replay_complete
returns-clause-replay_complete g c = ends.replay_completed (command (map string_bytes c.args.words.now)) c.run_words.result c.code.result c.code.ensures _ _ _ _ _ _ _ _ c.run_words.ensures

pub returns-clause-bench_complete : goal.returns-clause-bench_complete
returns-clause-bench_complete g c = ends.bench_completed (command (map string_bytes c.args.words.now)) c.run_words.result c.code.result c.code.ensures _ _ _ _ _ _ _ _ c.run_words.ensures
