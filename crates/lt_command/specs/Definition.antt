-- The commands, as the parser of command lines reads them.
use Rattle.std.specs.Prelude.{ℕ, Some, codes, pos, true}
use Rattle.lt_face.specs.Limits.{most_workers}
use Rattle.clap.specs.Words.{App, Rule, new_app, new_rule, with_rule, with_subcommand}
use Rattle.clap.specs.declared.builder.value_parser.ValueParser.TheVariants.{Signed, Unsigned}
use Rattle.clap.specs.declared.builder.action.ArgAction.TheVariants.{SetTrue}

-- things that a generated script has in stock
abbrev pub most_items : ℕ
most_items = 16384

-- programs of a generated script that buy
abbrev pub most_buyers : ℕ
most_buyers = 65536

-- readers beside the batches of a bench
abbrev pub most_readers : ℕ
most_readers = 8

-- batches that run as one line
abbrev pub most_in_line : ℕ
most_in_line = 8

-- `--workers N`, with N from 1 to 16
abbrev pub workers : Rule
workers = record (new_rule (codes "workers")) {
  long = Some (codes "workers");
  parser = Some (Signed (pos 1) (pos most_workers));
}

-- `--pipeline D`, with D from 1 to 8
abbrev pub pipeline : Rule
pipeline = record (new_rule (codes "pipeline")) {
  long = Some (codes "pipeline");
  parser = Some (Signed (pos 1) (pos most_in_line));
}

-- `--marks`
abbrev pub marks : Rule
marks = record (new_rule (codes "marks")) {
  long = Some (codes "marks");
  action = Some SetTrue;
}

-- `--trace`
abbrev pub trace : Rule
trace = record (new_rule (codes "trace")) {
  long = Some (codes "trace");
  action = Some SetTrue;
}

-- `--seed S`, with S below 2^64
abbrev pub seed : Rule
seed = record (new_rule (codes "seed")) {
  long = Some (codes "seed");
  required = true;
  parser = Some (Unsigned 0 18446744073709551615);
}

-- `--items I`, with I from 1 to 16384
abbrev pub items : Rule
items = record (new_rule (codes "items")) {
  long = Some (codes "items");
  required = true;
  parser = Some (Signed (pos 1) (pos most_items));
}

-- `--programs P`, with P from 1 to 65536
abbrev pub programs : Rule
programs = record (new_rule (codes "programs")) {
  long = Some (codes "programs");
  required = true;
  parser = Some (Signed (pos 1) (pos most_buyers));
}

-- `--readers M`, with M from 0 to 8
abbrev pub readers : Rule
readers = record (new_rule (codes "readers")) {
  long = Some (codes "readers");
  parser = Some (Signed (pos 0) (pos most_readers));
}

-- `run`
abbrev pub run : App
run = with_rule (with_rule (with_rule (with_rule (new_app (codes "run")) workers) pipeline) marks) trace

-- `bench`, as far as it says which script is generated
abbrev pub bench_of_script : App
bench_of_script = with_rule (with_rule (with_rule (new_app (codes "bench")) seed) items) programs

-- `bench`
abbrev pub bench : App
bench = with_rule (with_rule bench_of_script workers) readers

-- `replay`
abbrev pub replay : App
replay = with_rule (new_app (codes "replay")) marks

-- one of the commands is required
abbrev pub program : App
program =
    let a = new_app (codes "lt_shell") in
    record a { top = record a.top { subcommand_required = true } }

abbrev pub commands : App
commands = with_subcommand (with_subcommand (with_subcommand program run.top) bench.top) replay.top
