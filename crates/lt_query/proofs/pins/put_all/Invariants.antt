use Rattle.std.proofs.Common.{◌≡◌, map, take, length}
use Rattle.lt_model.specs.Forms.{put}
use Rattle.lt_query.proofs.pins.put_all.Given as goal

abbrev pub invariant-loop-i : goal.invariant-loop-i
invariant-loop-i l =
    record {
      long : length l.keys ≡ length l.of_form;
      same : take l.i l.keys ≡ map (put l.cells) (take l.i l.of_form);
    }
