use Rattle.std.proofs.Common.{◌≡◌, map, take, length}
use Rattle.lt_model.specs.Forms.{put, on_normal}
use Rattle.lt_query.proofs.filling.refill_terms.Given as goal

abbrev pub invariant-loop-i : goal.invariant-loop-i
invariant-loop-i l =
    record {
      long : length l.list.items ≡ length l.of_form;
      same : take l.i l.list.items ≡ map (on_normal (put l.cells)) (take l.i l.of_form);
    }
