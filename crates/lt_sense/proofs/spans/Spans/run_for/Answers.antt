use Rattle.std.proofs.Common.{◌≡◌, ◌++◌, ◌∷◌, [], length, take, map, slice_get, sym, ap, ◌∙◌, arith, refl, append-nil}
use Rattle.std.proofs.lemmas.List.{length-take-le}
use Rattle.lt_sense.specs.Spans.{still, prefix_in}
use Rattle.lt_sense.proofs.Spanned.{stills_grown, run_sound, pushed_is, run_made}
use Rattle.lt_sense.proofs.spans.Spans.run_for.Goals as goal

pub returns-in_err-push-clause-stills : goal.returns-in_err-push-clause-stills
returns-in_err-push-clause-stills c =
    let s = c.args.self.now in
    let row = take c.args.depth s.at in
    let cells = c.in_ok-extend_from_slice.ensures.items ∙ ap (λ xs. s.cells.items ++ take c.args.depth xs) c.cells.ensures.cells in
    ap (λ rs. map (still s.relation s.columns rs c.extend_from_slice.new.self.items) s.ranges.items) (c.in_err-push.ensures.items ∙ sym (append-nil s.runs.items))
    ∙ ap (λ cs. map (still s.relation s.columns (s.runs.items ++ []) cs) s.ranges.items) cells
    ∙ stills_grown s.relation s.columns s.runs.items [] s.cells.items row s.ranges.items c.requires.sound.runs c.requires.sound.ranges

pub returns-clause-sound : goal.returns-clause-sound
returns-clause-sound c =
    let s = c.args.self.now in
    let row = take c.args.depth s.at in
    let cells = c.in_ok-extend_from_slice.ensures.items ∙ ap (λ xs. s.cells.items ++ take c.args.depth xs) c.cells.ensures.cells in
    let start : c.len-start.result ≡ length s.cells.items = omega (arith, c.len-start.ensures) in
    let width : c.args.depth ≡ length row = sym (length-take-le c.args.depth s.at c.requires.within) in
    run_sound s (record s { cells = c.extend_from_slice.new.self; runs = c.push.new.self }) row c.requires.sound (omega (arith, sym width, c.requires.within, c.cells.ensures.bound))
    (record { relation = refl; columns = refl; at = refl; lo = refl; hi = refl; above = refl }) refl cells
    (pushed_is s.runs.items c.push.new.self.items c.len-start.result c.args.depth (length s.cells.items) (length row) c.in_ok-push.ensures.items start width)

pub returns-clause-stills : goal.returns-clause-stills
returns-clause-stills c =
    let s = c.args.self.now in
    let row = take c.args.depth s.at in
    let cells = c.in_ok-extend_from_slice.ensures.items ∙ ap (λ xs. s.cells.items ++ take c.args.depth xs) c.cells.ensures.cells in
    ap (λ rs. map (still s.relation s.columns rs c.extend_from_slice.new.self.items) s.ranges.items) c.in_ok-push.ensures.items
    ∙ ap (λ cs. map (still s.relation s.columns (s.runs.items ++ record { start = c.len-start.result; width = c.args.depth } ∷ []) cs) s.ranges.items) cells
    ∙ stills_grown s.relation s.columns s.runs.items (record { start = c.len-start.result; width = c.args.depth } ∷ []) s.cells.items row s.ranges.items c.requires.sound.runs c.requires.sound.ranges

pub returns-clause-run : goal.returns-clause-run
returns-clause-run c =
    let s = c.args.self.now in
    let row = take c.args.depth s.at in
    let cells = c.in_ok-extend_from_slice.ensures.items ∙ ap (λ xs. s.cells.items ++ take c.args.depth xs) c.cells.ensures.cells in
    let start : c.len-start.result ≡ length s.cells.items = omega (arith, c.len-start.ensures) in
    let count : c.len-count.result ≡ length s.runs.items = omega (arith, c.len-count.ensures) in
    let width : c.args.depth ≡ length row = sym (length-take-le c.args.depth s.at c.requires.within) in
    ap (λ cs. prefix_in cs (slice_get c.push.new.self.items c.len-count.result)) cells
    ∙ ap (λ rs. prefix_in (s.cells.items ++ row) (slice_get rs c.len-count.result)) (pushed_is s.runs.items c.push.new.self.items c.len-start.result c.args.depth (length s.cells.items) (length row) c.in_ok-push.ensures.items start width)
    ∙ ap (λ n. prefix_in (s.cells.items ++ row) (slice_get (s.runs.items ++ record { start = length s.cells.items; width = length row } ∷ []) n)) count
    ∙ run_made s.runs.items s.cells.items row
