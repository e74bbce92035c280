-- The summary of the generated script.
use Rattle.std.specs.Prelude.{ℕ, zero, suc, ◌*◌, ℤ, pos, ◌+ℤ◌, List, [], ◌∷◌, ◌++◌, map, false, fold, filter_map, slice_index, Option, Some, None, codes, decimal}
use Rattle.std.specs.Fmt.{signed_decimal}
use Rattle.lt_face.specs.State.{Row, State, rows_in}
use Rattle.lt_model.specs.Cells.{int_or_none, cell_int}
use Rattle.lt_model.specs.Schema.{number_of}
use Rattle.lt_model.specs.Report.{Text, World, line, opening, step}
use Rattle.lt_gen.specs.declared.summary.Summary.{Summary}
use Rattle.lt_gen.specs.Script.{bench_items}
use Rattle.lt_gen.specs.Answered.{answers_from, done_count, refused_count, printed_count}

-- ---- sums of columns

-- the int of a cell, and 0 where it is none
abbrev pub int_or_zero : Option ℕ → ℤ
int_or_zero None = pos 0
int_or_zero (Some cell) = cell_int cell

-- the ints in a column, from 0 on
abbrev pub ints_in : ℕ → List Row → List ℤ
ints_in column rows = map cell_int (filter_map (λ row. int_or_none (slice_index row column)) rows)

abbrev pub sum_of_ints : List ℤ → ℤ
sum_of_ints ints = fold (λ sum int. sum +ℤ int) (pos 0) ints

abbrev pub column_sum : ℕ → List Row → ℤ
column_sum column rows = sum_of_ints (ints_in column rows)

-- ---- relations by name

-- the rows of a relation; none where it isn't there
abbrev pub rows_at : State → Option ℕ → List Row
rows_at state None = []
rows_at state (Some relation) = rows_in state relation

abbrev pub rows_named : World → Text → List Row
rows_named w name = rows_at w.state (number_of w.schema name)

-- ---- the summary

-- where the script ends
abbrev pub last_world : ℕ → ℕ → ℕ → World
last_world seed items programs = fold (step false) opening (bench_items seed items programs)

-- how many queries so many readers make, if there are some
abbrev pub queries_of : ℕ → Option ℕ
queries_of zero = None
queries_of (suc readers) = Some (16 * suc readers)

-- what comes of the script, its programs run one after another: how many programs that buy there are, how many were done
-- and how many refused, how many rows were printed, how many of all items are left in stock, and how many were sold
abbrev pub summary_of : ℕ → ℕ → ℕ → ℕ → Summary
summary_of seed items programs readers =
    let answers = answers_from opening (bench_items seed items programs) in
    let last = last_world seed items programs in
    record {
      programs = programs;
      done = done_count answers;
      refused = refused_count answers;
      printed = printed_count answers;
      left = column_sum 1 (rows_named last (codes "stock"));
      sold = column_sum 2 (rows_named last (codes "sale"));
      reads = queries_of readers;
      equal = queries_of readers;
    }

-- the lines of the programs and how they ended
abbrev pub counts_text : Summary → Text
counts_text s = line (codes "programs" ∷ decimal s.programs ∷ []) ++ line (codes "done" ∷ decimal s.done ∷ []) ++ line (codes "refused" ∷ decimal s.refused ∷ [])

-- the lines of what was printed, and of what the relations have at the end
abbrev pub sums_text : Summary → Text
sums_text s = line (codes "printed" ∷ decimal s.printed ∷ []) ++ line (codes "left" ∷ signed_decimal s.left ∷ []) ++ line (codes "sold" ∷ signed_decimal s.sold ∷ [])

-- the line of a number that may not be there
abbrev pub count_text : Text → Option ℕ → Text
count_text word None = []
count_text word (Some n) = line (word ∷ decimal n ∷ [])

-- the lines of what was read beside the batches, where someone read
abbrev pub reads_text : Summary → Text
reads_text s = count_text (codes "reads") s.reads ++ count_text (codes "equal") s.equal

-- its six lines, or eight
abbrev pub summary_text : Summary → Text
summary_text s = counts_text s ++ sums_text s ++ reads_text s
