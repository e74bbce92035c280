-- Worked examples of rows with edits laid over them, of the rows that marks put in and take out, of the row above a row, and
-- of rows on which states differ. By computation.
use Rattle.std.proofs.Common.{◌≡◌, true, false, List, [], ◌∷◌, Some, None, refl}
use Rattle.lt_face.specs.State.{Row, State}
use Rattle.lt_face.specs.Rows.{first_above, behind}
use Rattle.lt_model.specs.Marks.{Marks}
use Rattle.lt_delta.specs.Laying.{rows_laid, marked}
use Rattle.lt_flat.specs.Flat.{kept}
use Rattle.lt_over.specs.Overlaid.{overlaid, stays}
use Rattle.lt_base.specs.Changed.{differ_on}

-- 1, 5 and 9
abbrev three : List Row
three = (1 ∷ []) ∷ (5 ∷ []) ∷ (9 ∷ []) ∷ []

-- ---- edits

first_taken_out : overlaid three ((1 ∷ []) ∷ []) [] ≡ (5 ∷ []) ∷ (9 ∷ []) ∷ []
first_taken_out = refl

last_taken_out : overlaid three ((9 ∷ []) ∷ []) [] ≡ (1 ∷ []) ∷ (5 ∷ []) ∷ []
last_taken_out = refl

put_in_before_all : overlaid three [] ((0 ∷ []) ∷ []) ≡ (0 ∷ []) ∷ three
put_in_before_all = refl

put_in_behind_all : overlaid three [] ((12 ∷ []) ∷ []) ≡ (1 ∷ []) ∷ (5 ∷ []) ∷ (9 ∷ []) ∷ (12 ∷ []) ∷ []
put_in_behind_all = refl

-- a row put in that is there, and one taken out that isn't, change nothing
put_in_where_it_is : overlaid three [] ((1 ∷ []) ∷ (9 ∷ []) ∷ []) ≡ three
put_in_where_it_is = refl

taken_out_where_it_is_not : overlaid three ((2 ∷ []) ∷ []) [] ≡ three
taken_out_where_it_is_not = refl

-- a row both taken out and put in is there
taken_out_and_put_in : overlaid three ((5 ∷ []) ∷ []) ((5 ∷ []) ∷ []) ≡ three
taken_out_and_put_in = refl

five_stays : stays three ((1 ∷ []) ∷ []) (5 ∷ []) ≡ true
five_stays = refl

one_does_not_stay : stays three ((1 ∷ []) ∷ []) (1 ∷ []) ≡ false
one_does_not_stay = refl

without_two_rows : kept three ((9 ∷ []) ∷ (1 ∷ []) ∷ []) ≡ (5 ∷ []) ∷ []
without_two_rows = refl

-- ---- marks: a row of one relation goes and another comes, and a row of a second relation comes

abbrev marks : Marks
marks =
    record { relation = 0; row = 5 ∷ []; plus = false } ∷ record { relation = 0; row = 7 ∷ []; plus = true }
    ∷ record { relation = 1; row = 1 ∷ []; plus = true } ∷ []

rows_that_come : marked 0 true marks ≡ (7 ∷ []) ∷ []
rows_that_come = refl

rows_that_go : marked 0 false marks ≡ (5 ∷ []) ∷ []
rows_that_go = refl

none_goes_elsewhere : marked 1 false marks ≡ []
none_goes_elsewhere = refl

-- the marks laid on the rows are the rows that go and come laid over them
laid_by_edits : rows_laid 0 three marks ≡ overlaid three (marked 0 false marks) (marked 0 true marks)
laid_by_edits = refl

-- ---- the row above

above_a_row_that_is_there : first_above three (5 ∷ []) ≡ Some (9 ∷ [])
above_a_row_that_is_there = refl

above_a_row_that_is_not : first_above three (6 ∷ []) ≡ Some (9 ∷ [])
above_a_row_that_is_not = refl

above_the_last : first_above three (9 ∷ []) ≡ None
above_the_last = refl

behind_none : behind three None ≡ None
behind_none = refl

-- ---- rows on which states differ

abbrev before : State
before = record { width = 1; rows = three } ∷ []

abbrev after : State
after = record { width = 1; rows = (1 ∷ []) ∷ (7 ∷ []) ∷ (9 ∷ []) ∷ [] } ∷ []

one_left : differ_on before after 0 (5 ∷ []) ≡ true
one_left = refl

one_came : differ_on before after 0 (7 ∷ []) ≡ true
one_came = refl

in_both : differ_on before after 0 (9 ∷ []) ≡ false
in_both = refl

in_neither : differ_on before after 0 (6 ∷ []) ≡ false
in_neither = refl

-- no relation has this number
of_no_relation : differ_on before after 3 (5 ∷ []) ≡ false
of_no_relation = refl
