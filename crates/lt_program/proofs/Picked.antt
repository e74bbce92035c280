-- The terms that a join answers.
use Rattle.std.proofs.Common.{◌≡◌, ℕ, List, length, sym, subst, arith}
use Rattle.std.specs.Prelude.{filter_map}
use Rattle.lt_face.specs.Rows.{IsAscending}
use Rattle.lt_face.specs.State.{Row, State}
use Rattle.lt_model.specs.declared.normal.Term.{Term}
use Rattle.lt_model.specs.declared.normal.Atom.{Atom}
use Rattle.lt_model.specs.declared.normal.Body.{Body}
use Rattle.lt_model.specs.Answers.{answers, answer_of, picks}
use Rattle.lt_model.specs.Fits.{IsBodyOf, IsHeadOf, ArePrintedOf}
use Rattle.lt_query.specs.Runnable.{AreWide}
use Rattle.lt_program.specs.Planned.{ArePicked}
use Rattle.lt_query.proofs.Ascending.{IsAscending-ascending}
use Rattle.lt_program.proofs.Widths.{width_at}

pub head_picked : (state : State) (body : Body) (head : Atom) → AreWide state → IsBodyOf state body → IsHeadOf state body head → ArePicked body head.terms
head_picked state body head wide fits h = record { narrow = width_at state head.relation (length head.terms) wide h.fits.is_wide; within = h.fits.has_terms; bound = h.is_bound }

pub print_picked : (body : Body) (terms : List Term) (kinds : ℕ) → ArePrintedOf body terms kinds → ArePicked body terms
print_picked body terms kinds h = record { narrow = omega (arith, h.is_wide, h.has_few); within = h.has_terms; bound = h.is_bound }

pub answers_rise : (terms : List Term) (body : Body) (state : State) (rows : List Row) → rows ≡ answers terms body state → IsAscending rows
answers_rise terms body state rows is = subst IsAscending (sym is) (IsAscending-ascending (filter_map (answer_of terms body state) (picks body.atoms state)))
