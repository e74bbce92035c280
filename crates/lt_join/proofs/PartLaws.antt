-- What a walk over a range of the first level's keys found, and how ranges go together.
use Rattle.std.specs.Prelude.{◌≡◌, ℕ, ◌+◌, ◌-◌, ◌^◌, ◌<◌, ◌≤◌, true, List, [], ◌∷◌, ◌++◌, length, drop, nat_lt, ◌⊎◌}
use Rattle.std.specs.List.{list_all}
use Rattle.std.proofs.Common.{refl, sym, ap, ◌∙◌, subst, inl, inr, arith}
use Rattle.std.proofs.lemmas.Bool.{and_parts, ltb-true, cases_lt}
use Rattle.std.proofs.lemmas.List.{length-append}
use Rattle.lt_face.specs.Lists.{IsIn, AnyByRecursion}
use Rattle.lt_face.specs.State.{Row, State, Has}
use Rattle.lt_face.proofs.Membership.{IsIn-append_left, IsIn-append_right, IsIn-append_cases}
use Rattle.lt_model.specs.declared.normal.Term.{Term}
use Rattle.lt_model.specs.declared.normal.Body.{Body}
use Rattle.lt_model.specs.Answers.{Assignment, cell_of, holds, passes, rows_under, answers, ascending}
use Rattle.lt_model.specs.Bound.{are_bound}
use Rattle.lt_model.specs.Cells.{is_cell}
use Rattle.lt_query.specs.declared.plans.Level.{Level}
use Rattle.lt_query.specs.declared.plans.Plan.{Plan}
use Rattle.lt_query.specs.Answering.{AreTestsBound}
use Rattle.lt_query.specs.Plan.{IsPlanOf, term_at, keys_under}
use Rattle.lt_query.proofs.Ascending.{IsAscending-ascending, IsIn-ascending, IsIn-ascending_from, ascending_same}
use Rattle.lt_query.proofs.Given.{IsIn-answers_of, IsAnswer-from_answers}
use Rattle.lt_sense.specs.declared.covering.Hit.{Hit}
use Rattle.lt_sense.specs.Kept.{Sense}
use Rattle.lt_sense.specs.Sense.{IsTight}
use Rattle.lt_join.specs.declared.Found.{Found}
use Rattle.lt_join.specs.Certify.{Certifies, IsMissed}
use Rattle.lt_join.specs.Explored.{AgreeBelow, IsHopeless, with_key}
use Rattle.lt_join.specs.Parts.{IsBetween, IsAnswerWithin, IsPartOf, IsAtMost}
use Rattle.lt_join.specs.Walked.{at, Grows, AreFoundUnder}
use Rattle.lt_join.specs.Way.{WayView}
use Rattle.lt_join.proofs.Costs.{IsCredited}
use Rattle.lt_join.proofs.Leaves.{collected_below, certified_below}
use Rattle.lt_join.proofs.Lists.{all_append}
use Rattle.lt_join.proofs.Repair.{GapIsTight, IsAscending-answers, not_missed}
use Rattle.lt_join.proofs.SliceLaws.{one_less, stands_for_grows}
use Rattle.lt_join.proofs.Steps.{IsDone, IsUnderWay, explored_settled, explored_under, never_early}
use Rattle.lt_join.proofs.Walks.{followed_at, key_is_cell}

-- ---- the walk

-- the rows that were found are answers in the range
abbrev pub AreWithin : List Term → Body → State → Term → ℕ → ℕ → List Row → Type 0
AreWithin terms body state term lo hi rows = (row : Row) → IsIn row rows → IsAnswerWithin terms body state term lo hi row

-- what was found under one key of the range
pub within_more : {S : Type 0} → (terms : List Term) (body : Body) (plan : Plan) (state : State) (lo hi key : ℕ) (old new : Found S) → lo ≤ key → key < hi → AreFoundUnder terms body plan state (key ∷ []) old new → AreWithin terms body state (term_at plan.levels 0) lo hi old.rows → AreWithin terms body state (term_at plan.levels 0) lo hi new.rows
within_more terms body plan state lo hi key old new from below under so row there =
    elim (under row there) [
      | inl before ↦ so row before
      | inr u ↦ let is : cell_of u.0 (term_at plan.levels 0) ≡ key = u.4 0 (omega arith) in (u.0, u.1, u.2, u.3, u.5, (omega arith, omega arith))
    ]

pub at_most_paid : (atoms : ℕ) (sense : Sense) (begun now key : ℕ) → IsCredited atoms (record { gaps = []; hits = [] }) sense begun now key → IsAtMost sense (now - begun)
at_most_paid atoms sense begun now key so =
    let g = so.gains.gaps in
    let h = so.gains.hits in
    record { gaps = omega arith; hits = omega arith }

module _ {S : Type 0} (way : WayView) (of_body : IsPlanOf way.body way.plan) (some : 0 < length way.plan.levels) (whole : AreTestsBound way.body) (begun found : Found S) (level : Level) (lo hi key : ℕ)
    (ended : hi ≤ key) (on : IsUnderWay way begun [] level lo found key) where
  agree_first : (a : Assignment) → AgreeBelow 1 (with_key (at []) 0 (keys_under a way.plan.levels 0)) (keys_under a way.plan.levels)
  agree_first a m lt = let none : m ≡ 0 = omega arith in rw none refl

  -- where a walk over a range went for an assignment in it
  went : (a : Assignment) → holds a way.body ≡ true → IsBetween lo hi (cell_of a (term_at way.plan.levels 0)) → AnyByRecursion (IsMissed found.sense way.state a) way.body.atoms ⊎ IsDone way found [] (keys_under a way.plan.levels 0)
  went a held between =
      elim (followed_at way.body way.plan found.sense way.state on.right.tight a held of_body 0 (at []) some (λ m lt. absurd (omega arith))
      (λ k. IsBetween lo hi k → IsHopeless way.body way.plan.levels 1 (with_key (at []) 0 k) ⊎ IsDone way found [] k)
      (λ k cell. elim (cases_lt k lo) [
        | inl early ↦ inr (λ b. absurd (let f = b.0 in omega arith))
        | inr from ↦ elim (cases_lt k hi) [
          | inl below ↦ elim (on.done k cell from (omega arith)) [
            | inl skipped ↦ elim skipped [ inl passed ↦ inl passed | inr hopeless ↦ inr (λ b. inl hopeless) ]
            | inr done ↦ inr (λ b. inr done)
          ]
          | inr late ↦ inr (λ b. absurd (let t = b.1 in omega arith))
        ]
      ])) [
        | inl missed ↦ inl missed
        | inr there ↦ elim (there between) [ inl hopeless ↦ absurd (hopeless a (agree_first a) held) | inr done ↦ inr done ]
      ]

  pub part_found : length way.plan.levels ≤ way.wanted → are_bound way.body way.terms ≡ true → AreWithin way.terms way.body way.state (term_at way.plan.levels 0) lo hi found.rows → IsPartOf way.terms way.body way.state (term_at way.plan.levels 0) lo hi found.rows found.sense
  part_found all heads within =
      let tight = on.right.tight in
      let e = one_less way.plan.levels some in
      record {
        right = within;
        whole = λ row answer.
            elim (went answer.0 answer.1 answer.5) [
              | inl missed ↦ absurd (not_missed found.sense way.state answer.0 way.body.atoms answer.2 missed)
              | inr done ↦ subst (λ r. IsIn r found.rows) answer.3
                  (collected_below way of_body found whole heads tight (drop 1 way.plan.levels) 1 (with_key (at []) 0 (keys_under answer.0 way.plan.levels 0)) (explored_under way found [] (keys_under answer.0 way.plan.levels 0) done) e answer.0 (agree_first answer.0) answer.1 answer.2 answer.4)
            ];
        certified = λ a held between.
            elim (went a held between) [
              | inl missed ↦ inr (inl missed)
              | inr done ↦
                  certified_below way.body way.plan of_body found.sense way.state (drop 1 way.plan.levels) 1 (with_key (at []) 0 (keys_under a way.plan.levels 0)) whole tight
                  (explored_settled way found (never_early way (inr all)) (drop 1 way.plan.levels) 1 (with_key (at []) 0 (keys_under a way.plan.levels 0)) (explored_under way found [] (keys_under a way.plan.levels 0) done))
                  e a held (agree_first a)
            ];
        tight = tight;
      }

module _ (body : Body) (plan : Plan) (state : State) (of_body : IsPlanOf body plan) (some : 0 < length plan.levels) (whole : AreTestsBound body) where
  -- the first level's key of an assignment that holds is a cell
  first_cell : (sense : Sense) → IsTight sense state → (a : Assignment) → holds a body ≡ true → is_cell (cell_of a (term_at plan.levels 0)) ≡ true
  first_cell sense tight a held =
      let holder = of_body.held 0 some in
      key_is_cell body plan sense state tight a held 0 holder.0 holder.2 body.atoms plan.guides of_body.guides (and_parts (list_all (λ row. list_all is_cell row) (rows_under a body.atoms)) (list_all (passes a) body.tests) held).0 holder.1

  first_between : (sense : Sense) → IsTight sense state → (lo hi : ℕ) → lo ≡ 0 → 2 ^ 120 ≤ hi → (a : Assignment) → holds a body ≡ true → IsBetween lo hi (cell_of a (term_at plan.levels 0))
  first_between sense tight lo hi none high a held =
      let k = cell_of a (term_at plan.levels 0) in
      let small : k < 2 ^ 120 = ltb-true k (2 ^ 120) (and_parts (nat_lt 0 k) (nat_lt k (2 ^ 120)) (first_cell sense tight a held)).1 in
      (omega arith, omega arith)

  -- a range that all cells are in
  pub part_answers : (terms : List Term) (lo hi : ℕ) (rows : List Row) (sense : Sense) → are_bound body terms ≡ true → lo ≡ 0 → 2 ^ 120 ≤ hi → IsPartOf terms body state (term_at plan.levels 0) lo hi rows sense → ascending rows ≡ answers terms body state
  part_answers terms lo hi rows sense heads none high part =
      ascending_same (ascending rows) (answers terms body state) (IsAscending-ascending rows) (IsAscending-answers terms body state)
      (λ row there. let a = part.right row (IsIn-ascending_from row rows there) in IsIn-answers_of terms body state row whole heads (a.0, a.1, a.2, a.3, a.4))
      (λ row there.
      let a = IsAnswer-from_answers terms body state row there in
      IsIn-ascending row rows (part.whole row (a.0, a.1, a.2, a.3, a.4, first_between sense part.tight lo hi none high a.0 a.1)))

  pub part_certifies : (terms : List Term) (lo hi : ℕ) (rows : List Row) (sense : Sense) → lo ≡ 0 → 2 ^ 120 ≤ hi → IsPartOf terms body state (term_at plan.levels 0) lo hi rows sense → Certifies sense body state
  part_certifies terms lo hi rows sense none high part a held = part.certified a held (first_between sense part.tight lo hi none high a held)

-- ---- two ranges

pub grows_one : (one next both : Sense) → both.gaps ≡ one.gaps ++ next.gaps → both.hits ≡ one.hits ++ next.hits → Grows one both
grows_one one next both g h = record {
  gaps = λ gap there. subst (IsIn gap) (sym g) (IsIn-append_left gap one.gaps next.gaps there);
  hits = λ hit there. subst (IsIn hit) (sym h) (IsIn-append_left hit one.hits next.hits there);
}

pub grows_next : (one next both : Sense) → both.gaps ≡ one.gaps ++ next.gaps → both.hits ≡ one.hits ++ next.hits → Grows next both
grows_next one next both g h = record {
  gaps = λ gap there. subst (IsIn gap) (sym g) (IsIn-append_right gap one.gaps next.gaps there);
  hits = λ hit there. subst (IsIn hit) (sym h) (IsIn-append_right hit one.hits next.hits there);
}

pub tight_both : (one next both : Sense) (state : State) → both.gaps ≡ one.gaps ++ next.gaps → both.hits ≡ one.hits ++ next.hits → IsTight one state → IsTight next state → IsTight both state
tight_both one next both state g h a b = record {
  gaps = rw g (all_append (GapIsTight state) one.gaps next.gaps a.gaps b.gaps);
  hits = rw h (all_append (λ (hit : Hit). Has state hit.relation hit.row) one.hits next.hits a.hits b.hits);
}

pub at_most_both : (one next both : Sense) (m n : ℕ) → both.gaps ≡ one.gaps ++ next.gaps → both.hits ≡ one.hits ++ next.hits → IsAtMost one m → IsAtMost next n → IsAtMost both (m + n)
at_most_both one next both m n g h a b =
    let gs = ap length g ∙ length-append one.gaps next.gaps in
    let hs = ap length h ∙ length-append one.hits next.hits in
    let ag = a.gaps in
    let bg = b.gaps in
    let ah = a.hits in
    let bh = b.hits in
    record { gaps = omega arith; hits = omega arith }

-- a range and the next one
pub part_both : (terms : List Term) (body : Body) (state : State) (term : Term) (lo mid hi : ℕ) (rows more all : List Row) (one next both : Sense) → all ≡ rows ++ more → both.gaps ≡ one.gaps ++ next.gaps → both.hits ≡ one.hits ++ next.hits → lo ≤ mid → mid ≤ hi
    → IsPartOf terms body state term lo mid rows one → IsPartOf terms body state term mid hi more next → IsPartOf terms body state term lo hi all both
part_both terms body state term lo mid hi rows more all one next both is g h le le' a b = record {
  right = λ row there. elim (IsIn-append_cases row rows more (subst (IsIn row) is there)) [
    | inl first ↦ let w = a.right row first in let e = w.5.0 in let f = w.5.1 in (w.0, w.1, w.2, w.3, w.4, (omega arith, omega arith))
    | inr second ↦ let w = b.right row second in let e = w.5.0 in let f = w.5.1 in (w.0, w.1, w.2, w.3, w.4, (omega arith, omega arith))
  ];
  whole = λ row w. subst (IsIn row) (sym is) (let e = w.5.0 in let f = w.5.1 in elim (cases_lt (cell_of w.0 term) mid) [
    | inl early ↦ IsIn-append_left row rows more (a.whole row (w.0, w.1, w.2, w.3, w.4, (omega arith, early)))
    | inr late ↦ IsIn-append_right row rows more (b.whole row (w.0, w.1, w.2, w.3, w.4, (late, omega arith)))
  ]);
  certified = λ x held between. elim (cases_lt (cell_of x term) mid) [
    | inl early ↦ stands_for_grows one both (grows_one one next both g h) state x body (a.certified x held (between.0, early))
    | inr late ↦ stands_for_grows next both (grows_next one next both g h) state x body (b.certified x held (late, between.1))
  ];
  tight = tight_both one next both state g h a.tight b.tight;
}

-- its rows in order
pub part_sorted : (terms : List Term) (body : Body) (state : State) (term : Term) (lo hi : ℕ) (rows sorted : List Row) (sense : Sense) → sorted ≡ ascending rows → IsPartOf terms body state term lo hi rows sense → IsPartOf terms body state term lo hi sorted sense
part_sorted terms body state term lo hi rows sorted sense is part = record {
  right = λ row there. part.right row (IsIn-ascending_from row rows (subst (IsIn row) is there));
  whole = λ row answer. subst (IsIn row) (sym is) (IsIn-ascending row rows (part.whole row answer));
  certified = part.certified;
  tight = part.tight;
}
