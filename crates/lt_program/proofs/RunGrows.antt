-- The run of a program's first statements, one more at a time.
use Rattle.std.proofs.Common.{◌≡◌, ℕ, suc, ◌+◌, true, false, List, [], ◌∷◌, ◌++◌, length, take, drop, Some, refl, sym, ap, ◌∙◌, subst, arith}
use Rattle.std.specs.Prelude.{slice_get}
use Rattle.std.proofs.Math.Seq.{take-suc}
use Rattle.std.proofs.lemmas.Option.{get_or_from_slice_get, slice_get_within}
use Rattle.std.proofs.lemmas.List.{take-append-drop, append-nil, append_assoc, length-take-le}
use Rattle.lt_face.specs.State.{State}
use Rattle.lt_model.specs.declared.normal.Stmt.{Stmt}
use Rattle.lt_model.specs.declared.reply.Reply.{Reply}
use Rattle.lt_model.specs.declared.reply.Reply.TheVariants.{Done, Refused}
use Rattle.lt_model.specs.Effect.{Effect, Writes, Requires, Prints, Clashes, effect}
use Rattle.lt_model.specs.Marks.{Marks, and_then, laid}
use Rattle.lt_model.specs.Run.{Progress, run_on, run_from, run}
use Rattle.lt_program.specs.Tally.{next, is_refused, run_of_first, state_before}

module _ (base : State) (s : Stmt) where
  -- the statement after those
  abbrev followed : ℕ → Reply × Marks → Reply × Marks
  followed number out = next number (effect s (laid base out.1)) out

  pushed : (j : ℕ) (xs : List Stmt) (p : Progress) → run_from j (xs ++ s ∷ []) base p ≡ followed (j + length xs) (run_from j xs base p)
  pushed j [] p = let e : j ≡ j + 0 = omega arith in ap (λ n. next n (effect s (laid base p.marks)) (Done p.prints, p.marks)) e
  pushed j (x ∷ xs) p =
      let e : (j + 1) + length xs ≡ j + suc (length xs) = omega arith in
      on (effect x (laid base p.marks)) (λ (q : Progress). subst (λ n. run_from (j + 1) (xs ++ s ∷ []) base q ≡ followed n (run_from (j + 1) xs base q)) e (pushed (j + 1) xs q))
    where
      on : (e : Effect) → ((q : Progress) → run_from (j + 1) (xs ++ s ∷ []) base q ≡ followed (j + suc (length xs)) (run_from (j + 1) xs base q))
          → run_on j p e (run_from (j + 1) (xs ++ s ∷ []) base) ≡ followed (j + suc (length xs)) (run_on j p e (run_from (j + 1) xs base))
      on (Writes marks) later = later (record p { marks = and_then p.marks marks })
      on (Requires true) later = later p
      on (Requires false) later = refl
      on Clashes later = refl
      on (Prints kinds rows) later = later (record p { prints = p.prints ++ record { statement = j; kinds = kinds; rows = rows } ∷ [] })

pub first_more : (n : ℕ) (program : List Stmt) (s : Stmt) (state : State) → slice_get program n ≡ Some s
    → run_of_first (suc n) program state ≡ next (n + 1) (effect s (state_before n program state)) (run_of_first n program state)
first_more n program s state is =
    let lt = slice_get_within program n s is in
    let whole : take (suc n) program ≡ take n program ++ s ∷ [] = take-suc program n s lt ∙ ap (λ x. take n program ++ x ∷ []) (get_or_from_slice_get program n s s is) in
    let long : 1 + length (take n program) ≡ n + 1 = omega (arith, length-take-le n program (omega arith)) in
    ap (λ stmts. run stmts state) whole ∙ (pushed state s 1 (take n program) (record { marks = []; prints = [] }) ∙ ap (λ k. next k (effect s (state_before n program state)) (run_of_first n program state)) long)

refused_next : (number : ℕ) (e : Effect) (out : Reply × Marks) → is_refused out.0 ≡ true → next number e out ≡ out
refused_next number e (Done prints, marks) h = cc
refused_next number e (Refused j, marks) h = refl

refused_stays : (xs ys : List Stmt) (state : State) → is_refused (run xs state).0 ≡ true → run (xs ++ ys) state ≡ run xs state
refused_stays xs [] state h = ap (λ stmts. run stmts state) (append-nil xs)
refused_stays xs (y ∷ ys) state h =
    let one = pushed state y 1 xs (record { marks = []; prints = [] }) ∙ refused_next (1 + length xs) (effect y (laid state (run xs state).1)) (run xs state) h in
    let more : is_refused (run (xs ++ y ∷ []) state).0 ≡ true = ap (λ (out : Reply × Marks). is_refused out.0) one ∙ h in
    ap (λ stmts. run stmts state) (sym (append_assoc xs (y ∷ []) ys)) ∙ (refused_stays (xs ++ y ∷ []) ys state more ∙ one)

-- a program that was refused on the way is refused
pub refused_whole : (n : ℕ) (program : List Stmt) (state : State) → is_refused (run_of_first n program state).0 ≡ true → run_of_first n program state ≡ run program state
refused_whole n program state h = sym (ap (λ stmts. run stmts state) (sym (take-append-drop n program)) ∙ refused_stays (take n program) (drop n program) state h)
