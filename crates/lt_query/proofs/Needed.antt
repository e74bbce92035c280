-- Collecting the indexes that are needed.
use Rattle.std.specs.Prelude.{◌≡◌, ℕ, ◌+◌, ◌<◌, true, false, ◌==◌, List, [], ◌∷◌, ◌++◌, map, length, ◌⊎◌, ◌↔◌}
use Rattle.std.specs.Cmp.Lexicographic.{pointwise}
use Rattle.std.specs.List.{AllByRecursion}
use Rattle.lt_model.specs.declared.normal.Atom.{Atom}
use Rattle.std.proofs.Common.{refl, sym, ap, ◌∙◌, subst, inl, inr, cond, get_or, drop}
use Rattle.std.proofs.lemmas.Bool.{and_parts, and_from, or_cases, or_left, or_right, eqb-true, eq-eqb, true≢false}
use Rattle.std.proofs.lemmas.List.{at_drop_more}
use Rattle.std.proofs.lemmas.Slice.Eq.{bytes_eq-Decides}
use Rattle.lt_query.specs.declared.plans.Plan.{Plan}
use Rattle.lt_model.specs.declared.normal.Stmt.{Stmt}
use Rattle.lt_query.specs.declared.plans.IndexName.{IndexName}
use Rattle.lt_face.specs.Lists.{IsIn}
use Rattle.lt_query.specs.Lists.{IsDistinct}
use Rattle.lt_query.specs.Stated.{stated_plan}
use Rattle.lt_query.specs.Needs.{AreNamed, HaveNames, HaveFirsts, body_of, index_of, first_index, IsWalked, IsNeeded, same_name, has_name, with_name, with_names, names_of, firsts_of}
use Rattle.lt_face.proofs.Membership.{IsIn-append_left, IsIn-append_right, IsIn-append_cases, IsIn-map, IsIn-map_from, IsIn-flat_map, IsIn-flat_map_from}
use Rattle.lt_query.proofs.StatedPlan.{IsPlanOf-stated, IsStatedPlan-stated, one_stated_plan}
use Rattle.lt_query.specs.declared.plans.Guide.{Guide}
use Rattle.lt_query.proofs.Elements.{All_from}
use Rattle.lt_query.proofs.Distinct.{IsDistinct-append}

same_name-true : (p q : IndexName) → same_name p q ≡ true → q ≡ p
same_name-true p q h =
    let both = and_parts (q.relation == p.relation) (pointwise ◌==◌ q.columns p.columns) h in
    let relation : q.relation ≡ p.relation = eqb-true q.relation p.relation both.0 in
    let columns : q.columns ≡ p.columns = (bytes_eq-Decides q.columns p.columns).0 both.1 in
    ap (λ r. record { relation = r; columns = q.columns }) relation ∙ ap (λ cs. record { relation = p.relation; columns = cs }) columns

same_name_itself : (p : IndexName) → same_name p p ≡ true
same_name_itself p = and_from (p.relation == p.relation) (pointwise ◌==◌ p.columns p.columns) (eq-eqb _ _ refl) ((bytes_eq-Decides p.columns p.columns).1 refl)

has_name-true : (names : List IndexName) (p : IndexName) → has_name names p ≡ true → IsIn p names
has_name-true [] p h = absurd (cc)
has_name-true (q ∷ names) p h = elim (or_cases (same_name p q) (has_name names p) h) [ inl e ↦ inl (same_name-true p q e) | inr r ↦ inr (has_name-true names p r) ]

has_name_is : (names : List IndexName) (p : IndexName) → IsIn p names → has_name names p ≡ true
has_name_is [] p h = absurd h
has_name_is (q ∷ names) p h =
    elim h [ inl e ↦ or_left (same_name p q) (has_name names p) (subst (λ w. same_name p w ≡ true) (sym e) (same_name_itself p)) | inr r ↦ or_right (same_name p q) (has_name names p) (has_name_is names p r) ]

IsDistinct-with_name : (names : List IndexName) (p : IndexName) → IsDistinct names → IsDistinct (with_name names p)
IsDistinct-with_name names p d =
    elim (has_name names p) as (λ b. has_name names p ≡ b → IsDistinct (cond b names (names ++ p ∷ []))) [
      | true ↦ λ e. d
      | false ↦ λ e. IsDistinct-append names (p ∷ []) d ((λ h. h), tt) (λ x h k. elim k [ inl q ↦ true≢false (sym (has_name_is names p (subst (λ w. IsIn w names) (sym q) h)) ∙ e) | inr r ↦ r ])
    ] refl

in_with_name : (names : List IndexName) (p x : IndexName) → (p ≡ x) ⊎ IsIn x names → IsIn x (with_name names p)
in_with_name names p x h =
    elim (has_name names p) as (λ b. has_name names p ≡ b → IsIn x (cond b names (names ++ p ∷ []))) [
      | true ↦ λ e. elim h [ inl q ↦ subst (λ w. IsIn w names) q (has_name-true names p e) | inr r ↦ r ]
      | false ↦ λ e. elim h [ inl q ↦ IsIn-append_right x names (p ∷ []) (inl q) | inr r ↦ IsIn-append_left x names (p ∷ []) r ]
    ] refl

in_with_name_from : (names : List IndexName) (p x : IndexName) → IsIn x (with_name names p) → (p ≡ x) ⊎ IsIn x names
in_with_name_from names p x h =
    elim (has_name names p) as (λ b. IsIn x (cond b names (names ++ p ∷ [])) → (p ≡ x) ⊎ IsIn x names) [
      | true ↦ λ k. inr k
      | false ↦ λ k. elim (IsIn-append_cases x names (p ∷ []) k) [ inl l ↦ inr l | inr r ↦ elim r [ inl q ↦ inl q | inr none ↦ absurd none ] ]
    ] h

pub IsDistinct-with_names : (names more : List IndexName) → IsDistinct names → IsDistinct (with_names names more)
IsDistinct-with_names names [] d = d
IsDistinct-with_names names (p ∷ more) d = IsDistinct-with_names (with_name names p) more (IsDistinct-with_name names p d)

in_with_names : (names more : List IndexName) (x : IndexName) → IsIn x names ⊎ IsIn x more → IsIn x (with_names names more)
in_with_names names [] x h = elim h [ inl l ↦ l | inr r ↦ absurd r ]
in_with_names names (p ∷ more) x h =
    in_with_names (with_name names p) more x
    (elim h [ inl l ↦ inl (in_with_name names p x (inr l)) | inr r ↦ elim r [ inl e ↦ inl (in_with_name names p x (inl e)) | inr k ↦ inr k ] ])

in_with_names_from : (names more : List IndexName) (x : IndexName) → IsIn x (with_names names more) → IsIn x names ⊎ IsIn x more
in_with_names_from names [] x h = inl h
in_with_names_from names (p ∷ more) x h =
    elim (in_with_names_from (with_name names p) more x h) [
      | inl l ↦ elim (in_with_name_from names p x l) [ inl e ↦ inr (inl e) | inr k ↦ inl k ]
      | inr r ↦ inr (inr r)
    ]

pub with_names-append : (names more last : List IndexName) → with_names names (more ++ last) ≡ with_names (with_names names more) last
with_names-append names [] last = refl
with_names-append names (p ∷ more) last = with_names-append (with_name names p) more last

pub with_stmt : (names : List IndexName) (stmts : List Stmt) (i : ℕ) (d : Stmt) → i < length stmts → with_names names (names_of (drop i stmts)) ≡ with_names (with_names names (map index_of (stated_plan (body_of (get_or stmts i d))).guides)) (names_of (drop (i + 1) stmts))
with_stmt names stmts i d h =
    at_drop_more (λ w. with_names names (names_of w)) stmts i d h
    ∙ with_names-append names (map index_of (stated_plan (body_of (get_or stmts i d))).guides) (names_of (drop (i + 1) stmts))

abbrev all_names : List Stmt → List IndexName
all_names prog = names_of prog ++ firsts_of prog

pub with_first : (names : List IndexName) (stmts : List Stmt) (i : ℕ) (d : Stmt) → i < length stmts → with_names names (firsts_of (drop i stmts)) ≡ with_names (with_names names (map first_index (body_of (get_or stmts i d)).absents)) (firsts_of (drop (i + 1) stmts))
with_first names stmts i d h =
    at_drop_more (λ w. with_names names (firsts_of w)) stmts i d h
    ∙ with_names-append names (map first_index (body_of (get_or stmts i d)).absents) (firsts_of (drop (i + 1) stmts))

pub first_step : (names new all : List IndexName) (stmts : List Stmt) (i : ℕ) (stmt : Stmt) → i < length stmts → stmt ≡ get_or stmts i stmt → new ≡ with_names names (map first_index (body_of stmt).absents)
    → with_names names (firsts_of (drop i stmts)) ≡ all → with_names new (firsts_of (drop (i + 1) stmts)) ≡ all
first_step names new all stmts i stmt below is step so_far =
    ap (λ w. with_names w (firsts_of (drop (i + 1) stmts))) (step ∙ ap (λ (s : Stmt). with_names names (map first_index (body_of s).absents)) is)
    ∙ (sym (with_first names stmts i stmt below) ∙ so_far)

pub needed_is : (prog : List Stmt) (name : IndexName) → IsIn name (with_names [] (names_of prog ++ firsts_of prog)) ↔ IsNeeded prog name
needed_is prog name = (
  λ h. elim (in_with_names_from [] (all_names prog) name h) [
    | inl none ↦ absurd none
    | inr both ↦ elim (IsIn-append_cases name (names_of prog) (firsts_of prog) both) [
      | inr r ↦
          let f = IsIn-flat_map_from (λ stmt. map first_index (body_of stmt).absents) name prog r in
          let g = IsIn-map_from first_index name (body_of f.0).absents f.2 in
          (f.0, f.1, inr (g.0, g.1, g.2))
      | inl r ↦
          let f = IsIn-flat_map_from (λ stmt. map index_of (stated_plan (body_of stmt)).guides) name prog r in
          let g = IsIn-map_from index_of name (stated_plan (body_of f.0)).guides f.2 in
          (f.0, f.1, inl (stated_plan (body_of f.0), IsPlanOf-stated (body_of f.0), IsStatedPlan-stated (body_of f.0), (g.0, g.1, g.2)))
    ]
  ],
  λ n. elim n.2 [
    | inr w ↦
        in_with_names [] (all_names prog) name
        (inr (IsIn-append_right name (names_of prog) (firsts_of prog) (IsIn-flat_map (λ stmt. map first_index (body_of stmt).absents) n.0 name prog n.1 (subst (λ x. IsIn x (map first_index (body_of n.0).absents)) w.2 (IsIn-map first_index w.0 (body_of n.0).absents w.1)))))
    | inl w ↦
        let the_plan : w.0 ≡ stated_plan (body_of n.0) = one_stated_plan (body_of n.0) w.0 (stated_plan (body_of n.0)) w.1 w.2 (IsPlanOf-stated (body_of n.0)) (IsStatedPlan-stated (body_of n.0)) in
        let walked : IsWalked (stated_plan (body_of n.0)) name = subst (λ (p : Plan). IsWalked p name) the_plan w.3 in
        in_with_names [] (all_names prog) name
        (inr (IsIn-append_left name (names_of prog) (firsts_of prog) (IsIn-flat_map (λ stmt. map index_of (stated_plan (body_of stmt)).guides) n.0 name prog n.1 (subst (λ w. IsIn w (map index_of (stated_plan (body_of n.0)).guides)) walked.2 (IsIn-map index_of walked.0 (stated_plan (body_of n.0)).guides walked.1)))))
  ],
)

-- each guide of each statement's plan has its index
pub each_named : (prog : List Stmt) → HaveNames (with_names [] (names_of prog ++ firsts_of prog)) prog
each_named prog = λ stmt h plan is stated.
    let same : stated_plan (body_of stmt) ≡ plan = one_stated_plan (body_of stmt) (stated_plan (body_of stmt)) plan (IsPlanOf-stated (body_of stmt)) (IsStatedPlan-stated (body_of stmt)) is stated in
    subst (AreNamed (with_names [] (all_names prog))) same
    (All_from (λ (guide : Guide). IsIn (index_of guide) (with_names [] (all_names prog))) (stated_plan (body_of stmt)).guides (λ guide k.
    in_with_names [] (all_names prog) (index_of guide) (inr (IsIn-append_left (index_of guide) (names_of prog) (firsts_of prog) (IsIn-flat_map (λ s. map index_of (stated_plan (body_of s)).guides) stmt (index_of guide) prog h (IsIn-map index_of guide (stated_plan (body_of stmt)).guides k))))))

-- each negated atom of each statement has its first index
pub each_first : (prog : List Stmt) → AllByRecursion (λ stmt. HaveFirsts (with_names [] (names_of prog ++ firsts_of prog)) (body_of stmt)) prog
each_first prog = All_from (λ (stmt : Stmt). HaveFirsts (with_names [] (all_names prog)) (body_of stmt)) prog (λ stmt h.
    All_from (λ (atom : Atom). IsIn (first_index atom) (with_names [] (all_names prog))) (body_of stmt).absents (λ atom k.
    in_with_names [] (all_names prog) (first_index atom) (inr (IsIn-append_right (first_index atom) (names_of prog) (firsts_of prog) (IsIn-flat_map (λ s. map first_index (body_of s).absents) stmt (first_index atom) prog h (IsIn-map first_index atom (body_of stmt).absents k))))))

pub names_all : (prog : List Stmt) (walked all : List IndexName) → all ≡ with_names walked (firsts_of prog) → walked ≡ with_names [] (names_of prog) → all ≡ with_names [] (names_of prog ++ firsts_of prog)
names_all prog walked all last first = last ∙ (ap (λ w. with_names w (firsts_of prog)) first ∙ sym (with_names-append [] (names_of prog) (firsts_of prog)))
