-- Versions that are posted as they are made.
use Rattle.std.proofs.Common.{◌≡◌, ℕ, zero, suc, ◌+◌, ◌<◌, List, [], ◌∷◌, ◌++◌, length, map, false, Some, slice_get, refl, sym, ap, subst, ◌∙◌, append-nil, append_assoc, arith}
use Rattle.std.specs.List.{AllByRecursion}
use Rattle.std.proofs.lemmas.List.{length-append, map-append}
use Rattle.lt_face.specs.State.{State}
use Rattle.lt_model.specs.declared.syntax.Item.{Item}
use Rattle.lt_model.specs.declared.syntax.Item.TheVariants.{Batch}
use Rattle.lt_model.specs.declared.syntax.Program.{Program}
use Rattle.lt_model.specs.Limits.{IsWithinLimits}
use Rattle.lt_model.specs.Report as model
use Rattle.lt_model.specs.Report.{step}
use Rattle.lt_model.specs.Schema.{Schema}
use Rattle.lt_check.specs.States.{IsStateOf}
use Rattle.lt_base.specs.Tables.{state_of}
use Rattle.lt_readers.specs.declared.version.Version.{Version}
use Rattle.lt_readers.specs.Lists.{EndsIn, HasRelations, MayFollow}
use Rattle.lt_readers.proofs.Adding.{history_snoc, may_follow}
use Rattle.lt_readers.proofs.Beginnings.{last_get, prefix_get}
use Rattle.lt_gen.specs.Answered.{Answer, answers_to}
use Rattle.lt_gen.specs.Counted.{Counts}
use Rattle.lt_runs.specs.declared.come.Come.{Come}
use Rattle.lt_world.specs.declared.world.World.{World}
use Rattle.lt_runs.specs.Coming.{HasRun}
use Rattle.lt_runs.specs.Posting.{HasPosted}
use Rattle.lt_runs.specs.Reading.{IsPosted}
use Rattle.lt_world.specs.Versions.{IsFront}
use Rattle.lt_world.specs.World.{Shows}
use Rattle.lt_runs.proofs.Summing.{one_run}

-- ---- lists

pub each_got : {X : Type 0} (P : X → Type 0) (xs : List X) (i : ℕ) (x : X) → AllByRecursion P xs → slice_get xs i ≡ Some x → P x
each_got P [] i x all is = absurd cc
each_got P (y ∷ xs) zero x all is = let e : y ≡ x = cc in subst P e all.0
each_got P (y ∷ xs) (suc i) x all is = each_got P xs i x all.1 is

pub mapped_get : {X Y : Type 0} (f : X → Y) (xs : List X) (i : ℕ) (x : X) → slice_get xs i ≡ Some x → slice_get (map f xs) i ≡ Some (f x)
mapped_get f [] i x is = absurd cc
mapped_get f (y ∷ xs) zero x is = let e : y ≡ x = cc in ap (λ z. Some (f z)) e
mapped_get f (y ∷ xs) (suc i) x is = mapped_get f xs i x is

ends_here : (v : Version) (rest : List Version) → (w : Version) × EndsIn (v ∷ rest) w
ends_here v [] = (v, refl)
ends_here v (u ∷ rest) = ends_here u rest

-- there is a last
pub ends_somewhere : (log : List Version) (first : Version) → slice_get log 0 ≡ Some first → (w : Version) × EndsIn log w
ends_somewhere [] first is = absurd cc
ends_somewhere (v ∷ rest) first is = ends_here v rest

-- ---- relations that are there stay there

front_wide : (schema : Schema) (s t : State) → IsFront schema s → IsStateOf schema t → HasRelations s t
front_wide schema [] t f w n width h = absurd cc
front_wide [] (r ∷ s) t f w n width h = absurd f
front_wide (heading ∷ schema) (r ∷ s) [] f w n width h = absurd cc
front_wide (heading ∷ schema) (r ∷ s) (q ∷ t) f w zero width h =
    let here : q.width ≡ length heading.1 = cc in
    let was : r.width ≡ width = cc in
    ap Some (here ∙ sym f.0 ∙ was)
front_wide (heading ∷ schema) (r ∷ s) (q ∷ t) f w (suc n) width h =
    let rest : IsStateOf schema t = cc in
    front_wide schema s t f.1 rest n width h

abbrev states_in : List Version → List State
states_in log = map (λ (v : Version). state_of v.db) log

-- ---- one version more

module _ (most : ℕ) (old : World) (m : model.World) (s : Shows old m) (log : List Version) (p : IsPosted most old.versions log) where
  posted_states : states_in log ≡ m.versions
  posted_states = let e : [] ∷ states_in log ≡ [] ∷ m.versions = p.states ∙ sym s.versions in cc

  pub last_number : (v : Version) → EndsIn log v → v.number ≡ length log
  last_number v ends =
      let l = last_get log v ends in
      let f = p.history p.first p.begins l.0 v l.2 in
      omega (arith, f.0, p.number, l.1)

  pub room_behind : length log < most → (v : Version) → EndsIn log v → v.number < v.most
  room_behind room v ends =
      let l = last_get log v ends in
      let f = p.history p.first p.begins l.0 v l.2 in
      omega (arith, last_number v ends, f.1, p.most_is, room)

  pub relations_kept : (v : Version) → EndsIn log v → (t : State) → IsStateOf m.schema t → HasRelations (state_of v.db) t
  relations_kept v ends t wide =
      let l = last_get log v ends in
      let there : slice_get m.versions l.0 ≡ Some (state_of v.db) = subst (λ (ss : List State). slice_get ss l.0 ≡ Some (state_of v.db)) posted_states (mapped_get (λ (w : Version). state_of w.db) log l.0 v l.2) in
      front_wide m.schema (state_of v.db) t (each_got (IsFront m.schema) m.versions l.0 (state_of v.db) s.older there) wide

  module _ (new : World) (programs : List Program) (t : Shows new (step false m (Batch programs))) where
    pub widths_now : IsStateOf m.schema (state_of new.database)
    widths_now = subst (λ (st : State). IsStateOf m.schema st) t.state t.widths

    pub posted_more : (number : ℕ) (v : Version) (later : List Version) → EndsIn log v → v.number < v.most → number ≡ v.number + 1
        → later ≡ log ++ record { number = number; most = v.most; db = new.database } ∷ [] → IsPosted most new.versions later
    posted_more number v later ends room next is =
        let w : Version = record { number = number; most = v.most; db = new.database } in
        let same : w ≡ record { number = v.number + 1; most = v.most; db = new.database } = ap (λ n. let x : Version = record { number = n; most = v.most; db = new.database } in x) next in
        let may : MayFollow log w = may_follow log v w new.database ends room (relations_kept v ends (state_of new.database) widths_now) same in
        let states : states_in (log ++ w ∷ []) ≡ m.versions ++ (step false m (Batch programs)).state ∷ [] =
        map-append (λ (x : Version). state_of x.db) log (w ∷ []) ∙ ap (λ (ss : List State). ss ++ state_of new.database ∷ []) posted_states ∙ ap (λ (st : State). m.versions ++ st ∷ []) (sym t.state) in
        subst (IsPosted most new.versions) (sym is) (record {
          states = ap (λ (ss : List State). [] ∷ ss) states ∙ t.versions;
          first = p.first;
          begins = prefix_get log (log ++ w ∷ []) 0 p.first (w ∷ [], refl) p.begins;
          number = p.number;
          most_is = p.most_is;
          history = history_snoc log w p.history may;
        })

-- ---- batches one after another

pub none_posted : (come : Come) (log : List Version) → HasPosted come [] log log come
none_posted come log = record {
  run = λ front h. subst (λ (xs : List Item). HasRun Shows xs come.world come.summary) (sym (append-nil front)) h;
  programs = refl;
  posted = λ most p. p;
  first = λ v is. is;
  longer = omega arith;
}

pub one_posted : (come : Come) (ran : List Item) (log before later : List Version) (at after : Come) (batch : Item) → HasPosted come ran log before at → IsWithinLimits batch
    → ((m : model.World) → Shows at.world m → Shows after.world (step false m batch))
    → ((m : model.World) (answers : List Answer) → Shows at.world m → Counts at.summary answers → Counts after.summary (answers ++ answers_to m batch))
    → after.summary.programs ≡ at.summary.programs → ((most : ℕ) → IsPosted most at.world.versions before → IsPosted most after.world.versions later)
    → ((v : Version) → slice_get before 0 ≡ Some v → slice_get later 0 ≡ Some v) → length later ≡ length before + 1
    → HasPosted come (ran ++ batch ∷ []) log later after
one_posted come ran log before later at after batch so_far within takes counts programs posts begins longer = record {
  run = λ front h.
      subst (λ (xs : List Item). HasRun Shows xs after.world after.summary) (append_assoc front ran (batch ∷ []))
      (one_run Shows (front ++ ran) at.world at.summary (so_far.run front h) batch after.world after.summary within takes counts);
  programs = programs ∙ so_far.programs;
  posted = λ most p. posts most (so_far.posted most p);
  first = λ v is. begins v (so_far.first v is);
  longer = let n = length-append ran (batch ∷ []) in omega (arith, n, so_far.longer, longer);
}

pub first_stays : (log later : List Version) (w : Version) → later ≡ log ++ w ∷ [] → (v : Version) → slice_get log 0 ≡ Some v → slice_get later 0 ≡ Some v
first_stays log later w is v begins = subst (λ (l : List Version). slice_get l 0 ≡ Some v) (sym is) (prefix_get log (log ++ w ∷ []) 0 v (w ∷ [], refl) begins)
