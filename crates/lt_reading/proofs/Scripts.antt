-- From one item to a script, which is a list of items: where an item's reader stops behind others, no token before has
-- a fault, and the one there has.
use Rattle.std.proofs.Common.{◌≡◌, ℕ, Bool, true, false, List, [], ◌∷◌, ◌++◌, Ok, Err, sym, ap, subst, ◌∙◌, append_assoc, inl, inr}
use Rattle.std.specs.List.{flat_map, AllByRecursion}
use Rattle.std.proofs.lemmas.List.{append-nil}
use Rattle.std.proofs.lemmas.List.Concat.{flat_map-append}
use Rattle.lt_reading.specs.Reading.{Cause, not_allowed as disallowed, too_many as excessive, too_large as oversized, too_full as overfull, Stop, Reader}
use Rattle.lt_reading.specs.Language.{Level, formed, few, fine, full, Language, Next, Marks, Alphabet, marks_of}
use Rattle.lt_reading.specs.Faults.{IsOpen, Faulty, not_allowed, too_many, too_large, too_full, NoFault, code_of}
use Rattle.lt_reading.proofs.Exact.{done_not_failed, Viable, Wrong, Why, Reads, to_formed, from_full, Heads, Begins, heads_more, Closes, Open, whole, to_comma, in_two}
use Rattle.lt_reading.proofs.Repeat.{all_weaker}

front_not_nil : {T : Type 0} (front : List T) (t : T) (s : List T) → front ++ (t ∷ s) ≡ [] → ⊥
front_not_nil [] t s e = cc
front_not_nil (f ∷ front) t s e = cc

all_append : {A : Type 0} (P : A → Type 0) (xs ys : List A) → AllByRecursion P xs → AllByRecursion P ys → AllByRecursion P (xs ++ ys)
all_append P [] ys hx hy = hy
all_append P (x ∷ xs) ys hx hy = (hx.0, all_append P xs ys hx.1 hy)

-- Where an item's reader stops behind tokens of whole items: the tokens that it passed lie inside an item and have no
-- fault, and the one at which it stopped has this fault.
pub record Halted {T A : Type 0} (m : Marks T) (L : Language T A) (done ts : List T) (stop : Stop T) : Type 0 where
  pub front : List T
  pub parts : ts ≡ front ++ stop.rest
  pub inside : (t : T) × (more : List T) × (x : A) × L.Holds formed x × (L.spell x ≡ front ++ t ∷ more)
  pub faultless : NoFault m L (done ++ front)
  pub there : (t : T) (after : List T) → stop.rest ≡ t ∷ after → Faulty m L (done ++ front) t (code_of stop.cause)

-- L has the items: each begins with some token, and nothing is barred behind one
module _ {T A : Type 0} (m : Alphabet T) (L : Language T A) (r : Reader T A) (ra : Reads m L r) (p : T → Bool) (way : Bool) (begins : Begins p way L) (solid : (x : A) (t : T) → L.bars x t ≡ false) where
  free : (x : A) (s : List T) → Next (L.bars x) s
  free x [] = tt
  free x (t ∷ s) = solid x t

  at_level : (level : Level) (xs : List A) → AllByRecursion (L.Holds full) xs → AllByRecursion (L.Holds level) xs
  at_level level xs h = all_weaker (L.Holds full) (L.Holds level) xs (from_full L ra.weaken level) h

  item_not_nil : (level : Level) (x : A) (s : List T) → L.Holds level x → L.spell x ++ s ≡ [] → ⊥
  item_not_nil level x s h e = subst (Heads p way) e (heads_more p way (L.spell x) s (begins x (to_formed L ra.weaken level x h)))

  regroup : (x : A) (xs : List A) (s : List T) → flat_map L.spell (x ∷ xs) ++ s ≡ L.spell x ++ (flat_map L.spell xs ++ s)
  regroup x xs s = append_assoc (L.spell x) (flat_map L.spell xs) s

  one_more : (done : List A) (x : A) → flat_map L.spell (done ++ x ∷ []) ≡ flat_map L.spell done ++ L.spell x
  one_more done x = flat_map-append L.spell done (x ∷ []) ∙ ap (λ (s : List T). flat_map L.spell done ++ s) (append-nil (L.spell x))

  -- ---- what may begin a script

  open_of : (level : Level) (done : List A) (front : List T) → AllByRecursion (L.Holds full) done → Viable L level front → IsOpen L level (flat_map L.spell done ++ front)
  open_of level done front each v = (
    v.more,
    done ++ v.value ∷ [],
    record {
      each = all_append (L.Holds level) done (v.value ∷ []) (at_level level done each) (v.holds, tt);
      spelled = append_assoc (flat_map L.spell done) front v.more ∙ ap (λ (s : List T). flat_map L.spell done ++ s) (sym v.begins) ∙ sym (one_more done v.value);
    },
  )

  open_front : (level : Level) (xs ys : List T) → IsOpen L level (xs ++ ys) → IsOpen L level xs
  open_front level xs ys o = (ys ++ o.0, o.1, record { each = o.2.each; spelled = sym (append_assoc xs ys o.0) ∙ o.2.spelled })

  open_token : (level : Level) (all b : List T) (t : T) (a : List T) → all ≡ b ++ t ∷ a → IsOpen L level all → IsOpen L level (b ++ t ∷ [])
  open_token level all b t a is o = open_front level (b ++ t ∷ []) a (subst (IsOpen L level) (is ∙ sym (append_assoc b (t ∷ []) a)) o)

  open_done : (level : Level) (done : List A) → AllByRecursion (L.Holds full) done → IsOpen L level (flat_map L.spell done)
  open_done level done each = ([], done, record { each = at_level level done each; spelled = append-nil (flat_map L.spell done) })

  -- No items begin as what no item may begin with goes on behind the items before it.
  shut : (level : Level) (done ys : List A) (front : List T) (t : T) (more : List T) → AllByRecursion (L.Holds full) done → AllByRecursion (L.Holds level) ys → Wrong L level front t
      → flat_map L.spell done ++ (front ++ (t ∷ more)) ≡ flat_map L.spell ys → ⊥
  shut level [] [] front t more each hy wrong e = front_not_nil front t more e
  shut level [] (y ∷ ys) front t more each hy wrong e = wrong y more (flat_map L.spell ys) hy.0 (free y (flat_map L.spell ys)) e
  shut level (d ∷ done) [] front t more each hy wrong e = item_not_nil full d (flat_map L.spell done ++ (front ++ (t ∷ more))) each.0 (sym (regroup d done (front ++ (t ∷ more))) ∙ e)
  shut level (d ∷ done) (y ∷ ys) front t more each hy wrong e =
      let u = ra.unique d y (flat_map L.spell done ++ (front ++ (t ∷ more))) (flat_map L.spell ys) (to_formed L ra.weaken full d each.0) (to_formed L ra.weaken level y hy.0) (free d _) (free y _) (sym (regroup d done (front ++ (t ∷ more))) ∙ e) in
      shut level done ys front t more each.1 hy.1 wrong u.1

  not_open : (level : Level) (done : List A) (front : List T) (t : T) → AllByRecursion (L.Holds full) done → Wrong L level front t → IsOpen L level ((flat_map L.spell done ++ front) ++ t ∷ []) → ⊥
  not_open level done front t each wrong o =
      shut level done o.1 front t o.0 each o.2.each wrong
      (ap (λ (s : List T). flat_map L.spell done ++ s) (sym (append_assoc front (t ∷ []) o.0)) ∙ sym (append_assoc (flat_map L.spell done) (front ++ t ∷ []) o.0) ∙ ap (λ (s : List T). s ++ o.0) (sym (append_assoc (flat_map L.spell done) front (t ∷ []))) ∙ o.2.spelled)

  -- ---- no fault before

  -- at each closing token a script that is full goes on
  abbrev ClosesAll : List T → Type 0
  ClosesAll all = (b a : List T) → all ≡ b ++ m.closing ∷ a → IsOpen L full (b ++ m.closing ∷ [])

  closes_all : (done : List A) (front : List T) → AllByRecursion (L.Holds full) done → Closes m L front → ClosesAll (flat_map L.spell done ++ front)
  closes_all done front each closes b a e =
      elim (in_two (flat_map L.spell done) front b m.closing a e) [
        | inl q ↦ open_token full (flat_map L.spell done) b m.closing q.0 q.1 (open_done full done each)
        | inr q ↦
            subst (IsOpen L full) (sym (append_assoc (flat_map L.spell done) q.0 (m.closing ∷ [])) ∙ ap (λ (s : List T). s ++ m.closing ∷ []) (sym q.1)) (open_of full done (q.0 ++ m.closing ∷ []) each (closes q.0 a q.2))
      ]

  none_in_open : (all : List T) → IsOpen L formed all → IsOpen L few all → IsOpen L fine all → ClosesAll all → NoFault (marks_of m) L all
  none_in_open all o1 o2 o3 c b t a code is (not_allowed h) = h (open_token formed all b t a is o1)
  none_in_open all o1 o2 o3 c b t a code is (too_many o ne h) = h (open_token few all b t a is o2)
  none_in_open all o1 o2 o3 c b t a code is (too_large n o h) = h (open_token fine all b t a is o3)
  none_in_open all o1 o2 o3 c b t a code is (too_full same o h) = h (subst (λ (s : T). IsOpen L full (b ++ s ∷ [])) (sym same) (c b a (is ∙ ap (λ (s : T). b ++ s ∷ a) same)))

  none_at_comma : (xs : List T) (s : T) → m.spared s ≡ true → IsOpen L formed (xs ++ s ∷ []) → (code : ℕ) → Faulty (marks_of m) L xs s code → ⊥
  none_at_comma xs s spared o code (not_allowed h) = h o
  none_at_comma xs s spared o code (too_many q blamed h) = let both : true ≡ false = sym spared ∙ blamed in cc
  none_at_comma xs s spared o code (too_large n q h) = m.spared_no_number s spared n
  none_at_comma xs s spared o code (too_full same q h) = m.spared_not_closing s spared same

  fine_open : (done : List A) (front : List T) → AllByRecursion (L.Holds full) done → Viable L fine front → ClosesAll (flat_map L.spell done ++ front) → NoFault (marks_of m) L (flat_map L.spell done ++ front)
  fine_open done front each v c =
      none_in_open (flat_map L.spell done ++ front)
      (open_of formed done front each (record { value = v.value; more = v.more; holds = ra.weaken few v.value (ra.weaken fine v.value v.holds); begins = v.begins }))
      (open_of few done front each (record { value = v.value; more = v.more; holds = ra.weaken fine v.value v.holds; begins = v.begins }))
      (open_of fine done front each v)
      c

  closes_front : (done : List A) (f g : List T) → ClosesAll (flat_map L.spell done ++ (f ++ g)) → ClosesAll (flat_map L.spell done ++ f)
  closes_front done f g c b a is = c b (a ++ g) (sym (append_assoc (flat_map L.spell done) f g) ∙ ap (λ (s : List T). s ++ g) is ∙ append_assoc b (m.closing ∷ a) g)

  clean_script : (done : List A) (front : List T) → AllByRecursion (L.Holds full) done → Closes m L front → Open m L front → NoFault (marks_of m) L (flat_map L.spell done ++ front)
  clean_script done front each closes (whole v) b t a code is faulty = fine_open done front each v (closes_all done front each closes) b t a code is faulty
  clean_script done front each closes (to_comma f u spared e v w) b t a code is faulty =
      let xs : List T = flat_map L.spell done ++ f in
      let split : xs ++ u ∷ [] ≡ b ++ t ∷ a = append_assoc (flat_map L.spell done) f (u ∷ []) ∙ ap (λ (s : List T). flat_map L.spell done ++ s) (sym e) ∙ is in
      let all_closes : ClosesAll (flat_map L.spell done ++ (f ++ u ∷ [])) = subst (λ (s : List T). ClosesAll (flat_map L.spell done ++ s)) e (closes_all done front each closes) in
      elim (in_two xs (u ∷ []) b t a split) [
        | inl q ↦ fine_open done f each v (closes_front done f (u ∷ []) all_closes) b t q.0 code q.1 faulty
        | inr q ↦ at_the_comma q.0 q.1 q.2
      ]
    where
      at_the_comma : (c : List T) → b ≡ (flat_map L.spell done ++ f) ++ c → u ∷ [] ≡ c ++ t ∷ a → ⊥
      at_the_comma [] b-is last =
          let t-is : u ≡ t = cc in
          let there : b ≡ flat_map L.spell done ++ f = b-is ∙ append-nil (flat_map L.spell done ++ f) in
          let open_there : IsOpen L formed ((flat_map L.spell done ++ f) ++ u ∷ []) = subst (IsOpen L formed) (ap (λ (s : List T). flat_map L.spell done ++ s) e ∙ sym (append_assoc (flat_map L.spell done) f (u ∷ []))) (open_of formed done front each w) in
          let F : List T → T → Type 0 = λ q s. Faulty (marks_of m) L q s code in
          none_at_comma (flat_map L.spell done ++ f) u spared open_there code (subst (λ (s : T). F (flat_map L.spell done ++ f) s) (sym t-is) (subst (λ (q : List T). F q t) there faulty))
      at_the_comma (s ∷ c) b-is last = front_not_nil c t a (let k : c ++ t ∷ a ≡ [] = cc in k)

  -- ---- the fault

  lift_token : (level : Level) (done : List A) (front : List T) (t : T) → AllByRecursion (L.Holds full) done → Viable L level (front ++ t ∷ []) → IsOpen L level ((flat_map L.spell done ++ front) ++ t ∷ [])
  lift_token level done front t each v = subst (IsOpen L level) (sym (append_assoc (flat_map L.spell done) front (t ∷ []))) (open_of level done (front ++ t ∷ []) each v)

  faulty_there : (done : List A) (front : List T) (t : T) (cause : Cause) → AllByRecursion (L.Holds full) done → Why m L front t cause → Faulty (marks_of m) L (flat_map L.spell done ++ front) t (code_of cause)
  faulty_there done front t disallowed each why = not_allowed (not_open formed done front t each why)
  faulty_there done front t excessive each why = too_many (lift_token formed done front t each why.0) why.1 (not_open few done front t each why.2)
  faulty_there done front t oversized each why = too_large why.1 (lift_token few done front t each why.0) (not_open fine done front t each why.2)
  faulty_there done front t overfull each why = too_full why.1 (lift_token fine done front t each why.0) (not_open full done front t each why.2)

  open_formed : (front : List T) → Open m L front → Viable L formed front
  open_formed front (whole v) = record { value = v.value; more = v.more; holds = ra.weaken few v.value (ra.weaken fine v.value v.holds); begins = v.begins }
  open_formed front (to_comma f s spared e v w) = w

  -- Where each value ends with the closing token, what a reader passed before it stopped is no whole value: up to that
  -- token some value is full, and it would have been read.
  inside_of : (ends : (x : A) → (b : List T) × (L.spell x ≡ b ++ m.closing ∷ [])) (ts : List T) (stop : Stop T) (front : List T) → r ts ≡ Err stop → ts ≡ front ++ stop.rest → Closes m L front → (x : A) (more : List T) → L.Holds formed x → L.spell x ≡ front ++ more
      → (t : T) × (more : List T) × (x : A) × L.Holds formed x × (L.spell x ≡ front ++ t ∷ more)
  inside_of ends ts stop front e parts closes x (t ∷ more) h spelled = (t, more, x, h, spelled)
  inside_of ends ts stop front e parts closes x [] h spelled =
      let end = ends x in
      let front-is : front ≡ L.spell x = sym (append-nil front) ∙ sym spelled in
      let v = closes end.0 [] (front-is ∙ end.1) in
      let same : L.spell x ++ v.more ≡ L.spell v.value ++ [] = ap (λ (s : List T). s ++ v.more) end.1 ∙ sym v.begins ∙ sym (append-nil (L.spell v.value)) in
      let u = ra.unique x v.value v.more [] h (to_formed L ra.weaken full v.value v.holds) (free x v.more) (free v.value []) same in
      let whole : ts ≡ L.spell v.value ++ stop.rest = parts ∙ ap (λ (s : List T). s ++ stop.rest) (front-is ∙ ap L.spell u.0) in
      let read : r ts ≡ Ok (v.value, stop.rest) = ap r whole ∙ ra.again v.value stop.rest v.holds (free v.value stop.rest) in
      absurd (done_not_failed (v.value, stop.rest) stop (sym read ∙ e))

  pub halted : ((x : A) → (b : List T) × (L.spell x ≡ b ++ m.closing ∷ [])) → (done : List A) (ts : List T) (stop : Stop T) → AllByRecursion (L.Holds full) done → r ts ≡ Err stop → Halted (marks_of m) L (flat_map L.spell done) ts stop
  halted ends done ts stop each e =
      let s = ra.stuck ts stop e in
      let v = open_formed s.front s.opens in
      record {
        front = s.front;
        parts = s.parts;
        inside = inside_of ends ts stop s.front e s.parts s.closes v.value v.more v.holds v.begins;
        faultless = clean_script done s.front each s.closes s.opens;
        there = λ t after is. faulty_there done s.front t stop.cause each (s.why t after is);
      }
