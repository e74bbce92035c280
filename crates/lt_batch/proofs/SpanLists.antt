-- Parts of a list, where they stand in it.
use Rattle.std.proofs.Common.{◌≡◌, ℕ, zero, suc, ◌+◌, ◌*◌, ◌<◌, ◌≤◌, List, [], ◌∷◌, ◌++◌, length, map, take, drop, get_or, refl, sym, ap, subst, ◌∙◌, arith}
use Rattle.std.proofs.Math.Seq.{drop-append_seam, take-length}
use Rattle.std.proofs.lemmas.List.{append-nil, drop-append-le, get_or-drop, get_or-take, length-append, length-drop, length-take, take-append-le, take_more}
use Rattle.std.proofs.lemmas.Grind.{flat_map-append}
use Rattle.std.specs.List.{AllByRecursion, flat_map}
use Rattle.std.specs.Arc.{arc_value}
use Rattle.std.specs.Global.{Vec}
use Rattle.std.specs.declared.sync.Arc.{Arc}
use Rattle.lt_face.proofs.RowLemmas.{each_weaker}
use Rattle.lt_model.specs.declared.normal.Stmt.{Stmt}
use Rattle.lt_batch.specs.declared.spans.Span.{Span}
use Rattle.lt_batch.specs.Line.{programs_of}
use Rattle.lt_batch.specs.Spans.{no_span, parted, AreWithin}

-- how long the parts are
part_short : {X : Type 0} (span : Span) (xs : List X) (i : ℕ) → i < length (take span.count (drop span.start xs)) → (i < span.count) × (span.start + i < length xs)
part_short span xs i below =
    let a = length-take span.count (drop span.start xs) in
    let b = length-drop span.start xs in
    (omega (arith, a, below), omega (arith, a, b, below))

module _ {X : Type 0} where
  -- what stands at a place of a part stands at its place in the list
  pub part_at : (spans : List Span) (xs : List X) (s i : ℕ) (d : X) → i < (get_or spans s no_span).count → get_or xs ((get_or spans s no_span).start + i) d ≡ get_or (get_or (parted spans xs) s []) i d
  part_at [] xs s i d below = absurd (omega arith)
  part_at (span ∷ spans) xs zero i d below = sym (get_or-take span.count (drop span.start xs) i d below ∙ get_or-drop span.start xs i d)
  part_at (span ∷ spans) xs (suc s) i d below = part_at spans xs s i d below

  -- and there is one
  pub part_inside : (spans : List Span) (xs : List X) (s i : ℕ) → i < length (get_or (parted spans xs) s []) → (s < length spans) × (i < (get_or spans s no_span).count) × ((get_or spans s no_span).start + i < length xs)
  part_inside [] xs s i below = absurd (omega arith)
  part_inside (span ∷ spans) xs zero i below =
      let short = part_short span xs i below in
      (omega arith, short.0, short.1)
  part_inside (span ∷ spans) xs (suc s) i below =
      let there = part_inside spans xs s i below in
      (omega (arith, there.0), there.1, there.2)

  -- one part more, of all that comes behind the list
  pub parts_more : (spans : List Span) (xs ys : List X) (last : Span) → AreWithin spans (length xs) → last.start ≡ length xs → last.count ≡ length ys → parted (spans ++ last ∷ []) (xs ++ ys) ≡ parted spans xs ++ ys ∷ []
  parts_more [] xs ys last within start count =
      ap (λ n. take n (drop last.start (xs ++ ys)) ∷ []) count
      ∙ ap (λ n. take (length ys) (drop n (xs ++ ys)) ∷ []) start
      ∙ ap (λ zs. take (length ys) zs ∷ []) (drop-append_seam xs ys)
      ∙ ap (λ zs. zs ∷ []) (take-length ys)
  parts_more (span ∷ spans) xs ys last within start count =
      let long = length-drop span.start xs in
      let inside = within.0 in
      let same : take span.count (drop span.start (xs ++ ys)) ≡ take span.count (drop span.start xs) =
      ap (take span.count) (drop-append-le span.start xs ys (omega arith)) ∙ take-append-le span.count (drop span.start xs) ys (omega (arith, long, inside)) in
      ap (λ zs. zs ∷ parted (spans ++ last ∷ []) (xs ++ ys)) same
      ∙ ap (λ zss. take span.count (drop span.start xs) ∷ zss) (parts_more spans xs ys last within.1 start count)

pub within_more : (spans : List Span) (last : Span) (m n : ℕ) → m ≤ n → AreWithin spans m → last.start + last.count ≤ n → AreWithin (spans ++ last ∷ []) n
within_more [] last m n le within here = (here, tt)
within_more (span ∷ spans) last m n le within here =
    let first = within.0 in
    (omega (arith, first, le), within_more spans last m n le within.1 here)

pub within_wider : (spans : List Span) (m n : ℕ) → m ≤ n → AreWithin spans m → AreWithin spans n
within_wider spans m n le within = each_weaker (λ (span : Span). span.start + span.count ≤ m) (λ (span : Span). span.start + span.count ≤ n) (λ span h. omega (arith, h, le)) spans within

pub within_at : (spans : List Span) (s n : ℕ) → AreWithin spans n → (get_or spans s no_span).start ≤ n
within_at [] s n within = omega arith
within_at (span ∷ spans) zero n within =
    let here = within.0 in
    omega (arith, here)
within_at (span ∷ spans) (suc s) n within = within_at spans s n within.1

-- all of a list as its one part
pub parted_alone : {X : Type 0} (xs ys : List X) (n : ℕ) → xs ≡ ys → n ≡ length ys → parted (record { start = 0; count = n } ∷ []) xs ≡ ys ∷ []
parted_alone xs ys n same long = ap (λ zs. take n zs ∷ []) same ∙ ap (λ k. take k ys ∷ []) long ∙ ap (λ zs. zs ∷ []) (take-length ys)

-- ---- batches laid out in one list

module _ {Z : Type 0} where
  pub batches_more : (batches : List (Vec (Arc (List Stmt) Z))) (k : ℕ) (batch : Vec (Arc (List Stmt) Z)) → k < length batches → batch ≡ get_or batches k batch
      → programs_of (take (k + 1) batches) ≡ programs_of (take k batches) ++ map arc_value batch.items ∷ []
  batches_more batches k batch below is =
      ap programs_of (take_more batches k batch below)
      ∙ end_of (take k batches) (get_or batches k batch)
      ∙ ap (λ (b : Vec (Arc (List Stmt) Z)). programs_of (take k batches) ++ map arc_value b.items ∷ []) (sym is)
    where
      end_of : (xs : List (Vec (Arc (List Stmt) Z))) (x : Vec (Arc (List Stmt) Z)) → programs_of (xs ++ x ∷ []) ≡ programs_of xs ++ map arc_value x.items ∷ []
      end_of [] x = refl
      end_of (y ∷ xs) x = ap (λ zs. map arc_value y.items ∷ zs) (end_of xs x)

  pub batches_long : (batches : List (Vec (Arc (List Stmt) Z))) → length (programs_of batches) ≡ length batches
  batches_long [] = refl
  batches_long (batch ∷ batches) = ap suc (batches_long batches)

-- the programs so far, and where those of each batch stand
pub record IsLaidOut {Z : Type 0} (batches : List (Vec (Arc (List Stmt) Z))) (k : ℕ) (programs : List (List Stmt)) (spans : List Span) : Type 0 where
  pub all : programs ≡ flat_map (λ (batch : List (List Stmt)). batch) (programs_of (take k batches))
  pub parts : parted spans programs ≡ programs_of (take k batches)
  pub within : AreWithin spans (length programs)
  pub short : length programs ≤ 256 * k

pub laid_out_none : {Z : Type 0} (batches : List (Vec (Arc (List Stmt) Z))) → IsLaidOut batches 0 [] []
laid_out_none batches = record { all = refl; parts = refl; within = tt; short = omega arith }

pub laid_out_more : {Z : Type 0} (batches : List (Vec (Arc (List Stmt) Z))) (k : ℕ) (batch : Vec (Arc (List Stmt) Z)) (programs new : List (List Stmt)) (spans : List Span) (last : Span)
    → k < length batches → batch ≡ get_or batches k batch → length (map arc_value batch.items) ≤ 256 → new ≡ programs ++ map arc_value batch.items
    → last.start ≡ length programs → last.count ≡ length (map arc_value batch.items) → IsLaidOut batches k programs spans → IsLaidOut batches (k + 1) new (spans ++ last ∷ [])
laid_out_more batches k batch programs new spans last below is few grew start count h =
    let more = batches_more batches k batch below is in
    let long : length new ≡ length programs + length (map arc_value batch.items) = ap length grew ∙ length-append programs (map arc_value batch.items) in
    let short = h.short in
    record {
      all =
          grew
          ∙ ap (λ ps. ps ++ map arc_value batch.items) h.all
          ∙ ap (λ ps. flat_map (λ (b : List (List Stmt)). b) (programs_of (take k batches)) ++ ps) (sym (append-nil (map arc_value batch.items)))
          ∙ sym (flat_map-append (λ (b : List (List Stmt)). b) (programs_of (take k batches)) (map arc_value batch.items ∷ []))
          ∙ ap (flat_map (λ (b : List (List Stmt)). b)) (sym more);
      parts =
          ap (parted (spans ++ last ∷ [])) grew
          ∙ parts_more spans programs (map arc_value batch.items) last h.within start count
          ∙ ap (λ ps. ps ++ map arc_value batch.items ∷ []) h.parts
          ∙ sym more;
      within = within_more spans last (length programs) (length new) (omega (arith, long)) h.within (omega (arith, long, start, count));
      short = omega (arith, long, short, few);
    }

-- the next batch is short, as all are
pub batch_short : {Z : Type 0} (batches : List (Vec (Arc (List Stmt) Z))) (k : ℕ) (batch : Vec (Arc (List Stmt) Z)) → k < length batches → batch ≡ get_or batches k batch
    → AllByRecursion (λ (programs : List (List Stmt)). length programs ≤ 256) (programs_of batches) → length (map arc_value batch.items) ≤ 256
batch_short [] k batch below is few = absurd (omega arith)
batch_short (first ∷ batches) zero batch below is few = subst (λ (b : Vec (Arc (List Stmt) _)). length (map arc_value b.items) ≤ 256) (sym is) few.0
batch_short (first ∷ batches) (suc k) batch below is few = batch_short batches k batch (omega arith) is few.1

-- what holds of each program of each batch holds of all
pub each_joined : (P : List Stmt → Type 0) (batches : List (List (List Stmt))) → AllByRecursion (AllByRecursion P) batches → AllByRecursion P (flat_map (λ (batch : List (List Stmt)). batch) batches)
each_joined P [] all = tt
each_joined P (batch ∷ batches) all = both batch (flat_map (λ (b : List (List Stmt)). b) batches) all.0 (each_joined P batches all.1)
  where
    both : (xs ys : List (List Stmt)) → AllByRecursion P xs → AllByRecursion P ys → AllByRecursion P (xs ++ ys)
    both [] ys first more = more
    both (x ∷ xs) ys first more = (first.0, both xs ys first.1 more)
