-- Boards that begin with the two relations of the tests go on so.
use Rattle.std.proofs.Common.{◌≡◌, ◌⊎◌, ℕ, zero, suc, ◌+◌, List, [], ◌∷◌, ◌++◌, map, option_map, Some, slice_get, refl, sym, ap, subst, ◌∙◌, ⊎_elim}
use mathlib.Core.List.{IsPrefix}
use Rattle.lt_face.specs.State.{Relation, State}
use Rattle.lt_model.specs.declared.normal.Stmt.{Stmt}
use Rattle.lt_base.specs.Tables.{Table, state_of}
use Rattle.lt_readers.specs.declared.version.Version.{Version}
use Rattle.lt_readers.specs.Boards.{FitsFirst}
use Rattle.lt_readers.specs.Lists.{EndsIn}
use Rattle.lt_readers.proofs.Beginnings.{prefix_get, some_same}
use Rattle.lt_run_trials.specs.Fitting.{AreBoth, FitsBoth, KeepsWidths}
use Rattle.lt_run_trials.specs.Opening.{BeginsWithBoth, IsOpening}

pub fits_first : (log : List Version) (program : List Stmt) → BeginsWithBoth log → FitsBoth program → FitsFirst log program
fits_first log program b fits v at = fits (state_of v.db) (subst (λ (w : Version). AreBoth (state_of w.db)) (some_same b.first v (sym b.begins ∙ at)) b.both)

pub begins_on : (xs ys : List Version) → IsPrefix xs ys → BeginsWithBoth xs → BeginsWithBoth ys
begins_on xs ys pre b = record { first = b.first; begins = prefix_get xs ys 0 b.first pre b.begins; both = b.both }

pub begins_learnt : (old told new : List Version) → ((new ≡ told) × IsPrefix old told) ⊎ ((new ≡ old) × IsPrefix told old) → BeginsWithBoth old → BeginsWithBoth told → BeginsWithBoth new
begins_learnt old told new either o t =
    ⊎_elim
    (λ (h : (new ≡ told) × IsPrefix old told). subst BeginsWithBoth (sym h.0) t)
    (λ (h : (new ≡ old) × IsPrefix told old). subst BeginsWithBoth (sym h.0) o)
    either

pub opening_begins : (log : List Version) → IsOpening log → BeginsWithBoth log
opening_begins log o = record { first = o.only; begins = ap (λ (l : List Version). slice_get l 0) o.is; both = o.both }

-- the last of an opening is its only one
pub only_last : (log : List Version) (o : IsOpening log) (v : Version) → EndsIn log v → o.only ≡ v
only_last log o v ends = some_same o.only v (subst (λ (l : List Version). EndsIn l v) o.is ends)

-- relations whose widths are the same are as wide
wide_same : (s t : State) → map (λ (r : Relation). r.width) s ≡ map (λ (r : Relation). r.width) t → (relation width : ℕ) → option_map (λ (r : Relation). r.width) (slice_get s relation) ≡ Some width
    → option_map (λ (r : Relation). r.width) (slice_get t relation) ≡ Some width
wide_same [] t same relation width wide = absurd cc
wide_same (r ∷ s) [] same relation width wide = absurd (cc same)
wide_same (r ∷ s) (q ∷ t) same zero width wide = cc (same, wide)
wide_same (r ∷ s) (q ∷ t) same (suc n) width wide = wide_same s t (cc same) n width wide

pub keeps_both : (log : List Version) → IsOpening log → (next : State) → AreBoth next → (v : Version) → EndsIn log v → KeepsWidths (state_of v.db) next
keeps_both log o next both v ends =
    let old : AreBoth (state_of v.db) = subst (λ (w : Version). AreBoth (state_of w.db)) (only_last log o v ends) o.both in
    λ relation width wide. wide_same (state_of v.db) next (old ∙ sym both) relation width wide

abbrev version : ℕ → ℕ → List Table → Version
version number most db = record { number = number; most = most; db = db }

-- what was posted behind an opening begins as that
pub posted_begins : (old new : List Version) (number : ℕ) (db : List Table) → IsOpening old → ((v : Version) → EndsIn old v → (number ≡ v.number + 1) × (new ≡ old ++ version number v.most db ∷ [])) → BeginsWithBoth new
posted_begins old new number db o ok =
    let last : EndsIn old o.only = subst (λ (l : List Version). EndsIn l o.only) (sym o.is) refl in
    let is : new ≡ o.only ∷ version number o.only.most db ∷ [] = (ok o.only last).1 ∙ ap (λ (l : List Version). l ++ version number o.only.most db ∷ []) o.is in
    record { first = o.only; begins = ap (λ (l : List Version). slice_get l 0) is; both = o.both }
