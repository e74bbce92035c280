-- What follows from taking one term, and from taking several.
use Rattle.std.proofs.Common.{◌≡◌, ◌≢◌, ℕ, zero, suc, ◌+◌, ◌<◌, ◌≤◌, true, false, ◌&&◌, List, [], ◌∷◌, ◌++◌, map, length, take, get_or, set, Option, Some, None, refl, sym, ap, subst, ◌∙◌, arith}
use mathlib.Core.Bool.{true≢false}
use Rattle.std.specs.Prelude.{position, slice_index_or, IfSome}
use Rattle.std.specs.Str.{bytes_eq}
use Rattle.std.proofs.Math.ListN.{length-set}
use Rattle.std.proofs.lemmas.List.{take_more, take_all, length-append, length-map, map-append, append-nil}
use Rattle.lt_model.specs.declared.kind.Kind.{Kind}
use Rattle.lt_model.specs.declared.kind.Kind.TheVariants.{Int}
use Rattle.lt_model.specs.declared.syntax.Term.{Term}
use Rattle.lt_model.specs.declared.syntax.Term.TheVariants.{Name, Cell}
use Rattle.lt_model.specs.Variables.{place_of}
use Rattle.lt_model.specs.Check.{Choice, kind_of, same_kind, same_kinds}
use Rattle.lt_check.specs.Narrowing.{Known, Suits}
use Rattle.lt_check.specs.Seen.{with_variables}
use Rattle.lt_check.specs.Taking.{IsWhole, Allows, Agrees, Condition, Takes}
use Rattle.lt_check.specs.declared.notes.Notes.{Notes}
use Rattle.lt_check.proofs.Fronts.{IsWhole_before, names_found, names_added, number_found}
use Rattle.lt_check.proofs.Narrowing.{both, both_are, same_kind_is, same_kind_itself, same_kind_turned, same_kinds_more, same_kinds_lengths, and_true}
use Rattle.lt_check.proofs.Steps.{with_variables_both}

-- ---- what is known

Suits_pushed : (known : Known) (v : ℕ) → slice_index_or (known ++ None ∷ []) v None ≡ slice_index_or known v None
Suits_pushed [] zero = refl
Suits_pushed [] (suc v) = refl
Suits_pushed (k ∷ known) zero = refl
Suits_pushed (k ∷ known) (suc v) = Suits_pushed known v

Suits_set : (known : Known) (v u : ℕ) (kind : Kind) (kinds : ℕ → Kind) → kinds v ≡ kind → Suits (slice_index_or known u None) (kinds u) → Suits (slice_index_or (set known v (Some kind)) u None) (kinds u)
Suits_set [] v u kind kinds e s = s
Suits_set (k ∷ known) zero zero kind kinds e s = sym e
Suits_set (k ∷ known) zero (suc u) kind kinds e s = s
Suits_set (k ∷ known) (suc v) zero kind kinds e s = s
Suits_set (k ∷ known) (suc v) (suc u) kind kinds e s = Suits_set known v u kind (λ n. kinds (suc n)) e s

Suits_unset : (known : Known) (v u : ℕ) (kind : Kind) (kinds : ℕ → Kind) → slice_index_or known v None ≡ None → Suits (slice_index_or (set known v (Some kind)) u None) (kinds u) → Suits (slice_index_or known u None) (kinds u)
Suits_unset [] v u kind kinds e s = s
Suits_unset (k ∷ known) zero zero kind kinds e s = let P : Option Kind → Type 0 = λ o. Suits o (kinds zero) in subst P (sym e) tt
Suits_unset (k ∷ known) zero (suc u) kind kinds e s = s
Suits_unset (k ∷ known) (suc v) zero kind kinds e s = s
Suits_unset (k ∷ known) (suc v) (suc u) kind kinds e s = Suits_unset known v u kind (λ n. kinds (suc n)) e s

kind_set : (known : Known) (v : ℕ) (kind : Kind) (kinds : ℕ → Kind) → v < length known → Suits (slice_index_or (set known v (Some kind)) v None) (kinds v) → kinds v ≡ kind
kind_set [] v kind kinds less s = absurd (omega (arith, less))
kind_set (k ∷ known) zero kind kinds less s = sym s
kind_set (k ∷ known) (suc v) kind kinds less s = kind_set known v kind (λ n. kinds (suc n)) (omega (arith, less)) s

-- ---- one look

-- notes that differ in nothing that a choice is judged by
pub Agrees_as : (was is : Notes) (choice : Choice) → is.known ≡ was.known → is.conflict ≡ was.conflict → Agrees was choice → Agrees is choice
Agrees_as was is choice e f a = record {
  calm = f ∙ a.calm;
  kinds = subst (λ known. Allows known choice) (sym e) a.kinds;
}

-- nothing is to be learned
pub Takes_still : (meets : Condition) (was : Notes) → ((whole : List (List ℕ)) (choice : Choice) → meets whole choice ≡ true) → Takes [] meets was was
Takes_still meets was h = record {
  names = refl;
  long = λ l. l;
  keeps = λ whole choice w a e. a;
  back = λ choice a. a;
  met = λ whole choice w o a. h whole choice;
  shut = λ o. o;
}

-- a condition that none meets
pub Takes_never : (meets : Condition) (was is : Notes) → is.names ≡ was.names → is.known ≡ was.known → is.conflict ≡ true → is.open ≡ was.open → ((whole : List (List ℕ)) (choice : Choice) → meets whole choice ≡ false) → Takes [] meets was is
Takes_never meets was is e f g o h = record {
  names = e;
  long = λ l. ap length f ∙ l ∙ sym (ap length e);
  keeps = λ whole choice w a m. absurd (true≢false (sym m ∙ h whole choice));
  back = λ choice a. absurd (true≢false (sym g ∙ a.calm));
  met = λ whole choice w s a. absurd (true≢false (sym g ∙ a.calm));
  shut = λ s. sym o ∙ s;
}

-- a condition that is left open
pub Takes_open : (meets : Condition) (was is : Notes) → is.names ≡ was.names → is.known ≡ was.known → is.conflict ≡ was.conflict → is.open ≡ true → Takes [] meets was is
Takes_open meets was is e f g o = record {
  names = e;
  long = λ l. ap length f ∙ l ∙ sym (ap length e);
  keeps = λ whole choice w a m. Agrees_as was is choice f g a;
  back = λ choice a. Agrees_as is was choice (sym f) (sym g) a;
  met = λ whole choice w s a. absurd (true≢false (sym o ∙ s));
  shut = λ s. absurd (true≢false (sym o ∙ s));
}

-- a variable that had no kind gets one
pub Takes_set : (was is : Notes) (v : ℕ) (kind : Kind) → slice_index_or was.known v None ≡ None → v < length was.known → is.names ≡ was.names → is.known ≡ set was.known v (Some kind) → is.conflict ≡ was.conflict → is.open ≡ was.open → Takes [] (λ whole choice. same_kind (slice_index_or choice v Int) kind) was is
Takes_set was is v kind none less e f g o = record {
  names = e;
  long = λ l. ap length f ∙ length-set was.known v (Some kind) ∙ l ∙ sym (ap length e);
  keeps = λ whole choice w a m. record {
    calm = g ∙ a.calm;
    kinds = subst (λ known. Allows known choice) (sym f) (λ u. Suits_set was.known v u kind (λ n. slice_index_or choice n Int) (same_kind_is (slice_index_or choice v Int) kind m) (a.kinds u));
  };
  back = λ choice a. record {
    calm = sym g ∙ a.calm;
    kinds = λ u. Suits_unset was.known v u kind (λ n. slice_index_or choice n Int) none (subst (λ known. Allows known choice) f a.kinds u);
  };
  met = λ whole choice w s a.
      ap (λ k. same_kind k kind) (kind_set was.known v kind (λ n. slice_index_or choice n Int) less (subst (λ known. Allows known choice) f a.kinds v)) ∙ same_kind_itself kind;
  shut = λ s. sym o ∙ s;
}

-- a variable that is there
pub Takes_found : (was : Notes) (name : List ℕ) (at : ℕ) → Some at ≡ position (bytes_eq name) was.names → Takes (Name name ∷ []) (λ whole choice. true) was was
Takes_found was name at found = record {
  names = names_found was.names name at found;
  long = λ l. l;
  keeps = λ whole choice w a e. a;
  back = λ choice a. a;
  met = λ whole choice w o a. refl;
  shut = λ o. o;
}

-- a variable that is new
pub Takes_added : (was is : Notes) (name : List ℕ) → None ≡ position (bytes_eq name) was.names → is.names ≡ was.names ++ name ∷ [] → is.known ≡ was.known ++ None ∷ [] → is.conflict ≡ was.conflict → is.open ≡ was.open → Takes (Name name ∷ []) (λ whole choice. true) was is
Takes_added was is name none e f g o = record {
  names = e ∙ names_added was.names name none;
  long = λ l.
      let one : length (was.known ++ None ∷ []) ≡ length was.known + 1 = length-append was.known (None ∷ []) in
      let two : length (was.names ++ name ∷ []) ≡ length was.names + 1 = length-append was.names (name ∷ []) in
      ap length f ∙ one ∙ ap (λ n. n + 1) l ∙ sym two ∙ sym (ap length e);
  keeps = λ whole choice w a m. record {
    calm = g ∙ a.calm;
    kinds = λ v. let P : Option Kind → Type 0 = λ k. Suits k (slice_index_or choice v Int) in subst P (sym (ap (λ known. slice_index_or known v None) f ∙ Suits_pushed was.known v)) (a.kinds v);
  };
  back = λ choice a. record {
    calm = sym g ∙ a.calm;
    kinds = λ v. let P : Option Kind → Type 0 = λ k. Suits k (slice_index_or choice v Int) in subst P (ap (λ known. slice_index_or known v None) f ∙ Suits_pushed was.known v) (a.kinds v);
  };
  met = λ whole choice w s a. refl;
  shut = λ s. sym o ∙ s;
}

-- a constant
pub Takes_cell : (was : Notes) (kind : Kind) (cell : ℕ) → Takes (Cell kind cell ∷ []) (λ whole choice. true) was was
Takes_cell was kind cell = record {
  names = refl;
  long = λ l. l;
  keeps = λ whole choice w a e. a;
  back = λ choice a. a;
  met = λ whole choice w o a. refl;
  shut = λ o. o;
}

-- a condition that the choices at hand meet alike
pub Takes_as : (terms : List Term) (f g : Condition) (was is : Notes) → ((whole : List (List ℕ)) (choice : Choice) → IsWhole is.names whole → Agrees was choice → f whole choice ≡ g whole choice) → Takes terms f was is → Takes terms g was is
Takes_as terms f g was is e t = record {
  names = t.names;
  long = t.long;
  keeps = λ whole choice w a h. t.keeps whole choice w a (e whole choice w a ∙ h);
  back = t.back;
  met = λ whole choice w o a. sym (e whole choice w (t.back choice a)) ∙ t.met whole choice w o a;
  shut = t.shut;
}

-- ---- several looks

-- one look after another
pub Takes_both : (xs ys terms : List Term) (f g meets : Condition) (was between is : Notes) → terms ≡ xs ++ ys → ((whole : List (List ℕ)) (choice : Choice) → IsWhole is.names whole → meets whole choice ≡ (f whole choice && g whole choice)) → Takes xs f was between → Takes ys g between is → Takes terms meets was is
Takes_both xs ys terms f g meets was between is same e m n = record {
  names = n.names ∙ ap (λ ns. with_variables ns ys) m.names ∙ sym (with_variables_both was.names xs ys) ∙ ap (with_variables was.names) (sym same);
  long = λ l. n.long (m.long l);
  keeps = λ whole choice w a h.
      let p = both (f whole choice) (g whole choice) (sym (e whole choice w) ∙ h) in
      n.keeps whole choice w (m.keeps whole choice (IsWhole_before between.names is.names whole ys n.names w) a p.0) p.1;
  back = λ choice a. m.back choice (n.back choice a);
  met = λ whole choice w o a.
      e whole choice w
      ∙ both_are (f whole choice) (g whole choice) (m.met whole choice (IsWhole_before between.names is.names whole ys n.names w) (n.shut o) (n.back choice a)) (n.met whole choice w o a);
  shut = λ o. m.shut (n.shut o);
}

-- a term of which nothing is told, and then what is told of it
pub Takes_then : (term : Term) (meets told : Condition) (was between is : Notes) → ((whole : List (List ℕ)) (choice : Choice) → IsWhole is.names whole → meets whole choice ≡ told whole choice) → Takes (term ∷ []) (λ whole choice. true) was between → Takes [] told between is → Takes (term ∷ []) meets was is
Takes_then term meets told was between is e m n = Takes_both (term ∷ []) [] (term ∷ []) (λ whole choice. true) told meets was between is refl e m n

-- a variable's kind is told by its number
pub Takes_numbered : (name : List ℕ) (number : ℕ) (kind : Kind) (was between is : Notes) → ((whole : List (List ℕ)) → IsWhole between.names whole → number ≡ place_of whole name) → Takes (Name name ∷ []) (λ whole choice. true) was between → Takes [] (λ whole choice. same_kind (slice_index_or choice number Int) kind) between is → Takes (Name name ∷ []) (λ whole choice. same_kind (slice_index_or choice (place_of whole name) Int) kind) was is
Takes_numbered name number kind was between is e m n =
    Takes_then (Name name) (λ whole choice. same_kind (slice_index_or choice (place_of whole name) Int) kind) (λ whole choice. same_kind (slice_index_or choice number Int) kind) was between is
    (λ whole choice w. ap (λ v. same_kind (slice_index_or choice v Int) kind) (sym (e whole (IsWhole_before between.names is.names whole [] n.names w)))) m n

-- what holds of all names goes on to hold
pub stays : {N : Type 0} (n : N) (f : List (List ℕ) → N) (was is : Notes) (terms : List Term) (meets : Condition) → ((whole : List (List ℕ)) → IsWhole was.names whole → n ≡ f whole) → Takes terms meets was is → (whole : List (List ℕ)) → IsWhole is.names whole → n ≡ f whole
stays n f was is terms meets e t whole w = e whole (IsWhole_before was.names is.names whole terms t.names w)

-- ---- steps of loops

-- one more in a list of what terms become
pub listed_more : {N : Type 0} (f : List (List ℕ) → Term → N) (terms : List Term) (i : ℕ) (t : Term) (list : List N) (n : N) (was is : Notes) (meets : Condition) → i < length terms → t ≡ get_or terms i t → Takes (t ∷ []) meets was is → ((whole : List (List ℕ)) → IsWhole was.names whole → list ≡ map (f whole) (take i terms)) → ((whole : List (List ℕ)) → IsWhole is.names whole → n ≡ f whole t) → (whole : List (List ℕ)) → IsWhole is.names whole → list ++ n ∷ [] ≡ map (f whole) (take (i + 1) terms)
listed_more f terms i t list n was is meets h e m before here whole w =
    ap (λ ns. ns ++ n ∷ []) (before whole (IsWhole_before was.names is.names whole (t ∷ []) m.names w))
    ∙ ap (λ x. map (f whole) (take i terms) ++ x ∷ []) (here whole w)
    ∙ ap (λ x. map (f whole) (take i terms) ++ f whole x ∷ []) e
    ∙ sym (map-append (f whole) (take i terms) (get_or terms i t ∷ []))
    ∙ ap (map (f whole)) (sym (take_more terms i t h))

one_more : (terms : List Term) (i : ℕ) (t : Term) → i < length terms → t ≡ get_or terms i t → take (i + 1) terms ≡ take i terms ++ t ∷ []
one_more terms i t h e = take_more terms i t h ∙ ap (λ x. take i terms ++ x ∷ []) (sym e)

-- the next term, of which nothing is told
pub Takes_term : (terms : List Term) (i : ℕ) (t : Term) (was between is : Notes) → i < length terms → t ≡ get_or terms i t → Takes (take i terms) (λ whole choice. true) was between → Takes (t ∷ []) (λ whole choice. true) between is → Takes (take (i + 1) terms) (λ whole choice. true) was is
Takes_term terms i t was between is h e m n = Takes_both (take i terms) (t ∷ []) (take (i + 1) terms) (λ whole choice. true) (λ whole choice. true) (λ whole choice. true) was between is (one_more terms i t h e) (λ whole choice w. refl) m n

-- the next argument
pub Takes_argument : (terms : List Term) (columns : List Kind) (i : ℕ) (t : Term) (was between is : Notes) → i < length terms → length terms ≡ length columns → t ≡ get_or terms i t → Takes (take i terms) (λ whole choice. same_kinds (map (kind_of whole choice) (take i terms)) (take i columns)) was between → Takes (t ∷ []) (λ whole choice. same_kind (kind_of whole choice t) (get_or columns i Int)) between is → Takes (take (i + 1) terms) (λ whole choice. same_kinds (map (kind_of whole choice) (take (i + 1) terms)) (take (i + 1) columns)) was is
Takes_argument terms columns i t was between is h l e m n =
    Takes_both (take i terms) (t ∷ []) (take (i + 1) terms) (λ whole choice. same_kinds (map (kind_of whole choice) (take i terms)) (take i columns)) (λ whole choice. same_kind (kind_of whole choice t) (get_or columns i Int)) (λ whole choice. same_kinds (map (kind_of whole choice) (take (i + 1) terms)) (take (i + 1) columns)) was between is (one_more terms i t h e)
    (λ whole choice w.
    same_kinds_more (kind_of whole choice) terms columns i t Int h (omega arith)
    ∙ ap (λ x. same_kinds (map (kind_of whole choice) (take i terms)) (take i columns) && same_kind (kind_of whole choice x) (get_or columns i Int)) (sym e))
    m n

-- nothing is taken yet
pub Takes_none : (was : Notes) → Takes [] (λ whole choice. true) was was
Takes_none was = Takes_still (λ whole choice. true) was (λ whole choice. refl)

-- all were taken
pub Takes_all : (terms : List Term) (i : ℕ) (was is : Notes) → length terms ≤ i → Takes (take i terms) (λ whole choice. true) was is → Takes terms (λ whole choice. true) was is
Takes_all terms i was is h t = subst (λ ts. Takes ts (λ whole choice. true) was is) (take_all i terms h) t

pub Takes_row : (terms : List Term) (columns : List Kind) (i : ℕ) (was is : Notes) → length terms ≤ i → length terms ≡ length columns → Takes (take i terms) (λ whole choice. same_kinds (map (kind_of whole choice) (take i terms)) (take i columns)) was is → Takes terms (λ whole choice. same_kinds (map (kind_of whole choice) terms) columns) was is
Takes_row terms columns i was is h l t =
    let P : List Term → List Kind → Type 0 = λ ts ks. Takes ts (λ whole choice. same_kinds (map (kind_of whole choice) ts) ks) was is in
    subst (λ ts. P ts columns) (take_all i terms h) (subst (λ ks. P (take i terms) ks) (take_all i columns (omega (arith, h, l))) t)

-- the list of all
pub listed_all : {N : Type 0} (f : List (List ℕ) → Term → N) (terms : List Term) (i : ℕ) (list : List N) (names : List (List ℕ)) → length terms ≤ i → ((whole : List (List ℕ)) → IsWhole names whole → list ≡ map (f whole) (take i terms)) → (whole : List (List ℕ)) → IsWhole names whole → list ≡ map (f whole) terms
listed_all f terms i list names h e whole w = e whole w ∙ ap (map (f whole)) (take_all i terms h)

-- ---- comparisons and sums

-- the kind of the left term is known
pub Takes_left : (left right : Term) (kind : Kind) (was between is : Notes) → ((whole : List (List ℕ)) (choice : Choice) → IsWhole was.names whole → Agrees was choice → kind_of whole choice left ≡ kind) → Takes (left ∷ []) (λ whole choice. true) was between → Takes (right ∷ []) (λ whole choice. same_kind (kind_of whole choice right) kind) between is → Takes (left ∷ right ∷ []) (λ whole choice. same_kind (kind_of whole choice left) (kind_of whole choice right)) was is
Takes_left left right kind was between is e m n =
    let f : Condition = λ whole choice. same_kind (kind_of whole choice right) kind in
    let t : Takes (left ∷ right ∷ []) f was is = Takes_both (left ∷ []) (right ∷ []) (left ∷ right ∷ []) (λ whole choice. true) f f was between is refl (λ whole choice w. refl) m n in
    Takes_as (left ∷ right ∷ []) f (λ whole choice. same_kind (kind_of whole choice left) (kind_of whole choice right)) was is
    (λ whole choice w a.
    same_kind_turned (kind_of whole choice right) kind
    ∙ ap (λ k. same_kind k (kind_of whole choice right)) (sym (e whole choice (IsWhole_before was.names is.names whole (left ∷ right ∷ []) t.names w) a)))
    t

-- that of the right term is
pub Takes_right : (left right : Term) (kind : Kind) (was between is : Notes) → ((whole : List (List ℕ)) (choice : Choice) → IsWhole was.names whole → Agrees was choice → kind_of whole choice right ≡ kind) → Takes (left ∷ []) (λ whole choice. same_kind (kind_of whole choice left) kind) was between → Takes (right ∷ []) (λ whole choice. true) between is → Takes (left ∷ right ∷ []) (λ whole choice. same_kind (kind_of whole choice left) (kind_of whole choice right)) was is
Takes_right left right kind was between is e m n =
    let f : Condition = λ whole choice. same_kind (kind_of whole choice left) kind in
    let t : Takes (left ∷ right ∷ []) f was is = Takes_both (left ∷ []) (right ∷ []) (left ∷ right ∷ []) f (λ whole choice. true) f was between is refl (λ whole choice w. sym (and_true (f whole choice))) m n in
    Takes_as (left ∷ right ∷ []) f (λ whole choice. same_kind (kind_of whole choice left) (kind_of whole choice right)) was is
    (λ whole choice w a. ap (λ k. same_kind (kind_of whole choice left) k) (sym (e whole choice (IsWhole_before was.names is.names whole (left ∷ right ∷ []) t.names w) a)))
    t

-- neither is
pub Takes_neither : (left right : Term) (meets : Condition) (was between next is : Notes) → Takes (left ∷ []) (λ whole choice. true) was between → Takes (right ∷ []) (λ whole choice. true) between next → Takes [] meets next is → Takes (left ∷ right ∷ []) meets was is
Takes_neither left right meets was between next is m n o =
    let t = Takes_both (left ∷ []) (right ∷ []) (left ∷ right ∷ []) (λ whole choice. true) (λ whole choice. true) (λ whole choice. true) was between next refl (λ whole choice w. refl) m n in
    Takes_both (left ∷ right ∷ []) [] (left ∷ right ∷ []) (λ whole choice. true) meets meets was next is refl (λ whole choice w. refl) t o

-- a term's kind by its place, where it is known
pub kind_told : (name : List ℕ) (at : ℕ) (kind : Kind) (notes : Notes) (whole : List (List ℕ)) (choice : Choice) → Some at ≡ position (bytes_eq name) notes.names → Some kind ≡ slice_index_or notes.known at None → IsWhole notes.names whole → Agrees notes choice → kind_of whole choice (Name name) ≡ kind
kind_told name at kind notes whole choice found known w a =
    let P : Option Kind → Type 0 = λ k. Suits k (slice_index_or choice at Int) in
    ap (λ v. slice_index_or choice v Int) (sym (number_found notes.names whole name at at found (λ l. refl) w)) ∙ sym (subst P (sym known) (a.kinds at))

-- two terms, one after the other
pub two_terms : {N : Type 0} (f : List (List ℕ) → Term → N) (left right : Term) (first second : N) (between is : Notes) (meets : Condition) → ((whole : List (List ℕ)) → IsWhole between.names whole → first ≡ f whole left) → Takes (right ∷ []) meets between is → ((whole : List (List ℕ)) → IsWhole is.names whole → second ≡ f whole right) → (whole : List (List ℕ)) → IsWhole is.names whole → ◌≡◌ {A = N × N} (first, second) (f whole left, f whole right)
two_terms {N} f left right first second between is meets e t g whole w =
    let one = stays first (λ ns. f ns left) between is (right ∷ []) meets e t whole w in
    let two = g whole w in
    let P : N → N → N × N = λ x y. (x, y) in
    ap (λ x. P x second) one ∙ ap (P (f whole left)) two

-- a kind that was known is this one
pub Takes_agreed : (v : ℕ) (known kind : Kind) (was is : Notes) → Some known ≡ slice_index_or was.known v None → Takes [] (λ whole choice. same_kind known kind) was is → Takes [] (λ whole choice. same_kind (slice_index_or choice v Int) kind) was is
Takes_agreed v known kind was is e t =
    Takes_as [] (λ whole choice. same_kind known kind) (λ whole choice. same_kind (slice_index_or choice v Int) kind) was is
    (λ whole choice w a.
    let P : Option Kind → Type 0 = λ k. Suits k (slice_index_or choice v Int) in
    let same : known ≡ slice_index_or choice v Int = subst P (sym e) (a.kinds v) in
    ap (λ k. same_kind k kind) same) t

-- the kind of a variable that was found
pub name_told : (o : Option Kind) (name : List ℕ) (at : ℕ) (notes : Notes) → Some at ≡ position (bytes_eq name) notes.names → o ≡ slice_index_or notes.known at None → IfSome o (λ kind. (whole : List (List ℕ)) (choice : Choice) → IsWhole notes.names whole → Agrees notes choice → slice_index_or choice (place_of whole name) Int ≡ kind)
name_told None name at notes found known = tt
name_told (Some kind) name at notes found known = λ whole choice w a. kind_told name at kind notes whole choice found known w a

-- a row of another length
pub Takes_misfit : (terms : List Term) (columns : List Kind) (was between is : Notes) → length terms ≢ length columns → Takes terms (λ whole choice. true) was between → ((meets : Condition) → ((whole : List (List ℕ)) (choice : Choice) → meets whole choice ≡ false) → Takes [] meets between is) → Takes terms (λ whole choice. same_kinds (map (kind_of whole choice) terms) columns) was is
Takes_misfit terms columns was between is h t never =
    let meets : Condition = λ whole choice. same_kinds (map (kind_of whole choice) terms) columns in
    Takes_both terms [] terms (λ whole choice. true) meets meets was between is (sym (append-nil terms)) (λ whole choice w. refl) t
    (never meets (λ whole choice. same_kinds_lengths (map (kind_of whole choice) terms) columns (λ e. h (sym (length-map terms (kind_of whole choice)) ∙ e))))
