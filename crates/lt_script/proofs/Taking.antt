-- What the parser of an item found, and where it stopped.
use Rattle.std.proofs.Common.{◌≡◌, ◌≢◌, ℕ, List, [], ◌∷◌, ◌++◌, Ok, Err, refl, sym, ap, subst}
use Rattle.std.proofs.lemmas.List.{append-nil, append_cancel_right}
use Rattle.std.proofs.Common.{◌∙◌}
use Rattle.lt_reading.specs.Reading.{Cause}
use Rattle.lt_reading.specs.Faults.{code_of}
use Rattle.lt_model.specs.declared.syntax.Item.{Item}
use Rattle.lt_model.specs.Tokens.{Shape, Token, Ending, Read, finished, broken}
use Rattle.lt_model.specs.Grammar.{legal, SpellsItem, Derives}
use Rattle.lt_model.specs.Faults.{Faulty}
use Rattle.lt_model.specs.Limits.{IsWithinLimits}
use Rattle.lt_model.specs.Script as script
use Rattle.lt_grammar.specs.Productions.{item_at}
use Rattle.lt_grammar.proofs.Items.{Stopped, item_found, item_stops, nothing_left}
use Rattle.lt_script.specs.declared.standing.Standing.{Standing}
use Rattle.lt_script.specs.declared.standing.Standing.TheVariants as standing
use Rattle.lt_script.specs.declared.step.Step.{Step}
use Rattle.lt_script.specs.declared.refusal.Refusal.{Refusal}
use Rattle.lt_script.specs.declared.refusal.Refusal.TheVariants.{NoMemory, Fault}
use Rattle.lt_script.specs.Ahead.{Place, ahead, shapes, BeginsOn, StandsAs}
use Rattle.lt_script.specs.Parsed.{cause_of, Parses}
use Rattle.lt_script.specs.Valued as valued
use Rattle.lt_script.specs.Taken.{Begins, HasFault, HaltsAt, at_token, cut, torn, Takes, Halts, IsTaken, fault_of, IsRefused}
use Rattle.lt_script.proofs.Bridges.{item_tree, item_stop}
use Rattle.lt_script.proofs.Within.{read_within}
use Rattle.lt_script.proofs.Reading.{shapes-none}

-- an item
pub took : (p q : Place) (item : Item) → valued.valued_item_at (shapes p) ≡ Ok (item, shapes q) → q.source ≡ p.source → Takes p q item
took p q item read same =
    let t = item_tree (shapes p) item (shapes q) read in
    let f = item_found (shapes p) t.tree (shapes q) t.read in
    record {
      same = same;
      tokens = f.front;
      parts = f.parts;
      spelled = subst (λ (i : Item). SpellsItem legal i f.front) (sym t.is) f.spelled;
      within = subst IsWithinLimits (sym t.is) (read_within p t.tree (shapes q) t.read);
    }

-- no token yet
pub begins_none : Begins []
begins_none = λ done items d. subst (λ (us : List Shape). script.Stops us items []) (sym (append-nil done)) (nothing_left done items d)

-- a token that is broken before the item has one
pub broken_at_once : (p : Place) (line code : ℕ) → ahead p ≡ ([], broken line code) → Halts p p line code
broken_at_once p line code e = record { same = refl; left = []; parts = refl; begins = begins_none; at = torn line code e }

-- the parser stopped at this place
module _ (p q : Place) (cause : Cause) (some : (ahead p).0 ≢ []) (same : q.source ≡ p.source) (read : item_at (shapes p) ≡ Err (record { rest = shapes q; cause = cause })) where
  abbrev pub Stops_behind : List Shape → List Item → Type 0
  Stops_behind done items = Stopped done (shapes p) items (record { rest = shapes q; cause = cause })

  behind : (done : List Shape) (items : List Item) → Derives legal done items → Stops_behind done items
  behind done items d = item_stops done (shapes p) items (record { rest = shapes q; cause = cause }) d (shapes-none p some) read

  first : Stops_behind [] []
  first = behind [] [] refl

  -- the tokens up to there don't depend on the items before
  same_left : (done : List Shape) (items : List Item) (k : Stops_behind done items) → k.left ≡ first.left
  same_left done items k = append_cancel_right k.left first.left (shapes q) (sym k.parts ∙ first.parts)

  begins : Begins first.left
  begins = λ done items d. let k = behind done items d in subst (λ (us : List Shape). script.Stops (done ++ us) items us) (same_left done items k) k.stops

  fault : (t : Shape) (after : List Shape) → shapes q ≡ t ∷ after → HasFault first.left t (code_of cause)
  fault t after is = λ done items d. let k = behind done items d in subst (λ (us : List Shape). Faulty (done ++ us) t (code_of cause)) (same_left done items k) (k.fault t after is)

  shapes_are : (ts : List Token) (ending : Ending) → ahead q ≡ (ts, ending) → shapes q ≡ script.shapes ts
  unfolding shapes
  shapes_are ts ending e = ap (λ (r : Read). script.shapes r.0) e

  halts : (line code : ℕ) → HaltsAt first.left (ahead q) line code → Halts p q line code
  halts line code at = record { same = same; left = first.left; parts = first.parts; begins = begins; at = at }

  on_token : (line : ℕ) → BeginsOn line (ahead q).0 → HaltsAt first.left (ahead q) line (code_of cause)
  on_token line b =
      let all : ahead q ≡ (b.first ∷ b.others, (ahead q).1) = ap (λ (ts : List Token). let x : Read = (ts, (ahead q).1) in x) b.are in
      subst (λ n. HaltsAt first.left (ahead q) n (code_of cause)) b.line_is
      (at_token b.first b.others (ahead q).1 (code_of cause) all (fault b.first.shape (script.shapes b.others) (shapes_are (b.first ∷ b.others) (ahead q).1 all)))

  pub stopped : (s : Standing) → StandsAs s q → IsTaken p q (fault_of s (code_of cause))
  stopped (standing.Token line) h = halts line (code_of cause) (on_token line h)
  stopped (standing.End line) h = halts line 7 (cut line h (first.some (shapes_are [] (finished line) h)))
  stopped (standing.Broken line code) h = halts line code (torn line code h)

-- what is answered where the parser refused an item
pub refused : (p q : Place) (refusal : Refusal) (s : Standing) (step : Step) → (ahead p).0 ≢ [] → Parses (λ (x : Item). x) (Err refusal) p q valued.valued_item_at → StandsAs s q → IsRefused refusal s step → IsTaken p q step
refused p q NoMemory s step some read there is = subst (IsTaken p q) (sym is) tt
refused p q (Fault cause) s step some read there is = subst (IsTaken p q) (sym is) (stopped p q (cause_of cause) some read.1 (item_stop (shapes p) _ read.0) s there)
