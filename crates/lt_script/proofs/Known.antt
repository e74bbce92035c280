-- Statements that are known, between two places of a cursor.
use Rattle.std.proofs.Common.{◌≡◌, ◌≤◌, ◌<◌, true, false, List, [], ◌∷◌, ◌++◌, length, Ok, sym, ap, subst, ◌∙◌}
use Rattle.lt_face.specs.Limits.{most_statements}
use Rattle.lt_reading.specs.Reading.{next_is}
use Rattle.lt_model.specs.Tokens.{Token}
use Rattle.lt_model.specs.Script as script
use Rattle.lt_model.specs.declared.syntax.Statement.{Statement}
use Rattle.lt_grammar.specs.Productions.{starts_statement}
use Rattle.lt_script.specs.declared.refusal.Refusal.{Refusal}
use Rattle.lt_script.specs.Parsed.{Fails, Outcome}
use Rattle.lt_script.specs.Valued.{valued_statement_at}
use Rattle.lt_script.specs.Ahead.{Place, shapes, passed_tokens}
use Rattle.lt_script.specs.Forms.{AreRead, more_statements}
use Rattle.lt_script.proofs.Room.{more_one, more_ends, more_fails}
use Rattle.lt_script.proofs.Past.{shapes_between}

-- what is still to be read stays the same
pub known_on : (front read all : List Statement) (p q : Place) (ts : List Token) → AreRead read (script.shapes ts) → all ≡ front ++ read → length all ≤ most_statements → q.source ≡ p.source → passed_tokens q ≡ passed_tokens p ++ ts → more_statements front (shapes p) ≡ more_statements all (shapes q)
known_on front read all p q ts are is few same passed =
    ap (more_statements front) (shapes_between p q ts same passed) ∙ are front (shapes q) (subst (λ (xs : List Statement). length xs ≤ most_statements) is few)
    ∙ ap (λ (xs : List Statement). more_statements xs (shapes q)) (sym is)

-- ---- a loop over statements

-- what is still to be read, as far as the loop has come
pub record Reading (old : List Statement) (start : Place) (items : List Statement) (here : Place) : Type 0 where
  pub so_far : more_statements old (shapes start) ≡ more_statements items (shapes here)
  pub few : length items ≤ most_statements
  pub source : here.source ≡ start.source

module _ (old : List Statement) (start : Place) (items : List Statement) (here : Place) (r : Reading old start items here) where
  pub reading_next : (s : Statement) (pushed new : List Statement) (there last : Place) → next_is starts_statement (shapes here) ≡ true → length items < most_statements → (valued_statement_at (shapes here) ≡ Ok (s, shapes there)) × (there.source ≡ here.source)
      → pushed ≡ items ++ s ∷ [] → more_statements pushed (shapes there) ≡ more_statements new (shapes last) → length new ≤ most_statements → last.source ≡ there.source → Reading old start new last
  reading_next s pushed new there last h lt read is known few same = record {
    so_far = r.so_far ∙ more_one items s (shapes here) (shapes there) h read.0 lt ∙ ap (λ (xs : List Statement). more_statements xs (shapes there)) (sym is) ∙ known;
    few = few;
    source = same ∙ read.1 ∙ r.source;
  }

  pub reading_ends : next_is starts_statement (shapes here) ≡ false → (more_statements old (shapes start) ≡ Ok (items, shapes here)) × (here.source ≡ start.source)
  reading_ends h = (r.so_far ∙ more_ends items (shapes here) h, r.source)

  pub reading_fails : (refusal : Refusal) (there : Place) → next_is starts_statement (shapes here) ≡ true → length items < most_statements → Fails refusal (shapes there) (valued_statement_at (shapes here)) × (there.source ≡ here.source)
      → Fails refusal (shapes there) (more_statements old (shapes start)) × (there.source ≡ start.source)
  reading_fails refusal there h lt k = (subst (λ (o : Outcome (List Statement)). Fails refusal (shapes there) o) (sym r.so_far) (more_fails refusal items (shapes here) (shapes there) h lt k.0), k.1 ∙ r.source)
