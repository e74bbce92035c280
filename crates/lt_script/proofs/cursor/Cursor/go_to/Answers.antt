use Rattle.std.proofs.Common.{List, ◌≡◌, sym, ap, subst}
use Rattle.lt_model.specs.Tokens.{Token}
use Rattle.lt_script.specs.declared.lexer.Lexer.{Lexer}
use Rattle.lt_script.specs.Ahead.{Source, Place, source_of, IsPlace}
use Rattle.lt_script.proofs.Behind.{stood_at, passed_is}
use Rattle.lt_script.proofs.cursor.Cursor.go_to.Goals as goal

-- the same of the cursor's source
place_in : (s t : Source) (passed : List Token) (place : Lexer) → s ≡ t → IsPlace t passed place.line place.rest.now → IsPlace s passed place.line place.rest.now
place_in s t passed place same w = subst (λ (x : Source). IsPlace x passed place.line place.rest.now) (sym same) w

pub invariant_of-self : goal.invariant_of-self
invariant_of-self c =
    stood_at (source_of c.self.inside.start) c.requires.place.0 c.args.place (place_in (source_of c.self.inside.start) c.args.self.now.source c.requires.place.0 c.args.place (ap (λ (p : Place). p.source) c.self.view_is) c.requires.place.1) c.next-self-inside.result c.next-self-inside.new.self c.next-self-inside.ensures.next c.requires.fits c.next-self-inside.ensures.fits c.next-self-inside.ensures.opened

pub returns-clause-passed : goal.returns-clause-passed
returns-clause-passed c = λ passed w.
    passed_is (source_of c.self.inside.start) passed c.args.place (place_in (source_of c.self.inside.start) c.args.self.now.source passed c.args.place (ap (λ (p : Place). p.source) c.self.view_is) w) c.next-self-inside.result c.next-self-inside.new.self c.next-self-inside.ensures.next
