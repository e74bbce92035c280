use Rattle.std.proofs.Common.{◌≡◌, ◌∙◌, Ok, Err, IsUtf8, true, false, bytes_eq, ap, sym, subst, decimal, arith}
use Rattle.std.proofs.lemmas.Slice.Eq.{bytes_eq-Decides}
use Rattle.std.proofs.lemmas.Str.{IsUtf8-from_ascii}
use Rattle.std.proofs.lemmas.Fmt.{IsAscii-decimal}
use Rattle.lt_blocks.proofs.Numbers.{decimal_parses}
use Rattle.lt_blocks.proofs.words.number_of.Goals as goal

pub returns-in_default-clause-none : goal.returns-in_default-clause-none
returns-in_default-clause-none c = λ n small is. c.in_default.ensures.cases.0 (subst IsUtf8 (sym is) (IsUtf8-from_ascii (decimal n) (IsAscii-decimal n (omega (arith, small)))))

pub returns-in_default-parse-clause-none : goal.returns-in_default-parse-clause-none
returns-in_default-parse-clause-none c = λ n small is.
    let read : c.parse.result ≡ Ok n = decimal_parses n c.in-Ok.text.now c.parse.result small (c.in-Ok.ensures.cases.0 ∙ is) c.parse.ensures.value.0 in
    absurd (let e : Err c.in_default-parse.field-0 ≡ Ok n = sym c.in_default-parse.is ∙ read in cc)

pub returns-else-spelled-clause-none : goal.returns-else-spelled-clause-none
returns-else-spelled-clause-none c = λ n small is.
    let read : c.parse.result ≡ Ok n = decimal_parses n c.in-Ok.text.now c.parse.result small (c.in-Ok.ensures.cases.0 ∙ is) c.parse.ensures.value.0 in
    let both : Ok c.in-Ok-parse.number ≡ Ok n = sym c.in-Ok-parse.is ∙ read in
    let number : c.in-Ok-parse.number ≡ n = cc in
    let text : c.format.result.now ≡ c.in-Ok.text.now = c.format.ensures.text ∙ ap decimal number ∙ sym is ∙ sym c.in-Ok.ensures.cases.0 in
    let spelled : bytes_eq c.format.result.now c.in-Ok.text.now ≡ true = (bytes_eq-Decides c.format.result.now c.in-Ok.text.now).1 text in
    absurd (let e : false ≡ true = sym c.if-spelled.false ∙ c.eq-spelled.ensures ∙ spelled in cc)
