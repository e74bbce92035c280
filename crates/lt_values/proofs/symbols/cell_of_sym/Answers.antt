use Rattle.std.proofs.Common.{◌≡◌, ◌∙◌, ap, sym, subst, true}
use Rattle.std.specs.Int.{w128, from_be_bytes}
use Rattle.lt_face.specs.Rows.{IsCell}
use Rattle.lt_model.specs.Cells.{sym_cell}
use Rattle.lt_values.specs.Symbols.{is_symbol}
use Rattle.lt_values.proofs.Padding.{IsCell-sym_cell, key_is, symbol}
use Rattle.lt_values.proofs.symbols.cell_of_sym.Goals as goal

pub returns-clause-cell : goal.returns-clause-cell
returns-clause-cell c =
    let text = c.args.text.now in
    let is : is_symbol text ≡ true = sym c.is_symbol.ensures ∙ c.if-not-is_symbol.false in
    let cell : c.from_be_bytes.result ≡ sym_cell text = c.from_be_bytes.ensures ∙ ap (from_be_bytes w128) c.digits.ensures ∙ key_is text (symbol text is).few in
    subst IsCell (sym cell) (IsCell-sym_cell text is)
