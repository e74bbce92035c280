use Rattle.std.proofs.Common.{◌++◌, ◌∷◌, [], ◌∙◌, sym, subst}
use Rattle.lt_blocks.specs.Reading.{IsInside}
use Rattle.lt_blocks.proofs.Inside.{bad_between, inside, more_header}
use Rattle.lt_blocks.proofs.reader.Reader.end_between.Goals as goal

pub returns-in_ok-begin_line-in-Header-clause-read : goal.returns-in_ok-begin_line-in-Header-clause-read
returns-in_ok-begin_line-in-Header-clause-read c = λ bytes read.
    let r = c.args.self.now in
    let at = subst (λ n. IsInside r.blocks.items r.header r.entries.items n r.line.items r.number bytes) c.requires.missing (inside r bytes c.requires.stage read) in
    c.in_ok-begin_line-in-Header.ensures.read (bytes ++ 10 ∷ []) (c.requires.stage, more_header r.blocks.items r.header r.entries.items r.line.items r.number bytes at c.in-Header.header (sym c.deref.ensures.value ∙ c.in-Header.ensures.0) c.in-Header.ensures.1)

pub returns-in-Other-clause-read : goal.returns-in-Other-clause-read
returns-in-Other-clause-read c = λ bytes read more.
    let r = c.args.self.now in
    let at = subst (λ n. IsInside r.blocks.items r.header r.entries.items n r.line.items r.number bytes) c.requires.missing (inside r bytes c.requires.stage read) in
    bad_between r.blocks.items r.header r.entries.items r.line.items r.number bytes at (λ e. c.in-Other.ensures.0 (c.deref.ensures.value ∙ e)) (λ h small e. c.in-Other.ensures.1 h small (c.deref.ensures.value ∙ e)) more
