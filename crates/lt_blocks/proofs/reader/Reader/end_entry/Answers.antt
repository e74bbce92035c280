use Rattle.std.proofs.Common.{◌++◌, ◌∷◌, [], ◌∙◌, ◌-◌, List, sym, subst, arith}
use Rattle.lt_batch.specs.declared.replaying.Written.{Written}
use Rattle.lt_blocks.specs.Reading.{IsMore}
use Rattle.lt_blocks.proofs.Inside.{entry_more, entry_none, inside}
use Rattle.lt_blocks.proofs.reader.Reader.end_entry.Goals as goal

pub returns-in_default-clause-read : goal.returns-in_default-clause-read
returns-in_default-clause-read c = λ bytes read more.
    let r = c.args.self.now in
    entry_none r.blocks.items r.header r.entries.items r.line.items r.number bytes r.missing c.requires.missing (inside r bytes c.requires.stage read) (λ e small is. c.in_default.ensures.none e small (c.deref.ensures.value ∙ is)) more

pub returns-clause-read : goal.returns-clause-read
returns-clause-read c = λ bytes read.
    let r = c.args.self.now in
    let entry = c.in-Some.ensures.some in
    c.in_ok-begin_line.ensures.read (bytes ++ 10 ∷ []) (
      c.requires.stage,
      subst (λ (es : List Written). IsMore r.blocks.items r.header es (r.missing - 1) r.number (bytes ++ 10 ∷ [])) (sym c.in_ok-push.ensures.items)
          (entry_more r.blocks.items r.header r.entries.items r.line.items r.number bytes r.missing (r.missing - 1) (omega (arith, c.requires.missing)) (inside r bytes c.requires.stage read) c.in-Some.entry (sym c.deref.ensures.value ∙ entry.0) entry.1),
    )
