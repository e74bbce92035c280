use Rattle.std.proofs.Common.{◌≡◌, List, ℕ, Bool, true, false, length, refl, sym, subst}
use Rattle.lt_model.specs.Tokens.{Token}
use Rattle.lt_script.specs.Pieces.{Leads}
use Rattle.lt_script.specs.Ahead.{Source, source_of}
use Rattle.lt_script.specs.Feed.{Goes, WantsMore}
use Rattle.lt_script.proofs.Feeding.{goes, more_behind, more_at_once, end_found, fault_found}
use Rattle.lt_script.proofs.feed.read_front.Goals as goal

-- the same of the cursor's source
leads_at : (s t : Source) (bytes : List ℕ) (done : List Token) → s ≡ t → Leads 1 bytes done t.line t.bytes → Leads 1 bytes done s.line s.bytes
leads_at s t bytes done same h = subst (λ (x : Source). Leads 1 bytes done x.line x.bytes) (sym same) h

pub returns-in-Item : goal.returns-in-Item
returns-in-Item c = λ bytes done items lead d.
    let p = c.over-cursor.result in
    let same = c.over-cursor.ensures.source in
    subst (λ (s : Source). Goes done items s.line s.bytes c.in-Item.item (length c.rest-rest.result.rest.now) c.rest-rest.result.line) same
    (goes bytes done items p c.over-cursor.ensures.passed (leads_at p.source (source_of c.args.start) bytes done same lead) d c.take_item.new.self c.in-Item.item (length c.rest-rest.result.rest.now) c.rest-rest.result.line c.rest-rest.result.rest.now
    refl c.in-Item.ensures c.rest-rest.ensures.ends)

pub returns-then-more : goal.returns-then-more
returns-then-more c = λ bytes done items lead d.
    let p = c.over-cursor.result in
    let w : WantsMore true c.args.ended c.take_item.new.self = subst (λ (b : Bool). WantsMore b c.args.ended c.take_item.new.self) c.if-more.true c.wants_more-more.ensures in
    (w.0, more_at_once bytes done items p c.over-cursor.ensures.passed (leads_at p.source (source_of c.args.start) bytes done c.over-cursor.ensures.source lead) d c.take_item.new.self c.in-End.ensures.2 w.1)

pub returns-else-more : goal.returns-else-more
returns-else-more c = λ bytes done items lead d.
    let p = c.over-cursor.result in
    let w : WantsMore false c.args.ended c.take_item.new.self = subst (λ (b : Bool). WantsMore b c.args.ended c.take_item.new.self) c.if-more.false c.wants_more-more.ensures in
    end_found bytes done items p c.over-cursor.ensures.passed (leads_at p.source (source_of c.args.start) bytes done c.over-cursor.ensures.source lead) d c.take_item.new.self c.args.ended w c.in-End.ensures

pub returns-then-more-2 : goal.returns-then-more-2
returns-then-more-2 c = λ bytes done items lead d.
    let p = c.over-cursor.result in
    let w : WantsMore true c.args.ended c.take_item.new.self = subst (λ (b : Bool). WantsMore b c.args.ended c.take_item.new.self) c.if-more-2.true c.wants_more-more-in-Fault.ensures in
    (w.0, more_behind bytes done items p c.over-cursor.ensures.passed (leads_at p.source (source_of c.args.start) bytes done c.over-cursor.ensures.source lead) d c.take_item.new.self c.in-Fault.line c.in-Fault.code c.in-Fault.ensures w.1)

pub returns-else-more-2 : goal.returns-else-more-2
returns-else-more-2 c = λ bytes done items lead d.
    let p = c.over-cursor.result in
    let w : WantsMore false c.args.ended c.take_item.new.self = subst (λ (b : Bool). WantsMore b c.args.ended c.take_item.new.self) c.if-more-2.false c.wants_more-more-in-Fault.ensures in
    fault_found bytes done items p c.over-cursor.ensures.passed (leads_at p.source (source_of c.args.start) bytes done c.over-cursor.ensures.source lead) d c.take_item.new.self c.in-Fault.line c.in-Fault.code c.args.ended w c.in-Fault.ensures
