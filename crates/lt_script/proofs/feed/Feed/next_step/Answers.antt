use Rattle.std.proofs.Common.{◌≡◌, ◌-◌, List, ℕ, Some, length, refl, sym, ◌∙◌, ap, subst, arith}
use Rattle.lt_model.specs.Script as script
use Rattle.std.proofs.lemmas.List.{drop_all}
use Rattle.lt_model.specs.declared.syntax.Item.{Item}
use Rattle.lt_script.specs.declared.feed.Feed.{Feed}
use Rattle.lt_script.specs.declared.feed.Fault.{Fault}
use Rattle.lt_script.specs.Pieces.{Leads}
use Rattle.lt_script.specs.Feed.{kept_of, HasFed, IsClosed, IsOpenAt}
use Rattle.lt_script.proofs.Feeds.{leads_all, open_by, closed_by, kept_none, same_fault, answered, gives, none_by, not_none}
use Rattle.lt_script.proofs.feed.Feed.next_step.Goals as goal

open_of : (f : Feed) (bytes : List ℕ) (items : List Item) → ((x : Fault) → f.fault ≡ Some x → ⊥) → HasFed f bytes items → IsOpenAt f.line (kept_of f) bytes items
open_of f bytes items none h = open_by f.fault f.ended f.line (kept_of f) bytes items none h

all_of : (f : Feed) (bytes : List ℕ) (items : List Item) (o : IsOpenAt f.line (kept_of f) bytes items) → Leads 1 bytes o.done f.line (kept_of f)
all_of f bytes items o = leads_all f.line (kept_of f) bytes items o

pub returns-in-Some-clause-step : goal.returns-in-Some-clause-step
returns-in-Some-clause-step c = λ bytes items h. (
  closed_by c.args.self.now.fault c.in-Some.fault c.args.self.now.ended c.args.self.now.line (kept_of c.args.self.now) bytes items c.in-Some.is h,
  h,
  record {
    fault = c.in-Some.fault;
    is = c.in-Some.is;
    line_is = refl;
    code_is = refl;
    nothing = kept_none c.args.self.now.fault c.in-Some.fault c.args.self.now.ended c.args.self.now.line (kept_of c.args.self.now) bytes items c.in-Some.is h;
  },
)

pub returns-in-Some-clause-again : goal.returns-in-Some-clause-again
returns-in-Some-clause-again c = λ line code h. (answered h.fault c.in-Some.fault line code (same_fault c.args.self.now.fault h.fault c.in-Some.fault h.is c.in-Some.is) h.line_is h.code_is, h)

pub returns-in-Some-clause-decided : goal.returns-in-Some-clause-decided
returns-in-Some-clause-decided c = λ bytes items h none. absurd (not_none c.args.self.now.fault c.in-Some.fault c.in-Some.is none)

pub returns-in-Item-clause-step : goal.returns-in-Item-clause-step
returns-in-Item-clause-step c = λ bytes items h.
    let o = open_of c.args.self.now bytes items c.in_default.not-Some h in
    let same : c.look.new.self ≡ c.args.self.now = c.look.ensures.same in
    let n : c.len-all.result ≡ length c.args.self.now.bytes.items = omega (arith, c.len-all.ensures, ap (λ (f : Feed). length f.bytes.items) same) in
    gives c.args.self.now _ bytes items c.in-Item.item c.in-Item.left c.in-Item.line o (c.in-Item.ensures.found bytes o.done items (all_of c.args.self.now bytes items o) o.derived) (ap (λ (f : Feed). f.bytes.items) same) (c.saturating_sub-self.ensures ∙ ap (λ (k : ℕ). k - c.in-Item.left) n) refl (ap (λ (f : Feed). f.fault) same ∙ none_by c.args.self.now.fault c.in_default.not-Some)

pub returns-in-Fault-clause-step : goal.returns-in-Fault-clause-step
returns-in-Fault-clause-step c = λ bytes items h.
    let o = open_of c.args.self.now bytes items c.in_default.not-Some h in
    let n : c.len-all-in-Fault.result ≡ length c.look.new.self.bytes.items = omega (arith, c.len-all-in-Fault.ensures) in
    let f = c.in-Fault.ensures.found bytes o.done items (all_of c.args.self.now bytes items o) o.derived in
    let none = drop_all c.len-all-in-Fault.result c.look.new.self.bytes.items (omega (arith, n)) in
    let there = subst (λ (x : Feed). IsClosed x.ended bytes items (script.Fault c.in-Fault.fault.line c.in-Fault.fault.code)) (sym c.look.ensures.same) f.0 in
    (f.0, (none, there), record { fault = c.in-Fault.fault; is = refl; line_is = refl; code_is = refl; nothing = none })

pub returns-in-Fault-clause-decided : goal.returns-in-Fault-clause-decided
returns-in-Fault-clause-decided c = λ bytes items h none.
    let o = open_of c.args.self.now bytes items c.in_default.not-Some h in
    (c.in-Fault.ensures.found bytes o.done items (all_of c.args.self.now bytes items o) o.derived).1

pub returns-in-End-clause-step : goal.returns-in-End-clause-step
returns-in-End-clause-step c = λ bytes items h.
    let o = open_of c.args.self.now bytes items c.in_default.not-Some h in
    let e = c.in-End.ensures.found bytes o.done items (all_of c.args.self.now bytes items o) o.derived in
    (e.0, e.1, c.look.ensures.same)

pub returns-in-More-clause-step : goal.returns-in-More-clause-step
returns-in-More-clause-step c = λ bytes items h.
    let o = open_of c.args.self.now bytes items c.in_default.not-Some h in
    let m = c.in-More.ensures.found bytes o.done items (all_of c.args.self.now bytes items o) o.derived in
    (m.0, m.1, c.look.ensures.same)

pub returns-in-Item-clause-again : goal.returns-in-Item-clause-again
returns-in-Item-clause-again c = λ line code h. absurd (c.in_default.not-Some h.fault h.is)

pub returns-in-Fault-clause-again : goal.returns-in-Fault-clause-again
returns-in-Fault-clause-again c = λ line code h. absurd (c.in_default.not-Some h.fault h.is)

pub returns-in-End-clause-again : goal.returns-in-End-clause-again
returns-in-End-clause-again c = λ line code h. absurd (c.in_default.not-Some h.fault h.is)

pub returns-in-More-clause-again : goal.returns-in-More-clause-again
returns-in-More-clause-again c = λ line code h. absurd (c.in_default.not-Some h.fault h.is)

pub returns-in-NoMemory-clause-again : goal.returns-in-NoMemory-clause-again
returns-in-NoMemory-clause-again c = λ line code h. absurd (c.in_default.not-Some h.fault h.is)
