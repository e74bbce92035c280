use Rattle.std.proofs.Common.{rules, ◌≡◌, ◌-◌, ℕ, List, set, slice_index, map, length, inl, inr, ◌∙◌, sym, ap, subst, refl, arith}
use Rattle.lt_face.specs.Keys.{least_from}
use Rattle.lt_leap.specs.Noted.{Gains}
use Rattle.lt_leap.specs.Ring.{keys_at}
use Rattle.std.proofs.lemmas.List.{length-map}
use Rattle.lt_leap.proofs.Searched.{searching-none, searching-turned, to_last, low_greatest, left_turned, left_so_far, left_at_failure, searched, all_at}
use Rattle.lt_leap.proofs.Leading.{on_err, given_up-last}
use Rattle.lt_leap.proofs.ring.search.Goals as goal

pub loop-least-init : goal.loop-least-init
loop-least-init g c =
    let some = c.requires.some in
    record {
      keys = refl;
      still = refl;
      state = searching-none _ _ _ _ _ (c.len-last.result - 1) _ _ c.requires (omega (arith, c.len-last.ensures)) c.key_at-least.ensures c.key_at-greatest.ensures (omega (arith, c.key_at-greatest.type_inv));
    }

pub turn-gap-requires-clause-ahead : goal.turn-gap-requires-clause-ahead
turn-gap-requires-clause-ahead g c = λ j lt.
    let s = c.loop-least.invariant.state in
    let len = length-map c.loop-least.iters.items g.I.KeyIter.here in
    let le = to_last _ _ _ _ s.is_ring s.last_is j (omega arith) in
    let at = s.greatest_is in
    omega arith

pub turn-gap-requires-clause-bound : goal.turn-gap-requires-clause-bound
turn-gap-requires-clause-bound g c =
    let s = c.loop-least.invariant.state in
    low_greatest _ _ _ _ _ s.is_ring s.last_is s.greatest_is c.if-greatest.true

pub loop-least-preserved : goal.loop-least-preserved
loop-least-preserved g c =
    let inv = c.loop-least.invariant in
    let H = g.I.KeyIter.here in
    let old = c.loop-least in
    let j = slice_index old.ring.items 0 in
    let at : c.index-place.result.now ≡ j = search rules in
    let moved = subst (λ (ks : List (List ℕ)). map H c.turn-gap.new.iters.items ≡ set (map H old.iters.items) j (least_from (keys_at ks j) old.greatest)) inv.keys c.turn-gap.ensures.moved in
    let hi = subst (λ (ks : List (List ℕ)). c.turn-gap.result.hi ≡ least_from (keys_at ks j) old.greatest) inv.keys c.turn-gap.ensures.hi in
    let gains = subst (λ (i : ℕ). Gains (g.N.Notes.kept old.notes) i c.turn-gap.result (g.N.Notes.kept c.gap.new.self)) at c.in_ok-gap.ensures.ok in
    let is_move = rw inv.keys at c.turn-gap.ensures.is_move in
    record {
      keys = c.turn-gap.ensures.keys ∙ inv.keys;
      still = c.turn-gap.ensures.still ∙ inv.still;
      state = rw c.turn-gap.ensures.moves
          (searching-turned _ _ _ _ _ _ _ _ _ _ _ _ _ _ _ c.turn-gap.result _ _ inv.state c.loop-least-test.true c.if-greatest.true moved c.turn-gap.ensures.turned c.turn-gap.ensures.lo hi is_move gains
          c.key_at-least-in-loop-least.ensures c.key_at-greatest-in-loop-least.ensures (omega (arith, c.key_at-greatest-in-loop-least.type_inv)));
    }

pub loop-least-smaller : goal.loop-least-smaller
loop-least-smaller g c =
    let s = c.loop-least.invariant.state in
    let keys = c.loop-least.invariant.keys in
    rw (c.turn-gap.ensures.keys)
    (left_turned _ _ _ _ _ _ _ _ (rw keys s.is_ring) s.last_is s.least_is s.greatest_is s.within c.loop-least-test.true c.if-greatest.true c.turn-gap.ensures.moved c.turn-gap.ensures.turned
    0 (let some = s.is_ring.some in let long = s.is_ring.as_long in omega arith))

pub returns-else-greatest-clause-exact : goal.returns-else-greatest-clause-exact
returns-else-greatest-clause-exact g c = λ b none le.
    let s = c.loop-least.invariant.state in
    searched _ _ _ _ _ _ _ _ _ _ _ _ s (inr c.if-greatest.false) b none (rw (let e : c.len-last.result ≡ length c.args.ring.now.items = omega (arith, c.len-last.ensures) in e) le)

pub returns-after-loop-least-clause-exact : goal.returns-after-loop-least-clause-exact
returns-after-loop-least-clause-exact g c = λ b none le.
    let s = c.loop-least.invariant.state in
    searched _ _ _ _ _ _ _ _ _ _ _ _ s (inl c.loop-least-test.false) b none (rw (let e : c.len-last.result ≡ length c.args.ring.now.items = omega (arith, c.len-last.ensures) in e) le)

pub returns-after-loop-least-clause-found : goal.returns-after-loop-least-clause-found
returns-after-loop-least-clause-found g c = λ key i lt.
    let s = c.loop-least.invariant.state in
    let len = length-map c.loop-least.iters.items g.I.KeyIter.here in
    all_at _ _ _ _ _ _ s.is_ring s.last_is s.least_is s.greatest_is c.loop-least-test.false i (omega arith)

pub key_at-least-requires-in-loop-least-clause-place : goal.key_at-least-requires-in-loop-least-clause-place
key_at-least-requires-in-loop-least-clause-place g c =
    let ring = c.turn-gap.ensures.ring in
    let within = ring.in_range 0 ring.some in
    omega (arith, length-map c.turn-gap.new.iters.items g.I.KeyIter.here)

pub key_at-greatest-requires-in-loop-least-clause-place : goal.key_at-greatest-requires-in-loop-least-clause-place
key_at-greatest-requires-in-loop-least-clause-place g c =
    let inv = c.loop-least.invariant in
    let was = inv.state.is_ring in
    let ring = c.turn-gap.ensures.ring in
    let long : length c.turn-gap.new.ring.items ≡ length c.loop-least.ring.items = ring.as_long ∙ sym ring.listed ∙ ap length (c.turn-gap.ensures.keys ∙ inv.keys) ∙ was.listed ∙ sym was.as_long in
    let last = inv.state.last_is in
    let within = ring.in_range (c.len-last.result - 1) (omega arith) in
    omega (arith, length-map c.turn-gap.new.iters.items g.I.KeyIter.here)

pub returns-in_err-gap-clause-left : goal.returns-in_err-gap-clause-left
returns-in_err-gap-clause-left g c = λ i lt.
    let inv = c.loop-least.invariant in
    let H = g.I.KeyIter.here in
    let old = c.loop-least in
    let j = slice_index old.ring.items 0 in
    let moved = subst (λ (ks : List (List ℕ)). map H c.turn-gap.new.iters.items ≡ set (map H old.iters.items) j (least_from (keys_at ks j) old.greatest)) inv.keys c.turn-gap.ensures.moved in
    left_at_failure _ _ _ _ _ _ _ _ _ _ _ _ _ _ _ _ inv.state (c.turn-gap.ensures.keys ∙ inv.keys) c.loop-least-test.true c.if-greatest.true moved c.turn-gap.ensures.turned c.turn-gap.ensures.moves
    i (let l = length-map c.args.iters.now.items H in omega arith)

pub returns-else-greatest-clause-left : goal.returns-else-greatest-clause-left
returns-else-greatest-clause-left g c = λ i lt.
    let inv = c.loop-least.invariant in
    left_so_far _ _ _ _ _ _ _ _ _ _ _ _ _ inv.state inv.keys i (let l = length-map c.args.iters.now.items g.I.KeyIter.here in omega arith)

pub returns-after-loop-least-clause-left : goal.returns-after-loop-least-clause-left
returns-after-loop-least-clause-left g c = λ i lt.
    let inv = c.loop-least.invariant in
    left_so_far _ _ _ _ _ _ _ _ _ _ _ _ _ inv.state inv.keys i (let l = length-map c.args.iters.now.items g.I.KeyIter.here in omega arith)

pub returns-in_err-gap-clause-given_up : goal.returns-in_err-gap-clause-given_up
returns-in_err-gap-clause-given_up g c =
    let inv = c.loop-least.invariant in
    let H = g.I.KeyIter.here in
    let old = c.loop-least in
    let j = slice_index old.ring.items 0 in
    let moved = subst (λ (ks : List (List ℕ)). map H c.turn-gap.new.iters.items ≡ set (map H old.iters.items) j (least_from (keys_at ks j) old.greatest)) inv.keys c.turn-gap.ensures.moved in
    let hi = subst (λ (ks : List (List ℕ)). c.turn-gap.result.hi ≡ least_from (keys_at ks j) old.greatest) inv.keys c.turn-gap.ensures.hi in
    let is_move = rw inv.keys at c.turn-gap.ensures.is_move in
    on_err _ (given_up-last _ _ _ _ _ _ _ _ _ _ j _ c.turn-gap.result inv.state.made is_move c.in_err-gap.ensures.err moved hi c.turn-gap.ensures.moves)

pub overflow_sub-last : goal.overflow_sub-last
overflow_sub-last g c = omega (arith, c.requires.some, c.len-last.ensures)

pub key_at-least-requires-clause-turn : goal.key_at-least-requires-clause-turn
key_at-least-requires-clause-turn g c = omega (arith, c.requires.some)

pub key_at-least-requires-clause-place : goal.key_at-least-requires-clause-place
key_at-least-requires-clause-place g c = omega (arith, c.requires.in_range 0 c.requires.some, length-map c.args.iters.now.items g.I.KeyIter.here)

pub key_at-greatest-requires-clause-turn : goal.key_at-greatest-requires-clause-turn
key_at-greatest-requires-clause-turn g c = omega (arith, c.requires.some, c.len-last.ensures)

pub key_at-greatest-requires-clause-place : goal.key_at-greatest-requires-clause-place
key_at-greatest-requires-clause-place g c = omega (arith, c.requires.in_range (c.len-last.result - 1) (omega (arith, c.requires.some, c.len-last.ensures)), length-map c.args.iters.now.items g.I.KeyIter.here)

pub turn-gap-requires-clause-ring : goal.turn-gap-requires-clause-ring
turn-gap-requires-clause-ring g c = rw c.loop-least.invariant.keys c.loop-least.invariant.state.is_ring

pub turn-gap-requires-clause-goes_on : goal.turn-gap-requires-clause-goes_on
turn-gap-requires-clause-goes_on g c = λ at_end.
    let s = c.loop-least.invariant.state in
    let up = s.is_ring.rises 0 (c.len-last.result - 1) (omega arith) (omega (arith, s.last_is)) in
    c.loop-least-test.true (omega (arith, s.least_is, s.greatest_is, at_end, s.within, up))

pub returns-in_err-gap-clause-keys : goal.returns-in_err-gap-clause-keys
returns-in_err-gap-clause-keys g c = c.turn-gap.ensures.keys ∙ c.loop-least.invariant.keys

pub returns-in_err-gap-clause-still : goal.returns-in_err-gap-clause-still
returns-in_err-gap-clause-still g c = c.turn-gap.ensures.still ∙ c.loop-least.invariant.still

pub returns-in_err-gap-clause-moves : goal.returns-in_err-gap-clause-moves
returns-in_err-gap-clause-moves g c = omega (arith, c.loop-least.invariant.state.more, c.turn-gap.ensures.moves)

pub returns-else-greatest-clause-notes : goal.returns-else-greatest-clause-notes
returns-else-greatest-clause-notes g c = rw (let e : c.len-last.result ≡ length c.args.ring.now.items = omega (arith, c.len-last.ensures) in e) at c.loop-least.invariant.state.notes

pub returns-after-loop-least-clause-notes : goal.returns-after-loop-least-clause-notes
returns-after-loop-least-clause-notes g c = rw (let e : c.len-last.result ≡ length c.args.ring.now.items = omega (arith, c.len-last.ensures) in e) at c.loop-least.invariant.state.notes

pub returns-else-greatest-clause-found : goal.returns-else-greatest-clause-found
returns-else-greatest-clause-found g c = λ other. absurd (other c.if-greatest.false)
