use Rattle.std.proofs.Common.{rules, ◌≡◌, ◌<◌, ℕ, map, length, slice_index, sym, ap, ◌+◌, ◌≤◌, length-set, ◌∙◌, subst, refl, arith}
use Rattle.std.proofs.lemmas.List.{length-map}
use Rattle.lt_leap.specs.Noted.{Gains}
use Rattle.lt_face.specs.Keys.{least_from}
use Rattle.lt_leap.specs.Search.{changed}
use Rattle.lt_leap.proofs.Changed.{changed-same, changed-set, changed-chain}
use Rattle.lt_leap.specs.Ring.{keys_at}
use Rattle.lt_leap.proofs.Exact.{none_between}
use Rattle.lt_leap.proofs.Gaps.{notes-first}
use Rattle.lt_leap.proofs.Leading.{on_err, made-none, made-turned, given_up-last, given_up-turned}
use Rattle.lt_leap.proofs.Searched.{notes_same}
use Rattle.lt_leap.proofs.Advanced.{advanced}
use Rattle.lt_leap.proofs.ring.advance.Goals as goal

pub search-requires : goal.search-requires
search-requires g c = c.turn-gap.ensures.ring

pub returns-clause-exact : goal.returns-clause-exact
returns-clause-exact g c =
    let a = advanced _ _ _ c.args.to _ _ c.requires.ring (λ i lt. c.requires.ahead i (let l = length-map c.args.iters.now.items g.I.KeyIter.here in omega arith)) c.requires.bound c.turn-gap.ensures.moved c.turn-gap.ensures.turned in
    let exact = rw c.turn-gap.ensures.keys at c.in_ok-key.ensures.exact in
    exact c.args.to a.none a.up

pub returns-clause-notes : goal.returns-clause-notes
returns-clause-notes g c =
    let lists = map g.I.KeyIter.keys c.args.iters.now.items in
    let heres = map g.I.KeyIter.here c.args.iters.now.items in
    let j = slice_index c.args.ring.now.items 0 in
    let l = length-map c.args.iters.now.items g.I.KeyIter.here in
    let j_in : j < length heres = c.requires.ring.in_range 0 c.requires.ring.some in
    let a = advanced _ _ _ c.args.to _ _ c.requires.ring (λ i lt. c.requires.ahead i (omega arith)) c.requires.bound c.turn-gap.ensures.moved c.turn-gap.ensures.turned in
    let at : c.index-place.result.now ≡ j = search rules in
    let gains = subst (λ (i : ℕ). Gains (g.N.Notes.kept c.args.notes.now) i c.turn-gap.result (g.N.Notes.kept c.gap.new.self)) at c.in_ok-gap.ensures.ok in
    let rest = rw c.turn-gap.ensures.keys at c.in_ok-key.ensures.notes in
    notes_same lists c.args.to _ _ refl (let m = c.search.ensures.moves in let t = c.turn-gap.ensures.moves in omega arith)
    (notes-first lists c.args.to _ _ _ _ _ _ j c.turn-gap.result c.turn-gap.ensures.lo (c.turn-gap.ensures.hi ∙ sym a.last_is)
    (let e = c.requires.ring.listed in omega arith, λ k le lt. none_between (keys_at lists j) c.args.to k (c.requires.ring.keyed j j_in) (let e = c.turn-gap.ensures.lo in omega arith) (let e = c.turn-gap.ensures.hi in omega arith)) gains rest)

pub returns-clause-left : goal.returns-clause-left
returns-clause-left g c = λ rose i lt.
    let l = length-map c.args.iters.now.items g.I.KeyIter.here in
    let a = advanced _ _ _ c.args.to _ _ c.requires.ring (λ i lt. c.requires.ahead i (omega arith)) c.requires.bound c.turn-gap.ensures.moved c.turn-gap.ensures.turned in
    let less = a.left c.requires.goes_on rose i (omega arith) in
    let left = c.search.ensures.left i (let m = length-map c.turn-gap.new.iters.items g.I.KeyIter.here in omega arith) in
    let left' = rw c.turn-gap.ensures.keys at left in
    omega (arith, c.turn-gap.ensures.moves)

pub returns-in_err-gap-clause-left : goal.returns-in_err-gap-clause-left
returns-in_err-gap-clause-left g c = λ rose i lt.
    let l = length-map c.args.iters.now.items g.I.KeyIter.here in
    let a = advanced _ _ _ c.args.to _ _ c.requires.ring (λ i lt. c.requires.ahead i (omega arith)) c.requires.bound c.turn-gap.ensures.moved c.turn-gap.ensures.turned in
    let less = a.left c.requires.goes_on rose i (omega arith) in
    rw c.turn-gap.ensures.keys (omega (arith, c.turn-gap.ensures.moves))

pub returns-in_err-key-clause-left : goal.returns-in_err-key-clause-left
returns-in_err-key-clause-left g c = λ rose i lt.
    let l = length-map c.args.iters.now.items g.I.KeyIter.here in
    let a = advanced _ _ _ c.args.to _ _ c.requires.ring (λ i lt. c.requires.ahead i (omega arith)) c.requires.bound c.turn-gap.ensures.moved c.turn-gap.ensures.turned in
    let less = a.left c.requires.goes_on rose i (omega arith) in
    let left = c.search.ensures.left i (let m = length-map c.turn-gap.new.iters.items g.I.KeyIter.here in omega arith) in
    let left' = rw c.turn-gap.ensures.keys at left in
    omega (arith, c.turn-gap.ensures.moves)

pub returns-clause-made : goal.returns-clause-made
returns-clause-made g c =
    let j = slice_index c.args.ring.now.items 0 in
    let at : c.index-place.result.now ≡ j = search rules in
    let gains = subst (λ (i : ℕ). Gains (g.N.Notes.kept c.args.notes.now) i c.turn-gap.result (g.N.Notes.kept c.gap.new.self)) at c.in_ok-gap.ensures.ok in
    let turn = c.turn-gap.ensures in
    made-turned _ _ _ _ _ _ _ _ _ _ _ j _ c.turn-gap.result turn.keys turn.moved turn.hi turn.moves turn.is_move gains c.in_ok-key.ensures.made

pub returns-in_err-gap-clause-given_up : goal.returns-in_err-gap-clause-given_up
returns-in_err-gap-clause-given_up g c =
    let j = slice_index c.args.ring.now.items 0 in
    let turn = c.turn-gap.ensures in
    on_err _ (given_up-last _ _ _ _ _ _ _ _ _ _ j _ c.turn-gap.result (made-none _ _ _ _) turn.is_move c.in_err-gap.ensures.err turn.moved turn.hi turn.moves)

pub returns-in_err-key-clause-given_up : goal.returns-in_err-key-clause-given_up
returns-in_err-key-clause-given_up g c =
    let j = slice_index c.args.ring.now.items 0 in
    let at : c.index-place.result.now ≡ j = search rules in
    let gains = subst (λ (i : ℕ). Gains (g.N.Notes.kept c.args.notes.now) i c.turn-gap.result (g.N.Notes.kept c.gap.new.self)) at c.in_ok-gap.ensures.ok in
    let turn = c.turn-gap.ensures in
    on_err _ (given_up-turned _ _ _ _ _ _ _ _ _ _ _ j _ c.turn-gap.result turn.keys turn.moved turn.hi turn.moves turn.is_move gains c.in_err-key.ensures.given_up)

pub returns-clause-moved : goal.returns-clause-moved
returns-clause-moved g c =
    let H = g.I.KeyIter.here in
    let K = g.I.KeyIter.keys in
    let heres = map H c.args.iters.now.items in
    let mid = map H c.turn-gap.new.iters.items in
    let last = map H c.search.new.iters.items in
    let j = slice_index c.args.ring.now.items 0 in
    let y = least_from (keys_at (map K c.args.iters.now.items) j) c.args.to in
    let a : changed heres mid ≤ changed heres heres + 1 = rw c.turn-gap.ensures.moved (changed-set heres heres j y) in
    let b = changed-same heres in
    let n : length mid ≡ length heres = ap length c.turn-gap.ensures.moved ∙ length-set heres j y in
    let m : length last ≡ length mid = length-map c.search.new.iters.items H ∙ sym (length-map c.search.new.iters.items K) ∙ ap length c.in_ok-key.ensures.keys ∙ length-map c.turn-gap.new.iters.items K ∙ sym (length-map c.turn-gap.new.iters.items H) in
    let chain = changed-chain heres mid j y last n (m ∙ n) in
    let rest = c.in_ok-key.ensures.moved in
    let one = c.turn-gap.ensures.moves in
    let up = c.search.ensures.moves in
    omega arith

pub returns-in_err-key-clause-keys : goal.returns-in_err-key-clause-keys
returns-in_err-key-clause-keys g c = c.search.ensures.keys ∙ c.turn-gap.ensures.keys

pub returns-in_err-key-clause-still : goal.returns-in_err-key-clause-still
returns-in_err-key-clause-still g c = c.search.ensures.still ∙ c.turn-gap.ensures.still

pub returns-in_err-key-clause-moves : goal.returns-in_err-key-clause-moves
returns-in_err-key-clause-moves g c = omega (arith, c.search.ensures.moves, c.turn-gap.ensures.moves)

pub returns-clause-keys : goal.returns-clause-keys
returns-clause-keys g c = c.search.ensures.keys ∙ c.turn-gap.ensures.keys

pub returns-clause-still : goal.returns-clause-still
returns-clause-still g c = c.search.ensures.still ∙ c.turn-gap.ensures.still

pub returns-clause-moves : goal.returns-clause-moves
returns-clause-moves g c = omega (arith, c.search.ensures.moves, c.turn-gap.ensures.moves)
