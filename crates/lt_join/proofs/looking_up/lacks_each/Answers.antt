use Rattle.std.proofs.Common.{◌≡◌, length, take, true, sym, refl, ap, ◌∙◌, subst, arith}
use Rattle.std.proofs.lemmas.List.{length-map}
use Rattle.std.proofs.lemmas.Slice.Zip.{AllZip-long}
use Rattle.lt_face.specs.State.{Row}
use Rattle.lt_model.specs.Answers.{Assignment, cell_of, cells_of}
use Rattle.lt_sense.specs.Sense.{gap_covers}
use Rattle.lt_join.specs.Certify.{IsGapped}
use Rattle.lt_join.specs.Holders.{IsLookUpFor, IsLookUpOf}
use Rattle.lt_join.specs.Values.{values_in, assigned}
use Rattle.lt_join.proofs.Looked.{gaps_grow}
use Rattle.lt_join.proofs.LookingUp.{look_up_at, hit_at, gapped_more, Grows-both, gains_chain}
use Rattle.lt_join.proofs.looking_up.lacks_each.Goals as goal

pub bounds-look_ups-i : goal.bounds-look_ups-i
bounds-look_ups-i g c =
    let long : length c.args.look_ups.now ≡ length c.args.absents.now = AllZip-long (IsLookUpOf (g.I.Indexes.state c.args.tables.now)) c.args.absents.now c.args.look_ups.now c.requires.look_ups in
    omega (arith, long, c.loop-i-test.true)

pub look_up-requires-clause-is : goal.look_up-requires-clause-is
look_up-requires-clause-is g c =
    let a : Assignment = assigned (values_in c.args.values.now.cells) in
    let state = g.I.Indexes.state c.args.tables.now in
    let atom = c.index-absents-i.result in
    let is = look_up_at (IsLookUpOf state) c.args.absents.now c.args.look_ups.now c.loop-i.i atom c.index-look_ups-i.result c.requires.look_ups c.loop-i-test.true c.index-absents-i.is c.index-look_ups-i.is in
    let n : length c.row-row.result ≡ length atom.terms = ap length (c.row-row.ensures ∙ ap (cells_of a) c.as_slice.ensures) ∙ length-map atom.terms (cell_of a) in
    subst (λ k. IsLookUpFor state atom.relation k c.index-look_ups-i.result) (sym n) is

pub returns-then-branch-clause-grows : goal.returns-then-branch-clause-grows
returns-then-branch-clause-grows g c = Grows-both c.args.sense.now c.loop-i.sense c.look_up.new.sense c.loop-i.invariant.grows c.in_ok-look_up.ensures.grows

pub returns-then-branch-clause-finds : goal.returns-then-branch-clause-finds
returns-then-branch-clause-finds g c = λ e.
    let a : Assignment = assigned (values_in c.args.values.now.cells) in
    let atom = c.index-absents-i.result in
    hit_at c.look_up.new.sense a c.args.absents.now c.loop-i.i atom c.loop-i-test.true c.index-absents-i.is
    (record { relation = atom.relation; row = c.row-row.result }, c.in_ok-look_up.ensures.found c.if-branch.true, refl, (c.row-row.ensures ∙ ap (cells_of a) c.as_slice.ensures))

pub loop-i-preserved : goal.loop-i-preserved
loop-i-preserved g c =
    let a : Assignment = assigned (values_in c.args.values.now.cells) in
    let atom = c.index-absents-i.result in
    let inv = c.loop-i.invariant in
    let missed = c.in_ok-look_up.ensures.missed c.if-branch.false in
    let one : IsGapped c.look_up.new.sense a atom = (missed.0, missed.1, subst (λ (r : Row). gap_covers missed.0 atom.relation r ≡ true) (c.row-row.ensures ∙ ap (cells_of a) c.as_slice.ensures) missed.2) in
    record {
      grows = Grows-both c.args.sense.now c.loop-i.sense c.look_up.new.sense inv.grows c.in_ok-look_up.ensures.grows;
      tight = c.in_ok-look_up.ensures.tight;
      gapped = gapped_more c.look_up.new.sense a c.args.absents.now c.loop-i.i atom c.loop-i-test.true c.index-absents-i.is one (gaps_grow c.loop-i.sense c.look_up.new.sense c.in_ok-look_up.ensures.grows a (take c.loop-i.i c.args.absents.now) inv.gapped);
      gains = gains_chain c.args.sense.now c.loop-i.sense c.look_up.new.sense c.args.moves.now c.loop-i.moves c.look_up.new.moves inv.gains c.in_ok-look_up.ensures.gains;
      made = omega (arith, inv.made, c.look_up.ensures.moves);
    }
