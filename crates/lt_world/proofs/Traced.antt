-- The journals of batches, kept as a script is run.
use Rattle.std.proofs.Common.{◌≡◌, ◌<◌, ◌+◌, ◌++◌, ◌∷◌, ◌∙◌, Bool, true, false, List, [], length, map, refl, sym, ap, subst, append-nil, append_assoc}
use Rattle.std.specs.Prelude.{filter_map, fold}
use Rattle.std.specs.List.{AllByRecursion, AllZip}
use Rattle.std.proofs.lemmas.List.{length-map}
use Rattle.lt_face.specs.Limits.{most_workers}
use Rattle.lt_face.specs.State.{State}
use Rattle.lt_model.specs.declared.normal.Stmt.{Stmt}
use Rattle.lt_model.specs.declared.reply.Reply.{Reply}
use Rattle.lt_model.specs.declared.syntax.Item.{Item}
use Rattle.lt_model.specs.declared.syntax.Program.{Program}
use Rattle.lt_model.specs.Check.{Checked}
use Rattle.lt_model.specs.Marks.{Marks}
use Rattle.lt_model.specs.Report as model
use Rattle.lt_model.specs.Report.{good_of, opening, step}
use Rattle.lt_model.specs.Schema.{Schema}
use Rattle.lt_model.specs.Serial.{serial}
use Rattle.lt_base.specs.Tables.{state_of}
use Rattle.lt_net.specs.Net.{Event, IsReached}
use Rattle.lt_net.specs.Tree.{circuit_net, tree_of}
use Rattle.lt_circuit.specs.declared.entry.Entry.{Entry}
use Rattle.lt_circuit.specs.Circuit.{state, AreOfWorkers, CircuitView}
use Rattle.lt_circuit.specs.Entry.{event_of}
use Rattle.lt_circuit.proofs.Entries.{event_told}
use Rattle.lt_batch.specs.declared.replaying.Written.{Written}
use Rattle.lt_batch.specs.Batch.{does_at}
use Rattle.lt_batch.specs.Replaying as written
use Rattle.lt_batch.specs.Replaying.{batch_net, written_of}
use Rattle.lt_blocks.specs.declared.block.Block.{Block}
use Rattle.lt_world.specs.declared.batch.Ran.{Ran}
use Rattle.lt_world.specs.declared.world.World.{World}
use Rattle.lt_world.specs.Batches.{good_ones, IsRun}
use Rattle.lt_world.specs.Outcomes.{HasSettled}
use Rattle.lt_world.specs.Traces.{batch_in, batches_from, good_programs, AreKept, Begun, IsBlockOf, KeepsBlock, KeepsBlocks, Settles}
use Rattle.lt_world.specs.World.{Shows}
use Rattle.lt_world.proofs.Batches.{serial-length}
use Rattle.lt_world.proofs.Versions.{count}

-- ---- one batch

told_again : (journal : List Entry) → map written.told (map written_of journal) ≡ map event_of journal
told_again [] = refl
told_again (e ∷ journal) = ap (λ (x : Event). x ∷ map written.told (map written_of journal)) (event_told e) ∙ ap (λ (xs : List Event). event_of e ∷ xs) (told_again journal)

of_workers : (journal : List Entry) → AreOfWorkers journal → AllByRecursion (λ (entry : Written). entry.worker < most_workers) (map written_of journal)
of_workers [] all = tt
of_workers (e ∷ journal) all = (all.0, of_workers journal all.1)

-- a journal that settled its circuit is that of the programs
pub settles : {W T : Type 0} (programs : List (List Stmt)) (snapshot : State) (circuit : CircuitView W T) → HasSettled programs snapshot circuit → Settles programs snapshot (map written_of circuit.journal)
settles programs snapshot circuit h =
    let does = does_at programs snapshot in
    record {
      state = state circuit;
      legal = record {
        workers = of_workers circuit.journal h.workers;
        reached = subst (λ (es : List Event). IsReached (batch_net programs snapshot) es (state circuit)) (sym (told_again circuit.journal))
            (subst (λ n. IsReached (circuit_net does (tree_of n)) (map event_of circuit.journal) (state circuit)) h.leaves h.journal);
      };
      settled = h.settled;
    }

goods_same : (w : World) (m : model.World) → Shows w m → (programs : List Program) (marks : Bool) (ran : Ran) → IsRun w programs marks ran → good_ones ran.judgements.items ≡ good_programs m.schema programs
goods_same w m s programs marks ran r = ap (λ (cs : List Checked). filter_map good_of cs) r.checks ∙ ap (λ (h : Schema). good_programs h programs) (sym s.schema)

pub replied : (w : World) (programs : List Program) (marks : Bool) (ran : Ran) → IsRun w programs marks ran → length ran.replies ≡ length (good_ones ran.judgements.items)
replied w programs marks ran r =
    ap (λ (xs : List Reply). length xs) r.replies_are
    ∙ length-map (serial (good_ones ran.judgements.items) (state_of w.database)).0 (λ (done : Reply × Marks). done.0)
    ∙ serial-length (good_ones ran.judgements.items) (state_of w.database)

-- what was kept of a batch is its block
pub block_is : {W T : Type 0} (w : World) (m : model.World) → Shows w m → (programs : List Program) (ran : Ran) (circuit : CircuitView W T) → IsRun w programs true ran
    → HasSettled (good_ones ran.judgements.items) (state_of w.database) circuit
    → IsBlockOf (record { number = length m.versions + 1; programs = good_programs m.schema programs; snapshot = m.state }) (record { number = ran.number; programs = length ran.replies; entries = map written_of circuit.journal })
block_is w m s programs ran circuit r h =
    let same = goods_same w m s programs true ran r in
    record {
      number_is = r.number_is ∙ count m w.versions s.versions;
      programs_are = replied w programs true ran r ∙ ap (λ (ps : List (List Stmt)). length ps) same;
      settles = subst (λ (st : State). Settles (good_programs m.schema programs) st (map written_of circuit.journal)) (sym s.state)
          (subst (λ (ps : List (List Stmt)). Settles ps (state_of w.database) (map written_of circuit.journal)) same (settles (good_ones ran.judgements.items) (state_of w.database) circuit h));
    }

-- ---- item after item

zip_more : (bs cs : List Begun) (xs ys : List Block) → AllZip IsBlockOf bs xs → AllZip IsBlockOf cs ys → AllZip IsBlockOf (bs ++ cs) (xs ++ ys)
zip_more [] cs [] ys a b = b
zip_more [] cs (x ∷ xs) ys a b = absurd a
zip_more (t ∷ bs) cs [] ys a b = absurd a
zip_more (t ∷ bs) cs (x ∷ xs) ys a b = (a.0, zip_more bs cs xs ys a.1 b)

pub from_more : (marks : Bool) (m : model.World) (items : List Item) (item : Item) → batches_from marks m (items ++ item ∷ []) ≡ batches_from marks m items ++ batch_in (fold (step marks) m items) item
from_more marks m [] item = append-nil (batch_in m item)
from_more marks m (i ∷ items) item =
    ap (λ (bs : List Begun). batch_in m i ++ bs) (from_more marks (step marks m i) items item) ∙ sym (append_assoc (batch_in m i) (batches_from marks (step marks m i) items) (batch_in (fold (step marks) (step marks m i) items) item))

pub from_all : (marks : Bool) (m : model.World) (items more : List Item) → batches_from marks m (items ++ more) ≡ batches_from marks m items ++ batches_from marks (fold (step marks) m items) more
from_all marks m [] more = refl
from_all marks m (i ∷ items) more =
    ap (λ (bs : List Begun). batch_in m i ++ bs) (from_all marks (step marks m i) items more) ∙ sym (append_assoc (batch_in m i) (batches_from marks (step marks m i) items) (batches_from marks (fold (step marks) (step marks m i) items) more))

pub kept_all : (trace marks : Bool) (items more : List Item) (old new : List Block) → AreKept trace marks items old → KeepsBlocks trace marks (fold (step marks) opening items) more old new → AreKept trace marks (items ++ more) new
kept_all true marks items more old new kept k =
    subst (λ (bs : List Begun). AllZip IsBlockOf bs new) (sym (from_all marks opening items more))
    (subst (AllZip IsBlockOf (batches_from marks opening items ++ batches_from marks (fold (step marks) opening items) more)) (sym k.1)
    (zip_more (batches_from marks opening items) (batches_from marks (fold (step marks) opening items) more) old k.0 kept k.2))
kept_all false marks items more old new kept k = k ∙ kept

-- the block of one item, and none of no item
pub keeps_one : (trace marks : Bool) (m : model.World) (item : Item) (old new : List Block) → KeepsBlock trace m item old new → KeepsBlocks trace marks m (item ∷ []) old new
keeps_one true marks m item old new k = (k.0, k.1, subst (λ (bs : List Begun). AllZip IsBlockOf bs k.0) (sym (append-nil (batch_in m item))) k.2)
keeps_one false marks m item old new k = k

pub keeps_none : (trace marks : Bool) (m : model.World) (items : List Item) (old new : List Block) → new ≡ old → (trace ≡ true → items ≡ []) → KeepsBlocks trace marks m items old new
keeps_none true marks m items old new same none =
    ([], same ∙ sym (append-nil old), subst (λ (is : List Item). AllZip IsBlockOf (batches_from marks m is) []) (sym (none refl)) tt)
keeps_none false marks m items old new same none = same

pub kept_none : (trace marks : Bool) (blocks : List Block) → blocks ≡ [] → AreKept trace marks [] blocks
kept_none true marks blocks e = subst (AllZip IsBlockOf []) (sym e) tt
kept_none false marks blocks e = e
