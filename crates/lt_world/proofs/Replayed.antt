-- A batch by the journal of its block.
use Rattle.std.proofs.Common.{◌≡◌, ◌-◌, ◌∙◌, ℕ, List, [], length, map, inl, inr, refl, sym, ap, subst, arith, Some, None, slice_get, Result, Ok, Err}
use Rattle.std.specs.Prelude.{Option, filter_map, IfErr, OnErr}
use Rattle.std.proofs.KnownBytes.{Appends-nil}
use Rattle.std.specs.Io.KnownBytes.{Appends}
use Rattle.lt_face.specs.State.{State}
use Rattle.lt_model.specs.declared.normal.Stmt.{Stmt}
use Rattle.lt_model.specs.declared.syntax.Program.{Program}
use Rattle.lt_model.specs.Check.{checked, Checked}
use Rattle.lt_model.specs.Report as model
use Rattle.lt_model.specs.Report.{good_of}
use Rattle.lt_model.specs.Schema.{Schema}
use Rattle.lt_base.specs.Tables.{state_of}
use Rattle.lt_batch.specs.declared.replaying.ReplayFault.{ReplayFault}
use Rattle.lt_batch.specs.declared.replaying.ReplayFault.TheVariants as faults
use Rattle.lt_batch.specs.declared.replaying.Written.{Written}
use Rattle.lt_batch.specs.Replaying.{batch_net, written_of, IsFault}
use Rattle.lt_blocks.specs.declared.block.Block.{Block}
use Rattle.lt_circuit.specs.Circuit.{CircuitView}
use Rattle.lt_report.specs.Puts.{AppendsFront, Puts}
use Rattle.lt_world.specs.declared.halt.Halt.{Halt}
use Rattle.lt_world.specs.declared.halt.Halt.TheVariants as halts
use Rattle.lt_world.specs.declared.replaying.Misstep.{Misstep}
use Rattle.lt_world.specs.declared.replaying.Misstep.TheVariants.{Bad, Failed, NoMemory}
use Rattle.lt_world.specs.declared.world.World.{World}
use Rattle.lt_world.specs.Outcomes.{HasSettled}
use Rattle.lt_world.specs.Replays.{begun_at, misstep_at, misstep_of, HasJournal, IsRight, IsRightAt, IsWrongAt, ReplayWrites}
use Rattle.lt_world.specs.Traces.{good_programs, Begun, Settles}
use Rattle.lt_world.specs.World.{Shows}
use Rattle.lt_world.specs.Writing.{Writes}
use Rattle.lt_world.proofs.Traced.{settles}
use Rattle.lt_world.proofs.Versions.{count}

-- ---- the block of a batch

abbrev begun : ℕ → List (List Stmt) → State → Begun
begun number programs snapshot = record { number = number; programs = programs; snapshot = snapshot }

-- the programs that were checked, and those without a code
pub goods_are : (w : World) (m : model.World) → Shows w m → (programs : List Program) (checks : List Checked) (goods : List (List Stmt)) → checks ≡ map (λ (p : Program). checked p w.schema) programs
    → goods ≡ filter_map good_of checks → goods ≡ good_programs m.schema programs
goods_are w m s programs checks goods judged good = good ∙ ap (λ (cs : List Checked). filter_map good_of cs) judged ∙ ap (λ (h : Schema). good_programs h programs) (sym s.schema)

module _ (w : World) (m : model.World) (s : Shows w m) (programs : List Program) (goods : List (List Stmt)) (good : goods ≡ good_programs m.schema programs) where
  begun_is : begun_at m programs ≡ begun (length w.versions) goods (state_of w.database)
  begun_is =
      ap (λ (n : ℕ). begun n (good_programs m.schema programs) m.state) (sym (count m w.versions s.versions))
      ∙ ap (λ (ps : List (List Stmt)). begun (length w.versions) ps m.state) (sym good)
      ∙ ap (λ (st : State). begun (length w.versions) goods st) s.state

  place_is : length w.versions - 1 ≡ length m.versions
  place_is = omega (arith, count m w.versions s.versions)

  block_there : (blocks : List Block) (block : Block) → slice_get blocks (length w.versions - 1) ≡ Some block → slice_get blocks (length m.versions) ≡ Some block
  block_there blocks block there = ap (λ (n : ℕ). slice_get blocks n) (sym place_is) ∙ there

  -- its entries settle the batch's circuit, and meet no fault
  pub right_at : (blocks : List Block) (entries : List Written) → HasJournal blocks (length w.versions) (length goods) entries → Settles goods (state_of w.database) entries
      → ((e : ℕ) → IsFault (batch_net goods (state_of w.database)) entries e → ⊥) → IsRightAt (begun_at m programs) (slice_get blocks (length m.versions))
  right_at blocks entries j settle faultless =
      subst (IsRightAt (begun_at m programs)) (sym (block_there blocks j.block j.there))
      (subst (λ (b : Begun). IsRight b j.block) (sym begun_is) (record {
        block_is = record { number_is = j.number_is; programs_are = j.programs_are; settles = subst (Settles goods (state_of w.database)) j.entries_are settle };
        faultless = λ e f. faultless e (subst (λ (es : List Written). IsFault (batch_net goods (state_of w.database)) es e) (sym j.entries_are) f);
      }))

  -- its entries meet a fault
  pub wrong_at : (blocks : List Block) (entries : List Written) → HasJournal blocks (length w.versions) (length goods) entries → (e : ℕ) → IsFault (batch_net goods (state_of w.database)) entries e
      → IsWrongAt (begun_at m programs) (slice_get blocks (length m.versions)) e
  wrong_at blocks entries j e f =
      subst (λ (o : Option Block). IsWrongAt (begun_at m programs) o e) (sym (block_there blocks j.block j.there))
      (subst (λ (b : Begun). IsWrongAt b (Some j.block) e) (sym begun_is)
      (inr (j.number_is, j.programs_are, subst (λ (es : List Written). IsFault (batch_net goods (state_of w.database)) es e) j.entries_are f)))

  -- there is no such block
  pub none_at : (blocks : List Block) → ((entries : List Written) → HasJournal blocks (length w.versions) (length goods) entries → ⊥) → IsWrongAt (begun_at m programs) (slice_get blocks (length m.versions)) 0
  none_at blocks none = go (slice_get blocks (length m.versions)) refl
    where
      go : (o : Option Block) → slice_get blocks (length m.versions) ≡ o → IsWrongAt (begun_at m programs) o 0
      go None is = refl
      go (Some block) is = inl (
        refl,
        λ number_is programs_are. none block.entries (record {
          block = block;
          there = ap (λ (n : ℕ). slice_get blocks n) place_is ∙ is;
          number_is = number_is ∙ sym (count m w.versions s.versions);
          programs_are = programs_are ∙ ap (λ (ps : List (List Stmt)). length ps) (sym good);
          entries_are = refl;
        }),
      )

-- the journal of a circuit that has settled, as it was written down
pub settled_by : {W T : Type 0} (goods : List (List Stmt)) (snapshot : State) (circuit : CircuitView W T) (entries : List Written) → HasSettled goods snapshot circuit → map written_of circuit.journal ≡ entries
    → Settles goods snapshot entries
settled_by goods snapshot circuit entries h same = subst (Settles goods snapshot) same (settles goods snapshot circuit h)

-- ---- why an item isn't taken

module _ {T : Type 0} (P : ℕ → Type 0) where
  -- where memory was refused no block is bad
  pub no_memory : (r : Result T Misstep) (e : Misstep) → r ≡ Err e → e ≡ NoMemory → IfErr r (λ misstep. (place : ℕ) → misstep ≡ Bad place → P place)
  no_memory (Ok v) e is none = tt
  no_memory (Err x) e is none = λ place bad. absurd cc

  pub no_write : (r : Result T Misstep) (e : Misstep) → r ≡ Err e → e ≡ Failed → IfErr r (λ misstep. (place : ℕ) → misstep ≡ Bad place → P place)
  no_write (Ok v) e is failed = tt
  no_write (Err x) e is failed = λ place bad. absurd cc

  pub halted : (r : Result T Misstep) (e : Misstep) (halt : Halt) → r ≡ Err e → e ≡ misstep_of halt → IfErr r (λ misstep. (place : ℕ) → misstep ≡ Bad place → P place)
  halted r e halts.NoMemory is why = no_memory r e is why
  halted r e halts.Failed is why = no_write r e is why

  -- a fault of its entries is told by its place
  pub faulty : (r : Result T Misstep) (e : Misstep) (fault : ReplayFault) → r ≡ Err e → e ≡ misstep_at fault → ((place : ℕ) → fault ≡ faults.Entry place → P place)
      → IfErr r (λ misstep. (place : ℕ) → misstep ≡ Bad place → P place)
  faulty (Ok v) e fault is why p = tt
  faulty (Err x) e faults.NoMemory is why p = λ place bad. absurd cc
  faulty (Err x) e (faults.Entry n) is why p = λ place bad. p place cc

  -- why a part isn't done is why the whole isn't
  pub passed_on : (r : Result T Misstep) (e misstep : Misstep) → r ≡ Err e → e ≡ misstep → ((place : ℕ) → misstep ≡ Bad place → P place) → IfErr r (λ misstep. (place : ℕ) → misstep ≡ Bad place → P place)
  passed_on (Ok v) e misstep is why p = tt
  passed_on (Err x) e misstep is why p = λ place bad. p place cc

module _ {T : Type 0} where
  pub memory_unwritten : (r : Result T Misstep) (e : Misstep) → r ≡ Err e → e ≡ NoMemory → IfErr r (λ misstep. misstep ≡ Failed → ⊥)
  memory_unwritten (Ok v) e is none = tt
  memory_unwritten (Err x) e is none = λ failed. absurd cc

  pub fault_unwritten : (r : Result T Misstep) (e : Misstep) (fault : ReplayFault) → r ≡ Err e → e ≡ misstep_at fault → IfErr r (λ misstep. misstep ≡ Failed → ⊥)
  fault_unwritten (Ok v) e fault is why = tt
  fault_unwritten (Err x) e faults.NoMemory is why = λ failed. absurd cc
  fault_unwritten (Err x) e (faults.Entry n) is why = λ failed. absurd cc

pub on_err : {T P : Type 0} (r : Result T Misstep) → P → OnErr r P
on_err (Ok v) p = tt
on_err (Err e) p = p

-- ---- what is written

module _ {T : Type 0} where
  -- all of it
  pub all_replayed : (v : T) {U E : Type 0} (u : U) (h i : Option (List ℕ)) (w x : ℕ) (text said : List ℕ) → Puts {T = U} {E = E} (Ok u) h i w x text → said ≡ text → ReplayWrites (Ok v) h i w x said
  all_replayed v {U} {E} u h i w x text said p is = record { ok = subst (Appends h i) (sym is) p.ok; err = tt; bad = λ place e. absurd cc; later = p.cause.later; failed = λ e. absurd cc }

  -- a write failed
  pub replay_failed : (r : Result T Misstep) (e : Misstep) {U E : Type 0} (f : E) (h i : Option (List ℕ)) (w x : ℕ) (text said : List ℕ) → r ≡ Err e → e ≡ Failed → Puts {T = U} {E = E} (Err f) h i w x text → said ≡ text
      → ReplayWrites r h i w x said
  replay_failed r e {U} {E} f h i w x text said is failed p same =
      subst (λ (q : Result T Misstep). ReplayWrites q h i w x said) (sym (is ∙ ap (λ (y : Misstep). let q : Result T Misstep = Err y in q) failed))
      (record { ok = tt; err = subst (AppendsFront h i) (sym same) p.err; bad = λ place e. absurd cc; later = p.cause.later; failed = λ y. p.cause.failed })

  -- nothing was written, and no write failed
  pub none_replayed : (r : Result T Misstep) (e misstep : Misstep) (h : Option (List ℕ)) (w : ℕ) (said : List ℕ) → r ≡ Err e → e ≡ misstep → (misstep ≡ Failed → ⊥) → ReplayWrites r h h w w said
  none_replayed r e misstep h w said is why unwritten =
      subst (λ (q : Result T Misstep). ReplayWrites q h h w w said) (sym is)
      (record { ok = tt; err = ([], said, refl, Appends-nil h); bad = λ place y. Appends-nil h; later = omega arith; failed = λ y. let same : e ≡ Failed = cc in absurd (unwritten (sym why ∙ same)) })

  -- as a call that only writes has done it
  pub all_taken : (v : T) {U : Type 0} (u : U) (h i : Option (List ℕ)) (w x : ℕ) (said : List ℕ) → Writes {T = U} (Ok u) h i w x said → ReplayWrites (Ok v) h i w x said
  all_taken v u h i w x said p = record { ok = p.ok; err = tt; bad = λ place e. absurd cc; later = p.later; failed = λ e. absurd cc }

  pub take_halted : (r : Result T Misstep) (e : Misstep) {U : Type 0} (halt : Halt) (h i : Option (List ℕ)) (w x : ℕ) (said : List ℕ) → r ≡ Err e → e ≡ misstep_of halt → Writes {T = U} (Err halt) h i w x said
      → ReplayWrites r h i w x said
  take_halted r e halts.NoMemory h i w x said is why p =
      subst (λ (q : Result T Misstep). ReplayWrites q h i w x said) (sym (is ∙ ap (λ (y : Misstep). let q : Result T Misstep = Err y in q) why))
      (record { ok = tt; err = p.err; bad = λ place y. absurd cc; later = p.later; failed = λ y. absurd cc })
  take_halted r e halts.Failed h i w x said is why p =
      subst (λ (q : Result T Misstep). ReplayWrites q h i w x said) (sym (is ∙ ap (λ (y : Misstep). let q : Result T Misstep = Err y in q) why))
      (record { ok = tt; err = p.err; bad = λ place y. absurd cc; later = p.later; failed = λ y. p.failed refl })
