-- A circuit and a line as machines that workers hand on.
use Rattle.std.specs.Prelude.{◌≡◌, ℕ, List, [], ◌∷◌, ◌++◌, map}
use Rattle.lt_model.specs.declared.mark.Mark.{Mark}
use Rattle.lt_net.specs.Net.{Net, abandoned, finished}
use Rattle.lt_net.specs.Tree.{circuit_net, tree_of}
use Rattle.lt_net.specs.Line.{line_net}
use Rattle.lt_circuit.specs.declared.entry.Entry.{Entry}
use Rattle.lt_circuit.specs.declared.entry.Event.TheVariants.{Finish, Abandon}
use Rattle.lt_circuit.specs.declared.line.LineEntry.{LineEntry}
use Rattle.lt_circuit.specs.Entry.{entry_code}
use Rattle.lt_circuit.specs.Circuit.{CircuitView, state}
use Rattle.lt_circuit.specs.Job.{JobView, OutputView, claim_of_job, claim_of_output, name_of_job, name_of_output, tallies_back, tallies_done}
use Rattle.lt_circuit.specs.Line.{LineView, line_entry_code, line_state}
use Rattle.lt_circuit.specs.LineJob.{claim_of_line_job, claim_of_line_output}
use Rattle.lt_circuit.specs.Row.{sizes}
use Rattle.lt_workers.specs.declared.basis.Basis.{Basis}
use Rattle.lt_workers.specs.declared.basis.LineBasis.{LineBasis}
use Rattle.lt_workers.specs.Seen.{Stand}

-- ---- a circuit

-- an entry as the turn sees it
abbrev pub pair_of : Entry → ℕ × ℕ
pair_of e = (e.worker, entry_code e)

abbrev pub pairs_of : {W T : Type 0} → CircuitView W T → List (ℕ × ℕ)
pairs_of c = map pair_of c.journal

abbrev pub basis_of : {W T : Type 0} → CircuitView W T → Basis W
basis_of c = record { work = c.work; leaves = c.board.leaves }

abbrev pub circuit_stand : {W T : Type 0} → CircuitView W T → Stand (Basis W)
circuit_stand c = record { basis = basis_of c; pairs = pairs_of c; state = state c }

abbrev pub net_of : {W : Type 0} → (W → ℕ → List Mark → List Mark) → Basis W → Net
net_of does b = circuit_net (does b.work) (tree_of b.leaves)

-- this output was stored
pub record IsFinished {W T : Type 0} (does : W → ℕ → List Mark → List Mark) (before after : CircuitView W T) (worker : ℕ) (output : OutputView W T) : Type 0 where
  pub entry : after.journal ≡ before.journal ++ record { worker = worker; job = name_of_output output; event = Finish } ∷ []
  pub finishes : state after ≡ finished (net_of does (basis_of before)) (state before) worker (claim_of_output output)
  pub tallies : after.tallies ≡ tallies_done output.did before.tallies

-- this job was given up
pub record IsAbandoned {W T : Type 0} (before after : CircuitView W T) (worker : ℕ) (job : JobView W T) : Type 0 where
  pub entry : after.journal ≡ before.journal ++ record { worker = worker; job = name_of_job job; event = Abandon } ∷ []
  pub abandons : state after ≡ abandoned (state before) worker (claim_of_job job)
  pub tallies : after.tallies ≡ tallies_back job.task before.tallies

-- ---- a line

abbrev pub line_pair_of : LineEntry → ℕ × ℕ
line_pair_of e = (e.worker, line_entry_code e)

abbrev pub line_basis_of : {W T : Type 0} → LineView W T → LineBasis W
line_basis_of l = record { work = l.work; sizes = sizes l.row }

abbrev pub line_stand : {W T : Type 0} → LineView W T → Stand (LineBasis W)
line_stand l = record { basis = line_basis_of l; pairs = map line_pair_of l.journal; state = line_state l }

abbrev pub line_net_of : {W : Type 0} → (W → ℕ → List Mark → List Mark) → LineBasis W → Net
line_net_of does b = line_net (does b.work) b.sizes

-- this output was stored
pub record IsLineFinished {W T : Type 0} (does : W → ℕ → List Mark → List Mark) (before after : LineView W T) (worker : ℕ) (output : OutputView W T) : Type 0 where
  pub entry : after.journal ≡ before.journal ++ record { worker = worker; job = (claim_of_line_output output).job; event = Finish } ∷ []
  pub finishes : line_state after ≡ finished (line_net_of does (line_basis_of before)) (line_state before) worker (claim_of_line_output output)
  pub tallies : after.tallies ≡ tallies_done output.did before.tallies

-- this job was given up
pub record IsLineAbandoned {W T : Type 0} (before after : LineView W T) (worker : ℕ) (job : JobView W T) : Type 0 where
  pub entry : after.journal ≡ before.journal ++ record { worker = worker; job = (claim_of_line_job job).job; event = Abandon } ∷ []
  pub abandons : line_state after ≡ abandoned (line_state before) worker (claim_of_line_job job)
  pub tallies : after.tallies ≡ tallies_back job.task before.tallies
