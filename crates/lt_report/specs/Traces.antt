-- The lines of traces.
use Rattle.std.specs.Prelude.{ℕ, [], ◌∷◌, codes, decimal}
use Rattle.lt_model.specs.Report.{Text, line}

-- the line with which the trace of a batch begins: how many of its programs have no code, and how many entries follow
abbrev pub trace_text : (batch programs entries : ℕ) → Text
trace_text batch programs entries = line (codes "trace" ∷ decimal batch ∷ decimal programs ∷ decimal entries ∷ [])

-- the line of an entry
abbrev pub entry_text : (worker code : ℕ) → Text
entry_text worker code = line (decimal worker ∷ decimal code ∷ [])

-- the line that says where a trace isn't right
abbrev pub bad_trace_text : (batch place : ℕ) → Text
bad_trace_text batch place = line (codes "bad" ∷ codes "trace" ∷ decimal batch ∷ decimal place ∷ [])
