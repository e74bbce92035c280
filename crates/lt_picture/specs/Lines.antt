-- The lines of a trace, and those of a report that tell names.
use Rattle.std.specs.Prelude.{ℕ, List, ◌≡◌, ◌≤◌, ◌⊎◌, ◌++◌, codes, decimal}
use Rattle.lt_picture.specs.declared.lines.Header.{Header}

-- two words with a space between them
abbrev pub spaced : List ℕ → List ℕ → List ℕ
spaced front back = front ++ (codes " " ++ back)

-- the first line of a trace
abbrev pub header_line : Header → List ℕ
header_line h = codes "trace " ++ spaced (decimal h.batch) (spaced (decimal h.programs) (decimal h.entries))

-- the line of an entry
abbrev pub entry_line : (worker code : ℕ) → List ℕ
entry_line worker code = spaced (decimal worker) (decimal code)

-- the line that ends a batch in a report
abbrev pub version_line : (batch : ℕ) → List ℕ
version_line batch = codes "version " ++ decimal batch

-- what stands behind its name of a program that was done, or refused at a statement
abbrev pub IsRun : List ℕ → Type 0
IsRun reply = (reply ≡ codes "done") ⊎ ((statement : ℕ) × (reply ≡ spaced (codes "refused") (decimal statement)))

-- a line that says so of the program with this name
abbrev pub IsRunOf : (name line : List ℕ) → Type 0
IsRunOf name line = (reply : List ℕ) × IsRun reply × (line ≡ spaced name reply)

-- what names have: `_`, digits and small letters
abbrev pub IsNameCode : ℕ → Type 0
IsNameCode c = (c ≡ 95) ⊎ (((48 ≤ c) × (c ≤ 57)) ⊎ ((97 ≤ c) × (c ≤ 122)))
