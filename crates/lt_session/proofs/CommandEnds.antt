-- What the status of a call says, by how what was asked for ended.
use Rattle.std.proofs.Common.{◌≡◌, ◌≤◌, ◌⊎◌, Bool, true, false, List, ℕ, length, refl, sym, ap, subst, ◌∙◌, arith, inl, inr, ⊎_elim}
use Rattle.std.specs.Prelude.{Option, Some, None, IfSome, IsSome, IsTrue, if◌then◌else◌, is_some, nat_eq}
use Rattle.std.proofs.KnownBytes.{Keeps-refl}
use Rattle.std.proofs.lemmas.List.{length-append}
use Rattle.std.specs.Io.KnownBytes.{Appends, Keeps}
use Rattle.lt_command.specs.declared.words.Command.{Command}
use Rattle.lt_command.specs.declared.words.Command.TheVariants.{Bench, Replay, Run}
use Rattle.lt_edges.specs.Causes.{Rose}
use Rattle.lt_model.specs.Report.{usage_text}
use Rattle.lt_report.specs.Puts.{AppendsFront}
use Rattle.lt_runs.specs.declared.status.Status.{Status}
use Rattle.lt_runs.specs.declared.status.Status.TheVariants.{Done, NotTaken, Faulty, ReadFault, WriteFault, NoMemory, TooLong, BadTrace}
use Rattle.lt_session.specs.CommandEnds.{CommandEndsAs, UsageEndsAs}
use Rattle.lt_runs.specs.Ends.{bench_text, BenchEndsAs, EndsAs, IfBench, IfRun, IsFaultReported, IsLongPart, IsPart, IsReplayAsked, IsReported, IsTooLong}
use Rattle.lt_runs.specs.Input.{limit}
use Rattle.lt_runs.specs.ReplayEnds.{IfReplay, IsFaultReplayed, IsLongReplayPart, IsRefused, IsReplayed, IsReplayPart, ReplayEndsAs}
use Rattle.lt_runs.specs.Statuses.{status_code}
use Rattle.lt_runs.specs.TracedEnds.{IfTraced, IsFaultTraced, IsTraced, IsTracedPart, TracedEndsAs}
use Rattle.lt_runs.proofs.Ends.{none_taken}
use Rattle.lt_runs.proofs.ReplayEnded.{none_replayed}
use Rattle.lt_runs.proofs.TracedEnds.{traced_part}

abbrev Bytes : Type 0
Bytes = Option (List ℕ)

-- ---- statuses by their numbers

abbrev named : ℕ → Status
named n =
    if nat_eq n 0 then Done
    else if nat_eq n 1 then NotTaken
    else if nat_eq n 2 then Faulty
    else if nat_eq n 3 then ReadFault
    else if nat_eq n 4 then WriteFault
    else if nat_eq n 5 then NoMemory
    else if nat_eq n 6 then TooLong
    else BadTrace

named_code : (status : Status) → named (status_code status) ≡ status
named_code Done = refl
named_code NotTaken = refl
named_code Faulty = refl
named_code ReadFault = refl
named_code WriteFault = refl
named_code NoMemory = refl
named_code TooLong = refl
named_code BadTrace = refl

code_least : (status : Status) → status_code status ≤ 7
code_least Done = omega arith
code_least NotTaken = omega arith
code_least Faulty = omega arith
code_least ReadFault = omega arith
code_least WriteFault = omega arith
code_least NoMemory = omega arith
code_least TooLong = omega arith
code_least BadTrace = omega arith

-- ---- memory was refused before anything was done

pub none_done : (o : Option Command) (l h : Bytes) (r w : ℕ) → CommandEndsAs o NoMemory l l r r h h w w
none_done (Some (Run workers pipeline marks true)) l h r w = traced_part marks l l h h (none_taken marks l h)
none_done (Some (Run workers pipeline marks false)) l h r w = none_taken marks l h
none_done (Some (Replay marks)) l h r w = none_replayed marks l h
none_done (Some (Bench seed items programs workers readers)) l h r w = (Keeps-refl l, Keeps-refl h)
none_done None l h r w = Keeps-refl h

-- ---- more than the limit isn't read where less was left

not_long : (l m : Bytes) → IfSome l (λ bytes. length bytes ≤ limit) → IsSome l → IsTooLong l m → ⊥
not_long None m few some long = let e : false ≡ true = some in cc
not_long (Some bytes) None few some long = long.1
not_long (Some bytes) (Some rest) few some long = omega (arith, few, long.2, ap length long.1, length-append long.0 rest)

module _ (l m : Bytes) (r s : ℕ) (h i : Bytes) (w x : ℕ) where
  abbrev Ends : Option Command → Status → Type 0
  Ends o status = CommandEndsAs o status l m r s h i w x

  -- ---- the parts of each command

  in_run : (o : Option Command) (status : Status) (P : Bool → Type 0) → Ends o status → ((marks : Bool) → EndsAs marks status l m r s h i w x → P marks) → IfRun o P
  in_run (Some (Run workers pipeline marks false)) status P ends f = f marks ends
  in_run (Some (Run workers pipeline marks true)) status P ends f = tt
  in_run (Some (Replay marks)) status P ends f = tt
  in_run (Some (Bench seed items programs workers readers)) status P ends f = tt
  in_run None status P ends f = tt

  in_traced : (o : Option Command) (status : Status) (P : Bool → Type 0) → Ends o status → ((marks : Bool) → TracedEndsAs marks status l m r s h i w x → P marks) → IfTraced o P
  in_traced (Some (Run workers pipeline marks true)) status P ends f = f marks ends
  in_traced (Some (Run workers pipeline marks false)) status P ends f = tt
  in_traced (Some (Replay marks)) status P ends f = tt
  in_traced (Some (Bench seed items programs workers readers)) status P ends f = tt
  in_traced None status P ends f = tt

  in_replay : (o : Option Command) (status : Status) (P : Bool → Type 0) → Ends o status → ((marks : Bool) → ReplayEndsAs marks status l m r s h i w x → P marks) → IfReplay o P
  in_replay (Some (Run workers pipeline marks trace)) status P ends f = tt
  in_replay (Some (Replay marks)) status P ends f = f marks ends
  in_replay (Some (Bench seed items programs workers readers)) status P ends f = tt
  in_replay None status P ends f = tt

  in_bench : (o : Option Command) (status : Status) (P : ℕ → ℕ → ℕ → ℕ → Type 0) → Ends o status
      → ((seed items programs readers : ℕ) → Keeps l m × BenchEndsAs (bench_text seed items programs readers) status h i w x → P seed items programs readers) → IfBench o P
  in_bench (Some (Run workers pipeline marks trace)) status P ends f = tt
  in_bench (Some (Replay marks)) status P ends f = tt
  in_bench (Some (Bench seed items programs workers readers)) status P ends f = f seed items programs readers ends
  in_bench None status P ends f = tt

  -- ---- each command that comes to an end

  run_complete : (marks : Bool) (status : Status) → EndsAs marks status l m r s h i w x → (Rose r s → ⊥) → (Rose w x → ⊥) → IfSome l (λ bytes. length bytes ≤ limit) → IsSome l
      → (status_code status ≡ 0) ⊎ (status_code status ≡ 2) ⊎ (status_code status ≡ 5)
  run_complete marks Done ends read wrote few some = inl refl
  run_complete marks NotTaken ends read wrote few some = absurd ends
  run_complete marks Faulty ends read wrote few some = inr (inl refl)
  run_complete marks ReadFault ends read wrote few some = absurd (read ends.0)
  run_complete marks WriteFault ends read wrote few some = absurd (wrote ends.0)
  run_complete marks NoMemory ends read wrote few some = inr (inr refl)
  run_complete marks TooLong ends read wrote few some = absurd (not_long l m few some ends.0)
  run_complete marks BadTrace ends read wrote few some = absurd ends

  traced_complete : (marks : Bool) (status : Status) → TracedEndsAs marks status l m r s h i w x → (Rose r s → ⊥) → (Rose w x → ⊥) → IfSome l (λ bytes. length bytes ≤ limit) → IsSome l
      → (status_code status ≡ 0) ⊎ (status_code status ≡ 2) ⊎ (status_code status ≡ 5)
  traced_complete marks Done ends read wrote few some = inl refl
  traced_complete marks NotTaken ends read wrote few some = absurd ends
  traced_complete marks Faulty ends read wrote few some = inr (inl refl)
  traced_complete marks ReadFault ends read wrote few some = absurd (read ends.0)
  traced_complete marks WriteFault ends read wrote few some = absurd (wrote ends.0)
  traced_complete marks NoMemory ends read wrote few some = inr (inr refl)
  traced_complete marks TooLong ends read wrote few some = absurd (not_long l m few some ends.0)
  traced_complete marks BadTrace ends read wrote few some = absurd ends

  replay_complete : (marks : Bool) (status : Status) → ReplayEndsAs marks status l m r s h i w x → (Rose r s → ⊥) → (Rose w x → ⊥) → IfSome l (λ bytes. length bytes ≤ limit) → IsSome l
      → (status_code status ≡ 0) ⊎ (status_code status ≡ 2) ⊎ (status_code status ≡ 7) ⊎ (status_code status ≡ 5)
  replay_complete marks Done ends read wrote few some = inl refl
  replay_complete marks NotTaken ends read wrote few some = absurd ends
  replay_complete marks Faulty ends read wrote few some = inr (inl refl)
  replay_complete marks ReadFault ends read wrote few some = absurd (read ends.0)
  replay_complete marks WriteFault ends read wrote few some = absurd (wrote ends.0)
  replay_complete marks NoMemory ends read wrote few some = inr (inr (inr refl))
  replay_complete marks TooLong ends read wrote few some = absurd (not_long l m few some ends.0)
  replay_complete marks BadTrace ends read wrote few some = inr (inr (inl refl))

  bench_ends : (text : List ℕ) (status : Status) → BenchEndsAs text status h i w x → (status_code status ≡ 0) ⊎ (status_code status ≡ 4) ⊎ (status_code status ≡ 5)
  bench_ends text Done ends = inl refl
  bench_ends text NotTaken ends = absurd ends
  bench_ends text Faulty ends = absurd ends
  bench_ends text ReadFault ends = absurd ends
  bench_ends text WriteFault ends = inr (inl refl)
  bench_ends text NoMemory ends = inr (inr refl)
  bench_ends text TooLong ends = absurd ends
  bench_ends text BadTrace ends = absurd ends

  bench_complete : (text : List ℕ) (status : Status) → BenchEndsAs text status h i w x → (Rose w x → ⊥) → (status_code status ≡ 0) ⊎ (status_code status ≡ 5)
  bench_complete text Done ends wrote = inl refl
  bench_complete text NotTaken ends wrote = absurd ends
  bench_complete text Faulty ends wrote = absurd ends
  bench_complete text ReadFault ends wrote = absurd ends
  bench_complete text WriteFault ends wrote = absurd (wrote ends.0)
  bench_complete text NoMemory ends wrote = inr refl
  bench_complete text TooLong ends wrote = absurd ends
  bench_complete text BadTrace ends wrote = absurd ends

  usage_ends : (status : Status) → UsageEndsAs status h i w x → (status_code status ≡ 1) ⊎ (status_code status ≡ 4) ⊎ (status_code status ≡ 5)
  usage_ends Done ends = absurd ends
  usage_ends NotTaken ends = inl refl
  usage_ends Faulty ends = absurd ends
  usage_ends ReadFault ends = absurd ends
  usage_ends WriteFault ends = inr (inl refl)
  usage_ends NoMemory ends = inr (inr refl)
  usage_ends TooLong ends = absurd ends
  usage_ends BadTrace ends = absurd ends

  -- ---- what a status says whatever was asked for

  read_rose : (o : Option Command) → Ends o ReadFault → Rose r s
  read_rose (Some (Run workers pipeline marks true)) ends = ends.0
  read_rose (Some (Run workers pipeline marks false)) ends = ends.0
  read_rose (Some (Replay marks)) ends = ends.0
  read_rose (Some (Bench seed items programs workers readers)) ends = absurd ends.1
  read_rose None ends = absurd ends

  write_rose : (o : Option Command) → Ends o WriteFault → Rose w x
  write_rose (Some (Run workers pipeline marks true)) ends = ends.0
  write_rose (Some (Run workers pipeline marks false)) ends = ends.0
  write_rose (Some (Replay marks)) ends = ends.0
  write_rose (Some (Bench seed items programs workers readers)) ends = ends.1.0
  write_rose None ends = ends.0

  long_read : (o : Option Command) → Ends o TooLong → IsTooLong l m
  long_read (Some (Run workers pipeline marks true)) ends = ends.0
  long_read (Some (Run workers pipeline marks false)) ends = ends.0
  long_read (Some (Replay marks)) ends = ends.0
  long_read (Some (Bench seed items programs workers readers)) ends = absurd ends.1
  long_read None ends = absurd ends

  replay_asked : (o : Option Command) → Ends o BadTrace → IsReplayAsked o
  replay_asked (Some (Run workers pipeline marks true)) ends = absurd ends
  replay_asked (Some (Run workers pipeline marks false)) ends = absurd ends
  replay_asked (Some (Replay marks)) ends = tt
  replay_asked (Some (Bench seed items programs workers readers)) ends = absurd ends.1
  replay_asked None ends = absurd ends

  none_asked : (o : Option Command) → Ends o NotTaken → is_some o ≡ false
  none_asked (Some (Run workers pipeline marks true)) ends = absurd ends
  none_asked (Some (Run workers pipeline marks false)) ends = absurd ends
  none_asked (Some (Replay marks)) ends = absurd ends
  none_asked (Some (Bench seed items programs workers readers)) ends = absurd ends.1
  none_asked None ends = refl

  -- of words that aren't taken
  of_none : (o : Option Command) (status : Status) → Ends o status → is_some o ≡ false → UsageEndsAs status h i w x
  of_none (Some command) status ends none = absurd (let e : true ≡ false = none in cc)
  of_none None status ends none = ends

  some_or_ended : (o : Option Command) (status : Status) → Ends o status → (status_code status ≡ 1) ⊎ (status_code status ≡ 4) ⊎ (status_code status ≡ 5) ⊎ IsTrue (is_some o)
  some_or_ended (Some command) status ends = inr (inr (inr refl))
  some_or_ended None status ends = ⊎_elim inl (λ b. inr (⊎_elim inl (λ c. inr (inl c)) b)) (usage_ends status ends)

-- ---- the clauses, where the call answers this number

module _ (o : Option Command) (status : Status) (n : ℕ) (is : n ≡ status_code status) (l m : Bytes) (r s : ℕ) (h i : Bytes) (w x : ℕ) (ends : CommandEndsAs o status l m r s h i w x) where
  at : (k : ℕ) → n ≡ k → status ≡ named k
  at k e = sym (named_code status) ∙ ap named (sym is ∙ e)

  ends_at : (k : ℕ) → n ≡ k → CommandEndsAs o (named k) l m r s h i w x
  ends_at k e = subst (λ (q : Status). CommandEndsAs o q l m r s h i w x) (at k e) ends

  on_code : (P : ℕ → Type 0) → P (status_code status) → P n
  on_code P p = subst P (sym is) p

  pub reported : n ≡ 0 → IfRun o (λ marks. IsReported marks l m h i)
  reported e = in_run l m r s h i w x o Done (λ marks. IsReported marks l m h i) (ends_at 0 e) (λ marks q. q)

  pub faulty : n ≡ 2 → IfRun o (λ marks. IsFaultReported marks l m h i)
  faulty e = in_run l m r s h i w x o Faulty (λ marks. IsFaultReported marks l m h i) (ends_at 2 e) (λ marks q. q)

  pub traced : n ≡ 0 → IfTraced o (λ marks. IsTraced marks l m h i)
  traced e = in_traced l m r s h i w x o Done (λ marks. IsTraced marks l m h i) (ends_at 0 e) (λ marks q. q)

  pub traced_faulty : n ≡ 2 → IfTraced o (λ marks. IsFaultTraced marks l m h i)
  traced_faulty e = in_traced l m r s h i w x o Faulty (λ marks. IsFaultTraced marks l m h i) (ends_at 2 e) (λ marks q. q)

  pub replayed : n ≡ 0 → IfReplay o (λ marks. IsReplayed marks l m h i)
  replayed e = in_replay l m r s h i w x o Done (λ marks. IsReplayed marks l m h i) (ends_at 0 e) (λ marks q. q)

  pub fault_replayed : n ≡ 2 → IfReplay o (λ marks. IsFaultReplayed marks l m h i)
  fault_replayed e = in_replay l m r s h i w x o Faulty (λ marks. IsFaultReplayed marks l m h i) (ends_at 2 e) (λ marks q. q)

  pub refused : n ≡ 7 → IfReplay o (λ marks. IsRefused marks l m h i)
  refused e = in_replay l m r s h i w x o BadTrace (λ marks. IsRefused marks l m h i) (ends_at 7 e) (λ marks q. q)

  pub replays_alone : n ≡ 7 → IsReplayAsked o
  replays_alone e = replay_asked l m r s h i w x o (ends_at 7 e)

  pub summed : n ≡ 0 → IfBench o (λ seed items programs readers. Appends h i (bench_text seed items programs readers))
  summed e = in_bench l m r s h i w x o Done (λ seed items programs readers. Appends h i (bench_text seed items programs readers)) (ends_at 0 e) (λ seed items programs readers q. q.1)

  pub unread : IfBench o (λ seed items programs readers. Keeps l m)
  unread = in_bench l m r s h i w x o status (λ seed items programs readers. Keeps l m) ends (λ seed items programs readers q. q.0)

  pub words : (n ≡ 1) ⊎ (n ≡ 4) ⊎ (n ≡ 5) ⊎ IsTrue (is_some o)
  words = on_code (λ (k : ℕ). (k ≡ 1) ⊎ (k ≡ 4) ⊎ (k ≡ 5) ⊎ IsTrue (is_some o)) (some_or_ended l m r s h i w x o status ends)

  pub not_taken : n ≡ 1 → is_some o ≡ false
  not_taken e = none_asked l m r s h i w x o (ends_at 1 e)

  pub usage : n ≡ 1 → Appends h i usage_text
  usage e = of_none l m r s h i w x o NotTaken (ends_at 1 e) (not_taken e)

  pub read_fault : n ≡ 3 → Rose r s
  read_fault e = read_rose l m r s h i w x o (ends_at 3 e)

  pub write_fault : n ≡ 4 → Rose w x
  write_fault e = write_rose l m r s h i w x o (ends_at 4 e)

  pub too_long : n ≡ 6 → IsTooLong l m
  too_long e = long_read l m r s h i w x o (ends_at 6 e)

  pub bench_ended : IfBench o (λ seed items programs readers. (n ≡ 0) ⊎ (n ≡ 4) ⊎ (n ≡ 5))
  bench_ended = in_bench l m r s h i w x o status (λ seed items programs readers. (n ≡ 0) ⊎ (n ≡ 4) ⊎ (n ≡ 5)) ends
      (λ seed items programs readers q. on_code (λ (k : ℕ). (k ≡ 0) ⊎ (k ≡ 4) ⊎ (k ≡ 5)) (bench_ends l m r s h i w x (bench_text seed items programs readers) status q.1))

  pub known : n ≤ 7
  known = on_code (λ (k : ℕ). k ≤ 7) (code_least status)

  pub part : (n ≡ 3) ⊎ (n ≡ 4) ⊎ (n ≡ 5) → IfRun o (λ marks. IsPart marks l m h i)
  part e = ⊎_elim (λ (a : n ≡ 3). in_run l m r s h i w x o ReadFault (λ marks. IsPart marks l m h i) (ends_at 3 a) (λ marks q. q.1))
      (λ b. ⊎_elim (λ (a : n ≡ 4). in_run l m r s h i w x o WriteFault (λ marks. IsPart marks l m h i) (ends_at 4 a) (λ marks q. q.1))
      (λ (a : n ≡ 5). in_run l m r s h i w x o NoMemory (λ marks. IsPart marks l m h i) (ends_at 5 a) (λ marks q. q)) b) e

  pub long_part : n ≡ 6 → IfRun o (λ marks. IsLongPart marks l m h i)
  long_part e = in_run l m r s h i w x o TooLong (λ marks. IsLongPart marks l m h i) (ends_at 6 e) (λ marks q. q.1)

  pub traced_stopped : (n ≡ 3) ⊎ (n ≡ 4) ⊎ (n ≡ 5) → IfTraced o (λ marks. IsTracedPart marks l m h i)
  traced_stopped e = ⊎_elim (λ (a : n ≡ 3). in_traced l m r s h i w x o ReadFault (λ marks. IsTracedPart marks l m h i) (ends_at 3 a) (λ marks q. q.1))
      (λ b. ⊎_elim (λ (a : n ≡ 4). in_traced l m r s h i w x o WriteFault (λ marks. IsTracedPart marks l m h i) (ends_at 4 a) (λ marks q. q.1))
      (λ (a : n ≡ 5). in_traced l m r s h i w x o NoMemory (λ marks. IsTracedPart marks l m h i) (ends_at 5 a) (λ marks q. q)) b) e

  pub traced_long_part : n ≡ 6 → IfTraced o (λ marks. IsLongPart marks l m h i)
  traced_long_part e = in_traced l m r s h i w x o TooLong (λ marks. IsLongPart marks l m h i) (ends_at 6 e) (λ marks q. q.1)

  pub replay_part : (n ≡ 3) ⊎ (n ≡ 4) ⊎ (n ≡ 5) → IfReplay o (λ marks. IsReplayPart marks l m h i)
  replay_part e = ⊎_elim (λ (a : n ≡ 3). in_replay l m r s h i w x o ReadFault (λ marks. IsReplayPart marks l m h i) (ends_at 3 a) (λ marks q. q.1))
      (λ b. ⊎_elim (λ (a : n ≡ 4). in_replay l m r s h i w x o WriteFault (λ marks. IsReplayPart marks l m h i) (ends_at 4 a) (λ marks q. q.1))
      (λ (a : n ≡ 5). in_replay l m r s h i w x o NoMemory (λ marks. IsReplayPart marks l m h i) (ends_at 5 a) (λ marks q. q)) b) e

  pub replay_long_part : n ≡ 6 → IfReplay o (λ marks. IsLongReplayPart marks l m h i)
  replay_long_part e = in_replay l m r s h i w x o TooLong (λ marks. IsLongReplayPart marks l m h i) (ends_at 6 e) (λ marks q. q.1)

  pub bench_part : n ≡ 4 → IfBench o (λ seed items programs readers. AppendsFront h i (bench_text seed items programs readers))
  bench_part e = in_bench l m r s h i w x o WriteFault (λ seed items programs readers. AppendsFront h i (bench_text seed items programs readers)) (ends_at 4 e) (λ seed items programs readers q. q.1.1)

  pub bench_unwritten : n ≡ 5 → IfBench o (λ seed items programs readers. Keeps h i)
  bench_unwritten e = in_bench l m r s h i w x o NoMemory (λ seed items programs readers. Keeps h i) (ends_at 5 e) (λ seed items programs readers q. q.1)

  pub usage_part : n ≡ 4 → is_some o ≡ false → AppendsFront h i usage_text
  usage_part e none = (of_none l m r s h i w x o WriteFault (ends_at 4 e) none).1

  pub usage_unwritten : n ≡ 5 → is_some o ≡ false → Keeps h i
  usage_unwritten e none = of_none l m r s h i w x o NoMemory (ends_at 5 e) none

  pub complete : IfRun o (λ marks. (Rose r s → ⊥) → (Rose w x → ⊥) → IfSome l (λ bytes. length bytes ≤ limit) → IsSome l → (n ≡ 0) ⊎ (n ≡ 2) ⊎ (n ≡ 5))
  complete = in_run l m r s h i w x o status (λ marks. (Rose r s → ⊥) → (Rose w x → ⊥) → IfSome l (λ bytes. length bytes ≤ limit) → IsSome l → (n ≡ 0) ⊎ (n ≡ 2) ⊎ (n ≡ 5)) ends
      (λ marks q read wrote few some. on_code (λ (k : ℕ). (k ≡ 0) ⊎ (k ≡ 2) ⊎ (k ≡ 5)) (run_complete l m r s h i w x marks status q read wrote few some))

  pub traced_completed : IfTraced o (λ marks. (Rose r s → ⊥) → (Rose w x → ⊥) → IfSome l (λ bytes. length bytes ≤ limit) → IsSome l → (n ≡ 0) ⊎ (n ≡ 2) ⊎ (n ≡ 5))
  traced_completed = in_traced l m r s h i w x o status (λ marks. (Rose r s → ⊥) → (Rose w x → ⊥) → IfSome l (λ bytes. length bytes ≤ limit) → IsSome l → (n ≡ 0) ⊎ (n ≡ 2) ⊎ (n ≡ 5)) ends
      (λ marks q read wrote few some. on_code (λ (k : ℕ). (k ≡ 0) ⊎ (k ≡ 2) ⊎ (k ≡ 5)) (traced_complete l m r s h i w x marks status q read wrote few some))

  pub replay_completed : IfReplay o (λ marks. (Rose r s → ⊥) → (Rose w x → ⊥) → IfSome l (λ bytes. length bytes ≤ limit) → IsSome l → (n ≡ 0) ⊎ (n ≡ 2) ⊎ (n ≡ 7) ⊎ (n ≡ 5))
  replay_completed = in_replay l m r s h i w x o status (λ marks. (Rose r s → ⊥) → (Rose w x → ⊥) → IfSome l (λ bytes. length bytes ≤ limit) → IsSome l → (n ≡ 0) ⊎ (n ≡ 2) ⊎ (n ≡ 7) ⊎ (n ≡ 5)) ends
      (λ marks q read wrote few some. on_code (λ (k : ℕ). (k ≡ 0) ⊎ (k ≡ 2) ⊎ (k ≡ 7) ⊎ (k ≡ 5)) (replay_complete l m r s h i w x marks status q read wrote few some))

  pub bench_completed : IfBench o (λ seed items programs readers. (Rose w x → ⊥) → (n ≡ 0) ⊎ (n ≡ 5))
  bench_completed = in_bench l m r s h i w x o status (λ seed items programs readers. (Rose w x → ⊥) → (n ≡ 0) ⊎ (n ≡ 5)) ends
      (λ seed items programs readers q wrote. on_code (λ (k : ℕ). (k ≡ 0) ⊎ (k ≡ 5)) (bench_complete l m r s h i w x (bench_text seed items programs readers) status q.1 wrote))
