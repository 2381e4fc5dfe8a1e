-- The spelling of a valid trace is read as that trace.
use Rattle.std.proofs.Common.{◌≡◌, ℕ, ◌+◌, ◌≤◌, ◌<◌, true, false, not, eqb, ltb, leb, List, [], ◌∷◌, ◌++◌, length, map, codes, Ok, refl, sym, ◌∙◌, ap, subst, arith, append_assoc, length-append}
use Rattle.std.specs.List.{slice_split, list_all, AllByRecursion, flat_map}
use Rattle.std.specs.Fmt.{decimal}
use Rattle.std.proofs.lemmas.Bool.{leb-true, lt-leb, le-ltb, lt-ltb, and_parts, not-true}
use Rattle.std.proofs.lemmas.List.{append-nil}
use Rattle.std.proofs.lemmas.List.Elements.{All-from_recursion}
use Rattle.std.proofs.lemmas.List.Splits.{slice_split_at}
use Rattle.hm_trace.specs.declared.progress.Open.{Open}
use Rattle.hm_trace.specs.declared.progress.Open.TheVariants.{InRound, InScript, Nothing}
use Rattle.hm_trace.specs.declared.version.Version.{Version}
use Rattle.hm_trace.specs.declared.version.Version.TheVariants.{One, Two}
use Rattle.hm_trace.specs.Faults.{is_plain}
use Rattle.hm_trace.specs.Limits.{max_notes, max_steps, max_threads}
use Rattle.hm_trace.specs.Lines.{is_text, words_at}
use Rattle.hm_trace.specs.ReadLines.{Progress, former_thread, header_at, line_at, next_step_at, note_line_at, read_lines, read_pieces, read_text, round_at, round_of, rounds_after, rounds_of, scripts_after, start, trace_of, step_line_at, thread_line_at, words_line_at}
use Rattle.hm_trace.specs.Spelling.{header, line_of, note_words, round_lines, script_lines, spelling, step_words, text_of, trace_lines}
use Rattle.hm_trace.specs.Traces.{IsTrace, are_scripts, are_up_to, avoids, is_note, is_round_of, is_step, note_count, sets_again, step_count}
use Rattle.hm_trace.specs.Views.{Aligned, Calloc, Free, Malloc, Read, Realloc, RoundView, ScriptView, Sfree, Size, StepView, TraceView, Write}
use Rattle.hm_trace.proofs.Decimals.{next}
use Rattle.hm_trace.proofs.Fits.{FitsStep, step_fits}
use Rattle.hm_trace.proofs.Lengths.{total}
use Rattle.hm_trace.proofs.Notes.{note_line, note_text, text_again}
use Rattle.hm_trace.proofs.Numerals.{thread_again}
use Rattle.hm_trace.proofs.Scripts.{round_parts, steps_valid, thread_range}
use Rattle.hm_trace.proofs.Stays.{Follows, at_stage, test_follows}
use Rattle.hm_trace.proofs.Steps.{step_again}
use Rattle.hm_trace.proofs.Versions.{few_threads}
use Rattle.hm_trace.proofs.Written.{IsLine, line_plain, no_line_feed, round_line, step_line, thread_line, words_again}

line_again : (p : Progress) (words : List (List ℕ)) → IsLine words → line_at p (line_of words) ≡ words_line_at p words
unfolding line_at
line_again p words h =
    let long : ltb 256 (length (line_of words)) ≡ false = le-ltb _ _ h.short in
    let plain = line_plain words h in
    rw (long, plain, words_again words h) refl

-- lines that lead from one state to another
abbrev Reaches : Progress → List (List (List ℕ)) → Progress → Type 0
Reaches p [] q = p ≡ q
Reaches p (w ∷ ws) q = IsLine w × (m : Progress) × (words_line_at p w ≡ Ok m) × Reaches m ws q

reach_more : (p m q : Progress) (ws vs : List (List (List ℕ))) → Reaches p ws m → Reaches m vs q
    → Reaches p (ws ++ vs) q
reach_more p m q [] vs h k = subst (λ (x : Progress). Reaches x vs q) (sym h) k
reach_more p m q (w ∷ ws) vs h k = (h.0, h.1, h.2, reach_more h.1 m q ws vs h.3 k)

abbrev closing : List (List ℕ)
closing = codes "end" ∷ [] ∷ []

one_more : (n : ℕ) (p m : Progress) (w : List (List ℕ)) (next : List ℕ) (more : List (List ℕ))
    (all : TraceView)
    → IsLine w → words_line_at p w ≡ Ok m → read_lines (n + 1) m (next ∷ more) ≡ Ok all
    → read_lines n p (line_of w ∷ next ∷ more) ≡ Ok all
unfolding read_lines
one_more n p m w next more all l e r =
    let a : line_at p (line_of w) ≡ Ok m = line_again p w l ∙ e in
    let o = l.other in
    rw (o, a) r

reads : (n : ℕ) (p q : Progress) (ws : List (List (List ℕ))) → Reaches p ws q
    → read_lines n p (map line_of ws ++ closing) ≡ Ok (trace_of q)
unfolding read_lines
reads n p q [] h = ap (λ (x : Progress). Ok (trace_of x)) h
reads n p q (w ∷ []) h = one_more n p h.1 w (codes "end") ([] ∷ []) (trace_of q) h.0 h.2 (reads (n + 1) h.1 q [] h.3)
reads n p q (w ∷ v ∷ vs) h =
    one_more n p h.1 w (line_of v) (map line_of vs ++ closing) (trace_of q) h.0 h.2 (reads (n + 1) h.1 q (v ∷ vs) h.3)

step_goes : (v : Version) (t : ℕ) (rs : List RoundView) (ns : List (List ℕ)) (ss : List ScriptView) (steps : List StepView) (count notes : ℕ)
    (s : StepView)
    → FitsStep s → sets_again ss s ≡ false → count < max_steps v
    → words_line_at (at_stage v (InScript t) rs ns ss steps count notes) (step_words s)
    ≡ Ok (at_stage v (InScript t) rs ns ss (steps ++ s ∷ []) (count + 1) notes)
unfolding words_line_at step_line_at next_step_at
step_goes v t rs ns ss steps count notes (Malloc x0 x1) h twice room =
    let full : leb (max_steps v) count ≡ false = lt-leb _ _ room in
    rw (step_again (Malloc x0 x1) h, full, twice) refl
step_goes v t rs ns ss steps count notes (Calloc x0 x1 x2) h twice room =
    let full : leb (max_steps v) count ≡ false = lt-leb _ _ room in
    rw (step_again (Calloc x0 x1 x2) h, full, twice) refl
step_goes v t rs ns ss steps count notes (Aligned x0 x1 x2) h twice room =
    let full : leb (max_steps v) count ≡ false = lt-leb _ _ room in
    rw (step_again (Aligned x0 x1 x2) h, full, twice) refl
step_goes v t rs ns ss steps count notes (Realloc x0 x1 x2) h twice room =
    let full : leb (max_steps v) count ≡ false = lt-leb _ _ room in
    rw (step_again (Realloc x0 x1 x2) h, full, twice) refl
step_goes v t rs ns ss steps count notes (Free x0) h twice room =
    let full : leb (max_steps v) count ≡ false = lt-leb _ _ room in
    rw (step_again (Free x0) h, full) refl
step_goes v t rs ns ss steps count notes (Sfree x0 x1) h twice room =
    let full : leb (max_steps v) count ≡ false = lt-leb _ _ room in
    rw (step_again (Sfree x0 x1) h, full) refl
step_goes v t rs ns ss steps count notes (Write x0 x1 x2) h twice room =
    let full : leb (max_steps v) count ≡ false = lt-leb _ _ room in
    rw (step_again (Write x0 x1 x2) h, full) refl
step_goes v t rs ns ss steps count notes (Read x0 x1) h twice room =
    let full : leb (max_steps v) count ≡ false = lt-leb _ _ room in
    rw (step_again (Read x0 x1) h, full) refl
step_goes v t rs ns ss steps count notes (Size x0) h twice room =
    let full : leb (max_steps v) count ≡ false = lt-leb _ _ room in
    rw (step_again (Size x0) h, full) refl

steps_reach : (v : Version) (t : ℕ) (rs : List RoundView) (ns : List (List ℕ)) (ss : List ScriptView) (done : List StepView) (count notes : ℕ)
    (more : List StepView)
    → list_all is_step more ≡ true → avoids ss more ≡ true → count + length more ≤ max_steps v
    → Reaches (at_stage v (InScript t) rs ns ss done count notes) (map step_words more)
    (at_stage v (InScript t) rs ns ss (done ++ more) (count + length more) notes)
steps_reach v t rs ns ss done count notes [] h a room =
    let x = append-nil done in
    let y : count ≡ count + length {A = StepView} [] = omega arith in
    λ i. at_stage v (InScript t) rs ns ss (sym x i) (y i) notes
steps_reach v t rs ns ss done count notes (s ∷ more) h a room =
    let b = and_parts (not (sets_again ss s)) (avoids ss more) a in
    let f = and_parts (is_step s) (list_all is_step more) h in
    let fits = step_fits s f.0 in
    let less : count < max_steps v = omega arith in
    let rest = steps_reach v t rs ns ss (done ++ s ∷ []) (count + 1) notes more f.1 b.1 (omega arith) in
    let x = append_assoc done (s ∷ []) more in
    let y : (count + 1) + length more ≡ count + length (s ∷ more) = omega arith in (
      step_line s fits,
      at_stage v (InScript t) rs ns ss (done ++ s ∷ []) (count + 1) notes,
      step_goes v t rs ns ss done count notes s fits (not-true _ b.0) less,
      subst
          (λ (q : Progress). Reaches (at_stage v (InScript t) rs ns ss (done ++ s ∷ []) (count + 1) notes) (map step_words more) q)
          (λ i. at_stage v (InScript t) rs ns ss (x i) (y i) notes) rest,
    )

thread_goes : (v : Version) (stage : Open) (rs : List RoundView) (ns : List (List ℕ)) (ss : List ScriptView)
    (steps : List StepView) (count notes t f : ℕ)
    → former_thread stage ≡ Ok f → f < t → t ≤ max_threads v
    → words_line_at (at_stage v stage rs ns ss steps count notes) (codes "thread" ∷ decimal t ∷ [])
    ≡ Ok (at_stage v (InScript t) rs ns (scripts_after stage ss steps) [] count notes)
unfolding words_line_at thread_line_at
thread_goes v stage rs ns ss steps count notes t f e later small =
    let a : leb t f ≡ false = lt-leb _ _ later in
    let b : ltb (max_threads v) t ≡ false = le-ltb _ _ small in
    rw (e, thread_again t (omega (arith, small, few_threads v)), a, b) refl

script_reach : (v : Version) (stage : Open) (rs : List RoundView) (ns : List (List ℕ)) (ss : List ScriptView)
    (steps : List StepView) (count notes f : ℕ) (s : ScriptView)
    → former_thread stage ≡ Ok f → Follows (scripts_after stage ss steps) f s → s.thread ≤ max_threads v
    → count + length s.steps ≤ max_steps v
    → Reaches (at_stage v stage rs ns ss steps count notes) (script_lines s)
    (at_stage v (InScript s.thread) rs ns (scripts_after stage ss steps) s.steps (count + length s.steps) notes)
script_reach v stage rs ns ss steps count notes f s e h small room = (
  thread_line s.thread (thread_range s h.fits).1,
  at_stage v (InScript s.thread) rs ns (scripts_after stage ss steps) [] count notes,
  thread_goes v stage rs ns ss steps count notes s.thread f e h.later small,
  steps_reach v s.thread rs ns (scripts_after stage ss steps) [] count notes s.steps (steps_valid s h.fits) h.apart room,
)

record Reads (p : Progress) (ws : List (List (List ℕ))) (rounds : List RoundView) (count notes : ℕ) : Type 0 where
  state : Progress
  version_is : state.version ≡ p.version
  reaches : Reaches p ws state
  rounds_are : rounds_of state ≡ rounds
  count_is : state.count ≡ count
  notes_are : state.note_count ≡ notes

nothing_more : (stage : Open) (rs : List RoundView) (ns : List (List ℕ)) (ss : List ScriptView) (steps : List StepView)
    (f : ℕ)
    → former_thread stage ≡ Ok f
    → rounds_after stage rs ns ss steps ≡ rs ++ round_of ns (scripts_after stage ss steps ++ []) ∷ []
nothing_more Nothing rs ns ss steps f e = absurd cc
nothing_more InRound rs ns ss steps f e =
    ap (λ (x : List ScriptView). rs ++ round_of ns x ∷ []) (sym (append-nil ss))
nothing_more (InScript t) rs ns ss steps f e =
    ap (λ (x : List ScriptView). rs ++ round_of ns x ∷ [])
    (sym (append-nil (ss ++ record { thread = t; steps = steps } ∷ [])))

scripts_reach : (v : Version) (stage : Open) (rs : List RoundView) (ns : List (List ℕ)) (ss : List ScriptView)
    (steps : List StepView) (count notes f : ℕ) (more : List ScriptView)
    → former_thread stage ≡ Ok f → are_scripts (scripts_after stage ss steps) f more ≡ true
    → are_up_to (max_threads v) more ≡ true → count + total more ≤ max_steps v
    → Reads (at_stage v stage rs ns ss steps count notes) (flat_map script_lines more)
    (rs ++ round_of ns (scripts_after stage ss steps ++ more) ∷ []) (count + total more) notes
scripts_reach v stage rs ns ss steps count notes f [] e a up room =
    record {
      state = at_stage v stage rs ns ss steps count notes;
      version_is = refl;
      reaches = refl;
      rounds_are = nothing_more stage rs ns ss steps f e;
      count_is = omega arith;
      notes_are = refl;
    }
scripts_reach v stage rs ns ss steps count notes f (s ∷ more) e a up room =
    let cs = scripts_after stage ss steps in
    let t = test_follows cs f s (are_scripts (cs ++ s ∷ []) s.thread more) a in
    let l = length-append s.steps (flat_map (λ (x : ScriptView). x.steps) more) in
    let u = and_parts (leb s.thread (max_threads v)) (are_up_to (max_threads v) more) up in
    let room_here : count + length s.steps ≤ max_steps v = omega (arith, l, room) in
    let room_later : (count + length s.steps) + total more ≤ max_steps v = omega (arith, l, room) in
    let one = script_reach v stage rs ns ss steps count notes f s e t.0 (leb-true _ _ u.0) room_here in
    let r =
    scripts_reach v (InScript s.thread) rs ns cs s.steps (count + length s.steps) notes s.thread more refl t.1 u.1
    room_later in
    record {
      state = r.state;
      version_is = r.version_is;
      reaches =
          reach_more (at_stage v stage rs ns ss steps count notes)
          (at_stage v (InScript s.thread) rs ns cs s.steps (count + length s.steps) notes) r.state (script_lines s)
          (flat_map script_lines more) one r.reaches;
      rounds_are = r.rounds_are ∙ ap (λ (x : List ScriptView). rs ++ round_of ns x ∷ []) (append_assoc cs (s ∷ []) more);
      count_is = omega (arith, l, r.count_is);
      notes_are = r.notes_are;
    }

note_goes : (v : Version) (rs : List RoundView) (ns : List (List ℕ)) (count notes : ℕ) (text : List ℕ)
    → is_note text ≡ true → notes < max_notes v
    → words_line_at (at_stage v InRound rs ns [] [] count notes) (note_words text)
    ≡ Ok (at_stage v InRound rs (ns ++ text ∷ []) [] [] count (notes + 1))
unfolding words_line_at note_line_at
note_goes One rs ns count notes text good room = absurd (omega arith)
note_goes Two rs ns count notes text good room =
    let some : is_text (words_at text) ≡ true = note_text text good in
    let full : leb 1024 notes ≡ false = lt-leb _ _ room in
    rw (some, full, text_again text) refl

notes_reach : (v : Version) (rs : List RoundView) (done : List (List ℕ)) (count notes : ℕ) (more : List (List ℕ))
    → list_all is_note more ≡ true → notes + length more ≤ max_notes v
    → Reaches (at_stage v InRound rs done [] [] count notes) (map note_words more)
    (at_stage v InRound rs (done ++ more) [] [] count (notes + length more))
notes_reach v rs done count notes [] h room =
    let x = append-nil done in
    let y : notes ≡ notes + length {A = List ℕ} [] = omega arith in
    λ i. at_stage v InRound rs (sym x i) [] [] count (y i)
notes_reach v rs done count notes (n ∷ more) h room =
    let b = and_parts (is_note n) (list_all is_note more) h in
    let less : notes < max_notes v = omega arith in
    let rest = notes_reach v rs (done ++ n ∷ []) count (notes + 1) more b.1 (omega arith) in
    let x = append_assoc done (n ∷ []) more in
    let y : (notes + 1) + length more ≡ notes + length (n ∷ more) = omega arith in (
      note_line n b.0,
      at_stage v InRound rs (done ++ n ∷ []) [] [] count (notes + 1),
      note_goes v rs done count notes n b.0 less,
      subst
          (λ (q : Progress). Reaches (at_stage v InRound rs (done ++ n ∷ []) [] [] count (notes + 1)) (map note_words more) q)
          (λ i. at_stage v InRound rs (x i) [] [] count (y i)) rest,
    )

round_goes : (p : Progress) → length (rounds_of p) < 1024
    → words_line_at p (codes "round" ∷ [])
    ≡ Ok (at_stage p.version InRound (rounds_of p) [] [] [] p.count p.note_count)
unfolding words_line_at round_at
round_goes p room = let a : ltb (length (rounds_of p)) 1024 ≡ true = lt-ltb _ _ room in rw a refl

round_reach : (p : Progress) (r : RoundView) → length (rounds_of p) < 1024 → is_round_of p.version r ≡ true
    → p.count + total r.scripts ≤ max_steps p.version → p.note_count + length r.notes ≤ max_notes p.version
    → Reads p (round_lines r) (rounds_of p ++ r ∷ []) (p.count + total r.scripts) (p.note_count + length r.notes)
round_reach p r room a fit few =
    let v = p.version in
    let rs = rounds_of p in
    let is = round_parts v r a in
    let noted = notes_reach v rs [] p.count p.note_count r.notes is.notes few in
    let begun = at_stage v InRound rs [] [] [] p.count p.note_count in
    let after = at_stage v InRound rs r.notes [] [] p.count (p.note_count + length r.notes) in
    let s =
    scripts_reach v InRound rs r.notes [] [] p.count (p.note_count + length r.notes) 0 r.scripts refl is.scripts
    is.threads fit in
    record {
      state = s.state;
      version_is = s.version_is;
      reaches = (
        round_line,
        begun,
        round_goes p room,
        reach_more begun after s.state (map note_words r.notes) (flat_map script_lines r.scripts) noted s.reaches,
      );
      rounds_are = s.rounds_are;
      count_is = s.count_is;
      notes_are = s.notes_are;
    }

regrouped : (rs mid all rounds : List RoundView) (r : RoundView) → mid ≡ rs ++ r ∷ [] → all ≡ mid ++ rounds
    → all ≡ rs ++ (r ∷ rounds)
regrouped rs mid all rounds r e f =
    f ∙ ap (λ (x : List RoundView). x ++ rounds) e ∙ append_assoc rs (r ∷ []) rounds

rounds_reach : (p : Progress) (rounds : List RoundView) → list_all (is_round_of p.version) rounds ≡ true
    → length (rounds_of p) + length rounds ≤ 1024 → p.count + step_count rounds ≤ max_steps p.version
    → p.note_count + note_count rounds ≤ max_notes p.version
    → Reads p (trace_lines rounds) (rounds_of p ++ rounds) (p.count + step_count rounds)
    (p.note_count + note_count rounds)
rounds_reach p [] a room fit few =
    record {
      state = p;
      version_is = refl;
      reaches = refl;
      rounds_are = sym (append-nil (rounds_of p));
      count_is = omega arith;
      notes_are = omega arith;
    }
rounds_reach p (r ∷ rounds) a room fit few =
    let v = p.version in
    let b = and_parts (is_round_of v r) (list_all (is_round_of v) rounds) a in
    let steps : List ScriptView → List StepView = λ x. flat_map (λ (s : ScriptView). s.steps) x in
    let l = length-append (steps r.scripts) (flat_map steps (map (λ (x : RoundView). x.scripts) rounds)) in
    let k = length-append r.notes (flat_map (λ (x : RoundView). x.notes) rounds) in
    let fit_here : p.count + total r.scripts ≤ max_steps v = omega (arith, l, fit) in
    let few_here : p.note_count + length r.notes ≤ max_notes v = omega (arith, k, few) in
    let one = round_reach p r (omega arith) b.0 fit_here few_here in
    let q = one.state in
    let m = length-append (rounds_of p) (r ∷ []) in
    let n : length (rounds_of q) ≡ length (rounds_of p ++ r ∷ []) = ap length one.rounds_are in
    let fit_later : q.count + step_count rounds ≤ max_steps v = omega (arith, l, fit, one.count_is) in
    let few_later : q.note_count + note_count rounds ≤ max_notes v = omega (arith, k, few, one.notes_are) in
    let same = sym one.version_is in
    let rest =
    rounds_reach q rounds (subst (λ x. list_all (is_round_of x) rounds ≡ true) same b.1)
    (omega (arith, m, n, room)) (subst (λ x. q.count + step_count rounds ≤ max_steps x) same fit_later)
    (subst (λ x. q.note_count + note_count rounds ≤ max_notes x) same few_later) in
    record {
      state = rest.state;
      version_is = rest.version_is ∙ one.version_is;
      reaches = reach_more p q rest.state (round_lines r) (trace_lines rounds) one.reaches rest.reaches;
      rounds_are = regrouped (rounds_of p) (rounds_of q) (rounds_of rest.state) rounds r one.rounds_are rest.rounds_are;
      count_is = omega (arith, l, one.count_is, rest.count_is);
      notes_are = omega (arith, k, one.notes_are, rest.notes_are);
    }

-- ---- the text

abbrev NoFeed : List ℕ → Type 0
NoFeed l = AllByRecursion (λ x. eqb x 10 ≡ false) l

feeds : (p q : Progress) (ws : List (List (List ℕ))) → Reaches p ws q
    → AllByRecursion NoFeed (map line_of ws ++ codes "end" ∷ [])
feeds p q [] h = (no_line_feed (codes "end") refl, tt)
feeds p q (w ∷ ws) h = (no_line_feed (line_of w) (line_plain w h.0), feeds h.1 q ws h.3)

split_text : (lines : List (List ℕ)) → AllByRecursion NoFeed lines
    → slice_split (λ b. eqb b 10) (text_of lines) ≡ lines ++ [] ∷ []
split_text [] h = refl
split_text (l ∷ lines) h =
    ap (slice_split (λ b. eqb b 10)) (append_assoc l (10 ∷ []) (text_of lines))
    ∙ slice_split_at (λ b. eqb b 10) l 10 (text_of lines) (All-from_recursion _ l h.0) refl
    ∙ ap (λ (x : List (List ℕ)). l ∷ x) (split_text lines h.1)

header_reads : (v : Version) (ws : List (List (List ℕ)))
    → read_pieces (header v ∷ map line_of ws ++ closing) ≡ read_lines 2 (start v) (map line_of ws ++ closing)
unfolding read_pieces header_at
header_reads One [] = refl
header_reads One (w ∷ ws) = refl
header_reads Two [] = refl
header_reads Two (w ∷ ws) = refl

header_plain : (v : Version) → list_all is_plain (header v) ≡ true
header_plain One = refl
header_plain Two = refl

pub trace_again : (trace : TraceView) → IsTrace trace → read_text (spelling trace) ≡ Ok trace
trace_again trace h =
    let v = trace.version in
    let ws = trace_lines trace.rounds in
    let lines = header v ∷ map line_of ws ++ codes "end" ∷ [] in
    let r =
    rounds_reach (start v) trace.rounds h.each (omega (arith, h.rounds_fit)) (omega (arith, h.steps_fit))
    (omega (arith, h.notes_fit)) in
    let split : slice_split (λ b. eqb b 10) (text_of lines) ≡ lines ++ [] ∷ [] =
    split_text lines (no_line_feed (header v) (header_plain v), feeds (start v) r.state ws r.reaches) in
    let same : trace_of r.state ≡ trace = λ i. record { version = r.version_is i; rounds = r.rounds_are i } in
    ap read_pieces
    (split
    ∙ ap (λ (x : List (List ℕ)). header v ∷ x) (append_assoc (map line_of ws) (codes "end" ∷ []) ([] ∷ [])))
    ∙ header_reads v ws ∙ reads 2 (start v) r.state ws r.reaches ∙ ap (λ (x : TraceView). Ok x) same
