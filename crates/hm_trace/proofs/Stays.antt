-- The reader's state stays valid.
use Rattle.std.proofs.Common.{◌≡◌, ℕ, ◌+◌, ◌≤◌, ◌<◌, Bool, true, false, not, ◌&&◌, ltb, leb, List, [], ◌∷◌, ◌++◌, length, Ok, refl, sym, ◌∙◌, ap, subst, arith, append_assoc, length-append}
use Rattle.std.specs.List.{list_all}
use Rattle.std.proofs.lemmas.Bool.{ltb-true, le-leb, lt-ltb, and_parts, and_from}
use Rattle.std.proofs.lemmas.List.{append-nil, map-append}
use Rattle.std.proofs.lemmas.List.Folds.{list_all-append}
use Rattle.std.proofs.lemmas.Grind.{flat_map-append}
use Rattle.hm_trace.specs.declared.progress.Open.{Open}
use Rattle.hm_trace.specs.declared.progress.Open.TheVariants.{InRound, InScript, Nothing}
use Rattle.hm_trace.specs.declared.version.Version.{Version}
use Rattle.hm_trace.specs.declared.version.Version.TheVariants.{One, Two}
use Rattle.hm_trace.specs.Limits.{max_notes, max_steps, max_threads}
use Rattle.hm_trace.specs.Lines.{former, words_at}
use Rattle.hm_trace.specs.ReadLines.{Progress, former_thread, in_script, line_at, may_note, round_of, rounds_after, rounds_of, scripts_after, start, trace_of}
use Rattle.hm_trace.specs.ReadState.{IsProgress}
use Rattle.hm_trace.specs.Traces.{IsTrace, are_scripts, are_up_to, avoids, is_note, is_round, is_round_of, is_script, note_count, is_step, sets_again, step_count}
use Rattle.hm_trace.specs.Views.{RoundView, ScriptView, StepView}
use Rattle.hm_trace.proofs.Choices.{ok_is}
use Rattle.hm_trace.proofs.Fits.{fits_step}
use Rattle.hm_trace.proofs.GoodLines.{after_round, by_line, line_good, script}
use Rattle.hm_trace.proofs.Scripts.{parts_round, round_parts}
use Rattle.hm_trace.proofs.Versions.{few_steps, few_threads}

list_all_push : {X : Type 0} (p : X → Bool) (xs : List X) (x : X) → list_all p xs ≡ true → p x ≡ true
    → list_all p (xs ++ x ∷ []) ≡ true
list_all_push p xs x h k = list_all-append p xs (x ∷ []) ∙ and_from _ _ h (and_from _ _ k refl)

abbrev pub last_of : ℕ → List ScriptView → ℕ
last_of last [] = last
last_of last (s ∷ ss) = last_of s.thread ss

pub last_push : (last : ℕ) (ss : List ScriptView) (s : ScriptView) → last_of last (ss ++ s ∷ []) ≡ s.thread
last_push last [] s = refl
last_push last (x ∷ ss) s = last_push x.thread ss s

-- what one more script needs
pub record Follows (before : List ScriptView) (last : ℕ) (s : ScriptView) : Type 0 where
  pub later : last < s.thread
  pub fits : is_script s ≡ true
  pub apart : avoids before s.steps ≡ true

follows_test : (before : List ScriptView) (last : ℕ) (s : ScriptView) (rest : Bool) → Follows before last s
    → rest ≡ true → (ltb last s.thread && is_script s && avoids before s.steps && rest) ≡ true
follows_test before last s rest f r = and_from _ _ (and_from _ _ (and_from _ _ (lt-ltb _ _ f.later) f.fits) f.apart) r

pub test_follows : (before : List ScriptView) (last : ℕ) (s : ScriptView) (rest : Bool)
    → (ltb last s.thread && is_script s && avoids before s.steps && rest) ≡ true → Follows before last s × (rest ≡ true)
test_follows before last s rest e =
    let a = and_parts _ rest e in
    let b = and_parts _ (avoids before s.steps) a.0 in
    let c = and_parts (ltb last s.thread) (is_script s) b.0 in
    (record { later = ltb-true _ _ c.0; fits = c.1; apart = b.1 }, a.1)

pub are_push : (before : List ScriptView) (last : ℕ) (ss : List ScriptView) (s : ScriptView)
    → are_scripts before last ss ≡ true → Follows (before ++ ss) (last_of last ss) s
    → are_scripts before last (ss ++ s ∷ []) ≡ true
are_push before last [] s h f =
    follows_test before last s true (subst (λ (b : List ScriptView). Follows b last s) (append-nil before) f) refl
are_push before last (x ∷ ss) s h f =
    let t = test_follows before last x (are_scripts (before ++ x ∷ []) x.thread ss) h in
    follows_test before last x (are_scripts (before ++ x ∷ []) x.thread (ss ++ s ∷ [])) t.0
    (are_push (before ++ x ∷ []) x.thread ss s t.1
    (subst (λ (b : List ScriptView). Follows b (last_of x.thread ss) s) (sym (append_assoc before (x ∷ []) ss)) f))

are_split : (before : List ScriptView) (last : ℕ) (ss : List ScriptView) (s : ScriptView)
    → are_scripts before last (ss ++ s ∷ []) ≡ true
    → (are_scripts before last ss ≡ true) × Follows (before ++ ss) (last_of last ss) s
are_split before last [] s h = (
  refl,
  subst (λ (b : List ScriptView). Follows b last s) (sym (append-nil before)) (test_follows before last s true h).0,
)
are_split before last (x ∷ ss) s h =
    let t = test_follows before last x (are_scripts (before ++ x ∷ []) x.thread (ss ++ s ∷ [])) h in
    let r = are_split (before ++ x ∷ []) x.thread ss s t.1 in (
      follows_test before last x (are_scripts (before ++ x ∷ []) x.thread ss) t.0 r.0,
      subst (λ (b : List ScriptView). Follows b (last_of x.thread ss) s) (append_assoc before (x ∷ []) ss) r.1,
    )

script_begins : (n : ℕ) → 0 < n → n ≤ 64 → is_script (script n []) ≡ true
script_begins n low high = and_from _ _ (and_from _ _ (le-leb _ _ (omega arith)) (le-leb _ _ high)) refl

script_grows : (t : ℕ) (steps : List StepView) (s : StepView) → is_script (script t steps) ≡ true → is_step s ≡ true
    → is_script (script t (steps ++ s ∷ [])) ≡ true
script_grows t steps s h k =
    let b = and_parts (leb 1 t && leb t 64) (list_all is_step steps) h in
    and_from _ _ b.0 (list_all_push is_step steps s b.1 k)

-- the open round is a round, so all are
all_rounds : (v : Version) (stage : Open) (rs : List RoundView) (ns : List (List ℕ)) (ss : List ScriptView)
    (steps : List StepView)
    → list_all (is_round_of v) rs ≡ true → is_round_of v (round_of ns (scripts_after stage ss steps)) ≡ true
    → list_all (is_round_of v) (rounds_after stage rs ns ss steps) ≡ true
all_rounds v Nothing rs ns ss steps h k = h
all_rounds v InRound rs ns ss steps h k = list_all_push (is_round_of v) rs (round_of ns ss) h k
all_rounds v (InScript t) rs ns ss steps h k =
    list_all_push (is_round_of v) rs (round_of ns (ss ++ script t steps ∷ [])) h k

count_round : (rs : List RoundView) → step_count (rs ++ round_of [] [] ∷ []) ≡ step_count rs
count_round rs = simp (map-append, flat_map-append, append-nil)

count_script : (rs : List RoundView) (ns : List (List ℕ)) (ss : List ScriptView) (t : ℕ)
    → step_count (rs ++ round_of ns (ss ++ script t [] ∷ []) ∷ []) ≡ step_count (rs ++ round_of ns ss ∷ [])
count_script rs ns ss t = simp (map-append, flat_map-append, append-nil)

count_step : (rs : List RoundView) (ns : List (List ℕ)) (ss : List ScriptView) (t : ℕ) (steps : List StepView)
    (s : StepView)
    → step_count (rs ++ round_of ns (ss ++ script t (steps ++ s ∷ []) ∷ []) ∷ [])
    ≡ step_count (rs ++ round_of ns (ss ++ script t steps ∷ []) ∷ []) + 1
count_step rs ns ss t steps s = simp (map-append, flat_map-append, append-nil, length-append) (omega arith)

-- notes are no steps
count_note : (rs : List RoundView) (ns ms : List (List ℕ)) (ss : List ScriptView)
    → step_count (rs ++ round_of ns ss ∷ []) ≡ step_count (rs ++ round_of ms ss ∷ [])
count_note rs ns ms ss = simp (map-append, flat_map-append, append-nil)

notes_round : (rs : List RoundView) → note_count (rs ++ round_of [] [] ∷ []) ≡ note_count rs
notes_round rs = simp (flat_map-append, append-nil)

notes_same : (rs : List RoundView) (ns : List (List ℕ)) (ss others : List ScriptView)
    → note_count (rs ++ round_of ns ss ∷ []) ≡ note_count (rs ++ round_of ns others ∷ [])
notes_same rs ns ss others = simp (flat_map-append, append-nil)

notes_more : (rs : List RoundView) (ns : List (List ℕ)) (text : List ℕ) (ss : List ScriptView)
    → note_count (rs ++ round_of (ns ++ text ∷ []) ss ∷ []) ≡ note_count (rs ++ round_of ns ss ∷ []) + 1
notes_more rs ns text ss = simp (flat_map-append, append-nil, length-append) (omega arith)

round_stays : (p : Progress) → length (rounds_of p) < 1024 → IsProgress p → IsProgress (after_round p)
round_stays p room h =
    let len = length-append (rounds_of p) (round_of [] [] ∷ []) in
    record {
      closed = all_rounds p.version p.stage p.rounds p.notes p.scripts p.steps h.closed h.open_round;
      open_round = refl;
      fresh = λ _. refl;
      rounds_fit = omega arith;
      counted = count_round (rounds_of p) ∙ h.counted;
      count_fits = h.count_fits;
      notes_counted = notes_round (rounds_of p) ∙ h.notes_counted;
      notes_fit = h.notes_fit;
    }

abbrev pub at_stage : Version → Open → List RoundView → List (List ℕ) → List ScriptView → List StepView → ℕ → ℕ
    → Progress
at_stage v stage rs ns ss steps count notes =
    record {
      version = v;
      rounds = rs;
      notes = ns;
      scripts = ss;
      steps = steps;
      stage = stage;
      count = count;
      note_count = notes;
    }

-- one more script in a round that is open
opened : (v : Version) (rs : List RoundView) (ns : List (List ℕ)) (ss : List ScriptView) (count notes n : ℕ)
    → list_all (is_round_of v) rs ≡ true → is_round_of v (round_of ns ss) ≡ true
    → last_of 0 ss < n → n ≤ max_threads v → length (rs ++ round_of ns ss ∷ []) ≤ 1024
    → step_count (rs ++ round_of ns ss ∷ []) ≡ count → count ≤ max_steps v
    → note_count (rs ++ round_of ns ss ∷ []) ≡ notes → notes ≤ max_notes v
    → IsProgress (at_stage v (InScript n) rs ns ss [] count notes)
opened v rs ns ss count notes n closed round later small fit counted fits noted few =
    let r = round_parts v (round_of ns ss) round in
    let l = length-append rs (round_of ns ss ∷ []) in
    let m = length-append rs (round_of ns (ss ++ script n [] ∷ []) ∷ []) in
    record {
      closed = closed;
      open_round =
          parts_round v (round_of ns (ss ++ script n [] ∷ []))
          (record {
            scripts =
                are_push [] 0 ss (script n []) r.scripts
                (record {
                  later = later;
                  fits = script_begins n (omega arith) (omega (arith, small, few_threads v));
                  apart = refl;
                });
            threads =
                list_all_push (λ (s : ScriptView). leb s.thread (max_threads v)) ss (script n []) r.threads
                (le-leb _ _ small);
            notes = r.notes;
          });
      fresh = λ e. absurd cc;
      rounds_fit = omega arith;
      counted = count_script rs ns ss n ∙ counted;
      count_fits = fits;
      notes_counted = notes_same rs ns (ss ++ script n [] ∷ []) ss ∙ noted;
      notes_fit = few;
    }

thread_stays_at : (v : Version) (stage : Open) (rs : List RoundView) (ns : List (List ℕ)) (ss : List ScriptView)
    (steps : List StepView) (count notes n former : ℕ)
    → former_thread stage ≡ Ok former → former < n → n ≤ max_threads v
    → IsProgress (at_stage v stage rs ns ss steps count notes)
    → IsProgress (at_stage v (InScript n) rs ns (scripts_after stage ss steps) [] count notes)
thread_stays_at v Nothing rs ns ss steps count notes n former e later small h = absurd cc
thread_stays_at v InRound rs ns ss steps count notes n former e later small h =
    let none : last_of 0 ss ≡ 0 = ap (λ (l : List ScriptView). last_of 0 l) (h.fresh refl) in
    let first : 0 ≡ former = ok_is 0 former e in
    opened v rs ns ss count notes n h.closed h.open_round (omega arith) small h.rounds_fit h.counted h.count_fits
    h.notes_counted h.notes_fit
thread_stays_at v (InScript t) rs ns ss steps count notes n former e later small h =
    let last = last_push 0 ss (script t steps) in
    let same : t ≡ former = ok_is t former e in
    opened v rs ns (ss ++ script t steps ∷ []) count notes n h.closed h.open_round (omega arith) small h.rounds_fit
    h.counted h.count_fits h.notes_counted h.notes_fit

note_stays_at : (v : Version) (stage : Open) (rs : List RoundView) (ns : List (List ℕ)) (ss : List ScriptView)
    (steps : List StepView) (count notes : ℕ) (text : List ℕ)
    → may_note v stage ≡ true → is_note text ≡ true → notes < max_notes v
    → IsProgress (at_stage v stage rs ns ss steps count notes)
    → IsProgress (at_stage v stage rs (ns ++ text ∷ []) ss steps count (notes + 1))
note_stays_at One stage rs ns ss steps count notes text e good room h = absurd cc
note_stays_at Two Nothing rs ns ss steps count notes text e good room h = absurd cc
note_stays_at Two (InScript t) rs ns ss steps count notes text e good room h = absurd cc
note_stays_at Two InRound rs ns ss steps count notes text e good room h =
    let r = round_parts Two (round_of ns ss) h.open_round in
    let l = length-append rs (round_of ns ss ∷ []) in
    let m = length-append rs (round_of (ns ++ text ∷ []) ss ∷ []) in
    record {
      closed = h.closed;
      open_round =
          parts_round Two (round_of (ns ++ text ∷ []) ss)
          (record { scripts = r.scripts; threads = r.threads; notes = list_all_push is_note ns text r.notes good });
      fresh = h.fresh;
      rounds_fit = omega (arith, h.rounds_fit);
      counted = count_note rs (ns ++ text ∷ []) ns ss ∙ h.counted;
      count_fits = h.count_fits;
      notes_counted = notes_more rs ns text ss ∙ ap (λ n. n + 1) h.notes_counted;
      notes_fit = omega arith;
    }

step_stays_at : (v : Version) (stage : Open) (rs : List RoundView) (ns : List (List ℕ)) (ss : List ScriptView)
    (steps : List StepView) (count notes : ℕ) (s : StepView)
    → in_script stage ≡ Ok tt → sets_again ss s ≡ false → is_step s ≡ true → count < max_steps v
    → IsProgress (at_stage v stage rs ns ss steps count notes)
    → IsProgress (at_stage v stage rs ns ss (steps ++ s ∷ []) (count + 1) notes)
step_stays_at v Nothing rs ns ss steps count notes s e apart fits room h = absurd cc
step_stays_at v InRound rs ns ss steps count notes s e apart fits room h = absurd cc
step_stays_at v (InScript t) rs ns ss steps count notes s e apart fits room h =
    let r = round_parts v (round_of ns (ss ++ script t steps ∷ [])) h.open_round in
    let split = are_split [] 0 ss (script t steps) r.scripts in
    let f = split.1 in
    let l = length-append rs (round_of ns (ss ++ script t steps ∷ []) ∷ []) in
    let m = length-append rs (round_of ns (ss ++ script t (steps ++ s ∷ []) ∷ []) ∷ []) in
    record {
      closed = h.closed;
      open_round =
          parts_round v (round_of ns (ss ++ script t (steps ++ s ∷ []) ∷ []))
          (record {
            scripts =
                are_push [] 0 ss (script t (steps ++ s ∷ [])) split.0
                (record {
                  later = f.later;
                  fits = script_grows t steps s f.fits fits;
                  apart = list_all_push (λ x. not (sets_again ss x)) steps s f.apart (ap not apart);
                });
            threads = up_step (max_threads v) ss t steps (steps ++ s ∷ []) r.threads;
            notes = r.notes;
          });
      fresh = λ i. absurd cc;
      rounds_fit = omega (arith, h.rounds_fit);
      counted = count_step rs ns ss t steps s ∙ ap (λ n. n + 1) h.counted;
      count_fits = omega arith;
      notes_counted =
          notes_same rs ns (ss ++ script t (steps ++ s ∷ []) ∷ []) (ss ++ script t steps ∷ []) ∙ h.notes_counted;
      notes_fit = h.notes_fit;
    }
  where
    -- the threads are the same
    up_step : (most : ℕ) (ss : List ScriptView) (t : ℕ) (steps more : List StepView)
        → are_up_to most (ss ++ script t steps ∷ []) ≡ true → are_up_to most (ss ++ script t more ∷ []) ≡ true
    up_step most ss t steps more h =
        let g : ScriptView → Bool = λ s. leb s.thread most in
        list_all-append g ss (script t more ∷ []) ∙ sym (list_all-append g ss (script t steps ∷ [])) ∙ h

pub line_stays : (p q : Progress) (line : List ℕ) → line_at p line ≡ Ok q → IsProgress p → IsProgress q
line_stays p q line e h =
    by_line (λ w r. IsProgress r) p q (words_at line) (line_good p q line e)
    (λ l. round_stays p l.room h)
    (λ l.
    thread_stays_at p.version p.stage p.rounds p.notes p.scripts p.steps p.count p.note_count l.thread l.former
    l.former_is l.later l.small h)
    (λ l.
    note_stays_at p.version p.stage p.rounds p.notes p.scripts p.steps p.count p.note_count l.text l.may l.good l.room
    h)
    (λ l.
    step_stays_at p.version p.stage p.rounds p.notes p.scripts p.steps p.count p.note_count l.step l.is_open l.apart
    (fits_step l.step l.fits) l.room h)

pub starts : (v : Version) → IsProgress (start v)
starts v =
    record {
      closed = refl;
      open_round = refl;
      fresh = λ _. refl;
      rounds_fit = omega arith;
      counted = refl;
      count_fits = omega arith;
      notes_counted = refl;
      notes_fit = omega arith;
    }

pub ends : (p : Progress) → IsProgress p → IsTrace (trace_of p)
ends p h =
    record {
      each = all_rounds p.version p.stage p.rounds p.notes p.scripts p.steps h.closed h.open_round;
      rounds_fit = h.rounds_fit;
      steps_fit = omega (arith, h.counted, h.count_fits);
      notes_fit = omega (arith, h.notes_counted, h.notes_fit);
    }

-- the open script is a script
pub open_script : (p : Progress) (t : ℕ) → p.stage ≡ InScript t → IsProgress p → is_script (script t p.steps) ≡ true
open_script p t e h =
    let r = round_parts p.version (round_of p.notes (scripts_after p.stage p.scripts p.steps)) h.open_round in
    let open_round : is_round (scripts_after (InScript t) p.scripts p.steps) ≡ true =
    subst (λ stage. is_round (scripts_after stage p.scripts p.steps) ≡ true) e r.scripts in
    (are_split [] 0 p.scripts (script t p.steps) open_round).1.fits

-- its steps are among those of all rounds
open_among : (rs : List RoundView) (ns : List (List ℕ)) (ss : List ScriptView) (t : ℕ) (steps : List StepView)
    → length steps ≤ step_count (rs ++ round_of ns (ss ++ script t steps ∷ []) ∷ [])
open_among rs ns ss t steps = simp (map-append, flat_map-append, append-nil, length-append) (omega arith)

pub open_few : (p : Progress) (t : ℕ) → p.stage ≡ InScript t → IsProgress p → length p.steps ≤ 400000
open_few p t e h =
    let counted : step_count (rounds_after (InScript t) p.rounds p.notes p.scripts p.steps) ≡ p.count =
    subst (λ stage. step_count (rounds_after stage p.rounds p.notes p.scripts p.steps) ≡ p.count) e h.counted in
    omega (arith, open_among p.rounds p.notes p.scripts t p.steps, counted, h.count_fits, few_steps p.version)
