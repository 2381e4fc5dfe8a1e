use Rattle.std.proofs.Common.{◌≡◌, ℕ, ◌≤◌, ◌++◌, List, get_or, take, drop, length, replicate, ap, ◌∙◌, arith, append_assoc, length-drop}
use Rattle.std.proofs.lemmas.List.{take_rest}
use Rattle.hm_model.specs.Runs.{expand}
use Rattle.hm_model.proofs.RunsOf.{in_front}
use Rattle.hm_model.proofs.Appending.{more_taken, counted}
use Rattle.hm_model.proofs.runs.Runs.append.Goals as goal

pub append_run-requires-clause-below : goal.append_run-requires-clause-below
append_run-requires-clause-below c =
    let l = c.loop-start in let bytes = c.args.bytes.now in
    let within : c.leading-len.result ≤ length (drop l.start bytes) = omega (arith, c.leading-len.ensures.within, ap (λ (x : List ℕ). length x) (take_rest bytes l.start)) in
    omega (arith, c.requires, within, length-drop l.start bytes, l.invariant.within, counted c.args.self.now l.self-inside.pairs.items bytes l.start l.invariant.within l.invariant.bytes)

pub loop-start-preserved : goal.loop-start-preserved
loop-start-preserved c =
    let l = c.loop-start in let bytes = c.args.bytes.now in let len = c.leading-len.result in
    let byte = get_or bytes l.start 0 in
    let old = expand c.args.self.now in
    let within : len ≤ length (drop l.start bytes) = omega (arith, c.leading-len.ensures.within, ap (λ (x : List ℕ). length x) (take_rest bytes l.start)) in
    let count : len ≡ in_front byte (drop l.start bytes) = c.leading-len.ensures.count ∙ ap (λ (x : List ℕ). in_front byte x) (take_rest bytes l.start) in
    record {
      within = omega (arith, within, length-drop l.start bytes, l.invariant.within);
      bytes = c.in_ok-append_run.ensures.appended ∙ ap (λ (x : List ℕ). x ++ replicate len byte) l.invariant.bytes
          ∙ append_assoc old (take l.start bytes) (replicate len byte) ∙ ap (λ (x : List ℕ). old ++ x) (more_taken bytes l.start byte len count);
      runs = c.append_run.ensures.runs;
    }

pub returns-clause-count : goal.returns-clause-count
returns-clause-count c =
    let l = c.loop-start in
    omega (arith, counted c.args.self.now l.self-inside.pairs.items c.args.bytes.now l.start l.invariant.within l.invariant.bytes, l.invariant.within, c.loop-start-test.false)
