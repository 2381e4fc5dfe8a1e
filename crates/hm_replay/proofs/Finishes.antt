-- One more pass is joined.
use Rattle.std.proofs.Common.{◌≡◌, ℕ, ◌+◌, ◌-◌, ◌<◌, List, [], ◌∷◌, ◌++◌, Option, length, length-append, slice_index_or, map, arith, ap, ◌∙◌, sym, subst, suc, append_assoc}
use Rattle.hm_report.specs.declared.results.Results.{Results}
use Rattle.hm_turn.specs.Known.{Lock}
use Rattle.hm_heap.specs.Passes.{PassView, AreOf, AllKnow, all_met, with_pass_joined}
use Rattle.hm_heap.proofs.Splitting.{of_met}
use Rattle.hm_replay.specs.declared.round.Worker.{Worker}
use Rattle.hm_replay.specs.Workers.{after_joins}

-- how far the passes were joined: these workers, of which the rest is still to join
pub record FinishingFrom (locks : List Lock) (p q : PassView) (workers rest : List Worker)
    (results : List (Option Results)) : Type 0 where
  pub turns_are : after_joins q.turns rest ≡ after_joins p.turns workers
  pub out_is : q.out - length rest ≡ p.out - length workers
  pub same : q ≡ record p { out = q.out; turns = q.turns }
  pub of : AreOf locks q.turns
  pub rest_of : (i : ℕ) (w : Worker) → i < length rest → AreOf locks (slice_index_or rest i w).pass.turns
  pub results_are : results ++ map (λ (w : Worker). w.results) rest ≡ map (λ (w : Worker). w.results) workers
  pub knows : length rest < length workers → AllKnow q.turns
  pub count : length results + length rest ≡ length workers

pub finishing_more : (locks : List Lock) (p q q' : PassView) (workers rest : List Worker) (w : Worker)
    (results : List (Option Results)) → FinishingFrom locks p q workers (w ∷ rest) results
    → q' ≡ with_pass_joined q w.pass → AllKnow q'.turns
    → FinishingFrom locks p q' workers rest (results ++ w.results ∷ [])
finishing_more locks p q q' workers rest w results i e known =
    let t : q'.turns ≡ all_met q.turns w.pass.turns = ap (λ (z : PassView). z.turns) e in
    let o : q'.out ≡ q.out - 1 = ap (λ (z : PassView). z.out) e in
    record {
      turns_are = ap (λ z. after_joins z rest) t ∙ i.turns_are;
      out_is = omega (arith, i.out_is);
      same = grind (arith, i.same, e);
      of = subst (AreOf locks) (sym t) (of_met locks q.turns w.pass.turns i.of (i.rest_of 0 w (omega arith)));
      rest_of = λ j d b. i.rest_of (suc j) d (omega arith);
      results_are = append_assoc results (w.results ∷ []) (map (λ (w : Worker). w.results) rest) ∙ i.results_are;
      knows = λ l. known;
      count = omega (arith, i.count, length-append results (w.results ∷ []));
    }
