use Rattle.std.proofs.Common.{ℕ, List, inl, sym, ◌∙◌, subst}
use Rattle.hm_run.specs.Endings.{status_after}
use Rattle.hm_run.specs.Streams.{IsWritten, sink_of}
use Rattle.hm_run.proofs.run.run_text.Goals as goal

pub returns-clause-ends : goal.returns-clause-ends
returns-clause-ends g c =
    let ran = c.in_ok-ran.ran in
    let results = ran.results.items in
    let read = c.in-Ok.ensures.found in
    inl (record {
      trace = c.in-Ok.trace;
      is_trace = read.0;
      text = sym c.deref.ensures.value ∙ read.1;
      runs = record {
        left = ran.closed;
        closed_is = c.write_results.ensures.closed;
        results = results;
        results_are = c.write_results.ensures.results;
        replayed = c.in_ok-ran.ensures.replayed;
        written =
            subst (λ (text : List ℕ). IsWritten c.write_results.result.status (status_after results) (sink_of g.K.Sink c.args.sink.now c.write_results.new.sink) text)
            (c.deref-3.ensures.value ∙ c.in_ok-text.ensures.text) c.write_results.ensures.written;
      };
      fits = c.in_ok-text.ensures.fits;
    })
