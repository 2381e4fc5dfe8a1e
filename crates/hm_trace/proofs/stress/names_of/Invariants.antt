use Rattle.std.proofs.Common.{◌≡◌, length, slice_get, EachIndex, Some}
use Rattle.std.specs.Option.{option_map}
use Rattle.hm_trace.specs.Stress.{name_at}
use Rattle.hm_trace.specs.Views.{name_view}
use Rattle.hm_trace.proofs.stress.names_of.Given as goal

abbrev pub invariant-loop-i : goal.invariant-loop-i
invariant-loop-i l = record {
  count : length l.names.items ≡ l.i;
  each : EachIndex l.names.items (λ k. option_map name_view (slice_get l.names.items k) ≡ Some (name_at l.thread k));
}
