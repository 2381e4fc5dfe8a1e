use Rattle.std.proofs.Common.{◌≡◌, ◌*◌, ◌-◌, ◌^◌, ◌≤◌, take}
use Rattle.hm_report.specs.declared.counts.Kind.{Kind}
use Rattle.hm_report.specs.Summary.{count}
use Rattle.hm_report.specs.Counts.{count_of}
use Rattle.hm_report.proofs.counts.Counts.of.Given as goal

abbrev pub invariant-loop-script : goal.invariant-loop-script
invariant-loop-script l = record {
  counted : (kind : Kind) → count_of l.counts kind ≡ count kind (take l.script-index l.results);
  few : (kind : Kind) → count_of l.counts kind ≤ l.script-index * (2 ^ 64 - 1);
}
