-- What the summary counts as it goes over the results once.
use Rattle.std.specs.Prelude.{ℕ, ◌+◌, if◌then◌else◌}
use Rattle.hm_report.specs.Summary.{is_same}
use Rattle.hm_report.specs.declared.counts.Kind.{Kind}
use Rattle.hm_report.specs.declared.counts.Kind.TheVariants.{Given, Written, Size, Bytes, Freed, Skipped, Other}
use Rattle.hm_report.specs.declared.counts.Counts.{Counts}

-- the count of this kind
abbrev pub count_of : Counts → Kind → ℕ
count_of counts Given = counts.given
count_of counts Written = counts.written
count_of counts Size = counts.size
count_of counts Bytes = counts.bytes
count_of counts Freed = counts.freed
count_of counts Skipped = counts.skipped
count_of counts Other = counts.other

-- 1 where it is the kind that is wanted
abbrev pub one_if : Kind → Kind → ℕ
one_if kind wanted = if is_same kind wanted then 1 else 0

-- the counts after one more of this kind
abbrev pub with_one_more : Counts → Kind → Counts
with_one_more counts kind =
    record {
      given = counts.given + one_if kind Given;
      written = counts.written + one_if kind Written;
      size = counts.size + one_if kind Size;
      bytes = counts.bytes + one_if kind Bytes;
      freed = counts.freed + one_if kind Freed;
      skipped = counts.skipped + one_if kind Skipped;
      other = counts.other + one_if kind Other;
    }
