use Rattle.std.proofs.Common.{◌≡◌, ◌+◌, ◌++◌, drop, vec_len}
use Rattle.hm_model.specs.Runs.{expand, total}
use Rattle.hm_model.proofs.runs.Runs.to_vec.Given as goal

abbrev pub invariant-loop-byte : goal.invariant-loop-byte
invariant-loop-byte l = record {
  bytes : l.bytes.items ++ expand (drop l.byte-index l.byte-items) ≡ expand l.byte-items;
  counted : vec_len l.bytes + total (drop l.byte-index l.byte-items) ≡ total l.byte-items;
}
