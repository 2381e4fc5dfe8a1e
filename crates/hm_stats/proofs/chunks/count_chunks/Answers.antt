use Rattle.std.proofs.Common.{◌≡◌, ◌+◌, ◌*◌, ◌/◌, ◌%◌, ◌<◌, ◌≤◌, min, vec_len, length, ap, arith}
use Rattle.std.proofs.lemmas.Nat.{mul-le}
use Rattle.std.proofs.lemmas.Grind.{div_ceil_times}
use Rattle.std.specs.Fork.{slice_chunk}
use Rattle.hm_stats.specs.Tables.{entry_count}
use Rattle.hm_stats.proofs.TableLaws.{chunk_counted, few_chunks, few_in_part}
use Rattle.hm_stats.proofs.chunks.count_chunks.Goals as goal

pub map_chunks-requires-clause-accepts : goal.map_chunks-requires-clause-accepts
map_chunks-requires-clause-accepts g c = λ _ _ start p chunk.
    omega (arith, ap entry_count chunk.value, few_in_part c.max-size.result start c.args.histories.now, c.requires.few)

pub returns-clause-workers : goal.returns-clause-workers
returns-clause-workers g c =
    let count = length c.args.histories.now in let workers = c.args.workers in let size = c.max-size.result in
    let chunks = count / workers + min 1 (count % workers) in
    let fits : count ≤ workers * size =
    omega (
      arith,
      (div_ceil_times count workers c.requires.workers).0,
      mul-le chunks workers size workers (omega (arith, c.max-size.ensures, c.div_ceil.ensures)) (omega arith),
    ) in
    omega (arith, few_chunks count workers size (omega (arith, c.max-size.ensures)) fits, c.in_ok-found.ensures.len)
