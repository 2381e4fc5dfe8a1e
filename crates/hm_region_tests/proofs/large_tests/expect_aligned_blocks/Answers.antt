use Rattle.std.proofs.Common.{refl, arith}
use Rattle.hm_region_tests.proofs.large_tests.expect_aligned_blocks.Goals as goal

pub allot-requires-after_bounds : goal.allot-requires-after_bounds
allot-requires-after_bounds g c κs lives = (omega arith, (12, omega arith, refl))

pub allot-requires-2-after_bounds : goal.allot-requires-2-after_bounds
allot-requires-2-after_bounds g c κs lives = (omega arith, (21, omega arith, refl))
