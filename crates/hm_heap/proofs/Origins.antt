-- The numbers of an origin spell it alone.
use Rattle.std.proofs.Common.{◌≡◌, ◌==◌, Bool, true, false, refl}
use Rattle.hm_sizes.specs.Origins.{Origin}
use Rattle.hm_heap.specs.Origins.{bit, numbers_of, origin_in}

same_bit : (b : Bool) → (bit b == 1) ≡ b
same_bit true = refl
same_bit false = refl

pub origin_back : (o : Origin) → origin_in (numbers_of o) ≡ o
origin_back o = λ i. record {
  config = record {
    arenas = o.config.arenas;
    class_region = o.config.class_region;
    large_space = o.config.large_space;
    guard_interval = o.config.guard_interval;
    array_base = o.config.array_base;
    ring_base = o.config.ring_base;
    park_length = o.config.park_length;
    check_reuse = same_bit o.config.check_reuse i;
    random_slots = same_bit o.config.random_slots i;
  };
  seed = o.seed;
  region = o.region;
  told = same_bit o.told i;
}
