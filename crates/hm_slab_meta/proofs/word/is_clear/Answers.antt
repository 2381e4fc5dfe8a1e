use Rattle.std.proofs.Common.{◌≡◌, ℕ, subst, sym, arith, rules}
use Rattle.std.specs.Prelude.{IsTrue, nat_eq}
use Rattle.std.specs.Int.{bit_at}
use Rattle.std.proofs.lemmas.Nat.Bits.{bit_at-zero}
use Rattle.hm_slab_meta.proofs.WordBits.{none_set}
use Rattle.hm_slab_meta.proofs.word.is_clear.Goals as goal

same : (n : ℕ) → IsTrue (nat_eq n 0) → n ≡ 0
same n h = search rules

back : (n : ℕ) → n ≡ 0 → IsTrue (nat_eq n 0)
back n e = search rules

pub returns : goal.returns
returns c = (
  λ h i below. subst (λ n. bit_at n i ≡ 0) (sym (same c.args.word h)) (bit_at-zero i),
  λ clear. back c.args.word (none_set c.args.word (omega arith) clear),
)
