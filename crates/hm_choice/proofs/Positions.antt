-- The positions of a stream.
use Rattle.std.proofs.Common.{◌≡◌, ℕ, ◌+◌, ◌-◌, ◌%◌, ◌^◌, ◌<◌, ap, arith}
use Rattle.hm_choice.specs.Stream.{ComesAgain}

position_again : (p : ℕ) → p < 2 ^ 68 → ((p + 1) % 2 ^ 68 + (2 ^ 68 - 1)) % 2 ^ 68 ≡ p
position_again p lt = omega arith

pub comes_again : ComesAgain
comes_again s lt = ap (λ (p : ℕ). record s { place = p }) (position_again s.place lt)
