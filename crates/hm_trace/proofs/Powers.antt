-- Powers of 16.
use Rattle.std.proofs.Common.{◌≡◌, ℕ, zero, suc, ◌+◌, ◌-◌, ◌*◌, ◌^◌, ◌<◌, ◌≤◌, arith}
use Rattle.hm_trace.specs.Numbers.{value}

pub grows : (i k : ℕ) → 16 ^ i ≤ 16 ^ (i + k)
grows i zero = let e : i + zero ≡ i = omega arith in rw e (omega arith)
grows i (suc k) = let e : i + suc k ≡ suc (i + k) = omega arith in rw e (let r = grows i k in omega (arith, r))

pub below : (value i : ℕ) → value < 16 ^ i → i < 16 → 16 * value + 15 < 2 ^ 64
below value i lt less =
    let e : i + (15 - i) ≡ 15 = omega arith in
    let g = grows i (15 - i) in
    let h : 16 ^ i ≤ 16 ^ 15 = rw e at g in
    omega (arith, h)
