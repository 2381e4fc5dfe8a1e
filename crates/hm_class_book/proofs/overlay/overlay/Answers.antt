use Rattle.std.proofs.Common.{◌≡◌, ◌+◌, ◌-◌, max, min, length, ℕ, take, drop, ◌∙◌, ap, arith}
use Rattle.hm_class_book.proofs.Overlays.{over_written, none_written, least_end}
use Rattle.hm_class_book.proofs.overlay.overlay.Goals as goal

pub returns-then-from-to : goal.returns-then-from-to
returns-then-from-to c =
    let from : ℕ = c.max-from.result in
    let to : ℕ = c.min-to.result in
    let addr : ℕ = c.args.addr in
    let above : from ≡ max addr c.args.at = c.max-from.ensures in
    let end : c.saturating_add.result ≡ min (c.args.at + length c.args.bytes.now) _ = c.saturating_add.ensures ∙ ap (λ (n : ℕ). min (c.args.at + n) _) c.len.ensures in
    let last : to ≡ min (addr + length c.args.written.now) (c.args.at + length c.args.bytes.now) =
    least_end to (addr + length c.args.written.now) (c.args.at + length c.args.bytes.now) c.saturating_add.result _ c.min-to.ensures end (omega arith) in
    c.write.ensures ∙ over_written addr c.args.at c.args.written.now c.args.bytes.now from to above last c.if-from-to.true _
    (ap (λ (n : ℕ). take n (drop (from - addr) c.args.written.now)) (part to from addr c.args.at above))
  where
    part : (to from addr at : ℕ) → from ≡ max addr at → to - addr - (from - addr) ≡ to - from
    part to from addr at e = omega (arith, e)

pub returns-else-from-to : goal.returns-else-from-to
returns-else-from-to c =
    let end : c.saturating_add.result ≡ min (c.args.at + length c.args.bytes.now) _ = c.saturating_add.ensures ∙ ap (λ (n : ℕ). min (c.args.at + n) _) c.len.ensures in
    none_written c.args.addr c.args.at c.args.written.now c.args.bytes.now c.max-from.result c.min-to.result c.max-from.ensures
    (least_end c.min-to.result (c.args.addr + length c.args.written.now) (c.args.at + length c.args.bytes.now) c.saturating_add.result _ c.min-to.ensures end (omega arith))
    c.if-from-to.false
