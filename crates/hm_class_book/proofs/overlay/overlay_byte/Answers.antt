use Rattle.std.proofs.Common.{◌≡◌, ◌+◌, min, length, ℕ, ◌∙◌, ap, arith}
use Rattle.hm_class_book.proofs.Overlays.{byte_written, no_byte_written, least_end}
use Rattle.hm_class_book.proofs.overlay.overlay_byte.Goals as goal

pub returns-then-from-to : goal.returns-then-from-to
returns-then-from-to c =
    let end : c.saturating_add.result ≡ min (c.args.at + length c.args.bytes.now) _ = c.saturating_add.ensures ∙ ap (λ (n : ℕ). min (c.args.at + n) _) c.len.ensures in
    c.fill.ensures ∙ byte_written c.args.addr c.args.at c.args.len c.args.byte c.args.bytes.now c.max-from.result c.min-to.result c.max-from.ensures
    (least_end c.min-to.result (c.args.addr + c.args.len) (c.args.at + length c.args.bytes.now) c.saturating_add.result _ c.min-to.ensures end (omega arith))
    c.if-from-to.true

pub returns-else-from-to : goal.returns-else-from-to
returns-else-from-to c =
    let end : c.saturating_add.result ≡ min (c.args.at + length c.args.bytes.now) _ = c.saturating_add.ensures ∙ ap (λ (n : ℕ). min (c.args.at + n) _) c.len.ensures in
    no_byte_written c.args.addr c.args.at c.args.len c.args.byte c.args.bytes.now c.max-from.result c.min-to.result c.max-from.ensures
    (least_end c.min-to.result (c.args.addr + c.args.len) (c.args.at + length c.args.bytes.now) c.saturating_add.result _ c.min-to.ensures end (omega arith))
    c.if-from-to.false
