use Rattle.std.proofs.Common.{◌≡◌, ℕ, Some, length, replicate, get_or, sym, ap, ◌∙◌}
use Rattle.hm_outside.specs.Piece.{bytes_in}
use Rattle.hm_outside.specs.declared.piece.Piece.{Piece}
use Rattle.hm_class_rules.specs.Bytes.{first_nonzero}
use Rattle.hm_class.proofs.SlotBytes.{first_of_none, first_of_some, first_of_zeros, some_nonzero}
use Rattle.hm_class.proofs.slot_bytes.first_in.Goals as goal

pub returns-in_err-at-in-Bytes-clause-value : goal.returns-in_err-at-in-Bytes-clause-value
returns-in_err-at-in-Bytes-clause-value c =
    c.from_residual.ensures ∙ sym (ap (λ (x : Piece). first_nonzero (bytes_in x)) c.in-Bytes.is ∙ first_of_none c.in-Bytes.bytes.now (sym c.first_nonzero.ensures ∙ c.in_err-at-in-Bytes.was))

pub returns-in-Same-eq0-default-clause-value : goal.returns-in-Same-eq0-default-clause-value
returns-in-Same-eq0-default-clause-value c =
    sym (ap (λ (x : Piece). first_nonzero (bytes_in x)) c.in-Same-eq0-default.is ∙ ap (λ (b : ℕ). first_nonzero (replicate c.in-Same-eq0-default.field-1 b)) (sym c.in-Same-eq0-default.field-0-is ∙ c.in-Same-eq0-default.field-0-test)
    ∙ first_of_zeros c.in-Same-eq0-default.field-1)

pub returns-in_ok-at-in-Bytes-clause-value : goal.returns-in_ok-at-in-Bytes-clause-value
returns-in_ok-at-in-Bytes-clause-value c =
    let found : first_nonzero c.in-Bytes.bytes.now ≡ Some (c.in_ok-at-in-Bytes.at, get_or c.in-Bytes.bytes.now c.in_ok-at-in-Bytes.at 0) = first_of_some c.in-Bytes.bytes.now c.in_ok-at-in-Bytes.at (sym c.first_nonzero.ensures ∙ c.in_ok-at-in-Bytes.was) in
    sym (ap (λ (x : Piece). first_nonzero (bytes_in x)) c.in-Bytes.is ∙ found)

pub returns-in_ok-at-in-Bytes-clause-found : goal.returns-in_ok-at-in-Bytes-clause-found
returns-in_ok-at-in-Bytes-clause-found c =
    some_nonzero c.in-Bytes.bytes.now c.in_ok-at-in-Bytes.at _ (sym c.first_nonzero.ensures ∙ c.in_ok-at-in-Bytes.was) (sym (ap (λ (x : Piece). length (bytes_in x)) c.in-Bytes.is))
