use Rattle.std.proofs.Common.{◌≡◌, ℕ, length, Option, Some, None, unwrap_or, sym, ap, subst}
use Rattle.std.proofs.lemmas.Bool.{false≢true}
use Rattle.hm_model.specs.Runs.{expand}
use Rattle.hm_outside.specs.PageRuns.{IsHeld}
use Rattle.hm_large_rules.specs.Bytes.{first_trap, HeldByNone}
use Rattle.hm_large.proofs.Reached.{held_by_none}
use Rattle.hm_large.proofs.access.fill.Goals as goal

-- an address of the range lies in no live block
pub returns-in-Some-clause-value : goal.returns-in-Some-clause-value
returns-in-Some-clause-value g c = λ config n s sound guarded shows tells holds. subst (λ (k : ℕ). Some c.in-Some.trap ≡ first_trap s.live c.args.addr k) c.len-len.ensures.bytes (c.in-Some.ensures.value config n s sound guarded shows)

pub returns-in-Some-clause-trap : goal.returns-in-Some-clause-trap
returns-in-Some-clause-trap g c =
    λ config n s sound guarded shows. ap (λ (o : Option ℕ). unwrap_or o c.args.addr) (subst (λ (k : ℕ). Some c.in-Some.trap ≡ first_trap s.live c.args.addr k) c.len-len.ensures.bytes (c.in-Some.ensures.value config n s sound guarded shows))

-- the pages do not lend the live range, so they do not tell
pub returns-then-not-holds-clause-trap : goal.returns-then-not-holds-clause-trap
returns-then-not-holds-clause-trap g c =
    λ config n s sound guarded shows. ap (λ (o : Option ℕ). unwrap_or o c.args.addr) (subst (λ (k : ℕ). None ≡ first_trap s.live c.args.addr k) c.len-len.ensures.bytes (c.in_default.ensures.value config n s sound guarded shows))

pub returns-then-not-holds-clause-value : goal.returns-then-not-holds-clause-value
returns-then-not-holds-clause-value g c =
    λ config n s sound guarded shows tells holds. let runs = g.P.Pages.runs c.args.pages.now in
    let len = length (expand c.args.runs.now) in
    let bytes = c.len-len.ensures.bytes in
    absurd (false≢true (c.in_default.ensures.held config n s sound shows (subst (λ (k : ℕ). HeldByNone s.live c.args.addr k) (sym bytes)
    (held_by_none config s runs c.args.addr len sound holds c.requires.0 (λ held. false≢true ((c.if-not-holds.ensures.told tells).1 (subst (λ (k : ℕ). IsHeld runs c.args.addr k) (sym bytes) held)))))))

-- they lend it
pub returns-clause-trap : goal.returns-clause-trap
returns-clause-trap g c = λ config n s sound guarded shows. sym (subst (λ (k : ℕ). None ≡ first_trap s.live c.args.addr k) c.len-len.ensures.bytes (c.in_default.ensures.value config n s sound guarded shows))

pub returns-clause-value : goal.returns-clause-value
returns-clause-value g c = λ config n s sound guarded shows tells holds. subst (λ (k : ℕ). None ≡ first_trap s.live c.args.addr k) c.len-len.ensures.bytes (c.in_default.ensures.value config n s sound guarded shows)
