use Rattle.std.proofs.Common.{ℕ, List, ◌++◌, Option, unwrap_or, sym, ap, ◌∙◌, subst, arith}
use Rattle.std.proofs.lemmas.Bool.{false≢true}
use Rattle.hm_model.specs.Runs.{expand, total}
use Rattle.hm_model.proofs.RunsOf.{length_expand}
use Rattle.hm_outside.specs.PageRuns.{Reads}
use Rattle.hm_large.proofs.Reached.{reads_blocks, held_by_none}
use Rattle.hm_large.proofs.access.fetch.Goals as goal

-- an address of the range lies in no live block
pub returns-in-Some-clause-trap : goal.returns-in-Some-clause-trap
returns-in-Some-clause-trap g c = λ config n s sound guarded shows. ap (λ (o : Option ℕ). unwrap_or o c.args.addr) (c.in-Some.ensures.value config n s sound guarded shows)

pub returns-in-Some-clause-value : goal.returns-in-Some-clause-value
returns-in-Some-clause-value g c = λ config n s sound guarded shows tells holds. sym (c.in-Some.ensures.value config n s sound guarded shows)

-- the pages lend the live range
pub returns-then-branch-clause-replies : goal.returns-then-branch-clause-replies
returns-then-branch-clause-replies g c =
    omega (arith, length_expand c.append_range.new.runs, c.in_ok-append_range-in-None.ensures.count c.if-branch.true, ap total c.new-runs.ensures)

pub returns-then-branch-clause-trap : goal.returns-then-branch-clause-trap
returns-then-branch-clause-trap g c = λ config n s sound guarded shows. sym (c.in-None.ensures.value config n s sound guarded shows)

pub returns-then-branch-clause-value : goal.returns-then-branch-clause-value
returns-then-branch-clause-value g c =
    λ config n s sound guarded shows tells holds. let runs = g.P.Pages.runs c.args.pages.now in
    let held = c.in_ok-append_range-in-None.ensures.held tells c.requires.0 c.if-branch.true in
    let got = c.in_ok-append_range-in-None.ensures.value tells held in
    let bytes = got.3 ∙ ap (λ (l : List (ℕ × ℕ)). expand l ++ got.1) c.new-runs.ensures in
    reads_blocks config s runs c.args.addr c.args.len _ sound holds
    (subst (λ (w : List ℕ). Reads runs c.args.addr c.args.len w) (sym bytes) got.2)

-- they do not, so they do not tell
pub returns-else-branch-clause-trap : goal.returns-else-branch-clause-trap
returns-else-branch-clause-trap g c = λ config n s sound guarded shows. ap (λ (o : Option ℕ). unwrap_or o c.args.addr) (c.in-None.ensures.value config n s sound guarded shows)

pub returns-else-branch-clause-value : goal.returns-else-branch-clause-value
returns-else-branch-clause-value g c =
    λ config n s sound guarded shows tells holds. let runs = g.P.Pages.runs c.args.pages.now in
    absurd (false≢true (c.in-None.ensures.held config n s sound shows (held_by_none config s runs c.args.addr c.args.len sound holds c.requires.0
    (λ held. false≢true (sym c.if-branch.false ∙ (c.in_ok-append_range-in-None.ensures.value tells held).0)))))
