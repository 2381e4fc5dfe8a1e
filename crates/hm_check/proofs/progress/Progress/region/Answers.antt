use Rattle.std.proofs.Common.{◌≡◌, ℕ, [], ap, subst, sym, ◌∙◌, rules, arith}
use Rattle.std.proofs.lemmas.Bool.{eqb-false, eqb-true, not-false, not-true}
use Rattle.std.proofs.lemmas.Option.{same_Some}
use Rattle.hm_journal.specs.declared.lines.RegionLine.{RegionLine}
use Rattle.hm_journal.specs.Lines.{region_line}
use Rattle.hm_journal.specs.Ranges.{Fits64}
use Rattle.hm_journal.specs.Words.{line_text}
use Rattle.hm_check.specs.Progress.{region_of}
use Rattle.hm_check.specs.RegionBooks.{IsBook}
use Rattle.hm_check.proofs.Kept.{region_bad, region_passes, region_undrawn}
use Rattle.hm_check.proofs.progress.Progress.region.Goals as goal

pub returns-in_default : goal.returns-in_default
returns-in_default c = λ past k. region_bad c.args.self.now past c.args.line.now k _ c.requires.stage c.requires.more
    c.in_ok-said.ensures.only (λ r same is. c.in_default.not-Some r is)

pub returns-then-ne : goal.returns-then-ne
returns-then-ne c = λ past k. region_bad c.args.self.now past c.args.line.now k _ c.requires.stage c.requires.more
    c.in_ok-said.ensures.only (λ r same is.
    eqb-false c.in-Some.said.region.0 c.region_number-region.result.0 (not-true _ (sym c.if-ne.ensures))
    (ap (λ (x : RegionLine). x.region.0) (same_Some c.in-Some.said r (sym c.in-Some.is ∙ is)) ∙ same
    ∙ sym c.region_number-region.ensures))

pub returns-then-said-first : goal.returns-then-said-first
returns-then-said-first c = λ past k.
    let p = c.args.self.now in
    let r : RegionLine = c.in-Some.said in
    let found : c.args.line.now ≡ line_text (region_line r.region.0 r.first r.entries) =
    rw c.in-Some.is at c.in_ok-said.ensures.found in
    let small : Fits64 r.first = search rules in
    let few : Fits64 r.entries = search rules in
    let same : r.region.0 ≡ region_of p =
    eqb-true r.region.0 c.region_number-region.result.0 (not-false _ (sym c.if-ne.ensures))
    ∙ c.region_number-region.ensures in
    let book : IsBook p.config p.seed (region_of p) [] c.in_ok-book.book =
    subst (λ (n : ℕ). IsBook p.config p.seed n [] c.in_ok-book.book) c.region_number-region.ensures
    c.in_ok-book.ensures in
    let known = c.first.ensures p.config p.seed (region_of p) [] book in
    region_undrawn p past c.args.line.now k r.first r.entries c.requires.stage c.requires.more small few
    (found ∙ ap (λ (n : ℕ). line_text (region_line n r.first r.entries)) same)
    (λ drawn. omega (arith, drawn, known, c.if-said-first.true))

pub returns : goal.returns
returns c = λ past k.
    let p = c.args.self.now in
    let r : RegionLine = c.in-Some.said in
    let found : c.args.line.now ≡ line_text (region_line r.region.0 r.first r.entries) =
    rw c.in-Some.is at c.in_ok-said.ensures.found in
    let small : Fits64 r.first = search rules in
    let few : Fits64 r.entries = search rules in
    let same : r.region.0 ≡ region_of p =
    eqb-true r.region.0 c.region_number-region.result.0 (not-false _ (sym c.if-ne.ensures))
    ∙ c.region_number-region.ensures in
    let book : IsBook p.config p.seed (region_of p) [] c.in_ok-book.book =
    subst (λ (n : ℕ). IsBook p.config p.seed n [] c.in_ok-book.book) c.region_number-region.ensures
    c.in_ok-book.ensures in
    let known = c.first.ensures p.config p.seed (region_of p) [] book in
    region_passes p past c.args.line.now k r.first r.entries c.in_ok-book.book c.requires.stage c.requires.more small
    few
    (found ∙ ap (λ (n : ℕ). line_text (region_line n r.first r.entries)) same)
    (omega (arith, known, c.if-said-first.false)) book
