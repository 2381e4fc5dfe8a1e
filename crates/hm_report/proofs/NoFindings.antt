-- Where each result is of a kind that has a word, no answer is a finding.
use Rattle.std.proofs.Common.{◌≡◌, ℕ, Bool, true, false, cond, ◌||◌, List, [], ◌∷◌, Option, Some, None, count_by, refl, ap, ◌∙◌, arith, true≢false}
use Rattle.std.proofs.lemmas.List.Sums.{sum_by-cons}
use Rattle.hm_model.specs.declared.entry.Reply.{Reply}
use Rattle.hm_model.specs.declared.entry.Reply.TheVariants as reply
use Rattle.hm_model.specs.declared.answer.Answer.{Answer}
use Rattle.hm_model.specs.declared.answer.Answer.TheVariants as answer
use Rattle.hm_report.specs.declared.counts.Kind.TheVariants.{Other}
use Rattle.hm_report.specs.declared.results.StepResult.{StepResult}
use Rattle.hm_report.specs.declared.results.Results.{Results}
use Rattle.hm_report.specs.Findings.{is_finding_reply, is_answered_finding, is_finding, has_finding}
use Rattle.hm_report.specs.Summary.{reply_kind, answered_kind, is_same, is_of, count_in, count}
use Rattle.std.specs.List.{list_any}

reply_none : (r : Reply) → is_same (reply_kind r) Other ≡ false → is_finding_reply r ≡ false
reply_none (reply.Given addr usable) h = refl
reply_none (reply.Overwritten addr at found) h = absurd (true≢false h)
reply_none reply.Exhausted h = refl
reply_none reply.NoSpace h = refl
reply_none reply.PagesFailed h = refl
reply_none reply.Freed h = refl
reply_none reply.NoSlot h = absurd (true≢false h)
reply_none reply.Unused h = absurd (true≢false h)
reply_none reply.DoubleFree h = absurd (true≢false h)
reply_none (reply.WrongSize block stated) h = absurd (true≢false h)
reply_none (reply.Canary kept found) h = absurd (true≢false h)
reply_none (reply.Usable size) h = refl
reply_none (reply.Bytes runs) h = refl
reply_none reply.Filled h = refl
reply_none (reply.Trap addr) h = absurd (true≢false h)
reply_none reply.NotLive h = absurd (true≢false h)

answer_none : (a : Option Answer) → is_same (answered_kind a) Other ≡ false → is_answered_finding a ≡ false
answer_none None h = refl
answer_none (Some (answer.Reply r)) h = reply_none r h
answer_none (Some answer.Outside) h = absurd (true≢false h)
answer_none (Some (answer.HalfMoved addr usable cause)) h = absurd (true≢false h)
answer_none (Some _) h = refl

one_zero : (b : Bool) → ◌≡◌ {A = ℕ} (cond b 1 0) 0 → b ≡ false
one_zero true h = absurd (omega (arith, h))
one_zero false h = refl

steps_none : (steps : List StepResult) → count_by (λ s. is_of Other s) steps ≡ 0 → list_any is_finding steps ≡ false
steps_none [] h = refl
steps_none (s ∷ ss) h =
    let all = sum_by-cons (λ s. cond (is_of Other s) 1 0) s ss in
    ap (λ b. b || list_any is_finding ss) (answer_none s.answer (one_zero (is_of Other s) (omega (arith, h, all))))
    ∙ steps_none ss (omega (arith, h, all))

pub scripts_none : (results : List Results) → count Other results ≡ 0 → has_finding results ≡ false
scripts_none [] h = refl
scripts_none (r ∷ rs) h =
    let all = sum_by-cons (count_in Other) r rs in
    ap (λ b. b || has_finding rs) (steps_none r.items (omega (arith, h, all))) ∙ scripts_none rs (omega (arith, h, all))
