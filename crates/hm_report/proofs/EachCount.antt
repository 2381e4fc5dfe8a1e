-- The counts of each kind.
use Rattle.std.proofs.Common.{◌≡◌, ℕ, ◌+◌, ◌<◌, cond, List, length, count_by, take, get_or, refl, ap, sym, ◌∙◌, length-take-le, arith}
use Rattle.std.proofs.lemmas.List.Sums.{sum_by_more, count_by-le-length}
use Rattle.hm_report.specs.Summary.{is_of, kind_of, count_in, count}
use Rattle.hm_report.specs.declared.results.Results.{Results}
use Rattle.hm_report.specs.declared.results.StepResult.{StepResult}
use Rattle.hm_report.specs.Counts.{count_of, one_if, with_one_more}
use Rattle.hm_report.specs.declared.counts.Kind.{Kind}
use Rattle.hm_report.specs.declared.counts.Kind.TheVariants.{Given, Written, Size, Bytes, Freed, Skipped, Other}
use Rattle.hm_report.specs.declared.counts.Counts.{Counts}

-- one more of a kind is one more where it is asked for, and changes no other count
pub count_of-with_one_more : (counts : Counts) (kind k : Kind) → count_of (with_one_more counts kind) k ≡ count_of counts k + one_if kind k
count_of-with_one_more counts kind Given = refl
count_of-with_one_more counts kind Written = refl
count_of-with_one_more counts kind Size = refl
count_of-with_one_more counts kind Bytes = refl
count_of-with_one_more counts kind Freed = refl
count_of-with_one_more counts kind Skipped = refl
count_of-with_one_more counts kind Other = refl

-- a script's results so far, and one more
pub counted_more : (kind : Kind) (steps : List StepResult) (i : ℕ) (step : StepResult) → i < length steps → step ≡ get_or steps i step → count_by (λ s. is_of kind s) (take (i + 1) steps) ≡ count_by (λ s. is_of kind s) (take i steps) + one_if (kind_of step) kind
counted_more kind steps i step h is =
    sum_by_more (λ s. cond (is_of kind s) 1 0) steps i step h
    ∙ ap (λ (s : StepResult). count_by (λ s. is_of kind s) (take i steps) + cond (is_of kind s) 1 0) (sym is)

pub room_left : (kind : Kind) (steps : List StepResult) (i : ℕ) → i < length steps → count_by (λ s. is_of kind s) (take i steps) < length steps
room_left kind steps i h = omega (arith, count_by-le-length (λ s. is_of kind s) (take i steps), length-take-le i steps (omega arith))

-- the results of the scripts so far, and those of one more
pub count_more : (kind : Kind) (results : List Results) (i : ℕ) (script : Results) → i < length results → script ≡ get_or results i script → count kind (take (i + 1) results) ≡ count kind (take i results) + count_in kind script
count_more kind results i script h is =
    sum_by_more (λ s. count_in kind s) results i script h
    ∙ ap (λ (s : Results). count kind (take i results) + count_in kind s) (sym is)
