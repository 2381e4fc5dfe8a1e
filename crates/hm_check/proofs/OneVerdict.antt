-- A text has one verdict at most.
use Rattle.std.proofs.Common.{◌≡◌, ⊎_elim, ℕ, ◌+◌, List, [], ◌∷◌, ◌++◌, sym, ◌∙◌, ap, subst, refl, rules}
use Rattle.hm_sizes.specs.Configs.{IsValid}
use Rattle.hm_check.specs.declared.verdict.JournalFault.{JournalFault}
use Rattle.hm_check.specs.declared.verdict.JournalFault.TheVariants.{BadText, NotLegal, NotDrawn}
use Rattle.hm_check.specs.declared.verdict.Verdict.{Verdict}
use Rattle.hm_check.specs.declared.verdict.Verdict.TheVariants.{No}
use Rattle.hm_check.specs.Readers.{Said, Header, Configured, Seeded, Region, Made, Closed, End, Reader, read, start}
use Rattle.hm_check.specs.Verdicts.{IsDrawn, IsFault, IsLegal, Judges, OneVerdict, Passes, SaidFits, lines_in}
use Rattle.hm_check.proofs.OneSaid.{one_said}

passes_no_fault : (r : Reader) (line : List ℕ) (said : Said) (f : JournalFault) → IsValid r.config → Passes r line said
    → IsFault r line f → ⊥
passes_no_fault r line said BadText valid h g = g said h.says
passes_no_fault r line said NotLegal valid h g =
    g.2 (subst (λ (s : Said). IsLegal r s) (one_said r line said g.0 valid h.says g.1) h.legal)
passes_no_fault r line said NotDrawn valid h g =
    g.3 (subst (λ (s : Said). IsDrawn r s) (one_said r line said g.0 valid h.says g.1) h.drawn)

one_fault : (r : Reader) (line : List ℕ) (f g : JournalFault) → IsValid r.config → IsFault r line f → IsFault r line g
    → f ≡ g
one_fault r line BadText BadText valid a b = refl
one_fault r line BadText NotLegal valid a b = absurd (a b.0 b.1)
one_fault r line BadText NotDrawn valid a b = absurd (a b.0 b.1)
one_fault r line NotLegal BadText valid a b = absurd (b a.0 a.1)
one_fault r line NotLegal NotLegal valid a b = refl
one_fault r line NotLegal NotDrawn valid a b =
    absurd (a.2 (subst (λ (s : Said). IsLegal r s) (one_said r line b.0 a.0 valid b.1 a.1) b.2))
one_fault r line NotDrawn BadText valid a b = absurd (b a.0 a.1)
one_fault r line NotDrawn NotLegal valid a b =
    absurd (b.2 (subst (λ (s : Said). IsLegal r s) (one_said r line a.0 b.0 valid a.1 b.1) a.2))
one_fault r line NotDrawn NotDrawn valid a b = refl

-- the configuration stays valid
pub stays_valid : (r : Reader) (said : Said) → IsValid r.config → SaidFits said → IsValid (read r said).config
stays_valid r Header valid h = valid
stays_valid r (Configured c) valid h = h
stays_valid r (Seeded n) valid h = valid
stays_valid r (Region first count) valid h = valid
stays_valid r (Made e) valid h = valid
stays_valid r (Closed faults) valid h = valid
stays_valid r End valid h = valid

one_judgement : (r : Reader) (k : ℕ) (pieces : List (List ℕ)) (v u : Verdict) → IsValid r.config → Judges r k pieces v
    → Judges r k pieces u → v ≡ u
unfolding Judges
one_judgement r k [] v u valid a b = absurd a
one_judgement r k (last ∷ []) v u valid a b = a ∙ sym b
one_judgement r k (line ∷ next ∷ more) v u valid a b =
    ⊎_elim
    (λ x. ⊎_elim
    (λ y. one_judgement (read r x.0) (k + 1) (next ∷ more) v u (stays_valid r x.0 valid x.1.says.fits) x.2
    (subst (λ (s : Said). Judges (read r s) (k + 1) (next ∷ more) u)
    (one_said r (line ++ 10 ∷ []) y.0 x.0 valid y.1.says x.1.says) y.2))
    (λ y. absurd (passes_no_fault r (line ++ 10 ∷ []) x.0 y.0 valid x.1 y.1)) b)
    (λ x. ⊎_elim
    (λ y. absurd (passes_no_fault r (line ++ 10 ∷ []) y.0 x.0 valid y.1 x.1))
    (λ y. x.2 ∙ ap (λ (f : JournalFault). No k f) (one_fault r (line ++ 10 ∷ []) x.0 y.0 valid x.1 y.1) ∙ sym y.2) b)
    a

pub standard_valid : IsValid start.config
standard_valid = search rules

pub one_verdict : OneVerdict
one_verdict bytes v u a b = one_judgement start 1 (lines_in bytes) v u standard_valid a b
