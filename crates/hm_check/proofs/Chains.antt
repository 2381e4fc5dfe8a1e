-- A text has the verdict Yes exactly where its lines say, one after another, what may stand there, is legal and is drawn.
use Rattle.std.proofs.Common.{◌≡◌, inl, ⊎_elim, ℕ, ◌+◌, List, [], ◌∷◌, ◌++◌, append_assoc, refl, sym, ◌∙◌, ap, subst, rules}
use Rattle.std.specs.List.{join_with_byte}
use Rattle.hm_sizes.specs.Configs.{IsValid}
use Rattle.hm_journal.proofs.EntryBack.{clean_entry_line}
use Rattle.hm_journal.proofs.LineBack.{clean_closed, clean_config_line, clean_region, clean_seed, first_line}
use Rattle.hm_journal.proofs.Splits.{IsLine}
use Rattle.hm_check.specs.declared.verdict.JournalFault.{JournalFault}
use Rattle.hm_check.specs.declared.verdict.JournalFault.TheVariants.{BadText}
use Rattle.hm_check.specs.declared.verdict.Verdict.{Verdict}
use Rattle.hm_check.specs.declared.verdict.Verdict.TheVariants.{Yes, No}
use Rattle.hm_check.specs.Readers.{Stage, AtHeader, AtConfig, AtSeed, AtRegion, AtEntry, Ended, Said, Header, Configured, Seeded, Region, Made, Closed, End, Reader, line_of, read, said_words}
use Rattle.hm_check.specs.Verdicts.{IsDrawn, IsLegal, Judges, MayStand, Passes, SaidFits, last_verdict, lines_in}
use Rattle.hm_check.proofs.OneSaid.{region_fits}
use Rattle.hm_check.proofs.OneVerdict.{stays_valid}

-- it may stand here, and is legal where L asks for that, and drawn where D does
pub record IsGood (L D : Type 0) (r : Reader) (said : Said) : Type 0 where
  pub stands : MayStand r said
  pub fits : SaidFits said
  pub legal : L → IsLegal r said
  pub drawn : D → IsDrawn r said

abbrev pub Chain : Type 0 → Type 0 → Reader → List Said → Type 0
Chain L D r [] = Unit {0}
Chain L D r (said ∷ more) = IsGood L D r said × Chain L D (read r said) more

-- what was read after these, and the lines that say them
abbrev pub after : Reader → List Said → Reader
after r [] = r
after r (said ∷ more) = after (read r said) more

abbrev pub text_of : Reader → List Said → List ℕ
text_of r [] = []
text_of r (said ∷ more) = line_of r said ++ text_of (read r said) more

pub record IsSaid (L D : Type 0) (r : Reader) (bytes : List ℕ) (n : ℕ) (all : List Said) : Type 0 where
  pub chain : Chain L D r all
  pub ended : (after r all).stage ≡ Ended
  pub total : n ≡ (after r all).total
  pub text : bytes ≡ text_of r all

-- what is asked of journals of legal and drawn histories
abbrev pub Good : Reader → Said → Type 0
Good r said = IsGood (Unit {0}) (Unit {0}) r said

abbrev pub GoodChain : Reader → List Said → Type 0
GoodChain r all = Chain (Unit {0}) (Unit {0}) r all

pub good_passing : (r : Reader) (line : List ℕ) (said : Said) → Passes r line said → Good r said
good_passing r line said h = record {
  stands = h.says.stands;
  fits = h.says.fits;
  legal = λ asked. h.legal;
  drawn = λ asked. h.drawn;
}

-- ---- from the verdict
pub record IsLast (stage : Stage) (last : List ℕ) (n m : ℕ) : Type 0 where
  pub ended : stage ≡ Ended
  pub empty : last ≡ []
  pub total : n ≡ m

pub no_yes : (n k : ℕ) (fault : JournalFault) → Yes n ≡ No k fault → ⊥
no_yes n k fault e = cc

one_total : (n total : ℕ) → Yes n ≡ Yes total → n ≡ total
one_total n total e = cc

is_last : (stage : Stage) (last : List ℕ) (k n total : ℕ) → Yes n ≡ last_verdict stage last k total
    → IsLast stage last n total
is_last Ended [] k n total e = record { ended = refl; empty = refl; total = one_total n total e }
is_last Ended (b ∷ last) k n total e = absurd (no_yes n k BadText e)
is_last AtHeader last k n total e = absurd (no_yes n k BadText e)
is_last AtConfig last k n total e = absurd (no_yes n k BadText e)
is_last AtSeed last k n total e = absurd (no_yes n k BadText e)
is_last AtRegion last k n total e = absurd (no_yes n k BadText e)
is_last (AtEntry left) last k n total e = absurd (no_yes n k BadText e)

whole : (line said rest text : List ℕ) → line ++ 10 ∷ [] ≡ said → rest ≡ text → line ++ 10 ∷ rest ≡ said ++ text
whole line said rest text e f =
    sym (append_assoc line (10 ∷ []) rest) ∙ (λ i. e i ++ f i)

pub what_is_said : (r : Reader) (k n : ℕ) (pieces : List (List ℕ)) → Judges r k pieces (Yes n)
    → (all : List Said) × IsSaid (Unit {0}) (Unit {0}) r (join_with_byte 10 pieces) n all
unfolding Judges
what_is_said r k n [] v = absurd v
what_is_said r k n (last ∷ []) v =
    let e = is_last r.stage last k n r.total v in
    ([], record { chain = tt; ended = e.ended; total = e.total; text = e.empty })
what_is_said r k n (line ∷ next ∷ more) v =
    ⊎_elim
    (λ x. let rest = what_is_said (read r x.0) (k + 1) n (next ∷ more) x.2 in (
      x.0 ∷ rest.0,
      record {
        chain = (
          good_passing r (line ++ 10 ∷ []) x.0 x.1,
          rest.1.chain,
        );
        ended = rest.1.ended;
        total = rest.1.total;
        text = whole line (line_of r x.0) (join_with_byte 10 (next ∷ more)) (text_of (read r x.0) rest.0) x.1.says.is
            rest.1.text;
      },
    ))
    (λ x. absurd (no_yes n k x.0 x.2))
    v

-- ---- to the verdict
pub clean : (r : Reader) (said : Said) → IsValid r.config → SaidFits said → IsLine (said_words r said)
clean r Header valid h = search rules
clean r (Configured c) valid h = clean_config_line c h
clean r (Seeded n) valid h = clean_seed n h
clean r (Region first count) valid h = clean_region _ first count (region_fits r.config r.regions valid) h.0 h.1
clean r (Made e) valid h = clean_entry_line e h.0
clean r (Closed faults) valid h = clean_closed faults h
clean r End valid h = search rules

pub passes_on : (r : Reader) (k : ℕ) (line : List ℕ) (pieces : List (List ℕ)) (v : Verdict) (said : Said)
    → Passes r (line ++ 10 ∷ []) said → Judges (read r said) (k + 1) pieces v → Judges r k (line ∷ pieces) v
unfolding Judges
passes_on r k line [] v said h g = absurd g
passes_on r k line (next ∷ more) v said h g = inl (said, h, g)

pub passes : (r : Reader) (said : Said) → Good r said → Passes r (line_of r said) said
passes r said h = record {
  says = record { stands = h.stands; fits = h.fits; is = refl };
  legal = h.legal tt;
  drawn = h.drawn tt;
}

pub judged : (r : Reader) (k : ℕ) (all : List Said) → IsValid r.config → GoodChain r all → (after r all).stage ≡ Ended
    → Judges r k (lines_in (text_of r all)) (Yes (after r all).total)
unfolding Judges
judged r k [] valid h ended = sym (ap (λ (s : Stage). last_verdict s [] k r.total) ended)
judged r k (said ∷ more) valid h ended =
    let line : List ℕ = join_with_byte 32 (said_words r said) in
    subst (λ (pieces : List (List ℕ)). Judges r k pieces (Yes (after r (said ∷ more)).total))
    (sym (first_line (said_words r said) (text_of (read r said) more) (clean r said valid h.0.fits)))
    (passes_on r k line (lines_in (text_of (read r said) more)) (Yes (after r (said ∷ more)).total) said
    (passes r said h.0)
    (judged (read r said) (k + 1) more (stays_valid r said valid h.0.fits) h.1 ended))
