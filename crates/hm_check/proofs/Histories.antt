-- The lines that are said one after another are those of a journal: from its lines to its histories.
use Rattle.std.proofs.Common.{◌≡◌, ◌⊎◌, inl, inr, ⊎_elim, ℕ, zero, suc, ◌+◌, List, [], ◌∷◌, ◌++◌, map, length, append_assoc, refl, sym, ◌∙◌, ap, subst, arith}
use Rattle.std.proofs.lemmas.Grind.{flat_map-append}
use Rattle.std.proofs.lemmas.List.{append-nil}
use Rattle.std.proofs.lemmas.List.Elements.{All-from_recursion as from}
use Rattle.std.specs.List.{All, AllByRecursion as Each, range_with_len}
use Rattle.hm_sizes.specs.declared.config.Config.{Config}
use Rattle.hm_sizes.specs.Configs.{IsValid}
use Rattle.hm_sizes.specs.Origins.{Origin}
use Rattle.hm_model.specs.declared.entry.Entry.{Entry}
use Rattle.hm_heap.specs.declared.close.History.{History}
use Rattle.hm_heap.specs.Lawful.{fault_count}
use Rattle.hm_journal.specs.Entries.{entry_words}
use Rattle.hm_journal.specs.Journals.{histories_lines}
use Rattle.hm_journal.specs.Lines.{closed_line, end_line, region_line}
use Rattle.hm_journal.specs.Ranges.{EntryFits, Fits64, HistoryFits}
use Rattle.hm_journal.specs.Runs.{EntryRuns}
use Rattle.hm_journal.specs.Words.{line_text, lines_text}
use Rattle.hm_journal.proofs.Each.{each_by}
use Rattle.hm_check.specs.FirstFaults.{HasRuns, IsDrawnPart, IsLegalPart}
use Rattle.hm_check.specs.Journals.{entry_count}
use Rattle.hm_check.specs.Readers.{Stage, AtHeader, AtConfig, AtSeed, AtRegion, AtEntry, Ended, Said, Header, Configured, Seeded, Region, Made, Closed, End, Reader, one_less, origin_of, read, region_at, region_count}
use Rattle.hm_check.specs.Verdicts.{IsDrawnHistory, IsLegalHistory, MayStand}
use Rattle.hm_check.proofs.Chains.{Chain, IsGood, after, text_of}
use Rattle.hm_check.proofs.OneSaid.{region_fits}

-- ---- what may stand in a stage
abbrev Shape : Stage → Said → Type 0
Shape AtHeader said = said ≡ Header
Shape AtConfig said = (c : Config) × (said ≡ Configured c)
Shape AtSeed said = (n : ℕ) × (said ≡ Seeded n)
Shape AtRegion said = ((first : ℕ) × (count : ℕ) × (said ≡ Region first count)) ⊎ (said ≡ End)
Shape (AtEntry zero) said = (faults : ℕ) × (said ≡ Closed faults)
Shape (AtEntry (suc left)) said = (e : Entry) × (said ≡ Made e)
Shape Ended said = ⊥

pub shape : (stage : Stage) (r : Reader) (said : Said) → r.stage ≡ stage → MayStand r said → Shape stage said
shape stage r Header at h = subst (λ (s : Stage). Shape s Header) (sym h ∙ at) refl
shape stage r (Configured c) at h = subst (λ (s : Stage). Shape s (Configured c)) (sym h ∙ at) (c, refl)
shape stage r (Seeded n) at h = subst (λ (s : Stage). Shape s (Seeded n)) (sym h ∙ at) (n, refl)
shape stage r (Region first count) at h =
    subst (λ (s : Stage). Shape s (Region first count)) (sym h.0 ∙ at) (inl (first, count, refl))
shape stage r (Made e) at h = subst (λ (s : Stage). Shape s (Made e)) (sym h.1 ∙ at) (e, refl)
shape stage r (Closed faults) at h = subst (λ (s : Stage). Shape s (Closed faults)) (sym h ∙ at) (faults, refl)
shape stage r End at h = subst (λ (s : Stage). Shape s End) (sym h.0 ∙ at) (inr refl)

-- nothing is said behind the end
pub none_behind : (L D : Type 0) (r : Reader) (all : List Said) → r.stage ≡ Ended → Chain L D r all → all ≡ []
none_behind L D r [] at h = refl
none_behind L D r (said ∷ more) at h = absurd (shape Ended r said at h.0.stands)

-- ---- the entries of a region
pub record SaysEntries (L D : Type 0) (r : Reader) (left : ℕ) (all : List Said) : Type 0 where
  pub entries : List Entry
  pub faults : ℕ
  pub rest : List Said
  pub next : Reader
  pub count : length entries ≡ left
  pub each : Each (λ (e : Entry). EntryFits e × EntryRuns e) entries
  pub legal : L → IsLegalHistory (origin_of r) (r.past ++ entries)
  pub drawn : D → IsDrawnHistory (origin_of r) (r.past ++ entries)
  pub last : L → faults ≡ fault_count (origin_of r) (r.past ++ entries)
  pub small : Fits64 faults
  pub stage : next.stage ≡ AtRegion
  pub config : next.config ≡ r.config
  pub seed : next.seed ≡ r.seed
  pub regions : next.regions ≡ r.regions + 1
  pub total : next.total ≡ r.total + length entries
  pub chain : Chain L D next rest
  pub same : after r all ≡ after next rest
  pub text : text_of r all ≡ lines_text (map entry_words entries ++ closed_line faults ∷ []) ++ text_of next rest

-- a stage with entries to come is not the last one
not_ended : (left : ℕ) (r : Reader) → r.stage ≡ AtEntry left → r.stage ≡ Ended → ⊥
not_ended left r at ended = cc

closed_now : (L D : Type 0) (r : Reader) (faults : ℕ) (more : List Said) → (L → IsLegalHistory (origin_of r) r.past)
    → (D → IsDrawnHistory (origin_of r) r.past) → IsGood L D r (Closed faults)
    → Chain L D (read r (Closed faults)) more
    → SaysEntries L D r 0 (Closed faults ∷ more)
closed_now L D r faults more legal drawn good chain =
    let none : r.past ≡ r.past ++ [] = sym (append-nil r.past) in
    record {
      entries = [];
      faults = faults;
      rest = more;
      next = read r (Closed faults);
      count = refl;
      each = tt;
      legal = λ asked. subst (λ (es : List Entry). IsLegalHistory (origin_of r) es) none (legal asked);
      drawn = λ asked. subst (λ (es : List Entry). IsDrawnHistory (origin_of r) es) none (drawn asked);
      last = λ asked. good.legal asked ∙ ap (λ (es : List Entry). fault_count (origin_of r) es) none;
      small = good.fits;
      stage = refl;
      config = refl;
      seed = refl;
      regions = refl;
      total = omega arith;
      chain = chain;
      same = refl;
      text = ap (λ (l : List ℕ). l ++ text_of (read r (Closed faults)) more)
          (sym (append-nil (line_text (closed_line faults))));
    }

made_then : (L D : Type 0) (r : Reader) (left : ℕ) (e : Entry) (more : List Said) → IsGood L D r (Made e)
    → SaysEntries L D (read r (Made e)) left more → SaysEntries L D r (suc left) (Made e ∷ more)
made_then L D r left e more good s =
    let joined : (r.past ++ e ∷ []) ++ s.entries ≡ r.past ++ e ∷ s.entries = append_assoc r.past (e ∷ []) s.entries in
    record {
      entries = e ∷ s.entries;
      faults = s.faults;
      rest = s.rest;
      next = s.next;
      count = ap suc s.count;
      each = (good.fits, s.each);
      legal = λ asked. subst (λ (es : List Entry). IsLegalHistory (origin_of r) es) joined (s.legal asked);
      drawn = λ asked. subst (λ (es : List Entry). IsDrawnHistory (origin_of r) es) joined (s.drawn asked);
      last = λ asked. s.last asked ∙ ap (λ (es : List Entry). fault_count (origin_of r) es) joined;
      small = s.small;
      stage = s.stage;
      config = s.config;
      seed = s.seed;
      regions = s.regions;
      total = s.total ∙ one_more r.total (length s.entries);
      chain = s.chain;
      same = s.same;
      text = ap (λ (l : List ℕ). line_text (entry_words e) ++ l) s.text
          ∙ sym (append_assoc (line_text (entry_words e))
          (lines_text (map entry_words s.entries ++ closed_line s.faults ∷ [])) (text_of s.next s.rest));
    }
  where
    one_more : (a b : ℕ) → (a + 1) + b ≡ a + suc b
    one_more a b = omega arith

pub says_entries : (L D : Type 0) (left : ℕ) (all : List Said) (r : Reader) → r.stage ≡ AtEntry left → Chain L D r all
    → (after r all).stage ≡ Ended → (L → IsLegalHistory (origin_of r) r.past)
    → (D → IsDrawnHistory (origin_of r) r.past)
    → SaysEntries L D r left all
says_entries L D left [] r at chain ended legal drawn = absurd (not_ended left r at ended)
says_entries L D zero (said ∷ more) r at chain ended legal drawn =
    let is = shape (AtEntry zero) r said at chain.0.stands in
    let whole : Chain L D r (Closed is.0 ∷ more) = subst (λ (s : Said). Chain L D r (s ∷ more)) is.1 chain in
    subst (λ (s : Said). SaysEntries L D r zero (s ∷ more)) (sym is.1)
    (closed_now L D r is.0 more legal drawn whole.0 whole.1)
says_entries L D (suc left) (said ∷ more) r at chain ended legal drawn =
    let is = shape (AtEntry (suc left)) r said at chain.0.stands in
    let whole : Chain L D r (Made is.0 ∷ more) = subst (λ (s : Said). Chain L D r (s ∷ more)) is.1 chain in
    let end : (after r (Made is.0 ∷ more)).stage ≡ Ended =
    subst (λ (s : Said). (after r (s ∷ more)).stage ≡ Ended) is.1 ended in
    subst (λ (s : Said). SaysEntries L D r (suc left) (s ∷ more)) (sym is.1)
    (made_then L D r left is.0 more whole.0
    (says_entries L D left more (read r (Made is.0)) (ap one_less at) whole.1 end whole.0.legal whole.0.drawn))

-- ---- the regions
-- a history that fits, is legal where L asks for that, and drawn where D does
pub record IsPart (L D : Type 0) (c : Config) (n : ℕ) (h : History) : Type 0 where
  pub fits : HistoryFits h
  pub runs : HasRuns h
  pub legal : L → IsLegalPart c n h
  pub drawn : D → IsDrawnPart c n h

pub record SaysRegions (L D : Type 0) (r : Reader) (left : ℕ) (all : List Said) : Type 0 where
  pub histories : List History
  pub regions : map (λ (h : History). h.region.0) histories ≡ map (region_at r.config) (range_with_len r.regions left)
  pub each : Each (IsPart L D r.config r.seed) histories
  pub total : (after r all).total ≡ r.total + entry_count histories
  pub text : text_of r all ≡ lines_text (histories_lines histories ++ end_line ∷ [])

pub legal_none : (o : Origin) → IsLegalHistory o []
legal_none o = record { class = λ lt. tt; large = λ is. tt }

pub drawn_none : (o : Origin) → IsDrawnHistory o []
drawn_none o = record { class = λ lt. record { shape = refl; words = refl; choices = tt }; large = λ is. tt }

region_not_ended : (r : Reader) → r.stage ≡ AtRegion → r.stage ≡ Ended → ⊥
region_not_ended r at ended = cc

ended_now : (L D : Type 0) (r : Reader) (more : List Said) → Chain L D (read r End) more
    → SaysRegions L D r 0 (End ∷ more)
ended_now L D r more chain =
    subst (λ (ss : List Said). SaysRegions L D r 0 (End ∷ ss)) (sym (none_behind L D (read r End) more refl chain)) (record {
      histories = [];
      regions = refl;
      each = tt;
      total = omega arith;
      text = refl;
    })

pub joined : (region : List (List ℕ)) (entries : List (List (List ℕ))) (closed : List (List ℕ))
    (rest last : List (List (List ℕ)))
    → line_text region ++ (lines_text (entries ++ closed ∷ []) ++ lines_text (rest ++ last))
    ≡ lines_text (((region ∷ entries ++ closed ∷ []) ++ rest) ++ last)
joined region entries closed rest last = simp (flat_map-append, append_assoc)

first_of_pair : (es : List Entry) → Each (λ (e : Entry). EntryFits e × EntryRuns e) es → All EntryFits es × All EntryRuns es
first_of_pair es h = (
  from EntryFits es (each_by (λ (e : Entry). EntryFits e × EntryRuns e) EntryFits es (λ e g. g.0) h),
  from EntryRuns es (each_by (λ (e : Entry). EntryFits e × EntryRuns e) EntryRuns es (λ e g. g.1) h),
)

abbrev history_of : Reader → ℕ → List Entry → ℕ → History
history_of r first entries faults = record {
  region = record { 0 = region_at r.config r.regions };
  first = first;
  entries = entries;
  faults = faults;
}

region_then : (L D : Type 0) (r : Reader) (left first count : ℕ) (more : List Said) → IsValid r.config
    → IsGood L D r (Region first count)
    → (s : SaysEntries L D (read r (Region first count)) count more) → SaysRegions L D s.next left s.rest
    → SaysRegions L D r (suc left) (Region first count ∷ more)
region_then L D r left first count more valid good s t =
    let h : History = history_of r first s.entries s.faults in
    let both = first_of_pair s.entries s.each in
    record {
      histories = h ∷ t.histories;
      regions = ap (λ (l : List ℕ). region_at r.config r.regions ∷ l)
          (t.regions ∙ (λ i. map (region_at (s.config i)) (range_with_len (s.regions i) left)));
      each = (
        record {
          fits = record {
            region = region_fits r.config r.regions valid;
            first = good.fits.0;
            entries = both.0;
            count = subst (λ (n : ℕ). Fits64 n) (sym s.count) good.fits.1;
            faults = s.small;
          };
          runs = both.1;
          legal = λ asked. record { entries = s.legal asked; faults = s.last asked };
          drawn = λ asked. record { entries = s.drawn asked; first = good.drawn asked };
        },
        subst (λ (n : ℕ). Each (IsPart L D r.config n) t.histories) s.seed
            (subst (λ (c : Config). Each (IsPart L D c s.next.seed) t.histories) s.config t.each),
      );
      total = ap (λ (q : Reader). q.total) s.same ∙ t.total
          ∙ sums s.next.total r.total (length s.entries) (entry_count t.histories) s.total;
      text = ap (λ (l : List ℕ). line_text (region_line (region_at r.config r.regions) first count) ++ l)
          (s.text ∙ ap (λ (l : List ℕ). lines_text (map entry_words s.entries ++ closed_line s.faults ∷ []) ++ l) t.text)
          ∙ joined (region_line (region_at r.config r.regions) first count) (map entry_words s.entries)
          (closed_line s.faults) (histories_lines t.histories) (end_line ∷ [])
          ∙ ap (λ (n : ℕ). lines_text (((region_line (region_at r.config r.regions) first n
          ∷ map entry_words s.entries ++ closed_line s.faults ∷ []) ++ histories_lines t.histories) ++ end_line ∷ []))
          (sym s.count);
    }
  where
    sums : (next total entries more : ℕ) → next ≡ total + entries → next + more ≡ total + (entries + more)
    sums next total entries more e = omega (arith, e)

pub says_regions : (L D : Type 0) (left : ℕ) (all : List Said) (r : Reader) → r.stage ≡ AtRegion
    → r.regions + left ≡ region_count r.config → IsValid r.config → Chain L D r all
    → (after r all).stage ≡ Ended → SaysRegions L D r left all
says_regions L D left [] r at count valid chain ended = absurd (region_not_ended r at ended)
says_regions L D zero (said ∷ more) r at count valid chain ended =
    ⊎_elim
    (λ x. let good : IsGood L D r (Region x.0 x.1) = subst (λ (s : Said). IsGood L D r s) x.2 chain.0 in
    absurd (omega (arith, good.stands.1, count)))
    (λ x. let whole : Chain L D r (End ∷ more) = subst (λ (s : Said). Chain L D r (s ∷ more)) x chain in
    subst (λ (s : Said). SaysRegions L D r zero (s ∷ more)) (sym x) (ended_now L D r more whole.1))
    (shape AtRegion r said at chain.0.stands)
says_regions L D (suc left) (said ∷ more) r at count valid chain ended =
    ⊎_elim
    (λ x. let whole : Chain L D r (Region x.0 x.1 ∷ more) = subst (λ (s : Said). Chain L D r (s ∷ more)) x.2 chain in
    let end : (after r (Region x.0 x.1 ∷ more)).stage ≡ Ended =
    subst (λ (s : Said). (after r (s ∷ more)).stage ≡ Ended) x.2 ended in
    let s : SaysEntries L D (read r (Region x.0 x.1)) x.1 more =
    says_entries L D x.1 more (read r (Region x.0 x.1)) refl whole.1 end (λ asked. legal_none (origin_of r))
    (λ asked. drawn_none (origin_of r)) in
    subst (λ (q : Said). SaysRegions L D r (suc left) (q ∷ more)) (sym x.2)
    (region_then L D r left x.0 x.1 more valid whole.0 s
    (says_regions L D left s.rest s.next s.stage
    (subst (λ (c : Config). s.next.regions + left ≡ region_count c) (sym s.config) (more_regions s.next.regions r.regions left (region_count r.config) s.regions count))
    (subst IsValid (sym s.config) valid) s.chain (ap (λ (q : Reader). q.stage) (sym s.same) ∙ end))))
    (λ x. let good : IsGood L D r End = subst (λ (s : Said). IsGood L D r s) x chain.0 in
    absurd (omega (arith, good.stands.1, count)))
    (shape AtRegion r said at chain.0.stands)
  where
    more_regions : (next regions left count : ℕ) → next ≡ regions + 1 → regions + suc left ≡ count → next + left ≡ count
    more_regions next regions left count e f = omega (arith, e, f)
