-- The lines of a journal are said one after another: from its histories to its lines.
use Rattle.std.proofs.Common.{◌≡◌, ℕ, zero, suc, ◌+◌, true, List, [], ◌∷◌, ◌++◌, map, length, drop, get_or, append_assoc, refl, sym, ◌∙◌, ap, subst, arith}
use Rattle.std.proofs.lemmas.List.{append-nil}
use Rattle.std.specs.List.{AllByRecursion as Each, range_with_len}
use Rattle.std.proofs.lemmas.List.Elements.{recursion_from_All as each}
use Rattle.hm_sizes.specs.declared.config.Config.{Config}
use Rattle.hm_sizes.specs.Origins.{Origin}
use Rattle.hm_model.specs.declared.entry.Entry.{Entry}
use Rattle.hm_heap.specs.declared.close.History.{History}
use Rattle.hm_heap.specs.Lawful.{fault_count, first_address}
use Rattle.hm_journal.specs.Entries.{entry_words}
use Rattle.hm_journal.specs.Journals.{histories_lines}
use Rattle.hm_journal.specs.Lines.{closed_line, end_line, region_line}
use Rattle.hm_journal.specs.Ranges.{EntryFits, Fits64}
use Rattle.hm_journal.specs.Runs.{EntryRuns}
use Rattle.hm_journal.specs.Words.{line_text, lines_text}
use Rattle.hm_check.specs.Journals.{entry_count, origin_in}
use Rattle.hm_check.specs.Readers.{AtRegion, AtEntry, Said, Region, Made, Closed, End, Reader, line_of, one_less, origin_of, read, region_at, region_count}
use Rattle.hm_check.specs.Verdicts.{IsDrawnHistory, IsLegalHistory}
use Rattle.hm_check.proofs.Chains.{IsGood, IsSaid}
use Rattle.hm_check.proofs.Fronts.{drawn_front, legal_front}
use Rattle.hm_check.proofs.Histories.{IsPart, joined}

-- the bytes are lines that may be said, with so many entries in the end
abbrev pub Spoken : Type 0 → Type 0 → Reader → List ℕ → ℕ → Type 0
Spoken L D r bytes n = (all : List Said) × IsSaid L D r bytes n all

pub say : (L D : Type 0) (r : Reader) (said : Said) (bytes : List ℕ) (n : ℕ) → IsGood L D r said
    → Spoken L D (read r said) bytes n → Spoken L D r (line_of r said ++ bytes) n
say L D r said bytes n good h = (
  said ∷ h.0,
  record {
    chain = (good, h.1.chain);
    ended = h.1.ended;
    total = h.1.total;
    text = ap (λ (l : List ℕ). line_of r said ++ l) h.1.text;
  },
)

-- ---- the entries of a region
pub record MaySay (L D : Type 0) (r : Reader) (es : List Entry) (faults : ℕ) : Type 0 where
  pub stage : r.stage ≡ AtEntry (length es)
  pub legal : L → IsLegalHistory (origin_of r) (r.past ++ es)
  pub drawn : D → IsDrawnHistory (origin_of r) (r.past ++ es)
  pub each : Each (λ (e : Entry). EntryFits e × EntryRuns e) es
  pub last : L → faults ≡ fault_count (origin_of r) (r.past ++ es)
  pub small : Fits64 faults

-- what is read once a region of so many entries is closed
pub record IsNext (r : Reader) (entries : ℕ) (next : Reader) : Type 0 where
  pub stage : next.stage ≡ AtRegion
  pub config : next.config ≡ r.config
  pub seed : next.seed ≡ r.seed
  pub regions : next.regions ≡ r.regions + 1
  pub total : next.total ≡ r.total + entries

good_closed : (L D : Type 0) (r : Reader) (faults : ℕ) → MaySay L D r [] faults → IsGood L D r (Closed faults)
good_closed L D r faults h = record {
  stands = h.stage;
  fits = h.small;
  legal = λ asked. h.last asked ∙ ap (λ (es : List Entry). fault_count (origin_of r) es) (append-nil r.past);
  drawn = λ asked. tt;
}

good_made : (L D : Type 0) (r : Reader) (e : Entry) (es : List Entry) (faults : ℕ) → MaySay L D r (e ∷ es) faults
    → IsGood L D r (Made e)
good_made L D r e es faults h =
    let joined : r.past ++ e ∷ es ≡ (r.past ++ e ∷ []) ++ es = sym (append_assoc r.past (e ∷ []) es) in
    record {
      stands = (length es, h.stage);
      fits = h.each.0;
      legal = λ asked. legal_front (origin_of r) (r.past ++ e ∷ []) es
          (subst (λ (l : List Entry). IsLegalHistory (origin_of r) l) joined (h.legal asked));
      drawn = λ asked. drawn_front (origin_of r) (r.past ++ e ∷ []) es
          (subst (λ (l : List Entry). IsDrawnHistory (origin_of r) l) joined (h.drawn asked));
    }

may_say_more : (L D : Type 0) (r : Reader) (e : Entry) (es : List Entry) (faults : ℕ) → MaySay L D r (e ∷ es) faults
    → MaySay L D (read r (Made e)) es faults
may_say_more L D r e es faults h =
    let joined : r.past ++ e ∷ es ≡ (r.past ++ e ∷ []) ++ es = sym (append_assoc r.past (e ∷ []) es) in
    record {
      stage = ap one_less h.stage;
      legal = λ asked. subst (λ (l : List Entry). IsLegalHistory (origin_of r) l) joined (h.legal asked);
      drawn = λ asked. subst (λ (l : List Entry). IsDrawnHistory (origin_of r) l) joined (h.drawn asked);
      each = h.each.1;
      last = λ asked. h.last asked ∙ ap (λ (l : List Entry). fault_count (origin_of r) l) joined;
      small = h.small;
    }

pub say_entries : (L D : Type 0) (es : List Entry) (r : Reader) (faults n : ℕ) (bytes : List ℕ) → MaySay L D r es faults
    → ((next : Reader) → IsNext r (length es) next → Spoken L D next bytes n)
    → Spoken L D r (lines_text (map entry_words es ++ closed_line faults ∷ []) ++ bytes) n
say_entries L D [] r faults n bytes h k =
    let next : IsNext r 0 (read r (Closed faults)) =
    record { stage = refl; config = refl; seed = refl; regions = refl; total = omega arith } in
    subst (λ (l : List ℕ). Spoken L D r (l ++ bytes) n) (sym (append-nil (line_text (closed_line faults))))
    (say L D r (Closed faults) bytes n (good_closed L D r faults h) (k (read r (Closed faults)) next))
say_entries L D (e ∷ es) r faults n bytes h k =
    let lines : List ℕ = lines_text (map entry_words es ++ closed_line faults ∷ []) in
    subst (λ (l : List ℕ). Spoken L D r l n) (sym (append_assoc (line_text (entry_words e)) lines bytes))
    (say L D r (Made e) (lines ++ bytes) n (good_made L D r e es faults h)
    (say_entries L D es (read r (Made e)) faults n bytes (may_say_more L D r e es faults h)
    (λ next g. k next (longer next g))))
  where
    one_more : (a b : ℕ) → (a + 1) + b ≡ a + suc b
    one_more a b = omega arith

    longer : (next : Reader) → IsNext (read r (Made e)) (length es) next → IsNext r (length (e ∷ es)) next
    longer next g = record {
      stage = g.stage;
      config = g.config;
      seed = g.seed;
      regions = g.regions;
      total = g.total ∙ one_more r.total (length es);
    }

-- ---- the regions
pub record MaySayRegions (L D : Type 0) (r : Reader) (left : ℕ) (hs : List History) : Type 0 where
  pub stage : r.stage ≡ AtRegion
  pub regions : map (λ (h : History). h.region.0) hs ≡ map (region_at r.config) (range_with_len r.regions left)
  pub count : r.regions + left ≡ region_count r.config
  pub each : Each (IsPart L D r.config r.seed) hs

both_of : (es : List Entry) → Each EntryFits es → Each EntryRuns es → Each (λ (e : Entry). EntryFits e × EntryRuns e) es
both_of [] h g = tt
both_of (e ∷ es) h g = ((h.0, g.0), both_of es h.1 g.1)

-- a region's line and its entries
module _ (L D : Type 0) (r : Reader) (left : ℕ) (h : History) (hs : List History)
    (may : MaySayRegions L D r (suc left) (h ∷ hs)) where
  number : h.region.0 ≡ region_at r.config r.regions
  number = ap (λ (l : List ℕ). get_or l 0 0) may.regions

  origin : origin_in r.config r.seed h ≡ origin_of r
  origin = λ i. record { config = r.config; seed = r.seed; region = number i; told = true }

  good_region : IsGood L D r (Region h.first (length h.entries))
  good_region = record {
    stands = (may.stage, omega (arith, may.count));
    fits = (may.each.0.fits.first, may.each.0.fits.count);
    legal = λ asked. tt;
    drawn = λ asked. (may.each.0.drawn asked).first ∙ ap first_address origin;
  }

  may_say_entries : MaySay L D (read r (Region h.first (length h.entries))) h.entries h.faults
  may_say_entries = record {
    stage = refl;
    legal = λ asked. subst (λ (o : Origin). IsLegalHistory o h.entries) origin (may.each.0.legal asked).entries;
    drawn = λ asked. subst (λ (o : Origin). IsDrawnHistory o h.entries) origin (may.each.0.drawn asked).entries;
    each = both_of h.entries (each EntryFits h.entries may.each.0.fits.entries) (each EntryRuns h.entries may.each.0.runs);
    last = λ asked. (may.each.0.legal asked).faults ∙ ap (λ (o : Origin). fault_count o h.entries) origin;
    small = may.each.0.fits.faults;
  }

  may_say_others : (next : Reader) → IsNext (read r (Region h.first (length h.entries))) (length h.entries) next
      → MaySayRegions L D next left hs
  may_say_others next g =
      let others : map (λ (k : History). k.region.0) hs ≡ map (region_at r.config) (range_with_len (r.regions + 1) left) =
      ap (drop 1) may.regions in
      record {
        stage = g.stage;
        regions = others ∙ (λ i. map (region_at (sym g.config i)) (range_with_len (sym g.regions i) left));
        count = count_after next.regions r.regions left (region_count next.config) g.regions
            (may.count ∙ ap region_count (sym g.config));
        each = subst (λ (n : ℕ). Each (IsPart L D next.config n) hs) (sym g.seed)
            (subst (λ (c : Config). Each (IsPart L D c r.seed) hs) (sym g.config) may.each.1);
      }
    where
      count_after : (next regions left count : ℕ) → next ≡ regions + 1 → regions + suc left ≡ count → next + left ≡ count
      count_after next regions left count e f = omega (arith, e, f)

pub say_regions : (L D : Type 0) (left : ℕ) (hs : List History) (r : Reader) → MaySayRegions L D r left hs
    → Spoken L D r (lines_text (histories_lines hs ++ end_line ∷ [])) (r.total + entry_count hs)
say_regions L D zero [] r may = (
  End ∷ [],
  record {
    chain = (
      record { stands = (may.stage, omega (arith, may.count)); fits = tt; legal = λ asked. tt; drawn = λ asked. tt },
      tt,
    );
    ended = refl;
    total = omega arith;
    text = refl;
  },
)
say_regions L D (suc left) [] r may = absurd (none may.regions)
  where
    none : {x : ℕ} {l : List ℕ} → [] ≡ x ∷ l → ⊥
    none e = cc
say_regions L D zero (h ∷ hs) r may = absurd (none may.regions)
  where
    none : {x : ℕ} {l : List ℕ} → x ∷ l ≡ [] → ⊥
    none e = cc
say_regions L D (suc left) (h ∷ hs) r may =
    let lines : List ℕ = lines_text (histories_lines hs ++ end_line ∷ []) in
    let line : List (List ℕ) = region_line (region_at r.config r.regions) h.first (length h.entries) in
    let total : ℕ = r.total + (length h.entries + entry_count hs) in
    subst (λ (l : List ℕ). Spoken L D r l total)
    (joined line (map entry_words h.entries) (closed_line h.faults) (histories_lines hs) (end_line ∷ [])
    ∙ ap (λ (n : ℕ). lines_text (((region_line n h.first (length h.entries)
    ∷ map entry_words h.entries ++ closed_line h.faults ∷ []) ++ histories_lines hs) ++ end_line ∷ []))
    (sym (number L D r left h hs may)))
    (say L D r (Region h.first (length h.entries))
    (lines_text (map entry_words h.entries ++ closed_line h.faults ∷ []) ++ lines) total (good_region L D r left h hs may)
    (say_entries L D h.entries (read r (Region h.first (length h.entries))) h.faults total lines (may_say_entries L D r left h hs may)
    (λ next g. subst (λ (n : ℕ). Spoken L D next lines n) (sums next.total r.total (length h.entries) (entry_count hs) g.total)
    (say_regions L D left hs next (may_say_others L D r left h hs may next g)))))
  where
    sums : (next total entries more : ℕ) → next ≡ total + entries → next + more ≡ total + (entries + more)
    sums next total entries more e = omega (arith, e)
