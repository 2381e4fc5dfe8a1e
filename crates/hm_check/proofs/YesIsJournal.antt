-- The verdict is Yes exactly for the journals of legal and drawn histories of all regions.
use Rattle.std.proofs.Common.{◌≡◌, ℕ, ◌+◌, List, [], ◌∷◌, ◌++◌, map, refl, sym, ◌∙◌, ap, subst, arith}
use Rattle.std.specs.List.{AllByRecursion as Each}
use Rattle.std.proofs.lemmas.List.Elements.{All-from_recursion as from, recursion_from_All as each}
use Rattle.std.proofs.lemmas.List.Splits.{join_with_byte-slice_split}
use Rattle.hm_sizes.specs.declared.config.Config.{Config}
use Rattle.hm_sizes.specs.Configs.{IsValid}
use Rattle.hm_heap.specs.declared.close.History.{History}
use Rattle.hm_journal.specs.Journals.{config_words, histories_lines, journal_text}
use Rattle.hm_journal.specs.Lines.{end_line, header_line, seed_line}
use Rattle.hm_journal.specs.Ranges.{Fits64, HistoryFits, JournalFits}
use Rattle.hm_journal.specs.Words.{line_text, lines_text}
use Rattle.hm_journal.proofs.Each.{each_by}
use Rattle.hm_journal.proofs.LineBack.{valid_fits}
use Rattle.hm_check.specs.declared.verdict.Verdict.TheVariants.{Yes}
use Rattle.hm_check.specs.FirstFaults.{IsDrawnPart, IsLegalPart}
use Rattle.hm_check.specs.Journals.{IsJournalOf, IsLawfulHistory, YesIsJournal, entry_count, region_numbers}
use Rattle.hm_check.specs.Readers.{AtHeader, AtConfig, AtSeed, AtRegion, Ended, Said, Header, Configured, Seeded, Reader, read, region_count, start}
use Rattle.hm_check.specs.Verdicts.{IsVerdict, Judges, lines_in}
use Rattle.hm_check.proofs.Chains.{Chain, IsSaid, after, judged, text_of, what_is_said}
use Rattle.hm_check.proofs.Histories.{IsPart, SaysRegions, says_regions, shape}
use Rattle.hm_check.proofs.OneVerdict.{standard_valid}
use Rattle.hm_check.proofs.Spoken.{MaySayRegions, Spoken, say, say_regions}

-- the reader behind the first three lines
abbrev opened : Config → ℕ → Reader
opened c n = record start { stage = AtRegion; config = c; seed = n }

-- the bytes are the journal of these histories of all regions, legal where L asks for that, and drawn where D does
pub record IsJournalAsked (L D : Type 0) (bytes : List ℕ) (entries : ℕ) (c : Config) (n : ℕ) (hs : List History)
    : Type 0 where
  pub valid : IsValid c
  pub seed : Fits64 n
  pub regions : map (λ (h : History). h.region.0) hs ≡ region_numbers c
  pub each : Each (IsPart L D c n) hs
  pub count : entries ≡ entry_count hs
  pub text : bytes ≡ journal_text c n hs

pub asked_fits : (L D : Type 0) (bytes : List ℕ) (n : ℕ) (c : Config) (seed : ℕ) (hs : List History)
    → IsJournalAsked L D bytes n c seed hs → JournalFits c seed hs
asked_fits L D bytes n c seed hs h = record {
  config = valid_fits c h.valid;
  seed = h.seed;
  histories = from HistoryFits hs (each_by (IsPart L D c seed) HistoryFits hs (λ k g. g.fits) h.each);
}

-- ---- from what is said
-- the first three lines
record Opens (all : List Said) : Type 0 where
  config : Config
  seed : ℕ
  rest : List Said
  said : all ≡ Header ∷ Configured config ∷ Seeded seed ∷ rest

header_not_ended : AtHeader ≡ Ended → ⊥
header_not_ended e = cc

config_not_ended : AtConfig ≡ Ended → ⊥
config_not_ended e = cc

seed_not_ended : AtSeed ≡ Ended → ⊥
seed_not_ended e = cc

module _ (L D : Type 0) where
  seeds : (c : Config) (all : List Said) → Chain L D (record start { stage = AtSeed; config = c }) all
      → (after (record start { stage = AtSeed; config = c }) all).stage ≡ Ended
      → (n : ℕ) × (rest : List Said) × (all ≡ Seeded n ∷ rest)
  seeds c [] chain ended = absurd (seed_not_ended ended)
  seeds c (said ∷ rest) chain ended =
      let is = shape AtSeed (record start { stage = AtSeed; config = c }) said refl chain.0.stands in
      (is.0, rest, ap (λ (s : Said). s ∷ rest) is.1)

  configures : (all : List Said) → Chain L D (record start { stage = AtConfig }) all
      → (after (record start { stage = AtConfig }) all).stage ≡ Ended
      → (c : Config) × (rest : List Said) × (all ≡ Configured c ∷ rest)
  configures [] chain ended = absurd (config_not_ended ended)
  configures (said ∷ rest) chain ended =
      let is = shape AtConfig (record start { stage = AtConfig }) said refl chain.0.stands in
      (is.0, rest, ap (λ (s : Said). s ∷ rest) is.1)

  begins : (all : List Said) → Chain L D start all → (after start all).stage ≡ Ended
      → (rest : List Said) × (all ≡ Header ∷ rest)
  begins [] chain ended = absurd (header_not_ended ended)
  begins (said ∷ rest) chain ended =
      (rest, ap (λ (s : Said). s ∷ rest) (shape AtHeader start said refl chain.0.stands))

  opens : (all : List Said) (bytes : List ℕ) (n : ℕ) → IsSaid L D start bytes n all → Opens all
  opens all bytes n h =
      let a = begins all h.chain h.ended in
      let one : IsSaid L D start bytes n (Header ∷ a.0) = subst (λ (l : List Said). IsSaid L D start bytes n l) a.1 h in
      let b = configures a.0 one.chain.1 one.ended in
      let two : IsSaid L D start bytes n (Header ∷ Configured b.0 ∷ b.1) =
      subst (λ (l : List Said). IsSaid L D start bytes n (Header ∷ l)) b.2 one in
      let c = seeds b.0 b.1 two.chain.1.1 two.ended in
      record {
        config = b.0;
        seed = c.0;
        rest = c.1;
        said = joined all a.0 b.1 c.1 b.0 c.0 a.1 b.2 c.2;
      }
    where
      joined : (all one two rest : List Said) (c : Config) (n : ℕ) → all ≡ Header ∷ one → one ≡ Configured c ∷ two
          → two ≡ Seeded n ∷ rest → all ≡ Header ∷ Configured c ∷ Seeded n ∷ rest
      joined all one two rest c n e f g = rw (e, f, g) refl

  journal_of : (bytes : List ℕ) (n : ℕ) (c : Config) (seed : ℕ) (rest : List Said)
      → IsSaid L D start bytes n (Header ∷ Configured c ∷ Seeded seed ∷ rest)
      → (hs : List History) × IsJournalAsked L D bytes n c seed hs
  journal_of bytes n c seed rest h =
      let valid : IsValid c = h.chain.1.0.fits in
      let s : SaysRegions L D (opened c seed) (region_count c) rest =
      says_regions L D (region_count c) rest (opened c seed) refl (omega arith) valid h.chain.1.1.1 h.ended in (
        s.histories,
        record {
          valid = valid;
          seed = h.chain.1.1.0.fits;
          regions = s.regions;
          each = s.each;
          count = h.total ∙ s.total ∙ omega arith;
          text = h.text
              ∙ ap (λ (l : List ℕ). line_text header_line
              ++ (line_text (config_words c) ++ (line_text (seed_line seed) ++ l)))
              s.text;
        },
      )

  -- the lines that are said are those of a journal
  pub said_to_journal : (bytes : List ℕ) (n : ℕ) (all : List Said) → IsSaid L D start bytes n all
      → (c : Config) × (seed : ℕ) × (hs : List History) × IsJournalAsked L D bytes n c seed hs
  said_to_journal bytes n all h =
      let o = opens all bytes n h in
      let journal = journal_of bytes n o.config o.seed o.rest (subst (λ (l : List Said). IsSaid L D start bytes n l) o.said h) in
      (o.config, o.seed, journal.0, journal.1)

  -- the lines of a journal are said
  pub journal_to_said : (bytes : List ℕ) (n : ℕ) (c : Config) (seed : ℕ) (hs : List History)
      → IsJournalAsked L D bytes n c seed hs → (all : List Said) × IsSaid L D start bytes n all
  journal_to_said bytes n c seed hs h =
      let may : MaySayRegions L D (opened c seed) (region_count c) hs = record {
        stage = refl;
        regions = h.regions;
        count = omega arith;
        each = h.each;
      } in
      let rest : Spoken L D (opened c seed) (lines_text (histories_lines hs ++ end_line ∷ [])) (0 + entry_count hs) =
      say_regions L D (region_count c) hs (opened c seed) may in
      let count : 0 + entry_count hs ≡ entry_count hs = omega arith in
      let lines : List ℕ = lines_text (histories_lines hs ++ end_line ∷ []) in
      let two : Reader = read (read start Header) (Configured c) in
      let whole : Spoken L D start (journal_text c seed hs) (entry_count hs) =
      say L D start Header (line_text (config_words c) ++ (line_text (seed_line seed) ++ lines)) (entry_count hs)
      (record { stands = refl; fits = tt; legal = λ asked. tt; drawn = λ asked. tt })
      (say L D (read start Header) (Configured c) (line_text (seed_line seed) ++ lines) (entry_count hs)
      (record { stands = refl; fits = h.valid; legal = λ asked. tt; drawn = λ asked. tt })
      (say L D two (Seeded seed) lines (entry_count hs)
      (record { stands = refl; fits = h.seed; legal = λ asked. tt; drawn = λ asked. tt })
      (subst (λ (m : ℕ). Spoken L D (opened c seed) lines m) count rest))) in (
        whole.0,
        record {
          chain = whole.1.chain;
          ended = whole.1.ended;
          total = h.count ∙ whole.1.total;
          text = h.text ∙ whole.1.text;
        },
      )

-- ---- legal and drawn histories
-- legal and drawn, where both are asked for
lawful_part : (c : Config) (n : ℕ) (h : History) → IsPart (Unit {0}) (Unit {0}) c n h → IsLawfulHistory c n h
lawful_part c n h k =
    let legal : IsLegalPart c n h = k.legal tt in
    let drawn : IsDrawnPart c n h = k.drawn tt in
    record {
      lawful = record {
        class = λ small. record { legal = legal.entries.class small; drawn = drawn.entries.class small };
        large = λ is. record { legal = legal.entries.large is; drawn = drawn.entries.large is };
      };
      first = drawn.first;
      faults = legal.faults;
      runs = k.runs;
    }

legal_of : (c : Config) (n : ℕ) (h : History) → IsLawfulHistory c n h → IsLegalPart c n h
legal_of c n h k = record {
  entries = record { class = λ small. (k.lawful.class small).legal; large = λ is. (k.lawful.large is).legal };
  faults = k.faults;
}

drawn_of : (c : Config) (n : ℕ) (h : History) → IsLawfulHistory c n h → IsDrawnPart c n h
drawn_of c n h k = record {
  entries = record { class = λ small. (k.lawful.class small).drawn; large = λ is. (k.lawful.large is).drawn };
  first = k.first;
}

parts_of : (L D : Type 0) (c : Config) (n : ℕ) (hs : List History) → Each HistoryFits hs → Each (IsLawfulHistory c n) hs
    → Each (IsPart L D c n) hs
parts_of L D c n [] h g = tt
parts_of L D c n (k ∷ hs) h g = (
  record { fits = h.0; runs = g.0.runs; legal = λ asked. legal_of c n k g.0; drawn = λ asked. drawn_of c n k g.0 },
  parts_of L D c n hs h.1 g.1,
)

-- a journal of legal and drawn histories, whatever is asked
pub asked_of : (L D : Type 0) (bytes : List ℕ) (n : ℕ) (c : Config) (seed : ℕ) (hs : List History)
    → IsJournalOf bytes n c seed hs → IsJournalAsked L D bytes n c seed hs
asked_of L D bytes n c seed hs h = record {
  valid = h.valid;
  seed = h.fits.seed;
  regions = h.regions;
  each = parts_of L D c seed hs (each HistoryFits hs h.fits.histories) (each (IsLawfulHistory c seed) hs h.lawful);
  count = h.count;
  text = h.text;
}

pub lawful_of : (bytes : List ℕ) (n : ℕ) (c : Config) (seed : ℕ) (hs : List History)
    → IsJournalAsked (Unit {0}) (Unit {0}) bytes n c seed hs → IsJournalOf bytes n c seed hs
lawful_of bytes n c seed hs h = record {
  valid = h.valid;
  fits = asked_fits (Unit {0}) (Unit {0}) bytes n c seed hs h;
  regions = h.regions;
  lawful = from (IsLawfulHistory c seed) hs
      (each_by (IsPart (Unit {0}) (Unit {0}) c seed) (IsLawfulHistory c seed) hs (lawful_part c seed) h.each);
  count = h.count;
  text = h.text;
}

yes_to_journal : (bytes : List ℕ) (n : ℕ) → IsVerdict bytes (Yes n)
    → (c : Config) × (seed : ℕ) × (hs : List History) × IsJournalOf bytes n c seed hs
yes_to_journal bytes n v =
    let said = what_is_said start 1 n (lines_in bytes) v in
    let whole : IsSaid (Unit {0}) (Unit {0}) start bytes n said.0 =
    subst (λ (l : List ℕ). IsSaid (Unit {0}) (Unit {0}) start l n said.0) (join_with_byte-slice_split 10 bytes) said.1 in
    let j = said_to_journal (Unit {0}) (Unit {0}) bytes n said.0 whole in
    (j.0, j.1, j.2, lawful_of bytes n j.0 j.1 j.2 j.3)

journal_to_yes : (bytes : List ℕ) (n : ℕ) (c : Config) (seed : ℕ) (hs : List History) → IsJournalOf bytes n c seed hs
    → IsVerdict bytes (Yes n)
journal_to_yes bytes n c seed hs h =
    let s = journal_to_said (Unit {0}) (Unit {0}) bytes n c seed hs (asked_of (Unit {0}) (Unit {0}) bytes n c seed hs h) in
    let v : Judges start 1 (lines_in (text_of start s.0)) (Yes (after start s.0).total) =
    judged start 1 s.0 standard_valid s.1.chain s.1.ended in
    let counted : Judges start 1 (lines_in (text_of start s.0)) (Yes n) =
    subst (λ (m : ℕ). Judges start 1 (lines_in (text_of start s.0)) (Yes m)) (sym s.1.total) v in
    subst (λ (l : List ℕ). Judges start 1 (lines_in l) (Yes n)) (sym s.1.text) counted

pub yes_is_journal : YesIsJournal
yes_is_journal bytes n = (yes_to_journal bytes n, λ j. journal_to_yes bytes n j.0 j.1 j.2 j.3)
