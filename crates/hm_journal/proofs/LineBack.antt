-- What is read of the lines that are no entries is what they say.
use Rattle.std.proofs.Common.{◌≡◌, ℕ, eqb, List, [], ◌∷◌, ◌++◌, ◌∙◌, ap, codes, arith, rules}
use Rattle.std.specs.Fmt.{decimal}
use Rattle.std.specs.List.{join_with_byte, slice_split}
use Rattle.hm_sizes.specs.declared.config.Config.{Config}
use Rattle.hm_sizes.specs.Configs.{IsValid}
use Rattle.hm_journal.specs.declared.lines.RegionLine.{RegionLine}
use Rattle.hm_journal.specs.Journals.{config_words}
use Rattle.hm_journal.specs.Lines.{closed_line, region_line, seed_line}
use Rattle.hm_model.specs.Typed.{Fits32, Fits64}
use Rattle.hm_journal.specs.Ranges.{ConfigFits}
use Rattle.hm_journal.specs.Reading.{config_at, region_at, number_at, number32_at, word_at, words_at}
use Rattle.hm_journal.specs.Words.{line_text}
use Rattle.hm_journal.proofs.EntryBack.{words_back}
use Rattle.hm_journal.proofs.Exact.{clean_config}
use Rattle.hm_journal.proofs.Numbers.{clean_number}
use Rattle.hm_journal.proofs.OneEntry.{clean32}
use Rattle.hm_journal.proofs.ReadBack.{flag_back, number32_back, number_back}
use Rattle.hm_journal.proofs.Splits.{High, IsLine, first_of_lines}

pub valid_fits : (c : Config) → IsValid c → ConfigFits c
valid_fits c h = record {
  arenas = omega (arith, h);
  class_region = omega (arith, h);
  large_space = omega (arith, h);
  guard_interval = omega (arith, h);
  array_base = omega (arith, h);
  ring_base = omega (arith, h);
  park_length = omega (arith, h);
}

config_back : (c : Config) → ConfigFits c → config_at (config_words c) ≡ c
unfolding config_at
config_back c h = λ i. record {
  arenas = number32_back c.arenas h.arenas i;
  class_region = number_back c.class_region h.class_region i;
  large_space = number_back c.large_space h.large_space i;
  guard_interval = number32_back c.guard_interval h.guard_interval i;
  array_base = number32_back c.array_base h.array_base i;
  ring_base = number32_back c.ring_base h.ring_base i;
  park_length = number32_back c.park_length h.park_length i;
  check_reuse = flag_back c.check_reuse i;
  random_slots = flag_back c.random_slots i;
}

-- ---- no space and no line feed stands in a word
pub clean_config_line : (c : Config) → IsValid c → IsLine (config_words c)
clean_config_line c h = clean_config c (valid_fits c h)

pub clean_seed : (n : ℕ) → Fits64 n → IsLine (seed_line n)
clean_seed n h = (search rules, (clean_number n h, tt))

pub clean_closed : (n : ℕ) → Fits64 n → IsLine (closed_line n)
clean_closed n h = (search rules, (clean_number n h, tt))

pub clean_region : (r a n : ℕ) → Fits32 r → Fits64 a → Fits64 n → IsLine (region_line r a n)
clean_region r a n h g k = (search rules, (clean32 r h, (clean_number a g, (clean_number n k, tt))))

-- the first line of a text
pub first_line : (words : List (List ℕ)) (rest : List ℕ) → IsLine words
    → slice_split (λ b. eqb b 10) (line_text words ++ rest)
    ≡ join_with_byte 32 words ∷ slice_split (λ b. eqb b 10) rest
first_line [] rest h = absurd h
first_line (word ∷ words) rest h = first_of_lines word words rest h

-- ---- what a line says
-- the configuration that a line says
pub config_read : (c : Config) (line : List ℕ) → IsValid c → line ≡ line_text (config_words c)
    → config_at (words_at line) ≡ c
config_read c line h is =
    ap config_at (ap words_at is ∙ words_back (config_words c) (clean_config c (valid_fits c h))) ∙ config_back c (valid_fits c h)

-- the number that a line of two words says
pub number_read : (name : List ℕ) (n : ℕ) (line : List ℕ) → High 33 name → Fits64 n
    → line ≡ line_text (name ∷ decimal n ∷ []) → number_at (word_at (words_at line) 1) ≡ n
number_read name n line clean h is =
    ap (λ (l : List ℕ). number_at (word_at (words_at l) 1)) is
    ∙ ap (λ (ws : List (List ℕ)). number_at (word_at ws 1))
    (words_back (name ∷ decimal n ∷ []) (clean, (clean_number n h, tt)))
    ∙ number_back n h

-- the numbers that a region's line says
pub record ReadsRegion (line : List ℕ) (r a n : ℕ) : Type 0 where
  pub region : number32_at (word_at (words_at line) 1) ≡ r
  pub first : number_at (word_at (words_at line) 2) ≡ a
  pub count : number_at (word_at (words_at line) 3) ≡ n

pub region_read : (region first count : ℕ) (line : List ℕ) → Fits32 region → Fits64 first → Fits64 count
    → line ≡ line_text (region_line region first count) → ReadsRegion line region first count
region_read region first count line a b c is =
    let words : words_at line ≡ region_line region first count =
    ap words_at is
    ∙ words_back (region_line region first count)
    (clean_region region first count a b c) in
    record {
      region = ap (λ (ws : List (List ℕ)). number32_at (word_at ws 1)) words ∙ number32_back region a;
      first = ap (λ (ws : List (List ℕ)). number_at (word_at ws 2)) words ∙ number_back first b;
      count = ap (λ (ws : List (List ℕ)). number_at (word_at ws 3)) words ∙ number_back count c;
    }

pub seed_read : (n : ℕ) (line : List ℕ) → Fits64 n → line ≡ line_text (seed_line n)
    → number_at (word_at (words_at line) 1) ≡ n
seed_read n line h is = number_read (codes "seed") n line (search rules) h is

pub closed_read : (n : ℕ) (line : List ℕ) → Fits64 n → line ≡ line_text (closed_line n)
    → number_at (word_at (words_at line) 1) ≡ n
closed_read n line h is = number_read (codes "closed") n line (search rules) h is

-- the line of a region that a line says
pub region_said : (r : RegionLine) (line : List ℕ) → Fits32 r.region.0 → Fits64 r.first → Fits64 r.entries
    → line ≡ line_text (region_line r.region.0 r.first r.entries) → region_at (words_at line) ≡ r
unfolding region_at
region_said r line a b c is =
    let read = region_read r.region.0 r.first r.entries line a b c is in
    λ i. record { region = record { 0 = read.region i }; first = read.first i; entries = read.count i }
