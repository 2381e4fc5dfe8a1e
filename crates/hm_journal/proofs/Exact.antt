-- The text of a journal determines its configuration, its seed and its histories.
use Rattle.std.proofs.Common.{◌≡◌, ℕ, List, [], ◌∷◌, ◌++◌, map, length, drop, get_or, codes, refl, sym, ◌∙◌, ap, append_assoc, arith, rules}
use Rattle.std.specs.Fmt.{decimal}
use Rattle.std.specs.List.{AllByRecursion as Each}
use Rattle.std.proofs.lemmas.List.Elements.{recursion_from_All as each}
use Rattle.hm_sizes.specs.declared.config.Config.{Config}
use Rattle.hm_model.specs.declared.entry.Entry.{Entry}
use Rattle.hm_heap.specs.declared.close.History.{History}
use Rattle.hm_journal.specs.Entries.{entry_words}
use Rattle.hm_journal.specs.Journals.{closed_words, config_words, histories_lines, history_lines, journal_lines, journal_text, region_words}
use Rattle.hm_model.specs.Typed.{EntryFits, Fits64}
use Rattle.hm_journal.specs.Ranges.{ConfigFits, HistoryFits, JournalFits}
use Rattle.hm_journal.proofs.Each.{each_append}
use Rattle.hm_journal.proofs.Numbers.{clean_flag, clean_number, first_digit, flag_is, flag_of, number, number_is}
use Rattle.hm_journal.proofs.OneEntry.{clean32, clean_entry, is32, same_entry}
use Rattle.hm_journal.proofs.Splits.{High, IsLine, same_lines}

-- a line's words
abbrev Line : Type 0
Line = List (List ℕ)

-- the number that a line has at an index
abbrev number_at : ℕ → Line → ℕ
number_at i line = number (get_or line i [])

-- the first byte of the first line
abbrev first_byte : List Line → ℕ
first_byte lines = get_or (get_or (get_or lines 0 []) 0 []) 0 0

-- ---- configurations
abbrev config_of : Line → Config
config_of ws = record {
  arenas = number_at 1 ws;
  class_region = number_at 2 ws;
  large_space = number_at 3 ws;
  guard_interval = number_at 4 ws;
  array_base = number_at 5 ws;
  ring_base = number_at 6 ws;
  park_length = number_at 7 ws;
  check_reuse = flag_of (get_or ws 8 []);
  random_slots = flag_of (get_or ws 9 []);
}

config_is : (c : Config) → ConfigFits c → config_of (config_words c) ≡ c
config_is c h = λ i. record {
  arenas = is32 c.arenas h.arenas i;
  class_region = number_is c.class_region h.class_region i;
  large_space = number_is c.large_space h.large_space i;
  guard_interval = is32 c.guard_interval h.guard_interval i;
  array_base = is32 c.array_base h.array_base i;
  ring_base = is32 c.ring_base h.ring_base i;
  park_length = is32 c.park_length h.park_length i;
  check_reuse = flag_is c.check_reuse i;
  random_slots = flag_is c.random_slots i;
}

pub clean_config : (c : Config) → ConfigFits c → Each (High 33) (config_words c)
clean_config c h = (
  search rules,
  (
    clean32 c.arenas h.arenas,
    (
      clean_number c.class_region h.class_region,
      (
        clean_number c.large_space h.large_space,
        (
          clean32 c.guard_interval h.guard_interval,
          (
            clean32 c.array_base h.array_base,
            (
              clean32 c.ring_base h.ring_base,
              (clean32 c.park_length h.park_length, (clean_flag c.check_reuse, (clean_flag c.random_slots, tt))),
            ),
          ),
        ),
      ),
    ),
  ),
)

-- ---- entries, up to the line that closes their region
abbrev closing : ℕ → Line
closing faults = codes "closed" ∷ decimal faults ∷ []

record AreSame (es fs : List Entry) (a b : ℕ) (rest more : List Line) : Type 0 where
  entries : es ≡ fs
  faults : a ≡ b
  after : rest ≡ more

no_entry : (n : ℕ) → Fits64 n → 99 ≡ get_or (decimal n) 0 0 → ⊥
no_entry n h e = omega (arith, first_digit n h, e)

same_entries : (es fs : List Entry) (a b : ℕ) (rest more : List Line) → Each EntryFits es → Each EntryFits fs
    → Fits64 a → Fits64 b
    → map entry_words es ++ closing a ∷ rest ≡ map entry_words fs ++ closing b ∷ more → AreSame es fs a b rest more
same_entries [] [] a b rest more h g ha hb e = record {
  entries = refl;
  faults = sym (number_is a ha) ∙ ap (λ (ls : List Line). number_at 1 (get_or ls 0 [])) e ∙ number_is b hb;
  after = ap (drop 1) e;
}
same_entries [] (f ∷ fs) a b rest more h g ha hb e =
    absurd (no_entry f.who.caller (omega (arith, g.0.who.0)) (ap first_byte e))
same_entries (x ∷ es) [] a b rest more h g ha hb e =
    absurd (no_entry x.who.caller (omega (arith, h.0.who.0)) (sym (ap first_byte e)))
same_entries (x ∷ es) (f ∷ fs) a b rest more h g ha hb e =
    let first : x ≡ f = same_entry x f h.0 g.0 (ap (λ (ls : List Line). get_or ls 0 []) e) in
    let others = same_entries es fs a b rest more h.1 g.1 ha hb (ap (drop 1) e) in
    record { entries = λ i. first i ∷ others.entries i; faults = others.faults; after = others.after }

-- ---- histories, up to the last line
abbrev ending : List Line
ending = (codes "end" ∷ []) ∷ []

unrolled_at : (region : Line) (entries : List Line) (closed : Line) (rest last : List Line)
    → ((region ∷ entries ++ closed ∷ []) ++ rest) ++ last ≡ region ∷ (entries ++ closed ∷ (rest ++ last))
unrolled_at region entries closed rest last = simp append_assoc

unrolled : (h : History) (hs : List History)
    → histories_lines (h ∷ hs) ++ ending
    ≡ region_words h ∷ (map entry_words h.entries ++ closing h.faults ∷ (histories_lines hs ++ ending))
unrolled h hs = unrolled_at (region_words h) (map entry_words h.entries) (closing h.faults) (histories_lines hs) ending

same_histories : (hs ks : List History) → Each HistoryFits hs → Each HistoryFits ks
    → histories_lines hs ++ ending ≡ histories_lines ks ++ ending → hs ≡ ks
same_histories [] [] f g e = refl
same_histories [] (k ∷ ks) f g e = let is : 101 ≡ 114 = ap first_byte e in absurd (omega (arith, is))
same_histories (h ∷ hs) [] f g e = let is : 114 ≡ 101 = ap first_byte e in absurd (omega (arith, is))
same_histories (h ∷ hs) (k ∷ ks) f g e =
    let lines = sym (unrolled h hs) ∙ e ∙ unrolled k ks in
    let line : region_words h ≡ region_words k = ap (λ (ls : List Line). get_or ls 0 []) lines in
    let region : h.region.0 ≡ k.region.0 =
    sym (is32 h.region.0 f.0.region) ∙ ap (number_at 1) line ∙ is32 k.region.0 g.0.region in
    let first : h.first ≡ k.first =
    sym (number_is h.first f.0.first) ∙ ap (number_at 2) line ∙ number_is k.first g.0.first in
    let inner =
    same_entries h.entries k.entries h.faults k.faults (histories_lines hs ++ ending) (histories_lines ks ++ ending)
    (each EntryFits h.entries f.0.entries) (each EntryFits k.entries g.0.entries) f.0.faults g.0.faults
    (ap (drop 1) lines) in
    let others : hs ≡ ks = same_histories hs ks f.1 g.1 inner.after in
    λ i. record
    { region = record { 0 = region i }; first = first i; entries = inner.entries i; faults = inner.faults i } ∷
    others i

-- ---- no space and no line feed
clean_lines : (es : List Entry) → Each EntryFits es → Each IsLine (map entry_words es)
clean_lines [] h = tt
clean_lines (e ∷ es) h = (clean_entry e h.0, clean_lines es h.1)

clean_history : (h : History) → HistoryFits h → Each IsLine (history_lines h)
clean_history h f = (
  (
    search rules,
    (clean32 h.region.0 f.region, (clean_number h.first f.first, (clean_number (length h.entries) f.count, tt))),
  ),
  each_append IsLine (map entry_words h.entries) (closed_words h ∷ [])
      (clean_lines h.entries (each EntryFits h.entries f.entries))
      ((search rules, (clean_number h.faults f.faults, tt)), tt),
)

clean_histories : (hs : List History) → Each HistoryFits hs → Each IsLine (histories_lines hs)
clean_histories [] f = tt
clean_histories (h ∷ hs) f =
    each_append IsLine (history_lines h) (histories_lines hs) (clean_history h f.0) (clean_histories hs f.1)

clean_journal : (c : Config) (n : ℕ) (hs : List History) → JournalFits c n hs → Each IsLine (journal_lines c n hs)
clean_journal c n hs f = (
  search rules,
  (
    clean_config c f.config,
    (
      (search rules, (clean_number n f.seed, tt)),
      each_append IsLine (histories_lines hs) ending (clean_histories hs (each HistoryFits hs f.histories))
          (search rules),
    ),
  ),
)

pub one_journal : (c d : Config) (n m : ℕ) (hs ks : List History) → JournalFits c n hs → JournalFits d m ks
    → journal_text c n hs ≡ journal_text d m ks → (c ≡ d) × (n ≡ m) × (hs ≡ ks)
one_journal c d n m hs ks f g e =
    let lines : journal_lines c n hs ≡ journal_lines d m ks =
    same_lines (journal_lines c n hs) (journal_lines d m ks) (clean_journal c n hs f) (clean_journal d m ks g) e in (
      sym (config_is c f.config) ∙ ap (λ (ls : List Line). config_of (get_or ls 1 [])) lines ∙ config_is d g.config,
      sym (number_is n f.seed) ∙ ap (λ (ls : List Line). number_at 1 (get_or ls 2 [])) lines ∙ number_is m g.seed,
      same_histories hs ks (each HistoryFits hs f.histories) (each HistoryFits ks g.histories) (ap (drop 3) lines),
    )
