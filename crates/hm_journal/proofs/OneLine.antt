-- A line says one thing.
use Rattle.std.proofs.Common.{◌≡◌, ℕ, refl, sym, ◌∙◌, ap}
use Rattle.hm_sizes.specs.declared.config.Config.{Config}
use Rattle.hm_sizes.specs.Configs.{IsValid}
use Rattle.hm_model.specs.declared.entry.Entry.{Entry}
use Rattle.hm_journal.specs.Entries.{entry_words}
use Rattle.hm_journal.specs.Journals.{config_words}
use Rattle.hm_journal.specs.Lines.{closed_line, region_line, seed_line}
use Rattle.hm_model.specs.Typed.{EntryFits, Fits32, Fits64}
use Rattle.hm_journal.specs.Reading.{words_at}
use Rattle.hm_journal.specs.Words.{line_text}
use Rattle.hm_journal.proofs.EntryBack.{words_back}
use Rattle.hm_journal.proofs.LineBack.{closed_read, config_read, region_read, seed_read}
use Rattle.hm_journal.proofs.OneEntry.{clean_entry, same_entry}

pub entry_lines : (e f : Entry) → EntryFits e → EntryFits f → line_text (entry_words e) ≡ line_text (entry_words f) → e ≡ f
entry_lines e f h g is =
    same_entry e f h g
    (sym (words_back (entry_words e) (clean_entry e h)) ∙ ap words_at is ∙ words_back (entry_words f) (clean_entry f g))

pub config_lines : (c d : Config) → IsValid c → IsValid d → line_text (config_words c) ≡ line_text (config_words d)
    → c ≡ d
config_lines c d h g is =
    sym (config_read c (line_text (config_words c)) h refl) ∙ config_read d (line_text (config_words c)) g is

pub region_lines : (r q a b n m : ℕ) → Fits32 r → Fits32 q → Fits64 a → Fits64 b → Fits64 n → Fits64 m
    → line_text (region_line r a n) ≡ line_text (region_line q b m) → (r ≡ q) × (a ≡ b) × (n ≡ m)
region_lines r q a b n m hr hq ha hb hn hm is =
    let one = region_read r a n (line_text (region_line r a n)) hr ha hn refl in
    let other = region_read q b m (line_text (region_line r a n)) hq hb hm is in
    (sym one.region ∙ other.region, sym one.first ∙ other.first, sym one.count ∙ other.count)

pub seed_lines : (n m : ℕ) → Fits64 n → Fits64 m → line_text (seed_line n) ≡ line_text (seed_line m) → n ≡ m
seed_lines n m h g is =
    sym (seed_read n (line_text (seed_line n)) h refl)
    ∙ seed_read m (line_text (seed_line n)) g is

pub closed_lines : (n m : ℕ) → Fits64 n → Fits64 m → line_text (closed_line n) ≡ line_text (closed_line m) → n ≡ m
closed_lines n m h g is =
    sym (closed_read n (line_text (closed_line n)) h refl)
    ∙ closed_read m (line_text (closed_line n)) g is
