-- A line says one thing: what is read of it.
use Rattle.std.proofs.Common.{◌≡◌, ℕ, ◌<◌, ◌^◌, Bool, true, false, ltb, zero, suc, ◌==◌, List, drop, get_or, Option, Some, None, refl, sym, ◌∙◌, ap, codes, arith, rules, if◌then◌else◌}
use Rattle.std.proofs.lemmas.Bool.{ltb-true}
use Rattle.hm_sizes.specs.declared.config.Config.{Config}
use Rattle.hm_sizes.specs.Configs.{IsValid}
use Rattle.hm_model.specs.declared.entry.Call.{Call}
use Rattle.hm_model.specs.declared.entry.Call.TheVariants.{Measure}
use Rattle.hm_model.specs.declared.entry.Entry.{Entry}
use Rattle.hm_model.specs.declared.entry.Reply.{Reply}
use Rattle.hm_model.specs.declared.entry.Reply.TheVariants.{NotLive}
use Rattle.hm_journal.specs.Entries.{entry_words}
use Rattle.hm_journal.specs.Ranges.{EntryFits, Fits32}
use Rattle.hm_journal.specs.Reading.{answer_at, call_at, config_at, entry_of, number_at, reply_at, word_at, words_at}
use Rattle.hm_journal.specs.Words.{line_text}
use Rattle.hm_journal.proofs.EntryBack.{line_read}
use Rattle.hm_journal.proofs.LineBack.{config_read, number_read, region_read}
use Rattle.hm_check.specs.Readers.{Stage, AtHeader, AtConfig, AtSeed, AtRegion, AtEntry, Ended, Said, Header, Configured, Seeded, Region, Made, Closed, End, Reader, class_regions, region_at}
use Rattle.hm_check.specs.Verdicts.{Says}

or_call : Option Call → Call
or_call None = Measure 0
or_call (Some call) = call

or_reply : Option Reply → Reply
or_reply None = NotLive
or_reply (Some reply) = reply

abbrev entry_at : List (List ℕ) → Entry
entry_at words = entry_of words (or_call (call_at (drop 18 words))) (or_reply (reply_at (answer_at words)))

entry_is : (e : Entry) (line : List ℕ) → EntryFits e → line ≡ line_text (entry_words e) → entry_at (words_at line) ≡ e
unfolding or_call or_reply
entry_is e line h is =
    let read = line_read e line h is in
    (λ i. entry_of (words_at line) (or_call (read.call i)) (or_reply (read.reply i))) ∙ read.entry

-- a line that begins with e is the last one
abbrev region_by : List ℕ → Said
region_by line = if get_or line 0 0 == 101 then End
    else Region (number_at (word_at (words_at line) 2)) (number_at (word_at (words_at line) 3))

-- what is read of a line where this is to come
said_by : Stage → List ℕ → Said
said_by AtHeader line = Header
said_by AtConfig line = Configured (config_at (words_at line))
said_by AtSeed line = Seeded (number_at (word_at (words_at line) 1))
said_by AtRegion line = region_by line
said_by (AtEntry zero) line = Closed (number_at (word_at (words_at line) 1))
said_by (AtEntry (suc left)) line = Made (entry_at (words_at line))
said_by Ended line = End

small : (b : Bool) (index : ℕ) → (b ≡ true → index < 2 ^ 32) → Fits32 (if b then index else 196)
small true index h = h refl
small false index h = omega arith

pub region_fits : (c : Config) (index : ℕ) → IsValid c → Fits32 (region_at c index)
region_fits c index h =
    small (ltb index (class_regions c)) index (λ (t : ltb index (class_regions c) ≡ true). omega (arith, h, ltb-true _ _ t))

said_is : (r : Reader) (line : List ℕ) (said : Said) → IsValid r.config → Says r line said
    → said_by r.stage line ≡ said
unfolding said_by
said_is r line Header f h = ap (λ (s : Stage). said_by s line) h.stands
said_is r line (Configured c) f h =
    ap (λ (s : Stage). said_by s line) h.stands ∙ ap Configured (config_read c line h.fits h.is)
said_is r line (Seeded n) f h =
    ap (λ (s : Stage). said_by s line) h.stands ∙ ap Seeded (number_read (codes "seed") n line (search rules) h.fits h.is)
said_is r line (Region first count) f h =
    let read = region_read (region_at r.config r.regions) first count line (region_fits r.config r.regions f) h.fits.0 h.fits.1 h.is in
    ap (λ (s : Stage). said_by s line) h.stands.0
    ∙ ap (λ (b : ℕ). if b == 101 then End else Region (number_at (word_at (words_at line) 2)) (number_at (word_at (words_at line) 3)))
    (ap (λ (l : List ℕ). get_or l 0 0) h.is)
    ∙ (λ i. Region (read.first i) (read.count i))
said_is r line (Made e) f h =
    ap (λ (s : Stage). said_by s line) h.stands.1 ∙ ap Made (entry_is e line h.fits.0 h.is)
said_is r line (Closed n) f h =
    ap (λ (s : Stage). said_by s line) h.stands ∙ ap Closed (number_read (codes "closed") n line (search rules) h.fits h.is)
said_is r line End f h =
    ap (λ (s : Stage). said_by s line) h.stands.0
    ∙ ap (λ (b : ℕ). if b == 101 then End else Region (number_at (word_at (words_at line) 2)) (number_at (word_at (words_at line) 3)))
    (ap (λ (l : List ℕ). get_or l 0 0) h.is)

-- a line says one thing at most
pub one_said : (r : Reader) (line : List ℕ) (one other : Said) → IsValid r.config → Says r line one → Says r line other
    → one ≡ other
one_said r line one other valid h g = sym (said_is r line one valid h) ∙ said_is r line other valid g
